use Rattle.std.proofs.Common.{[], ◌∷◌, ◌++◌, ap, ◌∙◌, subst, arith}
use Rattle.std.specs.Prelude.{Contains}
use Rattle.own_flow.proofs.TableLaws.{not_in_none}
use Rattle.own_rules.specs.Bodies.{makers_of}
use Rattle.own_rules.proofs.ByLeaf.{no_maker_push}
use Rattle.own_rules.proofs.by_leaf.empty_lists.Goals as goal

pub loop-init : goal.loop-init
loop-init c = record {
  len = c.new-lists.ensures.len;
  none = λ u p h. not_in_none p (subst (λ ls. Contains (makers_of ls u) p) c.new-lists.ensures.items h);
}

pub loop-preserved : goal.loop-preserved
loop-preserved c =
    let items = c.in_ok-push.ensures.items ∙ ap (λ l. c.loop.lists.items ++ l ∷ []) c.new.ensures in
    record {
      len = omega (arith, c.in_ok-push.ensures.len, c.loop.invariant.len);
      none = λ u p h. no_maker_push c.loop.lists.items c.loop.invariant.none u p (subst (λ ls. Contains (makers_of ls u) p) items h);
    }

pub returns-clause-len : goal.returns-clause-len
returns-clause-len c = omega (arith, c.loop.invariant.len, c.loop-test.false, c.loop.auto.counter-end)

pub returns-clause-none : goal.returns-clause-none
returns-clause-none c = c.loop.invariant.none
