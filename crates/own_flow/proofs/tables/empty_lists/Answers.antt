use Rattle.std.proofs.Common.{[], ◌∷◌, ◌++◌, ap, ◌∙◌, subst, arith}
use Rattle.std.specs.Prelude.{Contains}
use Rattle.own_flow.specs.Flow.{made_at}
use Rattle.own_flow.proofs.TableLaws.{not_in_none, no_list_push}
use Rattle.own_flow.proofs.tables.empty_lists.Goals as goal

pub loop-init : goal.loop-init
loop-init c = record {
  len = c.new-lists.ensures.len;
  none = λ u x h. not_in_none x (subst (λ ls. Contains (made_at ls u) x) c.new-lists.ensures.items h);
}

pub loop-preserved : goal.loop-preserved
loop-preserved c =
    let items = c.in_ok-push.ensures.items ∙ ap (λ l. c.loop.lists.items ++ l ∷ []) c.new.ensures in
    record {
      len = omega (arith, c.in_ok-push.ensures.len, c.loop.invariant.len);
      none = λ u x h. no_list_push c.loop.lists.items c.loop.invariant.none u x (subst (λ ls. Contains (made_at ls u) x) items h);
    }

pub returns-clause-len : goal.returns-clause-len
returns-clause-len c = omega (arith, c.loop.invariant.len, c.loop-test.false, c.loop.auto.counter-end)

pub returns-clause-none : goal.returns-clause-none
returns-clause-none c = c.loop.invariant.none
