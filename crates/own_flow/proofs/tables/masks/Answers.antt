use Rattle.std.proofs.Common.{◌≡◌, false, ◌<◌, ◌⊎◌, [], length, get_or, ap, ◌∙◌, subst, arith}
use Rattle.std.proofs.lemmas.List.{length-set}
use Rattle.std.proofs.lemmas.Option.{slice_get-get_or}
use Rattle.std.specs.Prelude.{◌↔◌}
use Rattle.own_tree.specs.declared.graph.Maker.{Maker}
use Rattle.own_flow.specs.Words.{Has}
use Rattle.own_flow.proofs.FlowLaws.{any_default}
use Rattle.own_flow.proofs.TableLaws.{mask_step, all_set, of_all, by_both}
use Rattle.own_flow.proofs.tables.masks.Goals as goal

abbrev nobody : Maker
nobody = record { node = 0; leaf = 0; live = false }

pub pairs-init : goal.pairs-init
pairs-init c = record {
  len = c.in_ok-masks.ensures.len;
  long = c.in_ok-masks.ensures.long;
  has = λ leaf m. (λ h. absurd (c.in_ok-masks.ensures.none leaf m h), λ h. absurd (omega (arith, h.1)));
}

pub index_mut-requires : goal.index_mut-requires
index_mut-requires c =
    let low = c.requires.of_leaves c.pairs.maker nobody c.pairs-test.true in omega (arith, low, c.pairs.invariant.len)

pub insert-requires : goal.insert-requires
insert-requires c =
    let leaf = (get_or c.args.pairs.now c.pairs.maker nobody).leaf in
    let low = c.requires.of_leaves c.pairs.maker nobody c.pairs-test.true in
    let long = ap length c.index_mut.ensures.value ∙ c.pairs.invariant.long leaf c.index_mut.result.now (omega (arith, low, c.pairs.invariant.len)) in
    omega (arith, long, c.requires.words, c.pairs-test.true)

pub pairs-preserved : goal.pairs-preserved
pairs-preserved c =
    let pairs = c.args.pairs.now in let k = c.pairs.maker in let pair = get_or pairs k nobody in let masks = c.pairs.masks.items in
    let low : pair.leaf < length masks = let n = c.requires.of_leaves k nobody c.pairs-test.true in omega (arith, n, c.pairs.invariant.len) in
    let read = c.index_mut.ensures.value ∙ any_default masks pair.leaf c.index_mut.result.now [] low in
    let long = ap length c.index_mut.ensures.value ∙ c.pairs.invariant.long pair.leaf c.index_mut.result.now low in
    record {
      len = c.pairs.invariant.len;
      long = all_set (λ mask. length mask ≡ c.args.words) masks pair.leaf c.insert.new.self c.pairs.invariant.long (c.insert.ensures.len ∙ long) low (length-set masks pair.leaf c.insert.new.self);
      has = mask_step pairs k pair (slice_get-get_or pairs k nobody c.pairs-test.true) masks c.insert.new.self low
          (λ i. subst (λ l. Has c.insert.new.self i ↔ (Has l i ⊎ (i ≡ k))) read (c.insert.ensures.has i)) c.pairs.invariant.has;
    }

pub returns-clause-len : goal.returns-clause-len
returns-clause-len c = c.pairs.invariant.len

pub returns-clause-long : goal.returns-clause-long
returns-clause-long c = c.pairs.invariant.long

pub returns-clause-has : goal.returns-clause-has
returns-clause-has c = λ leaf m. by_both (c.pairs.invariant.has leaf m) (of_all c.args.pairs.now c.pairs.maker m leaf c.pairs-test.false)
