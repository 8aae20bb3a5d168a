use Rattle.std.proofs.Common.{◌≡◌, length, take, get_or, sym, ap, ◌∙◌, subst, arith}
use Rattle.std.proofs.lemmas.List.{take_more, take_all}
use Rattle.std.specs.Prelude.{◌↔◌, ◌⊎◌}
use Rattle.own_flow.specs.declared.made.Made.{Made}
use Rattle.own_flow.specs.Words.{Has}
use Rattle.own_flow.specs.Flow.{IsKept, IsNew, Meet}
use Rattle.own_flow.proofs.FlowLaws.{new_more, at_index, mask_is}
use Rattle.own_flow.proofs.pass.pass.Goals as goal

abbrev none : Made
none = record { maker = 0; leaf = 0 }

pub bounds-masks-x : goal.bounds-masks-x
bounds-masks-x c = c.requires.fits.leaf (get_or c.args.made.now c.loop-x.x-index none) (at_index c.args.made.now c.loop-x.x-index none (omega arith))

pub put-requires-clause-long : goal.put-requires-clause-long
put-requires-clause-long c =
    let x : Made = get_or c.args.made.now c.loop-x.x-index none in
    let h = c.requires.fits.leaf x (at_index c.args.made.now c.loop-x.x-index none (omega arith)) in
    sym (ap length (mask_is c.args.masks.now x.leaf c.index-masks-x.result h c.index-masks-x.is) ∙ c.requires.fits.long x.leaf h)

pub loop-x-preserved : goal.loop-x-preserved
loop-x-preserved c =
    let x : Made = get_or c.args.made.now c.loop-x.x-index none in
    let h = c.requires.fits.leaf x (at_index c.args.made.now c.loop-x.x-index none (omega arith)) in
    let mask = mask_is c.args.masks.now x.leaf c.index-masks-x.result h c.index-masks-x.is in
    let more = take_more c.args.made.now c.loop-x.x-index none (omega arith) in
    record {
      len = c.put.ensures.len ∙ c.loop-x.invariant.len;
      has = λ m. subst (λ l. Has c.put.new.out m ↔ (IsKept c.args.row.now c.args.made.now c.args.masks.now m ⊎ IsNew c.args.row.now l c.args.masks.now m)) (sym more)
          (new_more c.args.row.now c.args.masks.now c.args.made.now (take c.loop-x.x-index c.args.made.now) x c.loop-x.out c.put.new.out c.loop-x.invariant.has
          (λ i. subst (λ l. Has c.put.new.out i ↔ (Has c.loop-x.out i ⊎ ((i ≡ x.maker) × Meet c.args.row.now l))) mask (c.put.ensures.has i)) m);
    }

pub returns-clause-behind : goal.returns-clause-behind
returns-clause-behind c = λ m.
    subst (λ l. Has c.loop-x.out m ↔ (IsKept c.args.row.now c.args.made.now c.args.masks.now m ⊎ IsNew c.args.row.now l c.args.masks.now m)) (take_all c.loop-x.x-index c.args.made.now (omega arith)) (c.loop-x.invariant.has m)
