use Rattle.std.proofs.Common.{◌≡◌, ◌<◌, ◌⊎◌, inl, inr, [], length, ap, ◌∙◌, subst, arith}
use Rattle.std.proofs.lemmas.Bool.{cases_eq}
use Rattle.std.proofs.lemmas.List.{length-set}
use Rattle.std.specs.Prelude.{◌↔◌}
use Rattle.own_flow.specs.Words.{Has}
use Rattle.own_flow.proofs.FlowLaws.{any_default}
use Rattle.own_flow.proofs.TableLaws.{has_set, all_set}
use Rattle.own_flow.proofs.tables.first_rows.Goals as goal

pub leaves-init : goal.leaves-init
leaves-init c = record {
  len = c.in_ok-rows.ensures.len;
  long = c.in_ok-rows.ensures.long;
  has = λ u m. (λ h. absurd (c.in_ok-rows.ensures.none u m h), λ h. absurd (omega (arith, h.1)));
}

pub insert-requires : goal.insert-requires
insert-requires c =
    let low : c.args.entry < length c.leaves.rows.items = omega (arith, c.requires.within, c.leaves.invariant.len) in
    let long = ap length c.index_mut.ensures.value ∙ c.leaves.invariant.long c.args.entry c.index_mut.result.now low in
    omega (arith, long, c.requires.words, c.leaves-test.true)

pub leaves-preserved : goal.leaves-preserved
leaves-preserved c =
    let rows = c.leaves.rows.items in let entry = c.args.entry in let k = c.leaves.leaf in let row = c.insert.new.self in
    let low : entry < length rows = omega (arith, c.requires.within, c.leaves.invariant.len) in
    let read = c.index_mut.ensures.value ∙ any_default rows entry c.index_mut.result.now [] low in
    let long = ap length c.index_mut.ensures.value ∙ c.leaves.invariant.long entry c.index_mut.result.now low in
    let one = has_set rows entry k row low (λ i. subst (λ l. Has row i ↔ (Has l i ⊎ (i ≡ k))) read (c.insert.ensures.has i)) in
    record {
      len = c.leaves.invariant.len;
      long = all_set (λ r. length r ≡ c.args.words) rows entry row c.leaves.invariant.long (c.insert.ensures.len ∙ long) low (length-set rows entry row);
      has = λ u m. (
        λ h. elim ((one u m).0 h) [
          | inl old ↦ let i = (c.leaves.invariant.has u m).0 old in (i.0, omega (arith, i.1))
          | inr new ↦ (new.0, omega (arith, new.1))
        ],
        λ h. elim (cases_eq m k) [
          | inl e ↦ (one u m).1 (inr (h.0, e))
          | inr other ↦ (one u m).1 (inl ((c.leaves.invariant.has u m).1 (h.0, omega (arith, h.1, other))))
        ],
      );
    }

pub returns-clause-long : goal.returns-clause-long
returns-clause-long c = c.leaves.invariant.long

pub returns-clause-has : goal.returns-clause-has
returns-clause-has c = λ u m. (
  λ h. let i = (c.leaves.invariant.has u m).0 h in (i.0, omega (arith, i.1, c.leaves.auto.leaf-end)),
  λ h. (c.leaves.invariant.has u m).1 (h.0, omega (arith, h.1, c.leaves-test.false)),
)
