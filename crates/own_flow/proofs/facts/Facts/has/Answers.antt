use Rattle.std.proofs.Common.{◌≡◌, ◌<◌, ◌==◌, false, [], length, sym, ap, ◌∙◌, subst, arith}
use Rattle.std.specs.Prelude.{slice_index_or}
use Rattle.own_flow.specs.Facts.{facts_in}
use Rattle.own_flow.specs.Words.{bit_of}
use Rattle.own_flow.proofs.FlowLaws.{any_default}
use Rattle.own_flow.proofs.TableLaws.{fact_at, facts_length, facts_each}
use Rattle.own_flow.proofs.facts.Facts.has.Goals as goal

pub has-requires : goal.has-requires
has-requires c =
    let rows = c.self.inside.rows.items in let n = c.self.inside.makers in let u = c.args.node in
    let view : facts_in n rows ≡ c.args.self.now = c.self.view_is in
    let node : u < length (facts_in n rows) = subst (λ f. u < length f) (sym view) c.requires.node in
    let low : u < length rows = omega (arith, node, facts_length n rows) in
    let maker : c.args.maker < length (slice_index_or (facts_in n rows) u []) = subst (λ f. c.args.maker < length (slice_index_or f u [])) (sym view) c.requires.maker in
    let long = ap length (c.index.ensures ∙ any_default rows u c.index.result.now [] low) ∙ c.self.invariant.0.sized.each u low in
    omega (arith, long, maker, facts_each n rows u low)

pub returns : goal.returns
returns c =
    let rows = c.self.inside.rows.items in let n = c.self.inside.makers in let u = c.args.node in let m = c.args.maker in
    let view : facts_in n rows ≡ c.args.self.now = c.self.view_is in
    let node : u < length (facts_in n rows) = subst (λ f. u < length f) (sym view) c.requires.node in
    let low : u < length rows = omega (arith, node, facts_length n rows) in
    let maker : m < length (slice_index_or (facts_in n rows) u []) = subst (λ f. m < length (slice_index_or f u [])) (sym view) c.requires.maker in
    c.has.ensures ∙ ap (λ l. bit_of l m == 1) (c.index.ensures ∙ any_default rows u c.index.result.now [] low)
    ∙ sym (fact_at n rows u m low (omega (arith, maker, facts_each n rows u low))) ∙ ap (λ f. slice_index_or (slice_index_or f u []) m false) view
