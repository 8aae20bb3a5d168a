use Rattle.std.proofs.Common.{◌≡◌, ◌+◌, ◌++◌, ◌∷◌, [], Some, Option, List, ℕ, length, take, get_or, set, map, ap, sym, ◌∙◌, arith}
use Rattle.std.proofs.lemmas.List.{take_more, map-append, length-map, length-take}
use Rattle.wasm_form.specs.Steps.{laid}
use Rattle.wasm_run.proofs.Laid.{laid_more}
use Rattle.wasm_run.proofs.state.start.lay_functions.Goals as goal

pub loop-k-preserved : goal.loop-k-preserved
loop-k-preserved c =
    let fs = c.args.functions.now in
    let k = c.loop-k.k in
    let lt = c.loop-k-test.true in
    let some : ℕ → Option ℕ = λ n. Some n in
    let x : Option ℕ = Some (get_or fs k 0) in
    let n : length (map some (take k fs)) ≡ k = length-map (take k fs) some ∙ omega (arith, length-take k fs) in
    let r = c.requires in
    let more : map some (take (k + 1) fs) ≡ map some (take k fs) ++ x ∷ [] = ap (map some) (take_more fs k 0 lt) ∙ map-append some (take k fs) (get_or fs k 0 ∷ []) in
    ap (λ (t : List (Option ℕ)). set t (c.args.at + k) x) c.loop-k.invariant
    ∙ laid_more c.args.at k (map some (take k fs)) c.args.table.now x n (omega arith)
    ∙ ap (λ (xs : List (Option ℕ)). laid c.args.at xs c.args.table.now) (sym more)
