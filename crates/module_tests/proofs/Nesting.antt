-- How deep labels nest in a list, one instruction after another.
use Rattle.std.proofs.Common.{◌≡◌, ℕ, ◌+◌, ◌≤◌, ◌<◌, max, List, [], ◌∷◌, ◌++◌, length, take, get_or, ap, ◌∙◌, arith}
use Rattle.std.proofs.lemmas.List.{take_more, take_all}
use Rattle.wasm_form.specs.declared.instr.Instr.{Instr, out-Instr}
use Rattle.wasm_form.specs.Within.{nest, nest_one}
use Rattle.wasm_form.proofs.Nests.{nest_of, nest_is}

nest-append : (is : List Instr) (i : Instr) → nest (is ++ i ∷ []) ≡ max (nest is) (nest_one i)
nest-append [] i = omega arith
nest-append (x ∷ is) i = omega (arith, nest-append is i)

pub nest_more : (is : List Instr) (k most : ℕ) (d : Instr) → k < length is → nest (take k is) ≤ most → nest_of (out-Instr (get_or is k d)) ≤ most → nest (take (k + 1) is) ≤ most
nest_more is k most d lt before here =
    let e = ap nest (take_more is k d lt) ∙ nest-append (take k is) (get_or is k d) in
    let n = nest_is (get_or is k d) in
    omega (arith, e, n, before, here)

pub nest_all : (is : List Instr) (k most : ℕ) → length is ≤ k → nest (take k is) ≤ most → nest is ≤ most
nest_all is k most le h = let e = ap nest (take_all k is le) in omega (arith, e, h)
