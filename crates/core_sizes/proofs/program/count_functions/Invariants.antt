use Rattle.std.proofs.Common.{◌≡◌, ◌+◌, drop, map}
use Rattle.core_form.specs.CoreView.{function_view}
use Rattle.core_form.specs.Sizes.{AreLow, FunctionsFit, all_bytes}
use Rattle.core_sizes.proofs.program.count_functions.Given as goal

-- what holds of all functions as soon as it holds of those that are left
abbrev pub invariant-loop-function : goal.invariant-loop-function
invariant-loop-function l =
    let all = map function_view l.functions in
    let rest = map function_view (drop l.function-index l.functions) in
    (FunctionsFit rest → FunctionsFit all)
    × (AreLow rest → AreLow all)
    × (l.left + all_bytes all ≡ l.fn.left + all_bytes rest)
