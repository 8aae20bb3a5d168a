use Rattle.std.proofs.Common.{◌≡◌, ◌++◌, drop, map}
use Rattle.core_form.specs.CoreView.{function_view}
use Rattle.core_form.specs.Sizes.{FunctionsFit}
use Rattle.low_laws.specs.Lower.{function_entry}
use Rattle.low_body.proofs.module.codes.Given as goal

abbrev pub invariant-loop-function : goal.invariant-loop-function
invariant-loop-function l =
    (l.codes.items ++ map function_entry (map function_view (drop l.function-index l.functions)) ≡ map function_entry (map function_view l.functions))
    × FunctionsFit (map function_view (drop l.function-index l.functions))
