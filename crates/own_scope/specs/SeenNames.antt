-- What names stand for, as the rules see it.
use Rattle.std.specs.Prelude.{ℕ, List, Option}
use Rattle.own_judged.specs.Names as rule
use Rattle.own_judged.specs.Names.{a_local, a_property, a_method, a_function, the_print, the_read_int, a_type, built_in, on_found, or_else}
use Rattle.own_judged.specs.Text.{Text}
use Rattle.own_scope.specs.declared.seen.Seen.{Seen}
use Rattle.own_scope.specs.declared.seen.Seen.TheVariants as seen
use Rattle.own_scope.specs.Locals.{local_of}
use Rattle.own_scope.specs.Known.{callable_held, method_held}

abbrev pub seen_held : Seen → rule.Seen
seen_held (seen.Local l) = a_local (local_of l)
seen_held (seen.Property k f) = a_property k f.now
seen_held (seen.Method m) = a_method (method_held m)
seen_held (seen.Function c) = a_function (callable_held c)
seen_held seen.Print = the_print
seen_held seen.ReadInt = the_read_int
seen_held (seen.Type t) = a_type t

-- what stands at the top
abbrev pub top : Text → List ℕ → Option rule.Seen
top text name =
    or_else (on_found a_function (text.function name))
    (or_else (built_in name) (on_found a_type (text.declared name)))
