-- What the declarations of a text say to its bodies, as the rules see it.
use Rattle.std.specs.Prelude.{map}
use Rattle.std.specs.Borrow.{Bor}
use Rattle.own_table.specs.Table.{types_in}
use Rattle.own_judged.specs.Text as text
use Rattle.own_judged.specs.Text.{Text, text_with, for_function, for_method, for_initializer}
use Rattle.own_scope.specs.declared.callable.Callable.{Callable}
use Rattle.own_scope.specs.declared.callable.Method.{Method}
use Rattle.own_scope.specs.declared.callable.Entry.{Entry}
use Rattle.own_scope.specs.declared.callable.Entry.TheVariants as entry
use Rattle.own_scope.specs.declared.known.Known.{Known}
use Rattle.own_scope.specs.TypeNames.{number_in, written_in}

abbrev pub callable_of : Callable → text.Callable
callable_of c = record { body = c.body; params = c.params; result = c.result }

abbrev pub method_view : Method → text.Method
method_view m = record { mode = m.mode; callable = callable_of m.callable }

abbrev pub entry_of : Entry → text.Entry
entry_of (entry.Function name c) = for_function name (callable_of c)
entry_of (entry.Method t name m) = for_method t name (method_view m)
entry_of (entry.Initializer t c) = for_initializer t (callable_of c)

-- what is borrowed
abbrev pub callable_held : Bor Callable → text.Callable
callable_held c = callable_of c.now

abbrev pub method_held : Bor Method → text.Method
method_held m = method_view m.now

abbrev pub text_in : Known → Text
text_in k =
    text_with (types_in k.table.now) (written_in k.types.names.items) (number_in 0 k.types.names.items) k.signatures
    (map entry_of k.entries.items)
