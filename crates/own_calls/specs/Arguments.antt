-- When the arguments of a call agree with the parameters, and how each of them is passed.
use Rattle.std.specs.Prelude.{◌≡◌, ℕ, ◌==◌, Bool, true, false, ◌&&◌, ◌||◌, if◌then◌else◌, List, [], ◌∷◌, Option, is_none}
use Rattle.std.specs.Option.{option_eq}
use Rattle.std.specs.Str.{bytes_eq}
use Rattle.own_tree.specs.declared.place.Mode.{Mode}
use Rattle.own_tree.specs.declared.place.Mode.TheVariants as mode
use Rattle.own_tree.specs.declared.place.Ty.{Ty}
use Rattle.own_tree.specs.declared.place.Ty.TheVariants as type
use Rattle.own_tree.specs.declared.span.Span.{Span}
use Rattle.own_tree.specs.declared.typed.ArgInfo.{ArgInfo}
use Rattle.own_tree.specs.declared.typed.Form.{Form}
use Rattle.own_tree.specs.declared.typed.Form.TheVariants as form
use Rattle.own_tree.specs.declared.typed.ParamInfo.{ParamInfo}
use Rattle.own_tree.specs.declared.typed.Passing.{Passing}
use Rattle.own_tree.specs.declared.typed.Passing.TheVariants as passing
use Rattle.own_shapes.specs.Types.{Shape, copyable}
use Rattle.own_calls.specs.declared.error.TypeError.{TypeError}
use Rattle.own_calls.specs.declared.error.TypeError.TheVariants as type_error

abbrev pub is_inout : Mode → Bool
is_inout mode.Inout = true
is_inout _ = false

abbrev pub is_borrowing : Mode → Bool
is_borrowing mode.Borrowing = true
is_borrowing _ = false

abbrev pub is_function : Ty → Bool
is_function (type.Fun k) = true
is_function _ = false

abbrev pub same_type : Ty → Ty → Bool
same_type type.Int type.Int = true
same_type type.Bool type.Bool = true
same_type type.Unit type.Unit = true
same_type (type.Named k) (type.Named n) = k == n
same_type (type.Fun k) (type.Fun n) = k == n
same_type _ _ = false

-- ---- agreement

abbrev pub is_closure : Form → Bool
is_closure form.Closure = true
is_closure _ = false

-- none on both sides, or the same bytes
abbrev pub same_label : Option (List ℕ) → Option (List ℕ) → Bool
same_label wanted given = option_eq bytes_eq wanted given

-- an `inout` parameter takes `&path`
abbrev pub by_address : Form → Bool
by_address form.Address = true
by_address _ = false

-- one of function type takes a closure, or the name of such a parameter
abbrev pub by_function : Form → Bool
by_function form.Closure = true
by_function form.Path = true
by_function _ = false

-- and any other one a value
abbrev pub by_value : Form → Bool
by_value form.Value = true
by_value form.Path = true
by_value _ = false

-- how an argument for that parameter may be written
abbrev pub takes : ParamInfo → Form → Bool
takes p f = if is_inout p.mode then by_address f else if is_function p.ty then by_function f else by_value f

-- the first of these arguments is a trailing closure of a call that ends there (SE-0279): none follows it,
-- it has no label, and it ends with the call
abbrev pub is_trailing : ℕ → List ArgInfo → Bool
is_trailing end [] = false
is_trailing end (a ∷ []) = is_closure a.form && is_none a.label && (a.at.end == end)
is_trailing end (a ∷ next ∷ later) = false

-- an argument agrees with its parameter; a trailing closure does with any label
abbrev pub agrees : Bool → ParamInfo → ArgInfo → Bool
agrees trailing p a = (trailing || same_label p.label a.label) && takes p a.form && same_type p.ty a.ty

-- as many arguments as parameters, each of which agrees, in a call that ends there
abbrev pub arguments_agree : ℕ → List ParamInfo → List ArgInfo → Bool
arguments_agree end [] [] = true
arguments_agree end [] (a ∷ rest) = false
arguments_agree end (p ∷ ps) [] = false
arguments_agree end (p ∷ ps) (a ∷ rest) = agrees (is_trailing end (a ∷ rest)) p a && arguments_agree end ps rest

-- ---- passing (SE-0377)

-- A copyable value is passed by value, whatever the modifier; one that is not is lent to a `borrowing` parameter, and
-- consumed by any other, as by a payload or a property, which have no modifier.
abbrev pub passing_of : (Ty → Shape) → ParamInfo → Passing
passing_of shape p =
    if is_inout p.mode then passing.Inout
    else if is_function p.ty then passing.Closure
    else if copyable (shape p.ty) then passing.ByValue
    else if is_borrowing p.mode then passing.Borrow
    else passing.Consume

-- ---- refusals

-- T13 at the call, of arguments that do not agree; memory may be refused of any
abbrev pub IsRefusal : List ParamInfo → List ArgInfo → Span → TypeError → Type 0
IsRefusal ps arguments at (type_error.BadType code place) = (code ≡ 13) × (place ≡ at) × (arguments_agree at.end ps arguments ≡ false)
IsRefusal ps arguments at (type_error.Uncovered place missing) = ⊥
IsRefusal ps arguments at type_error.Memory = Unit {0}
