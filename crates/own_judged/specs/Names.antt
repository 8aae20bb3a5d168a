-- What a name names at a place in a body, and what else is known there.
use Rattle.std.specs.Prelude.{ℕ, suc, Bool, true, false, if◌then◌else◌, List, [], ◌∷◌, ◌++◌, Option, Some, None, codes}
use Rattle.std.specs.Str.{bytes_eq}
use Rattle.own_tree.specs.declared.place.Mode.{Mode}
use Rattle.own_tree.specs.declared.place.Ty.{Ty}
use Rattle.own_tree.specs.declared.place.Ty.TheVariants as type
use Rattle.own_tree.specs.declared.tree.Name.{Name}
use Rattle.own_shapes.specs.declared.info.FieldInfo.{FieldInfo}
use Rattle.own_shapes.specs.declared.info.CaseInfo.{CaseInfo}
use Rattle.own_judged.specs.Text.{Text, Callable, Method}

-- a name of a body, with its binding
pub record Local : Type 0 where
  pub name : List ℕ
  pub binding : ℕ
  pub ty : Ty

abbrev pub local_of : Name → (binding : ℕ) → Ty → List Local
local_of n x ty = record { name = n.text; binding = x; ty = ty } ∷ []

-- `self`, and how the body has it
pub record Self : Type 0 where
  pub binding : ℕ
  pub ty : Ty
  pub mode : Mode

-- what is known at a place
pub record Scope : Type 0 where
  -- the number of the body
  pub body : ℕ
  -- the names in scope, in order of declaration; the last of a name hides the others
  pub locals : List Local
  -- that of the body, or in a closure of the body it stands in
  pub self : Option Self
  -- the type whose member that body is
  pub owner : Option ℕ
  pub in_closure : Bool
  -- the result of the body
  pub result : Ty
  pub in_loop : Bool
  pub in_switch : Bool
  -- whether `discard self` may stand here
  pub may_discard : Bool

abbrev pub with_locals : Scope → List Local → Scope
with_locals scope ls = record scope { locals = scope.locals ++ ls }

abbrev pub inside_loop : Scope → Scope
inside_loop scope = record scope { in_loop = true }

abbrev pub inside_switch : Scope → Scope
inside_switch scope = record scope { in_switch = true }

-- a closure sees what is seen at its place; a jump or a `return` in it is its own
abbrev pub inside_closure : Scope → (body : ℕ) → (result : Ty) → List Local → Scope
inside_closure scope k result ls = record scope {
  body = k;
  locals = scope.locals ++ ls;
  in_closure = true;
  result = result;
  in_loop = false;
  in_switch = false;
  may_discard = false;
}

-- ---- look-ups

-- a stored property of that name, of those from number k on, with its number
abbrev pub property_from : ℕ → List FieldInfo → List ℕ → Option (ℕ × FieldInfo)
property_from k [] name = None
property_from k (f ∷ fs) name = if bytes_eq f.name name then Some (k, f) else property_from (suc k) fs name

abbrev pub case_from : ℕ → List CaseInfo → List ℕ → Option (ℕ × CaseInfo)
case_from k [] name = None
case_from k (c ∷ cs) name = if bytes_eq c.name name then Some (k, c) else case_from (suc k) cs name

-- the last local of that name, of those and the one that was found before them
abbrev pub local_from : Option Local → List Local → List ℕ → Option Local
local_from found [] name = found
local_from found (l ∷ ls) name = local_from (if bytes_eq l.name name then Some l else found) ls name

abbrev pub local_in : List Local → List ℕ → Option Local
local_in ls name = local_from None ls name

-- what a name stands for
pub data Seen : Type 0 where
  a_local : Local → Seen
  -- of the enclosing type, as if `self.` stood before it
  a_property : ℕ → FieldInfo → Seen
  a_method : Method → Seen
  a_function : Callable → Seen
  the_print : Seen
  the_read_int : Seen
  a_type : ℕ → Seen

-- the first of two
abbrev pub or_else : {A : Type 0} → Option A → Option A → Option A
or_else (Some x) other = Some x
or_else None other = other

abbrev pub on_found : {A B : Type 0} → (A → B) → Option A → Option B
on_found f None = None
on_found f (Some x) = Some (f x)

abbrev pub built_in : List ℕ → Option Seen
built_in name =
    if bytes_eq name (codes "print") then Some the_print
    else if bytes_eq name (codes "readInt") then Some the_read_int
    else None

module _ (text : Text) where
  abbrev pub property : Ty → List ℕ → Option (ℕ × FieldInfo)
  property ty name = property_from 0 (text.types.properties ty) name

  abbrev pub case_of_type : Ty → List ℕ → Option (ℕ × CaseInfo)
  case_of_type ty name = case_from 0 (text.types.cases ty) name

  abbrev pub method_of : Ty → List ℕ → Option Method
  method_of (type.Named t) name = text.method t name
  method_of type.Int name = None
  method_of type.Bool name = None
  method_of type.Unit name = None
  method_of (type.Fun k) name = None

  abbrev pub of_owner : Option ℕ → List ℕ → Option Seen
  of_owner None name = None
  of_owner (Some t) name =
      or_else
      (on_found (λ p. a_property p.0 p.1) (property (type.Named t) name))
      (on_found a_method (text.method t name))

  -- the innermost binding, then a stored property or a method of the enclosing type, then what stands at the top
  abbrev pub seen : Scope → List ℕ → Option Seen
  seen scope name =
      or_else (on_found a_local (local_in scope.locals name))
      (or_else (of_owner scope.owner name)
      (or_else (on_found a_function (text.function name))
      (or_else (built_in name) (on_found a_type (text.declared name)))))
