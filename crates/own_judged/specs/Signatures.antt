-- What parameters and results are written as, and the function types of a text, each of which has one number.
use Rattle.std.specs.Prelude.{ℕ, suc, Bool, true, false, ◌&&◌, if◌then◌else◌, List, [], ◌∷◌, ◌++◌, map, Option, Some, None}
use Rattle.std.specs.Str.{bytes_eq}
use Rattle.own_tree.specs.declared.place.Mode.{Mode}
use Rattle.own_tree.specs.declared.place.Mode.TheVariants as mode
use Rattle.own_tree.specs.declared.place.Ty.{Ty}
use Rattle.own_tree.specs.declared.place.Ty.TheVariants as type
use Rattle.own_tree.specs.declared.tree.FunctionParameter.{FunctionParameter}
use Rattle.own_tree.specs.declared.tree.Label.{Label}
use Rattle.own_tree.specs.declared.tree.Label.TheVariants as label
use Rattle.own_tree.specs.declared.tree.Name.{Name}
use Rattle.own_tree.specs.declared.tree.Parameter.{Parameter}
use Rattle.own_tree.specs.declared.tree.ParameterType.{ParameterType}
use Rattle.own_tree.specs.declared.tree.ParameterType.TheVariants as written
use Rattle.own_tree.specs.declared.tree.PassingMode.{PassingMode}
use Rattle.own_tree.specs.declared.tree.PassingMode.TheVariants as passing_mode
use Rattle.own_tree.specs.declared.tree.ResultType.{ResultType}
use Rattle.own_tree.specs.declared.tree.ResultType.TheVariants as result
use Rattle.own_tree.specs.declared.typed.ParamInfo.{ParamInfo}
use Rattle.own_tree.specs.declared.typed.Signature.{Signature}
use Rattle.own_tree.specs.Source as tree
use Rattle.own_tree.specs.Source.{Member, Decl}
use Rattle.own_survey.specs.Parts.{VOID}
use Rattle.own_calls.specs.Arguments.{same_type}

-- ---- function types are equal by the modes and the types of their parameters, and the type of their result

abbrev pub same_mode : Mode → Mode → Bool
same_mode mode.Plain mode.Plain = true
same_mode mode.Borrowing mode.Borrowing = true
same_mode mode.Consuming mode.Consuming = true
same_mode mode.Inout mode.Inout = true
same_mode _ _ = false

abbrev pub same_params : List ParamInfo → List ParamInfo → Bool
same_params [] [] = true
same_params (p ∷ ps) (q ∷ qs) = same_mode p.mode q.mode && same_type p.ty q.ty && same_params ps qs
same_params _ _ = false

abbrev pub same_signature : Signature → Signature → Bool
same_signature a b = same_params a.params b.params && same_type a.result b.result

-- the number of a function type, which is how many others stand before it
abbrev pub number_from : ℕ → List Signature → Signature → ℕ
number_from k [] wanted = k
number_from k (s ∷ ss) wanted = if same_signature s wanted then k else number_from (suc k) ss wanted

abbrev pub has_signature : List Signature → Signature → Bool
has_signature [] wanted = false
has_signature (s ∷ ss) wanted = if same_signature s wanted then true else has_signature ss wanted

abbrev pub with_signature : List Signature → Signature → List Signature
with_signature ss wanted = if has_signature ss wanted then ss else ss ++ wanted ∷ []

-- ---- parameters and results

-- SE-0377; without a modifier it is copyable
abbrev pub mode_of : Option PassingMode → Mode
mode_of None = mode.Plain
mode_of (Some passing_mode.Borrowing) = mode.Borrowing
mode_of (Some passing_mode.Consuming) = mode.Consuming
mode_of (Some passing_mode.Inout) = mode.Inout

abbrev pub label_of : Label → Name → Option (List ℕ)
label_of label.Same n = Some n.text
label_of label.Omitted n = None
label_of (label.Other other) n = Some other.text

-- by the type that a written name stands for
module _ (type_of : List ℕ → Ty) where
  abbrev pub result_of : ResultType → Ty
  result_of (result.Named n) = if bytes_eq n.text VOID then type.Unit else type_of n.text
  result_of (result.Empty s) = type.Unit

  -- where none is written there is none
  abbrev pub given_result : Option ResultType → Ty
  given_result None = type.Unit
  given_result (Some r) = result_of r

  -- a parameter of a function type
  abbrev pub inner_param : FunctionParameter → ParamInfo
  inner_param p = record { label = None; mode = mode_of p.mode; ty = type_of p.name.text }

  abbrev pub signature_of : List FunctionParameter → ResultType → Signature
  signature_of ps r = record { params = map inner_param ps; result = result_of r }

  module _ (signatures : List Signature) where
    abbrev pub param_type : ParameterType → Mode × Ty
    param_type (written.Named s m n) = (mode_of m, type_of n.text)
    param_type (written.Function s ps r) =
        (mode.Closure, type.Fun (number_from 0 signatures (signature_of ps r)))

    abbrev pub param_of : Parameter → ParamInfo
    param_of p = record {
      label = label_of p.label p.name;
      mode = (param_type p.written).0;
      ty = (param_type p.written).1;
    }

  -- ---- the function types of a text, in order of the first place of each

  abbrev pub signatures_with : List Signature → ParameterType → List Signature
  signatures_with ss (written.Named s m n) = ss
  signatures_with ss (written.Function s ps r) = with_signature ss (signature_of ps r)

  -- those of parameters, after those that were found
  abbrev pub signatures_after : List Signature → List Parameter → List Signature
  signatures_after ss [] = ss
  signatures_after ss (p ∷ ps) = signatures_after (signatures_with ss p.written) ps

  abbrev pub member_signatures : List Signature → List Member → List Signature
  member_signatures ss [] = ss
  member_signatures ss (tree.field f ∷ ms) = member_signatures ss ms
  member_signatures ss (tree.initializer s ps b ∷ ms) = member_signatures (signatures_after ss ps) ms
  member_signatures ss (tree.deinitializer s b ∷ ms) = member_signatures ss ms
  member_signatures ss (tree.method s m f ∷ ms) = member_signatures (signatures_after ss f.parameters) ms
  member_signatures ss (tree.cases s cs ∷ ms) = member_signatures ss ms

  abbrev pub signatures_in : List Signature → List Decl → List Signature
  signatures_in ss [] = ss
  signatures_in ss (tree.struct_of s name noncopyable ms ∷ ds) = signatures_in (member_signatures ss ms) ds
  signatures_in ss (tree.enum_of s name noncopyable ms ∷ ds) = signatures_in (member_signatures ss ms) ds
  signatures_in ss (tree.function f ∷ ds) = signatures_in (signatures_after ss f.parameters) ds
