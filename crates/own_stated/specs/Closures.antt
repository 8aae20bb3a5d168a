-- The type of a closure, and its names behind one another.
use Rattle.std.specs.Prelude.{ℕ, List, ◌++◌, length, Ok, Err, slice_get}
use Rattle.own_tree.specs.declared.place.Ty.{Ty}
use Rattle.own_tree.specs.declared.place.Ty.TheVariants as type
use Rattle.own_tree.specs.declared.span.Span.{Span}
use Rattle.own_tree.specs.declared.tree.ClosureName.{ClosureName}
use Rattle.own_tree.specs.declared.typed.Signature.{Signature}
use Rattle.own_judging.specs.Judged.{Judged}
use Rattle.own_judging.specs.Made.{Found}
use Rattle.own_judged.specs.Codes.{T13}
use Rattle.own_judged.specs.Conditions.{equal}
use Rattle.own_judged.specs.Names.{Local}
use Rattle.own_judged.specs.Rules.{yields, ◌>>=◌, ◌>>◌, holding, the, refused}
use Rattle.own_judged.specs.Text.{Text}

-- the type of a closure with these names, by its call
abbrev pub closure_type : Text → (call : Span) → List ClosureName → Ty → Judged Signature
closure_type text call names (type.Fun f) = do
  g ← the (slice_get text.signatures f) T13 call
  holding (equal (length names) (length g.params)) T13 call
  yields g
closure_type text call names type.Int = refused T13 call
closure_type text call names type.Bool = refused T13 call
closure_type text call names type.Unit = refused T13 call
closure_type text call names (type.Named t) = refused T13 call

-- bindings and the names that they have, behind those before them
abbrev pub behind : List ℕ → List Local → Found (List ℕ × List Local) → Found (List ℕ × List Local)
behind xs ls (Ok r) = Ok ((xs ++ r.0.0, ls ++ r.0.1), r.1)
behind xs ls (Err f) = Err f
