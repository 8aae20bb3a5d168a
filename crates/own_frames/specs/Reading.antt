-- What frames need besides the tree, read off a typed program.
use Rattle.std.specs.Prelude.{◌≡◌, ◌⊎◌, ℕ, Bool, true, false, List, [], ◌∷◌, map, slice_get, Option, Some, None, if◌then◌else◌}
use Rattle.own_tree.specs.declared.place.Binding.{Binding}
use Rattle.own_tree.specs.declared.place.Mode.{Mode}
use Rattle.own_tree.specs.declared.place.Mode.TheVariants as mode
use Rattle.own_tree.specs.declared.place.Ty.{Ty}
use Rattle.own_tree.specs.declared.place.Ty.TheVariants as type
use Rattle.own_tree.specs.declared.typed.Passing.{Passing}
use Rattle.own_tree.specs.declared.typed.Passing.TheVariants as passing
use Rattle.own_tree.specs.declared.typed.Signature.{Signature}
use Rattle.own_tree.specs.TypedSource.{Program}
use Rattle.own_paths.specs.Captures.{Captured, captures}
use Rattle.own_shapes.specs.Types.{Types, is_copyable}
use Rattle.own_frames.specs.Frame.{Reach}

abbrev pub IsIn : List Captured → ℕ → Bool → Type 0
IsIn [] x c = ⊥
IsIn (m ∷ ms) x c = ((m.binding ≡ x) × (c ≡ true → m.change ≡ true)) ⊎ IsIn ms x c

-- A binding of this mode stands for a place that it may not change. `self` in an `init` is none, though a Consume of
-- it breaks O7.
abbrev pub is_kept : Mode → Bool
is_kept mode.Borrowing = true
is_kept mode.PatternBorrowed = true
is_kept mode.SelfBorrowing = true
is_kept mode.SelfDeinit = true
is_kept mode.Let = false
is_kept mode.Var = false
is_kept mode.Plain = false
is_kept mode.Consuming = false
is_kept mode.Inout = false
is_kept mode.Turn = false
is_kept mode.PatternOwned = false
is_kept mode.SelfConsuming = false
is_kept mode.SelfMutating = false
is_kept mode.SelfInit = false
is_kept mode.Closure = false

abbrev pub kept_at : Option Binding → Bool
kept_at None = false
kept_at (Some b) = is_kept b.mode

-- as `own_calls` has it, which stands above
abbrev pub by_modifier : Mode → Passing
by_modifier mode.Borrowing = passing.Borrow
by_modifier _ = passing.Consume

abbrev pub by_type : Types → Mode → Ty → Passing
by_type types mode.Inout ty = passing.Inout
by_type types m (type.Fun k) = passing.Closure
by_type types m ty = if is_copyable types ty then passing.ByValue else by_modifier m

abbrev pub formals_of : Types → Option Signature → List Passing
formals_of types None = []
formals_of types (Some s) = map (λ p. by_type types p.mode p.ty) s.params

abbrev pub formals_at : Types → Program → Option Binding → List Passing
formals_at types program None = []
formals_at types program (Some b) = elim b.ty [
  | type.Int ↦ []
  | type.Bool ↦ []
  | type.Unit ↦ []
  | type.Named k ↦ []
  | type.Fun k ↦ formals_of types (slice_get program.signatures k)
]

abbrev pub reach_of : Types → Program → Reach
reach_of types program = record {
  captured = λ k x c. IsIn (captures program k) x c;
  borrowed = λ x. kept_at (slice_get program.bindings x);
  formals = λ x. formals_at types program (slice_get program.bindings x);
}
