-- The traces of an op tree: what its paths do, in order, with at most so many turns of each run of a loop.
use Rattle.std.specs.Prelude.{ℕ, zero, suc, ◌≡◌, ◌⊎◌, List, [], ◌∷◌, ◌++◌}
use Rattle.own_tree.specs.declared.op.Op.{Op}
use Rattle.own_tree.specs.declared.op.OpKind.TheVariants as kind
use Rattle.own_tree.specs.declared.span.Span.{Span}
use Rattle.own_tree.specs.OpSource.{Ops, op, nothing, next, either, loop, catch, scope, break_at, continue_at, return_at, halt}
use Rattle.own_shapes.specs.Places.{whole}

-- How a trace is completed: it goes on, or it leaves by a jump with its span; or it stands at a `switch` without cases, or its turns are used up.
pub data Completion : Type 0 where
  goes_on : Completion
  breaks : Span → Completion
  continues : Span → Completion
  returns : Span → Completion
  halts : Completion
  cut : Completion

abbrev pub end_of : Span → ℕ → Op
end_of s b = record { kind = kind.End; place = whole b; span = s; node = 0 }

-- the Ends of these bindings at a span, the last first
abbrev pub ends_at : Span → List ℕ → List Op
ends_at s [] = []
ends_at s (b ∷ bs) = ends_at s bs ++ end_of s b ∷ []

-- the Ends of a scope on each way out that leaves it
abbrev pub ends_for : List ℕ → Span → Completion → List Op
ends_for bs s goes_on = ends_at s bs
ends_for bs s (breaks at) = ends_at at bs
ends_for bs s (continues at) = ends_at at bs
ends_for bs s (returns at) = ends_at at bs
ends_for bs s halts = []
ends_for bs s cut = []

-- a set of traces
abbrev pub Set : Type 1
Set = List Op → Completion → Type 0

-- what follows where the first part has gone on, and what is left where it has ended otherwise
abbrev pub After : Completion → Set → Set
After goes_on B os c = B os c
After (breaks s) B os c = (os ≡ []) × (c ≡ breaks s)
After (continues s) B os c = (os ≡ []) × (c ≡ continues s)
After (returns s) B os c = (os ≡ []) × (c ≡ returns s)
After halts B os c = (os ≡ []) × (c ≡ halts)
After cut B os c = (os ≡ []) × (c ≡ cut)

-- one after another, where the rest may hang on how the first part was completed
abbrev pub Joined : Set → (Completion → Set) → Set
Joined A B os c = (xs : List Op) × (how : Completion) × (ys : List Op) × A xs how × B how ys c × (os ≡ xs ++ ys)

-- a loop ends with a break, and goes on after a continue of its first part
abbrev pub Broken : Completion → Set → Set
Broken goes_on B os c = B os c
Broken (continues s) B os c = B os c
Broken (breaks s) B os c = (os ≡ []) × (c ≡ goes_on)
Broken (returns s) B os c = (os ≡ []) × (c ≡ returns s)
Broken halts B os c = (os ≡ []) × (c ≡ halts)
Broken cut B os c = (os ≡ []) × (c ≡ cut)

-- at most that many turns
abbrev pub Turns : Set → Set → ℕ → Set
Turns A B zero os c = (os ≡ []) × (c ≡ cut)
Turns A B (suc j) os c = Joined A (λ how. Broken how (Joined B (λ how'. Broken how' (Turns A B j)))) os c

abbrev pub caught : Completion → Completion
caught goes_on = goes_on
caught (breaks s) = goes_on
caught (continues s) = continues s
caught (returns s) = returns s
caught halts = halts
caught cut = cut

-- the op lists of a tree with at most k turns of each run of each loop, each with its completion
abbrev pub IsTrace : ℕ → Ops → List Op → Completion → Type 0
IsTrace k (op o) os c = (os ≡ o ∷ []) × (c ≡ goes_on)
IsTrace k nothing os c = (os ≡ []) × (c ≡ goes_on)
IsTrace k (next a b) os c = Joined (IsTrace k a) (λ how. After how (IsTrace k b)) os c
IsTrace k (either a b) os c = IsTrace k a os c ⊎ IsTrace k b os c
IsTrace k (loop a b) os c = Turns (IsTrace k a) (IsTrace k b) k os c
IsTrace k (catch a) os c = (how : Completion) × IsTrace k a os how × (c ≡ caught how)
IsTrace k (scope bs s a) os c = (xs : List Op) × IsTrace k a xs c × (os ≡ xs ++ ends_for bs s c)
IsTrace k (break_at s) os c = (os ≡ []) × (c ≡ breaks s)
IsTrace k (continue_at s) os c = (os ≡ []) × (c ≡ continues s)
IsTrace k (return_at s) os c = (os ≡ []) × (c ≡ returns s)
IsTrace k halt os c = (os ≡ []) × (c ≡ halts)
