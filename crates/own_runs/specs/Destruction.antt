-- How a value is destroyed, where it stands.
use Rattle.std.specs.Prelude.{ℕ, zero, suc, ◌+◌, Bool, true, false, ◌==◌, ◌&&◌, List, [], ◌∷◌, Option, Some, None, if◌then◌else◌}
use Rattle.own_tree.specs.declared.typed.BodyKind.{BodyKind}
use Rattle.own_tree.specs.declared.typed.BodyKind.TheVariants as kind
use Rattle.own_tree.specs.TypedSource.{TBody, Program}
use Rattle.own_shapes.specs.Types.{Shape, Shapes, Payloads, no_shapes, no_payloads, payloads, one_case_holds_tracked}
use Rattle.own_shapes.specs.Types as shape
use Rattle.own_runs.specs.Events.{ended_by_deinit}
use Rattle.own_runs.specs.Store.{Location, Act, peek, put, vacate, below, take_level, note}
use Rattle.own_runs.specs.Values.{Val, int, bool, unit, struct, variant, hole, all_whole, Part, field, payload}
use Rattle.own_ways.specs.Ways.{◌>>=◌, ◌>>◌, pure, err, stray, pick, or_stray}

-- What an argument is for its callee: a value that is given away and waits at a place; a place that is lent; one
-- that is lent for the call alone, and holds a temporary of this shape; or a closure.
pub data Passed : Type 0 where
  given : Location → Passed
  lent : Location → Passed
  lent_temporary : Shape → Location → Passed
  closed : (body maker : ℕ) → Passed

-- A call of a body: its number; the activation that made it, if it is a closure; what is passed; and the level that
-- calls. It gives the body's result.
abbrev pub Call : Type 0
Call = (body : ℕ) → (maker : Option ℕ) → List Passed → (level : ℕ) → Act Val

-- ---- the `deinit` of a type

abbrev pub is_deinit : BodyKind → Bool
is_deinit kind.Function = false
is_deinit kind.Method = false
is_deinit kind.Initializer = false
is_deinit kind.Deinitializer = true
is_deinit (kind.Closure outer) = false

abbrev pub is_of_type : ℕ → Option ℕ → Bool
is_of_type type None = false
is_of_type type (Some owner) = owner == type

-- the number of the body, from number k on
abbrev pub deinit_from : ℕ → List TBody → ℕ → Option ℕ
deinit_from k [] type = None
deinit_from k (b ∷ bodies) type = if is_deinit b.kind && is_of_type type b.owner then Some k else deinit_from (suc k) bodies type

abbrev pub deinit_of : Program → ℕ → Option ℕ
deinit_of program type = deinit_from 0 program.bodies type

-- ---- destruction

-- a struct after its `deinit`: no longer tracked, with its stored properties still there
abbrev pub without_number : Val → Val
without_number (struct type number vs) = struct type None vs
without_number (variant present vs) = variant present vs
without_number (int n) = int n
without_number (bool b) = bool b
without_number unit = unit
without_number hole = hole

-- A present case, whose payloads are destroyed. A hole is passed over.
abbrev pub present_case : Val → (ℕ → Act (Unit {0})) → Act (Unit {0})
present_case (variant present vs) each = each present
present_case hole each = pure tt
present_case (int n) each = stray
present_case (bool b) each = stray
present_case unit each = stray
present_case (struct type number vs) each = stray

module _ (program : Program) (run : Call) where
  -- The body of the `deinit` sees the value where it stands.
  abbrev pub run_deinit : (type number : ℕ) → Location → ℕ → Act (Unit {0})
  run_deinit type number l level = do
    body ← or_stray (deinit_of program type)
    run body None (lent l ∷ []) level
    note (ended_by_deinit type number)
    peek l >>= λ v. put l (without_number v)

  -- A value of a struct with a `deinit`, which is a level. One with a hole in it is wrong to destroy, and a hole is
  -- passed over.
  abbrev pub destroy_tracked : Val → Location → ℕ → Act (Unit {0}) → Act (Unit {0})
  destroy_tracked (struct type (Some number) vs) l level properties =
      pick (all_whole vs) (take_level (level + 1) >> run_deinit type number l (level + 1) >> properties >> put l hole) err
  destroy_tracked hole l level properties = pure tt
  destroy_tracked (struct type None vs) l level properties = stray
  destroy_tracked (int n) l level properties = stray
  destroy_tracked (bool b) l level properties = stray
  destroy_tracked unit l level properties = stray
  destroy_tracked (variant present vs) l level properties = stray

  -- Each leaf that holds a tracked value is destroyed, in order, one level above this one (SE-0390, SE-0429).
  abbrev mutual
    pub destroy : Shape → Location → ℕ → Act (Unit {0})
    destroy shape.number l level = pure tt
    destroy shape.truth l level = pure tt
    destroy shape.no_value l level = pure tt
    destroy shape.closure l level = pure tt
    destroy (shape.struct head fields) l level =
        pick head.has_deinit
        (peek l >>= λ v. destroy_tracked v l level (destroy_parts field 0 fields l (level + 1)))
        (destroy_parts field 0 fields l level)
    destroy (shape.enum head cases) l level =
        pick (one_case_holds_tracked cases)
        (peek l >>= λ v. present_case v (λ present.
        take_level (level + 1) >> destroy_case cases present present l (level + 1) >> put l hole))
        (pure tt)

    -- the parts from number k on, in order of declaration
    pub destroy_parts : (ℕ → Part) → ℕ → Shapes → Location → ℕ → Act (Unit {0})
    destroy_parts part k no_shapes l level = pure tt
    destroy_parts part k (shape.shape s ss) l level =
        destroy s (below l (part k ∷ [])) level >> destroy_parts part (suc k) ss l level

    -- the payloads of the present case, which is so many further on
    pub destroy_case : Payloads → ℕ → (present : ℕ) → Location → ℕ → Act (Unit {0})
    destroy_case no_payloads k present l level = stray
    destroy_case (payloads ss cs) zero present l level = destroy_parts (payload present) 0 ss l level
    destroy_case (payloads ss cs) (suc k) present l level = destroy_case cs k present l level

  -- what a value leaves that is destroyed
  abbrev pub end_value : Shape → Location → ℕ → Act (Unit {0})
  end_value s l level = destroy s l level >> vacate l
