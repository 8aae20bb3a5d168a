-- The order in which breaks are sorted, and what is left where of those that break one rule at one span and one place
-- the first one is kept.
use Rattle.std.specs.Prelude.{◌≡◌, ℕ, Bool, false, if◌then◌else◌, List, [], ◌∷◌, Option, Some, None, slice_get}
use Rattle.std.specs.Cmp.Lexicographic.{slice_cmp}
use Rattle.std.specs.declared.cmp.Ordering.{Ordering}
use Rattle.std.specs.Ordering.{nat_cmp, on, then_cmp, is_eq}
use Rattle.own_tree.specs.declared.finding.Finding.{Finding}
use Rattle.own_tree.specs.TypedSource.{TBody, Program}
use Rattle.own_paths.specs.Findings.{rule_number, AreFixedFindings}
use Rattle.own_shapes.specs.Types.{Types}

-- by span, then by rule, then by place
abbrev pub break_cmp : Finding → Finding → Ordering
break_cmp =
    then_cmp (on (λ (f : Finding). f.span.start) nat_cmp)
    (then_cmp (on (λ (f : Finding). f.span.end) nat_cmp)
    (then_cmp (on (λ (f : Finding). rule_number f.rule) nat_cmp)
    (then_cmp (on (λ (f : Finding). f.place.binding) nat_cmp) (on (λ (f : Finding). f.place.fields) (slice_cmp nat_cmp)))))

abbrev pub cause_cmp : Finding → Finding → Ordering
cause_cmp = then_cmp (on (λ (f : Finding). f.cause.start) nat_cmp) (on (λ (f : Finding). f.cause.end) nat_cmp)

-- and then by cause
abbrev pub finding_cmp : Finding → Finding → Ordering
finding_cmp = then_cmp break_cmp cause_cmp

abbrev pub is_same_break : Finding → Finding → Bool
is_same_break f g = is_eq (break_cmp f g)

-- whether a break is that of the one kept before it
abbrev pub repeats : Option Finding → Finding → Bool
repeats None f = false
repeats (Some last) f = is_same_break last f

-- those that are kept
abbrev pub kept_after : Option Finding → List Finding → List Finding
kept_after last [] = []
kept_after last (f ∷ fs) = if repeats last f then kept_after last fs else f ∷ kept_after (Some f) fs

-- the findings of the fixed rules in the body of that number
abbrev pub AreFixedFindingsIn : Types → Program → ℕ → List Finding → Type 0
AreFixedFindingsIn types program k fs =
    (body : TBody) → slice_get program.bodies k ≡ Some body → AreFixedFindings types program k body fs
