-- What is judged of a text makes its types such as a table is made of, and each refusal says why there is none.
use Rattle.std.proofs.Common.{◌≡◌, ℕ, suc, ◌+◌, ◌-◌, ◌<◌, ◌≤◌, ◌^◌, Bool, true, false, List, [], ◌∷◌, ◌++◌, length, map, Option, Some, None, inl, inr, refl, sym, ap, ◌∙◌, subst, arith}
use Rattle.std.specs.Prelude.{All, codes, if◌then◌else◌, nat_lt, slice_get}
use Rattle.std.specs.List.{list_all}
use Rattle.std.specs.Str.{bytes_eq}
use Rattle.std.proofs.lemmas.Bool.{lt-ltb, ltb-false}
use Rattle.std.proofs.lemmas.List.{length-map}
use Rattle.std.proofs.lemmas.Option.{slice_get_within}
use Rattle.std.proofs.lemmas.List.Elements.{All-nil, All-cons}
use Rattle.own_tree.specs.declared.limits.TheConstants.{MOST_FIELDS, MOST_PARAMETERS}
use Rattle.own_tree.specs.declared.refusal.LimitKind.{LimitKind}
use Rattle.own_tree.specs.declared.refusal.LimitKind.TheVariants as limit
use Rattle.own_tree.specs.declared.span.Span.{Span}
use Rattle.own_tree.specs.declared.tree.CaseItem.{CaseItem}
use Rattle.own_tree.specs.declared.tree.Name.{Name}
use Rattle.own_tree.specs.declared.tree.Tree.{Tree}
use Rattle.own_tree.specs.Source.{File}
use Rattle.own_tree.specs.View.{tree_view}
use Rattle.own_table.specs.declared.error.TableError.TheVariants as refused
use Rattle.own_table.specs.declared.extent.Over.{Over}
use Rattle.own_shapes.specs.declared.info.TypeInfo.{TypeInfo}
use Rattle.own_shapes.specs.declared.counted.Counted.{Counted}
use Rattle.own_survey.specs.declared.survey.Fault.{Fault}
use Rattle.own_survey.specs.declared.survey.Judgement.TheVariants as judgement
use Rattle.own_survey.specs.declared.survey.Survey.{Survey}
use Rattle.own_survey.specs.declared.survey.Written.{Written}
use Rattle.own_survey.specs.declared.survey.Written.TheVariants as written
use Rattle.own_table.specs.Building.{or_limit, first_limit, IsJudged, HasTable, IsRefused, TablesAreExact, extra_body, limit_found, IsSurveyed}
use Rattle.own_table.specs.Extents.{HasFewParts, HaveFewParts, over_at, beyond_M8, counted_at, first_over_from, first_over_M8}
use Rattle.own_survey.specs.Judgements.{code_of, declared_as_written, written_name, type_fault, fault_of, nothing, notes, IsFalseOf}
use Rattle.own_shapes.specs.Counts.{counted, first_over}
use Rattle.own_survey.specs.Limits.{type_names, part_counts, taken_count, body_places, taken_counts, over_M4, over_M5, over_M6, over_M7, over_M8}
use Rattle.own_survey.specs.Parts.{Part, a_case, a_type, file_parts}
use Rattle.own_table.specs.TypeLimits.{at_name, at_span, counts_of}
use Rattle.own_shapes.specs.Types.{Types, Declared, declared_types, type_number, written_type, resolved_field, resolved_case, resolved, resolved_types, field_types, all_case_types, contained, is_part, types_resolved, types_declared, types_of, PartsAreTypes, ContainsIn, NoneContainsItself}
use Rattle.own_shapes.proofs.Lists.{get_in, In, contains_in}
use Rattle.own_survey.proofs.Judged.{fault_is_false, nothing_is_false, taken_is, bodies_are, bodies_fit, extra_is}
use Rattle.own_survey.proofs.Known.{turned}
use Rattle.own_survey.proofs.PartsIn.{text_field, text_case, text_payload}
use Rattle.own_table.specs.Proper.{AreProper}
use Rattle.own_table.proofs.Held.{all_parts, mapped, no_cases, no_properties, held_proper}
use Rattle.own_table.proofs.TypeLimited.{counts_same, first_over_is, length-type_names}

-- ---- names that name types

known_number : (ds : List Declared) (k : ℕ) (name : List ℕ) → (declared_as_written ds name ≡ written.Unknown → ⊥) → (j : ℕ) × (type_number k ds name ≡ Some j) × (j < k + length ds)
known_number [] k name known = absurd (known refl)
known_number (d ∷ ds) k name known =
    let P : Bool → Type 0 = λ b. bytes_eq d.name.text name ≡ b → (j : ℕ) × (type_number k (d ∷ ds) name ≡ Some j) × (j < k + length (d ∷ ds)) in
    elim (bytes_eq d.name.text name) as P [
      | true ↦ λ e. (k, rw e refl, omega arith)
      | false ↦ λ e. (let back : bytes_eq name d.name.text ≡ false = turned name d.name.text ∙ e in let more = known_number ds (suc k) name (λ u. known (rw back u)) in (more.0, rw e more.1, (let lt = more.2 in omega (arith, lt))))
    ] refl

-- T01: a name that is no unknown type is that of a part.
known_part : (ds : List Declared) (name : List ℕ) → (written_name ds name ≡ written.Unknown → ⊥) → is_part (length ds) (written_type ds name) ≡ true
known_part ds name known =
    let P : Bool → Type 0 = λ b. bytes_eq name (codes "Int") ≡ b → is_part (length ds) (written_type ds name) ≡ true in
    elim (bytes_eq name (codes "Int")) as P [
      | true ↦ λ e. rw e refl
      | false ↦ λ e. (let Q : Bool → Type 0 = λ b. bytes_eq name (codes "Bool") ≡ b → is_part (length ds) (written_type ds name) ≡ true in
          elim (bytes_eq name (codes "Bool")) as Q [
            | true ↦ λ f. rw (e, f) refl
            | false ↦ λ f. (let at = known_number ds 0 name (λ u. known (rw (e, f) u)) in rw (e, f, at.1) (lt-ltb at.0 (length ds) (let lt = at.2 in omega (arith, lt))))
          ] refl)
    ] refl

no_fault_known : (w : Written) (at : Span) → type_fault w at ≡ None → w ≡ written.Unknown → ⊥
no_fault_known written.Unknown at e u = absurd cc
no_fault_known written.Copyable at e u = absurd cc
no_fault_known written.Noncopyable at e u = absurd cc

-- ---- the parts of each type

-- A text of which T01 holds has types that are made of types.
module _ (file : File) (hold : (p : Part) → In (file_parts file) p → fault_of (written_name (declared_types file.declarations)) p ≡ None) where
  abbrev ds : List Declared
  ds = declared_types file.declarations

  of_name : (n : Name) → In (file_parts file) (a_type n) → is_part (length ds) (written_type ds n.text) ≡ true
  of_name n i = known_part ds n.text (no_fault_known (written_name ds n.text) n.span (hold (a_type n) i))

  parts_of : (d : Declared) → In ds d
      → list_all (is_part (length ds)) (if d.is_enum then all_case_types (map (resolved_case (written_type ds)) d.cases) else field_types (map (resolved_field (written_type ds)) d.fields)) ≡ true
  parts_of d i =
      all_parts (is_part (length ds)) (written_type ds) d.is_enum d.fields d.cases
      (λ f j. of_name f.written (text_field file d i f j)) (λ c n j k. of_name n (text_payload file d i c n j k))

  pub held_closed : PartsAreTypes (resolved_types ds)
  held_closed k t at =
      let one = mapped (resolved ds) ds t (get_in (resolved_types ds) k t at) in
      rw (length-map ds (resolved ds)) (subst (λ x. list_all (is_part (length ds)) (contained x) ≡ true) one.2 (parts_of one.0 one.1))

-- ---- M5 and M7

none_over : (largest : ℕ) (xs ys : List Counted) → first_over largest (xs ++ ys) ≡ None → (first_over largest xs ≡ None) × (first_over largest ys ≡ None)
none_over largest [] ys e = (refl, e)
none_over largest (x ∷ xs) ys e = by (nat_lt largest x.count) (none_over largest xs ys) e
  where
    by : (b : Bool) → (first_over largest (xs ++ ys) ≡ None → (first_over largest xs ≡ None) × (first_over largest ys ≡ None)) → (if b then Some x else first_over largest (xs ++ ys)) ≡ None
        → ((if b then Some x else first_over largest xs) ≡ None) × (first_over largest ys ≡ None)
    by true more h = absurd cc
    by false more h = more h

one_within : (largest : ℕ) (c : Counted) (cs : List Counted) → first_over largest (c ∷ cs) ≡ None → (c.count ≤ largest) × (first_over largest cs ≡ None)
one_within largest c cs e = by (nat_lt largest c.count) refl e
  where
    by : (b : Bool) → nat_lt largest c.count ≡ b → (if b then Some c else first_over largest cs) ≡ None → (c.count ≤ largest) × (first_over largest cs ≡ None)
    by true is h = absurd cc
    by false is h = (ltb-false largest c.count is, h)

part_within : (largest : ℕ) (ps : List Part) (p : Part) → first_over largest (taken_counts ps) ≡ None → In ps p → first_over largest (taken_count p) ≡ None
part_within largest [] p e i = absurd i
part_within largest (q ∷ ps) p e (inl is) = subst (λ x. first_over largest (taken_count x) ≡ None) is (none_over largest (taken_count q) (taken_counts ps) e).0
part_within largest (q ∷ ps) p e (inr i) = part_within largest ps p (none_over largest (taken_count q) (taken_counts ps) e).1 i

type_within : (ds : List Declared) (d : Declared) → first_over MOST_FIELDS (part_counts ds) ≡ None → In ds d → (if d.is_enum then length d.cases else length d.fields) ≤ MOST_FIELDS
type_within [] d e i = absurd i
type_within (x ∷ ds) d e (inl is) =
    subst (λ y. (if y.is_enum then length y.cases else length y.fields) ≤ MOST_FIELDS) is
    (one_within MOST_FIELDS (counted (if x.is_enum then length x.cases else length x.fields) x.name.span) (part_counts ds) e).0
type_within (x ∷ ds) d e (inr i) = type_within ds d (one_within MOST_FIELDS (counted (if x.is_enum then length x.cases else length x.fields) x.name.span) (part_counts ds) e).1 i

module _ (tree : Tree) (parts : over_M5 (tree_view tree) ≡ None) (taken : over_M7 (tree_view tree) ≡ None) where
  abbrev types : List Declared
  types = declared_types (tree_view tree).declarations

  fields_within : (d : Declared) → In types d → length d.fields ≤ MOST_FIELDS
  fields_within d i = by d.is_enum refl (type_within types d parts i)
    where
      by : (b : Bool) → d.is_enum ≡ b → (if b then length d.cases else length d.fields) ≤ MOST_FIELDS → length d.fields ≤ MOST_FIELDS
      by true is small = let none = ap length (no_properties tree.declarations d i is) in omega (arith, none)
      by false is small = small

  few_cases : (d : Declared) → In types d → length d.cases ≤ MOST_FIELDS
  few_cases d i = by d.is_enum refl (type_within types d parts i)
    where
      by : (b : Bool) → d.is_enum ≡ b → (if b then length d.cases else length d.fields) ≤ MOST_FIELDS → length d.cases ≤ MOST_FIELDS
      by true is small = small
      by false is small = let none = ap length (no_cases tree.declarations d i is) in omega (arith, none)

  cases_within : (d : Declared) → In types d → (cs : List CaseItem) → ((c : CaseItem) → In cs c → In d.cases c) → All (λ c. length c.payloads ≤ MOST_PARAMETERS) (map (resolved_case (written_type types)) cs)
  cases_within d i [] each = All-nil (λ c. length c.payloads ≤ MOST_PARAMETERS)
  cases_within d i (c ∷ cs) each =
      let here = part_within MOST_PARAMETERS (file_parts (tree_view tree)) (a_case c.name.span (length c.payloads)) taken (text_case (tree_view tree) d i c (each c (inl refl))) in
      All-cons (λ x. length x.payloads ≤ MOST_PARAMETERS) (resolved_case (written_type types) c) (map (resolved_case (written_type types)) cs)
      (rw (length-map c.payloads (λ n. written_type types n.text)) (one_within MOST_PARAMETERS (counted (length c.payloads) c.name.span) [] here).0)
      (cases_within d i cs (λ x j. each x (inr j)))

  each_few : (rest : List Declared) → ((d : Declared) → In rest d → In types d) → HaveFewParts (map (resolved types) rest)
  each_few [] each = All-nil HasFewParts
  each_few (d ∷ rest) each =
      All-cons HasFewParts (resolved types d) (map (resolved types) rest)
      (record {
        fields = rw (length-map d.fields (resolved_field (written_type types))) (fields_within d (each d (inl refl)));
        cases = rw (length-map d.cases (resolved_case (written_type types))) (few_cases d (each d (inl refl)));
        payloads = cases_within d (each d (inl refl)) d.cases (λ c j. j);
      })
      (each_few rest (λ x j. each x (inr j)))

  pub held_few : HaveFewParts (resolved_types types)
  held_few = each_few types (λ d i. i)

-- ---- the limits before the judgements

passes : (a : Option Counted) (which : LimitKind) (later : Option (LimitKind × Counted)) → or_limit which a later ≡ None → (a ≡ None) × (later ≡ None)
passes None which later e = (refl, e)
passes (Some c) which later e = absurd cc

abbrev at_body : ℕ → Option Span → Option Counted
at_body n o = elim o [ None ↦ None | Some at ↦ Some (counted n at) ]

module _ (file : File) (found : Survey) (is : found ≡ notes (written_name (declared_types file.declarations)) nothing (file_parts file)) (not_cut : found.bodies ≡ 2 ^ 64 - 1 → ⊥) where
  abbrev w : List ℕ → Written
  w = written_name (declared_types file.declarations)

  few : length (body_places (file_parts file)) < 2 ^ 64
  few = bodies_fit w (file_parts file) (λ e. not_cut (ap (λ v. v.bodies) is ∙ e))

  extra : extra_body found ≡ over_M6 file
  extra =
      ap (λ n. at_body n found.extra_body) (ap (λ v. v.bodies) is ∙ bodies_are w (file_parts file) few)
      ∙ ap (at_body (length (body_places (file_parts file)))) (ap (λ v. v.extra_body) is ∙ extra_is w (file_parts file) few)

  took : found.taken ≡ over_M7 file
  took = ap (λ v. v.taken) is ∙ taken_is w (file_parts file)

  pub first_limit_is : over_M4 file ≡ None → first_limit file ≡ limit_found (first_over MOST_FIELDS (counts_of (resolved_types (declared_types file.declarations)) (type_names (declared_types file.declarations)))) found
  first_limit_is fewer =
      ap (λ o. or_limit limit.Types o (or_limit limit.Fields (over_M5 file) (or_limit limit.Parameters (over_M7 file) (or_limit limit.Bodies (over_M6 file) None)))) fewer
      ∙ ap (λ cs. or_limit limit.Fields (first_over MOST_FIELDS cs) (or_limit limit.Parameters (over_M7 file) (or_limit limit.Bodies (over_M6 file) None))) (sym (counts_same (declared_types file.declarations) (declared_types file.declarations)))
      ∙ ap (λ o. limit_found_by o (over_M6 file)) (sym took)
      ∙ ap (λ o. limit_found_by found.taken o) (sym extra)
    where
      limit_found_by : Option Counted → Option Counted → Option (LimitKind × Counted)
      limit_found_by a b = or_limit limit.Fields (first_over MOST_FIELDS (counts_of (resolved_types (declared_types file.declarations)) (type_names (declared_types file.declarations)))) (or_limit limit.Parameters a (or_limit limit.Bodies b None))

  pub none_false : found.fault ≡ None → (f : Fault) → IsFalseOf file f → ⊥
  none_false none f holds =
      let true_of = nothing_is_false w (file_parts file) (sym (ap (λ v. v.fault) is) ∙ none) holds.0 holds.1 in
      let both : None ≡ Some f = sym true_of ∙ holds.2 in absurd cc

-- what is surveyed of a text
module _ (tree : Tree) (is : IsSurveyed (tree_view tree)) where
  no_fault : (p : Part) → In (file_parts (tree_view tree)) p → fault_of (written_name (declared_types (tree_view tree).declarations)) p ≡ None
  no_fault p i = by (fault_of (written_name (declared_types (tree_view tree).declarations)) p) refl
    where
      by : (o : Option Fault) → fault_of (written_name (declared_types (tree_view tree).declarations)) p ≡ o → o ≡ None
      by None e = refl
      by (Some f) e = absurd (is.holds f (p, contains_in (file_parts (tree_view tree)) p i, e))

  pub surveyed_closed : PartsAreTypes (resolved_types (declared_types (tree_view tree).declarations))
  surveyed_closed = held_closed (tree_view tree) no_fault

  pub surveyed_proper : AreProper (resolved_types (declared_types (tree_view tree).declarations))
  surveyed_proper = held_proper tree no_fault

  pub surveyed_few : HaveFewParts (resolved_types (declared_types (tree_view tree).declarations))
  surveyed_few =
      let file = tree_view tree in
      let after_types = passes (over_M4 file) limit.Types (or_limit limit.Fields (over_M5 file) (or_limit limit.Parameters (over_M7 file) (or_limit limit.Bodies (over_M6 file) None))) is.within in
      let after_fields = passes (over_M5 file) limit.Fields (or_limit limit.Parameters (over_M7 file) (or_limit limit.Bodies (over_M6 file) None)) after_types.1 in
      let after_parameters = passes (over_M7 file) limit.Parameters (or_limit limit.Bodies (over_M6 file) None) after_fields.1 in
      held_few tree after_fields.0 after_parameters.0

-- ---- M8

over_M8_is : (file : File) → over_M8 (types_of file) file ≡ at_name (declared_types file.declarations) (first_over_M8 (resolved_types (declared_types file.declarations)))
unfolding types_of types_declared
over_M8_is file = first_over_is (declared_types file.declarations)

pub none_large : (file : File) → first_over_M8 (resolved_types (declared_types file.declarations)) ≡ None → over_M8 (types_of file) file ≡ None
none_large file e = over_M8_is file ∙ ap (at_name (declared_types file.declarations)) e

pub one_large : (file : File) (o : Over) (at : Span) → first_over_M8 (resolved_types (declared_types file.declarations)) ≡ Some o → slice_get (type_names (declared_types file.declarations)) o.number ≡ Some at
    → over_M8 (types_of file) file ≡ Some (counted o.count at)
one_large file o at e there = over_M8_is file ∙ ap (at_name (declared_types file.declarations)) e ∙ ap (at_span o.count) there

-- the type that is over M8 is one of these
over_declared : (known : Types) (k : ℕ) (ts : List TypeInfo) (o : Over) → first_over_from known k ts ≡ Some o → o.number < k + length ts
over_declared known k [] o e = absurd cc
over_declared known k (t ∷ ts) o e = by (beyond_M8 (counted_at known k t)) (over_declared known (suc k) ts o) e
  where
    by : (n : Option ℕ) → (first_over_from known (suc k) ts ≡ Some o → o.number < suc k + length ts) → over_at k n (first_over_from known (suc k) ts) ≡ Some o → o.number < k + length (t ∷ ts)
    by None more h = let lt = more h in omega (arith, lt)
    by (Some n) more h = let same : k ≡ o.number = ap (λ x. elim x [ None ↦ 0 | Some y ↦ y.number ]) h in omega (arith, same)

pub over_named : (ds : List Declared) (o : Over) → first_over_M8 (resolved_types ds) ≡ Some o → o.number < length (type_names ds)
over_named ds o e =
    let lt = over_declared (types_resolved (resolved_types ds)) 0 (resolved_types ds) o e in
    omega (arith, lt, length-map ds (resolved ds), length-type_names ds)

-- ---- the answers

module _ (tree : Tree) (types : List TypeInfo) (spans : List Span) (found : Survey)
    (as_types : types ≡ resolved_types (declared_types (tree_view tree).declarations)) (as_spans : spans ≡ type_names (declared_types (tree_view tree).declarations))
    (few : over_M4 (tree_view tree) ≡ None)
    (is : found ≡ notes (written_name (declared_types (tree_view tree).declarations)) nothing (file_parts (tree_view tree))) (not_cut : found.bodies ≡ 2 ^ 64 - 1 → ⊥) where
  pub limit_before : first_limit (tree_view tree) ≡ limit_found (first_over MOST_FIELDS (counts_of types spans)) found
  limit_before = first_limit_is (tree_view tree) found is not_cut few ∙ ap (λ ts. limit_found (first_over MOST_FIELDS (counts_of ts (type_names (declared_types (tree_view tree).declarations)))) found) (sym as_types) ∙ ap (λ ss. limit_found (first_over MOST_FIELDS (counts_of types ss)) found) (sym as_spans)

  pub misjudged_at : (f : Fault) → limit_found (first_over MOST_FIELDS (counts_of types spans)) found ≡ None → found.fault ≡ Some f → IsRefused (tree_view tree) (refused.BadType (code_of f.judgement) f.at)
  misjudged_at f within at =
      record {
        within = limit_before ∙ within;
        fault = f;
        is_false = inl (fault_is_false (written_name (declared_types (tree_view tree).declarations)) (file_parts (tree_view tree)) f (sym (ap (λ v. v.fault) is) ∙ at));
        coded = refl;
        placed = refl;
      }

  pub surveyed : limit_found (first_over MOST_FIELDS (counts_of types spans)) found ≡ None → found.fault ≡ None → IsSurveyed (tree_view tree)
  surveyed within none = record { within = limit_before ∙ within; holds = none_false (tree_view tree) found is not_cut none }

-- a type that contains itself has a name
pub circle_named : (ds : List Declared) (steps k : ℕ) → ContainsIn (resolved_types ds) (suc steps) k k → k < length (type_names ds)
circle_named ds steps k way =
    let lt = slice_get_within (resolved_types ds) k way.0 way.2 in
    omega (arith, lt, length-map ds (resolved ds), length-type_names ds)

pub circular_at : (file : File) (steps k : ℕ) (f : Fault) → IsSurveyed file → ContainsIn (resolved_types (declared_types file.declarations)) (suc steps) k k
    → f.judgement ≡ judgement.FiniteType → slice_get (type_names (declared_types file.declarations)) k ≡ Some f.at → IsRefused file (refused.BadType (code_of f.judgement) f.at)
circular_at file steps k f is way third there =
    record {
      within = is.within;
      fault = f;
      is_false = inr (record { number = k; steps = steps; contains_itself = way; named = there; is_third = third });
      coded = refl;
      placed = refl;
    }

judged : (file : File) → IsSurveyed file → NoneContainsItself (resolved_types (declared_types file.declarations)) → IsJudged file
judged file is apart = record {
  within = is.within;
  holds = λ f wrong. elim wrong [ inl other ↦ is.holds f other | inr circle ↦ apart circle.steps circle.number circle.contains_itself ];
}

pub has_table : (file : File) → IsSurveyed file → NoneContainsItself (resolved_types (declared_types file.declarations)) → first_over_M8 (resolved_types (declared_types file.declarations)) ≡ None → HasTable file
has_table file is apart none = record { judged = judged file is apart; small = none_large file none }

pub too_large : (file : File) (o : Over) (at : Span) → IsSurveyed file → NoneContainsItself (resolved_types (declared_types file.declarations))
    → first_over_M8 (resolved_types (declared_types file.declarations)) ≡ Some o → slice_get (type_names (declared_types file.declarations)) o.number ≡ Some at
    → IsRefused file (refused.Limit limit.TypeSlots o.count at)
too_large file o at is apart over named_at = inr (record { judged = judged file is apart; last = refl; over = one_large file o at over named_at })

-- ---- a text that has a table is refused for want of memory alone

pub tables_are_exact : TablesAreExact
tables_are_exact file has (refused.Limit which count at) (inl first) = absurd (let both : None ≡ Some (which, counted count at) = sym has.judged.within ∙ first in cc)
tables_are_exact file has (refused.Limit which count at) (inr large) = absurd (let both : None ≡ Some (counted count at) = sym has.small ∙ large.over in cc)
tables_are_exact file has (refused.BadType code at) wrong = absurd (has.judged.holds wrong.fault wrong.is_false)
tables_are_exact file has refused.Memory wrong = refl
