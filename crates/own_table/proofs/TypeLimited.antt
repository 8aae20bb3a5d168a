-- The first type over M8 by its number is the one that the limit names.
use Rattle.std.proofs.Common.{◌≡◌, ℕ, suc, ◌+◌, ◌<◌, Bool, true, false, List, [], ◌∷◌, ◌++◌, length, map, take, get_or, slice_get, Option, Some, None, refl, sym, ap, ◌∙◌, subst, arith, append_assoc, length-append}
use Rattle.std.specs.Prelude.{nat_lt, if◌then◌else◌}
use Rattle.std.proofs.lemmas.List.{length-map, map-append}
use Rattle.own_tree.specs.declared.limits.TheConstants.{MOST_TYPE_SLOTS}
use Rattle.own_tree.specs.declared.place.Ty.TheVariants as type
use Rattle.own_tree.specs.declared.tree.Declaration.{Declaration}
use Rattle.own_tree.specs.View.{declaration_view}
use Rattle.own_table.specs.declared.extent.Over.{Over}
use Rattle.own_table.specs.Extents.{beyond_M8, over_at, first_over_from, first_over_M8}
use Rattle.own_shapes.specs.declared.counted.Counted.{Counted}
use Rattle.own_shapes.specs.Counts.{counted, first_over}
use Rattle.own_survey.specs.Limits.{type_names, part_counts, are_within, slot_counts}
use Rattle.own_table.specs.TypeLimits.{at_span, at_name, part_count, counts_of}
use Rattle.own_shapes.specs.Types.{Types, Declared, declared_types, written_type, resolved_field, resolved_case, slots, contained, resolved, resolved_types, types_resolved}
use Rattle.own_survey.proofs.Known.{declared_types-append}
use Rattle.own_table.proofs.Resolved.{more_of}

name_at : (before : List Declared) (d : Declared) (after : List Declared) → slice_get (type_names (before ++ d ∷ after)) (length before) ≡ Some d.name.span
name_at [] d after = refl
name_at (b ∷ before) d after = name_at before d after

module _ (types : Types) where
  by_number : (all before rest : List Declared) → all ≡ before ++ rest
      → first_over MOST_TYPE_SLOTS (slot_counts types MOST_TYPE_SLOTS all (length before) rest) ≡ at_name all (first_over_from types (length before) (map (resolved all) rest))
  by_number all before [] e = refl
  by_number all before (d ∷ ds) e =
      by_parts (are_within types MOST_TYPE_SLOTS (contained (resolved all d)))
      (let longer : length (before ++ d ∷ []) ≡ suc (length before) = omega (arith, length-append before (d ∷ [])) in
      subst (λ k. first_over MOST_TYPE_SLOTS (slot_counts types MOST_TYPE_SLOTS all k ds) ≡ at_name all (first_over_from types k (map (resolved all) ds))) longer
      (by_number all (before ++ d ∷ []) ds (e ∙ sym (append_assoc before (d ∷ []) ds))))
    where
      n : ℕ
      n = slots (types.shape (type.Named (length before)))

      rest : List Counted
      rest = slot_counts types MOST_TYPE_SLOTS all (suc (length before)) ds

      rest_over : Option Over
      rest_over = first_over_from types (suc (length before)) (map (resolved all) ds)

      at_d : slice_get (type_names all) (length before) ≡ Some d.name.span
      at_d = ap (λ x. slice_get (type_names x) (length before)) e ∙ name_at before d ds

      by_size : (l : Bool) → first_over MOST_TYPE_SLOTS rest ≡ at_name all rest_over
          → (if l then Some (counted n d.name.span) else first_over MOST_TYPE_SLOTS rest) ≡ at_name all (over_at (length before) (if l then Some n else None) rest_over)
      by_size true after = sym (ap (at_span n) at_d)
      by_size false after = after

      by_parts : (b : Bool) → first_over MOST_TYPE_SLOTS rest ≡ at_name all rest_over
          → first_over MOST_TYPE_SLOTS (if b then counted n d.name.span ∷ rest else rest) ≡ at_name all (over_at (length before) (beyond_M8 (if b then Some n else None)) rest_over)
      by_parts true after = by_size (nat_lt MOST_TYPE_SLOTS n) after
      by_parts false after = after

-- of the declared types of a text
pub first_over_is : (ds : List Declared)
    → first_over MOST_TYPE_SLOTS (slot_counts (types_resolved (resolved_types ds)) MOST_TYPE_SLOTS ds 0 ds) ≡ at_name ds (first_over_M8 (resolved_types ds))
first_over_is ds = by_number (types_resolved (resolved_types ds)) ds [] ds refl

-- ---- the names of the types

type_names-append : (xs ys : List Declared) → type_names (xs ++ ys) ≡ type_names xs ++ type_names ys
type_names-append [] ys = refl
type_names-append (x ∷ xs) ys = ap (λ ss. x.name.span ∷ ss) (type_names-append xs ys)

pub names_more : (xs : List Declaration) (i : ℕ) (x : Declaration) → i < length xs → x ≡ get_or xs i x
    → type_names (declared_types (map declaration_view (take (i + 1) xs))) ≡ type_names (declared_types (map declaration_view (take i xs))) ++ type_names (declared_types (declaration_view x ∷ []))
names_more = more_of (λ ds. type_names (declared_types (map declaration_view ds))) (λ xs ys.
    ap (λ ds. type_names (declared_types ds)) (map-append declaration_view xs ys)
    ∙ ap type_names (declared_types-append (map declaration_view xs) (map declaration_view ys))
    ∙ type_names-append (declared_types (map declaration_view xs)) (declared_types (map declaration_view ys)))

-- M5 by the resolved declarations is M5
count_same : (all : List Declared) (d : Declared) → part_count (resolved all d) ≡ (if d.is_enum then length d.cases else length d.fields)
count_same all d =
    ap (λ n. if d.is_enum then n else length (map (resolved_field (written_type all)) d.fields)) (length-map d.cases (resolved_case (written_type all)))
    ∙ ap (λ n. if d.is_enum then length d.cases else n) (length-map d.fields (resolved_field (written_type all)))

pub counts_same : (all ds : List Declared) → counts_of (map (resolved all) ds) (type_names ds) ≡ part_counts ds
counts_same all [] = refl
counts_same all (d ∷ ds) =
    ap (λ n. counted n d.name.span ∷ counts_of (map (resolved all) ds) (type_names ds)) (count_same all d)
    ∙ ap (λ cs. counted (if d.is_enum then length d.cases else length d.fields) d.name.span ∷ cs) (counts_same all ds)

pub length-type_names : (ds : List Declared) → length (type_names ds) ≡ length ds
length-type_names [] = refl
length-type_names (d ∷ ds) = ap (λ n. suc n) (length-type_names ds)
