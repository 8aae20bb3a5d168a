-- A map of names knows the first type of each name, and so what each name names.
use Rattle.std.proofs.Common.{◌≡◌, ℕ, suc, ◌+◌, ◌<◌, ◌≤◌, Bool, true, false, List, [], ◌∷◌, ◌++◌, length, map, take, drop, get_or, Option, Some, None, refl, sym, ap, ◌∙◌, arith, length-append}
use Rattle.std.specs.Prelude.{if◌then◌else◌, codes, is_some}
use Rattle.std.specs.Borrow.{Bor}
use Rattle.std.specs.Map.{lookup}
use Rattle.std.specs.Option.{option_or}
use Rattle.std.specs.Str.{bytes_eq}
use Rattle.std.proofs.lemmas.List.{take_more, take-append-drop, map-append}
use Rattle.std.proofs.lemmas.Slice.Eq.{bytes_eq-Decides}
use Rattle.own_tree.specs.declared.limits.TheConstants.{MOST_TYPES}
use Rattle.own_tree.specs.declared.place.Ty.{Ty}
use Rattle.own_tree.specs.declared.place.Ty.TheVariants as type
use Rattle.own_tree.specs.declared.tree.Declaration.{Declaration}
use Rattle.own_tree.specs.Source.{Decl, struct_of, enum_of, function}
use Rattle.own_tree.specs.View.{declaration_view}
use Rattle.own_survey.specs.declared.names.NamedType.{NamedType}
use Rattle.own_survey.specs.declared.names.TypeNames.{TypeNames}
use Rattle.own_survey.specs.declared.survey.Written.{Written}
use Rattle.own_survey.specs.declared.survey.Written.TheVariants as written
use Rattle.own_survey.specs.Judgements.{declared_as_written, written_name}
use Rattle.own_survey.specs.Names.{Entries, entry_of, first_named, Knows, AddsName, Adds, written_by, written_in, type_by, type_in}
use Rattle.own_shapes.specs.Types.{Declared, declared_types, declared_as, type_number, named, written_type}

same_answer : (a b : Bool) → (a ≡ true → b ≡ true) → (b ≡ true → a ≡ true) → a ≡ b
same_answer true b f g = sym (f refl)
same_answer false true f g = g refl
same_answer false false f g = refl

pub turned : (xs ys : List ℕ) → bytes_eq xs ys ≡ bytes_eq ys xs
turned xs ys =
    let there = bytes_eq-Decides xs ys in let back = bytes_eq-Decides ys xs in
    same_answer (bytes_eq xs ys) (bytes_eq ys xs) (λ e. back.1 (sym (there.0 e))) (λ e. there.1 (sym (back.0 e)))

pub none_there : {X : Type 0} (o : Option X) → is_some o ≡ false → o ≡ None
none_there None e = refl
none_there (Some x) e = absurd cc

-- ---- names in a map, in order

chosen : {A : Type 0} (b : Bool) (x : A) (o p : Option A) → (if b then Some x else option_or o p) ≡ option_or (if b then Some x else o) p
chosen true x o p = refl
chosen false x o p = refl

lookup-append : {K X : Type 0} (test : K → Bool) (es fs : List (K × X)) → lookup test (es ++ fs) ≡ option_or (lookup test es) (lookup test fs)
lookup-append test [] fs = refl
lookup-append test (e ∷ es) fs = rw (lookup-append test es fs) (chosen (test e.0) e.1 (lookup test es) (lookup test fs))

-- a name that was not there is added
pub name_added : (old : Entries) (name : Bor (List ℕ)) (type : NamedType) → AddsName old (old ++ (name, type) ∷ []) name.now type
name_added old name type wanted = lookup-append (λ k. bytes_eq wanted k.now) old ((name, type) ∷ [])

-- ---- more declarations

first_named-append : (before : ℕ) (ds es : List Declared) (name : List ℕ)
    → first_named before (ds ++ es) name ≡ option_or (first_named before ds name) (first_named (before + length ds) es name)
first_named-append before [] es name = ap (λ n. first_named n es name) (let z : before ≡ before + 0 = omega arith in z)
first_named-append before (d ∷ ds) es name =
    ap (λ o. if bytes_eq name d.name.text then Some (record { number = before; noncopyable = d.noncopyable }) else o)
    (first_named-append (suc before) ds es name
    ∙ ap (λ n. option_or (first_named (suc before) ds name) (first_named n es name)) (let z : suc before + length ds ≡ before + suc (length ds) = omega arith in z))
    ∙ chosen (bytes_eq name d.name.text) (record { number = before; noncopyable = d.noncopyable }) (first_named (suc before) ds name) (first_named (before + suc (length ds)) es name)

pub declared_types-append : (xs ys : List Decl) → declared_types (xs ++ ys) ≡ declared_types xs ++ declared_types ys
declared_types-append [] ys = refl
declared_types-append (struct_of s name noncopyable ms ∷ xs) ys = ap (λ ds. declared_as false name noncopyable ms ∷ ds) (declared_types-append xs ys)
declared_types-append (enum_of s name noncopyable ms ∷ xs) ys = ap (λ ds. declared_as true name noncopyable ms ∷ ds) (declared_types-append xs ys)
declared_types-append (function f ∷ xs) ys = declared_types-append xs ys

-- one turn of the loop over the declarations
module _ (xs : List Declaration) (i : ℕ) (x : Declaration) (lt : i < length xs) (is : x ≡ get_or xs i x) where
  abbrev front : List Declared
  front = declared_types (map declaration_view (take i xs))

  more : declared_types (map declaration_view (take (i + 1) xs)) ≡ front ++ declared_types (declaration_view x ∷ [])
  more =
      ap (λ l. declared_types (map declaration_view l)) (take_more xs i x lt)
      ∙ ap (λ y. declared_types (map declaration_view (take i xs ++ y ∷ []))) (sym is)
      ∙ ap declared_types (map-append declaration_view (take i xs) (x ∷ []))
      ∙ declared_types-append (map declaration_view (take i xs)) (declaration_view x ∷ [])

  pub knows_next : (old new : Entries) (count : ℕ) → Knows old front → count ≡ length front → Adds old new count (declared_types (declaration_view x ∷ []))
      → Knows new (declared_types (map declaration_view (take (i + 1) xs)))
  knows_next old new count knows counted adds name =
      adds name
      ∙ ap (λ o. option_or o (first_named count (declared_types (declaration_view x ∷ [])) name)) (knows name)
      ∙ ap (λ n. option_or (first_named 0 front name) (first_named n (declared_types (declaration_view x ∷ [])) name)) (counted ∙ (let z : length front ≡ 0 + length front = omega arith in z))
      ∙ sym (first_named-append 0 front (declared_types (declaration_view x ∷ [])) name)
      ∙ ap (λ ds. first_named 0 ds name) (sym more)

  pub counted_next : (count next : ℕ) → count ≡ length front → next ≡ count + length (declared_types (declaration_view x ∷ []))
      → next ≡ length (declared_types (map declaration_view (take (i + 1) xs)))
  counted_next count next counted becomes =
      becomes ∙ ap (λ n. n + length (declared_types (declaration_view x ∷ []))) counted ∙ sym (length-append front (declared_types (declaration_view x ∷ []))) ∙ ap length (sym more)

-- a front has no more types
declared_front : (xs : List Declaration) (i : ℕ) → length (declared_types (map declaration_view (take i xs))) ≤ length (declared_types (map declaration_view xs))
declared_front xs i =
    let front = declared_types (map declaration_view (take i xs)) in
    let back = declared_types (map declaration_view (drop i xs)) in
    let all : declared_types (map declaration_view xs) ≡ front ++ back =
    ap (λ l. declared_types (map declaration_view l)) (sym (take-append-drop i xs))
    ∙ ap declared_types (map-append declaration_view (take i xs) (drop i xs))
    ∙ declared_types-append (map declaration_view (take i xs)) (map declaration_view (drop i xs)) in
    omega (arith, length-append front back, ap length all)

pub count_fits : (xs : List Declaration) (i count : ℕ) → count ≡ length (declared_types (map declaration_view (take i xs))) → length (declared_types (map declaration_view xs)) ≤ MOST_TYPES → count ≤ MOST_TYPES
count_fits xs i count counted few = omega (arith, counted, few, declared_front xs i)

-- ---- what a name names

written_is : (before : ℕ) (ds : List Declared) (name : List ℕ) → written_by (first_named before ds name) ≡ declared_as_written ds name
written_is before [] name = refl
written_is before (d ∷ ds) name = by (bytes_eq name d.name.text) (written_is (suc before) ds name)
  where
    by : (b : Bool) → written_by (first_named (suc before) ds name) ≡ declared_as_written ds name
        → written_by (if b then Some (record { number = before; noncopyable = d.noncopyable }) else first_named (suc before) ds name)
        ≡ (if b then (if d.noncopyable then written.Noncopyable else written.Copyable) else declared_as_written ds name)
    by true rest = refl
    by false rest = rest

type_is : (before : ℕ) (ds : List Declared) (name : List ℕ) → type_by (first_named before ds name) ≡ named (type_number before ds name)
type_is before [] name = refl
type_is before (d ∷ ds) name =
    by (bytes_eq name d.name.text) (type_is (suc before) ds name)
    ∙ ap (λ b. named (if b then Some before else type_number (suc before) ds name)) (turned name d.name.text)
  where
    by : (b : Bool) → type_by (first_named (suc before) ds name) ≡ named (type_number (suc before) ds name)
        → type_by (if b then Some (record { number = before; noncopyable = d.noncopyable }) else first_named (suc before) ds name)
        ≡ named (if b then Some before else type_number (suc before) ds name)
    by true rest = refl
    by false rest = rest

module _ (names : TypeNames) (ds : List Declared) (knows : Knows names.types.entries ds) (name : List ℕ) where
  pub written_known : written_in names name ≡ written_name ds name
  written_known =
      ap (λ x. if bytes_eq name (codes "Int") then written.Copyable else (if bytes_eq name (codes "Bool") then written.Copyable else x))
      (ap written_by (knows name) ∙ written_is 0 ds name)

  pub type_known : type_in names name ≡ written_type ds name
  type_known =
      ap (λ x. if bytes_eq name (codes "Int") then type.Int else (if bytes_eq name (codes "Bool") then type.Bool else x))
      (ap type_by (knows name) ∙ type_is 0 ds name)
