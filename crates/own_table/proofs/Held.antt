-- A text of which T04 and T05 hold has types that are proper.
use Rattle.std.proofs.Common.{◌≡◌, ℕ, suc, ◌+◌, Bool, true, false, List, [], ◌∷◌, ◌++◌, length, map, slice_get, None, inl, inr, refl, sym, ap, ◌∙◌, subst}
use Rattle.std.specs.Prelude.{codes, not, ◌&&◌, if◌then◌else◌}
use Rattle.std.specs.List.{list_all}
use Rattle.std.specs.Str.{bytes_eq}
use Rattle.std.proofs.lemmas.Bool.{and_from}
use Rattle.std.proofs.lemmas.List.Folds.{list_all-append}
use Rattle.own_tree.specs.declared.place.Ty.{Ty}
use Rattle.own_tree.specs.declared.span.Span.{Span}
use Rattle.own_tree.specs.declared.tree.CaseItem.{CaseItem}
use Rattle.own_tree.specs.declared.tree.Declaration.{Declaration}
use Rattle.own_tree.specs.declared.tree.Declaration.TheVariants as declaration
use Rattle.own_tree.specs.declared.tree.Field.{Field}
use Rattle.own_tree.specs.declared.tree.Name.{Name}
use Rattle.own_tree.specs.declared.tree.Tree.{Tree}
use Rattle.own_tree.specs.View.{declaration_view, tree_view}
use Rattle.own_shapes.specs.declared.info.TypeInfo.{TypeInfo}
use Rattle.own_shapes.specs.Types.{Declared, declared_types, type_number, written_type, named, resolved_field, resolved_case, resolved, resolved_types, field_types, all_case_types}
use Rattle.own_shapes.proofs.Lists.{In, get_in}
use Rattle.own_survey.specs.declared.survey.Judgement.TheVariants as judgement
use Rattle.own_survey.specs.declared.survey.Written.{Written}
use Rattle.own_survey.specs.declared.survey.Written.TheVariants as written
use Rattle.own_survey.specs.Judgements.{declared_as_written, written_name, content_fault, fault_unless, fault_of}
use Rattle.own_survey.specs.Parts.{Part, a_content, a_lifetime, file_parts}
use Rattle.own_survey.proofs.Known.{turned}
use Rattle.own_survey.proofs.PartsIn.{text_content, text_payload_content, text_deinit}
use Rattle.own_table.specs.Proper.{declares_copyable, is_copyable_among, IsProper, AreProper}
use Rattle.own_table.proofs.Resolved.{enum_fields, struct_cases}

-- ---- a name that names no noncopyable type

-- the types of the declarations from one on, each at its number
abbrev StandAt : List TypeInfo → ℕ → List Declared → Type 0
StandAt ts k [] = Unit {0}
StandAt ts k (d ∷ ds) = (declares_copyable (slice_get ts k) ≡ not d.noncopyable) × StandAt ts (suc k) ds

copyable_number : (ts : List TypeInfo) (k : ℕ) (ds : List Declared) (name : List ℕ) → StandAt ts k ds → (declared_as_written ds name ≡ written.Noncopyable → ⊥)
    → is_copyable_among ts (named (type_number k ds name)) ≡ true
copyable_number ts k [] name at plain = refl
copyable_number ts k (d ∷ ds) name at plain =
    let P : Bool → Type 0 = λ b. bytes_eq d.name.text name ≡ b → is_copyable_among ts (named (type_number k (d ∷ ds) name)) ≡ true in
    elim (bytes_eq d.name.text name) as P [
      | true ↦ λ e. (let back : bytes_eq name d.name.text ≡ true = turned name d.name.text ∙ e in
          rw e (at.0 ∙ is_plain d.noncopyable (λ f. plain (rw (back, f) refl))))
      | false ↦ λ e. (let back : bytes_eq name d.name.text ≡ false = turned name d.name.text ∙ e in rw e (copyable_number ts (suc k) ds name at.1 (λ u. plain (rw back u))))
    ] refl
  where
    is_plain : (b : Bool) → (b ≡ true → ⊥) → not b ≡ true
    is_plain true never = absurd (never refl)
    is_plain false never = refl

copyable_name : (ts : List TypeInfo) (ds : List Declared) (name : List ℕ) → StandAt ts 0 ds → (written_name ds name ≡ written.Noncopyable → ⊥)
    → is_copyable_among ts (written_type ds name) ≡ true
copyable_name ts ds name at plain =
    let P : Bool → Type 0 = λ b. bytes_eq name (codes "Int") ≡ b → is_copyable_among ts (written_type ds name) ≡ true in
    elim (bytes_eq name (codes "Int")) as P [
      | true ↦ λ e. rw e refl
      | false ↦ λ e. (let Q : Bool → Type 0 = λ b. bytes_eq name (codes "Bool") ≡ b → is_copyable_among ts (written_type ds name) ≡ true in
          elim (bytes_eq name (codes "Bool")) as Q [
            | true ↦ λ f. rw (e, f) refl
            | false ↦ λ f. rw (e, f) (copyable_number ts 0 ds name at (λ u. plain (rw (e, f) u)))
          ] refl)
    ] refl

no_fault_plain : (w : Written) (at : Span) → content_fault false w at ≡ None → w ≡ written.Noncopyable → ⊥
no_fault_plain written.Unknown at e u = absurd cc
no_fault_plain written.Copyable at e u = absurd cc
no_fault_plain written.Noncopyable at e u = absurd cc

-- ---- the parts of a type

module _ (p : Ty → Bool) (type_of : List ℕ → Ty) where
  all_fields : (fs : List Field) → ((f : Field) → In fs f → p (type_of f.written.text) ≡ true) → list_all p (field_types (map (resolved_field type_of) fs)) ≡ true
  all_fields [] each = refl
  all_fields (f ∷ fs) each =
      and_from (p (type_of f.written.text)) (list_all p (field_types (map (resolved_field type_of) fs))) (each f (inl refl)) (all_fields fs (λ g i. each g (inr i)))

  all_names : (ns : List Name) → ((m : Name) → In ns m → p (type_of m.text) ≡ true) → list_all p (map (λ m. type_of m.text) ns) ≡ true
  all_names [] each = refl
  all_names (m ∷ ns) each = and_from (p (type_of m.text)) (list_all p (map (λ x. type_of x.text) ns)) (each m (inl refl)) (all_names ns (λ g i. each g (inr i)))

  all_payloads : (cs : List CaseItem) → ((c : CaseItem) (m : Name) → In cs c → In c.payloads m → p (type_of m.text) ≡ true)
      → list_all p (all_case_types (map (resolved_case type_of) cs)) ≡ true
  all_payloads [] each = refl
  all_payloads (c ∷ cs) each =
      let here = map (λ m. type_of m.text) c.payloads in let later = all_case_types (map (resolved_case type_of) cs) in
      list_all-append p here later
      ∙ and_from (list_all p here) (list_all p later) (all_names c.payloads (λ m i. each c m (inl refl) i)) (all_payloads cs (λ d m i j. each d m (inr i) j))

  -- the stored properties of a struct, or the payloads of an enum
  pub all_parts : (is_enum : Bool) (fs : List Field) (cs : List CaseItem)
      → ((f : Field) → In fs f → p (type_of f.written.text) ≡ true) → ((c : CaseItem) (m : Name) → In cs c → In c.payloads m → p (type_of m.text) ≡ true)
      → list_all p (if is_enum then all_case_types (map (resolved_case type_of) cs) else field_types (map (resolved_field type_of) fs)) ≡ true
  all_parts true fs cs fields payloads = all_payloads cs payloads
  all_parts false fs cs fields payloads = all_fields fs fields

pub mapped : {A B : Type 0} (f : A → B) (xs : List A) (y : B) → In (map f xs) y → (x : A) × In xs x × (f x ≡ y)
mapped f [] y i = absurd i
mapped f (x ∷ xs) y (inl e) = (x, inl refl, e)
mapped f (x ∷ xs) y (inr i) = let more = mapped f xs y i in (more.0, inr more.1, more.2)

-- ---- the parts of each kind

-- a struct of a tree has no cases, and an enum no properties
pub no_properties : (xs : List Declaration) (d : Declared) → In (declared_types (map declaration_view xs)) d → d.is_enum ≡ true → d.fields ≡ []
no_properties [] d i e = absurd i
no_properties (declaration.Struct s ∷ xs) d (inl is) e = absurd (let f : false ≡ true = ap (λ x. x.is_enum) is ∙ e in cc)
no_properties (declaration.Struct s ∷ xs) d (inr i) e = no_properties xs d i e
no_properties (declaration.Enum s ∷ xs) d (inl is) e = sym (ap (λ x. x.fields) is) ∙ enum_fields s.members
no_properties (declaration.Enum s ∷ xs) d (inr i) e = no_properties xs d i e
no_properties (declaration.Function f ∷ xs) d i e = no_properties xs d i e

pub no_cases : (xs : List Declaration) (d : Declared) → In (declared_types (map declaration_view xs)) d → d.is_enum ≡ false → d.cases ≡ []
no_cases [] d i e = absurd i
no_cases (declaration.Enum s ∷ xs) d (inl is) e = absurd (let f : true ≡ false = ap (λ x. x.is_enum) is ∙ e in cc)
no_cases (declaration.Enum s ∷ xs) d (inr i) e = no_cases xs d i e
no_cases (declaration.Struct s ∷ xs) d (inl is) e = sym (ap (λ x. x.cases) is) ∙ struct_cases s.members
no_cases (declaration.Struct s ∷ xs) d (inr i) e = no_cases xs d i e
no_cases (declaration.Function f ∷ xs) d i e = no_cases xs d i e

own_deinit : (noncopyable is_enum : Bool) (at : Span) → fault_unless (noncopyable && not is_enum) judgement.Lifetime at ≡ None → (noncopyable ≡ true) × (is_enum ≡ false)
own_deinit true true at e = absurd cc
own_deinit true false at e = (refl, refl)
own_deinit false is_enum at e = absurd cc

-- the types of a list of declarations, each at its number
module _ (all : List Declared) (d : Declared) (rest : List Declared) where
  here : (xs : List Declared) → declares_copyable (slice_get (map (resolved all) xs ++ map (resolved all) (d ∷ rest)) (length xs)) ≡ not d.noncopyable
  here [] = refl
  here (x ∷ xs) = here xs

  after : (xs : List Declared) → length (xs ++ d ∷ []) ≡ suc (length xs)
  after [] = refl
  after (x ∷ xs) = ap (λ n. suc n) (after xs)

  same : (xs : List Declared) → map (resolved all) (xs ++ d ∷ []) ++ map (resolved all) rest ≡ map (resolved all) xs ++ map (resolved all) (d ∷ rest)
  same [] = refl
  same (x ∷ xs) = ap (λ ys. resolved all x ∷ ys) (same xs)

  moved : (xs : List Declared) → StandAt (map (resolved all) (xs ++ d ∷ []) ++ map (resolved all) rest) (length (xs ++ d ∷ [])) rest
      → StandAt (map (resolved all) xs ++ map (resolved all) (d ∷ rest)) (suc (length xs)) rest
  moved xs at =
      subst (λ k. StandAt (map (resolved all) xs ++ map (resolved all) (d ∷ rest)) k rest) (after xs)
      (subst (λ ts. StandAt ts (length (xs ++ d ∷ [])) rest) (same xs) at)

stand : (all front rest : List Declared) → StandAt (map (resolved all) front ++ map (resolved all) rest) (length front) rest
stand all front [] = tt
stand all front (d ∷ rest) = (here all d rest front, moved all d rest front (stand all (front ++ d ∷ []) rest))

module _ (tree : Tree)
    (hold : (p : Part) → In (file_parts (tree_view tree)) p → fault_of (written_name (declared_types (tree_view tree).declarations)) p ≡ None) where
  abbrev ds : List Declared
  ds = declared_types (tree_view tree).declarations

  stood : StandAt (resolved_types ds) 0 ds
  stood = stand ds [] ds

  plain : (d : Declared) → d.noncopyable ≡ false → (n : Name) → In (file_parts (tree_view tree)) (a_content d.noncopyable n) → is_copyable_among (resolved_types ds) (written_type ds n.text) ≡ true
  plain d e n i =
      copyable_name (resolved_types ds) ds n.text stood
      (no_fault_plain (written_name ds n.text) n.span (sym (ap (λ b. content_fault b (written_name ds n.text) n.span) e) ∙ hold (a_content d.noncopyable n) i))

  proper_one : (d : Declared) → In ds d → IsProper (resolved_types ds) (resolved ds d)
  proper_one d i = record {
    copyable_parts = λ e. all_parts (is_copyable_among (resolved_types ds)) (written_type ds) d.is_enum d.fields d.cases
        (λ f j. plain d e f.written (text_content (tree_view tree) d i f j))
        (λ c n j k. plain d e n (text_payload_content (tree_view tree) d i c n j k));
    deinit = λ e. (let at = text_deinit (tree_view tree) d i e in
        own_deinit d.noncopyable d.is_enum at.0 (hold (a_lifetime (d.noncopyable && not d.is_enum) at.0) at.1));
    no_cases = λ e. ap (map (resolved_case (written_type ds))) (no_cases tree.declarations d i e);
    no_properties = λ e. ap (map (resolved_field (written_type ds))) (no_properties tree.declarations d i e);
  }

  pub held_proper : AreProper (resolved_types ds)
  held_proper k t at =
      let found = mapped (resolved ds) ds t (get_in (resolved_types ds) k t at) in
      subst (IsProper (resolved_types ds)) found.2 (proper_one found.0 found.1)
