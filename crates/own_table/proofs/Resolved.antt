-- The declarations of a tree, with each name resolved, part by part.
use Rattle.std.proofs.Common.{◌≡◌, ℕ, ◌+◌, ◌<◌, Bool, List, [], ◌∷◌, ◌++◌, length, map, take, get_or, refl, sym, ap, ◌∙◌, append_assoc}
use Rattle.std.specs.List.{list_any}
use Rattle.std.proofs.lemmas.List.{take_more, map-append}
use Rattle.own_tree.specs.declared.place.Ty.{Ty}
use Rattle.own_tree.specs.declared.tree.Declaration.{Declaration}
use Rattle.own_tree.specs.declared.tree.EnumMember.{EnumMember}
use Rattle.own_tree.specs.declared.tree.EnumMember.TheVariants as enum_member
use Rattle.own_tree.specs.declared.tree.StructMember.{StructMember}
use Rattle.own_tree.specs.declared.tree.StructMember.TheVariants as struct_member
use Rattle.own_tree.specs.Source.{Decl, Member, field, initializer, deinitializer, method, cases}
use Rattle.own_tree.specs.View.{declaration_view, enum_member_view, struct_member_view}
use Rattle.own_shapes.specs.declared.info.CaseInfo.{CaseInfo}
use Rattle.own_shapes.specs.declared.info.FieldInfo.{FieldInfo}
use Rattle.own_shapes.specs.declared.info.TypeInfo.{TypeInfo}
use Rattle.own_survey.specs.declared.names.TypeNames.{TypeNames}
use Rattle.own_survey.specs.Names.{Knows, type_in}
use Rattle.own_table.specs.Resolving.{member_fields, member_cases, declared_infos, is_deinitializer}
use Rattle.own_shapes.specs.Types.{declared_types, fields_of, cases_of, has_deinit, written_type, resolved_field, resolved_case, resolved_by, resolved_types}
use Rattle.own_survey.proofs.Known.{declared_types-append, type_known}

pub more_of : {X Y : Type 0} (F : List X → List Y) → ((xs ys : List X) → F (xs ++ ys) ≡ F xs ++ F ys) → (xs : List X) (i : ℕ) (x : X) → i < length xs → x ≡ get_or xs i x
    → F (take (i + 1) xs) ≡ F (take i xs) ++ F (x ∷ [])
more_of F joins xs i x lt is =
    ap F (take_more xs i x lt) ∙ ap (λ y. F (take i xs ++ y ∷ [])) (sym is) ∙ joins (take i xs) (x ∷ [])

-- ---- members

fields_of-append : (xs ys : List Member) → fields_of (xs ++ ys) ≡ fields_of xs ++ fields_of ys
fields_of-append [] ys = refl
fields_of-append (field f ∷ xs) ys = ap (λ fs. f ∷ fs) (fields_of-append xs ys)
fields_of-append (initializer s ps b ∷ xs) ys = fields_of-append xs ys
fields_of-append (deinitializer s b ∷ xs) ys = fields_of-append xs ys
fields_of-append (method s mode f ∷ xs) ys = fields_of-append xs ys
fields_of-append (cases s cs ∷ xs) ys = fields_of-append xs ys

cases_of-append : (xs ys : List Member) → cases_of (xs ++ ys) ≡ cases_of xs ++ cases_of ys
cases_of-append [] ys = refl
cases_of-append (field f ∷ xs) ys = cases_of-append xs ys
cases_of-append (initializer s ps b ∷ xs) ys = cases_of-append xs ys
cases_of-append (deinitializer s b ∷ xs) ys = cases_of-append xs ys
cases_of-append (method s mode f ∷ xs) ys = cases_of-append xs ys
cases_of-append (cases s cs ∷ xs) ys = ap (λ rest. cs ++ rest) (cases_of-append xs ys) ∙ sym (append_assoc cs (cases_of xs) (cases_of ys))

pub has_deinit_any : (ms : List Member) → has_deinit ms ≡ list_any is_deinitializer ms
has_deinit_any [] = refl
has_deinit_any (field f ∷ ms) = has_deinit_any ms
has_deinit_any (initializer s ps b ∷ ms) = has_deinit_any ms
has_deinit_any (deinitializer s b ∷ ms) = refl
has_deinit_any (method s mode f ∷ ms) = has_deinit_any ms
has_deinit_any (cases s cs ∷ ms) = has_deinit_any ms

-- a struct has no cases, and an enum no properties
pub struct_cases : (ms : List StructMember) → cases_of (map struct_member_view ms) ≡ []
struct_cases [] = refl
struct_cases (struct_member.Field f ∷ ms) = struct_cases ms
struct_cases (struct_member.Initializer i ∷ ms) = struct_cases ms
struct_cases (struct_member.Deinitializer d ∷ ms) = struct_cases ms
struct_cases (struct_member.Method m ∷ ms) = struct_cases ms

pub enum_fields : (ms : List EnumMember) → fields_of (map enum_member_view ms) ≡ []
enum_fields [] = refl
enum_fields (enum_member.Cases s items ∷ ms) = enum_fields ms
enum_fields (enum_member.Deinitializer d ∷ ms) = enum_fields ms
enum_fields (enum_member.Method m ∷ ms) = enum_fields ms

abbrev info : Bool → Bool → List ℕ → Bool → List FieldInfo → List CaseInfo → TypeInfo
info is_enum noncopyable n d fs cs = record { name = n; is_enum = is_enum; noncopyable = noncopyable; has_deinit = d; fields = fs; cases = cs }

pub same_info : (is_enum noncopyable : Bool) (n m : List ℕ) (d e : Bool) (fs gs : List FieldInfo) (cs ds : List CaseInfo) → n ≡ m → d ≡ e → fs ≡ gs → cs ≡ ds
    → info is_enum noncopyable n d fs cs ≡ info is_enum noncopyable m e gs ds
same_info is_enum noncopyable n m d e fs gs cs ds same_name same_deinit same_fields same_cases =
    ap (λ x. info is_enum noncopyable x d fs cs) same_name
    ∙ ap (λ x. info is_enum noncopyable m x fs cs) same_deinit
    ∙ ap (λ x. info is_enum noncopyable m e x cs) same_fields
    ∙ ap (λ x. info is_enum noncopyable m e gs x) same_cases

module _ (type_of : List ℕ → Ty) where
  pub struct_fields_more : (xs : List StructMember) (i : ℕ) (x : StructMember) → i < length xs → x ≡ get_or xs i x
      → member_fields type_of (map struct_member_view (take (i + 1) xs)) ≡ member_fields type_of (map struct_member_view (take i xs)) ++ member_fields type_of (struct_member_view x ∷ [])
  struct_fields_more = more_of (λ ms. member_fields type_of (map struct_member_view ms)) (λ xs ys.
      ap (member_fields type_of) (map-append struct_member_view xs ys)
      ∙ ap (map (resolved_field type_of)) (fields_of-append (map struct_member_view xs) (map struct_member_view ys))
      ∙ map-append (resolved_field type_of) (fields_of (map struct_member_view xs)) (fields_of (map struct_member_view ys)))

  pub enum_cases_more : (xs : List EnumMember) (i : ℕ) (x : EnumMember) → i < length xs → x ≡ get_or xs i x
      → member_cases type_of (map enum_member_view (take (i + 1) xs)) ≡ member_cases type_of (map enum_member_view (take i xs)) ++ member_cases type_of (enum_member_view x ∷ [])
  enum_cases_more = more_of (λ ms. member_cases type_of (map enum_member_view ms)) (λ xs ys.
      ap (member_cases type_of) (map-append enum_member_view xs ys)
      ∙ ap (map (resolved_case type_of)) (cases_of-append (map enum_member_view xs) (map enum_member_view ys))
      ∙ map-append (resolved_case type_of) (cases_of (map enum_member_view xs)) (cases_of (map enum_member_view ys)))

  pub infos_more : (xs : List Declaration) (i : ℕ) (x : Declaration) → i < length xs → x ≡ get_or xs i x
      → declared_infos type_of (map declaration_view (take (i + 1) xs)) ≡ declared_infos type_of (map declaration_view (take i xs)) ++ declared_infos type_of (declaration_view x ∷ [])
  infos_more = more_of (λ ds. declared_infos type_of (map declaration_view ds)) (λ xs ys.
      ap (declared_infos type_of) (map-append declaration_view xs ys)
      ∙ ap (map (resolved_by type_of)) (declared_types-append (map declaration_view xs) (map declaration_view ys))
      ∙ map-append (resolved_by type_of) (declared_types (map declaration_view xs)) (declared_types (map declaration_view ys)))

-- ---- by what the names stand for

pub by_names : (ds : List Decl) (names : TypeNames) → Knows names.types.entries (declared_types ds) → declared_infos (type_in names) ds ≡ resolved_types (declared_types ds)
by_names ds names knows = ap (λ type_of. map (resolved_by type_of) (declared_types ds)) same
  where
    same : type_in names ≡ written_type (declared_types ds)
    same = λ i. λ name. type_known names (declared_types ds) knows name i
