-- One step of the search for an order of types.
use Rattle.std.proofs.Common.{◌≡◌, ℕ, suc, ◌<◌, List, [], ◌∷◌, ◌++◌, length, set, get_or, slice_get, Some, None, inl, inr, refl, sym, ◌∙◌, subst, arith, length-append}
use Rattle.std.specs.Prelude.{vec_len}
use Rattle.std.proofs.lemmas.Bool.{ltb-true}
use Rattle.std.proofs.lemmas.Bool.Decides.{eqb_tells}
use Rattle.std.proofs.lemmas.List.Elements.{Contains-push}
use Rattle.std.proofs.lemmas.Option.{slice_get_read}
use Rattle.own_tree.specs.declared.place.Ty.TheVariants as type
use Rattle.own_shapes.specs.declared.info.TypeInfo.{TypeInfo}
use Rattle.own_table.specs.declared.mark.Mark.{Mark}
use Rattle.own_table.specs.declared.mark.Mark.TheVariants as mark
use Rattle.own_table.specs.declared.order.Settling.{Settling}
use Rattle.own_table.specs.Order.{HasPart, IsSettling, KeepsMarks, first_unsettled, work_left, IsPath}
use Rattle.own_table.specs.Settling.{Settles, SettlesWith, IsOpened, IsOpenedBelow, IsSettledAs, Keeps, work_of, work_with}
use Rattle.own_shapes.specs.Types.{contained, is_part, ContainsIn, PartsAreTypes}
use Rattle.own_shapes.proofs.Lists.{set_same, set_other, contains_in}
use Rattle.own_table.proofs.Settled.{opened, settled, circle, one_unsettled, path_longer, count_new-open, count_new-settle}
use Rattle.own_table.proofs.Whole.{all_in}

-- a write that makes no mark new keeps marks
keeps_set : (marks : List Mark) (k : ℕ) (m : Mark) → k < length marks → ((e : m ≡ mark.New) → ⊥) → KeepsMarks marks (set marks k m)
keeps_set marks k m lt not_new j e = elim (eqb_tells j k) [
  | inl same ↦
      let is : slice_get (set marks k m) k ≡ Some m = set_same marks k m lt in
      let was : slice_get (set marks k m) k ≡ Some mark.New = subst (λ x. slice_get (set marks k m) x ≡ Some mark.New) same.1 e in
      let both : Some m ≡ Some mark.New = sym is ∙ was in
      absurd (not_new cc)
  | inr other ↦ sym (set_other marks k j m other.1) ∙ e
]

work_open : (marks : List Mark) (path : List ℕ) (k : ℕ) → slice_get marks k ≡ Some mark.New → work_left (set marks k mark.Open) (path ++ k ∷ []) < work_left marks path
work_open marks path k e = omega (arith, count_new-open marks k e, length-append path (k ∷ []))

work_settle : (marks : List Mark) (path : List ℕ) (k : ℕ) → work_left (set marks k mark.Settled) path < work_left marks (path ++ k ∷ [])
work_settle marks path k = omega (arith, count_new-settle marks k, length-append path (k ∷ []))

module _ (ts : List TypeInfo) (old : Settling) (last : ℕ) (s : SettlesWith ts old last) where
  pub last_declared : last < length ts
  last_declared = s.path_declared last (Contains-push old.path.items last)

  pub last_marked : last < vec_len old.marks
  last_marked = subst (λ n. last < n) (sym (old.marks.ok.0 ∙ s.marked)) last_declared

  pub settled_last : (new : Settling) (t : TypeInfo) → slice_get ts last ≡ Some t → first_unsettled old.marks.items (contained t) ≡ None → IsSettledAs old new last → Settles ts new
  settled_last new t at none is =
      subst (λ ms. IsSettling ts ms new.path.items new.order.items) (sym is.marks)
      (subst (λ ks. IsSettling ts (set old.marks.items last mark.Settled) ks new.order.items) (sym is.path)
      (subst (λ ks. IsSettling ts (set old.marks.items last mark.Settled) old.path.items ks) (sym is.order)
      (settled ts old.marks.items old.path.items old.order.items last t s at none)))

  pub settled_less : (new : Settling) → IsSettledAs old new last → work_of new < work_with old last
  settled_less new is =
      subst (λ ms. work_left ms new.path.items < work_with old last) (sym is.marks)
      (subst (λ ks. work_left (set old.marks.items last mark.Settled) ks < work_with old last) (sym is.path) (work_settle old.marks.items old.path.items last))

  pub settled_keeps : (new : Settling) → IsSettledAs old new last → Keeps old new
  settled_keeps new is =
      subst (λ ms. KeepsMarks old.marks.items ms) (sym is.marks) (keeps_set old.marks.items last mark.Settled (subst (λ n. last < n) old.marks.ok.0 last_marked) (λ e. cc))

  -- a part that is not settled
  module _ (t : TypeInfo) (at : slice_get ts last ≡ Some t) (closed : PartsAreTypes ts) (part : ℕ) (found : first_unsettled old.marks.items (contained t) ≡ Some part) where
    is_part_of : HasPart ts last part
    is_part_of = (t, at, contains_in (contained t) (type.Named part) (one_unsettled old.marks.items (contained t) part found).0)

    pub part_declared : part < length ts
    part_declared = ltb-true part (length ts) (all_in (is_part (length ts)) (contained t) (closed last t at) (type.Named part) (one_unsettled old.marks.items (contained t) part found).0)

    pub part_marked : part < vec_len old.marks
    part_marked = subst (λ n. part < n) (sym (old.marks.ok.0 ∙ s.marked)) part_declared

    pub part_mark : (m : Mark) → m ≡ get_or old.marks.items part m → slice_get old.marks.items part ≡ Some m
    part_mark m is = slice_get_read old.marks.items (length old.marks.items) part m refl (subst (λ n. part < n) old.marks.ok.0 part_marked) is

    pub part_circle : (m : Mark) → slice_get old.marks.items part ≡ Some m → (m ≡ mark.New → ⊥) → (steps : ℕ) × ContainsIn ts (suc steps) part part
    part_circle mark.New e not_new = absurd (not_new refl)
    part_circle mark.Settled e not_new = absurd ((one_unsettled old.marks.items (contained t) part found).1 e)
    part_circle mark.Open e not_new = circle ts old.path.items last part s.connected (s.open_on_path part e) is_part_of

    pub opened_part : (new : Settling) → IsOpenedBelow old new last part → Settles ts new
    opened_part new is =
        subst (λ ms. IsSettling ts ms new.path.items new.order.items) (sym is.marks)
        (subst (λ ks. IsSettling ts (set old.marks.items part mark.Open) ks new.order.items) (sym is.path)
        (subst (λ ks. IsSettling ts (set old.marks.items part mark.Open) ((old.path.items ++ last ∷ []) ++ part ∷ []) ks) (sym is.order)
        (opened ts old.marks.items (old.path.items ++ last ∷ []) old.order.items part s part_declared (path_longer ts old.path.items last part s.connected is_part_of))))

    pub opened_less : (new : Settling) → slice_get old.marks.items part ≡ Some mark.New → IsOpenedBelow old new last part → work_of new < work_with old last
    opened_less new is_new is =
        subst (λ ms. work_left ms new.path.items < work_with old last) (sym is.marks)
        (subst (λ ks. work_left (set old.marks.items part mark.Open) ks < work_with old last) (sym is.path) (work_open old.marks.items (old.path.items ++ last ∷ []) part is_new))

    pub opened_keeps : (new : Settling) → IsOpenedBelow old new last part → Keeps old new
    opened_keeps new is =
        subst (λ ms. KeepsMarks old.marks.items ms) (sym is.marks) (keeps_set old.marks.items part mark.Open (subst (λ n. part < n) old.marks.ok.0 part_marked) (λ e. cc))

-- the first type of a path
module _ (ts : List TypeInfo) (old : Settling) (s : Settles ts old) (empty : old.path.items ≡ []) (number : ℕ) (lt : number < length ts) where
  pub first_marked : number < vec_len old.marks
  first_marked = subst (λ n. number < n) (sym (old.marks.ok.0 ∙ s.marked)) lt

  pub opened_first : (new : Settling) → IsOpened old new number → Settles ts new
  opened_first new is =
      subst (λ ms. IsSettling ts ms new.path.items new.order.items) (sym is.marks)
      (subst (λ ks. IsSettling ts (set old.marks.items number mark.Open) ks new.order.items) (sym is.path)
      (subst (λ ks. IsSettling ts (set old.marks.items number mark.Open) (old.path.items ++ number ∷ []) ks) (sym is.order)
      (opened ts old.marks.items old.path.items old.order.items number s lt (subst (λ ks. IsPath ts (ks ++ number ∷ [])) (sym empty) (tt, tt)))))

  pub opened_first_keeps : (new : Settling) → IsOpened old new number → Keeps old new
  opened_first_keeps new is =
      subst (λ ms. KeepsMarks old.marks.items ms) (sym is.marks) (keeps_set old.marks.items number mark.Open (subst (λ n. number < n) old.marks.ok.0 first_marked) (λ e. cc))

  pub opened_first_not_new : (new : Settling) → IsOpened old new number → slice_get new.marks.items number ≡ Some mark.New → ⊥
  opened_first_not_new new is e =
      let is_open : slice_get (set old.marks.items number mark.Open) number ≡ Some mark.Open = set_same old.marks.items number mark.Open (subst (λ n. number < n) old.marks.ok.0 first_marked) in
      let was : slice_get (set old.marks.items number mark.Open) number ≡ Some mark.New = subst (λ ms. slice_get ms number ≡ Some mark.New) is.marks e in
      let both : Some mark.Open ≡ Some mark.New = sym is_open ∙ was in
      absurd cc
