-- Names that are looked up in lists and maps.
use Rattle.std.proofs.Common.{◌≡◌, ℕ, Bool, true, false, cond, List, [], ◌∷◌, ◌++◌, length, take, drop, map, get_or, ◌<◌, ◌≤◌, ◌+◌, subst, Option, Some, None, refl, sym, ap, ◌∙◌, append_assoc, append-nil}
use Rattle.std.specs.Prelude.{if◌then◌else◌, Vec}
use Rattle.std.specs.Borrow.{Bor}
use Rattle.std.specs.Str.{bytes_eq}
use Rattle.std.proofs.lemmas.Slice.Eq.{bytes_eq-Decides}
use Rattle.std.proofs.lemmas.List.{map-append, map-set, take_all, take_more, drop_more}
use Rattle.std.proofs.Math.ListN.{set}
use Rattle.own_tree.specs.declared.typed.Body.{Body}
use Rattle.own_tree.specs.TypedView.{body_view}
use Rattle.indexmap.specs.IndexMap.{insert_entry}
use Rattle.own_judged.specs.Names.{Local, local_from, local_in, on_found, or_else}
use Rattle.own_survey.proofs.Known.{turned}
use Rattle.own_scope.specs.declared.frame.Frame.{Frame}
use Rattle.own_scope.specs.declared.held.Held.{Held}
use Rattle.own_scope.specs.declared.local.Bound.{Bound}
use Rattle.own_scope.specs.Held.{held_local}
use Rattle.own_scope.specs.Locals.{Entries, HasLast, entry_of, named}
use Rattle.own_scope.specs.Scopes.{frame_locals, frames_locals}

-- ---- lists

pub local_from-append : (found : Option Local) (xs ys : List Local) (name : List ℕ)
    → local_from found (xs ++ ys) name ≡ local_from (local_from found xs name) ys name
local_from-append found [] ys name = refl
local_from-append found (x ∷ xs) ys name = local_from-append (if bytes_eq x.name name then Some x else found) xs ys name

choosing : (b : Bool) (x : Local) (o found : Option Local)
    → or_else o (if b then Some x else found) ≡ or_else (or_else o (if b then Some x else None)) found
choosing true x None found = refl
choosing false x None found = refl
choosing true x (Some y) found = refl
choosing false x (Some y) found = refl

-- the last one there, and else what was found before
pub local_from-else : (found : Option Local) (xs : List Local) (name : List ℕ)
    → local_from found xs name ≡ or_else (local_in xs name) found
local_from-else found [] name = refl
local_from-else found (x ∷ xs) name =
    local_from-else (if bytes_eq x.name name then Some x else found) xs name
    ∙ choosing (bytes_eq x.name name) x (local_in xs name) found
    ∙ ap (λ o. or_else o found) (sym (local_from-else (if bytes_eq x.name name then Some x else None) xs name))

-- the names of an inner scope, and those round it
pub innermost : (xs ys : List Local) (name : List ℕ) → local_in (xs ++ ys) name ≡ or_else (local_in ys name) (local_in xs name)
innermost xs ys name = local_from-append None xs ys name ∙ local_from-else (local_in xs name) ys name

-- ---- maps

module _ {Z : Type 0} (eq : Vec ℕ Z → Vec ℕ Z → Bool) (is : (a b : Vec ℕ Z) → eq a b ≡ bytes_eq a.items b.items) where
  -- what is found after a name is bound
  pub entry-insert : (es : Entries Z) (k : Vec ℕ Z) (v : Bound) (name : List ℕ)
      → entry_of (insert_entry eq es k v) name ≡ (if bytes_eq name k.items then Some v else entry_of es name)
  entry-insert [] k v name = refl
  entry-insert (e ∷ es) k v name = by (eq k e.0) refl (entry-insert es k v name)
    where
      by : (b : Bool) → eq k e.0 ≡ b
          → entry_of (insert_entry eq es k v) name ≡ (if bytes_eq name k.items then Some v else entry_of es name)
          → entry_of (if b then (e.0, v) ∷ es else e ∷ insert_entry eq es k v) name
          ≡ (if bytes_eq name k.items then Some v else entry_of (e ∷ es) name)
      by true same rest = here (bytes_eq name e.0.items) (bytes_eq name k.items) agree
        where
          at_key : k.items ≡ e.0.items
          at_key = (bytes_eq-Decides k.items e.0.items).0 (sym (is k e.0) ∙ same)

          agree : bytes_eq name e.0.items ≡ bytes_eq name k.items
          agree = ap (bytes_eq name) (sym at_key)

          here : (a b : Bool) → a ≡ b → cond a (Some v) (entry_of es name) ≡ (if b then Some v else cond a (Some e.1) (entry_of es name))
          here true true p = refl
          here false false p = refl
          here true false p = absurd cc
          here false true p = absurd cc
      by false other rest = here (bytes_eq name e.0.items) (bytes_eq name k.items) apart rest
        where
          -- a name is not both
          apart : bytes_eq name e.0.items ≡ true → bytes_eq name k.items ≡ true → ⊥
          apart a b =
              let x = (bytes_eq-Decides name e.0.items).0 a in let y = (bytes_eq-Decides name k.items).0 b in
              let z = (bytes_eq-Decides k.items e.0.items).1 (sym y ∙ x) in
              let w : eq k e.0 ≡ true = is k e.0 ∙ z in cc

          here : (a b : Bool) → (a ≡ true → b ≡ true → ⊥)
              → entry_of (insert_entry eq es k v) name ≡ (if b then Some v else entry_of es name)
              → cond a (Some e.1) (entry_of (insert_entry eq es k v) name)
              ≡ (if b then Some v else cond a (Some e.1) (entry_of es name))
          here true true never rest = absurd (never refl refl)
          here true false never rest = refl
          here false b never rest = rest

-- ---- frames

named_last : (b : Bool) (k name : List ℕ) (v : Bound) (o : Option Bound) (found : Option Local) → bytes_eq name k ≡ b
    → on_found (named name) o ≡ found → on_found (named name) (if b then Some v else o) ≡ (if b then Some (named k v) else found)
named_last true k name v o found is rest = ap (λ n. Some (named n v)) ((bytes_eq-Decides name k).0 is)
named_last false k name v o found is rest = rest

-- one more name
pub has_more : {Z : Type 0} (eq : Vec ℕ Z → Vec ℕ Z → Bool) → ((a b : Vec ℕ Z) → eq a b ≡ bytes_eq a.items b.items)
    → (es : Entries Z) (ls : List Local) (k : Vec ℕ Z) (v : Bound) → HasLast es ls
    → HasLast (insert_entry eq es k v) (ls ++ named k.items v ∷ [])
has_more eq is es ls k v has name =
    entry_found
    ∙ named_last (bytes_eq name k.items) k.items name v (entry_of es name) (local_in ls name) refl (has name)
    ∙ sym (local_from-append None ls (named k.items v ∷ []) name ∙ ap (λ b. if b then Some (named k.items v) else local_in ls name) (turned k.items name))
  where
    entry_found : on_found (named name) (entry_of (insert_entry eq es k v) name)
        ≡ on_found (named name) (if bytes_eq name k.items then Some v else entry_of es name)
    entry_found = ap (on_found (named name)) (entry-insert eq is es k v name)

-- as a frame declares it
pub declared_more : {Z : Type 0} (eq : Vec ℕ Z → Vec ℕ Z → Bool) → ((a b : Vec ℕ Z) → eq a b ≡ bytes_eq a.items b.items)
    → (old new : Entries Z) (ls later : List Held) (k : Vec ℕ Z) (h : Held) (v : Bound) → HasLast old (map held_local ls)
    → new ≡ insert_entry eq old k v → later ≡ ls ++ h ∷ [] → h.name ≡ k.items → h.bound ≡ v
    → HasLast new (map held_local later)
declared_more eq is old new ls later k h v has at_map at_list at_name at_bound =
    subst (λ es. HasLast es (map held_local later)) (sym at_map)
    (subst (λ xs. HasLast (insert_entry eq old k v) xs) (sym names) (has_more eq is old (map held_local ls) k v has))
  where
    same : held_local h ≡ named k.items v
    same = λ i. named (at_name i) (at_bound i)

    names : map held_local later ≡ map held_local ls ++ named k.items v ∷ []
    names = ap (map held_local) at_list ∙ map-append held_local ls (h ∷ []) ∙ ap (λ l. map held_local ls ++ l ∷ []) same

-- ---- frames in order

pub frames_append : (xs ys : List (Bor Frame)) → frames_locals (xs ++ ys) ≡ frames_locals xs ++ frames_locals ys
frames_append [] ys = refl
frames_append (x ∷ xs) ys = ap (λ ls. frame_locals x.now ++ ls) (frames_append xs ys) ∙ sym (append_assoc (frame_locals x.now) (frames_locals xs) (frames_locals ys))

pub frames_push : (xs : List (Bor Frame)) (x : Bor Frame) → frames_locals (xs ++ x ∷ []) ≡ frames_locals xs ++ frame_locals x.now
frames_push xs x = frames_append xs (x ∷ []) ∙ ap (λ ls. frames_locals xs ++ ls) (append-nil (frame_locals x.now))

-- the names of one more scope
pub next_frame : (found : Option Local) (f : Bor Frame) (fs : List (Bor Frame)) (name : List ℕ)
    → local_from found (frames_locals (f ∷ fs)) name ≡ local_from (or_else (local_in (frame_locals f.now) name) found) (frames_locals fs) name
next_frame found f fs name =
    local_from-append found (frame_locals f.now) (frames_locals fs) name
    ∙ ap (λ o. local_from o (frames_locals fs) name) (local_from-else found (frame_locals f.now) name)

-- ---- bodies

pub bodies_set : (xs : List Body) (i : ℕ) (b : Body) → map body_view (set xs i b) ≡ set (map body_view xs) i (body_view b)
bodies_set xs i b = map-set body_view xs i b

-- ---- turns of loops over frames

module _ (outer items : List (Bor Frame)) (at : items ≡ outer) where
  pub find_next : (i : ℕ) (f : Bor Frame) (found inner next : Option Local) (name : List ℕ) (X : Option Local)
      → i < length items → f ≡ get_or items i f → inner ≡ local_in (frame_locals f.now) name → next ≡ or_else inner found
      → local_from found (frames_locals (drop i outer)) name ≡ X → local_from next (frames_locals (drop (i + 1) outer)) name ≡ X
  find_next i f found inner next name X lt is here later before =
      ap (λ o. local_from o (frames_locals (drop (i + 1) outer)) name) (later ∙ ap (λ o. or_else o found) here)
      ∙ sym (next_frame found f (drop (i + 1) outer) name)
      ∙ ap (λ l. local_from found (frames_locals l) name) (sym left)
      ∙ before
    where
      left : drop i outer ≡ f ∷ drop (i + 1) outer
      left =
          ap (drop i) (sym at) ∙ drop_more items i f lt ∙ ap (λ x. x ∷ drop (i + 1) items) (sym is)
          ∙ ap (λ l. f ∷ drop (i + 1) l) at

  pub frames_next : (i : ℕ) (f : Bor Frame) (frames next : List (Bor Frame)) → i < length items → f ≡ get_or items i f
      → next ≡ frames ++ f ∷ [] → frames_locals frames ≡ frames_locals (take i outer)
      → frames_locals next ≡ frames_locals (take (i + 1) outer)
  frames_next i f frames next lt is pushed before =
      ap frames_locals pushed ∙ frames_push frames f ∙ ap (λ ls. ls ++ frame_locals f.now) before
      ∙ sym (frames_push (take i outer) f) ∙ ap frames_locals (sym more)
    where
      more : take (i + 1) outer ≡ take i outer ++ f ∷ []
      more =
          ap (take (i + 1)) (sym at) ∙ take_more items i f lt ∙ ap (λ x. take i items ++ x ∷ []) (sym is)
          ∙ ap (λ l. take i l ++ f ∷ []) at

  pub frames_end : (i : ℕ) (f : Bor Frame) (frames next : List (Bor Frame)) → length items ≤ i
      → next ≡ frames ++ f ∷ [] → frames_locals frames ≡ frames_locals (take i outer)
      → frames_locals next ≡ frames_locals outer ++ frame_locals f.now
  frames_end i f frames next past pushed before =
      ap frames_locals pushed ∙ frames_push frames f
      ∙ ap (λ ls. ls ++ frame_locals f.now) (before ∙ ap frames_locals (ap (take i) (sym at) ∙ take_all i items past ∙ at))
