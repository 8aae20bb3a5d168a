-- What is known at a place stays known behind it, and what a name stands for there is known.
use Rattle.std.specs.Prelude.{◌≡◌, ℕ, suc, Bool, true, false, ◌⊎◌, List, [], ◌∷◌, ◌++◌, Option, Some, None, slice_get, codes, if◌then◌else◌}
use Rattle.std.specs.Str.{bytes_eq}
use Rattle.std.proofs.Common.{refl, inl, inr, subst}
use Rattle.own_tree.specs.declared.place.Ty.{Ty}
use Rattle.own_tree.specs.declared.place.Ty.TheVariants as type
use Rattle.own_tree.specs.declared.typed.BodyKind.TheVariants as kind
use Rattle.own_tree.specs.TypedSource.{TBody, Program}
use Rattle.own_judged.specs.Names.{Local, Self, Scope, with_locals, inside_loop, inside_switch, inside_closure, Seen, a_local, a_property, a_method, a_function, the_print, the_read_int, a_type, local_from, local_in, or_else, on_found, built_in, property, of_owner, seen}
use Rattle.own_judged.specs.Text.{Text}
use Rattle.own_known.specs.Known.{NamesOf}
use Rattle.own_known.specs.Surroundings.{IsKnown, TextKnown, LocalKnown, LocalsKnown, SelfKnown, ScopeKnown, SeenKnown}

-- ---- look-ups

pub first_or_second : {A : Type 0} (o p : Option A) (x : A) → or_else o p ≡ Some x → (o ≡ Some x) ⊎ (p ≡ Some x)
first_or_second (Some y) p x e = inl e
first_or_second None p x e = inr e

pub found_by :
    {A B : Type 0} (f : A → B) (o : Option A) (y : B) → on_found f o ≡ Some y → (x : A) × (o ≡ Some x) × (f x ≡ y)
found_by f (Some x) y e = (x, refl, cc)
found_by f None y e = absurd (cc)

module _ (text : Text) (program : Program) where
  -- ---- locals

  pub joined :
      (k : ℕ) (ls ms : List Local) → LocalsKnown text program k ls → LocalsKnown text program k ms
      → LocalsKnown text program k (ls ++ ms)
  joined k [] ms a b = b
  joined k (l ∷ ls) ms a b = (a.0, joined k ls ms a.1 b)

  OneKnown : ℕ → Option Local → Type 0
  OneKnown k o = (l : Local) → o ≡ Some l → LocalKnown text program k l

  chosen_known :
      (k : ℕ) (b : Bool) (l : Local) (o : Option Local) → LocalKnown text program k l → OneKnown k o
      → OneKnown k (if b then Some l else o)
  unfolding OneKnown
  chosen_known k true l o known before m e = subst (LocalKnown text program k) (some_same l m e) known
    where
      some_same : (a b : Local) → Some a ≡ Some b → a ≡ b
      some_same a b e = cc
  chosen_known k false l o known before m e = before m e

  last_known :
      (k : ℕ) (o : Option Local) (ls : List Local) (name : List ℕ) → OneKnown k o → LocalsKnown text program k ls
      → OneKnown k (local_from o ls name)
  last_known k o [] name before known = before
  last_known k o (l ∷ ls) name before known =
      last_known k (if bytes_eq l.name name then Some l else o) ls name
      (chosen_known k (bytes_eq l.name name) l o known.0 before) known.1

  pub local_known :
      (k : ℕ) (ls : List Local) (name : List ℕ) (l : Local) → LocalsKnown text program k ls
      → local_in ls name ≡ Some l → LocalKnown text program k l
  unfolding OneKnown
  local_known k ls name l known e = last_known k None ls name (λ l e. absurd (cc)) known l e

  -- ---- scopes

  pub behind :
      (scope : Scope) (ls : List Local) → ScopeKnown text program scope → LocalsKnown text program scope.body ls
      → ScopeKnown text program (with_locals scope ls)
  behind scope ls known more = record {
    locals = joined scope.body scope.locals ls known.locals more;
    self = known.self;
    gives_back = known.gives_back;
    result = known.result;
  }

  pub in_loop : (scope : Scope) → ScopeKnown text program scope → ScopeKnown text program (inside_loop scope)
  in_loop scope known =
      record { locals = known.locals; self = known.self; gives_back = known.gives_back; result = known.result }

  pub in_switch : (scope : Scope) → ScopeKnown text program scope → ScopeKnown text program (inside_switch scope)
  in_switch scope known =
      record { locals = known.locals; self = known.self; gives_back = known.gives_back; result = known.result }

  -- ---- closures

  module _
      (j k : ℕ) (body : TBody) (there : slice_get program.bodies j ≡ Some body)
      (round : body.kind ≡ kind.Closure k) where
    deeper : (x : ℕ) (ty : Ty) → NamesOf text program k x ty → NamesOf text program j x ty
    deeper x ty n = (n.0, (n.1.0, (suc n.1.1.0, (body, k, there, round, n.1.1.1))), n.2)

    all_deeper : (ls : List Local) → LocalsKnown text program k ls → LocalsKnown text program j ls
    all_deeper [] known = tt
    all_deeper (l ∷ ls) known = ((deeper l.binding l.ty known.0.0, known.0.1), all_deeper ls known.1)

    self_deeper :
        (owner : Option ℕ) (me : Option Self) → SelfKnown text program k owner me → SelfKnown text program j owner me
    self_deeper owner None known = tt
    self_deeper owner (Some me) known = (deeper me.binding me.ty known.0, known.1, known.2)

  pub in_closure :
      (scope : Scope) (j : ℕ) (body : TBody) (ls : List Local) → slice_get program.bodies j ≡ Some body
      → body.kind ≡ kind.Closure scope.body → IsKnown text program body.result → ScopeKnown text program scope
      → LocalsKnown text program j ls → ScopeKnown text program (inside_closure scope j body.result ls)
  in_closure scope j body ls there round result known more = record {
    locals = joined j scope.locals ls (all_deeper j scope.body body there round scope.locals known.locals) more;
    self = self_deeper j scope.body body there round scope.owner scope.self known.self;
    gives_back = (body, there, refl);
    result = result;
  }

  -- ---- names

  module _
      (texts : TextKnown text program) (scope : Scope) (known : ScopeKnown text program scope) (name : List ℕ) where
    abbrev Fine : Seen → Type 0
    Fine x = SeenKnown text program scope x

    owners : (o : Option ℕ) (x : Seen) → scope.owner ≡ o → of_owner text o name ≡ Some x → Fine x
    owners None x at_owner e = absurd (cc)
    owners (Some t) x at_owner e =
        elim (first_or_second (on_found (λ p. a_property p.0 p.1) (property text (type.Named t) name))
        (on_found a_method (text.method t name)) x e) [
          | inl p ↦ let r =
              found_by (λ p. a_property p.0 p.1) (property text (type.Named t) name) x p in subst Fine r.2
              (t, at_owner, texts.property (type.Named t) name r.0 r.1)
          | inr m ↦ let r =
              found_by a_method (text.method t name) x m in subst Fine r.2
              (t, name, at_owner, r.1, texts.method t name r.0 r.1)
        ]

    built :
        (b c : Bool) (x : Seen) → (if b then Some the_print else if c then Some the_read_int else None) ≡ Some x
        → Fine x
    built true c x e = subst Fine (same the_print x e) tt
      where
        same : (a b : Seen) → Some a ≡ Some b → a ≡ b
        same a b e = cc
    built false true x e = subst Fine (same the_read_int x e) tt
      where
        same : (a b : Seen) → Some a ≡ Some b → a ≡ b
        same a b e = cc
    built false false x e = absurd (cc)

    top :
        (x : Seen) → or_else (on_found a_function (text.function name))
        (or_else (built_in name) (on_found a_type (text.declared name))) ≡ Some x → Fine x
    top x e =
        elim (first_or_second (on_found a_function (text.function name))
        (or_else (built_in name) (on_found a_type (text.declared name))) x e) [
          | inl f ↦ let r =
              found_by a_function (text.function name) x f in subst Fine r.2 (name, r.1, texts.function name r.0 r.1)
          | inr other ↦ elim (first_or_second (built_in name) (on_found a_type (text.declared name)) x other) [
            | inl b ↦ built (bytes_eq name (codes "print")) (bytes_eq name (codes "readInt")) x b
            | inr d ↦ let r = found_by a_type (text.declared name) x d in subst Fine r.2 (texts.declared name r.0 r.1)
          ]
        ]

    pub seen_known : (x : Seen) → seen text scope name ≡ Some x → Fine x
    seen_known x e =
        elim (first_or_second (on_found a_local (local_in scope.locals name))
        (or_else (of_owner text scope.owner name)
        (or_else (on_found a_function (text.function name))
        (or_else (built_in name) (on_found a_type (text.declared name))))) x e) [
          | inl l ↦ let r =
              found_by a_local (local_in scope.locals name) x l in subst Fine r.2
              (local_known scope.body scope.locals name r.0 known.locals r.1)
          | inr other ↦ elim (first_or_second (of_owner text scope.owner name)
              (or_else (on_found a_function (text.function name))
              (or_else (built_in name) (on_found a_type (text.declared name)))) x other) [
                | inl o ↦ owners scope.owner x refl o
                | inr t ↦ top x t
              ]
        ]
