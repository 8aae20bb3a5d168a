-- What is sure of what a rule gives, where what it makes is in the program: by the premises of the rule.
use Rattle.std.specs.Prelude.{◌≡◌, ℕ, ◌++◌, List, [], ◌∷◌, length, Option, Some, None, slice_get}
use Rattle.std.proofs.Common.{sym, ap, subst}
use Rattle.own_tree.specs.declared.place.Binding.{Binding}
use Rattle.own_tree.specs.declared.place.Ty.{Ty}
use Rattle.own_tree.specs.declared.span.Span.{Span}
use Rattle.own_tree.specs.TypedSource.{TPat, TBody, Program}
use Rattle.own_match.specs.Values.{Covers}
use Rattle.own_judging.specs.Made.{Made, Grows}
use Rattle.own_judging.specs.Judged.{Judged, Test}
use Rattle.own_judged.specs.Rules.{yields, ◌>>=◌, holding, the, refused, unless, covering, node, declared, declaring, embodied}
use Rattle.own_judged.specs.Text.{Text}
use Rattle.own_known.specs.Known.{IsTypeHere, BodyKnown}
use Rattle.own_known.proofs.Growing.{NewIn, none_new, new_front, new_back, new_joined, new_pushed, pushed_new, whole_new, inside_new, new_whole}

module _ (text : Text) (program : Program) where
  -- a binding or a body is that of the program
  abbrev pub IsBinding : ℕ → Binding → Type 0
  IsBinding x b = slice_get program.bindings x ≡ Some b

  abbrev pub IsBody : ℕ → TBody → Type 0
  IsBody k body = slice_get program.bodies k ≡ Some body

  abbrev pub HasType : ℕ → Binding → Type 0
  HasType x b = IsTypeHere text program b.ty

  -- what is made between two states is in the program,
  abbrev pub Later : Made → Made → Type 0
  Later s s' = NewIn IsBinding s.bindings s'.bindings × NewIn IsBody s.bodies s'.bodies

  -- and it is known
  abbrev pub New : Made → Made → Type 0
  New s s' = NewIn HasType s.bindings s'.bindings × NewIn (BodyKnown text program) s.bodies s'.bodies

  pub nothing_new : (s s' : Made) → s' ≡ s → New s s'
  nothing_new s s' e = (
    none_new HasType s.bindings s'.bindings (ap (λ m. m.bindings) e),
    none_new (BodyKnown text program) s.bodies s'.bodies (ap (λ m. m.bodies) e),
  )

  pub later_front : (s m s' : Made) → Grows m s' → Later s s' → Later s m
  later_front s m s' g l = (
    new_front IsBinding s.bindings m.bindings s'.bindings g.bindings.0 g.bindings.1 l.0,
    new_front IsBody s.bodies m.bodies s'.bodies g.bodies.0 g.bodies.1 l.1,
  )

  pub later_back : (s m s' : Made) → Grows s m → Later s s' → Later m s'
  later_back s m s' g l = (
    new_back IsBinding s.bindings m.bindings s'.bindings g.bindings.0 g.bindings.1 l.0,
    new_back IsBody s.bodies m.bodies s'.bodies g.bodies.0 g.bodies.1 l.1,
  )

  pub new_then : (s m s' : Made) → Grows m s' → New s m → New m s' → New s s'
  new_then s m s' g first then = (
    new_joined HasType s.bindings m.bindings s'.bindings g.bindings.0 g.bindings.1 first.0 then.0,
    new_joined (BodyKnown text program) s.bodies m.bodies s'.bodies g.bodies.0 g.bodies.1 first.1 then.1,
  )

  -- ---- rules

  abbrev pub IsSure : {A : Type 0} → Judged A → (A → Type 0) → Type 0
  IsSure {A = A} j Q = (s : Made) (a : A) (s' : Made) → j.holds s a s' → Later s s' → Q a × New s s'

  is_sure_that : {A : Type 0} (j : Judged A) (P Q : A → Type 0) → ((a : A) → P a → Q a) → IsSure j P → IsSure j Q
  is_sure_that j P Q so sure s a s' h l = let r = sure s a s' h l in (so a r.0, r.1)

  pub is_sure_yields : {A : Type 0} (x : A) (Q : A → Type 0) → Q x → IsSure (yields x) Q
  is_sure_yields x Q q s a s' h l = (subst Q (sym h.0) q, nothing_new s s' h.1)

  pub is_sure_then :
      {A B : Type 0} (first : Judged A) (next : A → Judged B) (P : A → Type 0) (Q : B → Type 0)
      → IsSure first P → ((a : A) → P a → IsSure (next a) Q) → IsSure (first >>= next) Q
  is_sure_then first next P Q sure then s b s' h l =
      let before = first.grows s h.0 h.1 h.2 in
      let behind = (next h.0).grows h.1 b s' h.3 in
      let p = sure s h.0 h.1 h.2 (later_front s h.1 s' behind l) in
      let q = then h.0 p.0 h.1 b s' h.3 (later_back s h.1 s' before l) in
      (q.0, new_then s h.1 s' behind p.1 q.1)

  is_sure_holding : (t : Test) (code : ℕ) (at : Span) → IsSure (holding t code at) (λ u. t.is)
  is_sure_holding t code at s a s' h l = (h.0, nothing_new s s' h.1)

  is_sure_the : {A : Type 0} (o : Option A) (code : ℕ) (at : Span) → IsSure (the o code at) (λ a. o ≡ Some a)
  is_sure_the o code at s a s' h l = (h.0, nothing_new s s' h.1)

  is_sure_unless : (o : Option ℕ) (at : Span) → IsSure (unless o at) (λ u. o ≡ None)
  is_sure_unless o at s a s' h l = (h.0, nothing_new s s' h.1)

  is_sure_refused : {A : Type 0} (code : ℕ) (at : Span) (Q : A → Type 0) → IsSure (refused {A = A} code at) Q
  is_sure_refused code at Q s a s' h l = absurd h

  is_sure_covering :
      (ty : Ty) (ps : List TPat) (at : Span)
      → IsSure (covering text.types ty ps at) (λ u. Covers ps (text.types.shape ty))
  is_sure_covering ty ps at s a s' h l = (h.0, nothing_new s s' h.1)

  -- ---- numbers

  is_sure_node : IsSure node (λ id. Unit {0})
  is_sure_node s a s' h l = (
    tt,
    (
      none_new HasType s.bindings s'.bindings (ap (λ m. m.bindings) h.1),
      none_new (BodyKnown text program) s.bodies s'.bodies (ap (λ m. m.bodies) h.1),
    ),
  )

  pub is_sure_declared : (b : Binding) → IsTypeHere text program b.ty → IsSure (declared b) (λ x. IsBinding x b)
  is_sure_declared b known s a s' h l =
      let same = ap (λ m. m.bindings) h.1 in
      let there = pushed_new IsBinding s.bindings b (subst (λ l. NewIn IsBinding s.bindings l) same l.0) in (
        subst (λ x. IsBinding x b) (sym h.0) there,
        (
          subst (λ l. NewIn HasType s.bindings l) (sym same) (new_pushed HasType s.bindings b known),
          none_new (BodyKnown text program) s.bodies s'.bodies (ap (λ m. m.bodies) h.1),
        ),
      )

  module _ {A : Type 0} (P : A → Type 0) where
    is_sure_declaring :
        (first : Binding) (value : Judged A) (last : A → Binding) → IsSure value P
        → ((a : A) → P a → IsTypeHere text program (last a).ty)
        → IsSure (declaring first value last) (λ r. P r.1 × IsBinding r.0 (last r.1))
    is_sure_declaring first value last sure known s r s' h l =
        let m = h.0 in
        let z = last r.1 in
        let begun = record s { bindings = s.bindings ++ first ∷ [] } in
        let g = value.grows begun r.1 m h.2 in
        let same = ap (λ m. m.bindings) h.3 in
        let later = subst (λ l. NewIn IsBinding s.bindings l) same l.0 in
        let bodies = ap (λ m. m.bodies) h.3 in
        let p = sure begun r.1 m h.2 (
          inside_new IsBinding s.bindings first z m.bindings g.bindings.0 g.bindings.1 later,
          subst (λ l. NewIn IsBody s.bodies l) bodies l.1,
        ) in (
          (
            p.0,
            subst (λ x. IsBinding x z) (sym h.1)
                (whole_new IsBinding s.bindings first z m.bindings g.bindings.0 g.bindings.1 later),
          ),
          (
            subst (λ l. NewIn HasType s.bindings l) (sym same)
                (new_whole HasType s.bindings first z m.bindings g.bindings.0 g.bindings.1 (known r.1 p.0) p.1.0),
            subst (λ l. NewIn (BodyKnown text program) s.bodies l) (sym bodies) p.1.1,
          ),
        )

  -- the body that its parts become is there while they are judged
  is_sure_embodied :
      {A : Type 0} (R : ℕ → A → Type 0) (first : TBody) (inside : ℕ → Judged A) (last : A → TBody)
      → ((k : ℕ) (a : A) → IsBody k (last a) → IsSure (inside k) (R k))
      → ((k : ℕ) (a : A) → R k a → BodyKnown text program k (last a))
      → IsSure (embodied first inside last) (λ r. R r.0 r.1 × IsBody r.0 (last r.1))
  is_sure_embodied R first inside last sure known s r s' h l =
      let m = h.0 in
      let k = length s.bodies in
      let z = last r.1 in
      let begun = record s { bodies = s.bodies ++ first ∷ [] } in
      let g = (inside k).grows begun r.1 m h.2 in
      let same = ap (λ m. m.bodies) h.3 in
      let later = subst (λ l. NewIn IsBody s.bodies l) same l.1 in
      let bindings = ap (λ m. m.bindings) h.3 in
      let there = whole_new IsBody s.bodies first z m.bodies g.bodies.0 g.bodies.1 later in
      let p = sure k r.1 there begun r.1 m h.2 (
        subst (λ l. NewIn IsBinding s.bindings l) bindings l.0,
        inside_new IsBody s.bodies first z m.bodies g.bodies.0 g.bodies.1 later,
      ) in (
        (subst (λ x. R x r.1) (sym h.1) p.0, subst (λ x. IsBody x z) (sym h.1) there),
        (
          subst (λ l. NewIn HasType s.bindings l) (sym bindings) p.1.0,
          subst (λ l. NewIn (BodyKnown text program) s.bodies l) (sym same)
              (
              new_whole (BodyKnown text program) s.bodies first z m.bodies g.bodies.0 g.bodies.1 (known k r.1 p.0)
              p.1.1
              ),
        ),
      )

-- What is sure of a rule, with the rule in its type, so that it is found by it.
pub record Sure (text : Text) (program : Program) {A : Type 0} (j : Judged A) (Q : A → Type 0) : Type 0 where
  pub is : IsSure text program j Q

module _ {text : Text} {program : Program} where
  pub then :
      {A B : Type 0} (first : Judged A) (next : A → Judged B) (P : A → Type 0) (Q : B → Type 0)
      → Sure text program first P → ((a : A) → P a → Sure text program (next a) Q)
      → Sure text program (first >>= next) Q
  then first next P Q f g = record { is = is_sure_then text program first next P Q f.is (λ a p. (g a p).is) }

  pub weaken :
      {A : Type 0} (j : Judged A) (P Q : A → Type 0) → Sure text program j P → ((a : A) → P a → Q a)
      → Sure text program j Q
  weaken j P Q f so = record { is = is_sure_that text program j P Q so f.is }

  pub gives : {A : Type 0} (x : A) (Q : A → Type 0) → Q x → Sure text program (yields x) Q
  gives x Q q = record { is = is_sure_yields text program x Q q }

  pub holds : (t : Test) (code : ℕ) (at : Span) → Sure text program (holding t code at) (λ u. t.is)
  holds t code at = record { is = is_sure_holding text program t code at }

  pub there :
      {A : Type 0} (o : Option A) (code : ℕ) (at : Span) → Sure text program (the o code at) (λ a. o ≡ Some a)
  there o code at = record { is = is_sure_the text program o code at }

  pub no_fault : (o : Option ℕ) (at : Span) → Sure text program (unless o at) (λ u. o ≡ None)
  no_fault o at = record { is = is_sure_unless text program o at }

  pub never : {A : Type 0} (code : ℕ) (at : Span) (Q : A → Type 0) → Sure text program (refused {A = A} code at) Q
  never code at Q = record { is = is_sure_refused text program code at Q }

  pub covers :
      (ty : Ty) (ps : List TPat) (at : Span)
      → Sure text program (covering text.types ty ps at) (λ u. Covers ps (text.types.shape ty))
  covers ty ps at = record { is = is_sure_covering text program ty ps at }

  pub a_node : Sure text program node (λ id. Unit {0})
  a_node = record { is = is_sure_node text program }

  pub declares :
      (b : Binding) → IsTypeHere text program b.ty → Sure text program (declared b) (λ x. IsBinding text program x b)
  declares b known = record { is = is_sure_declared text program b known }

  pub declares_value :
      {A : Type 0} (P : A → Type 0) (first : Binding) (value : Judged A) (last : A → Binding)
      → Sure text program value P → ((a : A) → P a → IsTypeHere text program (last a).ty)
      → Sure text program (declaring first value last) (λ r. P r.1 × IsBinding text program r.0 (last r.1))
  declares_value P first value last sure known =
      record { is = is_sure_declaring text program P first value last sure.is known }

  pub embodies :
      {A : Type 0} (P : ℕ → A → Type 0) (first : TBody) (inside : ℕ → Judged A) (last : A → TBody)
      → ((k : ℕ) (a : A) → IsBody text program k (last a) → Sure text program (inside k) (P k))
      → ((k : ℕ) (a : A) → P k a → BodyKnown text program k (last a))
      → Sure text program (embodied first inside last) (λ r. P r.0 r.1 × IsBody text program r.0 (last r.1))
  embodies P first inside last sure known =
      record { is = is_sure_embodied text program P first inside last (λ k a b. (sure k a b).is) known }
