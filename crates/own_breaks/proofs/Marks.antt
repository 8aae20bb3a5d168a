-- What the op of a maker says by its kind, and when a rule takes it as a cause.
use Rattle.std.proofs.Common.{◌≡◌, inl, inr, Bool, true, false, ◌&&◌, ◌||◌, Option, Some, None, refl, ap, ◌∙◌}
use Rattle.std.proofs.lemmas.Bool.{and_parts}
use Rattle.std.specs.Prelude.{if◌then◌else◌}
use Rattle.own_tree.specs.declared.finding.Rule.{Rule}
use Rattle.own_tree.specs.declared.finding.Rule.TheVariants as rule
use Rattle.own_tree.specs.declared.op.Op.{Op}
use Rattle.own_tree.specs.declared.op.OpKind.{OpKind}
use Rattle.own_tree.specs.declared.op.OpKind.TheVariants as kind
use Rattle.own_tree.specs.declared.place.Mode.{Mode}
use Rattle.own_tree.specs.declared.place.Mode.TheVariants as mode
use Rattle.own_tree.specs.declared.place.Place.{Place}
use Rattle.own_tree.specs.declared.span.Span.{Span}
use Rattle.own_paths.specs.Findings.{IsGivenUp, IsGivenBack, IsWithoutValue, ReturnBreaks, OpBreaks}
use Rattle.own_paths.specs.Fixed.{is_assign, is_consume, is_discard}
use Rattle.own_paths.specs.Makers.{BodyUses, fresh, made, ended, bare, marked}
use Rattle.own_shapes.specs.Places.{covers}
use Rattle.own_breaks.specs.Asking.{is_end, is_declare, gives_value, takes_value, is_consumed_self, is_given_back, is_initialized_self, blames, owes, asks}
use Rattle.own_breaks.specs.Blaming.{blamed}

-- ---- the mark of an op

ended_is : (k : OpKind) (x by : Op) → marked k x fresh ≡ ended by → x ≡ by
ended_is kind.Declare x by e = cc
ended_is kind.Make x by e = cc
ended_is kind.Assign x by e = cc
ended_is kind.Consume x by e = cc
ended_is kind.Discard x by e = cc
ended_is kind.End x by e = cc
ended_is kind.Read x by e = cc
ended_is kind.Borrow x by e = cc
ended_is kind.Inout x by e = cc
ended_is kind.Capture x by e = cc

ended_takes : (k : OpKind) (x by : Op) → marked k x fresh ≡ ended by → takes_value k ≡ true
ended_takes kind.Declare x by e = refl
ended_takes kind.Make x by e = cc
ended_takes kind.Assign x by e = cc
ended_takes kind.Consume x by e = refl
ended_takes kind.Discard x by e = refl
ended_takes kind.End x by e = refl
ended_takes kind.Read x by e = cc
ended_takes kind.Borrow x by e = cc
ended_takes kind.Inout x by e = cc
ended_takes kind.Capture x by e = cc

bare_is : (k : OpKind) (x by : Op) → marked k x fresh ≡ bare by → (x ≡ by) × (is_declare k ≡ true) × (takes_value k ≡ true)
bare_is kind.Declare x by e = (cc, refl, refl)
bare_is kind.Make x by e = absurd cc
bare_is kind.Assign x by e = absurd cc
bare_is kind.Consume x by e = absurd cc
bare_is kind.Discard x by e = absurd cc
bare_is kind.End x by e = absurd cc
bare_is kind.Read x by e = absurd cc
bare_is kind.Borrow x by e = absurd cc
bare_is kind.Inout x by e = absurd cc
bare_is kind.Capture x by e = absurd cc

made_is : (k : OpKind) (x by : Op) → marked k x fresh ≡ made by → (x ≡ by) × (gives_value k ≡ true)
made_is kind.Make x by e = (cc, refl)
made_is kind.Assign x by e = (cc, refl)
made_is kind.Declare x by e = absurd cc
made_is kind.Consume x by e = absurd cc
made_is kind.Discard x by e = absurd cc
made_is kind.End x by e = absurd cc
made_is kind.Read x by e = absurd cc
made_is kind.Borrow x by e = absurd cc
made_is kind.Inout x by e = absurd cc
made_is kind.Capture x by e = absurd cc

given_up : (k : OpKind) → IsGivenUp k → (is_consume k || is_discard k) ≡ true
given_up kind.Consume g = refl
given_up kind.Discard g = refl
given_up kind.Declare g = absurd g
given_up kind.Make g = absurd g
given_up kind.Read g = absurd g
given_up kind.Borrow g = absurd g
given_up kind.Inout g = absurd g
given_up kind.Assign g = absurd g
given_up kind.Capture g = absurd g
given_up kind.End g = absurd g

-- ---- the other way round

gives_up : (k : OpKind) (x : Op) → (is_consume k || is_discard k) ≡ true → (marked k x fresh ≡ ended x) × IsGivenUp k
gives_up kind.Consume x e = (refl, tt)
gives_up kind.Discard x e = (refl, tt)
gives_up kind.Declare x e = absurd cc
gives_up kind.Make x e = absurd cc
gives_up kind.Read x e = absurd cc
gives_up kind.Borrow x e = absurd cc
gives_up kind.Inout x e = absurd cc
gives_up kind.Assign x e = absurd cc
gives_up kind.Capture x e = absurd cc
gives_up kind.End x e = absurd cc

declares : (k : OpKind) (x : Op) → is_declare k ≡ true → marked k x fresh ≡ bare x
declares kind.Declare x e = refl
declares kind.Make x e = cc
declares kind.Read x e = cc
declares kind.Borrow x e = cc
declares kind.Inout x e = cc
declares kind.Consume x e = cc
declares kind.Discard x e = cc
declares kind.Assign x e = cc
declares kind.Capture x e = cc
declares kind.End x e = cc

gives : (k : OpKind) (x : Op) → gives_value k ≡ true → marked k x fresh ≡ made x
gives kind.Make x e = refl
gives kind.Assign x e = refl
gives kind.Declare x e = cc
gives kind.Read x e = cc
gives kind.Borrow x e = cc
gives kind.Inout x e = cc
gives kind.Consume x e = cc
gives kind.Discard x e = cc
gives kind.Capture x e = cc
gives kind.End x e = cc

takes : (k : OpKind) (x : Op) → takes_value k ≡ true → IsWithoutValue (marked k x fresh) x
takes kind.Declare x e = inr refl
takes kind.Consume x e = inl refl
takes kind.Discard x e = inl refl
takes kind.End x e = inl refl
takes kind.Make x e = absurd cc
takes kind.Assign x e = absurd cc
takes kind.Read x e = absurd cc
takes kind.Borrow x e = absurd cc
takes kind.Inout x e = absurd cc
takes kind.Capture x e = absurd cc

-- ---- kinds and modes by their tests

an_end : (k : OpKind) → is_end k ≡ true → k ≡ kind.End
an_end kind.End e = refl
an_end kind.Declare e = absurd cc
an_end kind.Make e = absurd cc
an_end kind.Read e = absurd cc
an_end kind.Borrow e = absurd cc
an_end kind.Inout e = absurd cc
an_end kind.Consume e = absurd cc
an_end kind.Discard e = absurd cc
an_end kind.Assign e = absurd cc
an_end kind.Capture e = absurd cc

an_assign : (k : OpKind) → is_assign k ≡ true → k ≡ kind.Assign
an_assign kind.Assign e = refl
an_assign kind.End e = absurd cc
an_assign kind.Declare e = absurd cc
an_assign kind.Make e = absurd cc
an_assign kind.Read e = absurd cc
an_assign kind.Borrow e = absurd cc
an_assign kind.Inout e = absurd cc
an_assign kind.Consume e = absurd cc
an_assign kind.Discard e = absurd cc
an_assign kind.Capture e = absurd cc

consumed_self : (m : Option Mode) → is_consumed_self m ≡ true → m ≡ Some mode.SelfConsuming
consumed_self (Some mode.SelfConsuming) e = refl
consumed_self m e = absurd cc

given_back : (m : Option Mode) → is_given_back m ≡ true → IsGivenBack m
given_back (Some mode.Inout) e = inl refl
given_back (Some mode.SelfMutating) e = inr refl
given_back m e = absurd cc

initialized_self : (m : Option Mode) → is_initialized_self m ≡ true → m ≡ Some mode.SelfInit
initialized_self (Some mode.SelfInit) e = refl
initialized_self m e = absurd cc

is_back : (m : Option Mode) → IsGivenBack m → is_given_back m ≡ true
is_back m (inl e) = ap is_given_back e
is_back m (inr e) = ap is_given_back e

-- ---- what a rule says of an op and of the maker of a leaf

module _ (uses : BodyUses) (o : Op) (leaf : Place) where
  abbrev asked : Rule → Bool
  asked r = asks uses.discards uses.mode_of uses.is_let_property r o leaf

  pub fresh_breaks : (r : Rule) (by : Op) → OpBreaks uses r o leaf fresh by → ⊥
  fresh_breaks rule.O1 by b = let e = b.1 in cc
  fresh_breaks rule.O2 by b = let e = b.1 in cc
  fresh_breaks rule.O4 by b = let e = b.4 in cc
  fresh_breaks rule.O6 by b = let e = b.3 in cc
  fresh_breaks rule.O3 by b = b
  fresh_breaks rule.O5 by b = b
  fresh_breaks rule.O7 by b = b
  fresh_breaks rule.O8 by b = b
  fresh_breaks rule.O9 by b = b
  fresh_breaks rule.O10 by b = b
  fresh_breaks rule.O11 by b = b
  fresh_breaks rule.F1 by b = b

  both : (a b : Bool) → a ≡ true → b ≡ true → (a && b) ≡ true
  both a b e f = ap (λ x. x && b) e ∙ f

  pub op_blames : (r : Rule) (x by : Op) → OpBreaks uses r o leaf (marked x.kind x fresh) by → (asked r ≡ true) × (x ≡ by) × (blames r x.kind ≡ true)
  op_blames rule.O1 x by b =
      let same = ended_is x.kind x by b.1 in (b.0, same, ap (λ (y : Op). is_consume y.kind || is_discard y.kind) same ∙ given_up by.kind b.2)
  op_blames rule.O2 x by b = let is = bare_is x.kind x by b.1 in (b.0, is.0, is.1)
  op_blames rule.O4 x by b =
      let is = made_is x.kind x by b.4 in (
        both ((is_end o.kind && uses.discards) && is_consumed_self (uses.mode_of o.place.binding)) (covers o.place leaf)
            (both (is_end o.kind && uses.discards) (is_consumed_self (uses.mode_of o.place.binding)) (both (is_end o.kind) uses.discards (ap is_end b.0) b.2) (ap is_consumed_self b.1)) b.3,
        is.0,
        is.1,
      )
  op_blames rule.O6 x by b =
      let is = made_is x.kind x by b.3 in
      (both (is_assign o.kind && uses.is_let_property o.place) (covers o.place leaf) (both (is_assign o.kind) (uses.is_let_property o.place) (ap is_assign b.0) b.1) b.2, is.0, is.1)
  op_blames rule.O3 x by b = absurd b
  op_blames rule.O5 x by b = absurd b
  op_blames rule.O7 x by b = absurd b
  op_blames rule.O8 x by b = absurd b
  op_blames rule.O9 x by b = absurd b
  op_blames rule.O10 x by b = absurd b
  op_blames rule.O11 x by b = absurd b
  op_blames rule.F1 x by b = absurd b

  pub op_broken : (r : Rule) (x : Op) → asked r ≡ true → blames r x.kind ≡ true → OpBreaks uses r o leaf (marked x.kind x fresh) x
  op_broken rule.O1 x a b = let g = gives_up x.kind x b in (a, g.0, g.1)
  op_broken rule.O2 x a b = (a, declares x.kind x b)
  op_broken rule.O4 x a b =
      let p = and_parts ((is_end o.kind && uses.discards) && is_consumed_self (uses.mode_of o.place.binding)) (covers o.place leaf) a in
      let q = and_parts (is_end o.kind && uses.discards) (is_consumed_self (uses.mode_of o.place.binding)) p.0 in
      let s = and_parts (is_end o.kind) uses.discards q.0 in
      (an_end o.kind s.0, consumed_self (uses.mode_of o.place.binding) q.1, s.1, p.1, gives x.kind x b)
  op_broken rule.O6 x a b =
      let p = and_parts (is_assign o.kind && uses.is_let_property o.place) (covers o.place leaf) a in
      let q = and_parts (is_assign o.kind) (uses.is_let_property o.place) p.0 in
      (an_assign o.kind q.0, q.1, p.1, gives x.kind x b)
  op_broken rule.O3 x a b = absurd cc
  op_broken rule.O5 x a b = absurd cc
  op_broken rule.O7 x a b = absurd cc
  op_broken rule.O8 x a b = absurd cc
  op_broken rule.O9 x a b = absurd cc
  op_broken rule.O10 x a b = absurd cc
  op_broken rule.O11 x a b = absurd cc
  op_broken rule.F1 x a b = absurd cc

-- ---- returns

pub fresh_without : (by : Op) → IsWithoutValue fresh by → ⊥
fresh_without by (inl e) = cc
fresh_without by (inr e) = cc

pub without_is : (x by : Op) → IsWithoutValue (marked x.kind x fresh) by → (x ≡ by) × (takes_value x.kind ≡ true)
without_is x by (inl e) = (ended_is x.kind x by e, ended_takes x.kind x by e)
without_is x by (inr e) = let is = bare_is x.kind x by e in (is.0, is.2)

pub return_owes : (r : Rule) (m : Option Mode) (k : OpKind) → ReturnBreaks r m → takes_value k ≡ true → (owes r m ≡ true) × (blames r k ≡ true)
return_owes rule.O3 m k b t = (is_back m b, t)
return_owes rule.O5 m k b t = (ap is_initialized_self b, t)
return_owes rule.O1 m k b t = absurd b
return_owes rule.O2 m k b t = absurd b
return_owes rule.O4 m k b t = absurd b
return_owes rule.O6 m k b t = absurd b
return_owes rule.O7 m k b t = absurd b
return_owes rule.O8 m k b t = absurd b
return_owes rule.O9 m k b t = absurd b
return_owes rule.O10 m k b t = absurd b
return_owes rule.O11 m k b t = absurd b
return_owes rule.F1 m k b t = absurd b

pub return_breaks : (r : Rule) (m : Option Mode) (x : Op) → owes r m ≡ true → blames r x.kind ≡ true → ReturnBreaks r m × IsWithoutValue (marked x.kind x fresh) x
return_breaks rule.O3 m x a b = (given_back m a, takes x.kind x b)
return_breaks rule.O5 m x a b = (initialized_self m a, takes x.kind x b)
return_breaks rule.O1 m x a b = absurd cc
return_breaks rule.O2 m x a b = absurd cc
return_breaks rule.O4 m x a b = absurd cc
return_breaks rule.O6 m x a b = absurd cc
return_breaks rule.O7 m x a b = absurd cc
return_breaks rule.O8 m x a b = absurd cc
return_breaks rule.O9 m x a b = absurd cc
return_breaks rule.O10 m x a b = absurd cc
return_breaks rule.O11 m x a b = absurd cc
return_breaks rule.F1 m x a b = absurd cc

-- ---- causes

pub blamed_is : (r : Rule) (o : Option Op) (cause : Span) → blamed r o ≡ Some cause → (by : Op) × (o ≡ Some by) × (blames r by.kind ≡ true) × (by.span ≡ cause)
blamed_is r None cause e = absurd cc
blamed_is r (Some by) cause e = cases (blames r by.kind) refl e
  where
    cases : (b : Bool) → blames r by.kind ≡ b → (if b then Some by.span else None) ≡ Some cause → (y : Op) × (Some by ≡ Some y) × (blames r y.kind ≡ true) × (y.span ≡ cause)
    cases true is h = (by, refl, is, cc)
    cases false is h = absurd cc

pub blamed_by : (r : Rule) (by : Op) → blames r by.kind ≡ true → blamed r (Some by) ≡ Some by.span
blamed_by r by e = ap (λ b. if b then Some by.span else None) e
