-- Values that fit, their parts, and what is written into them.
use Rattle.std.proofs.Common.{◌≡◌, ℕ, zero, suc, Bool, true, false, List, [], ◌∷◌, ◌++◌, map, Some, None, refl, sym, ap, ◌∙◌, subst}
use Rattle.std.specs.Prelude.{◌==◌, if◌then◌else◌}
use Rattle.std.proofs.lemmas.Bool.Decides.{Decides-eqb}
use Rattle.own_shapes.specs.Types.{TypeHead, Shape, Shapes, Payloads, no_shapes, no_payloads, payloads, shape_at, property_shape, shape_in}
use Rattle.own_shapes.specs.Types as shape
use Rattle.own_runs.specs.Patterns.{payloads_at}
use Rattle.own_runs.specs.Values.{Val, int, bool, unit, struct, variant, hole, Vals, no_vals, val, emptied, all_emptied, vacant, vacant_struct, all_vacant, opened, Part, field, payload, Found, found, hollow, nowhere, and_then, nth, with_nth, child, with_child, value_at, with_value_at}
use Rattle.own_steady.specs.Fits.{IsNumbered, HasCase, Fits, AllFit, CaseFits, part_shape, shape_along, HasShape, HasPart, HasParts, FoundIs, untracked, with_shape, with_case, with_part, replaced}

pub then_found : {A B : Type 0} (Q : A → Type 0) (R : B → Type 0) (o : Found A) (next : A → Found B) → FoundIs Q o → ((a : A) → Q a → FoundIs R (next a)) → FoundIs R (and_then o next)
then_found Q R (found a) next h k = k a h
then_found Q R hollow next h k = tt
then_found Q R nowhere next h k = absurd h

nth_fits : (ss : Shapes) (vs : Vals) (k : ℕ) → AllFit ss vs → HasShape ss k → FoundIs (Fits (shape_at ss k)) (nth vs k)
nth_fits no_shapes vs k f h = absurd h
nth_fits (shape.shape s ss) no_vals k f h = absurd f
nth_fits (shape.shape s ss) (val v vs) zero f h = f.0
nth_fits (shape.shape s ss) (val v vs) (suc k) f h = nth_fits ss vs k f.1 h

with_nth_fits : (ss : Shapes) (vs : Vals) (k : ℕ) (t : Shape) (new : Val) → AllFit ss vs → HasShape ss k → Fits t new → FoundIs (AllFit (with_shape ss k t)) (with_nth vs k new)
with_nth_fits no_shapes vs k t new f h n = absurd h
with_nth_fits (shape.shape s ss) no_vals k t new f h n = absurd f
with_nth_fits (shape.shape s ss) (val v vs) zero t new f h n = (n, f.1)
with_nth_fits (shape.shape s ss) (val v vs) (suc k) t new f h n =
    then_found (AllFit (with_shape ss k t)) (AllFit (shape.shape s (with_shape ss k t))) (with_nth vs k new) (λ rest. found (val v rest))
    (with_nth_fits ss vs k t new f.1 h n) (λ all g. (f.0, g))

-- ---- cases

case_all : (cases : Payloads) (c : ℕ) (vs : Vals) → CaseFits cases c vs → AllFit (payloads_at cases c) vs
case_all no_payloads c vs f = absurd f
case_all (payloads ss cs) zero vs f = f
case_all (payloads ss cs) (suc c) vs f = case_all cs c vs f

pub all_case : (cases : Payloads) (c : ℕ) (vs : Vals) → HasCase cases c → AllFit (payloads_at cases c) vs → CaseFits cases c vs
all_case no_payloads c vs h f = absurd h
all_case (payloads ss cs) zero vs h f = f
all_case (payloads ss cs) (suc c) vs h f = all_case cs c vs h f

-- the shapes of a case are others; those of another case stay
with_case_has : (cases : Payloads) (c d : ℕ) (new : Shapes) → HasCase cases d → HasCase (with_case cases c new) d
with_case_has no_payloads c d new h = absurd h
with_case_has (payloads ss cs) zero zero new h = tt
with_case_has (payloads ss cs) zero (suc d) new h = h
with_case_has (payloads ss cs) (suc c) zero new h = tt
with_case_has (payloads ss cs) (suc c) (suc d) new h = with_case_has cs c d new h

case_same : (cases : Payloads) (c : ℕ) (new : Shapes) (vs : Vals) → HasCase cases c → AllFit new vs → CaseFits (with_case cases c new) c vs
case_same no_payloads c new vs h f = absurd h
case_same (payloads ss cs) zero new vs h f = f
case_same (payloads ss cs) (suc c) new vs h f = case_same cs c new vs h f

-- ---- one step

enum_child_fits : (b : Bool) (cases : Payloads) (present c k : ℕ) (vs : Vals) → (present == c) ≡ b → CaseFits cases present vs → HasShape (payloads_at cases c) k
    → FoundIs (Fits (shape_at (payloads_at cases c) k)) (if b then nth vs k else hollow)
enum_child_fits true cases present c k vs e f h =
    nth_fits (payloads_at cases c) vs k (subst (λ z. AllFit (payloads_at cases z) vs) ((Decides-eqb present c).0 e) (case_all cases present vs f)) h
enum_child_fits false cases present c k vs e f h = tt

child_fits : (s : Shape) (v : Val) (p : Part) → Fits s v → HasPart s p → FoundIs (Fits (part_shape s p)) (child v p)
child_fits shape.number v p f h = absurd h
child_fits shape.truth v p f h = absurd h
child_fits shape.no_value v p f h = absurd h
child_fits shape.closure v p f h = absurd h
child_fits (shape.enum head cases) v (field k) f h = absurd h
child_fits (shape.struct head fields) v (payload c k) f h = absurd h
child_fits (shape.struct head fields) hole (field k) f h = tt
child_fits (shape.struct head fields) (struct type i vs) (field k) f h = nth_fits fields vs k f.2 h
child_fits (shape.struct head fields) (int n) (field k) f h = absurd f
child_fits (shape.struct head fields) (bool b) (field k) f h = absurd f
child_fits (shape.struct head fields) unit (field k) f h = absurd f
child_fits (shape.struct head fields) (variant present vs) (field k) f h = absurd f
child_fits (shape.enum head cases) hole (payload c k) f h = tt
child_fits (shape.enum head cases) (variant present vs) (payload c k) f h = enum_child_fits (present == c) cases present c k vs refl f.1 h
child_fits (shape.enum head cases) (int n) (payload c k) f h = absurd f
child_fits (shape.enum head cases) (bool b) (payload c k) f h = absurd f
child_fits (shape.enum head cases) unit (payload c k) f h = absurd f
child_fits (shape.enum head cases) (struct type i vs) (payload c k) f h = absurd f

enum_with_child : (b : Bool) (head : TypeHead) (cases : Payloads) (present c k : ℕ) (vs : Vals) (t : Shape) (new : Val) → (present == c) ≡ b
    → HasCase cases present → CaseFits cases present vs → HasShape (payloads_at cases c) k → Fits t new
    → FoundIs (Fits (shape.enum head (with_case cases c (with_shape (payloads_at cases c) k t))))
    (if b then and_then (with_nth vs k new) (λ all. found (variant present all)) else hollow)
enum_with_child true head cases present c k vs t new e hc f h n =
    then_found (AllFit (with_shape (payloads_at cases c) k t)) (Fits (shape.enum head (with_case cases c (with_shape (payloads_at cases c) k t))))
    (with_nth vs k new) (λ all. found (variant present all))
    (with_nth_fits (payloads_at cases c) vs k t new (subst (λ z. AllFit (payloads_at cases z) vs) ((Decides-eqb present c).0 e) (case_all cases present vs f)) h n)
    (λ all g. (
      with_case_has cases c present (with_shape (payloads_at cases c) k t) hc,
      subst (λ z. CaseFits (with_case cases c (with_shape (payloads_at cases c) k t)) z all) (sym ((Decides-eqb present c).0 e))
          (case_same cases c (with_shape (payloads_at cases c) k t) all (subst (HasCase cases) ((Decides-eqb present c).0 e) hc) g),
    ))
enum_with_child false head cases present c k vs t new e hc f h n = tt

with_child_fits : (s : Shape) (v : Val) (p : Part) (t : Shape) (new : Val) → Fits s v → HasPart s p → Fits t new → FoundIs (Fits (with_part s p t)) (with_child v p new)
with_child_fits shape.number v p t new f h n = absurd h
with_child_fits shape.truth v p t new f h n = absurd h
with_child_fits shape.no_value v p t new f h n = absurd h
with_child_fits shape.closure v p t new f h n = absurd h
with_child_fits (shape.enum head cases) v (field k) t new f h n = absurd h
with_child_fits (shape.struct head fields) v (payload c k) t new f h n = absurd h
with_child_fits (shape.struct head fields) hole (field k) t new f h n = tt
with_child_fits (shape.struct head fields) (struct type i vs) (field k) t new f h n =
    then_found (AllFit (with_shape fields k t)) (Fits (shape.struct head (with_shape fields k t))) (with_nth vs k new) (λ all. found (struct type i all))
    (with_nth_fits fields vs k t new f.2 h n) (λ all g. (f.0, f.1, g))
with_child_fits (shape.struct head fields) (int m) (field k) t new f h n = absurd f
with_child_fits (shape.struct head fields) (bool b) (field k) t new f h n = absurd f
with_child_fits (shape.struct head fields) unit (field k) t new f h n = absurd f
with_child_fits (shape.struct head fields) (variant present vs) (field k) t new f h n = absurd f
with_child_fits (shape.enum head cases) hole (payload c k) t new f h n = tt
with_child_fits (shape.enum head cases) (variant present vs) (payload c k) t new f h n =
    enum_with_child (present == c) head cases present c k vs t new refl f.0 f.1 h n
with_child_fits (shape.enum head cases) (int m) (payload c k) t new f h n = absurd f
with_child_fits (shape.enum head cases) (bool b) (payload c k) t new f h n = absurd f
with_child_fits (shape.enum head cases) unit (payload c k) t new f h n = absurd f
with_child_fits (shape.enum head cases) (struct type i vs) (payload c k) t new f h n = absurd f

-- ---- whole ways

-- what stands at a place of a value that fits
pub value_at_fits : (s : Shape) (v : Val) (ps : List Part) → Fits s v → HasParts s ps → FoundIs (Fits (shape_along s ps)) (value_at ps v)
value_at_fits s v [] f h = f
value_at_fits s v (p ∷ ps) f h =
    then_found (Fits (part_shape s p)) (Fits (shape_along (part_shape s p) ps)) (child v p) (value_at ps)
    (child_fits s v p f h.0) (λ u g. value_at_fits (part_shape s p) u ps g h.1)

-- what is written there fits the shape with the new one there
pub with_value_at_fits : (s : Shape) (v new : Val) (ps : List Part) (t : Shape) → Fits s v → HasParts s ps → Fits t new → FoundIs (Fits (replaced s ps t)) (with_value_at ps new v)
with_value_at_fits s v new [] t f h n = n
with_value_at_fits s v new (p ∷ ps) t f h n =
    then_found (Fits (part_shape s p)) (Fits (with_part s p (replaced (part_shape s p) ps t))) (child v p) (λ inner. and_then (with_value_at ps new inner) (λ changed. with_child v p changed))
    (child_fits s v p f h.0) (λ inner g.
    then_found (Fits (replaced (part_shape s p) ps t)) (Fits (with_part s p (replaced (part_shape s p) ps t))) (with_value_at ps new inner) (λ changed. with_child v p changed)
    (with_value_at_fits (part_shape s p) inner new ps t g h.1 n) (λ changed c. with_child_fits s v p (replaced (part_shape s p) ps t) changed f h.0 c))

-- ---- a shape with another one at a way

with_same : (ss : Shapes) (k : ℕ) → with_shape ss k (shape_at ss k) ≡ ss
with_same no_shapes k = refl
with_same (shape.shape s ss) zero = refl
with_same (shape.shape s ss) (suc k) = ap (λ z. shape.shape s z) (with_same ss k)

with_again : (ss : Shapes) (k : ℕ) (t u : Shape) → with_shape (with_shape ss k t) k u ≡ with_shape ss k u
with_again no_shapes k t u = refl
with_again (shape.shape s ss) zero t u = refl
with_again (shape.shape s ss) (suc k) t u = ap (λ z. shape.shape s z) (with_again ss k t u)

case_with_same : (cs : Payloads) (c : ℕ) → with_case cs c (payloads_at cs c) ≡ cs
case_with_same no_payloads c = refl
case_with_same (payloads ss cs) zero = refl
case_with_same (payloads ss cs) (suc c) = ap (λ z. payloads ss z) (case_with_same cs c)

case_with_again : (cs : Payloads) (c : ℕ) (t u : Shapes) → with_case (with_case cs c t) c u ≡ with_case cs c u
case_with_again no_payloads c t u = refl
case_with_again (payloads ss cs) zero t u = refl
case_with_again (payloads ss cs) (suc c) t u = ap (λ z. payloads ss z) (case_with_again cs c t u)

shape_there : (ss : Shapes) (k : ℕ) (t : Shape) → HasShape ss k → shape_at (with_shape ss k t) k ≡ t
shape_there no_shapes k t h = absurd h
shape_there (shape.shape s ss) zero t h = refl
shape_there (shape.shape s ss) (suc k) t h = shape_there ss k t h

has_there : (ss : Shapes) (k : ℕ) (t : Shape) → HasShape ss k → HasShape (with_shape ss k t) k
has_there no_shapes k t h = absurd h
has_there (shape.shape s ss) zero t h = tt
has_there (shape.shape s ss) (suc k) t h = has_there ss k t h

-- a case without payloads is none that has some
case_there : (cs : Payloads) (c k : ℕ) (new : Shapes) → HasShape (payloads_at cs c) k → payloads_at (with_case cs c new) c ≡ new
case_there no_payloads c k new h = absurd h
case_there (payloads ss cs) zero k new h = refl
case_there (payloads ss cs) (suc c) k new h = case_there cs c k new h

part_same : (s : Shape) (p : Part) → with_part s p (part_shape s p) ≡ s
part_same (shape.struct head fields) (field k) = ap (λ z. shape.struct head z) (with_same fields k)
part_same (shape.enum head cases) (payload c k) =
    ap (λ z. shape.enum head (with_case cases c z)) (with_same (payloads_at cases c) k) ∙ ap (λ z. shape.enum head z) (case_with_same cases c)
part_same (shape.struct head fields) (payload c k) = refl
part_same (shape.enum head cases) (field k) = refl
part_same shape.number p = refl
part_same shape.truth p = refl
part_same shape.no_value p = refl
part_same shape.closure p = refl

part_there : (s : Shape) (p : Part) (t : Shape) → HasPart s p → part_shape (with_part s p t) p ≡ t
part_there (shape.struct head fields) (field k) t h = shape_there fields k t h
part_there (shape.enum head cases) (payload c k) t h =
    ap (λ z. shape_at z k) (case_there cases c k (with_shape (payloads_at cases c) k t) h) ∙ shape_there (payloads_at cases c) k t h
part_there (shape.struct head fields) (payload c k) t h = absurd h
part_there (shape.enum head cases) (field k) t h = absurd h
part_there shape.number p t h = absurd h
part_there shape.truth p t h = absurd h
part_there shape.no_value p t h = absurd h
part_there shape.closure p t h = absurd h

part_has : (s : Shape) (p : Part) (t : Shape) → HasPart s p → HasPart (with_part s p t) p
part_has (shape.struct head fields) (field k) t h = has_there fields k t h
part_has (shape.enum head cases) (payload c k) t h =
    subst (λ z. HasShape z k) (sym (case_there cases c k (with_shape (payloads_at cases c) k t) h)) (has_there (payloads_at cases c) k t h)
part_has (shape.struct head fields) (payload c k) t h = absurd h
part_has (shape.enum head cases) (field k) t h = absurd h
part_has shape.number p t h = absurd h
part_has shape.truth p t h = absurd h
part_has shape.no_value p t h = absurd h
part_has shape.closure p t h = absurd h

part_again : (s : Shape) (p : Part) (t u : Shape) → HasPart s p → with_part (with_part s p t) p u ≡ with_part s p u
part_again (shape.struct head fields) (field k) t u h = ap (λ z. shape.struct head z) (with_again fields k t u)
part_again (shape.enum head cases) (payload c k) t u h =
    ap (λ z. shape.enum head (with_case (with_case cases c (with_shape (payloads_at cases c) k t)) c (with_shape z k u))) (case_there cases c k (with_shape (payloads_at cases c) k t) h)
    ∙ ap (λ z. shape.enum head z) (case_with_again cases c (with_shape (payloads_at cases c) k t) (with_shape (with_shape (payloads_at cases c) k t) k u))
    ∙ ap (λ z. shape.enum head (with_case cases c z)) (with_again (payloads_at cases c) k t u)
part_again (shape.struct head fields) (payload c k) t u h = absurd h
part_again (shape.enum head cases) (field k) t u h = absurd h
part_again shape.number p t u h = absurd h
part_again shape.truth p t u h = absurd h
part_again shape.no_value p t u h = absurd h
part_again shape.closure p t u h = absurd h

-- a way leads where it led, to the new shape
pub replaced_has : (s : Shape) (ps : List Part) (t : Shape) → HasParts s ps → HasParts (replaced s ps t) ps
replaced_has s [] t h = tt
replaced_has s (p ∷ ps) t h = (
  part_has s p (replaced (part_shape s p) ps t) h.0,
  subst (λ z. HasParts z ps) (sym (part_there s p (replaced (part_shape s p) ps t) h.0)) (replaced_has (part_shape s p) ps t h.1),
)

pub replaced_there : (s : Shape) (ps : List Part) (t : Shape) → HasParts s ps → shape_along (replaced s ps t) ps ≡ t
replaced_there s [] t h = refl
replaced_there s (p ∷ ps) t h =
    ap (λ z. shape_along z ps) (part_there s p (replaced (part_shape s p) ps t) h.0) ∙ replaced_there (part_shape s p) ps t h.1

pub replaced_back : (s : Shape) (ps : List Part) (t : Shape) → HasParts s ps → replaced (replaced s ps t) ps (shape_along s ps) ≡ s
replaced_back s [] t h = refl
replaced_back s (p ∷ ps) t h =
    ap (λ z. with_part (with_part s p (replaced (part_shape s p) ps t)) p (replaced z ps (shape_along (part_shape s p) ps))) (part_there s p (replaced (part_shape s p) ps t) h.0)
    ∙ ap (λ z. with_part (with_part s p (replaced (part_shape s p) ps t)) p z) (replaced_back (part_shape s p) ps t h.1)
    ∙ part_again s p (replaced (part_shape s p) ps t) (part_shape s p) h.0 ∙ part_same s p

pub replaced_same : (s : Shape) (ps : List Part) → replaced s ps (shape_along s ps) ≡ s
replaced_same s [] = refl
replaced_same s (p ∷ ps) = ap (with_part s p) (replaced_same (part_shape s p) ps) ∙ part_same s p

-- ---- what a move leaves, and what a binding without a value holds

mutual
  pub emptied_fits : (s : Shape) (v : Val) → Fits s v → Fits s (emptied v)
  emptied_fits s (int n) f = tt
  emptied_fits s (bool b) f = tt
  emptied_fits s unit f = tt
  emptied_fits s (variant present vs) f = tt
  emptied_fits s hole f = tt
  emptied_fits s (struct type (Some i) vs) f = tt
  emptied_fits s (struct type None no_vals) f = tt
  emptied_fits (shape.struct head fields) (struct type None (val v vs)) f = (f.0, f.1, all_emptied_fit fields (val v vs) f.2)
  emptied_fits shape.number (struct type None (val v vs)) f = absurd f
  emptied_fits shape.truth (struct type None (val v vs)) f = absurd f
  emptied_fits shape.no_value (struct type None (val v vs)) f = absurd f
  emptied_fits shape.closure (struct type None (val v vs)) f = absurd f
  emptied_fits (shape.enum head cases) (struct type None (val v vs)) f = absurd f

  all_emptied_fit : (ss : Shapes) (vs : Vals) → AllFit ss vs → AllFit ss (all_emptied vs)
  all_emptied_fit no_shapes no_vals f = tt
  all_emptied_fit no_shapes (val v vs) f = absurd f
  all_emptied_fit (shape.shape s ss) no_vals f = absurd f
  all_emptied_fit (shape.shape s ss) (val v vs) f = (emptied_fits s v f.0, all_emptied_fit ss vs f.1)

mutual
  pub vacant_fits : (s : Shape) → Fits s (vacant s)
  vacant_fits shape.number = tt
  vacant_fits shape.truth = tt
  vacant_fits shape.no_value = tt
  vacant_fits shape.closure = tt
  vacant_fits (shape.enum head cases) = tt
  vacant_fits (shape.struct head fields) = vacant_struct_fits head.has_deinit head refl fields

  vacant_struct_fits : (d : Bool) (head : TypeHead) → head.has_deinit ≡ d → (fields : Shapes) → Fits (shape.struct head fields) (vacant_struct d head.number fields)
  vacant_struct_fits true head e fields = tt
  vacant_struct_fits false head e no_shapes = tt
  vacant_struct_fits false head e (shape.shape s ss) = (refl, subst (λ d. IsNumbered d None) (sym e) tt, (vacant_fits s, all_vacant_fit ss))

  all_vacant_fit : (ss : Shapes) → AllFit ss (all_vacant ss)
  all_vacant_fit no_shapes = tt
  all_vacant_fit (shape.shape s ss) = (vacant_fits s, all_vacant_fit ss)

-- `self` at the entry of an `init`
pub opened_fits : (s : Shape) → Fits (untracked s) (opened s)
opened_fits shape.number = tt
opened_fits shape.truth = tt
opened_fits shape.no_value = tt
opened_fits shape.closure = tt
opened_fits (shape.enum head cases) = tt
opened_fits (shape.struct head fields) = (refl, tt, all_vacant_fit fields)

-- ---- one way after another

pub parts_append : (s : Shape) (ps qs : List Part) → HasParts s ps → HasParts (shape_along s ps) qs → HasParts s (ps ++ qs)
parts_append s [] qs h g = g
parts_append s (p ∷ ps) qs h g = (h.0, parts_append (part_shape s p) ps qs h.1 g)

pub shape_append : (s : Shape) (ps qs : List Part) → shape_along s (ps ++ qs) ≡ shape_along (shape_along s ps) qs
shape_append s [] qs = refl
shape_append s (p ∷ ps) qs = shape_append (part_shape s p) ps qs

pub fields_along : (s : Shape) (ks : List ℕ) → shape_along s (map field ks) ≡ shape_in s ks
fields_along s [] = refl
fields_along s (k ∷ ks) = fields_along (property_shape s k) ks
