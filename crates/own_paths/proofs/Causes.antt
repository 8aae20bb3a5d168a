-- What breaks one rule at one span and one place has one cause.
use Rattle.std.proofs.Common.{◌≡◌, ℕ, List, [], ◌∷◌, ◌++◌, Bool, true, false, Option, Some, None, inl, inr, sym, ◌∙◌, subst}
use Rattle.std.specs.Prelude.{slice_get, if◌then◌else◌}
use Rattle.own_tree.specs.declared.finding.Finding.{Finding}
use Rattle.own_tree.specs.declared.finding.Rule.{Rule}
use Rattle.own_tree.specs.declared.finding.Rule.TheVariants as rule
use Rattle.own_tree.specs.declared.op.Op.{Op}
use Rattle.own_tree.specs.declared.place.Binding.{Binding}
use Rattle.own_tree.specs.declared.span.Span.{Span}
use Rattle.own_tree.specs.declared.typed.At.{At}
use Rattle.own_tree.specs.declared.typed.Passing.{Passing}
use Rattle.own_tree.specs.declared.typed.TypedPath.{TypedPath}
use Rattle.own_tree.specs.OpSource.{in_order}
use Rattle.own_tree.specs.TypedSource.{TExp, number, text, truth, path, parenthesized, consumed, negated, inverted, arithmetic, wrapping, compared, logic, choice, member, call, address, closure, function, TExps, no_exps, exp, TStm, let_in, declare, ignore, assign, update, discard_self, if_then, if_else, else_if, loop_while, loop_repeat, loop_for, switch, leave, go_on, return_none, return_value, evaluate, TClauses, TBody, Program}
use Rattle.own_paths.specs.Captures.{Captured, captures, first_passing, other_passings}
use Rattle.own_paths.specs.Findings.{IsSameBreak, BreaksAtOp, BreaksAtReturn, IsLeastCause, IsLeastLeaf, IsFirstLeaf, IsPathFindingBy, IsLeastOf, IsBodyFinding, IsFixedFinding}
use Rattle.own_paths.specs.Fixed.{Access, occurrences, breaks_O7, breaks_O8, breaks_O9, broken, if_so, op_breaks, ops_break, capture_breaks, captures_break, literals_break, conflict, conflicts_with, all_conflicts, held, claims, args_break, calls_break, changes_subject, accesses_change_subject, clauses_break, switch_breaks, switches_break, fixed_breaks}
use Rattle.own_paths.specs.Laws.{FindingsHaveOneCause}
use Rattle.own_paths.specs.Makers.{BodyUses, uses_of}
use Rattle.own_shapes.specs.Spans.{opening}
use Rattle.own_paths.specs.Ops.{body_ops, clauses_ops}
use Rattle.own_shapes.specs.Places.{whole}
use Rattle.own_shapes.specs.Types.{is_copyable, Types}
use Rattle.own_paths.specs.Within.{exps_in_block, stms_in_block, stms_in_clauses, literals, path_of}
use Rattle.own_shapes.proofs.Lists.{In, in_contains}
use Rattle.own_paths.proofs.Orders.{neither_after, span_apart, span_on}

-- ---- what the fixed rules give is of a fixed rule

IsFixedRule : Rule → Type 0
IsFixedRule rule.O1 = ⊥
IsFixedRule rule.O2 = ⊥
IsFixedRule rule.O3 = ⊥
IsFixedRule rule.O4 = ⊥
IsFixedRule rule.O5 = ⊥
IsFixedRule rule.O6 = ⊥
IsFixedRule rule.O7 = Unit {0}
IsFixedRule rule.O8 = Unit {0}
IsFixedRule rule.O9 = Unit {0}
IsFixedRule rule.O10 = Unit {0}
IsFixedRule rule.O11 = Unit {0}
IsFixedRule rule.F1 = ⊥

abbrev AllFixed : List Finding → Type 0
AllFixed [] = Unit {0}
AllFixed (f ∷ fs) = IsFixedRule f.rule × AllFixed fs

both_fixed : (fs gs : List Finding) → AllFixed fs → AllFixed gs → AllFixed (fs ++ gs)
both_fixed [] gs a b = b
both_fixed (f ∷ fs) gs a b = (a.0, both_fixed fs gs a.1 b)

one_fixed : (fs : List Finding) (f : Finding) → AllFixed fs → In fs f → IsFixedRule f.rule
one_fixed [] f a h = absurd h
one_fixed (g ∷ fs) f a (inl e) = subst (λ x. IsFixedRule x.rule) e a.0
one_fixed (g ∷ fs) f a (inr h) = one_fixed fs f a.1 h

if_fixed : (b : Bool) (f : Finding) → IsFixedRule f.rule → AllFixed (if_so b f)
if_fixed true f r = (r, tt)
if_fixed false f r = tt

module _ (types : Types) (program : Program) where
  op_fixed : (k : ℕ) (b : Option Binding) (o : Op) → AllFixed (op_breaks types k b o)
  unfolding IsFixedRule
  op_fixed k None o = tt
  op_fixed k (Some b) o =
      let f7 = if_so (breaks_O7 types k b o) (broken rule.O7 o.span o.place b.span) in
      let f8 = if_so (breaks_O8 types k b o) (broken rule.O8 o.span o.place b.span) in
      both_fixed (f7 ++ f8) _ (both_fixed f7 f8 (if_fixed _ (broken rule.O7 o.span o.place b.span) tt) (if_fixed _ (broken rule.O8 o.span o.place b.span) tt))
      (if_fixed (breaks_O9 types k b o) (broken rule.O9 o.span o.place b.span) tt)

  ops_fixed : (k : ℕ) (os : List Op) → AllFixed (ops_break types program k os)
  ops_fixed k [] = tt
  ops_fixed k (o ∷ os) =
      let b = slice_get program.bindings o.place.binding in both_fixed (op_breaks types k b o) _ (op_fixed k b o) (ops_fixed k os)

  capture_fixed : (at : At) (c : Captured) (b : Option Binding) → AllFixed (capture_breaks at c b)
  unfolding IsFixedRule
  capture_fixed at c None = tt
  capture_fixed at c (Some b) = if_fixed _ (broken rule.O9 (opening at.span) (whole c.binding) b.span) tt

  captures_fixed : (at : At) (cs : List Captured) → AllFixed (captures_break program at cs)
  captures_fixed at [] = tt
  captures_fixed at (c ∷ cs) =
      let b = slice_get program.bindings c.binding in both_fixed (capture_breaks at c b) _ (capture_fixed at c b) (captures_fixed at cs)

  literals_fixed : (ls : List (At × ℕ)) → AllFixed (literals_break program ls)
  literals_fixed [] = tt
  literals_fixed (l ∷ ls) =
      let cs = captures program l.1 in both_fixed (captures_break program l.0 cs) _ (captures_fixed l.0 cs) (literals_fixed ls)

  with_fixed : (earlier : List Access) (later : Access) → AllFixed (conflicts_with earlier later)
  unfolding IsFixedRule
  with_fixed [] later = tt
  with_fixed (h ∷ earlier) later =
      both_fixed (if_so (conflict h later) (broken rule.O10 later.span later.place h.span)) _ (if_fixed (conflict h later) (broken rule.O10 later.span later.place h.span) tt) (with_fixed earlier later)

  conflicts_fixed : (earlier laters : List Access) → AllFixed (all_conflicts earlier laters)
  conflicts_fixed earlier [] = tt
  conflicts_fixed earlier (l ∷ ls) = both_fixed (conflicts_with earlier l) _ (with_fixed earlier l) (conflicts_fixed earlier ls)

  args_fixed : (earlier : List Access) (es : TExps) (ps : List Passing) → AllFixed (args_break types program earlier es ps)
  args_fixed earlier no_exps ps = tt
  args_fixed earlier (exp e es) ps =
      let cs = claims types program (first_passing ps) e in
      both_fixed (all_conflicts earlier cs) _ (conflicts_fixed earlier cs) (args_fixed (earlier ++ held types program (first_passing ps) e) es (other_passings ps))

  calls_fixed : (es : List TExp) → AllFixed (calls_break types program es)
  calls_fixed [] = tt
  calls_fixed (number at n ∷ rest) = calls_fixed rest
  calls_fixed (text at t ∷ rest) = calls_fixed rest
  calls_fixed (truth at b ∷ rest) = calls_fixed rest
  calls_fixed (path p ∷ rest) = calls_fixed rest
  calls_fixed (parenthesized at e ∷ rest) = calls_fixed rest
  calls_fixed (consumed at p ∷ rest) = calls_fixed rest
  calls_fixed (negated at mark e ∷ rest) = calls_fixed rest
  calls_fixed (inverted at e ∷ rest) = calls_fixed rest
  calls_fixed (arithmetic at o mark a b ∷ rest) = calls_fixed rest
  calls_fixed (wrapping at o a b ∷ rest) = calls_fixed rest
  calls_fixed (compared at o a b ∷ rest) = calls_fixed rest
  calls_fixed (logic at o a b ∷ rest) = calls_fixed rest
  calls_fixed (choice at c a b ∷ rest) = calls_fixed rest
  calls_fixed (member at e k ∷ rest) = calls_fixed rest
  calls_fixed (call at to es passings ∷ rest) = both_fixed (args_break types program [] es passings) _ (args_fixed [] es passings) (calls_fixed rest)
  calls_fixed (address p ∷ rest) = calls_fixed rest
  calls_fixed (closure at k ∷ rest) = calls_fixed rest
  calls_fixed (function at x ∷ rest) = calls_fixed rest

  subject_fixed : (subject : TypedPath) (os : List Op) → AllFixed (changes_subject subject os)
  unfolding IsFixedRule
  subject_fixed subject [] = tt
  subject_fixed subject (o ∷ os) = both_fixed (if_so _ (broken rule.O11 o.span o.place subject.at.span)) _ (if_fixed _ (broken rule.O11 o.span o.place subject.at.span) tt) (subject_fixed subject os)

  accesses_fixed : (subject : TypedPath) (as' : List Access) → AllFixed (accesses_change_subject subject as')
  unfolding IsFixedRule
  accesses_fixed subject [] = tt
  accesses_fixed subject (a ∷ as') = both_fixed (if_so _ (broken rule.O11 a.span a.place subject.at.span)) _ (if_fixed _ (broken rule.O11 a.span a.place subject.at.span) tt) (accesses_fixed subject as')

  clauses_fixed : (subject : TypedPath) (os : List Op) (cs : TClauses) → AllFixed (clauses_break types program subject os cs)
  clauses_fixed subject os cs = both_fixed (changes_subject subject os) _ (subject_fixed subject os) (accesses_fixed subject _)

  switch_fixed : (subject : Option TypedPath) (os : List Op) (cs : TClauses) → AllFixed (switch_breaks types program subject os cs)
  switch_fixed None os cs = tt
  switch_fixed (Some subject) os cs = by_copyable (is_copyable types subject.at.ty)
    where
      by_copyable : (b : Bool) → AllFixed (if b then [] else clauses_break types program subject os cs)
      by_copyable true = tt
      by_copyable false = clauses_fixed subject os cs

  switches_fixed : (ss : List TStm) → AllFixed (switches_break types program ss)
  switches_fixed [] = tt
  switches_fixed (let_in at x e ∷ rest) = switches_fixed rest
  switches_fixed (declare at x ∷ rest) = switches_fixed rest
  switches_fixed (ignore at e ∷ rest) = switches_fixed rest
  switches_fixed (assign at p e ∷ rest) = switches_fixed rest
  switches_fixed (update at p o mark e ∷ rest) = switches_fixed rest
  switches_fixed (discard_self at p ∷ rest) = switches_fixed rest
  switches_fixed (if_then at c a ∷ rest) = switches_fixed rest
  switches_fixed (if_else at c a b ∷ rest) = switches_fixed rest
  switches_fixed (else_if at c a s ∷ rest) = switches_fixed rest
  switches_fixed (loop_while at c a ∷ rest) = switches_fixed rest
  switches_fixed (loop_repeat at a c ∷ rest) = switches_fixed rest
  switches_fixed (loop_for at x low o mark high a ∷ rest) = switches_fixed rest
  switches_fixed (switch at e cs ∷ rest) =
      let os = occurrences types program (in_order (clauses_ops types program e at cs)) (stms_in_clauses cs) in
      both_fixed (switch_breaks types program (path_of e) os cs) _ (switch_fixed (path_of e) os cs) (switches_fixed rest)
  switches_fixed (leave at ∷ rest) = switches_fixed rest
  switches_fixed (go_on at ∷ rest) = switches_fixed rest
  switches_fixed (return_none at ∷ rest) = switches_fixed rest
  switches_fixed (return_value at e ∷ rest) = switches_fixed rest
  switches_fixed (evaluate at e ∷ rest) = switches_fixed rest

  all_fixed : (k : ℕ) (body : TBody) → AllFixed (fixed_breaks types program k body)
  all_fixed k body =
      let os = occurrences types program (body_ops types program body) (stms_in_block body.block) in
      let ls = literals (exps_in_block body.block) in
      let es = exps_in_block body.block in
      let ss = stms_in_block body.block in
      let a = ops_break types program k os in
      let b = literals_break program ls in
      let c = calls_break types program es in
      both_fixed (a ++ b ++ c) _ (both_fixed (a ++ b) c (both_fixed a b (ops_fixed k os) (literals_fixed ls)) (calls_fixed es)) (switches_fixed ss)

-- ---- one cause

-- the least of two that are both least
op_cause : (uses : BodyUses) (f g : Finding) → IsSameBreak f g → IsLeastCause uses f → IsLeastCause uses g → f.cause ≡ g.cause
op_cause uses f g same a b =
    neither_after f.cause g.cause (a.least g.cause (moved f g.cause g same b.breaks)) (b.least f.cause (moved g f.cause f (sym same.0, sym same.1, sym same.2) a.breaks))
  where
    moved : (x : Finding) (cause : Span) (y : Finding) → IsSameBreak x y → BreaksAtOp uses y.rule y.span y.place cause → BreaksAtOp uses x.rule x.span x.place cause
    moved x cause y s h =
        subst (λ r. BreaksAtOp uses r x.span x.place cause) (sym s.0) (subst (λ t. BreaksAtOp uses y.rule t x.place cause) (sym s.1) (subst (λ p. BreaksAtOp uses y.rule y.span p cause) (sym s.2) h))

-- of two leaves that are both first
first_cause : (f g : Finding) → IsFirstLeaf f g.place g.cause → IsFirstLeaf g f.place f.cause → f.cause ≡ g.cause
first_cause f g (inl a) (inl b) = absurd (span_apart f.cause (span_on f.cause g.cause f.cause a b))
first_cause f g (inl a) (inr b) = sym b.0
first_cause f g (inr a) b = a.0

return_cause : (uses : BodyUses) (f g : Finding) → IsSameBreak f g → IsLeastLeaf uses f → IsLeastLeaf uses g → f.cause ≡ g.cause
return_cause uses f g same a b =
    first_cause f g (a.least g.place g.cause (moved f g same b.breaks)) (b.least f.place f.cause (moved g f (sym same.0, sym same.1, sym same.2) a.breaks))
  where
    moved : (x y : Finding) → IsSameBreak x y → BreaksAtReturn uses y.rule y.span y.place y.cause → BreaksAtReturn uses x.rule x.span y.place y.cause
    moved x y s h = subst (λ r. BreaksAtReturn uses r x.span y.place y.cause) (sym s.0) (subst (λ t. BreaksAtReturn uses y.rule t y.place y.cause) (sym s.1) h)

path_cause : (uses : BodyUses) (r : Rule) (f g : Finding) → IsSameBreak f g → IsPathFindingBy uses r f → IsPathFindingBy uses r g → f.cause ≡ g.cause
path_cause uses rule.O1 f g same a b = op_cause uses f g same a b
path_cause uses rule.O2 f g same a b = op_cause uses f g same a b
path_cause uses rule.O3 f g same a b = return_cause uses f g same a b
path_cause uses rule.O4 f g same a b = op_cause uses f g same a b
path_cause uses rule.O5 f g same a b = return_cause uses f g same a b
path_cause uses rule.O6 f g same a b = op_cause uses f g same a b
path_cause uses rule.F1 f g same a b = a.cause_is ∙ sym b.cause_is
path_cause uses rule.O7 f g same a b = absurd a
path_cause uses rule.O8 f g same a b = absurd a
path_cause uses rule.O9 f g same a b = absurd a
path_cause uses rule.O10 f g same a b = absurd a
path_cause uses rule.O11 f g same a b = absurd a

fixed_cause : (breaks : List Finding) (f g : Finding) → IsSameBreak f g → IsLeastOf breaks f → IsLeastOf breaks g → f.cause ≡ g.cause
fixed_cause breaks f g same a b =
    neither_after f.cause g.cause (a.least g b.is_one same) (b.least f a.is_one (sym same.0, sym same.1, sym same.2))

-- no finding of a path rule is of a fixed rule
apart : (uses : BodyUses) (r : Rule) (f : Finding) → IsPathFindingBy uses r f → IsFixedRule r → ⊥
unfolding IsFixedRule
apart uses rule.O1 f a b = b
apart uses rule.O2 f a b = b
apart uses rule.O3 f a b = b
apart uses rule.O4 f a b = b
apart uses rule.O5 f a b = b
apart uses rule.O6 f a b = b
apart uses rule.F1 f a b = b
apart uses rule.O7 f a b = a
apart uses rule.O8 f a b = a
apart uses rule.O9 f a b = a
apart uses rule.O10 f a b = a
apart uses rule.O11 f a b = a

with_cause : (f g : Finding) → IsSameBreak f g → f.cause ≡ g.cause → f ≡ g
with_cause f g same cause = λ j. record { rule = same.0 j; span = same.1 j; place = same.2 j; cause = cause j }

pub one_cause : FindingsHaveOneCause
one_cause types program k body f g a b same = with_cause f g same (cause a b)
  where
    is_fixed : (x : Finding) → IsFixedFinding types program k body x → IsFixedRule x.rule
    is_fixed x h = one_fixed (fixed_breaks types program k body) x (all_fixed types program k body) (in_contains _ x h.is_one)

    cause : IsBodyFinding types program k body f → IsBodyFinding types program k body g → f.cause ≡ g.cause
    cause (inl x) (inl y) = path_cause (uses_of types program k body) f.rule f g same x (subst (λ r. IsPathFindingBy (uses_of types program k body) r g) (sym same.0) y)
    cause (inl x) (inr y) = absurd (apart (uses_of types program k body) f.rule f x (subst IsFixedRule (sym same.0) (is_fixed g y)))
    cause (inr x) (inl y) = absurd (apart (uses_of types program k body) g.rule g y (subst IsFixedRule same.0 (is_fixed f x)))
    cause (inr x) (inr y) = fixed_cause (fixed_breaks types program k body) f g same x y
