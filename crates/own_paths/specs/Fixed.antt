-- The fixed rules O7 to O11: what breaks them by itself, whatever ways lead to it, and also where none does. A break
-- is written as a finding with one of its causes; `Findings.antt` takes the least one.
use Rattle.std.specs.Prelude.{ℕ, Bool, true, false, not, ◌&&◌, ◌||◌, ◌==◌, if◌then◌else◌, List, [], ◌∷◌, ◌++◌, map, slice_get, Option, Some, None}
use Rattle.own_tree.specs.declared.finding.Finding.{Finding}
use Rattle.own_tree.specs.declared.finding.Rule.{Rule}
use Rattle.own_tree.specs.declared.finding.Rule.TheVariants as rule
use Rattle.own_tree.specs.declared.op.Op.{Op}
use Rattle.own_tree.specs.declared.op.OpKind.{OpKind}
use Rattle.own_tree.specs.declared.op.OpKind.TheVariants as kind
use Rattle.own_tree.specs.declared.place.Binding.{Binding}
use Rattle.own_tree.specs.declared.place.Mode.{Mode}
use Rattle.own_tree.specs.declared.place.Mode.TheVariants as mode
use Rattle.own_tree.specs.declared.place.Place.{Place}
use Rattle.own_tree.specs.declared.span.Span.{Span}
use Rattle.own_tree.specs.declared.typed.At.{At}
use Rattle.own_tree.specs.declared.typed.Passing.{Passing}
use Rattle.own_tree.specs.declared.typed.Passing.TheVariants as passing
use Rattle.own_tree.specs.declared.typed.TypedPath.{TypedPath}
use Rattle.own_tree.specs.OpSource.{Ops, op, nothing, next, either, loop, catch, scope, break_at, continue_at, return_at, halt, in_order}
use Rattle.own_tree.specs.TypedSource.{TExp, number, text, truth, path, parenthesized, consumed, negated, inverted, arithmetic, wrapping, compared, logic, choice, member, call, address, closure, function, TExps, no_exps, exp, TStm, if_else, else_if, switch, TClauses, TBody, Program}
use Rattle.own_paths.specs.Captures.{Captured, captures, first_passing, other_passings}
use Rattle.own_paths.specs.Ops.{use_by, is_literal_true, exp_ops, stm_ops, block_ops, clauses_ops, body_ops}
use Rattle.own_shapes.specs.Spans.{opening}
use Rattle.own_shapes.specs.Places.{whole, overlaps, is_strictly_above}
use Rattle.own_shapes.specs.Types.{is_copyable, Types, leaves, opened_leaves, passes_let}
use Rattle.own_paths.specs.Within.{exps_in, exps_in_block, exps_in_clauses, stms_in_block, stms_in_clauses, literals, path_of}

-- the ops that stand in an op tree, but for the Ends of its scopes
abbrev pub ops_in : Ops → List Op
ops_in (op o) = o ∷ []
ops_in nothing = []
ops_in (next a b) = ops_in a ++ ops_in b
ops_in (either a b) = ops_in a ++ ops_in b
ops_in (loop a b) = ops_in a ++ ops_in b
ops_in (catch a) = ops_in a
ops_in (scope xs close a) = ops_in a
ops_in (break_at s) = []
ops_in (continue_at s) = []
ops_in (return_at s) = []
ops_in halt = []

-- ---- each occurrence

module _ (types : Types) (program : Program) where
  -- What a literal `true` leaves out of a statement, which has no ops in the tree. One that stands in what is left out
  -- is that of another statement.
  abbrev pub left_out : TStm → Ops
  left_out (if_else at c a b) = if is_literal_true c then block_ops types program b else nothing
  left_out (else_if at c a s) = if is_literal_true c then stm_ops types program s else nothing
  left_out s = nothing

  -- the ops of a tree, and of what is left out of it, by all the statements in it
  abbrev pub occurrences : Ops → List TStm → List Op
  occurrences tree ss = ops_in tree ++ ops_in (in_order (map left_out ss))

-- ---- bindings

-- What is borrowed is not given away, nor is `self` before `init` has given it out or while `deinit` ends it.
abbrev pub is_borrowed : Mode → Bool
is_borrowed mode.Let = false
is_borrowed mode.Var = false
is_borrowed mode.Plain = false
is_borrowed mode.Borrowing = true
is_borrowed mode.Consuming = false
is_borrowed mode.Inout = false
is_borrowed mode.Turn = false
is_borrowed mode.PatternOwned = false
is_borrowed mode.PatternBorrowed = true
is_borrowed mode.SelfBorrowing = true
is_borrowed mode.SelfConsuming = false
is_borrowed mode.SelfMutating = false
is_borrowed mode.SelfInit = true
is_borrowed mode.SelfDeinit = true
is_borrowed mode.Closure = false

abbrev pub may_change : Mode → Bool
may_change mode.Let = false
may_change mode.Var = true
may_change mode.Plain = false
may_change mode.Borrowing = false
may_change mode.Consuming = true
may_change mode.Inout = true
may_change mode.Turn = false
may_change mode.PatternOwned = false
may_change mode.PatternBorrowed = false
may_change mode.SelfBorrowing = false
may_change mode.SelfConsuming = true
may_change mode.SelfMutating = true
may_change mode.SelfInit = true
may_change mode.SelfDeinit = false
may_change mode.Closure = false

abbrev pub is_self_in_init : Mode → Bool
is_self_in_init mode.SelfInit = true
is_self_in_init mode.Let = false
is_self_in_init mode.Var = false
is_self_in_init mode.Plain = false
is_self_in_init mode.Borrowing = false
is_self_in_init mode.Consuming = false
is_self_in_init mode.Inout = false
is_self_in_init mode.Turn = false
is_self_in_init mode.PatternOwned = false
is_self_in_init mode.PatternBorrowed = false
is_self_in_init mode.SelfBorrowing = false
is_self_in_init mode.SelfConsuming = false
is_self_in_init mode.SelfMutating = false
is_self_in_init mode.SelfDeinit = false
is_self_in_init mode.Closure = false

-- the leaves of a binding, as the fields that lead to each
abbrev pub binding_leaves : Types → Binding → List (List ℕ)
binding_leaves types b = if is_self_in_init b.mode then opened_leaves (types.shape b.ty) else leaves (types.shape b.ty)

-- ---- kinds of ops

abbrev pub is_consume : OpKind → Bool
is_consume kind.Consume = true
is_consume kind.Declare = false
is_consume kind.Make = false
is_consume kind.Read = false
is_consume kind.Borrow = false
is_consume kind.Inout = false
is_consume kind.Discard = false
is_consume kind.Assign = false
is_consume kind.Capture = false
is_consume kind.End = false

abbrev pub is_assign : OpKind → Bool
is_assign kind.Assign = true
is_assign kind.Declare = false
is_assign kind.Make = false
is_assign kind.Read = false
is_assign kind.Borrow = false
is_assign kind.Inout = false
is_assign kind.Consume = false
is_assign kind.Discard = false
is_assign kind.Capture = false
is_assign kind.End = false

abbrev pub is_inout : OpKind → Bool
is_inout kind.Inout = true
is_inout kind.Declare = false
is_inout kind.Make = false
is_inout kind.Read = false
is_inout kind.Borrow = false
is_inout kind.Consume = false
is_inout kind.Discard = false
is_inout kind.Assign = false
is_inout kind.Capture = false
is_inout kind.End = false

abbrev pub is_discard : OpKind → Bool
is_discard kind.Discard = true
is_discard kind.Declare = false
is_discard kind.Make = false
is_discard kind.Read = false
is_discard kind.Borrow = false
is_discard kind.Inout = false
is_discard kind.Consume = false
is_discard kind.Assign = false
is_discard kind.Capture = false
is_discard kind.End = false

-- ---- O7, O8, O9 on single ops

abbrev pub place_of : ℕ → List ℕ → Place
place_of x fields = record { binding = x; fields = fields }

-- whether one of these leaves of the place's binding lies strictly above the place
abbrev pub lies_in_leaf : Place → List (List ℕ) → Bool
lies_in_leaf p [] = false
lies_in_leaf p (leaf ∷ ls) = is_strictly_above (place_of p.binding leaf) p || lies_in_leaf p ls

abbrev pub is_one_field : List ℕ → Bool
is_one_field [] = false
is_one_field (k ∷ []) = true
is_one_field (k ∷ l ∷ ks) = false

-- an assignment in `init` to a stored property of `self` itself, of which O6 speaks
abbrev pub sets_property : Binding → Op → Bool
sets_property b o = is_assign o.kind && is_self_in_init b.mode && is_one_field o.place.fields

module _ (types : Types) (body_number : ℕ) where
  -- in the body of that number a Consume of what is borrowed, or captured, or of a part of it
  abbrev pub breaks_O7 : Binding → Op → Bool
  breaks_O7 b o = is_consume o.kind && (is_borrowed b.mode || not (b.body == body_number))

  -- a Consume of a part of a leaf
  abbrev pub breaks_O8 : Binding → Op → Bool
  breaks_O8 b o = is_consume o.kind && lies_in_leaf o.place (binding_leaves types b)

  -- an Assign or an Inout of what cannot change, by its binding or through a `let` property
  abbrev pub breaks_O9 : Binding → Op → Bool
  breaks_O9 b o =
      (is_assign o.kind || is_inout o.kind)
      && (not (may_change b.mode) || (passes_let (types.shape b.ty) o.place.fields && not (sets_property b o)))

abbrev pub broken : Rule → Span → Place → Span → Finding
broken rule span place cause = record { rule = rule; span = span; place = place; cause = cause }

abbrev pub if_so : Bool → Finding → List Finding
if_so true f = f ∷ []
if_so false f = []

-- the cause is the declaration of the binding
abbrev pub op_breaks : Types → ℕ → Option Binding → Op → List Finding
op_breaks types body_number None o = []
op_breaks types body_number (Some b) o =
    if_so (breaks_O7 types body_number b o) (broken rule.O7 o.span o.place b.span)
    ++ if_so (breaks_O8 types body_number b o) (broken rule.O8 o.span o.place b.span)
    ++ if_so (breaks_O9 types body_number b o) (broken rule.O9 o.span o.place b.span)

abbrev pub ops_break : Types → Program → ℕ → List Op → List Finding
ops_break types program body_number [] = []
ops_break types program body_number (o ∷ os) =
    op_breaks types body_number (slice_get program.bindings o.place.binding) o ++ ops_break types program body_number os

-- ---- O9 on captures

-- a changing capture of what cannot change
abbrev pub capture_breaks : At → Captured → Option Binding → List Finding
capture_breaks at c None = []
capture_breaks at c (Some b) = if_so (c.change && not (may_change b.mode)) (broken rule.O9 (opening at.span) (whole c.binding) b.span)

abbrev pub captures_break : Program → At → List Captured → List Finding
captures_break program at [] = []
captures_break program at (c ∷ cs) = capture_breaks at c (slice_get program.bindings c.binding) ++ captures_break program at cs

abbrev pub literals_break : Program → List (At × ℕ) → List Finding
literals_break program [] = []
literals_break program (l ∷ ls) = captures_break program l.0 (captures program l.1) ++ literals_break program ls

-- ---- O10

-- what an argument does to a place, or holds until the call returns
pub record Access : Type 0 where
  pub change : Bool
  pub place : Place
  pub span : Span

abbrev pub access : Bool → Place → Span → Access
access change place span = record { change = change; place = place; span = span }

-- a literal holds each binding that it captures
abbrev pub captured_at : At → List Captured → List Access
captured_at at [] = []
captured_at at (c ∷ cs) = access c.change (whole c.binding) (opening at.span) ∷ captured_at at cs

-- the ops that change what they name while others hold it
abbrev pub changes_by : List Op → List Access
changes_by [] = []
changes_by (o ∷ os) = if is_consume o.kind || is_inout o.kind then access true o.place o.span ∷ changes_by os else changes_by os

abbrev pub only_changes : List Access → List Access
only_changes [] = []
only_changes (a ∷ as') = if a.change then a ∷ only_changes as' else only_changes as'

abbrev pub only_borrows : List Access → List Access
only_borrows [] = []
only_borrows (a ∷ as') = if a.change then only_borrows as' else a ∷ only_borrows as'

abbrev pub changes_by_literals : Program → List (At × ℕ) → List Access
changes_by_literals program [] = []
changes_by_literals program (l ∷ ls) = only_changes (captured_at l.0 (captures program l.1)) ++ changes_by_literals program ls

-- two accesses to overlapping places conflict where one of them is a change
abbrev pub conflict : Access → Access → Bool
conflict earlier later = overlaps earlier.place later.place && (earlier.change || later.change)

-- the cause is the access that was held
abbrev pub conflicts_with : List Access → Access → List Finding
conflicts_with [] later = []
conflicts_with (held ∷ earlier) later =
    if_so (conflict held later) (broken rule.O10 later.span later.place held.span) ++ conflicts_with earlier later

abbrev pub all_conflicts : List Access → List Access → List Finding
all_conflicts earlier [] = []
all_conflicts earlier (later ∷ rest) = conflicts_with earlier later ++ all_conflicts earlier rest

-- ---- changes to the subject of a `switch` that borrows it, for O11

-- an op that changes its place or ends it
abbrev pub is_change : OpKind → Bool
is_change k = is_assign k || is_inout k || is_consume k || is_discard k

abbrev pub changes_subject : TypedPath → List Op → List Finding
changes_subject subject [] = []
changes_subject subject (o ∷ os) =
    if_so (is_change o.kind && overlaps o.place subject.place) (broken rule.O11 o.span o.place subject.at.span)
    ++ changes_subject subject os

abbrev pub accesses_change_subject : TypedPath → List Access → List Finding
accesses_change_subject subject [] = []
accesses_change_subject subject (a ∷ as') =
    if_so (overlaps a.place subject.place) (broken rule.O11 a.span a.place subject.at.span)
    ++ accesses_change_subject subject as'

-- ---- calls, and clauses of a `switch`

module _ (types : Types) (program : Program) where
  -- a path that is passed holds its place, borrowed or to be changed
  abbrev pub held_path : Passing → TypedPath → List Access
  held_path passing.Borrow p = if is_copyable types p.at.ty then [] else access false p.place p.at.span ∷ []
  held_path passing.Inout p = access true p.place p.at.span ∷ []
  held_path passing.ByValue p = []
  held_path passing.Consume p = []
  held_path passing.Closure p = []

  -- what an argument holds from its evaluation until the call returns
  abbrev pub held : Passing → TExp → List Access
  held given (path p) = held_path given p
  held given (parenthesized at e) = held given e
  held given (address p) = access true p.place p.at.span ∷ []
  held given (closure at k) = captured_at at (captures program k)
  held given (number at n) = []
  held given (text at t) = []
  held given (truth at b) = []
  held given (consumed at p) = []
  held given (negated at mark e) = []
  held given (inverted at e) = []
  held given (arithmetic at o mark a b) = []
  held given (wrapping at o a b) = []
  held given (compared at o a b) = []
  held given (logic at o a b) = []
  held given (choice at c a b) = []
  held given (member at e k) = []
  held given (call at to es passings) = []
  held given (function at x) = []

  -- what is changed while an argument is evaluated: by each Consume, each Inout and each changing Capture
  abbrev pub changes_in : Passing → TExp → List Access
  changes_in given e = changes_by (ops_in (exp_ops types program e (use_by given))) ++ changes_by_literals program (literals (exps_in e))

  -- What may conflict with an earlier argument. An access that changes is held by the Inout or the Capture that
  -- makes it, so it is among the changes already.
  abbrev pub claims : Passing → TExp → List Access
  claims given e = changes_in given e ++ only_borrows (held given e)

  -- the conflicts of arguments with those before them, which hold so much
  abbrev pub args_break : List Access → TExps → List Passing → List Finding
  args_break earlier no_exps ps = []
  args_break earlier (exp e es) ps =
      all_conflicts earlier (claims (first_passing ps) e) ++ args_break (earlier ++ held (first_passing ps) e) es (other_passings ps)

  abbrev pub calls_break : List TExp → List Finding
  calls_break [] = []
  calls_break (call at to es passings ∷ rest) = args_break [] es passings ++ calls_break rest
  calls_break (e ∷ rest) = calls_break rest

  abbrev pub clauses_break : TypedPath → List Op → TClauses → List Finding
  clauses_break subject os cs =
      changes_subject subject os ++ accesses_change_subject subject (changes_by_literals program (literals (exps_in_clauses cs)))

  -- A `switch` borrows a plain path of noncopyable type, and consumes any other subject (SE-0432).
  abbrev pub switch_breaks : Option TypedPath → List Op → TClauses → List Finding
  switch_breaks None os cs = []
  switch_breaks (Some subject) os cs = if is_copyable types subject.at.ty then [] else clauses_break subject os cs

  abbrev pub switches_break : List TStm → List Finding
  switches_break [] = []
  switches_break (switch at e cs ∷ rest) =
      switch_breaks (path_of e) (occurrences types program (in_order (clauses_ops types program e at cs)) (stms_in_clauses cs)) cs
      ++ switches_break rest
  switches_break (s ∷ rest) = switches_break rest

  -- ---- a body

  -- all breaks of O7 to O11 in the body of that number, each with its cause
  abbrev pub fixed_breaks : ℕ → TBody → List Finding
  fixed_breaks body_number body =
      ops_break types program body_number (occurrences types program (body_ops types program body) (stms_in_block body.block))
      ++ literals_break program (literals (exps_in_block body.block))
      ++ calls_break (exps_in_block body.block)
      ++ switches_break (stms_in_block body.block)
