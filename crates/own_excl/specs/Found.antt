-- The breaks of O7 to O11, by what changes a place. They are those of the rules, in another order.
use Rattle.std.specs.Prelude.{ℕ, Bool, true, false, not, ◌&&◌, if◌then◌else◌, List, [], ◌∷◌, ◌++◌, slice_get, Option, Some, None}
use Rattle.own_tree.specs.declared.finding.Finding.{Finding}
use Rattle.own_tree.specs.declared.finding.Rule.TheVariants as rule
use Rattle.own_tree.specs.declared.op.Op.{Op}
use Rattle.own_tree.specs.declared.op.OpKind.{OpKind}
use Rattle.own_tree.specs.declared.op.OpKind.TheVariants as kind
use Rattle.own_tree.specs.declared.place.Binding.{Binding}
use Rattle.own_tree.specs.declared.typed.Passing.{Passing}
use Rattle.own_tree.specs.declared.typed.TypedPath.{TypedPath}
use Rattle.own_tree.specs.TypedSource.{TExp, number, text, truth, path, parenthesized, consumed, negated, inverted, arithmetic, wrapping, compared, logic, choice, member, call, address, closure, function, TExps, no_exps, exp, TStm, let_in, declare, ignore, assign, update, discard_self, if_then, if_else, else_if, loop_while, loop_repeat, loop_for, switch, leave, go_on, return_none, return_value, evaluate, TClauses, TBlk, Program}
use Rattle.own_paths.specs.Captures.{first_passing, other_passings}
use Rattle.own_paths.specs.Fixed.{Access, access, may_change, op_breaks, broken, if_so, held, only_borrows, all_conflicts}
use Rattle.own_paths.specs.Ops.{use_by}
use Rattle.own_paths.specs.Within.{path_of, exps_in_block, stms_in_block}
use Rattle.own_shapes.specs.Places.{overlaps}
use Rattle.own_shapes.specs.Types.{Types, is_copyable}
use Rattle.own_excl.specs.Changes.{Changed, exp_changes, clauses_changes, block_changes}

abbrev pub is_capture : OpKind → Bool
is_capture kind.Capture = true
is_capture kind.Declare = false
is_capture kind.Make = false
is_capture kind.Read = false
is_capture kind.Borrow = false
is_capture kind.Inout = false
is_capture kind.Consume = false
is_capture kind.Discard = false
is_capture kind.Assign = false
is_capture kind.End = false

-- ---- O7, O8 and O9

abbrev pub op_for : Changed → Op
op_for c = record { kind = c.kind; place = c.place; span = c.span; node = 0 }

-- a changing capture of what cannot change
abbrev pub capture_found : Changed → Option Binding → List Finding
capture_found c None = []
capture_found c (Some b) = if_so (is_capture c.kind && not (may_change b.mode)) (broken rule.O9 c.span c.place b.span)

module _ (types : Types) (program : Program) (k : ℕ) where
  abbrev pub change_found : Changed → List Finding
  change_found c =
      op_breaks types k (slice_get program.bindings c.place.binding) (op_for c)
      ++ capture_found c (slice_get program.bindings c.place.binding)

  abbrev pub changes_found : List Changed → List Finding
  changes_found [] = []
  changes_found (c ∷ cs) = change_found c ++ changes_found cs

-- ---- O10

-- what changes a place while others hold it: an assignment and `discard self` are no part of an expression
abbrev pub is_claim : OpKind → Bool
is_claim kind.Consume = true
is_claim kind.Inout = true
is_claim kind.Capture = true
is_claim kind.Assign = false
is_claim kind.Discard = false
is_claim kind.Declare = false
is_claim kind.Make = false
is_claim kind.Read = false
is_claim kind.Borrow = false
is_claim kind.End = false

abbrev pub claim_of : Changed → List Access
claim_of c = if is_claim c.kind then access true c.place c.span ∷ [] else []

abbrev pub changes_claim : List Changed → List Access
changes_claim [] = []
changes_claim (c ∷ cs) = claim_of c ++ changes_claim cs

-- ---- O11

abbrev pub subject_found : TypedPath → List Changed → List Finding
subject_found subject [] = []
subject_found subject (c ∷ cs) =
    if_so (overlaps c.place subject.place) (broken rule.O11 c.span c.place subject.at.span) ++ subject_found subject cs

module _ (types : Types) (program : Program) where
  abbrev pub arg_claims : Passing → TExp → List Access
  arg_claims given e = changes_claim (exp_changes types program e (use_by given)) ++ only_borrows (held types program given e)

  abbrev pub args_found : List Access → TExps → List Passing → List Finding
  args_found earlier no_exps ps = []
  args_found earlier (exp e es) ps =
      all_conflicts earlier (arg_claims (first_passing ps) e)
      ++ args_found (earlier ++ held types program (first_passing ps) e) es (other_passings ps)

  abbrev pub call_found : TExp → List Finding
  call_found (call at to es passings) = args_found [] es passings
  call_found (number at n) = []
  call_found (text at t) = []
  call_found (truth at b) = []
  call_found (path p) = []
  call_found (parenthesized at e) = []
  call_found (consumed at p) = []
  call_found (negated at mark e) = []
  call_found (inverted at e) = []
  call_found (arithmetic at o mark a b) = []
  call_found (wrapping at o a b) = []
  call_found (compared at o a b) = []
  call_found (logic at o a b) = []
  call_found (choice at c a b) = []
  call_found (member at e k) = []
  call_found (address p) = []
  call_found (closure at k) = []
  call_found (function at x) = []

  abbrev pub calls_found : List TExp → List Finding
  calls_found [] = []
  calls_found (e ∷ es) = call_found e ++ calls_found es

  abbrev pub clauses_found : Option TypedPath → TClauses → List Finding
  clauses_found None cs = []
  clauses_found (Some subject) cs =
      if is_copyable types subject.at.ty then [] else subject_found subject (clauses_changes types program cs)

  abbrev pub switch_found : TStm → List Finding
  switch_found (switch at e cs) = clauses_found (path_of e) cs
  switch_found (let_in at x e) = []
  switch_found (declare at x) = []
  switch_found (ignore at e) = []
  switch_found (assign at p e) = []
  switch_found (update at p o mark e) = []
  switch_found (discard_self at p) = []
  switch_found (if_then at c a) = []
  switch_found (if_else at c a b) = []
  switch_found (else_if at c a s) = []
  switch_found (loop_while at c a) = []
  switch_found (loop_repeat at a c) = []
  switch_found (loop_for at x low o mark high a) = []
  switch_found (leave at) = []
  switch_found (go_on at) = []
  switch_found (return_none at) = []
  switch_found (return_value at e) = []
  switch_found (evaluate at e) = []

  abbrev pub switches_found : List TStm → List Finding
  switches_found [] = []
  switches_found (s ∷ ss) = switch_found s ++ switches_found ss

  -- all of a body
  abbrev pub block_found : ℕ → TBlk → List Finding
  block_found k b =
      changes_found types program k (block_changes types program b)
      ++ calls_found (exps_in_block b)
      ++ switches_found (stms_in_block b)
