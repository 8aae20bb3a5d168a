-- What changes a place within a body, in the order in which the code comes to it: each op that assigns, is passed
-- `inout`, consumes or discards, and each changing Capture of a closure literal.
use Rattle.std.specs.Prelude.{if◌then◌else◌, List, [], ◌∷◌, ◌++◌}
use Rattle.own_tree.specs.declared.op.OpKind.{OpKind}
use Rattle.own_tree.specs.declared.op.OpKind.TheVariants as kind
use Rattle.own_tree.specs.declared.place.Place.{Place}
use Rattle.own_tree.specs.declared.span.Span.{Span}
use Rattle.own_tree.specs.declared.typed.At.{At}
use Rattle.own_tree.specs.declared.typed.Passing.{Passing}
use Rattle.own_tree.specs.declared.typed.TypedPath.{TypedPath}
use Rattle.own_tree.specs.TypedSource.{TExp, number, text, truth, path, parenthesized, consumed, negated, inverted, arithmetic, wrapping, compared, logic, choice, member, call, address, closure, function, TExps, no_exps, exp, TWhen, case_of, case_where, default, TStm, let_in, declare, ignore, assign, update, discard_self, if_then, if_else, else_if, loop_while, loop_repeat, loop_for, switch, leave, go_on, return_none, return_value, evaluate, TStms, no_stms, stm, TClauses, no_clauses, clause, TBlk, block, Program}
use Rattle.own_paths.specs.Captures.{Captured, captures, first_passing, other_passings}
use Rattle.own_paths.specs.Ops.{Use, as_value, as_borrow, as_inout, use_by}
use Rattle.own_shapes.specs.Places.{whole}
use Rattle.own_shapes.specs.Spans.{opening}
use Rattle.own_shapes.specs.Types.{Types, is_copyable}

pub record Changed : Type 0 where
  pub kind : OpKind
  pub place : Place
  pub span : Span

abbrev pub changed : OpKind → Place → Span → Changed
changed kind place span = record { kind = kind; place = place; span = span }

-- those of the captures of a literal that change what they capture
abbrev pub captures_changed : At → List Captured → List Changed
captures_changed at [] = []
captures_changed at (c ∷ cs) =
    (if c.change then changed kind.Capture (whole c.binding) (opening at.span) ∷ [] else []) ++ captures_changed at cs

module _ (types : Types) (program : Program) where
  abbrev pub path_changes : Use → TypedPath → List Changed
  path_changes as_value p = if is_copyable types p.at.ty then [] else changed kind.Consume p.place p.at.span ∷ []
  path_changes as_borrow p = []
  path_changes as_inout p = changed kind.Inout p.place p.at.span ∷ []

  abbrev mutual
    pub exp_changes : TExp → Use → List Changed
    exp_changes (number at n) how = []
    exp_changes (text at t) how = []
    exp_changes (truth at b) how = []
    exp_changes (path p) how = path_changes how p
    exp_changes (parenthesized at e) how = exp_changes e how
    exp_changes (consumed at p) how = changed kind.Consume p.place p.at.span ∷ []
    exp_changes (negated at mark e) how = exp_changes e as_value
    exp_changes (inverted at e) how = exp_changes e as_value
    exp_changes (arithmetic at o mark a b) how = exp_changes a as_value ++ exp_changes b as_value
    exp_changes (wrapping at o a b) how = exp_changes a as_value ++ exp_changes b as_value
    exp_changes (compared at o a b) how = exp_changes a as_value ++ exp_changes b as_value
    exp_changes (logic at o a b) how = exp_changes a as_value ++ exp_changes b as_value
    exp_changes (choice at c a b) how = exp_changes c as_value ++ exp_changes a as_value ++ exp_changes b as_value
    exp_changes (member at e k) how = exp_changes e as_value
    exp_changes (call at to es passings) how = args_changes es passings
    exp_changes (address p) how = changed kind.Inout p.place p.at.span ∷ []
    exp_changes (closure at k) how = captures_changed at (captures program k)
    exp_changes (function at x) how = []

    pub args_changes : TExps → List Passing → List Changed
    args_changes no_exps ps = []
    args_changes (exp e es) ps = exp_changes e (use_by (first_passing ps)) ++ args_changes es (other_passings ps)

  -- those of a guard
  abbrev pub head_changes : TWhen → List Changed
  head_changes (case_of ps) = []
  head_changes (case_where p guard) = exp_changes guard as_value
  head_changes default = []

  abbrev mutual
    pub stm_changes : TStm → List Changed
    stm_changes (let_in at x e) = exp_changes e as_value
    stm_changes (declare at x) = []
    stm_changes (ignore at e) = exp_changes e as_value
    stm_changes (assign at p e) = exp_changes e as_value ++ changed kind.Assign p.place p.at.span ∷ []
    stm_changes (update at p o mark e) = exp_changes e as_value ++ changed kind.Assign p.place p.at.span ∷ []
    stm_changes (discard_self at p) = changed kind.Discard p at.span ∷ []
    stm_changes (if_then at c a) = exp_changes c as_value ++ block_changes a
    stm_changes (if_else at c a b) = exp_changes c as_value ++ block_changes a ++ block_changes b
    stm_changes (else_if at c a s) = exp_changes c as_value ++ block_changes a ++ stm_changes s
    stm_changes (loop_while at c a) = exp_changes c as_value ++ block_changes a
    stm_changes (loop_repeat at a c) = block_changes a ++ exp_changes c as_value
    stm_changes (loop_for at x low o mark high a) = exp_changes low as_value ++ exp_changes high as_value ++ block_changes a
    stm_changes (switch at e cs) = exp_changes e as_borrow ++ clauses_changes cs
    stm_changes (leave at) = []
    stm_changes (go_on at) = []
    stm_changes (return_none at) = []
    stm_changes (return_value at e) = exp_changes e as_value
    stm_changes (evaluate at e) = exp_changes e as_value

    pub stms_changes : TStms → List Changed
    stms_changes no_stms = []
    stms_changes (stm s ss) = stm_changes s ++ stms_changes ss

    pub block_changes : TBlk → List Changed
    block_changes (block at ss) = stms_changes ss

    pub clauses_changes : TClauses → List Changed
    clauses_changes no_clauses = []
    clauses_changes (clause span head ss cs) = head_changes head ++ stms_changes ss ++ clauses_changes cs
