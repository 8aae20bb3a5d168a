-- What statements, blocks, clauses and bodies weigh.
use Rattle.std.proofs.Common.{◌≡◌, ℕ, suc, ◌+◌, Bool, true, false, if◌then◌else◌, List, [], ◌∷◌, ◌++◌, map, slice_get, refl, sym, ap, ◌∙◌, arith}
use Rattle.own_tree.specs.declared.op.OpKind.TheVariants as kind
use Rattle.own_tree.specs.declared.span.Span.{Span}
use Rattle.own_tree.specs.declared.typed.At.{At}
use Rattle.own_tree.specs.OpSource.{Ops, nothing, either, loop, catch, break_at, return_at, halt, in_order}
use Rattle.own_tree.specs.TypedSource.{TExp, TWhen, case_of, case_where, default, TStm, let_in, declare, ignore, assign, update, discard_self, if_then, if_else, else_if, loop_while, loop_repeat, loop_for, switch, leave, go_on, return_none, return_value, evaluate, TStms, no_stms, stm, TClauses, no_clauses, clause, TBlk, block, TBody, Program}
use Rattle.own_paths.specs.Fixed.{ops_in, left_out, occurrences}
use Rattle.own_paths.specs.Ops.{as_value, as_borrow, is_literal_true, branch, closing, make, scope_of, binds_twice, turn_binding, clause_ops, exp_ops, stm_ops, stms_ops, block_ops, clauses_ops, returning, has_result, inner_ops, body_ops, at_entry}
use Rattle.own_paths.specs.Within.{exps_in, exps_of_stm, exps_of_stms, exps_of_head, exps_of_heads, stms_in, stms_in_list, stms_in_block, stms_in_clauses, exps_in_block, exps_in_clauses, locals, pattern_bindings, patterns_bindings, node_of}
use Rattle.own_shapes.specs.Types.{Types}
use Rattle.own_uses.specs.Building.{only_value, returned_or_block}
use Rattle.own_uses.proofs.BodyLaws.{returning_value}
use Rattle.own_excl.specs.Changes.{Changed, changed, exp_changes, head_changes, stm_changes, stms_changes, block_changes, clauses_changes}
use Rattle.own_excl.proofs.Totals.{total, total-append, total_two, total_three}
use Rattle.own_excl.proofs.Weights.{op_weight, ops_weigh, literals_weigh, left_weighs, literals_join, literals_of_stms, order_join, order_more, left_join, named_weighs, declared_weighs, makes_weigh, entries_weigh, exp_total}

module _ (types : Types) (program : Program) (p : Changed → ℕ) where
  abbrev ops : Ops → ℕ
  ops t = ops_weigh types program p t

  abbrev order : List Ops → ℕ
  order ts = ops (in_order ts)

  abbrev left : List TStm → ℕ
  left ss = left_weighs types program p ss

  abbrev lits : List TExp → ℕ
  lits es = literals_weigh types program p es

  abbrev value : TExp → Ops
  value e = exp_ops types program e as_value

  -- what two and three parts weigh, one after the other
  pair : (t u : Ops) → order (t ∷ u ∷ []) ≡ ops t + ops u
  pair t u = total_two (op_weight types program p) (ops_in t) (ops_in u)

  triple : (t u v : Ops) → order (t ∷ u ∷ v ∷ []) ≡ ops t + (ops u + ops v)
  triple t u v = total_three (op_weight types program p) (ops_in t) (ops_in u) (ops_in v)

  two_ways : (t u : Ops) → ops (either t u) ≡ ops t + ops u
  two_ways t u = total-append (op_weight types program p) (ops_in t) (ops_in u)

  turns : (t u : Ops) → ops (loop t u) ≡ ops t + ops u
  turns t u = total-append (op_weight types program p) (ops_in t) (ops_in u)

  -- ---- conditions

  -- with what a literal `true` leaves out, both sides
  branched : (c : TExp) (a b : Ops) → ops (branch c a b) + ops (if is_literal_true c then b else nothing) ≡ ops a + ops b
  branched c a b = elim (is_literal_true c) as (λ l. ops (if l then a else either a b) + ops (if l then b else nothing) ≡ ops a + ops b) [
    | true ↦ refl
    | false ↦ omega (arith, two_ways a b)
  ]

  -- a side that changes nothing
  one_sided : (c : TExp) (a b : Ops) → ops b ≡ 0 → ops (branch c a b) ≡ ops a
  one_sided c a b none = elim (is_literal_true c) as (λ l. ops (if l then a else either a b) ≡ ops a) [
    | true ↦ refl
    | false ↦ omega (arith, two_ways a b, none)
  ]

  other_sided : (c : TExp) (a b : Ops) → ops a ≡ 0 → ops b ≡ 0 → ops (branch c a b) ≡ 0
  other_sided c a b none empty = elim (is_literal_true c) as (λ l. ops (if l then a else either a b) ≡ 0) [
    | true ↦ none
    | false ↦ omega (arith, two_ways a b, none, empty)
  ]

  -- ---- clauses

  abbrev guard_ops : TWhen → Ops
  guard_ops (case_of ps) = nothing
  guard_ops (case_where q guard) = value guard
  guard_ops default = nothing

  head_total : (head : TWhen) → total p (head_changes types program head) ≡ ops (guard_ops head) + lits (exps_of_head head)
  head_total (case_of ps) = refl
  head_total (case_where q guard) = exp_total types program p guard as_value
  head_total default = refl

  -- a clause without a guard
  plain : (makes body : List Ops) (xs : List ℕ) (close span : Span) → order makes ≡ 0
      → ops (either (in_order (makes ++ scope_of types program xs close body ∷ break_at span ∷ [])) nothing) ≡ order body
  plain makes body xs close span none =
      omega (
        arith,
        none,
        two_ways (in_order (makes ++ scope_of types program xs close body ∷ break_at span ∷ [])) nothing,
        order_join types program p makes (scope_of types program xs close body ∷ break_at span ∷ []),
        pair (scope_of types program xs close body) (break_at span),
      )

  guarded : (makes : List Ops) (guard inner : Ops) (span : Span) → order makes ≡ 0
      → ops (either (in_order (makes ++ guard ∷ either (in_order (inner ∷ break_at span ∷ [])) nothing ∷ [])) nothing) ≡ ops guard + ops inner
  guarded makes guard inner span none =
      let chosen = either (in_order (inner ∷ break_at span ∷ [])) nothing in
      omega (
        arith,
        none,
        two_ways (in_order (makes ++ guard ∷ chosen ∷ [])) nothing,
        order_join types program p makes (guard ∷ chosen ∷ []),
        pair guard chosen,
        two_ways (in_order (inner ∷ break_at span ∷ [])) nothing,
        pair inner (break_at span),
      )

  clause_weighs : (subject : TExp) (at : At) (span : Span) (head : TWhen) (ss : TStms) (body : List Ops)
      → ops (clause_ops types program subject at span head ss body) ≡ ops (guard_ops head) + order body
  clause_weighs subject at span (case_of ps) ss body =
      let names = patterns_bindings ps in
      omega (arith, plain (map (make types program at) names) body (names ++ locals ss) (closing at.span) span (makes_weigh types program p at names))
  clause_weighs subject at span default ss body = omega (arith, plain [] body (locals ss) (closing at.span) span refl)
  clause_weighs subject at span (case_where q guard) ss body =
      let names = pattern_bindings q in
      let owned = map suc names in
      elim (binds_twice types program subject) as (λ b. ops (either (in_order (map (make types program at) names ++ value guard ∷ either (in_order ((if b then scope_of types program (owned ++ locals ss) (closing at.span) (map (make types program at) owned ++ body) else scope_of types program (names ++ locals ss) (closing at.span) body) ∷ break_at span ∷ [])) nothing ∷ [])) nothing) ≡ ops (value guard) + order body) [
        | true ↦ omega (
          arith,
          guarded (map (make types program at) names) (value guard) (scope_of types program (owned ++ locals ss) (closing at.span) (map (make types program at) owned ++ body)) span (makes_weigh types program p at names),
          order_join types program p (map (make types program at) owned) body,
          makes_weigh types program p at owned,
        )
        | false ↦ guarded (map (make types program at) names) (value guard) (scope_of types program (names ++ locals ss) (closing at.span) body) span (makes_weigh types program p at names)
      ]

  -- ---- statements

  -- what a statement without parts in it weighs
  single : (e : TExp) (s : TStm) → left_out types program s ≡ nothing → exps_of_stm s ≡ exps_in e
      → left (s ∷ []) + lits (exps_of_stms (s ∷ [])) ≡ lits (exps_in e)
  single e s none is =
      let out = ap ops none in
      let here = ap lits is in
      omega (arith, out, here, order_more types program p (left_out types program s) [], literals_join types program p (exps_of_stm s) [])

  mutual
    pub stm_total : (s : TStm) → total p (stm_changes types program s) ≡ ops (stm_ops types program s) + left (stms_in s) + lits (exps_of_stms (stms_in s))
    stm_total (let_in at x e) =
        omega (arith, exp_total types program p e as_value, single e (let_in at x e) refl refl, pair (value e) (make types program at x), named_weighs types program p at.id x (slice_get program.bindings x))
    stm_total (declare at x) = omega (arith, declared_weighs types program p at.id x (slice_get program.bindings x))
    stm_total (ignore at e) = omega (arith, exp_total types program p e as_value, single e (ignore at e) refl refl)
    stm_total (assign at q e) =
        let set = changed kind.Assign q.place q.at.span in
        omega (
          arith,
          exp_total types program p e as_value,
          single e (assign at q e) refl refl,
          total-append p (exp_changes types program e as_value) (set ∷ []),
          total_two (op_weight types program p) (ops_in (value e)) (record { kind = kind.Assign; place = q.place; span = q.at.span; node = q.at.id } ∷ []),
        )
    stm_total (update at q o mark e) =
        let set = changed kind.Assign q.place q.at.span in
        omega (
          arith,
          exp_total types program p e as_value,
          single e (update at q o mark e) refl refl,
          total-append p (exp_changes types program e as_value) (set ∷ []),
          total-append (op_weight types program p) (ops_in (value e)) (record { kind = kind.Read; place = q.place; span = q.at.span; node = q.at.id } ∷ record { kind = kind.Assign; place = q.place; span = q.at.span; node = q.at.id } ∷ []),
        )
    stm_total (discard_self at q) = omega arith
    stm_total (if_then at c a) =
        omega (
          arith,
          exp_total types program p c as_value,
          block_total a,
          total-append p (exp_changes types program c as_value) (block_changes types program a),
          pair (value c) (branch c (block_ops types program a) nothing),
          one_sided c (block_ops types program a) nothing refl,
          order_more types program p nothing (map (left_out types program) (stms_in_block a)),
          literals_join types program p (exps_in c) (exps_of_stms (stms_in_block a)),
        )
    stm_total (if_else at c a b) =
        let out = if is_literal_true c then block_ops types program b else nothing in
        omega (
          arith,
          exp_total types program p c as_value,
          block_total a,
          block_total b,
          total-append p (exp_changes types program c as_value ++ block_changes types program a) (block_changes types program b),
          total-append p (exp_changes types program c as_value) (block_changes types program a),
          pair (value c) (branch c (block_ops types program a) (block_ops types program b)),
          branched c (block_ops types program a) (block_ops types program b),
          order_more types program p out (map (left_out types program) (stms_in_block a ++ stms_in_block b)),
          left_join types program p (stms_in_block a) (stms_in_block b),
          literals_join types program p (exps_in c) (exps_of_stms (stms_in_block a ++ stms_in_block b)),
          literals_of_stms types program p (stms_in_block a) (stms_in_block b),
        )
    stm_total (else_if at c a s) =
        let out = if is_literal_true c then stm_ops types program s else nothing in
        omega (
          arith,
          exp_total types program p c as_value,
          block_total a,
          stm_total s,
          total-append p (exp_changes types program c as_value ++ block_changes types program a) (stm_changes types program s),
          total-append p (exp_changes types program c as_value) (block_changes types program a),
          pair (value c) (branch c (block_ops types program a) (stm_ops types program s)),
          branched c (block_ops types program a) (stm_ops types program s),
          order_more types program p out (map (left_out types program) (stms_in_block a ++ stms_in s)),
          left_join types program p (stms_in_block a) (stms_in s),
          literals_join types program p (exps_in c) (exps_of_stms (stms_in_block a ++ stms_in s)),
          literals_of_stms types program p (stms_in_block a) (stms_in s),
        )
    stm_total (loop_while at c a) =
        let turn = branch c (block_ops types program a) (break_at at.span) in
        omega (
          arith,
          exp_total types program p c as_value,
          block_total a,
          total-append p (exp_changes types program c as_value) (block_changes types program a),
          turns (in_order (value c ∷ turn ∷ [])) nothing,
          pair (value c) turn,
          one_sided c (block_ops types program a) (break_at at.span) refl,
          order_more types program p nothing (map (left_out types program) (stms_in_block a)),
          literals_join types program p (exps_in c) (exps_of_stms (stms_in_block a)),
        )
    stm_total (loop_repeat at a c) =
        let turn = branch c nothing (break_at at.span) in
        omega (
          arith,
          exp_total types program p c as_value,
          block_total a,
          total-append p (block_changes types program a) (exp_changes types program c as_value),
          turns (block_ops types program a) (in_order (value c ∷ turn ∷ [])),
          pair (value c) turn,
          other_sided c nothing (break_at at.span) refl refl,
          order_more types program p nothing (map (left_out types program) (stms_in_block a)),
          literals_join types program p (exps_in c) (exps_of_stms (stms_in_block a)),
        )
    stm_total (loop_for at x low o mark high (block body ss)) =
        let turn = turn_binding types program x in
        let made = map (make types program at) turn in
        let inside = scope_of types program (turn ++ locals ss) (closing body.span) (made ++ stms_ops types program ss) in
        let turned = loop (either inside (break_at at.span)) nothing in
        omega (
          arith,
          exp_total types program p low as_value,
          exp_total types program p high as_value,
          stms_total ss,
          total-append p (exp_changes types program low as_value ++ exp_changes types program high as_value) (stms_changes types program ss),
          total-append p (exp_changes types program low as_value) (exp_changes types program high as_value),
          triple (value low) (value high) turned,
          turns (either inside (break_at at.span)) nothing,
          two_ways inside (break_at at.span),
          order_join types program p made (stms_ops types program ss),
          makes_weigh types program p at turn,
          order_more types program p nothing (map (left_out types program) (stms_in_list ss)),
          literals_join types program p (exps_in low ++ exps_in high) (exps_of_stms (stms_in_list ss)),
          literals_join types program p (exps_in low) (exps_in high),
        )
    stm_total (switch at e cs) =
        let taken = clauses_ops types program e at cs in
        omega (
          arith,
          exp_total types program p e as_borrow,
          clauses_total e at cs,
          total-append p (exp_changes types program e as_borrow) (clauses_changes types program cs),
          pair (exp_ops types program e as_borrow) (catch (in_order (taken ++ halt ∷ []))),
          order_join types program p taken (halt ∷ []),
          order_more types program p nothing (map (left_out types program) (stms_in_clauses cs)),
          literals_join types program p (exps_in e ++ exps_of_heads cs) (exps_of_stms (stms_in_clauses cs)),
          literals_join types program p (exps_in e) (exps_of_heads cs),
        )
    stm_total (leave at) = refl
    stm_total (go_on at) = refl
    stm_total (return_none at) = refl
    stm_total (return_value at e) = omega (arith, exp_total types program p e as_value, single e (return_value at e) refl refl, pair (value e) (return_at at.span))
    stm_total (evaluate at e) = omega (arith, exp_total types program p e as_value, single e (evaluate at e) refl refl)

    pub stms_total : (ss : TStms) → total p (stms_changes types program ss) ≡ order (stms_ops types program ss) + left (stms_in_list ss) + lits (exps_of_stms (stms_in_list ss))
    stms_total no_stms = refl
    stms_total (stm s ss) =
        omega (
          arith,
          stm_total s,
          stms_total ss,
          total-append p (stm_changes types program s) (stms_changes types program ss),
          order_more types program p (stm_ops types program s) (stms_ops types program ss),
          left_join types program p (stms_in s) (stms_in_list ss),
          literals_of_stms types program p (stms_in s) (stms_in_list ss),
        )

    pub block_total : (b : TBlk) → total p (block_changes types program b) ≡ ops (block_ops types program b) + left (stms_in_block b) + lits (exps_of_stms (stms_in_block b))
    block_total (block at ss) = stms_total ss

    pub clauses_total : (subject : TExp) (at : At) (cs : TClauses) → total p (clauses_changes types program cs)
        ≡ order (clauses_ops types program subject at cs) + left (stms_in_clauses cs) + (lits (exps_of_heads cs) + lits (exps_of_stms (stms_in_clauses cs)))
    clauses_total subject at no_clauses = refl
    clauses_total subject at (clause span head ss cs) =
        omega (
          arith,
          head_total head,
          stms_total ss,
          clauses_total subject at cs,
          total-append p (head_changes types program head ++ stms_changes types program ss) (clauses_changes types program cs),
          total-append p (head_changes types program head) (stms_changes types program ss),
          order_more types program p (clause_ops types program subject at span head ss (stms_ops types program ss)) (clauses_ops types program subject at cs),
          clause_weighs subject at span head ss (stms_ops types program ss),
          left_join types program p (stms_in_list ss) (stms_in_clauses cs),
          literals_join types program p (exps_of_head head) (exps_of_heads cs),
          literals_of_stms types program p (stms_in_list ss) (stms_in_clauses cs),
        )

  -- ---- bodies

  value_weighs : (at : At) (ss : TStms) → ops (returned_or_block types program (block at ss) (only_value ss)) ≡ order (stms_ops types program ss)
  value_weighs at no_stms = refl
  value_weighs at (stm s (stm t ss)) = refl
  value_weighs at (stm (let_in node x e) no_stms) = refl
  value_weighs at (stm (declare node x) no_stms) = refl
  value_weighs at (stm (ignore node e) no_stms) = refl
  value_weighs at (stm (assign node q e) no_stms) = refl
  value_weighs at (stm (update node q o mark e) no_stms) = refl
  value_weighs at (stm (discard_self node q) no_stms) = refl
  value_weighs at (stm (if_then node c a) no_stms) = refl
  value_weighs at (stm (if_else node c a b) no_stms) = refl
  value_weighs at (stm (else_if node c a s) no_stms) = refl
  value_weighs at (stm (loop_while node c a) no_stms) = refl
  value_weighs at (stm (loop_repeat node a c) no_stms) = refl
  value_weighs at (stm (loop_for node x low o mark high a) no_stms) = refl
  value_weighs at (stm (switch node e cs) no_stms) = refl
  value_weighs at (stm (leave node) no_stms) = refl
  value_weighs at (stm (go_on node) no_stms) = refl
  value_weighs at (stm (return_none node) no_stms) = refl
  value_weighs at (stm (return_value node e) no_stms) = refl
  value_weighs at (stm (evaluate node e) no_stms) = omega (arith, pair (value e) (return_at (node_of e).span), order_more types program p (value e) [])

  returning_weighs : (is_value : Bool) (b : TBlk) → ops (returning types program is_value b) ≡ ops (block_ops types program b)
  returning_weighs false b = refl
  returning_weighs true (block at ss) = sym (ap ops (returning_value types program at ss)) ∙ value_weighs at ss

  pub body_weighs : (body : TBody) → ops (body_ops types program body) ≡ ops (block_ops types program body.block)
  body_weighs body =
      let entries = map (λ x. at_entry x (slice_get program.bindings x)) body.params in
      let last = returning types program (has_result body.result) body.block in
      omega (
        arith,
        pair (inner_ops types program body) (return_at body.close),
        order_join types program p entries (last ∷ []),
        entries_weigh types program p body.params,
        order_more types program p last [],
        returning_weighs (has_result body.result) body.block,
      )

  -- what a body does, with what is left out of its tree
  pub body_total : (body : TBody)
      → total p (block_changes types program body.block)
      ≡ total (op_weight types program p) (occurrences types program (body_ops types program body) (stms_in_block body.block)) + lits (exps_in_block body.block)
  body_total body =
      let out = ops_in (in_order (map (left_out types program) (stms_in_block body.block))) in
      omega (arith, block_total body.block, body_weighs body, total-append (op_weight types program p) (ops_in (body_ops types program body)) out)

  pub switch_total : (subject : TExp) (at : At) (cs : TClauses)
      → total p (clauses_changes types program cs)
      ≡ total (op_weight types program p) (occurrences types program (in_order (clauses_ops types program subject at cs)) (stms_in_clauses cs)) + lits (exps_in_clauses cs)
  switch_total subject at cs =
      let out = ops_in (in_order (map (left_out types program) (stms_in_clauses cs))) in
      omega (
        arith,
        clauses_total subject at cs,
        total-append (op_weight types program p) (ops_in (in_order (clauses_ops types program subject at cs))) out,
        literals_join types program p (exps_of_heads cs) (exps_of_stms (stms_in_clauses cs)),
      )
