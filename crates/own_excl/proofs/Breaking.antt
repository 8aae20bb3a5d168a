-- The breaks of the code weigh what those of the rules weigh.
use Rattle.std.proofs.Common.{◌≡◌, ℕ, ◌+◌, Bool, true, false, not, ◌&&◌, if◌then◌else◌, Option, Some, None, List, [], ◌∷◌, ◌++◌, slice_get, refl, arith}
use Rattle.own_tree.specs.declared.finding.Finding.{Finding}
use Rattle.own_tree.specs.declared.finding.Rule.TheVariants as rule
use Rattle.own_tree.specs.declared.op.Op.{Op}
use Rattle.own_tree.specs.declared.op.OpKind.{OpKind}
use Rattle.own_tree.specs.declared.op.OpKind.TheVariants as kind
use Rattle.own_tree.specs.declared.place.Binding.{Binding}
use Rattle.own_tree.specs.declared.place.Place.{Place}
use Rattle.own_tree.specs.declared.span.Span.{Span}
use Rattle.own_tree.specs.declared.typed.At.{At}
use Rattle.own_tree.specs.declared.typed.Passing.{Passing}
use Rattle.own_tree.specs.declared.typed.TypedPath.{TypedPath}
use Rattle.own_tree.specs.OpSource.{in_order}
use Rattle.own_tree.specs.TypedSource.{TExp, number, text, truth, path, parenthesized, consumed, negated, inverted, arithmetic, wrapping, compared, logic, choice, member, call, address, closure, function, TExps, no_exps, exp, TStm, let_in, declare, ignore, assign, update, discard_self, if_then, if_else, else_if, loop_while, loop_repeat, loop_for, switch, leave, go_on, return_none, return_value, evaluate, TClauses, TBody, Program}
use Rattle.own_paths.specs.Captures.{Captured, captures, first_passing, other_passings}
use Rattle.own_paths.specs.Fixed.{ops_in, occurrences, is_change, may_change, Access, access, op_breaks, ops_break, capture_breaks, captures_break, literals_break, captured_at, changes_by, only_changes, only_borrows, changes_by_literals, conflicts_with, all_conflicts, changes_subject, accesses_change_subject, held, claims, args_break, calls_break, clauses_break, switch_breaks, switches_break, fixed_breaks, broken, if_so}
use Rattle.own_paths.specs.Ops.{use_by, exp_ops, body_ops, clauses_ops}
use Rattle.own_paths.specs.Within.{path_of, exps_in, exps_in_block, exps_in_clauses, stms_in_block, stms_in_clauses, literals}
use Rattle.own_shapes.specs.Places.{whole, overlaps}
use Rattle.own_shapes.specs.Spans.{opening}
use Rattle.own_shapes.specs.Types.{Types, is_copyable}
use Rattle.own_excl.specs.Changes.{Changed, changed, captures_changed, exp_changes, block_changes, clauses_changes}
use Rattle.own_excl.specs.Found.{capture_found, change_found, changes_found, claim_of, changes_claim, subject_found, arg_claims, args_found, calls_found, clauses_found, switches_found, block_found}
use Rattle.own_excl.proofs.Totals.{total, total-append, total_end}
use Rattle.own_excl.proofs.Weights.{op_weight, literal_weight, exp_total}
use Rattle.own_excl.proofs.Stepping.{body_total, switch_total}

-- ---- O7, O8 and O9

module _ (types : Types) (program : Program) (k : ℕ) (w : Finding → ℕ) where
  abbrev by_change : Changed → ℕ
  by_change c = total w (change_found types program k c)

  changes_are : (cs : List Changed) → total w (changes_found types program k cs) ≡ total by_change cs
  changes_are [] = refl
  changes_are (c ∷ cs) = omega (arith, changes_are cs, total-append w (change_found types program k c) (changes_found types program k cs))

  -- an op by its parts
  op_is : (of : OpKind) (place : Place) (span : Span) (node : ℕ) (b : Option Binding)
      → (if is_change of then total w (op_breaks types k b (record { kind = of; place = place; span = span; node = 0 }) ++ capture_found (changed of place span) b) else 0)
      ≡ total w (op_breaks types k b (record { kind = of; place = place; span = span; node = node }))
  op_is kind.Declare place span node None = refl
  op_is kind.Make place span node None = refl
  op_is kind.Read place span node None = refl
  op_is kind.Borrow place span node None = refl
  op_is kind.Inout place span node None = refl
  op_is kind.Consume place span node None = refl
  op_is kind.Discard place span node None = refl
  op_is kind.Assign place span node None = refl
  op_is kind.Capture place span node None = refl
  op_is kind.End place span node None = refl
  op_is kind.Declare place span node (Some b) = refl
  op_is kind.Make place span node (Some b) = refl
  op_is kind.Read place span node (Some b) = refl
  op_is kind.Borrow place span node (Some b) = refl
  op_is kind.Inout place span node (Some b) = total_end w (op_breaks types k (Some b) (record { kind = kind.Inout; place = place; span = span; node = 0 }))
  op_is kind.Consume place span node (Some b) = total_end w (op_breaks types k (Some b) (record { kind = kind.Consume; place = place; span = span; node = 0 }))
  op_is kind.Discard place span node (Some b) = refl
  op_is kind.Assign place span node (Some b) = total_end w (op_breaks types k (Some b) (record { kind = kind.Assign; place = place; span = span; node = 0 }))
  op_is kind.Capture place span node (Some b) = refl
  op_is kind.End place span node (Some b) = refl

  ops_are : (os : List Op) → total w (ops_break types program k os) ≡ total (op_weight types program by_change) os
  ops_are [] = refl
  ops_are (o ∷ os) =
      let b = slice_get program.bindings o.place.binding in
      omega (arith, ops_are os, op_is o.kind o.place o.span o.node b, total-append w (op_breaks types k b o) (ops_break types program k os))

  capture_is : (at : At) (c : Captured) (b : Option Binding)
      → total w (capture_breaks at c b)
      ≡ (if c.change then total w (op_breaks types k b (record { kind = kind.Capture; place = whole c.binding; span = opening at.span; node = 0 }) ++ capture_found (changed kind.Capture (whole c.binding) (opening at.span)) b) else 0)
  capture_is at c None = elim c.change as (λ (b : Bool). ◌≡◌ {A = ℕ} 0 (if b then 0 else 0)) [ true ↦ refl | false ↦ refl ]
  capture_is at c (Some b) =
      elim c.change as (λ (is : Bool). total w (if_so (is && not (may_change b.mode)) (broken rule.O9 (opening at.span) (whole c.binding) b.span))
      ≡ (if is then total w (if_so (true && not (may_change b.mode)) (broken rule.O9 (opening at.span) (whole c.binding) b.span)) else 0)) [ true ↦ refl | false ↦ refl ]

  captures_are : (at : At) (cs : List Captured) → total w (captures_break program at cs) ≡ total by_change (captures_changed at cs)
  captures_are at [] = refl
  captures_are at (c ∷ cs) =
      let b = slice_get program.bindings c.binding in
      let own = changed kind.Capture (whole c.binding) (opening at.span) in
      omega (
        arith,
        captures_are at cs,
        capture_is at c b,
        chosen c.change own,
        total-append by_change (if c.change then own ∷ [] else []) (captures_changed at cs),
        total-append w (capture_breaks at c b) (captures_break program at cs),
      )
    where
      chosen : (is : Bool) (x : Changed) → total by_change (if is then x ∷ [] else []) ≡ (if is then by_change x else 0)
      chosen true x = omega arith
      chosen false x = refl

  literals_are : (ls : List (At × ℕ)) → total w (literals_break program ls) ≡ total (literal_weight types program by_change) ls
  literals_are [] = refl
  literals_are (l ∷ ls) = omega (arith, literals_are ls, captures_are l.0 (captures program l.1), total-append w (captures_break program l.0 (captures program l.1)) (literals_break program ls))

  singles_are : (body : TBody) → total w (changes_found types program k (block_changes types program body.block))
      ≡ total w (ops_break types program k (occurrences types program (body_ops types program body) (stms_in_block body.block)))
      + total w (literals_break program (literals (exps_in_block body.block)))
  singles_are body =
      omega (
        arith,
        changes_are (block_changes types program body.block),
        body_total types program by_change body,
        ops_are (occurrences types program (body_ops types program body) (stms_in_block body.block)),
        literals_are (literals (exps_in_block body.block)),
      )

-- ---- O10

module _ (types : Types) (program : Program) (w : Finding → ℕ) where
  abbrev by_access : List Access → Access → ℕ
  by_access earlier a = total w (conflicts_with earlier a)

  conflicts_are : (earlier later : List Access) → total w (all_conflicts earlier later) ≡ total (by_access earlier) later
  conflicts_are earlier [] = refl
  conflicts_are earlier (a ∷ later) = omega (arith, conflicts_are earlier later, total-append w (conflicts_with earlier a) (all_conflicts earlier later))

  module _ (v : Access → ℕ) where
    abbrev by_claim : Changed → ℕ
    by_claim c = total v (claim_of c)

    claims_are : (cs : List Changed) → total v (changes_claim cs) ≡ total by_claim cs
    claims_are [] = refl
    claims_are (c ∷ cs) = omega (arith, claims_are cs, total-append v (claim_of c) (changes_claim cs))

    op_claims : (of : OpKind) (place : Place) (span : Span) (node : ℕ) (os : List Op)
        → total v (changes_by (record { kind = of; place = place; span = span; node = node } ∷ os)) ≡ (if is_change of then by_claim (changed of place span) else 0) + total v (changes_by os)
    op_claims kind.Declare place span node os = omega arith
    op_claims kind.Make place span node os = omega arith
    op_claims kind.Read place span node os = omega arith
    op_claims kind.Borrow place span node os = omega arith
    op_claims kind.Inout place span node os = omega arith
    op_claims kind.Consume place span node os = omega arith
    op_claims kind.Discard place span node os = omega arith
    op_claims kind.Assign place span node os = omega arith
    op_claims kind.Capture place span node os = omega arith
    op_claims kind.End place span node os = omega arith

    ops_claim : (os : List Op) → total v (changes_by os) ≡ total (op_weight types program by_claim) os
    ops_claim [] = refl
    ops_claim (o ∷ os) = omega (arith, ops_claim os, op_claims o.kind o.place o.span o.node os)

    captures_claim : (at : At) (cs : List Captured) → total v (only_changes (captured_at at cs)) ≡ total by_claim (captures_changed at cs)
    captures_claim at [] = refl
    captures_claim at (c ∷ cs) =
        elim c.change as (λ (b : Bool). total v (if b then access b (whole c.binding) (opening at.span) ∷ only_changes (captured_at at cs) else only_changes (captured_at at cs))
        ≡ total by_claim ((if b then changed kind.Capture (whole c.binding) (opening at.span) ∷ [] else []) ++ captures_changed at cs)) [
          | true ↦ omega (arith, captures_claim at cs)
          | false ↦ captures_claim at cs
        ]

    literals_claim : (ls : List (At × ℕ)) → total v (changes_by_literals program ls) ≡ total (literal_weight types program by_claim) ls
    literals_claim [] = refl
    literals_claim (l ∷ ls) =
        omega (arith, literals_claim ls, captures_claim l.0 (captures program l.1), total-append v (only_changes (captured_at l.0 (captures program l.1))) (changes_by_literals program ls))

    arg_is : (given : Passing) (e : TExp) → total v (arg_claims types program given e) ≡ total v (claims types program given e)
    arg_is given e =
        let made = exp_changes types program e (use_by given) in
        let os = ops_in (exp_ops types program e (use_by given)) in
        let borrowed = only_borrows (held types program given e) in
        omega (
          arith,
          claims_are made,
          exp_total types program by_claim e (use_by given),
          ops_claim os,
          literals_claim (literals (exps_in e)),
          total-append v (changes_claim made) borrowed,
          total-append v (changes_by os) (changes_by_literals program (literals (exps_in e))),
          total-append v (changes_by os ++ changes_by_literals program (literals (exps_in e))) borrowed,
        )

  args_are : (earlier : List Access) (es : TExps) (ps : List Passing) → total w (args_found types program earlier es ps) ≡ total w (args_break types program earlier es ps)
  args_are earlier no_exps ps = refl
  args_are earlier (exp e es) ps =
      let given = first_passing ps in
      let later = earlier ++ held types program given e in
      omega (
        arith,
        args_are later es (other_passings ps),
        conflicts_are earlier (arg_claims types program given e),
        conflicts_are earlier (claims types program given e),
        arg_is (by_access earlier) given e,
        total-append w (all_conflicts earlier (arg_claims types program given e)) (args_found types program later es (other_passings ps)),
        total-append w (all_conflicts earlier (claims types program given e)) (args_break types program later es (other_passings ps)),
      )

  calls_are : (es : List TExp) → total w (calls_found types program es) ≡ total w (calls_break types program es)
  calls_are [] = refl
  calls_are (call at to es passings ∷ rest) =
      omega (
        arith,
        calls_are rest,
        args_are [] es passings,
        total-append w (args_found types program [] es passings) (calls_found types program rest),
        total-append w (args_break types program [] es passings) (calls_break types program rest),
      )
  calls_are (number at n ∷ rest) = calls_are rest
  calls_are (text at t ∷ rest) = calls_are rest
  calls_are (truth at b ∷ rest) = calls_are rest
  calls_are (path p ∷ rest) = calls_are rest
  calls_are (parenthesized at e ∷ rest) = calls_are rest
  calls_are (consumed at p ∷ rest) = calls_are rest
  calls_are (negated at mark e ∷ rest) = calls_are rest
  calls_are (inverted at e ∷ rest) = calls_are rest
  calls_are (arithmetic at o mark a b ∷ rest) = calls_are rest
  calls_are (wrapping at o a b ∷ rest) = calls_are rest
  calls_are (compared at o a b ∷ rest) = calls_are rest
  calls_are (logic at o a b ∷ rest) = calls_are rest
  calls_are (choice at c a b ∷ rest) = calls_are rest
  calls_are (member at e k ∷ rest) = calls_are rest
  calls_are (address p ∷ rest) = calls_are rest
  calls_are (closure at k ∷ rest) = calls_are rest
  calls_are (function at x ∷ rest) = calls_are rest

  -- ---- O11

  module _ (subject : TypedPath) where
    abbrev on_subject : Changed → ℕ
    on_subject c = total w (if_so (overlaps c.place subject.place) (broken rule.O11 c.span c.place subject.at.span))

    subject_is : (cs : List Changed) → total w (subject_found subject cs) ≡ total on_subject cs
    subject_is [] = refl
    subject_is (c ∷ cs) =
        omega (arith, subject_is cs, total-append w (if_so (overlaps c.place subject.place) (broken rule.O11 c.span c.place subject.at.span)) (subject_found subject cs))

    op_changes : (b : Bool) (o : Op) → total w (if_so (b && overlaps o.place subject.place) (broken rule.O11 o.span o.place subject.at.span))
        ≡ (if b then on_subject (changed o.kind o.place o.span) else 0)
    op_changes true o = refl
    op_changes false o = refl

    ops_change : (os : List Op) → total w (changes_subject subject os) ≡ total (op_weight types program on_subject) os
    ops_change [] = refl
    ops_change (o ∷ os) =
        omega (
          arith,
          ops_change os,
          op_changes (is_change o.kind) o,
          total-append w (if_so (is_change o.kind && overlaps o.place subject.place) (broken rule.O11 o.span o.place subject.at.span)) (changes_subject subject os),
        )

    accesses_join : (xs ys : List Access) → total w (accesses_change_subject subject (xs ++ ys)) ≡ total w (accesses_change_subject subject xs) + total w (accesses_change_subject subject ys)
    accesses_join [] ys = omega arith
    accesses_join (a ∷ xs) ys =
        let own = if_so (overlaps a.place subject.place) (broken rule.O11 a.span a.place subject.at.span) in
        omega (arith, accesses_join xs ys, total-append w own (accesses_change_subject subject (xs ++ ys)), total-append w own (accesses_change_subject subject xs))

    captures_change : (at : At) (cs : List Captured) → total w (accesses_change_subject subject (only_changes (captured_at at cs))) ≡ total on_subject (captures_changed at cs)
    captures_change at [] = refl
    captures_change at (c ∷ cs) =
        elim c.change as (λ (b : Bool). total w (accesses_change_subject subject (if b then access b (whole c.binding) (opening at.span) ∷ only_changes (captured_at at cs) else only_changes (captured_at at cs)))
        ≡ total on_subject ((if b then changed kind.Capture (whole c.binding) (opening at.span) ∷ [] else []) ++ captures_changed at cs)) [
          | true ↦ omega (
            arith,
            captures_change at cs,
            total-append w (if_so (overlaps (whole c.binding) subject.place) (broken rule.O11 (opening at.span) (whole c.binding) subject.at.span)) (accesses_change_subject subject (only_changes (captured_at at cs))),
          )
          | false ↦ captures_change at cs
        ]

    literals_change : (ls : List (At × ℕ)) → total w (accesses_change_subject subject (changes_by_literals program ls)) ≡ total (literal_weight types program on_subject) ls
    literals_change [] = refl
    literals_change (l ∷ ls) =
        omega (arith, literals_change ls, captures_change l.0 (captures program l.1), accesses_join (only_changes (captured_at l.0 (captures program l.1))) (changes_by_literals program ls))

    within_is : (e : TExp) (at : At) (cs : TClauses) → total w (subject_found subject (clauses_changes types program cs))
        ≡ total w (clauses_break types program subject (occurrences types program (in_order (clauses_ops types program e at cs)) (stms_in_clauses cs)) cs)
    within_is e at cs =
        let os = occurrences types program (in_order (clauses_ops types program e at cs)) (stms_in_clauses cs) in
        omega (
          arith,
          subject_is (clauses_changes types program cs),
          switch_total types program on_subject e at cs,
          ops_change os,
          literals_change (literals (exps_in_clauses cs)),
          total-append w (changes_subject subject os) (accesses_change_subject subject (changes_by_literals program (literals (exps_in_clauses cs)))),
        )

  switch_is : (subject : Option TypedPath) (e : TExp) (at : At) (cs : TClauses) → total w (clauses_found types program subject cs)
      ≡ total w (switch_breaks types program subject (occurrences types program (in_order (clauses_ops types program e at cs)) (stms_in_clauses cs)) cs)
  switch_is None e at cs = refl
  switch_is (Some subject) e at cs =
      let os = occurrences types program (in_order (clauses_ops types program e at cs)) (stms_in_clauses cs) in
      elim (is_copyable types subject.at.ty) as (λ (b : Bool). total w (if b then [] else subject_found subject (clauses_changes types program cs)) ≡ total w (if b then [] else clauses_break types program subject os cs)) [
        | true ↦ refl
        | false ↦ within_is subject e at cs
      ]

  switches_are : (ss : List TStm) → total w (switches_found types program ss) ≡ total w (switches_break types program ss)
  switches_are [] = refl
  switches_are (switch at e cs ∷ ss) =
      let os = occurrences types program (in_order (clauses_ops types program e at cs)) (stms_in_clauses cs) in
      omega (
        arith,
        switches_are ss,
        switch_is (path_of e) e at cs,
        total-append w (clauses_found types program (path_of e) cs) (switches_found types program ss),
        total-append w (switch_breaks types program (path_of e) os cs) (switches_break types program ss),
      )
  switches_are (let_in at x e ∷ ss) = switches_are ss
  switches_are (declare at x ∷ ss) = switches_are ss
  switches_are (ignore at e ∷ ss) = switches_are ss
  switches_are (assign at p e ∷ ss) = switches_are ss
  switches_are (update at p o mark e ∷ ss) = switches_are ss
  switches_are (discard_self at p ∷ ss) = switches_are ss
  switches_are (if_then at c a ∷ ss) = switches_are ss
  switches_are (if_else at c a b ∷ ss) = switches_are ss
  switches_are (else_if at c a s ∷ ss) = switches_are ss
  switches_are (loop_while at c a ∷ ss) = switches_are ss
  switches_are (loop_repeat at a c ∷ ss) = switches_are ss
  switches_are (loop_for at x low o mark high a ∷ ss) = switches_are ss
  switches_are (leave at ∷ ss) = switches_are ss
  switches_are (go_on at ∷ ss) = switches_are ss
  switches_are (return_none at ∷ ss) = switches_are ss
  switches_are (return_value at e ∷ ss) = switches_are ss
  switches_are (evaluate at e ∷ ss) = switches_are ss

-- ---- a body

pub found_total : (types : Types) (program : Program) (k : ℕ) (body : TBody) (w : Finding → ℕ)
    → total w (block_found types program k body.block) ≡ total w (fixed_breaks types program k body)
found_total types program k body w =
    let changes = changes_found types program k (block_changes types program body.block) in
    let calls = calls_found types program (exps_in_block body.block) in
    let switches = switches_found types program (stms_in_block body.block) in
    let ops = ops_break types program k (occurrences types program (body_ops types program body) (stms_in_block body.block)) in
    let literal = literals_break program (literals (exps_in_block body.block)) in
    let called = calls_break types program (exps_in_block body.block) in
    let switched = switches_break types program (stms_in_block body.block) in
    omega (
      arith,
      singles_are types program k w body,
      calls_are types program w (exps_in_block body.block),
      switches_are types program w (stms_in_block body.block),
      total-append w (changes ++ calls) switches,
      total-append w changes calls,
      total-append w (ops ++ literal ++ called) switched,
      total-append w (ops ++ literal) called,
      total-append w ops literal,
    )
