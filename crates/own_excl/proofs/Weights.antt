-- What ops, what is left out of a tree and the literals of expressions weigh, by weights of changes. The changes of the
-- code weigh as much, part by part.
use Rattle.std.proofs.Common.{◌≡◌, ℕ, ◌+◌, true, false, if◌then◌else◌, Option, Some, None, List, [], ◌∷◌, ◌++◌, map, slice_get, refl, ap, arith}
use Rattle.own_tree.specs.declared.op.Op.{Op}
use Rattle.own_tree.specs.declared.op.OpKind.TheVariants as kind
use Rattle.own_tree.specs.declared.place.Binding.{Binding}
use Rattle.own_tree.specs.declared.place.Mode.{Mode}
use Rattle.own_tree.specs.declared.place.Mode.TheVariants as mode
use Rattle.own_tree.specs.declared.typed.At.{At}
use Rattle.own_tree.specs.declared.typed.Passing.{Passing}
use Rattle.own_tree.specs.declared.typed.TypedPath.{TypedPath}
use Rattle.own_tree.specs.OpSource.{Ops, in_order}
use Rattle.own_tree.specs.TypedSource.{TExp, number, text, truth, path, parenthesized, consumed, negated, inverted, arithmetic, wrapping, compared, logic, choice, member, call, address, closure, function, TExps, no_exps, exp, TStm, Program}
use Rattle.own_paths.specs.Captures.{Captured, captures, first_passing, other_passings}
use Rattle.own_paths.specs.Fixed.{ops_in, left_out, is_change}
use Rattle.own_paths.specs.Ops.{Use, as_value, as_borrow, as_inout, use_by, kind_of, op_of, op_at, at_name, at_entry, entry_kind, make, path_ops, exp_ops, args_ops}
use Rattle.own_paths.specs.Within.{exps_in, exps_in_all, exps_of_stm, exps_of_stms, literals}
use Rattle.own_shapes.specs.Places.{whole}
use Rattle.own_shapes.specs.Spans.{opening}
use Rattle.own_shapes.specs.Types.{Types, is_copyable}
use Rattle.own_excl.specs.Changes.{Changed, changed, captures_changed, path_changes, exp_changes, args_changes}
use Rattle.own_excl.proofs.Totals.{total, total-append, total_end, total_two}

module _ (types : Types) (program : Program) (p : Changed → ℕ) where
  abbrev pub op_weight : Op → ℕ
  op_weight o = if is_change o.kind then p (changed o.kind o.place o.span) else 0

  abbrev pub ops_weigh : Ops → ℕ
  ops_weigh t = total op_weight (ops_in t)

  abbrev pub literal_weight : At × ℕ → ℕ
  literal_weight l = total p (captures_changed l.0 (captures program l.1))

  abbrev pub literals_weigh : List TExp → ℕ
  literals_weigh es = total literal_weight (literals es)

  abbrev pub left_weighs : List TStm → ℕ
  left_weighs ss = ops_weigh (in_order (map (left_out types program) ss))

  -- ---- joined

  pub literals_join : (es fs : List TExp) → literals_weigh (es ++ fs) ≡ literals_weigh es + literals_weigh fs
  literals_join [] fs = omega arith
  literals_join (closure at k ∷ es) fs = let rest = literals_join es fs in omega (arith, rest)
  literals_join (number at n ∷ es) fs = literals_join es fs
  literals_join (text at t ∷ es) fs = literals_join es fs
  literals_join (truth at b ∷ es) fs = literals_join es fs
  literals_join (path q ∷ es) fs = literals_join es fs
  literals_join (parenthesized at e ∷ es) fs = literals_join es fs
  literals_join (consumed at q ∷ es) fs = literals_join es fs
  literals_join (negated at mark e ∷ es) fs = literals_join es fs
  literals_join (inverted at e ∷ es) fs = literals_join es fs
  literals_join (arithmetic at o mark a b ∷ es) fs = literals_join es fs
  literals_join (wrapping at o a b ∷ es) fs = literals_join es fs
  literals_join (compared at o a b ∷ es) fs = literals_join es fs
  literals_join (logic at o a b ∷ es) fs = literals_join es fs
  literals_join (choice at c a b ∷ es) fs = literals_join es fs
  literals_join (member at e k ∷ es) fs = literals_join es fs
  literals_join (call at to as' passings ∷ es) fs = literals_join es fs
  literals_join (address q ∷ es) fs = literals_join es fs
  literals_join (function at x ∷ es) fs = literals_join es fs

  pub literals_of_stms : (ss ts : List TStm) → literals_weigh (exps_of_stms (ss ++ ts)) ≡ literals_weigh (exps_of_stms ss) + literals_weigh (exps_of_stms ts)
  literals_of_stms [] ts = omega arith
  literals_of_stms (s ∷ ss) ts =
      let rest = literals_of_stms ss ts in
      omega (arith, rest, literals_join (exps_of_stm s) (exps_of_stms (ss ++ ts)), literals_join (exps_of_stm s) (exps_of_stms ss))

  pub order_join : (ts us : List Ops) → ops_weigh (in_order (ts ++ us)) ≡ ops_weigh (in_order ts) + ops_weigh (in_order us)
  order_join [] us = omega arith
  order_join (t ∷ ts) us =
      let rest = order_join ts us in
      omega (arith, rest, total-append op_weight (ops_in t) (ops_in (in_order (ts ++ us))), total-append op_weight (ops_in t) (ops_in (in_order ts)))

  pub order_more : (t : Ops) (ts : List Ops) → ops_weigh (in_order (t ∷ ts)) ≡ ops_weigh t + ops_weigh (in_order ts)
  order_more t ts = total-append op_weight (ops_in t) (ops_in (in_order ts))

  pub left_join : (ss ts : List TStm) → left_weighs (ss ++ ts) ≡ left_weighs ss + left_weighs ts
  left_join [] ts = omega arith
  left_join (s ∷ ss) ts =
      let rest = left_join ss ts in
      omega (arith, rest, order_more (left_out types program s) (map (left_out types program) (ss ++ ts)), order_more (left_out types program s) (map (left_out types program) ss))

  -- ---- what changes nothing

  pub named_weighs : (node x : ℕ) (b : Option Binding) → ops_weigh (at_name kind.Make node x b) ≡ 0
  named_weighs node x None = refl
  named_weighs node x (Some b) = refl

  pub declared_weighs : (node x : ℕ) (b : Option Binding) → ops_weigh (at_name kind.Declare node x b) ≡ 0
  declared_weighs node x None = refl
  declared_weighs node x (Some b) = refl

  pub makes_weigh : (at : At) (xs : List ℕ) → ops_weigh (in_order (map (make types program at) xs)) ≡ 0
  makes_weigh at [] = refl
  makes_weigh at (x ∷ xs) =
      omega (arith, makes_weigh at xs, named_weighs at.id x (slice_get program.bindings x), order_more (make types program at x) (map (make types program at) xs))

  captures_weigh : (at : At) (cs : List Captured) → ops_weigh (in_order (map (λ c. op_of kind.Capture (whole c.binding) (opening at.span) at.id) cs)) ≡ 0
  captures_weigh at [] = refl
  captures_weigh at (c ∷ cs) = let rest = captures_weigh at cs in omega (arith, rest)

  entry_changes : (m : Mode) → is_change (entry_kind m) ≡ false
  entry_changes mode.Let = refl
  entry_changes mode.Var = refl
  entry_changes mode.Plain = refl
  entry_changes mode.Borrowing = refl
  entry_changes mode.Consuming = refl
  entry_changes mode.Inout = refl
  entry_changes mode.Turn = refl
  entry_changes mode.PatternOwned = refl
  entry_changes mode.PatternBorrowed = refl
  entry_changes mode.SelfBorrowing = refl
  entry_changes mode.SelfConsuming = refl
  entry_changes mode.SelfMutating = refl
  entry_changes mode.SelfInit = refl
  entry_changes mode.SelfDeinit = refl
  entry_changes mode.Closure = refl

  entry_weighs : (x : ℕ) (b : Option Binding) → ops_weigh (at_entry x b) ≡ 0
  entry_weighs x None = refl
  entry_weighs x (Some b) =
      let none = ap (λ c. if c then p (changed (entry_kind b.mode) (whole x) b.span) else 0) (entry_changes b.mode) in
      omega (arith, none)

  pub entries_weigh : (xs : List ℕ) → ops_weigh (in_order (map (λ x. at_entry x (slice_get program.bindings x)) xs)) ≡ 0
  entries_weigh [] = refl
  entries_weigh (x ∷ xs) =
      omega (arith, entries_weigh xs, entry_weighs x (slice_get program.bindings x), order_more (at_entry x (slice_get program.bindings x)) (map (λ x. at_entry x (slice_get program.bindings x)) xs))

  -- ---- expressions

  path_total : (q : TypedPath) (how : Use) → total p (path_changes types program how q) ≡ ops_weigh (path_ops types program how q) + 0
  path_total q as_value = elim (is_copyable types q.at.ty) as (λ b. total p (if b then [] else changed kind.Consume q.place q.at.span ∷ []) ≡ ops_weigh (op_at (kind_of as_value b) q.place q.at) + 0) [
    | true ↦ refl
    | false ↦ omega arith
  ]
  path_total q as_borrow = elim (is_copyable types q.at.ty) as (λ b. 0 ≡ ops_weigh (op_at (kind_of as_borrow b) q.place q.at) + 0) [ true ↦ refl | false ↦ refl ]
  path_total q as_inout = omega arith

  abbrev Weighs : TExp → Use → Type 0
  Weighs e how = total p (exp_changes types program e how) ≡ ops_weigh (exp_ops types program e how) + literals_weigh (exps_in e)

  both : (a b : TExp) → Weighs a as_value → Weighs b as_value
      → total p (exp_changes types program a as_value ++ exp_changes types program b as_value)
      ≡ ops_weigh (in_order (exp_ops types program a as_value ∷ exp_ops types program b as_value ∷ [])) + literals_weigh (exps_in a ++ exps_in b)
  both a b first second =
      omega (
        arith,
        first,
        second,
        total-append p (exp_changes types program a as_value) (exp_changes types program b as_value),
        total_two op_weight (ops_in (exp_ops types program a as_value)) (ops_in (exp_ops types program b as_value)),
        literals_join (exps_in a) (exps_in b),
      )

  mutual
    pub exp_total : (e : TExp) (how : Use) → total p (exp_changes types program e how) ≡ ops_weigh (exp_ops types program e how) + literals_weigh (exps_in e)
    exp_total (number at n) how = refl
    exp_total (text at t) how = refl
    exp_total (truth at b) how = refl
    exp_total (path q) how = path_total q how
    exp_total (parenthesized at e) how = exp_total e how
    exp_total (consumed at q) how = omega arith
    exp_total (negated at mark e) how = exp_total e as_value
    exp_total (inverted at e) how = exp_total e as_value
    exp_total (arithmetic at o mark a b) how = both a b (exp_total a as_value) (exp_total b as_value)
    exp_total (wrapping at o a b) how = both a b (exp_total a as_value) (exp_total b as_value)
    exp_total (compared at o a b) how = both a b (exp_total a as_value) (exp_total b as_value)
    exp_total (logic at o a b) how =
        let first = exp_total a as_value in
        let second = exp_total b as_value in
        let x = ops_in (exp_ops types program a as_value) in
        let y = ops_in (exp_ops types program b as_value) in
        omega (arith, first, second, total-append p (exp_changes types program a as_value) (exp_changes types program b as_value), total_two op_weight x (y ++ []), total_end op_weight y, literals_join (exps_in a) (exps_in b))
    exp_total (choice at c a b) how =
        let zeroth = exp_total c as_value in
        let first = exp_total a as_value in
        let second = exp_total b as_value in
        let x = ops_in (exp_ops types program c as_value) in
        let y = ops_in (exp_ops types program a as_value) in
        let z = ops_in (exp_ops types program b as_value) in
        omega (
          arith,
          zeroth,
          first,
          second,
          total-append p (exp_changes types program c as_value ++ exp_changes types program a as_value) (exp_changes types program b as_value),
          total-append p (exp_changes types program c as_value) (exp_changes types program a as_value),
          total_two op_weight x (y ++ z),
          total-append op_weight y z,
          literals_join (exps_in c ++ exps_in a) (exps_in b),
          literals_join (exps_in c) (exps_in a),
        )
    exp_total (member at e k) how = exp_total e as_value
    exp_total (call at to es passings) how = args_total es passings
    exp_total (address q) how = omega arith
    exp_total (closure at k) how = omega (arith, captures_weigh at (captures program k))
    exp_total (function at x) how = refl

    pub args_total : (es : TExps) (ps : List Passing) → total p (args_changes types program es ps) ≡ ops_weigh (in_order (args_ops types program es ps)) + literals_weigh (exps_in_all es)
    args_total no_exps ps = refl
    args_total (exp e es) ps =
        let how = use_by (first_passing ps) in
        let first = exp_total e how in
        let rest = args_total es (other_passings ps) in
        omega (
          arith,
          first,
          rest,
          total-append p (exp_changes types program e how) (args_changes types program es (other_passings ps)),
          order_more (exp_ops types program e how) (args_ops types program es (other_passings ps)),
          literals_join (exps_in e) (exps_in_all es),
        )
