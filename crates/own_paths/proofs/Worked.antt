-- Worked op trees, `init` bodies, facts and limits.
use Rattle.std.specs.Prelude.{◌≡◌, ℕ, true, false, List, [], ◌∷◌, Some, codes, refl}
use Rattle.std.proofs.Common.{inl, inr, sym, subst, arith}
use Rattle.own_tree.specs.declared.finding.Rule.TheVariants as rule
use Rattle.own_tree.specs.declared.op.OpKind.TheVariants as kind
use Rattle.own_tree.specs.declared.place.Mode.TheVariants as mode
use Rattle.own_tree.specs.declared.place.Place.{Place}
use Rattle.own_tree.specs.declared.place.Ty.TheVariants as type
use Rattle.own_tree.specs.declared.tree.RangeOperator.TheVariants as range
use Rattle.own_tree.specs.declared.typed.BodyKind.TheVariants as body
use Rattle.own_tree.specs.declared.typed.Comparison.TheVariants as compare
use Rattle.own_tree.specs.declared.typed.Passing.TheVariants as passing
use Rattle.own_tree.specs.declared.typed.Target.TheVariants as target
use Rattle.own_tree.specs.OpSource.{op, nothing, either, loop, catch, scope, break_at, return_at, halt, in_order}
use Rattle.own_tree.specs.Source.{enum_of, cases}
use Rattle.own_tree.specs.TypedSource.{any, bind, of_case, no_pats, pat, truth, text, consumed, compared, call, no_exps, case_where, case_of, default, TStm, let_in, assign, if_then, loop_while, loop_for, switch, evaluate, no_clauses, clause, TBody, Program}
use Rattle.own_paths.specs.BodyLimits.{op_count, maker_count, body_slots}
use Rattle.own_paths.specs.Facts.{IsAmbiguous}
use Rattle.own_paths.specs.Findings.{IsPathFinding}
use Rattle.own_paths.specs.Fixed.{ops_in, broken, fixed_breaks}
use Rattle.own_paths.specs.Makers.{BodyUses, tree_of, uses_of}
use Rattle.own_paths.specs.Ops.{stm_ops, body_ops}
use Rattle.own_shapes.specs.Places.{whole}
use Rattle.own_paths.specs.Traces.{returns, end_of}
use Rattle.own_shapes.specs.Types.{Types, types_declared}
use Rattle.own_paths.proofs.Following.{followed}
use Rattle.own_paths.proofs.Least.{O6_cause, return_cause, ends_leaf, spans_of, least_in}
use Rattle.own_shapes.proofs.Lists.{In, in_contains}
use Rattle.own_shapes.proofs.Spelling.{sp, at, node, named, file_, in_place, path_at, p, num, exps, stms, blk, bound, body_of, program_of, do_, new, take_, op_at, file_decl, with_types, file_types, one_case}

-- ---- a consuming `switch` whose guard sees what the body then owns

abbrev pub switch_guard : TStm
switch_guard =
    switch (node 2803) (consumed (at 2810 (type.Named 1)) (path_at 2818 (type.Named 1) 0 []))
    (clause (sp 2903) (case_where (of_case 2 (pat (bind 1) (pat any no_pats))) (call (at 2929 type.Bool) (target.Function 5) (exps (p 2932 file_ 1 [] ∷ [])) (passing.Borrow ∷ [])))
    (stms (do_ 3005 (call (node 3005) target.Print (exps (p 3018 type.Int 2 (0 ∷ []) ∷ [])) (passing.ByValue ∷ [])) ∷ []))
    (clause (sp 3103) (case_of (pat (of_case 2 (pat any (pat (bind 3) no_pats))) no_pats)) (stms [])
    (clause (sp 3303) default (stms []) no_clauses)))

abbrev pub program_guard : Program
program_guard =
    program_of [] (
    bound 2707 (codes "e") (type.Named 1) mode.Let 0 ∷ bound 2918 (codes "a") file_ mode.PatternBorrowed 0 ∷ bound 2918 (codes "a") file_ mode.PatternOwned 0
    ∷ bound 3120 (codes "b") file_ mode.PatternOwned 0 ∷ []
    )

guarded_clause : stm_ops (with_types (file_decl ∷ enum_of (sp 0) (named 0 (codes "Slot")) true [] ∷ [])) program_guard switch_guard
    ≡ in_order (
    op (op_at kind.Consume (whole 0) 2818 2818)
    ∷ catch (in_order (
    either (in_order (
    op (op_at kind.Make (whole 1) 2918 2803) ∷ in_order (op (op_at kind.Borrow (whole 1) 2932 2932) ∷ [])
    ∷ either (in_order (
    scope (2 ∷ []) (sp 2803) (in_order (op (op_at kind.Make (whole 2) 2918 2803) ∷ in_order (op (op_at kind.Read (in_place 2 (0 ∷ [])) 3018 3018) ∷ []) ∷ []))
    ∷ break_at (sp 2903) ∷ []
    )) nothing ∷ []
    )) nothing
    ∷ either (in_order (op (op_at kind.Make (whole 3) 3120 2803) ∷ scope (3 ∷ []) (sp 2803) nothing ∷ break_at (sp 3103) ∷ [])) nothing
    ∷ either (in_order (scope [] (sp 2803) nothing ∷ break_at (sp 3303) ∷ [])) nothing ∷ halt ∷ []
    )) ∷ []
    )
unfolding types_declared
guarded_clause = refl

abbrev pub slot_types : Types
slot_types =
    with_types (
    file_decl
    ∷ enum_of (sp 0) (named 0 (codes "Slot")) true
    (cases (sp 0) (one_case (codes "none") [] ∷ one_case (codes "one") (named 0 (codes "File") ∷ []) ∷ one_case (codes "two") (named 0 (codes "File") ∷ named 0 (codes "File") ∷ []) ∷ []) ∷ [])
    ∷ []
    )

abbrev pub main_guard : TBody
main_guard =
    body_of body.Function [] type.Unit false 2606 3601
    (blk 2613 3601 (
    let_in (node 2703) 0 (call (at 2711 (type.Named 1)) (target.Case 1 2) (exps (new 2720 ∷ new 2735 ∷ [])) (passing.Consume ∷ passing.Consume ∷ []))
    ∷ switch_guard ∷ []
    ))

abbrev pub accepted_guard : Program
accepted_guard = program_of (main_guard ∷ []) program_guard.bindings

-- ---- a loop that has no way out

loop_without_way_out : stm_ops (with_types []) (program_of [] []) (loop_while (node 115) (truth (at 121 type.Bool) true) (blk 126 137 []))
    ≡ loop (in_order (nothing ∷ scope [] (sp 137) nothing ∷ [])) nothing
loop_without_way_out = refl

-- ---- a `for` makes its variable in each turn, and ends it with the block

for_turns : stm_ops (with_types []) (program_of [] (bound 207 (codes "i") type.Int mode.Turn 0 ∷ [])) (loop_for (node 203) (Some 0) num range.HalfOpen (sp 213) num (blk 217 301 []))
    ≡ in_order (nothing ∷ nothing ∷ loop (either (scope (0 ∷ []) (sp 301) (in_order (op (op_at kind.Make (whole 0) 207 203) ∷ []))) (break_at (sp 203))) nothing ∷ [])
for_turns = refl

-- ---- a body that is one expression returns it

abbrev pub own_fd : TBody
own_fd = body_of body.Function (0 ∷ []) type.Int false 106 144 (blk 135 144 (evaluate (node 137) (p 137 type.Int 0 (0 ∷ [])) ∷ []))

abbrev pub own_fd_program : Program
own_fd_program = program_of (own_fd ∷ []) (bound 110 (codes "f") file_ mode.Consuming 0 ∷ [])

one_expression : body_ops file_types own_fd_program own_fd
    ≡ in_order (
    scope (0 ∷ []) (sp 144) (in_order (
    op (op_at kind.Make (whole 0) 110 0)
    ∷ scope [] (sp 144) (in_order (op (op_at kind.Read (in_place 0 (0 ∷ [])) 137 137) ∷ return_at (sp 137) ∷ [])) ∷ []
    ))
    ∷ return_at (sp 144) ∷ []
    )
unfolding types_declared
one_expression = refl

-- one End at the return and one at the brace
counted_by_ways : (op_count (body_ops file_types own_fd_program own_fd) ≡ 4) × (maker_count (uses_of file_types own_fd_program 0 own_fd) (body_ops file_types own_fd_program own_fd) ≡ 3)
    × (body_slots file_types own_fd_program 0 own_fd ≡ 2)
unfolding types_declared
counted_by_ways = (refl, refl, refl)

-- ---- `init`

abbrev pub init_of : List TStm → TBody
init_of ss = body_of body.Initializer (0 ∷ []) type.Unit false 303 703 (blk 316 703 ss)

abbrev pub init_program : List TStm → Program
init_program ss = program_of (init_of ss ∷ []) (bound 303 (codes "self") file_ mode.SelfInit 0 ∷ [])

abbrev pub init_uses : List TStm → BodyUses
init_uses ss = uses_of file_types (init_program ss) 0 (init_of ss)

abbrev pub set_fd : ℕ → TStm
set_fd n = assign (node n) (path_at n type.Int 0 (0 ∷ [])) num

-- `self.fd` has no value at the end
never_set : IsPathFinding (init_uses []) (broken rule.O5 (sp 703) (in_place 0 (0 ∷ [])) (sp 303))
unfolding types_declared
never_set = record {
  breaks = record {
    before = op_at kind.Declare (whole 0) 303 0 ∷ [];
    returned = (0, followed 0 (tree_of (init_uses [])) []);
    is_leaf = (0, omega arith, refl);
    owed = refl;
    by = op_at kind.Declare (whole 0) 303 0;
    without = inr refl;
    cause_is = refl;
  };
  least = λ leaf cause b. elim (in_contains (in_place 0 (0 ∷ []) ∷ []) leaf b.is_leaf) [
    | inl e ↦ elim (subst (λ (l : Place). In (spans_of ends_leaf l.binding (ops_in (tree_of (init_uses [])))) cause) (sym e) (return_cause (init_uses []) rule.O5 (sp 703) leaf cause (λ h. h) b)) [
      | inl same ↦ inr (same, inl e)
      | inr none ↦ absurd none
    ]
    | inr none ↦ absurd none
  ];
}

-- the second assignment to a `let` property, and the one rule that it breaks
abbrev pub twice : List TStm
twice = set_fd 405 ∷ set_fd 505 ∷ []

set_twice : IsPathFinding (init_uses twice) (broken rule.O6 (sp 505) (in_place 0 (0 ∷ [])) (sp 405))
unfolding types_declared
set_twice = record {
  breaks = record {
    before = op_at kind.Declare (whole 0) 303 0 ∷ op_at kind.Assign (in_place 0 (0 ∷ [])) 405 405 ∷ [];
    breaking = op_at kind.Assign (in_place 0 (0 ∷ [])) 505 505;
    at_is = refl;
    place_is = refl;
    reached = (0, [], returns (sp 703), followed 0 (tree_of (init_uses twice)) []);
    leaf = in_place 0 (0 ∷ []);
    is_leaf = (0, omega arith, refl);
    by = op_at kind.Assign (in_place 0 (0 ∷ [])) 405 405;
    breaks = (refl, refl, refl, refl);
    cause_is = refl;
  };
  least = λ cause b. least_in (sp 405) (sp 405 ∷ sp 505 ∷ []) (inl refl, (inr (inl (omega arith)), tt)) cause (O6_cause (init_uses twice) (sp 505) (in_place 0 (0 ∷ [])) cause b);
}

set_twice_breaks_no_other : fixed_breaks file_types (init_program twice) 0 (init_of twice) ≡ []
unfolding types_declared
set_twice_breaks_no_other = refl

-- ---- a leaf that one way consumes and the other does not

abbrev pub main_either : TBody
main_either =
    body_of body.Function [] type.Unit false 2106 2501
    (blk 2113 2501 (
    let_in (node 2203) 0 (new 2211)
    ∷ if_then (node 2303) (compared (at 2306 type.Bool) compare.Equal (call (at 2306 type.Int) target.ReadInt no_exps []) num) (blk 2321 2331 (do_ 2323 (take_ 2323 (p 2328 file_ 0 [])) ∷ []))
    ∷ do_ 2403 (call (node 2403) target.Print (exps (text (node 2409) (codes "done") ∷ [])) (passing.ByValue ∷ [])) ∷ []
    ))

abbrev pub program_either : Program
program_either = program_of (main_either ∷ []) (bound 2207 (codes "f") file_ mode.Let 0 ∷ [])

is_ambiguous : IsAmbiguous file_types program_either 0 main_either (whole 0)
unfolding types_declared
is_ambiguous = record {
  is_leaf = (0, omega arith, refl);
  tracked = refl;
  at = end_of (sp 2501) 0;
  destroys = inl (refl, refl);
  both = (
    (op_at kind.Make (whole 0) 2207 2203 ∷ [], (0, [], returns (sp 2501), followed 0 (tree_of (uses_of file_types program_either 0 main_either)) (false ∷ [])), refl),
    (op_at kind.Make (whole 0) 2207 2203 ∷ op_at kind.Consume (whole 0) 2328 2328 ∷ [], (0, [], returns (sp 2501), followed 0 (tree_of (uses_of file_types program_either 0 main_either)) (true ∷ [])), refl),
  );
}
