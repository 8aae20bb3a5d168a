-- Worked texts, as typed trees by hand. The span n stands for the byte at line n / 100 and column n % 100 of the
-- text, and is one byte long.
use Rattle.std.specs.Prelude.{◌≡◌, ℕ, Bool, true, false, List, [], ◌∷◌, ◌++◌, Option, Some, None, codes, refl}
use Rattle.std.proofs.Common.{inl, inr, sym, subst, arith, slice_get}
use Rattle.own_tree.specs.declared.arithmetic.Arith.TheVariants as arith_of
use Rattle.own_tree.specs.declared.finding.Finding.{Finding}
use Rattle.own_tree.specs.declared.finding.Rule.TheVariants as rule
use Rattle.own_tree.specs.declared.op.OpKind.TheVariants as kind
use Rattle.own_tree.specs.declared.place.Mode.{Mode}
use Rattle.own_tree.specs.declared.place.Mode.TheVariants as mode
use Rattle.own_tree.specs.declared.place.Place.{Place}
use Rattle.own_tree.specs.declared.place.Ty.TheVariants as type
use Rattle.own_tree.specs.declared.tree.Keyword.TheVariants as keyword
use Rattle.own_tree.specs.declared.typed.BodyKind.TheVariants as body
use Rattle.own_tree.specs.declared.typed.Comparison.TheVariants as compare
use Rattle.own_tree.specs.declared.typed.Passing.TheVariants as passing
use Rattle.own_tree.specs.declared.typed.Target.TheVariants as target
use Rattle.own_tree.specs.Source.{Decl, struct_of, field, deinitializer}
use Rattle.own_tree.specs.TypedSource.{bind, no_pats, pat, compared, call, address, closure, no_exps, case_of, TStm, let_in, declare, assign, update, discard_self, if_then, loop_while, switch, return_value, no_clauses, clause, TBody, Program}
use Rattle.own_paths.specs.Findings.{IsGivenBack, IsPathFinding}
use Rattle.own_paths.specs.Captures.{captures}
use Rattle.own_paths.specs.Fixed.{ops_in, broken, fixed_breaks}
use Rattle.own_paths.specs.Makers.{BodyUses, tree_of, uses_of}
use Rattle.own_shapes.specs.Places.{whole}
use Rattle.own_paths.specs.Traces.{returns, cut, end_of}
use Rattle.own_shapes.specs.Types.{types_declared}
use Rattle.own_paths.proofs.Following.{followed}
use Rattle.own_paths.proofs.Least.{O1_cause, O2_cause, O4_cause, return_cause, ends_leaf, spans_of, least_in}
use Rattle.own_shapes.proofs.Lists.{In, in_contains}
use Rattle.own_shapes.proofs.Spelling.{sp, at, node, named, file_, in_place, path_at, p, num, exps, stms, blk, bound, body_of, program_of, do_, new, take_, write_, op_at, no_block, file_decl, with_types, file_types}

-- ---- a use after a call that consumes
-- func main() { let f = File(fd: 1); take(f); f.write(1) }

abbrev pub main_used : TBody
main_used =
    body_of body.Function [] type.Unit false 2106 2501
    (blk 2113 2501 (let_in (node 2203) 0 (new 2211) ∷ do_ 2303 (take_ 2303 (p 2308 file_ 0 [])) ∷ do_ 2403 (write_ 2403 (p 2403 file_ 0 [])) ∷ []))

abbrev pub program_used : Program
program_used = program_of (main_used ∷ []) (bound 2207 (codes "f") file_ mode.Let 0 ∷ [])

abbrev pub uses_used : BodyUses
uses_used = uses_of file_types program_used 0 main_used

pub used_after_call : IsPathFinding uses_used (broken rule.O1 (sp 2403) (whole 0) (sp 2308))
unfolding types_declared
used_after_call = record {
  breaks = record {
    before = op_at kind.Make (whole 0) 2207 2203 ∷ op_at kind.Consume (whole 0) 2308 2308 ∷ [];
    breaking = op_at kind.Borrow (whole 0) 2403 2403;
    at_is = refl;
    place_is = refl;
    reached = (0, end_of (sp 2501) 0 ∷ [], returns (sp 2501), followed 0 (tree_of uses_used) []);
    leaf = whole 0;
    is_leaf = (0, omega arith, refl);
    by = op_at kind.Consume (whole 0) 2308 2308;
    breaks = (refl, refl, tt);
    cause_is = refl;
  };
  least = λ cause b. least_in (sp 2308) (sp 2308 ∷ []) (inl refl, tt) cause (O1_cause uses_used (sp 2403) (whole 0) cause b);
}

-- ---- a use in a later turn of a loop
-- let f = File(fd: 1); var i = 0; while i < 2 { take(f); i += 1 }

abbrev pub main_turns : TBody
main_turns =
    body_of body.Function [] type.Unit false 2106 2801
    (blk 2113 2801 (
    let_in (node 2203) 0 (new 2211) ∷ let_in (node 2303) 1 num
    ∷ loop_while (node 2403) (compared (at 2409 type.Bool) compare.Less (p 2409 type.Int 1 []) num)
    (blk 2415 2703 (do_ 2505 (take_ 2505 (p 2510 file_ 0 [])) ∷ update (node 2605) (path_at 2605 type.Int 1 []) arith_of.Add (sp 2607) num ∷ [])) ∷ []
    ))

abbrev pub program_turns : Program
program_turns = program_of (main_turns ∷ []) (bound 2207 (codes "f") file_ mode.Let 0 ∷ bound 2307 (codes "i") type.Int mode.Var 0 ∷ [])

abbrev pub uses_turns : BodyUses
uses_turns = uses_of file_types program_turns 0 main_turns

pub used_in_next_turn : IsPathFinding uses_turns (broken rule.O1 (sp 2510) (whole 0) (sp 2510))
unfolding types_declared
used_in_next_turn = record {
  breaks = record {
    before =
        op_at kind.Make (whole 0) 2207 2203 ∷ op_at kind.Make (whole 1) 2307 2303 ∷ op_at kind.Read (whole 1) 2409 2409 ∷ op_at kind.Consume (whole 0) 2510 2510
        ∷ op_at kind.Read (whole 1) 2605 2605 ∷ op_at kind.Assign (whole 1) 2605 2605 ∷ op_at kind.Read (whole 1) 2409 2409 ∷ [];
    breaking = op_at kind.Consume (whole 0) 2510 2510;
    at_is = refl;
    place_is = refl;
    reached =
        (2, op_at kind.Read (whole 1) 2605 2605 ∷ op_at kind.Assign (whole 1) 2605 2605 ∷ [], cut, followed 2 (tree_of uses_turns) (true ∷ true ∷ []));
    leaf = whole 0;
    is_leaf = (0, omega arith, refl);
    by = op_at kind.Consume (whole 0) 2510 2510;
    breaks = (refl, refl, tt);
    cause_is = refl;
  };
  least = λ cause b. least_in (sp 2510) (sp 2510 ∷ []) (inl refl, tt) cause (O1_cause uses_turns (sp 2510) (whole 0) cause b);
}

-- ---- on one way consumed, on the other never given a value
-- var f: File; if readInt() == 1 { f = File(fd: 1); take(f) }; f.write(1)

abbrev pub main_partly : TBody
main_partly =
    body_of body.Function [] type.Unit false 2106 2801
    (blk 2113 2801 (
    declare (node 2203) 0
    ∷ if_then (node 2303) (compared (at 2306 type.Bool) compare.Equal (call (at 2306 type.Int) target.ReadInt no_exps []) num)
    (blk 2321 2603 (assign (node 2405) (path_at 2405 file_ 0 []) (new 2409) ∷ do_ 2505 (take_ 2505 (p 2510 file_ 0 [])) ∷ []))
    ∷ do_ 2703 (write_ 2703 (p 2703 file_ 0 [])) ∷ []
    ))

abbrev pub program_partly : Program
program_partly = program_of (main_partly ∷ []) (bound 2207 (codes "f") file_ mode.Var 0 ∷ [])

abbrev pub uses_partly : BodyUses
uses_partly = uses_of file_types program_partly 0 main_partly

pub consumed_on_one_way : IsPathFinding uses_partly (broken rule.O1 (sp 2703) (whole 0) (sp 2510))
unfolding types_declared
consumed_on_one_way = record {
  breaks = record {
    before = op_at kind.Declare (whole 0) 2207 2203 ∷ op_at kind.Assign (whole 0) 2405 2405 ∷ op_at kind.Consume (whole 0) 2510 2510 ∷ [];
    breaking = op_at kind.Borrow (whole 0) 2703 2703;
    at_is = refl;
    place_is = refl;
    reached = (0, end_of (sp 2801) 0 ∷ [], returns (sp 2801), followed 0 (tree_of uses_partly) (true ∷ []));
    leaf = whole 0;
    is_leaf = (0, omega arith, refl);
    by = op_at kind.Consume (whole 0) 2510 2510;
    breaks = (refl, refl, tt);
    cause_is = refl;
  };
  least = λ cause b. least_in (sp 2510) (sp 2510 ∷ []) (inl refl, tt) cause (O1_cause uses_partly (sp 2703) (whole 0) cause b);
}

pub given_no_value_on_the_other : IsPathFinding uses_partly (broken rule.O2 (sp 2703) (whole 0) (sp 2207))
unfolding types_declared
given_no_value_on_the_other = record {
  breaks = record {
    before = op_at kind.Declare (whole 0) 2207 2203 ∷ [];
    breaking = op_at kind.Borrow (whole 0) 2703 2703;
    at_is = refl;
    place_is = refl;
    reached = (0, end_of (sp 2801) 0 ∷ [], returns (sp 2801), followed 0 (tree_of uses_partly) (false ∷ []));
    leaf = whole 0;
    is_leaf = (0, omega arith, refl);
    by = op_at kind.Declare (whole 0) 2207 2203;
    breaks = (refl, refl);
    cause_is = refl;
  };
  least = λ cause b. least_in (sp 2207) (sp 2207 ∷ []) (inl refl, tt) cause (O2_cause uses_partly (sp 2703) (whole 0) cause b);
}

-- ---- an `inout` parameter that a return leaves without a value
-- func maybe(_ f: inout File, _ c: Bool) { if c { take(f) } }

abbrev pub maybe_lent : TBody
maybe_lent =
    body_of body.Function (0 ∷ 1 ∷ []) type.Unit false 2106 2301
    (blk 2140 2301 (if_then (node 2203) (p 2206 type.Bool 1 []) (blk 2208 2218 (do_ 2210 (take_ 2210 (p 2215 file_ 0 [])) ∷ [])) ∷ []))

abbrev pub program_lent : Program
program_lent = program_of (maybe_lent ∷ []) (bound 2114 (codes "f") file_ mode.Inout 0 ∷ bound 2131 (codes "c") type.Bool mode.Plain 0 ∷ [])

abbrev pub uses_lent : BodyUses
uses_lent = uses_of file_types program_lent 0 maybe_lent

IsLent : Option Mode → Type 0
IsLent None = ⊥
IsLent (Some mode.Inout) = Unit {0}
IsLent (Some mode.SelfMutating) = Unit {0}
IsLent (Some m) = ⊥

is_lent : (m : Option Mode) → IsGivenBack m → IsLent m
unfolding IsLent
is_lent m (inl e) = subst IsLent (sym e) tt
is_lent m (inr e) = subst IsLent (sym e) tt

pub lent_is_left_empty : IsPathFinding uses_lent (broken rule.O3 (sp 2301) (whole 0) (sp 2215))
unfolding types_declared IsLent
lent_is_left_empty = record {
  breaks = record {
    before =
        op_at kind.Make (whole 0) 2114 0 ∷ op_at kind.Make (whole 1) 2131 0 ∷ op_at kind.Read (whole 1) 2206 2206 ∷ op_at kind.Consume (whole 0) 2215 2215
        ∷ end_of (sp 2301) 1 ∷ [];
    returned = (0, followed 0 (tree_of uses_lent) (true ∷ []));
    is_leaf = (0, omega arith, refl);
    owed = inl refl;
    by = op_at kind.Consume (whole 0) 2215 2215;
    without = inl refl;
    cause_is = refl;
  };
  least = λ leaf cause b. elim (in_contains (whole 0 ∷ whole 1 ∷ []) leaf b.is_leaf) [
    | inl e ↦ elim (subst (λ (l : Place). In (spans_of ends_leaf l.binding (ops_in (tree_of uses_lent))) cause) (sym e) (return_cause uses_lent rule.O3 (sp 2301) leaf cause (λ h. not_ended (subst (λ (l : Place). In {A = ℕ} (1 ∷ []) l.binding) (sym e) h)) b)) [
      | inl same ↦ inr (same, inl e)
      | inr none ↦ absurd none
    ]
    | inr (inl e) ↦ absurd (is_lent (Some mode.Plain) (subst (λ (l : Place). IsGivenBack (uses_lent.mode_of l.binding)) (sym e) b.owed))
    | inr (inr none) ↦ absurd none
  ];
}
  where
    not_ended : In {A = ℕ} (1 ∷ []) 0 → ⊥
    not_ended (inl e) = omega (arith, e)
    not_ended (inr none) = none

-- ---- `self` reaches its end in a body with `discard self`
-- consuming func drop(_ c: Bool) { if c { discard self } }

abbrev pub key_decl : Decl
key_decl =
    struct_of (sp 101) (named 108 (codes "Key")) true
    (
    field (record { span = sp 203; keyword = keyword.Let; name = named 207 (codes "n"); written = named 210 (codes "Int") })
    ∷ deinitializer (sp 603) no_block ∷ []
    )

abbrev pub drop_discarding : TBody
drop_discarding =
    body_of body.Method (0 ∷ 1 ∷ []) type.Unit true 318 503
    (blk 334 503 (if_then (node 405) (p 408 type.Bool 1 []) (blk 410 425 (discard_self (node 412) (whole 0) ∷ [])) ∷ []))

abbrev pub program_discarding : Program
program_discarding = program_of (drop_discarding ∷ []) (bound 318 (codes "self") (type.Named 0) mode.SelfConsuming 0 ∷ bound 325 (codes "c") type.Bool mode.Plain 0 ∷ [])

abbrev pub uses_discarding : BodyUses
uses_discarding = uses_of (with_types (key_decl ∷ [])) program_discarding 0 drop_discarding

pub self_is_not_ended : IsPathFinding uses_discarding (broken rule.O4 (sp 503) (whole 0) (sp 318))
unfolding types_declared
self_is_not_ended = record {
  breaks = record {
    before = op_at kind.Make (whole 0) 318 0 ∷ op_at kind.Make (whole 1) 325 0 ∷ op_at kind.Read (whole 1) 408 408 ∷ end_of (sp 503) 1 ∷ [];
    breaking = end_of (sp 503) 0;
    at_is = refl;
    place_is = refl;
    reached = (0, [], returns (sp 503), followed 0 (tree_of uses_discarding) (false ∷ []));
    leaf = whole 0;
    is_leaf = (0, omega arith, refl);
    by = op_at kind.Make (whole 0) 318 0;
    breaks = (refl, refl, refl, refl, refl);
    cause_is = refl;
  };
  least = λ cause b. least_in (sp 318) (sp 318 ∷ []) (inl refl, tt) cause (O4_cause uses_discarding (sp 503) (whole 0) cause b);
}

-- ---- the end of a body with a result
-- func f(_ c: Bool) -> Int { if c { return 1 } }

abbrev pub f_ending : TBody
f_ending =
    body_of body.Function (0 ∷ []) type.Int false 106 301
    (blk 126 301 (if_then (node 203) (p 206 type.Bool 0 []) (blk 208 219 (return_value (node 210) num ∷ [])) ∷ []))

abbrev pub program_ending : Program
program_ending = program_of (f_ending ∷ []) (bound 110 (codes "c") type.Bool mode.Plain 0 ∷ [])

abbrev pub uses_ending : BodyUses
uses_ending = uses_of (with_types []) program_ending 0 f_ending

pub end_is_reached : IsPathFinding uses_ending (broken rule.F1 (sp 301) (whole 0) (sp 301))
unfolding types_declared
end_is_reached = record {
  result = refl;
  falls = (0, op_at kind.Make (whole 0) 110 0 ∷ op_at kind.Read (whole 0) 206 206 ∷ end_of (sp 301) 0 ∷ [], followed 0 uses_ending.inner (false ∷ []));
  span_is = refl;
  cause_is = refl;
  place_is = refl;
}

-- ---- a part of a value whose type has a `deinit`
-- let q = Held(a: File(fd: 1)); take(q.a)

abbrev pub held_decl : Decl
held_decl =
    struct_of (sp 2101) (named 2108 (codes "Held")) true
    (
    field (record { span = sp 2203; keyword = keyword.Var; name = named 2207 (codes "a"); written = named 2210 (codes "File") })
    ∷ deinitializer (sp 2303) no_block ∷ []
    )

abbrev pub main_held : TBody
main_held =
    body_of body.Function [] type.Unit false 2506 2801
    (blk 2513 2801 (let_in (node 2603) 0 (call (at 2611 (type.Named 1)) (target.Memberwise 1) (exps (new 2619 ∷ [])) (passing.Consume ∷ [])) ∷ do_ 2703 (take_ 2703 (p 2708 file_ 0 (0 ∷ []))) ∷ []))

abbrev pub program_held : Program
program_held = program_of (main_held ∷ []) (bound 2607 (codes "q") (type.Named 1) mode.Let 0 ∷ [])

pub part_of_tracked : fixed_breaks (with_types (file_decl ∷ held_decl ∷ [])) program_held 0 main_held
    ≡ broken rule.O8 (sp 2708) (in_place 0 (0 ∷ [])) (sp 2607) ∷ []
unfolding types_declared
part_of_tracked = refl

-- ---- one place passed twice to be changed
-- var p = Pair(a: File(fd: 1), b: File(fd: 2)); swap2(&p.a, &p.a)

abbrev pub pair_decl : Decl
pair_decl =
    struct_of (sp 2101) (named 2108 (codes "Pair")) true
    (
    field (record { span = sp 2203; keyword = keyword.Var; name = named 2207 (codes "a"); written = named 2210 (codes "File") })
    ∷ field (record { span = sp 2303; keyword = keyword.Var; name = named 2307 (codes "b"); written = named 2310 (codes "File") }) ∷ []
    )

-- `swap2` of these two stored properties
abbrev pub main_swap : ℕ → ℕ → TBody
main_swap first second =
    body_of body.Function [] type.Unit false 3006 3401
    (blk 3013 3401 (
    let_in (node 3103) 0 (call (at 3111 (type.Named 1)) (target.Memberwise 1) (exps (new 3119 ∷ new 3135 ∷ [])) (passing.Consume ∷ passing.Consume ∷ []))
    ∷ do_ 3203 (call (node 3203) (target.Function 5) (exps (address (path_at 3210 file_ 0 (first ∷ [])) ∷ address (path_at 3216 file_ 0 (second ∷ [])) ∷ [])) (passing.Inout ∷ passing.Inout ∷ [])) ∷ []
    ))

abbrev pub program_swap : ℕ → ℕ → Program
program_swap first second = program_of (main_swap first second ∷ []) (bound 3107 (codes "p") (type.Named 1) mode.Var 0 ∷ [])

abbrev pub breaks_swap : ℕ → ℕ → List Finding
breaks_swap first second = fixed_breaks (with_types (file_decl ∷ pair_decl ∷ [])) (program_swap first second) 0 (main_swap first second)

pub lent_twice : breaks_swap 0 0 ≡ broken rule.O10 (sp 3216) (in_place 0 (0 ∷ [])) (sp 3210) ∷ []
unfolding types_declared
lent_twice = refl

lent_apart : breaks_swap 0 1 ≡ []
unfolding types_declared
lent_apart = refl

-- ---- closures
-- each(1) { k in take(f) }, and edit(&f, { f = File(fd: 9) })

abbrev pub main_closures : TStm → TBody
main_closures s = body_of body.Function [] type.Unit false 2806 3201 (blk 2813 3201 (let_in (node 2903) 0 (new 2911) ∷ s ∷ []))

abbrev pub closure_closures : List ℕ → List TStm → TBody
closure_closures params ss = body_of (body.Closure 0) params type.Unit false 3011 3026 (blk 3011 3026 ss)

-- `each(1) { k in take(f) }`
abbrev pub taken_closures : Program
taken_closures =
    program_of
    (
    main_closures (do_ 3003 (call (node 3003) (target.Function 5) (exps (num ∷ closure (node 3011) 1 ∷ [])) (passing.ByValue ∷ passing.Closure ∷ [])))
    ∷ closure_closures (1 ∷ []) (do_ 3018 (take_ 3018 (p 3023 file_ 0 [])) ∷ []) ∷ []
    ) (bound 2907 (codes "f") file_ mode.Let 0 ∷ bound 3013 (codes "k") type.Int mode.Plain 1 ∷ [])

abbrev pub breaks_in : Program → ℕ → List Finding
breaks_in program k = elim (slice_get program.bodies k) [ None ↦ [] | Some b ↦ fixed_breaks file_types program k b ]

pub captured_is_consumed : breaks_in taken_closures 1 ≡ broken rule.O7 (sp 3023) (whole 0) (sp 2907) ∷ []
unfolding types_declared
captured_is_consumed = refl

captured_is_borrowed_outside : breaks_in taken_closures 0 ≡ []
unfolding types_declared
captured_is_borrowed_outside = refl

-- `edit(&f, { f = File(fd: 9) })`
abbrev pub edit_closures : TStm
edit_closures = do_ 3003 (call (node 3003) (target.Function 5) (exps (address (path_at 3009 file_ 0 []) ∷ closure (node 3012) 1 ∷ [])) (passing.Inout ∷ passing.Closure ∷ []))

abbrev pub edited_closures : Program
edited_closures =
    program_of
    (
    main_closures edit_closures
    ∷ closure_closures [] (assign (node 3014) (path_at 3014 file_ 0 []) (new 3018) ∷ []) ∷ []
    ) (bound 2907 (codes "f") file_ mode.Var 0 ∷ [])

captured_by_change : captures edited_closures 1 ≡ record { binding = 0; change = true } ∷ []
captured_by_change = refl

pub captured_while_lent : breaks_in edited_closures 0 ≡ broken rule.O10 (sp 3012) (whole 0) (sp 3009) ∷ []
unfolding types_declared
captured_while_lent = refl

captured_is_assigned_inside : breaks_in edited_closures 1 ≡ []
unfolding types_declared
captured_is_assigned_inside = refl

-- ---- `self` is discarded while a `switch` borrows it
-- consuming func drop() { switch self { case let k: discard self; print(k.n) } }

abbrev pub is_some : List TStm → Bool
is_some [] = false
is_some (s ∷ ss) = true

abbrev pub drop_subject : List TStm → TBody
drop_subject discards =
    body_of body.Method (0 ∷ []) type.Unit (is_some discards) 318 903
    (blk 325 903 (
    switch (node 405) (p 412 (type.Named 0) 0 [])
    (clause (sp 505) (case_of (pat (bind 1) no_pats)) (stms (discards ++ do_ 707 (call (node 707) target.Print (exps (p 713 type.Int 1 (0 ∷ []) ∷ [])) (passing.ByValue ∷ [])) ∷ [])) no_clauses)
    ∷ []
    ))

abbrev pub program_subject : List TStm → Program
program_subject discards =
    program_of (drop_subject discards ∷ []) (bound 318 (codes "self") (type.Named 0) mode.SelfConsuming 0 ∷ bound 514 (codes "k") (type.Named 0) mode.PatternBorrowed 0 ∷ [])

abbrev pub breaks_subject : List TStm → List Finding
breaks_subject discards = fixed_breaks (with_types (key_decl ∷ [])) (program_subject discards) 0 (drop_subject discards)

pub subject_is_discarded : breaks_subject (discard_self (node 607) (whole 0) ∷ []) ≡ broken rule.O11 (sp 607) (whole 0) (sp 412) ∷ []
unfolding types_declared
subject_is_discarded = refl

subject_is_kept : breaks_subject [] ≡ []
unfolding types_declared
subject_is_kept = refl
