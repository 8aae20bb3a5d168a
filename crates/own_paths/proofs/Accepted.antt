-- Worked texts without findings.
use Rattle.std.specs.Prelude.{true, false, [], ◌∷◌, codes, refl}
use Rattle.own_tree.specs.declared.place.Mode.TheVariants as mode
use Rattle.own_tree.specs.declared.place.Ty.TheVariants as type
use Rattle.own_tree.specs.declared.typed.BodyKind.TheVariants as body
use Rattle.own_tree.specs.declared.typed.Passing.TheVariants as passing
use Rattle.own_tree.specs.declared.typed.Target.TheVariants as target
use Rattle.own_tree.specs.TypedSource.{call, consumed, let_in, assign, ignore, discard_self, if_then, if_else, TBody, Program}
use Rattle.own_paths.specs.Findings.{IsSound}
use Rattle.own_shapes.specs.Places.{whole}
use Rattle.own_shapes.specs.Types.{types_declared}
use Rattle.own_paths.proofs.Every.{the_findings}
use Rattle.own_paths.proofs.Refused.{pair_decl, key_decl}
use Rattle.own_shapes.proofs.Spelling.{at, node, file_, path_at, p, exps, blk, bound, body_of, program_of, do_, new, take_, write_, file_decl, with_types, file_types}
use Rattle.own_paths.proofs.Worked.{program_either, slot_types, accepted_guard}

-- ---- one way, from top to bottom
-- let a = File(fd: 1); let b = File(fd: 2); a.write(10); a.close(); b.write(20)

abbrev main_straight : TBody
main_straight =
    body_of body.Function [] type.Unit false 2106 2701
    (blk 2113 2701 (
    let_in (node 2203) 0 (new 2211) ∷ let_in (node 2303) 1 (new 2311) ∷ do_ 2403 (write_ 2403 (p 2403 file_ 0 []))
    ∷ do_ 2503 (call (node 2503) (target.Method 3) (exps (p 2503 file_ 0 [] ∷ [])) (passing.Consume ∷ [])) ∷ do_ 2603 (write_ 2603 (p 2603 file_ 1 [])) ∷ []
    ))

straight_is_accepted : IsSound file_types (program_of (main_straight ∷ []) (bound 2207 (codes "a") file_ mode.Let 0 ∷ bound 2307 (codes "b") file_ mode.Let 0 ∷ []))
unfolding types_declared
straight_is_accepted = the_findings file_types (program_of (main_straight ∷ []) (bound 2207 (codes "a") file_ mode.Let 0 ∷ bound 2307 (codes "b") file_ mode.Let 0 ∷ [])) [] refl tt tt tt

either_is_accepted : IsSound file_types program_either
unfolding types_declared
either_is_accepted = the_findings file_types program_either [] refl tt tt tt

-- ---- a part is consumed, and then assigned again
-- var p = Pair(a: File(fd: 1), b: File(fd: 2)); take(p.a); p.b.write(5); p.a = File(fd: 3); look(p)

abbrev main_parts : TBody
main_parts =
    body_of body.Function [] type.Unit false 3006 3701
    (blk 3013 3701 (
    let_in (node 3103) 0 (call (at 3111 (type.Named 1)) (target.Memberwise 1) (exps (new 3119 ∷ new 3135 ∷ [])) (passing.Consume ∷ passing.Consume ∷ []))
    ∷ do_ 3203 (take_ 3203 (p 3208 file_ 0 (0 ∷ []))) ∷ do_ 3303 (write_ 3303 (p 3303 file_ 0 (1 ∷ []))) ∷ assign (node 3403) (path_at 3403 file_ 0 (0 ∷ [])) (new 3409)
    ∷ do_ 3503 (call (node 3503) (target.Function 6) (exps (p 3508 (type.Named 1) 0 [] ∷ [])) (passing.Borrow ∷ [])) ∷ []
    ))

abbrev program_parts : Program
program_parts = program_of (main_parts ∷ []) (bound 3107 (codes "p") (type.Named 1) mode.Var 0 ∷ [])

parts_are_accepted : IsSound (with_types (file_decl ∷ pair_decl ∷ [])) program_parts
unfolding types_declared
parts_are_accepted = the_findings (with_types (file_decl ∷ pair_decl ∷ [])) program_parts [] refl tt tt tt

-- ---- with a new value on the way that consumes
-- func maybe(_ f: inout File, _ c: Bool) { if c { take(f); f = File(fd: 7) } }

abbrev maybe_lent : TBody
maybe_lent =
    body_of body.Function (0 ∷ 1 ∷ []) type.Unit false 2106 2301
    (blk 2140 2301 (if_then (node 2203) (p 2206 type.Bool 1 []) (blk 2208 2235 (do_ 2210 (take_ 2210 (p 2215 file_ 0 [])) ∷ assign (node 2219) (path_at 2219 file_ 0 []) (new 2223) ∷ [])) ∷ []))

abbrev program_lent : Program
program_lent = program_of (maybe_lent ∷ []) (bound 2114 (codes "f") file_ mode.Inout 0 ∷ bound 2131 (codes "c") type.Bool mode.Plain 0 ∷ [])

refilled_is_accepted : IsSound file_types program_lent
unfolding types_declared
refilled_is_accepted = the_findings file_types program_lent [] refl tt tt tt

-- ---- with a `consume self` on the other way
-- consuming func drop(_ c: Bool) { if c { discard self } else { _ = consume self } }

abbrev drop_discarding : TBody
drop_discarding =
    body_of body.Method (0 ∷ 1 ∷ []) type.Unit true 318 503
    (blk 334 503 (
    if_else (node 405) (p 408 type.Bool 1 []) (blk 410 425 (discard_self (node 412) (whole 0) ∷ []))
    (blk 432 453 (ignore (node 434) (consumed (at 438 (type.Named 0)) (path_at 446 (type.Named 0) 0 [])) ∷ [])) ∷ []
    ))

abbrev program_discarding : Program
program_discarding = program_of (drop_discarding ∷ []) (bound 318 (codes "self") (type.Named 0) mode.SelfConsuming 0 ∷ bound 325 (codes "c") type.Bool mode.Plain 0 ∷ [])

consumed_self_is_accepted : IsSound (with_types (key_decl ∷ [])) program_discarding
unfolding types_declared
consumed_self_is_accepted = the_findings (with_types (key_decl ∷ [])) program_discarding [] refl tt tt tt

guard_is_accepted : IsSound slot_types accepted_guard
unfolding types_declared
guard_is_accepted = the_findings slot_types accepted_guard [] refl tt tt tt
