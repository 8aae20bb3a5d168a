-- The whole lists of findings of worked texts without loops. Each stands for its text with the bodies that break
-- nothing left out.
use Rattle.std.specs.Prelude.{[], ◌∷◌, refl}
use Rattle.std.proofs.Common.{inl, inr, arith}
use Rattle.own_tree.specs.declared.finding.Rule.TheVariants as rule
use Rattle.own_paths.specs.Findings.{AreFindings, IsSound}
use Rattle.own_paths.specs.Fixed.{broken, fixed_breaks}
use Rattle.own_shapes.specs.Places.{whole}
use Rattle.own_shapes.specs.Types.{types_declared}
use Rattle.own_paths.proofs.Every.{the_findings, only_one}
use Rattle.own_paths.proofs.Refused.{main_used, program_used, used_after_call, program_partly, consumed_on_one_way, given_no_value_on_the_other, main_partly, program_lent, maybe_lent, lent_is_left_empty, program_discarding, drop_discarding, self_is_not_ended, program_ending, f_ending, end_is_reached, program_held, main_held, part_of_tracked, held_decl, program_swap, main_swap, lent_twice, pair_decl, taken_closures, closure_closures, edited_closures, edit_closures, main_closures, breaks_in, captured_is_consumed, captured_while_lent, program_subject, drop_subject, subject_is_discarded, key_decl}
use Rattle.own_shapes.proofs.Spelling.{sp, node, p, file_, do_, take_, in_place, file_decl, with_types, file_types}
use Rattle.own_tree.specs.TypedSource.{discard_self}

all_of_used : AreFindings file_types program_used (broken rule.O1 (sp 2403) (whole 0) (sp 2308) ∷ [])
unfolding types_declared
all_of_used = the_findings file_types program_used _ refl (inl refl, tt) ((0, main_used, refl, inl used_after_call), tt) tt

all_of_partly : AreFindings file_types program_partly (broken rule.O1 (sp 2703) (whole 0) (sp 2510) ∷ broken rule.O2 (sp 2703) (whole 0) (sp 2207) ∷ [])
unfolding types_declared
all_of_partly =
    the_findings file_types program_partly _ refl (inl refl, (inr (inl refl), tt))
    ((0, main_partly, refl, inl consumed_on_one_way), ((0, main_partly, refl, inl given_no_value_on_the_other), tt)) (inr (refl, inl (omega arith)), tt)

all_of_lent : AreFindings file_types program_lent (broken rule.O3 (sp 2301) (whole 0) (sp 2215) ∷ [])
unfolding types_declared
all_of_lent = the_findings file_types program_lent _ refl (inl refl, tt) ((0, maybe_lent, refl, inl lent_is_left_empty), tt) tt

all_of_discarding : AreFindings (with_types (key_decl ∷ [])) program_discarding (broken rule.O4 (sp 503) (whole 0) (sp 318) ∷ [])
unfolding types_declared
all_of_discarding = the_findings (with_types (key_decl ∷ [])) program_discarding _ refl (inl refl, tt) ((0, drop_discarding, refl, inl self_is_not_ended), tt) tt

all_of_ending : AreFindings (with_types []) program_ending (broken rule.F1 (sp 301) (whole 0) (sp 301) ∷ [])
unfolding types_declared
all_of_ending = the_findings (with_types []) program_ending _ refl (inl refl, tt) ((0, f_ending, refl, inl end_is_reached), tt) tt

all_of_held : AreFindings (with_types (file_decl ∷ held_decl ∷ [])) program_held (broken rule.O8 (sp 2708) (in_place 0 (0 ∷ [])) (sp 2607) ∷ [])
unfolding types_declared
all_of_held =
    the_findings (with_types (file_decl ∷ held_decl ∷ [])) program_held _ refl (inl refl, tt)
    ((0, main_held, refl, inr (only_one (fixed_breaks (with_types (file_decl ∷ held_decl ∷ [])) program_held 0 main_held) _ part_of_tracked)), tt) tt

all_of_swap : AreFindings (with_types (file_decl ∷ pair_decl ∷ [])) (program_swap 0 0) (broken rule.O10 (sp 3216) (in_place 0 (0 ∷ [])) (sp 3210) ∷ [])
unfolding types_declared
all_of_swap =
    the_findings (with_types (file_decl ∷ pair_decl ∷ [])) (program_swap 0 0) _ refl (inl refl, tt)
    ((0, main_swap 0 0, refl, inr (only_one (fixed_breaks (with_types (file_decl ∷ pair_decl ∷ [])) (program_swap 0 0) 0 (main_swap 0 0)) _ lent_twice)), tt) tt

all_of_subject_is_discarded :
    AreFindings (with_types (key_decl ∷ [])) (program_subject (discard_self (node 607) (whole 0) ∷ [])) (broken rule.O11 (sp 607) (whole 0) (sp 412) ∷ [])
unfolding types_declared
all_of_subject_is_discarded =
    let discards = discard_self (node 607) (whole 0) ∷ [] in
    the_findings (with_types (key_decl ∷ [])) (program_subject discards) _ refl (inl refl, tt)
    ((0, drop_subject discards, refl, inr (only_one (fixed_breaks (with_types (key_decl ∷ [])) (program_subject discards) 0 (drop_subject discards)) _ subject_is_discarded)), tt) tt

all_of_subject_is_kept : IsSound (with_types (key_decl ∷ [])) (program_subject [])
unfolding types_declared
all_of_subject_is_kept = the_findings (with_types (key_decl ∷ [])) (program_subject []) [] refl tt tt tt

all_of_captured_is_consumed : AreFindings file_types taken_closures (broken rule.O7 (sp 3023) (whole 0) (sp 2907) ∷ [])
unfolding types_declared
all_of_captured_is_consumed =
    the_findings file_types taken_closures _ refl (inl refl, tt)
    ((1, closure_closures (1 ∷ []) (do_ 3018 (take_ 3018 (p 3023 file_ 0 [])) ∷ []), refl, inr (only_one (breaks_in taken_closures 1) _ captured_is_consumed)), tt) tt

all_of_captured_while_lent : AreFindings file_types edited_closures (broken rule.O10 (sp 3012) (whole 0) (sp 3009) ∷ [])
unfolding types_declared
all_of_captured_while_lent =
    the_findings file_types edited_closures _ refl (inl refl, tt)
    ((0, main_closures edit_closures, refl, inr (only_one (breaks_in edited_closures 0) _ captured_while_lent)), tt) tt

lent_apart_is_sound : IsSound (with_types (file_decl ∷ pair_decl ∷ [])) (program_swap 0 1)
unfolding types_declared
lent_apart_is_sound = the_findings (with_types (file_decl ∷ pair_decl ∷ [])) (program_swap 0 1) [] refl tt tt tt
