-- Worked types.
use Rattle.std.specs.Prelude.{◌≡◌, true, false, List, [], ◌∷◌, codes, refl}
use Rattle.own_tree.specs.declared.place.Ty.TheVariants as type
use Rattle.own_tree.specs.declared.tree.Keyword.TheVariants as keyword
use Rattle.own_tree.specs.Source.{Decl, struct_of, enum_of, cases, deinitializer}
use Rattle.own_shapes.specs.Types.{Shape, passes_let, types_declared, copyable, tracked, holds_tracked, leaves, opened_leaves, slots}
use Rattle.own_shapes.proofs.Spelling.{sp, named, no_block, file_decl, with_types, one_case, property}

-- after `File`: a struct of two, one with a `deinit`, an enum, and a struct without properties
abbrev pub more_decls : List Decl
more_decls =
    file_decl
    ∷ struct_of (sp 0) (named 0 (codes "Pair")) true (property keyword.Var (codes "a") (codes "File") ∷ property keyword.Let (codes "b") (codes "File") ∷ [])
    ∷ struct_of (sp 0) (named 0 (codes "Held")) true (property keyword.Var (codes "p") (codes "Pair") ∷ deinitializer (sp 0) no_block ∷ [])
    ∷ enum_of (sp 0) (named 0 (codes "Slot")) true
    (
    cases (sp 0) (one_case (codes "none") [] ∷ [])
    ∷ cases (sp 0) (one_case (codes "one") (named 0 (codes "File") ∷ []) ∷ one_case (codes "two") (named 0 (codes "File") ∷ named 0 (codes "File") ∷ []) ∷ []) ∷ []
    )
    ∷ struct_of (sp 0) (named 0 (codes "Empty")) false [] ∷ []

abbrev pub pair_ : Shape
pair_ = (with_types more_decls).shape (type.Named 1)

abbrev pub held_ : Shape
held_ = (with_types more_decls).shape (type.Named 2)

abbrev pub slot_ : Shape
slot_ = (with_types more_decls).shape (type.Named 3)

abbrev pub empty_ : Shape
empty_ = (with_types more_decls).shape (type.Named 4)

a_pair_comes_apart : (leaves pair_ ≡ (0 ∷ []) ∷ (1 ∷ []) ∷ []) × (slots pair_ ≡ 4) × (copyable pair_ ≡ false) × (tracked pair_ ≡ false) × (holds_tracked pair_ ≡ true)
unfolding types_declared
a_pair_comes_apart = (refl, refl, refl, refl, refl)

a_deinit_holds_together : (leaves held_ ≡ [] ∷ []) × (opened_leaves held_ ≡ (0 ∷ 0 ∷ []) ∷ (0 ∷ 1 ∷ []) ∷ []) × (slots held_ ≡ 5) × (tracked held_ ≡ true)
unfolding types_declared
a_deinit_holds_together = (refl, refl, refl, refl)

an_enum_is_one_leaf : (leaves slot_ ≡ [] ∷ []) × (slots slot_ ≡ 5) × (tracked slot_ ≡ false) × (holds_tracked slot_ ≡ true)
unfolding types_declared
an_enum_is_one_leaf = (refl, refl, refl, refl)

an_empty_struct_has_a_slot : (leaves empty_ ≡ [] ∷ []) × (opened_leaves empty_ ≡ []) × (slots empty_ ≡ 1) × (copyable empty_ ≡ true)
unfolding types_declared
an_empty_struct_has_a_slot = (refl, refl, refl, refl)

a_let_is_passed : (passes_let held_ (0 ∷ 1 ∷ []) ≡ true) × (passes_let held_ (0 ∷ 0 ∷ []) ≡ false)
unfolding types_declared
a_let_is_passed = (refl, refl)
