-- Worked limits: the slots of a type, and the parts of a text that M6 and M7 count.
use Rattle.std.specs.Prelude.{◌≡◌, ℕ, zero, suc, true, false, List, [], ◌∷◌, Some, None, codes, refl}
use Rattle.own_tree.specs.declared.tree.ClosureName.TheVariants as bound
use Rattle.own_tree.specs.declared.tree.Keyword.TheVariants as keyword
use Rattle.own_tree.specs.declared.tree.Root.TheVariants as root
use Rattle.own_tree.specs.Source.{Exp, number as number_, path as path_, call as call_, call_closure, value, no_args, arg, closure as closure_, evaluate as evaluate_, no_stms as no_stms_, stm as stm_, block as block_, Decl, struct_of, function, Member, File}
use Rattle.own_shapes.specs.Counts.{counted}
use Rattle.own_shapes.specs.Types.{types_declared, types_of}
use Rattle.own_shapes.proofs.Spelling.{sp, named, property}
use Rattle.own_survey.specs.Limits.{over_M8}
use Rattle.own_survey.specs.Parts.{a_body, a_print, a_scope, a_top, a_main, declared_parts}

-- ---- M8: 64 words are within the limit, and 65 are not

abbrev pub numbers : ℕ → List Member
numbers zero = []
numbers (suc n) = property keyword.Let (codes "n") (codes "Int") ∷ numbers n

abbrev pub wide : ℕ → File
wide n = record { declarations = struct_of (sp 101) (named 108 (codes "Wide")) false (numbers n) ∷ []; main = sp 0; tokens = 0 }

widest_struct : (over_M8 (types_of (wide 64)) (wide 64) ≡ None) × (over_M8 (types_of (wide 65)) (wide 65) ≡ Some (counted 65 (sp 108)))
unfolding types_of types_declared
widest_struct = (refl, refl)

-- ---- M6 and M7: a function with a call of `print` and a closure in it

abbrev name_path : ℕ → List ℕ → Exp
name_path n name = path_ (record { span = sp n; root = root.Named (named n name); fields = [] })

abbrev main_decl : Decl
main_decl =
    function (record {
      span = sp 101;
      name = named 106 (codes "main");
      parameters = [];
      result = None;
      body = block_ (sp 113) (
          stm_ (evaluate_ (call_ (sp 203) (name_path 203 (codes "print")) (arg None (value (number_ (sp 209) false 1)) (arg None (value (number_ (sp 212) false 2)) no_args))))
          (stm_ (evaluate_ (call_closure (sp 303) (name_path 303 (codes "each")) (closure_ (sp 308) (bound.Any (sp 310) ∷ []) no_stms_))) no_stms_)
          );
    })

parts_in_order : declared_parts (main_decl ∷ [])
    ≡ a_top (named 106 (codes "main")) ∷ a_main true (sp 106) ∷ a_body (sp 106) 0 ∷ a_scope [] ∷ a_scope []
    ∷ a_print (sp 203) 2 ∷ a_body (sp 308) 1 ∷ a_scope [] ∷ a_scope [] ∷ []
parts_in_order = refl
