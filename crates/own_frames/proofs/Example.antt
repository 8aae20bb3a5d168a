-- A worked program whose closure is called with a borrowed argument: all that the frame law asks of it holds.
use Rattle.std.specs.Prelude.{◌≡◌, refl, ℕ, zero, suc, [], ◌∷◌, Some, None, slice_get, codes}
use Rattle.std.specs.Fmt.{digits}
use Rattle.std.proofs.Common.{subst, inl, inr}
use Rattle.own_tree.specs.declared.arithmetic.Arith.TheVariants as arith_of
use Rattle.own_tree.specs.declared.place.Mode.TheVariants as mode
use Rattle.own_tree.specs.declared.place.Ty.TheVariants as type
use Rattle.own_tree.specs.declared.typed.BodyKind.TheVariants as body
use Rattle.own_tree.specs.declared.typed.Passing.TheVariants as passing
use Rattle.own_tree.specs.declared.typed.Target.TheVariants as target
use Rattle.own_tree.specs.TypedSource.{arithmetic, call, closure, let_in, assign, TBody, Program}
use Rattle.own_shapes.specs.Types.{Types, types_declared}
use Rattle.own_runs.specs.Run.{Ended, run_of}
use Rattle.own_runs.proofs.Spelled.{answer, lines, sp, node, at, path_at, i, v, exps, do_, say, bound, body_with, function_body, main_body, types_with, file_, fd, f, local_file, local_int, noncopyable_struct, has}
use Rattle.own_frames.specs.Frame.{Reach, Suits, Takes, entry_params}
use Rattle.own_frames.specs.Tame.{Within, Literal, SuitsArgs, TameBlock, TameProgram}
use Rattle.own_frames.specs.Reading.{reach_of}
use Rattle.own_frames.proofs.StoreFacts.{false_true, some_same, none_some}
use Rattle.own_frames.proofs.Whole.{patterns_kept}

abbrev plain_types : Types
plain_types = types_with (noncopyable_struct (codes "File") (has (codes "fd") (codes "Int") ∷ []) ∷ [])

-- Body 0 makes a file and calls its parameter with it, lent. The closure, body 2, changes the `n` of `main`, body 1.
abbrev lends_to_closure : Program
lends_to_closure = record {
  bodies =
      function_body (0 ∷ []) type.Unit (
      let_in (node 1) 1 (call (at 2 file_) (target.Memberwise 0) (exps (i 3 7 ∷ [])) (passing.ByValue ∷ []))
      ∷ do_ (call (node 4) (target.Closure 0) (exps (f 5 1 ∷ [])) (passing.Borrow ∷ [])) ∷ [])
      ∷ main_body (
      let_in (node 1) 2 (i 2 3)
      ∷ do_ (call (node 3) (target.Function 0) (exps (closure (at 4 (type.Fun 0)) 2 ∷ [])) (passing.Closure ∷ []))
      ∷ say 5 (v 6 2 [] ∷ []) ∷ [])
      ∷ body_with (body.Closure 1) None (3 ∷ []) type.Unit (
      assign (node 1) (path_at 2 type.Int 2 [])
      (arithmetic (at 3 type.Int) arith_of.Mul (sp 3) (v 4 2 []) (fd 5 3)) ∷ []) ∷ [];
  bindings =
      bound (codes "body") (type.Fun 0) mode.Closure 0 ∷ local_file (codes "x") 0 ∷ local_int (codes "n") 1
      ∷ bound (codes "g") file_ mode.Borrowing 2 ∷ [];
  signatures =
      record { params = record { label = None; mode = mode.Borrowing; ty = file_ } ∷ []; result = type.Unit } ∷ [];
  main = 1;
  tokens = 0;
}

lends_runs : answer plain_types lends_to_closure [] 9 ≡ (Ended, lines (codes "21" ∷ []))
unfolding run_of types_declared digits
lends_runs = refl

abbrev reach : Reach
reach = reach_of plain_types lends_to_closure

literal : Literal lends_to_closure reach plain_types 1 2
unfolding types_declared
literal x c (inl h) = subst (λ y. Within lends_to_closure reach plain_types 1 y c) h.0 (inl (refl, (λ e. refl)))
literal x c (inr h) = absurd h

closure_takes : Takes lends_to_closure reach 2 (passing.Borrow ∷ [])
closure_takes b e =
    subst (λ c. Suits lends_to_closure reach (entry_params c.kind c.params) (passing.Borrow ∷ [])) (some_same _ b e)
    (((λ h. absurd (false_true h)), refl), tt)

function_takes : (b : TBody) → slice_get lends_to_closure.bodies 0 ≡ Some b
    → SuitsArgs lends_to_closure reach (entry_params b.kind b.params) (exps (closure (at 4 (type.Fun 0)) 2 ∷ []))
    (passing.Closure ∷ [])
unfolding types_declared
function_takes b e =
    subst (λ c. SuitsArgs lends_to_closure reach (entry_params c.kind c.params)
    (exps (closure (at 4 (type.Fun 0)) 2 ∷ [])) (passing.Closure ∷ [])) (some_same _ b e)
    (((λ h. refl), closure_takes), tt)

tame_bodies : (k : ℕ) (b : TBody) → slice_get lends_to_closure.bodies k ≡ Some b
    → TameBlock lends_to_closure reach plain_types k b.block
unfolding types_declared
tame_bodies zero b e =
    subst (λ c. TameBlock lends_to_closure reach plain_types 0 c.block) (some_same _ b e)
    (((tt, tt), tt), (((tt, tt), (inl refl, refl)), tt))
tame_bodies (suc zero) b e =
    subst (λ c. TameBlock lends_to_closure reach plain_types 1 c.block) (some_same _ b e)
    (tt, (((literal, tt), ((λ x c h. h), function_takes)), ((((λ h. absurd (false_true h)), tt)), tt)))
tame_bodies (suc (suc zero)) b e =
    subst (λ c. TameBlock lends_to_closure reach plain_types 2 c.block) (some_same _ b e)
    ((((λ h. absurd (false_true h)), (λ h. absurd (false_true h))), inr (refl, inl (refl, (λ h. refl)))), tt)
tame_bodies (suc (suc (suc k))) b e = absurd (none_some b e)

-- so `run_frames` holds of it
pub tame : TameProgram lends_to_closure reach plain_types
tame =
    record {
      bodies = tame_bodies;
      deinits = λ t k e. absurd (none_some k e);
      patterns = patterns_kept plain_types lends_to_closure;
    }
