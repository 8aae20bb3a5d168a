-- What the frame law says of a call that is granted nothing, and of a whole run.
use Rattle.std.proofs.Common.{◌≡◌, ℕ, suc, true, List, [], ◌∷◌, Some, None, length, sym, ap, ◌∙◌}
use Rattle.std.specs.Prelude.{ℤ, slice_get}
use Rattle.own_tree.specs.declared.place.Binding.{Binding}
use Rattle.own_tree.specs.declared.place.Mode.TheVariants as mode
use Rattle.own_tree.specs.TypedSource.{Program}
use Rattle.own_shapes.specs.Types.{Types}
use Rattle.own_runs.specs.Destruction.{Passed, given, lent, lent_temporary, closed}
use Rattle.own_runs.specs.Run.{run_to, start}
use Rattle.own_runs.specs.Store.{State}
use Rattle.own_frames.specs.Frame.{Grant, Ok, Reach, entry_params, AllFit, Framed}
use Rattle.own_frames.specs.Laws.{Unchanged, OnlyLent, LentTo}
use Rattle.own_frames.specs.Reading.{kept_at, is_kept, reach_of}
use Rattle.own_frames.specs.Tame.{NoCaptures, TameProgram}
use Rattle.own_frames.proofs.Frames.{run_frames}
use Rattle.own_frames.proofs.StoreFacts.{false_true}
use Rattle.own_frames.proofs.Writing.{ok_map}

-- nothing may be changed, and nothing is looked up
abbrev nothing : Grant
nothing = record { may = λ l. ⊥; downward = λ l ks m. m; sees = λ x c m. ⊥ }

module _ (types : Types) (program : Program) (reach : Reach) (tame : TameProgram program reach types) where
  lent_fit : (xs : List ℕ) (ps : List Passed) → OnlyLent reach xs ps → AllFit program reach nothing xs ps
  lent_fit [] [] o = tt
  lent_fit [] (p ∷ ps) o = tt
  lent_fit (x ∷ xs) [] o = tt
  lent_fit (x ∷ xs) (lent l ∷ ps) o = ((λ e. false_true (sym o.0 ∙ e)), lent_fit xs ps o.1)
  lent_fit (x ∷ xs) (lent_temporary s l ∷ ps) o = ((λ e. false_true (sym o.0 ∙ e)), lent_fit xs ps o.1)
  lent_fit (x ∷ xs) (given l ∷ ps) o = absurd o
  lent_fit (x ∷ xs) (closed k m ∷ ps) o = absurd o

  pub lending_changes_nothing : (depth k : ℕ) (ps : List Passed) (level : ℕ) (st : State) → NoCaptures program reach k
      → LentTo reach program k ps → Ok (λ v st'. Unchanged st st') (run_to types program depth k None ps level st)
  lending_changes_nothing depth k ps level st none only =
      ok_map (λ v st'. Framed nothing st st') (λ v st'. Unchanged st st')
      (run_to types program depth k None ps level st)
      (run_frames types program reach tame depth nothing k None ps level st (record {
        closed = λ x c m s. absurd s;
        passed = λ b e. lent_fit (entry_params b.kind b.params) ps (only b e);
        maker = none;
      }))
      (λ v st' f. record { many = f.many; linked = f.linked; same = λ l lt. f.apart l lt (λ w m. absurd m) })

  nothing_passed : (xs : List ℕ) → OnlyLent reach xs []
  nothing_passed [] = tt
  nothing_passed (x ∷ xs) = tt

  pub runs_end_empty : NoCaptures program reach program.main → (input : List ℤ) (turns : ℕ)
      → Ok (λ v st'. length st'.store ≡ 0)
      (run_to types program (suc turns) program.main None [] 0 (start input turns))
  runs_end_empty none input turns =
      ok_map (λ v st'. Unchanged (start input turns) st') (λ v st'. length st'.store ≡ 0)
      (run_to types program (suc turns) program.main None [] 0 (start input turns))
      (lending_changes_nothing (suc turns) program.main [] 0 (start input turns) none
      (λ b e. nothing_passed (entry_params b.kind b.params)))
      (λ v st' u. u.many)

-- one part of `TameProgram` that holds of what is read off any program
pub patterns_kept : (types : Types) (program : Program) (x : ℕ) (b : Binding) → slice_get program.bindings x ≡ Some b
    → b.mode ≡ mode.PatternBorrowed → (reach_of types program).borrowed x ≡ true
patterns_kept types program x b e m = ap kept_at e ∙ ap is_kept m
