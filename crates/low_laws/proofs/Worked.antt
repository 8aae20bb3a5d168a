-- A worked core keeps to what is asked, so its module does what it does. What that is, is computed of the core alone.
use Rattle.std.proofs.Common.{◌≡◌, ℕ, zero, suc, ◌*◌, ◌≤◌, [], ◌∷◌, Some, subst, arith}
use Rattle.std.specs.Prelude.{pos, codes, slice_get}
use Rattle.std.specs.Fmt.{digits}
use Rattle.own_tree.specs.declared.arithmetic.Arith.TheVariants.{Add, Mul}
use Rattle.own_tree.specs.declared.typed.Comparison.TheVariants as comparison
use Rattle.wasm_form.specs.Steps.{machine_run, Ended}
use Rattle.core_form.specs.declared.limits.TheConstants.{STEPS, SLOTS, MOST_HEIGHT}
use Rattle.core_form.specs.CoreSource.{mine, next, constant, load, local, arithmetic, compare, store, store_local, print, no_pieces, text_piece, int_piece, when, block, loop, jump, call, nothing, form, Function, CoreProgram}
use Rattle.core_form.specs.CoreRun.{core_run}
use Rattle.core_form.specs.Sizes.{IsSmall, IsFitting, height}
use Rattle.low_laws.specs.Lower.{lowered}
use Rattle.low_laws.proofs.Numbers.{some_same}
use Rattle.low_laws.proofs.Whole.{modules_follow}

-- a loop that prints 0 and 1 and calls a function that prints the square of a number
abbrev counting : CoreProgram
counting = record {
  functions = record {
    locals = 1;
    code =
        form (block (form (loop (form (when (compare comparison.Less (local 0) (constant (pos 2)))
        (form (print (int_piece (local 0) (text_piece 0 1 no_pieces)))
        (form (store_local 0 (arithmetic Add 7 (local 0) (constant (pos 1)))) nothing))
        (form (jump 1) nothing)) nothing)) nothing))
        (form (store (next SLOTS) (constant (pos 7)))
        (form (call 1) nothing));
  }
      ∷ record {
        locals = 0;
        code =
            form (print (int_piece (arithmetic Mul 11 (load (mine SLOTS)) (load (mine SLOTS))) (text_piece 0 1 no_pieces)))
            nothing;
      }
      ∷ [];
  main = 0;
  texts = codes "\n";
}

low : (f : ℕ) (g : Function) → slice_get counting.functions f ≡ Some g → height g.code ≤ MOST_HEIGHT
low zero g e = subst (λ (h : Function). height h.code ≤ MOST_HEIGHT) (some_same _ g e) (omega arith)
low (suc zero) g e = subst (λ (h : Function). height h.code ≤ MOST_HEIGHT) (some_same _ g e) (omega arith)
low (suc (suc f)) g e = absurd cc

small : IsSmall counting
small = record { low = low; few = omega arith; short = omega arith }

fits : IsFitting counting
fits = record { is_small = small; functions = (record { numbers = grind arith; labels = omega arith; locals = omega arith }, (record { numbers = grind arith; labels = omega arith; locals = omega arith }, tt)); main = omega arith; texts = (omega arith, tt); short_code = omega arith }

-- with five turns it ends, and so does its module, within STEPS steps for each form
ends : (n : ℕ) → STEPS * 47 ≤ n → (steps : ℕ) × (machine_run (lowered counting) [] n ≡ (codes "0\n1\n49\n", Ended steps))
unfolding core_run digits
ends n le = (modules_follow counting small [] tt 5).not_behind n le
