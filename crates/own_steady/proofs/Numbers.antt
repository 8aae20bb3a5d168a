-- Steps on numbers and truths.
use Rattle.std.proofs.Common.{ℕ, Bool, true, false, List, refl}
use Rattle.std.specs.Prelude.{ℤ}
use Rattle.own_tree.specs.declared.arithmetic.Arith.{Arith}
use Rattle.own_tree.specs.declared.arithmetic.Arith.TheVariants as arith
use Rattle.own_tree.specs.declared.typed.Comparison.{Comparison}
use Rattle.own_tree.specs.declared.typed.Comparison.TheVariants as compare
use Rattle.own_tree.specs.declared.typed.Logic.{Logic}
use Rattle.own_tree.specs.declared.typed.Logic.TheVariants as connective
use Rattle.own_shapes.specs.Types as shape
use Rattle.own_runs.specs.Arithmetic.{as_int, as_bool, as_val, compare_truths, compare_vals}
use Rattle.own_runs.specs.Calls.{spelled}
use Rattle.own_runs.specs.Run.{connected}
use Rattle.own_runs.specs.Store.{State, Act}
use Rattle.own_runs.specs.Values.{Val, int, bool, unit, struct, variant, hole}
use Rattle.own_ways.specs.Arithmetic.{answered, computed, wrapped}
use Rattle.own_ways.specs.Exact.{Exact, Gives, Fails, exact}
use Rattle.own_steady.specs.Fits.{IsGood}
use Rattle.own_steady.specs.Steady.{IsWrapping, IsEquality}
use Rattle.own_steady.specs.Ways.{Keeps}
use Rattle.own_steady.proofs.Seeing.{no_yes}
use Rattle.own_steady.proofs.Steps.{then_l, pure_l, trap_l}

module _ (I : State → Type 0) where
  pub as_int_k : (v : Val) → IsGood shape.number v → Keeps I (λ n. Unit {0}) (as_int v)
  as_int_k (int n) g = pure_l n tt
  as_int_k (bool b) g = absurd g.0
  as_int_k unit g = absurd g.0
  as_int_k (struct type i vs) g = absurd g.0
  as_int_k (variant present vs) g = absurd g.0
  as_int_k hole g = no_yes g.1

  pub as_bool_k : (v : Val) → IsGood shape.truth v → Keeps I (λ b. Unit {0}) (as_bool v)
  as_bool_k (bool b) g = pure_l b tt
  as_bool_k (int n) g = absurd g.0
  as_bool_k unit g = absurd g.0
  as_bool_k (struct type i vs) g = absurd g.0
  as_bool_k (variant present vs) g = absurd g.0
  as_bool_k hole g = no_yes g.1

  answered_k : (at : ℕ) (e : Exact) → Keeps I (λ (n : ℤ). Unit {0}) (answered at e)
  answered_k at (Gives n) = pure_l n tt
  answered_k at (Fails code) = trap_l code at

  pub computed_k : (o : Arith) (at : ℕ) (a b : ℤ) → Keeps I (IsGood shape.number) (as_val (computed o at a b))
  computed_k o at a b = then_l (answered_k at (exact o a b)) (λ n u. pure_l (int n) (tt, refl))

  wrapped_n : (o : Arith) (a b : ℤ) → IsWrapping o → Keeps I (λ (n : ℤ). Unit {0}) (wrapped o a b)
  wrapped_n arith.Add a b h = pure_l _ tt
  wrapped_n arith.Sub a b h = pure_l _ tt
  wrapped_n arith.Mul a b h = pure_l _ tt
  wrapped_n arith.Div a b h = absurd h
  wrapped_n arith.Rem a b h = absurd h
  wrapped_n arith.Neg a b h = absurd h

  pub wrapped_k : (o : Arith) (a b : ℤ) → IsWrapping o → Keeps I (IsGood shape.number) (as_val (wrapped o a b))
  wrapped_k o a b h = then_l (wrapped_n o a b h) (λ n u. pure_l (int n) (tt, refl))

  pub numbers_k : (o : Comparison) (v u : Val) → IsGood shape.number v → IsGood shape.number u → Keeps I (IsGood shape.truth) (compare_vals o v u)
  numbers_k o (int a) (int b) g h = pure_l _ (tt, refl)
  numbers_k o (int a) (bool b) g h = absurd h.0
  numbers_k o (int a) unit g h = absurd h.0
  numbers_k o (int a) (struct type i vs) g h = absurd h.0
  numbers_k o (int a) (variant present vs) g h = absurd h.0
  numbers_k o (int a) hole g h = no_yes h.1
  numbers_k o (bool b) u g h = absurd g.0
  numbers_k o unit u g h = absurd g.0
  numbers_k o (struct type i vs) u g h = absurd g.0
  numbers_k o (variant present vs) u g h = absurd g.0
  numbers_k o hole u g h = no_yes g.1

  equal_k : (o : Comparison) (a b : Bool) → IsEquality o → Keeps I (IsGood shape.truth) (compare_truths o a b)
  equal_k compare.Equal a b h = pure_l _ (tt, refl)
  equal_k compare.Unequal a b h = pure_l _ (tt, refl)
  equal_k compare.Less a b h = absurd h
  equal_k compare.LessEqual a b h = absurd h
  equal_k compare.Greater a b h = absurd h
  equal_k compare.GreaterEqual a b h = absurd h

  pub truths_k : (o : Comparison) (v u : Val) → IsGood shape.truth v → IsGood shape.truth u → IsEquality o → Keeps I (IsGood shape.truth) (compare_vals o v u)
  truths_k o (bool a) (bool b) g h q = equal_k o a b q
  truths_k o (bool a) (int n) g h q = absurd h.0
  truths_k o (bool a) unit g h q = absurd h.0
  truths_k o (bool a) (struct type i vs) g h q = absurd h.0
  truths_k o (bool a) (variant present vs) g h q = absurd h.0
  truths_k o (bool a) hole g h q = no_yes h.1
  truths_k o (int n) u g h q = absurd g.0
  truths_k o unit u g h q = absurd g.0
  truths_k o (struct type i vs) u g h q = absurd g.0
  truths_k o (variant present vs) u g h q = absurd g.0
  truths_k o hole u g h q = no_yes g.1

  pub connected_k : (o : Logic) (b : Bool) {p : Act Val} → Keeps I (IsGood shape.truth) p → Keeps I (IsGood shape.truth) (connected o b p)
  connected_k connective.And true h = h
  connected_k connective.And false h = pure_l _ (tt, refl)
  connected_k connective.Or true h = pure_l _ (tt, refl)
  connected_k connective.Or false h = h

  pub spelled_number_k : (v : Val) → IsGood shape.number v → Keeps I (λ (u : List ℕ). Unit {0}) (spelled v)
  spelled_number_k (int n) h = pure_l _ tt
  spelled_number_k (bool b) h = absurd h.0
  spelled_number_k unit h = absurd h.0
  spelled_number_k (struct type i vs) h = absurd h.0
  spelled_number_k (variant present vs) h = absurd h.0
  spelled_number_k hole h = no_yes h.1

  pub spelled_truth_k : (v : Val) → IsGood shape.truth v → Keeps I (λ (u : List ℕ). Unit {0}) (spelled v)
  spelled_truth_k (bool b) h = pure_l _ tt
  spelled_truth_k (int n) h = absurd h.0
  spelled_truth_k unit h = absurd h.0
  spelled_truth_k (struct type i vs) h = absurd h.0
  spelled_truth_k (variant present vs) h = absurd h.0
  spelled_truth_k hole h = no_yes h.1
