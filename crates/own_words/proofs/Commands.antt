-- The commands that may have a name.
use Rattle.std.proofs.Common.{◌≡◌, ◌≢◌, ◌≤◌, ℕ, List, [], ◌∷◌, codes, map, get_or, Option, Some, subst, arith}
use Rattle.std.specs.Prelude.{ℤ}
use Rattle.std.specs.Borrow.{Bor}
use Rattle.own_tree.specs.declared.command.Command.{Command}
use Rattle.own_tree.specs.declared.command.Command.TheVariants as command
use Rattle.own_words.specs.Seen.{all_or_none}
use Rattle.own_words.specs.Words.{Text, Given, words, steps, outs, AreCounts, AreInputs, AreSteps, IsName, IsNameIfAny, IsNatural, Takes, most_size}
use Rattle.own_words.proofs.Unique.{differ}

pub no_check : (g : Given) → ((f : Text) → IsName (g words) f → ⊥) → (c : Command) → Takes c (codes "check") g → ⊥
no_check g none (command.Check f) h = none f h.1
no_check g none (command.Build f o t) h = differ (codes "check") (codes "build") (λ e. omega arith) h.0
no_check g none (command.Run f o n t z) h = differ (codes "check") (codes "run") (λ e. omega arith) h.0
no_check g none (command.Exec f n z) h = differ (codes "check") (codes "exec") (λ e. omega arith) h.0
no_check g none (command.Selftest a s) h = differ (codes "check") (codes "selftest") (λ e. omega arith) h.0

pub no_build : (g : Given) → ((f o : Text) → IsName (g words) f → IsName (g outs) o → ⊥) → (c : Command) → Takes c (codes "build") g → ⊥
no_build g none (command.Check f) h = differ (codes "build") (codes "check") (λ e. omega arith) h.0
no_build g none (command.Build f o t) h = none f o h.1 h.3
no_build g none (command.Run f o n t z) h = differ (codes "build") (codes "run") (λ e. omega arith) h.0
no_build g none (command.Exec f n z) h = differ (codes "build") (codes "exec") (λ e. omega arith) h.0
no_build g none (command.Selftest a s) h = differ (codes "build") (codes "selftest") (λ e. omega arith) h.0

pub no_run : (g : Given) → ((f : Text) (o : Option Text) (n : ℕ) (z : List ℤ) → AreInputs (g words) f z → AreSteps (g steps) n → IsNameIfAny (g outs) o → ⊥) → (c : Command) → Takes c (codes "run") g → ⊥
no_run g none (command.Check f) h = differ (codes "run") (codes "check") (λ e. omega arith) h.0
no_run g none (command.Build f o t) h = differ (codes "run") (codes "build") (λ e. omega arith) h.0
no_run g none (command.Run f o n t z) h = none f o n z h.1 h.2 h.3
no_run g none (command.Exec f n z) h = differ (codes "run") (codes "exec") (λ e. omega arith) h.0
no_run g none (command.Selftest a s) h = differ (codes "run") (codes "selftest") (λ e. omega arith) h.0

pub no_exec : (g : Given) → ((f : Text) (n : ℕ) (z : List ℤ) → AreInputs (g words) f z → AreSteps (g steps) n → ⊥) → (c : Command) → Takes c (codes "exec") g → ⊥
no_exec g none (command.Check f) h = differ (codes "exec") (codes "check") (λ e. omega arith) h.0
no_exec g none (command.Build f o t) h = differ (codes "exec") (codes "build") (λ e. omega arith) h.0
no_exec g none (command.Run f o n t z) h = differ (codes "exec") (codes "run") (λ e. omega arith) h.0
no_exec g none (command.Exec f n z) h = none f n z h.1 h.2
no_exec g none (command.Selftest a s) h = differ (codes "exec") (codes "selftest") (λ e. omega arith) h.0

pub no_selftest : (g : Given) → ((a s : ℕ) → AreCounts (g words) a s → ⊥) → (c : Command) → Takes c (codes "selftest") g → ⊥
no_selftest g none (command.Check f) h = differ (codes "selftest") (codes "check") (λ e. omega arith) h.0
no_selftest g none (command.Build f o t) h = differ (codes "selftest") (codes "build") (λ e. omega arith) h.0
no_selftest g none (command.Run f o n t z) h = differ (codes "selftest") (codes "run") (λ e. omega arith) h.0
no_selftest g none (command.Exec f n z) h = differ (codes "selftest") (codes "exec") (λ e. omega arith) h.0
no_selftest g none (command.Selftest a s) h = none a s h.1

pub no_name : (name : Text) (g : Given) → name ≢ codes "check" → name ≢ codes "build" → name ≢ codes "run" → name ≢ codes "exec" → name ≢ codes "selftest"
    → (c : Command) → Takes c name g → ⊥
no_name name g p q r s t (command.Check f) h = p h.0
no_name name g p q r s t (command.Build f o u) h = q h.0
no_name name g p q r s t (command.Run f o n u z) h = r h.0
no_name name g p q r s t (command.Exec f n z) h = s h.0
no_name name g p q r s t (command.Selftest a u) h = t h.0

-- the second of two counts
abbrev IsSize : Text → ℕ → Type 0
IsSize text n = IsNatural text n × (1 ≤ n) × (n ≤ most_size)

second_size : (xs : List (Bor Text)) (d : Bor Text) (a n : ℕ) → AreCounts (map (λ s. s.now) xs) a n → IsSize (get_or xs 1 d).now n
second_size [] d a n h = absurd h
second_size (x ∷ []) d a n h = absurd h
second_size (x ∷ y ∷ []) d a n h = (h.2, h.3, h.4)
second_size (x ∷ y ∷ z ∷ xs) d a n h = absurd h

pub size_read : (texts : Bor (List (Bor Text))) (o : Option (Bor (List (Bor Text)))) (d : Bor Text) (a n : ℕ) → o ≡ Some texts → AreCounts (all_or_none o) a n
    → IsSize (get_or texts.now 1 d).now n
size_read texts o d a n is h = second_size texts.now d a n (subst (λ p. AreCounts (all_or_none p) a n) is h)
