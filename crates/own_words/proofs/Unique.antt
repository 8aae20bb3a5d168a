-- Words are one command at most.
use Rattle.std.proofs.Common.{◌≡◌, ◌∙◌, ◌≢◌, ◌≤◌, ℕ, Bool, true, false, List, [], ◌∷◌, length, codes, Option, Some, None, refl, sym, ap, subst, arith}
use Rattle.std.specs.Prelude.{ℤ, slice_index}
use Rattle.own_tree.specs.declared.command.Command.{Command}
use Rattle.own_tree.specs.declared.command.Command.TheVariants as command
use Rattle.own_words.specs.Words.{Text, Line, IsLine, words, steps, outs, traces, Given, given, IsNatural, AreIntegers, AreSteps, IsName, IsNameIfAny, IsUsed, AreInputs, AreCounts, Takes}
use Rattle.own_words.specs.Laws.{WordsOne}
use Rattle.own_words.proofs.Reading.{Options, Fits, most, read}
use Rattle.own_words.proofs.Lines.{line_read}
use Rattle.own_words.proofs.Clap.{Name, check, build, run, exec, selftest, options, text_of}

-- ---- a command has the options that it may have

empty_most : (ts : List Text) (b : Bool) → ts ≡ [] → length ts ≤ most b
empty_most ts b e = subst (λ y. length y ≤ most b) (sym e) (omega arith)

name_most : (ts : List Text) (name : Text) → IsName ts name → length ts ≤ 1
name_most ts name h = subst (λ y. length y ≤ 1) (sym h.0) (omega arith)

any_most : (ts : List Text) (name : Option Text) → IsNameIfAny ts name → length ts ≤ 1
any_most ts None h = subst (λ y. length y ≤ 1) (sym h) (omega arith)
any_most ts (Some name) h = name_most ts name h

used_most : (ts : List Text) (b : Bool) → IsUsed ts b → length ts ≤ 1
used_most ts true h = omega arith
used_most ts false h = omega arith

steps_most : (ts : List Text) (n : ℕ) → AreSteps ts n → length ts ≤ 1
steps_most [] n h = omega arith
steps_most (t ∷ []) n h = omega arith
steps_most (t ∷ u ∷ ts) n h = absurd h

abbrev pub IsNamed : Text → Given → Type 0
IsNamed first g = (n : Name) × (first ≡ text_of n) × Fits (options n) g

pub takes_named : (c : Command) (first : Text) (g : Given) → Takes c first g → IsNamed first g
takes_named (command.Check file) first g h = (check, h.0, (empty_most (g steps) false h.2, empty_most (g outs) false h.3, empty_most (g traces) false h.4))
takes_named (command.Build file out t) first g h = (build, h.0, (empty_most (g steps) false h.2, name_most (g outs) out h.3, used_most (g traces) t h.4))
takes_named (command.Run file out n t input) first g h = (run, h.0, (steps_most (g steps) n h.2, any_most (g outs) out h.3, used_most (g traces) t h.4))
takes_named (command.Exec file n input) first g h = (exec, h.0, (steps_most (g steps) n h.2, empty_most (g outs) false h.3, empty_most (g traces) false h.4))
takes_named (command.Selftest number size) first g h = (selftest, h.0, (empty_most (g steps) false h.2, empty_most (g outs) false h.3, empty_most (g traces) false h.4))

-- ---- a line gives one thing

most_one : (b : Bool) → most b ≤ 1
most_one true = omega arith
most_one false = omega arith

pub fits_all : (can : Options) (g : Given) → Fits can g → Fits (λ k. true) g
fits_all can g h =
    let a = most_one (can steps) in
    let b = most_one (can outs) in
    let c = most_one (can traces) in
    let x : length (g steps) ≤ 1 = omega (arith, a, h.0) in
    let y : length (g outs) ≤ 1 = omega (arith, b, h.1) in
    let z : length (g traces) ≤ 1 = omega (arith, c, h.2) in
    (x, y, z)

pub line_given : (can : Options) (l : Line) (ws : List Text) → IsLine l ws → Fits can (given l) → read can (λ k. []) None ws ≡ Some (given l)
line_given can l ws is fits = ap (read can (λ k. []) None) is.1 ∙ line_read can l.parts l.behind (λ k. []) is.0 fits

pub one_given : (l m : Line) (ws : List Text) → IsLine l ws → IsLine m ws → Fits (λ k. true) (given l) → Fits (λ k. true) (given m) → given l ≡ given m
one_given l m ws a b fits also =
    let e : Some (given l) ≡ Some (given m) = sym (line_given (λ k. true) l ws a fits) ∙ line_given (λ k. true) m ws b also in
    cc

-- ---- what is given is one command

name_one : (ts : List Text) (a b : Text) → IsName ts a → IsName ts b → a ≡ b
name_one ts a b h k =
    let e : a ∷ [] ≡ b ∷ [] = sym h.0 ∙ k.0 in
    cc

any_one : (ts : List Text) (a b : Option Text) → IsNameIfAny ts a → IsNameIfAny ts b → a ≡ b
any_one ts None None h k = refl
any_one ts None (Some b) h k =
    let e : [] ≡ b ∷ [] = sym h ∙ k.0 in
    cc
any_one ts (Some a) None h k =
    let e : a ∷ [] ≡ [] = sym h.0 ∙ k in
    cc
any_one ts (Some a) (Some b) h k = ap Some (name_one ts a b h k)

used_one : (ts : List Text) (a b : Bool) → IsUsed ts a → IsUsed ts b → a ≡ b
used_one ts true true h k = refl
used_one ts true false h k = absurd (omega arith)
used_one ts false true h k = absurd (omega arith)
used_one ts false false h k = refl

natural_one : (t : Text) (a b : ℕ) → IsNatural t a → IsNatural t b → a ≡ b
natural_one t a b h k = sym h.1 ∙ k.1

steps_one : (ts : List Text) (a b : ℕ) → AreSteps ts a → AreSteps ts b → a ≡ b
steps_one [] a b h k = h ∙ sym k
steps_one (t ∷ []) a b h k = natural_one t a b h.0 k.0
steps_one (t ∷ u ∷ ts) a b h k = absurd h

integers_one : (ts : List Text) (a b : List ℤ) → AreIntegers ts a → AreIntegers ts b → a ≡ b
integers_one [] [] [] h k = refl
integers_one [] [] (y ∷ ys) h k = absurd k
integers_one [] (x ∷ xs) b h k = absurd h
integers_one (t ∷ ts) [] b h k = absurd h
integers_one (t ∷ ts) (x ∷ xs) [] h k = absurd k
integers_one (t ∷ ts) (x ∷ xs) (y ∷ ys) h k =
    let head : x ≡ y = sym h.0.1 ∙ k.0.1 in
    let tail : xs ≡ ys = integers_one ts xs ys h.1 k.1 in
    λ i. head i ∷ tail i

inputs_one : (ts : List Text) (f g : Text) (a b : List ℤ) → AreInputs ts f a → AreInputs ts g b → (f ≡ g) × (a ≡ b)
inputs_one [] f g a b h k = absurd h
inputs_one (t ∷ ts) f g a b h k = (sym h.0 ∙ k.0, integers_one ts a b h.2 k.2)

counts_one : (ts : List Text) (a b s t : ℕ) → AreCounts ts a s → AreCounts ts b t → (a ≡ b) × (s ≡ t)
counts_one [] a b s t h k = absurd h
counts_one (x ∷ []) a b s t h k = absurd h
counts_one (x ∷ y ∷ []) a b s t h k = (natural_one x a b h.0 k.0, natural_one y s t h.2 k.2)
counts_one (x ∷ y ∷ z ∷ ts) a b s t h k = absurd h

-- names with different first letters differ
pub differ : {X : Type 0} (a b : Text) → slice_index a 0 ≢ slice_index b 0 → a ≡ b → X
differ a b ne e = absurd (ne (ap (λ w. slice_index w 0) e))

clash : {X : Type 0} (a b first : Text) → first ≡ a → first ≡ b → slice_index a 0 ≢ slice_index b 0 → X
clash a b first p q ne = differ a b ne (sym p ∙ q)

takes_one : (c d : Command) (first : Text) (g : Given) → Takes c first g → Takes d first g → c ≡ d
takes_one (command.Check f) (command.Check f') first g h k = ap command.Check (name_one (g words) f f' h.1 k.1)
takes_one (command.Build f o t) (command.Build f' o' t') first g h k =
    let file = name_one (g words) f f' h.1 k.1 in
    let out = name_one (g outs) o o' h.3 k.3 in
    let traced = used_one (g traces) t t' h.4 k.4 in
    λ i. command.Build (file i) (out i) (traced i)
takes_one (command.Run f o n t z) (command.Run f' o' n' t' z') first g h k =
    let inputs = inputs_one (g words) f f' z z' h.1 k.1 in
    let file = inputs.0 in
    let input = inputs.1 in
    let count = steps_one (g steps) n n' h.2 k.2 in
    let out = any_one (g outs) o o' h.3 k.3 in
    let traced = used_one (g traces) t t' h.4 k.4 in
    λ i. command.Run (file i) (out i) (count i) (traced i) (input i)
takes_one (command.Exec f n z) (command.Exec f' n' z') first g h k =
    let inputs = inputs_one (g words) f f' z z' h.1 k.1 in
    let file = inputs.0 in
    let input = inputs.1 in
    let count = steps_one (g steps) n n' h.2 k.2 in
    λ i. command.Exec (file i) (count i) (input i)
takes_one (command.Selftest a s) (command.Selftest b t) first g h k =
    let counts = counts_one (g words) a b s t h.1 k.1 in
    let number = counts.0 in
    let size = counts.1 in
    λ i. command.Selftest (number i) (size i)
takes_one (command.Check f) (command.Build f' o' t') first g h k = clash (codes "check") (codes "build") first h.0 k.0 (λ e. omega arith)
takes_one (command.Check f) (command.Run f' o' n' t' z') first g h k = clash (codes "check") (codes "run") first h.0 k.0 (λ e. omega arith)
takes_one (command.Check f) (command.Exec f' n' z') first g h k = clash (codes "check") (codes "exec") first h.0 k.0 (λ e. omega arith)
takes_one (command.Check f) (command.Selftest b u) first g h k = clash (codes "check") (codes "selftest") first h.0 k.0 (λ e. omega arith)
takes_one (command.Build f o t) (command.Check f') first g h k = clash (codes "build") (codes "check") first h.0 k.0 (λ e. omega arith)
takes_one (command.Build f o t) (command.Run f' o' n' t' z') first g h k = clash (codes "build") (codes "run") first h.0 k.0 (λ e. omega arith)
takes_one (command.Build f o t) (command.Exec f' n' z') first g h k = clash (codes "build") (codes "exec") first h.0 k.0 (λ e. omega arith)
takes_one (command.Build f o t) (command.Selftest b u) first g h k = clash (codes "build") (codes "selftest") first h.0 k.0 (λ e. omega arith)
takes_one (command.Run f o n t z) (command.Check f') first g h k = clash (codes "run") (codes "check") first h.0 k.0 (λ e. omega arith)
takes_one (command.Run f o n t z) (command.Build f' o' t') first g h k = clash (codes "run") (codes "build") first h.0 k.0 (λ e. omega arith)
takes_one (command.Run f o n t z) (command.Exec f' n' z') first g h k = clash (codes "run") (codes "exec") first h.0 k.0 (λ e. omega arith)
takes_one (command.Run f o n t z) (command.Selftest b u) first g h k = clash (codes "run") (codes "selftest") first h.0 k.0 (λ e. omega arith)
takes_one (command.Exec f n z) (command.Check f') first g h k = clash (codes "exec") (codes "check") first h.0 k.0 (λ e. omega arith)
takes_one (command.Exec f n z) (command.Build f' o' t') first g h k = clash (codes "exec") (codes "build") first h.0 k.0 (λ e. omega arith)
takes_one (command.Exec f n z) (command.Run f' o' n' t' z') first g h k = clash (codes "exec") (codes "run") first h.0 k.0 (λ e. omega arith)
takes_one (command.Exec f n z) (command.Selftest b u) first g h k = clash (codes "exec") (codes "selftest") first h.0 k.0 (λ e. omega arith)
takes_one (command.Selftest a s) (command.Check f') first g h k = clash (codes "selftest") (codes "check") first h.0 k.0 (λ e. omega arith)
takes_one (command.Selftest a s) (command.Build f' o' t') first g h k = clash (codes "selftest") (codes "build") first h.0 k.0 (λ e. omega arith)
takes_one (command.Selftest a s) (command.Run f' o' n' t' z') first g h k = clash (codes "selftest") (codes "run") first h.0 k.0 (λ e. omega arith)
takes_one (command.Selftest a s) (command.Exec f' n' z') first g h k = clash (codes "selftest") (codes "exec") first h.0 k.0 (λ e. omega arith)

pub words_one : WordsOne
words_one [] c d h k = absurd h
words_one (first ∷ rest) c d h k =
    let l = h.0 in
    let m = k.0 in
    let left = takes_named c first (given l) h.2 in
    let right = takes_named d first (given m) k.2 in
    let same = one_given l m rest h.1 k.1 (fits_all (options left.0) (given l) left.2) (fits_all (options right.0) (given m) right.2) in
    takes_one c d first (given m) (subst (Takes c first) same h.2) k.2
