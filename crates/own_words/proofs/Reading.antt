-- The words after the first, read one after another: what they give, and that it is what their line gives.
use Rattle.std.proofs.Common.{◌≡◌, ◌∙◌, ◌≢◌, ◌+◌, ◌≤◌, ◌⊎◌, inl, inr, ◌==◌, ◌&&◌, ◌||◌, not, ℕ, suc, Bool, true, false, if◌then◌else◌, List, [], ◌∷◌, ◌++◌, length, codes, Option, Some, None, refl, sym, ap, arith, take, drop, cond, eqb-true}
use Rattle.std.proofs.lemmas.Slice.Eq.{bytes_eq-Decides}
use Rattle.std.specs.List.{before_first, after_first, position_or_len}
use Rattle.std.specs.Str.{bytes_eq}
use Rattle.clap.specs.Lexer.{has_byte}
use Rattle.own_words.specs.Words.{Text, is_plain, Kind, words, steps, outs, traces, without_equals, Given}

-- ---- one word

-- a plain word, `--`, an option whose value is the next word, an option with its value, and any other
pub data Sort : Type 0 where
  plain_word : Sort
  dashes : Sort
  wants : Kind → Sort
  gives : Kind → Text → Sort
  unknown : Sort

abbrev pub steps_sort : Option Text → Sort
steps_sort None = wants steps
steps_sort (Some v) = gives steps v

abbrev pub trace_sort : Option Text → Sort
trace_sort None = gives traces (codes "true")
trace_sort (Some v) = unknown

abbrev pub named_sort : Text → Option Text → Sort
named_sort name v = if bytes_eq (codes "steps") name then steps_sort v else (if bytes_eq (codes "trace") name then trace_sort v else unknown)

abbrev pub value_in : Text → Option Text
value_in t = if has_byte 61 t then Some (after_first (λ x. x == 61) t) else None

abbrev pub long_sort : Text → Sort
long_sort [] = dashes
long_sort (x ∷ xs) = named_sort (before_first (λ x. x == 61) (x ∷ xs)) (value_in (x ∷ xs))

abbrev pub out_sort : Text → Sort
out_sort [] = wants outs
out_sort (x ∷ xs) = gives outs (without_equals (x ∷ xs))

abbrev pub dash_sort : Text → Sort
dash_sort [] = plain_word
dash_sort (b ∷ rest) = if b == 45 then long_sort rest else (if b == 111 then out_sort rest else unknown)

abbrev pub sort_of : Text → Sort
sort_of [] = plain_word
sort_of (b ∷ rest) = if b == 45 then dash_sort rest else plain_word

pub plain_sort : (w : Text) → is_plain w ≡ true → sort_of w ≡ plain_word
plain_sort [] h = refl
plain_sort (b ∷ []) h = go (b == 45)
  where
    go : (t : Bool) → (if t then plain_word else plain_word) ≡ plain_word
    go true = refl
    go false = refl
plain_sort (b ∷ c ∷ rest) h = go (b == 45) h
  where
    go : (t : Bool) → not t ≡ true → (if t then dash_sort (c ∷ rest) else plain_word) ≡ plain_word
    go true h = cc
    go false h = refl

abbrev pub before : Text → Text
before t = before_first (λ x. x == 61) t

abbrev after : Text → Text
after t = after_first (λ x. x == 61) t

-- neither of the long options: another name, or `trace` with a value
abbrev pub IsOddLong : Text → Type 0
IsOddLong t = (bytes_eq (codes "steps") (before t) ≡ false)
    × ((bytes_eq (codes "trace") (before t) ≡ false) ⊎ ((bytes_eq (codes "trace") (before t) ≡ true) × ((v : Text) × (value_in t ≡ Some v))))

abbrev pub IsOdd : Text → Type 0
IsOdd w = ((b : ℕ) × (rest : Text) × (w ≡ 45 ∷ b ∷ rest) × ((b == 45) ≡ false) × ((b == 111) ≡ false))
    ⊎ ((x : ℕ) × (xs : Text) × (w ≡ 45 ∷ 45 ∷ x ∷ xs) × IsOddLong (x ∷ xs))

-- how a word of each sort is written
abbrev pub Spelled : Sort → Text → Type 0
Spelled plain_word w = is_plain w ≡ true
Spelled dashes w = w ≡ codes "--"
Spelled (wants steps) w = w ≡ codes "--steps"
Spelled (wants outs) w = w ≡ codes "-o"
Spelled (wants _) w = ⊥
Spelled (gives steps v) w = w ≡ codes "--steps=" ++ v
Spelled (gives outs v) w = (r : Text) × (r ≢ []) × (w ≡ codes "-o" ++ r) × (v ≡ without_equals r)
Spelled (gives traces v) w = (w ≡ codes "--trace") × (v ≡ codes "true")
Spelled (gives words v) w = ⊥
Spelled unknown w = IsOdd w

-- a text with a `=` is what stands before the first, it, and what follows; one without is all before
cut_here : (n x : ℕ) (xs : Text) → (b : Bool) → (x == 61) ≡ b → (b || has_byte 61 xs) ≡ true
    → (has_byte 61 xs ≡ true → xs ≡ take n xs ++ (61 ∷ drop (n + 1) xs))
    → x ∷ xs ≡ take (cond (not b) (1 + n) 0) (x ∷ xs) ++ (61 ∷ drop (cond (not b) (1 + n) 0 + 1) (x ∷ xs))
cut_here n x xs true is h rest = ap (λ y. y ∷ xs) (eqb-true x 61 is)
cut_here n x xs false is h rest =
    let one : 1 + n ≡ suc n = omega arith in
    let two : suc n + 1 ≡ suc (n + 1) = omega arith in
    rw (one, two) (ap (λ ys. x ∷ ys) (rest h))

cut : (t : Text) → has_byte 61 t ≡ true → t ≡ before t ++ (61 ∷ after t)
cut [] h = cc
cut (x ∷ xs) h = cut_here (position_or_len (λ y. y == 61) xs) x xs (x == 61) refl h (cut xs)

whole_here : (n x : ℕ) (xs : Text) → (b : Bool) → (b || has_byte 61 xs) ≡ false → (has_byte 61 xs ≡ false → xs ≡ take n xs)
    → x ∷ xs ≡ take (cond (not b) (1 + n) 0) (x ∷ xs)
whole_here n x xs true h rest = cc
whole_here n x xs false h rest =
    let one : 1 + n ≡ suc n = omega arith in
    rw one (ap (λ ys. x ∷ ys) (rest h))

whole : (t : Text) → has_byte 61 t ≡ false → t ≡ before t
whole [] h = refl
whole (x ∷ xs) h = whole_here (position_or_len (λ y. y == 61) xs) x xs (x == 61) h (whole xs)

-- ---- what a word of each sort is

pub is_text : (a t : Text) → bytes_eq a t ≡ true → t ≡ a
is_text a t h = sym ((bytes_eq-Decides a t).0 h)

no_value : (t : Text) → (b : Bool) → has_byte 61 t ≡ b → (if b then Some (after t) else None) ≡ None → has_byte 61 t ≡ false
no_value t true is h = cc
no_value t false is h = is

some_value : (t x : Text) → (b : Bool) → has_byte 61 t ≡ b → (if b then Some (after t) else None) ≡ Some x → (has_byte 61 t ≡ true) × (after t ≡ x)
some_value t x true is h = (is, cc)
some_value t x false is h = cc

named_spelled : (x : ℕ) (xs : Text) (s u : Bool) (v : Option Text) → bytes_eq (codes "steps") (before (x ∷ xs)) ≡ s
    → bytes_eq (codes "trace") (before (x ∷ xs)) ≡ u → value_in (x ∷ xs) ≡ v
    → Spelled (if s then steps_sort v else (if u then trace_sort v else unknown)) (45 ∷ 45 ∷ x ∷ xs)
named_spelled x xs true u None s t none =
    ap (λ y. 45 ∷ 45 ∷ y) (whole (x ∷ xs) (no_value (x ∷ xs) (has_byte 61 (x ∷ xs)) refl none) ∙ is_text (codes "steps") (before (x ∷ xs)) s)
named_spelled x xs true u (Some v) s t is =
    let found = some_value (x ∷ xs) v (has_byte 61 (x ∷ xs)) refl is in
    ap (λ y. 45 ∷ 45 ∷ y) (cut (x ∷ xs) found.0 ∙ ap (λ y. y ++ (61 ∷ after (x ∷ xs))) (is_text (codes "steps") (before (x ∷ xs)) s) ∙ ap (λ y. codes "steps" ++ (61 ∷ y)) found.1)
named_spelled x xs false true None s t none =
    (ap (λ y. 45 ∷ 45 ∷ y) (whole (x ∷ xs) (no_value (x ∷ xs) (has_byte 61 (x ∷ xs)) refl none) ∙ is_text (codes "trace") (before (x ∷ xs)) t), refl)
named_spelled x xs false true (Some v) s t is = inr (x, xs, refl, (s, inr (t, (v, is))))
named_spelled x xs false false v s t is = inr (x, xs, refl, (s, inl t))

long_spelled : (x : ℕ) (xs : Text) → Spelled (named_sort (before (x ∷ xs)) (value_in (x ∷ xs))) (45 ∷ 45 ∷ x ∷ xs)
long_spelled x xs = named_spelled x xs (bytes_eq (codes "steps") (before (x ∷ xs))) (bytes_eq (codes "trace") (before (x ∷ xs))) (value_in (x ∷ xs)) refl refl refl

dash_spelled : (b : ℕ) (rest : Text) → (long short : Bool) → (b == 45) ≡ long → (b == 111) ≡ short
    → Spelled (if long then long_sort rest else (if short then out_sort rest else unknown)) (45 ∷ b ∷ rest)
dash_spelled b [] true short is also = ap (λ y. 45 ∷ y ∷ []) (eqb-true b 45 is)
dash_spelled b (x ∷ xs) true short is also =
    rw (eqb-true b 45 is) (long_spelled x xs)
dash_spelled b [] false true is also = ap (λ y. 45 ∷ y ∷ []) (eqb-true b 111 also)
dash_spelled b (x ∷ xs) false true is also = (x ∷ xs, (λ e. cc), ap (λ y. 45 ∷ y ∷ x ∷ xs) (eqb-true b 111 also), refl)
dash_spelled b rest false false is also = inl (b, rest, refl, is, also)

first_spelled : (b : ℕ) (rest : Text) → (dash : Bool) → (b == 45) ≡ dash → Spelled (if dash then dash_sort rest else plain_word) (b ∷ rest)
first_spelled b [] true is = refl
first_spelled b [] false is = refl
first_spelled b (c ∷ rest) true is = rw (eqb-true b 45 is) (dash_spelled c rest (c == 45) (c == 111) refl refl)
first_spelled b (c ∷ rest) false is = ap not is

pub spelled : (w : Text) → Spelled (sort_of w) w
spelled [] = refl
spelled (b ∷ rest) = first_spelled b rest (b == 45) refl

-- ---- the words

-- more of one kind
abbrev pub only : Kind → List Text → Given
only words vs words = vs
only steps vs steps = vs
only outs vs outs = vs
only traces vs traces = vs
only _ vs _ = []

abbrev pub put : Kind → List Text → Given → Given
put k vs g j = g j ++ only k vs j

abbrev pub is_none : List Text → Bool
is_none [] = true
is_none (t ∷ ts) = false

-- which options there are
abbrev pub Options : Type 0
Options = Kind → Bool

abbrev pub if_new : Options → Given → Kind → Option Given → Option Given
if_new can g k next = if can k && is_none (g k) then next else None

abbrev pub read_word : Options → Given → Sort → Text → List Text → (Given → Option Kind → Option Given) → Option Given
read_word can g plain_word w ws next = next (put words (w ∷ []) g) None
read_word can g dashes w ws next = Some (put words ws g)
read_word can g (wants k) w ws next = if can k then next g (Some k) else None
read_word can g (gives k v) w ws next = if_new can g k (next (put k (v ∷ []) g) None)
read_word can g unknown w ws next = None

abbrev pub read_value : Options → Given → Kind → Sort → Text → (Given → Option Kind → Option Given) → Option Given
read_value can g k plain_word w next = if_new can g k (next (put k (w ∷ []) g) None)
read_value can g k _ w next = None

abbrev pub read_next : Options → Given → Option Kind → Sort → Text → List Text → (Given → Option Kind → Option Given) → Option Given
read_next can g None s w ws next = read_word can g s w ws next
read_next can g (Some k) s w ws next = read_value can g k s w next

-- what the words give beside g, where they may stand; k waits for a value
abbrev pub read : Options → Given → Option Kind → List Text → Option Given
read can g None [] = Some g
read can g (Some k) [] = None
read can g waits (w ∷ ws) = read_next can g waits (sort_of w) w ws (λ h k. read can h k ws)

-- each option stands at most once, and only where there is one
abbrev pub most : Bool → ℕ
most true = 1
most false = 0

abbrev pub Fits : Options → Given → Type 0
Fits can g = (length (g steps) ≤ most (can steps)) × (length (g outs) ≤ most (can outs)) × (length (g traces) ≤ most (can traces))
