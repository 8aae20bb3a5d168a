-- What is read of the words of a line is what the line gives, and nothing else is read.
use Rattle.std.proofs.Common.{◌≡◌, ◌∙◌, ◌≤◌, ◌&&◌, Bool, true, false, if◌then◌else◌, List, [], ◌∷◌, ◌++◌, length, codes, Option, Some, None, refl, sym, ap, subst, arith, append-nil, append_assoc}
use Rattle.std.proofs.lemmas.List.{length-append}
use Rattle.own_words.specs.Words.{Text, Part, plain, steps_next, steps_joined, out_next, out_joined, trace, is_plain, Line, behind_words, AreParts, IsPart, written, all_written, IsLine, Kind, words, steps, outs, traces, without_equals, given_by, given_behind, given_in, Given, given}
use Rattle.own_words.proofs.Reading.{Sort, plain_word, dashes, wants, gives, unknown, sort_of, plain_sort, Spelled, spelled, only, put, is_none, Options, if_new, read_word, read_value, read_next, read, most, Fits}

-- ---- what is given, and more

same : {g h : Given} → ((k : Kind) → g k ≡ h k) → g ≡ h
same e = λ i k. e k i

only_by_none : (g : Given) (k : Kind) → g k ≡ g k ++ given_behind k None
only_by_none g words = sym (append-nil (g words))
only_by_none g steps = sym (append-nil (g steps))
only_by_none g outs = sym (append-nil (g outs))
only_by_none g traces = sym (append-nil (g traces))

put_behind : (g : Given) (ws : List Text) (k : Kind) → put words ws g k ≡ g k ++ given_behind k (Some ws)
put_behind g ws words = refl
put_behind g ws steps = refl
put_behind g ws outs = refl
put_behind g ws traces = refl

-- what one part gives
abbrev Gives : Part → Kind → List Text → Type 0
Gives p kind vs = (k : Kind) → only kind vs k ≡ given_by k p

plain_gives : (w : Text) → Gives (plain w) words (w ∷ [])
plain_gives w words = refl
plain_gives w steps = refl
plain_gives w outs = refl
plain_gives w traces = refl

steps_next_gives : (v : Text) → Gives (steps_next v) steps (v ∷ [])
steps_next_gives v words = refl
steps_next_gives v steps = refl
steps_next_gives v outs = refl
steps_next_gives v traces = refl

steps_joined_gives : (v : Text) → Gives (steps_joined v) steps (v ∷ [])
steps_joined_gives v words = refl
steps_joined_gives v steps = refl
steps_joined_gives v outs = refl
steps_joined_gives v traces = refl

out_next_gives : (v : Text) → Gives (out_next v) outs (v ∷ [])
out_next_gives v words = refl
out_next_gives v steps = refl
out_next_gives v outs = refl
out_next_gives v traces = refl

out_joined_gives : (r : Text) → Gives (out_joined r) outs (without_equals r ∷ [])
out_joined_gives r words = refl
out_joined_gives r steps = refl
out_joined_gives r outs = refl
out_joined_gives r traces = refl

trace_gives : Gives trace traces (codes "true" ∷ [])
trace_gives words = refl
trace_gives steps = refl
trace_gives outs = refl
trace_gives traces = refl

moved : (g : Given) (p : Part) (kind : Kind) (vs : List Text) → Gives p kind vs → (ps : List Part) (behind : Option (List Text))
    → ◌≡◌ {A = Given} (λ k. put kind vs g k ++ given_in k ps behind) (λ k. g k ++ given_in k (p ∷ ps) behind)
moved g p kind vs h ps behind = same (λ k. append_assoc (g k) (only kind vs k) (given_in k ps behind) ∙ ap (λ x. g k ++ (x ++ given_in k ps behind)) (h k))

-- ---- a line is read

room : (xs : List Text) (v : Text) (ys : List Text) (c : Bool) → length (xs ++ (v ∷ ys)) ≤ most c → (c && is_none xs) ≡ true
room xs v ys false h = absurd (omega (arith, length-append xs (v ∷ ys)))
room [] v ys true h = refl
room (x ∷ xs) v ys true h = absurd (omega (arith, length-append xs (v ∷ ys)))

left_true : (a b : Bool) → (a && b) ≡ true → a ≡ true
left_true true b h = refl
left_true false b h = cc

abbrev WasRead : Options → List Part → Option (List Text) → Given → Type 0
WasRead can ps behind g = Fits can (λ k. g k ++ given_in k ps behind)
    → read can g None (all_written ps (behind_words behind)) ≡ Some (λ k. g k ++ given_in k ps behind)

after_part : (can : Options) (g : Given) (p : Part) (kind : Kind) (vs : List Text) → Gives p kind vs → (ps : List Part) (behind : Option (List Text))
    → WasRead can ps behind (put kind vs g) → Fits can (λ k. g k ++ given_in k (p ∷ ps) behind)
    → read can (put kind vs g) None (all_written ps (behind_words behind)) ≡ Some (λ k. g k ++ given_in k (p ∷ ps) behind)
after_part can g p kind vs h ps behind more fits =
    let e = moved g p kind vs h ps behind in
    more (subst (Fits can) (sym e) fits) ∙ ap Some e

new_is : (can : Options) (g : Given) (k : Kind) (next : Option Given) → (can k && is_none (g k)) ≡ true → if_new can g k next ≡ next
new_is can g k next e = ap (λ b. if b then next else None) e

-- the option's word, and then its value
value_read : (can : Options) (g : Given) (k : Kind) (v : Text) (rest : List Text) → is_plain v ≡ true → (can k && is_none (g k)) ≡ true
    → (if can k then read can g (Some k) (v ∷ rest) else None) ≡ read can (put k (v ∷ []) g) None rest
value_read can g k v rest p new =
    ap (λ b. if b then read can g (Some k) (v ∷ rest) else None) (left_true (can k) (is_none (g k)) new)
    ∙ ap (λ s. read_value can g k s v (λ h j. read can h j rest)) (plain_sort v p)
    ∙ new_is can g k (read can (put k (v ∷ []) g) None rest) new

pub line_read : (can : Options) (ps : List Part) (behind : Option (List Text)) (g : Given) → AreParts ps → WasRead can ps behind g
line_read can [] None g parts fits = ap Some (same (only_by_none g))
line_read can [] (Some ws) g parts fits = ap Some (same (put_behind g ws))
line_read can (plain w ∷ ps) behind g parts fits =
    ap (λ s. read_word can g s w (all_written ps (behind_words behind)) (λ h j. read can h j (all_written ps (behind_words behind)))) (plain_sort w parts.0)
    ∙ after_part can g (plain w) words (w ∷ []) (plain_gives w) ps behind (line_read can ps behind (put words (w ∷ []) g) parts.1) fits
line_read can (steps_next v ∷ ps) behind g parts fits =
    value_read can g steps v (all_written ps (behind_words behind)) parts.0 (room (g steps) v (given_in steps ps behind) (can steps) fits.0)
    ∙ after_part can g (steps_next v) steps (v ∷ []) (steps_next_gives v) ps behind (line_read can ps behind (put steps (v ∷ []) g) parts.1) fits
line_read can (steps_joined v ∷ ps) behind g parts fits =
    new_is can g steps (read can (put steps (v ∷ []) g) None (all_written ps (behind_words behind))) (room (g steps) v (given_in steps ps behind) (can steps) fits.0)
    ∙ after_part can g (steps_joined v) steps (v ∷ []) (steps_joined_gives v) ps behind (line_read can ps behind (put steps (v ∷ []) g) parts.1) fits
line_read can (out_next v ∷ ps) behind g parts fits =
    value_read can g outs v (all_written ps (behind_words behind)) parts.0 (room (g outs) v (given_in outs ps behind) (can outs) fits.1)
    ∙ after_part can g (out_next v) outs (v ∷ []) (out_next_gives v) ps behind (line_read can ps behind (put outs (v ∷ []) g) parts.1) fits
line_read can (out_joined [] ∷ ps) behind g parts fits = absurd (parts.0 refl)
line_read can (out_joined (x ∷ xs) ∷ ps) behind g parts fits =
    let v = without_equals (x ∷ xs) in
    new_is can g outs (read can (put outs (v ∷ []) g) None (all_written ps (behind_words behind))) (room (g outs) v (given_in outs ps behind) (can outs) fits.1)
    ∙ after_part can g (out_joined (x ∷ xs)) outs (v ∷ []) (out_joined_gives (x ∷ xs)) ps behind (line_read can ps behind (put outs (v ∷ []) g) parts.1) fits
line_read can (trace ∷ ps) behind g parts fits =
    let v = codes "true" in
    new_is can g traces (read can (put traces (v ∷ []) g) None (all_written ps (behind_words behind))) (room (g traces) v (given_in traces ps behind) (can traces) fits.2)
    ∙ after_part can g trace traces (v ∷ []) trace_gives ps behind (line_read can ps behind (put traces (v ∷ []) g) parts.1) fits

-- ---- what was read is a line

-- where nothing waits a line; else a value, and then a line
abbrev pub Found : Given → Option Kind → List Text → Given → Type 0
Found g None ws out = (line : Line) × IsLine line ws × (out ≡ (λ k. g k ++ given line k))
Found g (Some kind) ws out = (v : Text) × (rest : List Text) × (is_plain v ≡ true) × (ws ≡ v ∷ rest)
    × ((line : Line) × IsLine line rest × (out ≡ (λ k. put kind (v ∷ []) g k ++ given line k)))

-- one more part before a line
with_part : (g out : Given) (p : Part) (kind : Kind) (vs ws rest : List Text) → Gives p kind vs → IsPart p → ws ≡ written p rest
    → ((line : Line) × IsLine line rest × (out ≡ (λ k. put kind vs g k ++ given line k))) → Found g None ws out
with_part g out p kind vs ws rest h is at f =
    (record { parts = p ∷ f.0.parts; behind = f.0.behind }, ((is, f.1.0), at ∙ ap (written p) f.1.1), f.2 ∙ moved g p kind vs h f.0.parts f.0.behind)

if_some : (b : Bool) (next : Option Given) (out : Given) → (if b then next else None) ≡ Some out → next ≡ Some out
if_some true next out h = h
if_some false next out h = cc

abbrev FindsIn : Options → List Text → Type 0
FindsIn can ws = (g : Given) (waits : Option Kind) (out : Given) → read can g waits ws ≡ Some out → Found g waits ws out

wants_found : (k : Kind) (can : Options) (g out : Given) (w : Text) (ws : List Text) → Spelled (wants k) w → Found g (Some k) ws out → Found g None (w ∷ ws) out
wants_found words can g out w ws sp f = absurd sp
wants_found traces can g out w ws sp f = absurd sp
wants_found steps can g out w ws sp f =
    with_part g out (steps_next f.0) steps (f.0 ∷ []) (w ∷ ws) f.1 (steps_next_gives f.0) f.2 (ap (λ y. y ∷ ws) sp ∙ ap (λ y. codes "--steps" ∷ y) f.3) f.4
wants_found outs can g out w ws sp f =
    with_part g out (out_next f.0) outs (f.0 ∷ []) (w ∷ ws) f.1 (out_next_gives f.0) f.2 (ap (λ y. y ∷ ws) sp ∙ ap (λ y. codes "-o" ∷ y) f.3) f.4

gives_found : (k : Kind) (v : Text) (can : Options) (g out : Given) (w : Text) (ws : List Text) → Spelled (gives k v) w
    → Found (put k (v ∷ []) g) None ws out → Found g None (w ∷ ws) out
gives_found words v can g out w ws sp f = absurd sp
gives_found steps v can g out w ws sp f = with_part g out (steps_joined v) steps (v ∷ []) (w ∷ ws) ws (steps_joined_gives v) tt (ap (λ y. y ∷ ws) sp) f
gives_found outs v can g out w ws sp f =
    with_part g out (out_joined sp.0) outs (v ∷ []) (w ∷ ws) ws (λ k. ap (λ y. only outs (y ∷ []) k) sp.3 ∙ out_joined_gives sp.0 k) sp.1 (ap (λ y. y ∷ ws) sp.2) f
gives_found traces v can g out w ws sp f =
    with_part g out trace traces (v ∷ []) (w ∷ ws) ws (λ k. ap (λ y. only traces (y ∷ []) k) sp.1 ∙ trace_gives k) tt (ap (λ y. y ∷ ws) sp.0) f

word_found : (can : Options) (g out : Given) (s : Sort) (w : Text) (ws : List Text) → Spelled s w → FindsIn can ws
    → read_word can g s w ws (λ h j. read can h j ws) ≡ Some out → Found g None (w ∷ ws) out
word_found can g out plain_word w ws sp more h =
    with_part g out (plain w) words (w ∷ []) (w ∷ ws) ws (plain_gives w) sp refl (more (put words (w ∷ []) g) None out h)
word_found can g out dashes w ws sp more h =
    let e : put words ws g ≡ out = cc in
    (record { parts = []; behind = Some ws }, (tt, ap (λ y. y ∷ ws) sp), sym e ∙ same (put_behind g ws))
word_found can g out (wants k) w ws sp more h = wants_found k can g out w ws sp (more g (Some k) out (if_some (can k) _ out h))
word_found can g out (gives k v) w ws sp more h =
    gives_found k v can g out w ws sp (more (put k (v ∷ []) g) None out (if_some (can k && is_none (g k)) _ out h))
word_found can g out unknown w ws sp more h = cc

value_found : (can : Options) (g out : Given) (k : Kind) (s : Sort) (w : Text) (ws : List Text) → Spelled s w → FindsIn can ws
    → read_value can g k s w (λ h j. read can h j ws) ≡ Some out → Found g (Some k) (w ∷ ws) out
value_found can g out k plain_word w ws sp more h =
    (w, ws, sp, refl, more (put k (w ∷ []) g) None out (if_some (can k && is_none (g k)) _ out h))
value_found can g out k dashes w ws sp more h = cc
value_found can g out k (wants j) w ws sp more h = cc
value_found can g out k (gives j v) w ws sp more h = cc
value_found can g out k unknown w ws sp more h = cc

pub found : (can : Options) (ws : List Text) → FindsIn can ws
found can [] g None out h =
    let e : g ≡ out = cc in
    (record { parts = []; behind = None }, (tt, refl), sym e ∙ same (only_by_none g))
found can [] g (Some k) out h = cc
found can (w ∷ ws) g None out h = word_found can g out (sort_of w) w ws (spelled w) (found can ws) h
found can (w ∷ ws) g (Some k) out h = value_found can g out k (sort_of w) w ws (spelled w) (found can ws) h

-- ---- options stand once, and where there are some

one_more : (xs : List Text) (v : Text) (c : Bool) → (c && is_none xs) ≡ true → length (xs ++ (v ∷ [])) ≤ most c
one_more [] v true h = omega arith
one_more (x ∷ xs) v true h = cc
one_more xs v false h = cc

none_more : (xs : List Text) (c : Bool) → length xs ≤ most c → length (xs ++ []) ≤ most c
none_more xs c h = subst (λ ys. length ys ≤ most c) (sym (append-nil xs)) h

put_fits : (can : Options) (g : Given) (k : Kind) (v : Text) → (can k && is_none (g k)) ≡ true → Fits can g → Fits can (put k (v ∷ []) g)
put_fits can g words v new fits = (none_more (g steps) (can steps) fits.0, none_more (g outs) (can outs) fits.1, none_more (g traces) (can traces) fits.2)
put_fits can g steps v new fits = (one_more (g steps) v (can steps) new, none_more (g outs) (can outs) fits.1, none_more (g traces) (can traces) fits.2)
put_fits can g outs v new fits = (none_more (g steps) (can steps) fits.0, one_more (g outs) v (can outs) new, none_more (g traces) (can traces) fits.2)
put_fits can g traces v new fits = (none_more (g steps) (can steps) fits.0, none_more (g outs) (can outs) fits.1, one_more (g traces) v (can traces) new)

words_fit : (can : Options) (g : Given) (ws : List Text) → Fits can g → Fits can (put words ws g)
words_fit can g ws fits = (none_more (g steps) (can steps) fits.0, none_more (g outs) (can outs) fits.1, none_more (g traces) (can traces) fits.2)

abbrev FitsIn : Options → List Text → Type 0
FitsIn can ws = (g : Given) (waits : Option Kind) (out : Given) → read can g waits ws ≡ Some out → Fits can g → Fits can out

new_fits : (can : Options) (g out : Given) (k : Kind) (v : Text) (ws : List Text) (b : Bool) → (can k && is_none (g k)) ≡ b → FitsIn can ws
    → (if b then read can (put k (v ∷ []) g) None ws else None) ≡ Some out → Fits can g → Fits can out
new_fits can g out k v ws true is more h fits = more (put k (v ∷ []) g) None out h (put_fits can g k v is fits)
new_fits can g out k v ws false is more h fits = cc

next_fits : (can : Options) (g out : Given) (waits : Option Kind) (s : Sort) (w : Text) (ws : List Text) → FitsIn can ws
    → read_next can g waits s w ws (λ h j. read can h j ws) ≡ Some out → Fits can g → Fits can out
next_fits can g out None plain_word w ws more h fits = more (put words (w ∷ []) g) None out h (words_fit can g (w ∷ []) fits)
next_fits can g out None dashes w ws more h fits =
    let e : put words ws g ≡ out = cc in
    subst (Fits can) e (words_fit can g ws fits)
next_fits can g out None (wants k) w ws more h fits = more g (Some k) out (if_some (can k) _ out h) fits
next_fits can g out None (gives k v) w ws more h fits = new_fits can g out k v ws (can k && is_none (g k)) refl more h fits
next_fits can g out None unknown w ws more h fits = cc
next_fits can g out (Some k) plain_word w ws more h fits = new_fits can g out k w ws (can k && is_none (g k)) refl more h fits
next_fits can g out (Some k) dashes w ws more h fits = cc
next_fits can g out (Some k) (wants j) w ws more h fits = cc
next_fits can g out (Some k) (gives j v) w ws more h fits = cc
next_fits can g out (Some k) unknown w ws more h fits = cc

pub read_fits : (can : Options) (ws : List Text) → FitsIn can ws
read_fits can [] g None out h fits =
    let e : g ≡ out = cc in
    subst (Fits can) e fits
read_fits can [] g (Some k) out h fits = cc
read_fits can (w ∷ ws) g waits out h fits = next_fits can g out waits (sort_of w) w ws (read_fits can ws) h fits
