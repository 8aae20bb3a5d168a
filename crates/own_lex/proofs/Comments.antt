-- Comments, as the loop reads them.
use Rattle.std.proofs.Common.{◌≡◌, ℕ, zero, suc, ◌+◌, ◌-◌, ◌≤◌, ◌<◌, Bool, true, false, ◌&&◌, ◌||◌, [], ◌∷◌, length, Some, None, ◌⊎◌, inl, inr, refl, sym, ap, ◌∙◌, arith}
use Rattle.own_tree.specs.Characters.{Text, is_line_end, opens_comment, closes_comment, after, is_over, first_is}
use Rattle.own_lex.specs.Reading.{comment_end}

-- what the loop keeps
pub record CommentOn (text : Text) (outer : ℕ) (line : Bool) (rest : Text) : Type 0 where
  pub whole : comment_end outer line rest ≡ comment_end 0 false text
  pub within : outer + length rest ≤ length text

pub step_close : (n : ℕ) (line : Bool) (c d : ℕ) (cs : Text) → closes_comment (c ∷ d ∷ cs) ≡ true → 0 < n → comment_end n line (c ∷ d ∷ cs) ≡ comment_end (n - 1) line cs
unfolding comment_end
step_close zero line c d cs e lt = absurd (omega arith)
step_close (suc n) line c d cs e lt = let one : suc n - 1 ≡ n = omega arith in rw (e, one) refl

pub step_end : (line : Bool) (c d : ℕ) (cs : Text) → closes_comment (c ∷ d ∷ cs) ≡ true → comment_end 0 line (c ∷ d ∷ cs) ≡ Some (line, cs)
unfolding comment_end
step_end line c d cs e = rw e refl

pub step_open : (n : ℕ) (line : Bool) (c d : ℕ) (cs : Text) → closes_comment (c ∷ d ∷ cs) ≡ false → opens_comment (c ∷ d ∷ cs) ≡ true → comment_end n line (c ∷ d ∷ cs) ≡ comment_end (n + 1) line cs
unfolding comment_end
step_open zero line c d cs e o = rw (e, o) refl
step_open (suc n) line c d cs e o = let one : suc n + 1 ≡ suc (suc n) = omega arith in rw (e, o, one) refl

pub step_pass : (n : ℕ) (line : Bool) (c d : ℕ) (cs : Text) → closes_comment (c ∷ d ∷ cs) ≡ false → opens_comment (c ∷ d ∷ cs) ≡ false → comment_end n line (c ∷ d ∷ cs) ≡ comment_end n (line || is_line_end c) (d ∷ cs)
unfolding comment_end
step_pass zero line c d cs e o = rw (e, o) refl
step_pass (suc n) line c d cs e o = rw (e, o) refl

pub step_none : (n : ℕ) (line : Bool) (c : ℕ) → comment_end n line (c ∷ []) ≡ None
unfolding comment_end
step_none zero line c = refl
step_none (suc n) line c = refl

pub step_empty : (n : ℕ) (line : Bool) → comment_end n line [] ≡ None
unfolding comment_end
step_empty zero line = refl
step_empty (suc n) line = refl

-- ---- the loop

and_no : (b : Bool) → (b && false) ≡ false
and_no true = refl
and_no false = refl

-- no two characters begin at the last one
alone_closes : (c : ℕ) → closes_comment (c ∷ []) ≡ false
alone_closes c = and_no _

alone_opens : (c : ℕ) → opens_comment (c ∷ []) ≡ false
alone_opens c = and_no _

tell : {b : Bool} → b ≡ true → b ≡ false → ⊥
tell e f = absurd cc

close_at : (n : ℕ) (line : Bool) (cs : Text) → closes_comment cs ≡ true → 0 < n → comment_end n line cs ≡ comment_end (n - 1) line (after (after cs))
close_at n line [] e lt = absurd cc
close_at n line (c ∷ []) e lt = absurd (tell e (alone_closes c))
close_at n line (c ∷ d ∷ cs) e lt = step_close n line c d cs e lt

end_at : (line : Bool) (cs : Text) → closes_comment cs ≡ true → comment_end 0 line cs ≡ Some (line, after (after cs))
end_at line [] e = absurd cc
end_at line (c ∷ []) e = absurd (tell e (alone_closes c))
end_at line (c ∷ d ∷ cs) e = step_end line c d cs e

open_at : (n : ℕ) (line : Bool) (cs : Text) → closes_comment cs ≡ false → opens_comment cs ≡ true → comment_end n line cs ≡ comment_end (n + 1) line (after (after cs))
open_at n line [] e o = absurd cc
open_at n line (c ∷ []) e o = absurd (tell o (alone_opens c))
open_at n line (c ∷ d ∷ cs) e o = step_open n line c d cs e o

pass_at : (n : ℕ) (line : Bool) (cs : Text) → closes_comment cs ≡ false → opens_comment cs ≡ false → is_over cs ≡ false → comment_end n line cs ≡ comment_end n (line || first_is is_line_end cs) (after cs)
pass_at n line [] e o over = absurd cc
pass_at n line (c ∷ []) e o over = step_none n line c ∙ sym (step_empty n (line || is_line_end c))
pass_at n line (c ∷ d ∷ cs) e o over = step_pass n line c d cs e o

two : (cs : Text) → (closes_comment cs ≡ true) ⊎ (opens_comment cs ≡ true) → length (after (after cs)) + 2 ≡ length cs
two [] (inl e) = absurd cc
two [] (inr e) = absurd cc
two (c ∷ []) (inl e) = absurd (tell e (alone_closes c))
two (c ∷ []) (inr e) = absurd (tell e (alone_opens c))
two (c ∷ d ∷ cs) e = omega arith

one : (cs : Text) → is_over cs ≡ false → length (after cs) + 1 ≡ length cs
one [] e = absurd cc
one (c ∷ cs) e = omega arith

pub on_close : (text : Text) (n : ℕ) (line : Bool) (cs : Text) → closes_comment cs ≡ true → 0 < n → CommentOn text n line cs → CommentOn text (n - 1) line (after (after cs))
on_close text n line cs e lt on = let t = two cs (inl e) in let w = on.within in record { whole = sym (close_at n line cs e lt) ∙ on.whole; within = omega arith }

pub on_open : (text : Text) (n : ℕ) (line : Bool) (cs : Text) → closes_comment cs ≡ false → opens_comment cs ≡ true → CommentOn text n line cs → CommentOn text (n + 1) line (after (after cs))
on_open text n line cs e o on = let t = two cs (inr o) in let w = on.within in record { whole = sym (open_at n line cs e o) ∙ on.whole; within = omega arith }

pub on_pass : (text : Text) (n : ℕ) (line : Bool) (cs : Text) → closes_comment cs ≡ false → opens_comment cs ≡ false → is_over cs ≡ false → CommentOn text n line cs → CommentOn text n (line || first_is is_line_end cs) (after cs)
on_pass text n line cs e o over on = let t = one cs over in let w = on.within in record { whole = sym (pass_at n line cs e o over) ∙ on.whole; within = omega arith }

pub on_end : (text : Text) (n : ℕ) (line : Bool) (cs : Text) → closes_comment cs ≡ true → n ≡ 0 → CommentOn text n line cs → Some (line, after (after cs)) ≡ comment_end 0 false text
on_end text n line cs e zero_ on = sym (end_at line cs e) ∙ ap (λ (k : ℕ). comment_end k line cs) (sym zero_) ∙ on.whole

pub on_none : (text : Text) (n : ℕ) (line : Bool) (cs : Text) → is_over cs ≡ true → CommentOn text n line cs → None ≡ comment_end 0 false text
on_none text n line [] over on = sym (step_empty n line) ∙ on.whole
on_none text n line (c ∷ cs) over on = absurd cc
