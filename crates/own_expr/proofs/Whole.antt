-- What a reading of a block says of the trees that stand there.
use Rattle.std.proofs.Common.{◌≡◌, ℕ, ◌+◌, ◌-◌, ◌≤◌, ◌<◌, ◌⊎◌, length, drop, length-drop, Ok, Err, inl, refl, ap, arith}
use Rattle.own_tree.specs.declared.limits.TheConstants.{MOST_NESTING}
use Rattle.own_tree.specs.Source.{Blk, block}
use Rattle.own_grammar.specs.Tests.{Toks}
use Rattle.own_grammar.specs.declared.limits.TheConstants.{MOST_PATTERN_LEVELS}
use Rattle.own_grammar.specs.Nesting.{nest_blk}
use Rattle.own_grammar.specs.Levels.{levels_blk, levels_pb}
use Rattle.own_grammar.specs.Spells.{SpellsB}
use Rattle.own_grammar.specs.Partial.{PBlk, gone_block, PartB, nest_pb}
use Rattle.own_grammar.specs.Reading.{Fault, Syntax, Depth, Read, body}
use Rattle.own_grammar.proofs.Within.{within, within_both, over_one}
use Rattle.own_grammar.proofs.Laws.{block_again, block_found, block_syntax, one_block}
use Rattle.own_grammar.proofs.Deep.{block_depth}
use Rattle.own_expr.specs.Reads.{reader}
use Rattle.own_expr.proofs.Tails.{tail_b, part_b, at_place, tail_le}

some : 0 < MOST_PATTERN_LEVELS
some = omega arith

module _ (tokens : Toks) (from d : ℕ) where
  -- what was read, and where it ends
  pub record Stands (b : Blk) (next : ℕ) : Type 0 where
    pub spelled : SpellsB b (drop from tokens) (drop next tokens)
    pub fits : d + nest_blk b ≤ MOST_NESTING
    pub patterns : levels_blk b ≤ MOST_PATTERN_LEVELS
    pub only : (c : Blk) (to : Toks) → SpellsB c (drop from tokens) to → (c ≡ b) × (to ≡ drop next tokens)

  pub stands : (b : Blk) (more : Toks) → reader body d (drop from tokens) ≡ Ok (b, more) → Stands b (length tokens - length more)
  stands b more e =
      let f = block_found MOST_NESTING MOST_PATTERN_LEVELS some d (drop from tokens) (b, more) e in
      let p : more ≡ drop (length tokens - length more) tokens = at_place tokens from more (tail_b b (drop from tokens) more f.0) in
      record {
        spelled = rw (← p) f.0;
        fits = (within_both MOST_NESTING MOST_PATTERN_LEVELS d (nest_blk b) (levels_blk b) f.1).0;
        patterns = (within_both MOST_NESTING MOST_PATTERN_LEVELS d (nest_blk b) (levels_blk b) f.1).1;
        only = λ c to sp. rw (← p) (one_block c b (drop from tokens) to more sp f.0);
      }

  ok_is : (x y : Blk × Toks) (r : Read Blk) → r ≡ Ok x → r ≡ Ok y → x.0 ≡ y.0
  ok_is x y r e f = ap (λ (z : Blk × Toks). z.0) equal
    where
      equal : x ≡ y
      equal = cc

  pub again : (b c : Blk) (more to : Toks) → reader body d (drop from tokens) ≡ Ok (b, more) → SpellsB c (drop from tokens) to → d + nest_blk c ≤ MOST_NESTING → levels_blk c ≤ MOST_PATTERN_LEVELS → b ≡ c
  again b c more to e sp fit few = ok_is (b, more) (c, to) _ e (block_again MOST_NESTING MOST_PATTERN_LEVELS some d c (drop from tokens) to sp (within MOST_NESTING MOST_PATTERN_LEVELS d (nest_blk c) (levels_blk c) fit few))

  no_err : (x : Blk × Toks) (f : Fault) (r : Read Blk) → r ≡ Ok x → r ≡ Err f → ⊥
  no_err x f r e g = absurd cc

  pub not_refused : (c : Blk) (to : Toks) (f : Fault) → reader body d (drop from tokens) ≡ Err f → SpellsB c (drop from tokens) to → d + nest_blk c ≤ MOST_NESTING → levels_blk c ≤ MOST_PATTERN_LEVELS → ⊥
  not_refused c to f e sp fit few = no_err (c, to) f _ (block_again MOST_NESTING MOST_PATTERN_LEVELS some d c (drop from tokens) to sp (within MOST_NESTING MOST_PATTERN_LEVELS d (nest_blk c) (levels_blk c) fit few)) e

  placed : (p : PBlk) (at_ : Toks) (n : ℕ) → length at_ ≡ n → at_ ≡ drop (length tokens - length at_) tokens → PartB p (drop from tokens) at_ → PartB p (drop from tokens) (drop (length tokens - n) tokens)
  placed p at_ n len is part = rw (← len, ← is) part

  pub too_deep : (n : ℕ) → from ≤ length tokens → reader body d (drop from tokens) ≡ Err (Depth n) → ((p : PBlk) × PartB p (drop from tokens) (drop (length tokens - n) tokens) × ((MOST_NESTING < d + nest_pb p) ⊎ (MOST_PATTERN_LEVELS < levels_pb p))) × (from ≤ length tokens - n)
  too_deep n within e =
      let b = block_depth MOST_NESTING MOST_PATTERN_LEVELS some d (drop from tokens) n e in
      let p = part_b b.0 (drop from tokens) b.1 b.3 in
      let is : b.1 ≡ drop (length tokens - length b.1) tokens = at_place tokens from b.1 p in
      let le = tail_le (drop from tokens) b.1 p in
      let len = length-drop from tokens in
      ((b.0, placed b.0 b.1 n b.2 is b.3, over_one MOST_NESTING MOST_PATTERN_LEVELS d (nest_pb b.0) (levels_pb b.0) b.4), (omega (arith, b.2, le, len)))

  some_node : (b : Blk) → 0 < nest_blk b
  some_node (block s ss) = omega arith

  -- where no level is left, no block is within the limit, and one that lacks all its parts is over it
  pub no_level : MOST_NESTING ≤ d → (b : Blk) → d + nest_blk b ≤ MOST_NESTING → ⊥
  no_level full b fit = let node = some_node b in omega (arith, full, fit, node)

  pub all_deep : MOST_NESTING ≤ d → (p : PBlk) × PartB p (drop from tokens) (drop from tokens) × ((MOST_NESTING < d + nest_pb p) ⊎ (MOST_PATTERN_LEVELS < levels_pb p))
  all_deep full = (gone_block, refl, inl (omega (arith, full)))

  pub no_block : (n : ℕ) → reader body d (drop from tokens) ≡ Err (Syntax n) → (b : Blk) (to : Toks) → SpellsB b (drop from tokens) to → ⊥
  no_block n e = block_syntax MOST_NESTING MOST_PATTERN_LEVELS some d n (drop from tokens) e
