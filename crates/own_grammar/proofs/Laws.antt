-- What reading a block says of the trees that spell it.
use Rattle.std.proofs.Common.{◌≡◌, ℕ, suc, ◌+◌, ◌≤◌, ◌<◌, max, Ok, Err, refl, ap, ◌∙◌, arith}
use Rattle.own_tree.specs.Source.{Blk}
use Rattle.own_grammar.specs.Tests.{Toks}
use Rattle.own_grammar.specs.Nesting.{nest_blk}
use Rattle.own_grammar.specs.Levels.{levels_blk}
use Rattle.own_grammar.specs.Spells.{SpellsB}
use Rattle.own_grammar.specs.Reading.{Syntax, Depth, Read, body, read}
use Rattle.own_grammar.proofs.Within.{over}
use Rattle.own_grammar.proofs.Steps.{Near, same, deep}
use Rattle.own_grammar.proofs.Complete.{blocks}
use Rattle.own_grammar.proofs.Sound.{sound}
use Rattle.own_grammar.proofs.Same.{read_is, limit_same}

module _ (most levels : ℕ) (some : 0 < levels) (d : ℕ) where
  -- A block that is spelled within the limits is read.
  pub block_again : (b : Blk) (from to : Toks) → SpellsB b from to → over most levels d (nest_blk b) (levels_blk b) ≤ 0 → read most levels body d from ≡ Ok (b, to)
  block_again b from to sp fit = blocks most levels (read most levels) (read_is most levels some) b d from to sp fit

  -- A block that is read is spelled, and within the limits.
  pub block_found : (from : Toks) (x : Blk × Toks) → read most levels body d from ≡ Ok x → SpellsB x.0 from x.1 × (over most levels d (nest_blk x.0) (levels_blk x.0) ≤ 0)
  block_found from x e = sound most levels some body d from x e

ok_both : (x y : Blk × Toks) (r : Read Blk) → r ≡ Ok x → r ≡ Ok y → x ≡ y
ok_both x y r e f = cc

-- At most one block stands at a token, and it has one end.
pub one_block : (b c : Blk) (from to last : Toks) → SpellsB b from to → SpellsB c from last → (b ≡ c) × (to ≡ last)
one_block b c from to last spb spc =
    let most = max (nest_blk b) (nest_blk c) in
    let levels = suc (max (levels_blk b) (levels_blk c)) in
    let both = ok_both (b, to) (c, last) (read most levels body 0 from) (block_again most levels (omega arith) 0 b from to spb (omega arith)) (block_again most levels (omega arith) 0 c from last spc (omega arith)) in
    (ap (λ (x : Blk × Toks). x.0) both, ap (λ (x : Blk × Toks). x.1) both)

no_syntax : (r r' : Read Blk) (x : Blk × Toks) (n : ℕ) → Near (Unit {0}) r r' → r' ≡ Ok x → r ≡ Err (Syntax n) → ⊥
no_syntax r r' x n (same q) e f = absurd cc
no_syntax r r' x n (deep l m q) e f = absurd cc

module _ (most levels : ℕ) (some : 0 < levels) (d : ℕ) where
  -- limits within which a block is
  abbrev wide : Blk → ℕ
  wide b = max most (d + nest_blk b)

  abbrev many : Blk → ℕ
  many b = max levels (levels_blk b)

  again : (b : Blk) (from to : Toks) → SpellsB b from to → read (wide b) (many b) body d from ≡ Ok (b, to)
  again b from to sp = block_again (wide b) (many b) (omega (arith, some)) d b from to sp (omega arith)

  -- Where one is spelled that is over the limits, reading says so.
  pub block_deep : (b : Blk) (from to : Toks) → SpellsB b from to → 0 < over most levels d (nest_blk b) (levels_blk b) → (n : ℕ) × (read most levels body d from ≡ Err (Depth n))
  block_deep b from to sp high =
      by (read most levels body d from) refl (limit_same most (wide b) levels (many b) some (omega arith) (omega arith) body d from)
    where
      by : (r : Read Blk) → read most levels body d from ≡ r → Near (Unit {0}) (read most levels body d from) (read (wide b) (many b) body d from) → (n : ℕ) × (read most levels body d from ≡ Err (Depth n))
      by r e (deep l n q) = (n, q)
      by r e (same q) = absurd (let f = block_found most levels some d from (b, to) (q ∙ again b from to sp) in omega (arith, f.1, high))

  -- Syntax comes only where no tree spells the tokens.
  pub block_syntax : (n : ℕ) (from : Toks) → read most levels body d from ≡ Err (Syntax n) → (b : Blk) (to : Toks) → SpellsB b from to → ⊥
  block_syntax n from e b to sp =
      no_syntax (read most levels body d from) (read (wide b) (many b) body d from) (b, to) n (limit_same most (wide b) levels (many b) some (omega arith) (omega arith) body d from) (again b from to sp) e
