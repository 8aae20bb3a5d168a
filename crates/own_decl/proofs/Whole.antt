-- What a reading of a file says of the trees that spell it.
use Rattle.std.proofs.Common.{◌≡◌, ℕ, ◌-◌, ◌≤◌, ◌<◌, ◌⊎◌, length, drop, Result, Ok, Err, inl, inr, arith}
use Rattle.own_tree.specs.declared.limits.TheConstants.{MOST_NESTING}
use Rattle.own_grammar.specs.declared.limits.TheConstants.{MOST_PATTERN_LEVELS}
use Rattle.own_tree.specs.Source.{File}
use Rattle.own_grammar.specs.Tests.{Toks}
use Rattle.own_grammar.specs.Declarations.{Spells, nest_file, levels_file}
use Rattle.own_grammar.specs.PartialFile.{PFile, Part, nest_pf, levels_pf}
use Rattle.own_grammar.specs.Reading.{Fault, Syntax, Depth}
use Rattle.own_grammar.specs.ReadingFile.{read_file}
use Rattle.own_grammar.proofs.FileLaws.{file_again, file_found, file_depth, file_syntax, one_file}
use Rattle.own_decl.proofs.FileTails.{file_place}

some : 0 < MOST_PATTERN_LEVELS
some = omega arith

module _ (tokens : Toks) where
  pub record Stands (f : File) : Type 0 where
    pub spelled : Spells f tokens
    pub fits : nest_file f ≤ MOST_NESTING
    pub patterns : levels_file f ≤ MOST_PATTERN_LEVELS
    pub only : (g : File) → Spells g tokens → g ≡ f

  pub stands : (f : File) → read_file MOST_NESTING MOST_PATTERN_LEVELS tokens ≡ Ok f → Stands f
  stands f e =
      let found = file_found MOST_NESTING MOST_PATTERN_LEVELS some tokens f e in
      record { spelled = found.0; fits = found.1; patterns = found.2; only = λ g sp. one_file g f tokens sp found.0 }

  no_err : (f : File) (w : Fault) (r : Result File Fault) → r ≡ Ok f → r ≡ Err w → ⊥
  no_err f w r e g = absurd cc

  pub not_refused : (f : File) (w : Fault) → read_file MOST_NESTING MOST_PATTERN_LEVELS tokens ≡ Err w → Spells f tokens → nest_file f ≤ MOST_NESTING → levels_file f ≤ MOST_PATTERN_LEVELS → ⊥
  not_refused f w e sp fit few = no_err f w _ (file_again MOST_NESTING MOST_PATTERN_LEVELS some f tokens sp fit few) e

  pub breaks : (n : ℕ) → read_file MOST_NESTING MOST_PATTERN_LEVELS tokens ≡ Err (Depth n) → (p : PFile) × Part p tokens (drop (length tokens - n) tokens) × ((MOST_NESTING < nest_pf p) ⊎ (MOST_PATTERN_LEVELS < levels_pf p))
  breaks n e =
      let d = file_depth MOST_NESTING MOST_PATTERN_LEVELS some tokens n e in
      (d.0, file_place d.0 tokens d.1 n d.2 d.3, d.4)

  pub no_file : (n : ℕ) → read_file MOST_NESTING MOST_PATTERN_LEVELS tokens ≡ Err (Syntax n) → (f : File) → Spells f tokens → ⊥
  no_file n e = file_syntax MOST_NESTING MOST_PATTERN_LEVELS some n tokens e

  -- a tree that is too deep is no tree that was read
  pub too_deep : (f g : File) → read_file MOST_NESTING MOST_PATTERN_LEVELS tokens ≡ Ok g → Spells f tokens → (MOST_NESTING < nest_file f) ⊎ (MOST_PATTERN_LEVELS < levels_file f) → ⊥
  too_deep f g e sp deep =
      let s = stands g e in
      let fit : nest_file f ≤ MOST_NESTING = rw (s.only f sp) s.fits in
      let few : levels_file f ≤ MOST_PATTERN_LEVELS = rw (s.only f sp) s.patterns in
      elim deep [ inl y ↦ omega (arith, fit, y) | inr y ↦ omega (arith, few, y) ]
