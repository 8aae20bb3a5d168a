-- What an answer of the reader says of the modules that the bytes spell.
use Rattle.std.proofs.Common.{ℕ, List, Result, Ok, Err, sym, ◌∙◌}
use Rattle.std.specs.Prelude.{IfOk}
use Rattle.wasm_form.specs.declared.module.Module.{Module}
use Rattle.wasm_form.specs.Bytes.{ModuleBytes}
use Rattle.wasm_form.specs.Shortest.{Shortest}
use Rattle.wasm_form.specs.Within.{IsWithin}
use Rattle.wasm_form.proofs.ShortestLaws.{shortest_spells}
use Rattle.wasm_form.proofs.WithinLaws.{module_within}
use Rattle.wasm_read.specs.Laws.{SpellOne, ShortestIsLeast, ShortestSpells, SpelledIsWithin}
use Rattle.wasm_read.specs.declared.fault.ReadError.{ReadError}
use Rattle.wasm_read.specs.declared.fault.ReadError.TheVariants as error
use Rattle.wasm_read.specs.Answers.{Answers, ReadsEach}
use Rattle.wasm_read.specs.Sections.{module_at}
use Rattle.wasm_read.proofs.Leads.{ok_is}
use Rattle.wasm_read.proofs.ModuleLaws.{module_found, module_only}

module _ (bytes : List ℕ) where
  pub answer_found : (answer : Result Module ReadError) → Answers bytes answer (module_at bytes) → IfOk answer (λ m. ModuleBytes bytes m)
  answer_found (Ok m) h = module_found bytes m h
  answer_found (Err e) h = tt

  pub answer_within : (answer : Result Module ReadError) → Answers bytes answer (module_at bytes) → IfOk answer (λ m. IsWithin m)
  answer_within (Ok m) h = module_within bytes m (module_found bytes m h)
  answer_within (Err e) h = tt

  pub answer_only : (answer : Result Module ReadError) → Answers bytes answer (module_at bytes) → ReadsEach bytes answer
  answer_only (Ok n) h m spelled = ok_is n m (sym h ∙ module_only bytes m spelled)
  answer_only (Err error.Memory) h m spelled = tt
  answer_only (Err (error.NotModule at)) h m spelled = let both = sym h.0 ∙ module_only bytes m spelled in absurd cc
  answer_only (Err (error.OutsideProfile at what)) h m spelled = let both = sym h.0 ∙ module_only bytes m spelled in absurd cc
  answer_only (Err (error.Limit which)) h m spelled = let both = sym h ∙ module_only bytes m spelled in absurd cc
  answer_only (Err error.NoMain) h m spelled = let both = sym h ∙ module_only bytes m spelled in absurd cc

pub shortest_law : ShortestSpells
shortest_law m h =
    let short = (shortest_spells m h.0 h.1 h.2).0 in
    (short, λ n other. ok_is n m (sym (module_only (Shortest m) n other) ∙ module_only (Shortest m) m short))

pub within_law : SpelledIsWithin
within_law m h = module_within h.0 m h.2

pub one_law : SpellOne
one_law bytes m n h k = ok_is m n (sym (module_only bytes m h) ∙ module_only bytes n k)

pub least_law : ShortestIsLeast
least_law m bytes b h = (shortest_spells m bytes b h).1
