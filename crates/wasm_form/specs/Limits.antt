-- The limits of a module and of a run, and the codes of traps, as numbers: what the constants of the code and of the
-- definitions stand for.
use Rattle.std.specs.Prelude.{◌≡◌}
use Rattle.wasm_form.specs.declared.limits.TheConstants.{MOST_TYPES, MOST_FUNCTIONS, MOST_GLOBALS, MOST_EXPORTS, MOST_PARAMETERS, MOST_LOCALS, MOST_LABELS, MOST_TARGETS, MOST_TABLE, MOST_PAGES, PAGE, MOST_FRAMES, MOST_OPERANDS}
use Rattle.wasm_form.specs.declared.traps.TheConstants.{TOO_MANY_FRAMES, UNREACHABLE, PAST_MEMORY, DIVISION_BY_ZERO, DIVISION_OVERFLOW, PAST_TABLE, EMPTY_ELEMENT, OTHER_TYPE, TOO_MANY_OPERANDS, STUCK}

pub record LimitsAreThese : Type 0 where
  pub types : MOST_TYPES ≡ 10000
  pub functions : MOST_FUNCTIONS ≡ 10000
  pub globals : MOST_GLOBALS ≡ 100
  pub exports : MOST_EXPORTS ≡ 10000
  pub parameters : MOST_PARAMETERS ≡ 64
  pub locals : MOST_LOCALS ≡ 4400
  pub labels : MOST_LABELS ≡ 1024
  pub targets : MOST_TARGETS ≡ 4096
  pub table : MOST_TABLE ≡ 16384
  pub pages : MOST_PAGES ≡ 272
  pub page : PAGE ≡ 65536
  pub frames : MOST_FRAMES ≡ 1001
  pub operands : MOST_OPERANDS ≡ 1048576

pub record TrapCodesAreThese : Type 0 where
  pub too_many_frames : TOO_MANY_FRAMES ≡ 3
  pub unreachable : UNREACHABLE ≡ 10
  pub past_memory : PAST_MEMORY ≡ 11
  pub division_by_zero : DIVISION_BY_ZERO ≡ 12
  pub division_overflow : DIVISION_OVERFLOW ≡ 13
  pub past_table : PAST_TABLE ≡ 14
  pub empty_element : EMPTY_ELEMENT ≡ 15
  pub other_type : OTHER_TYPE ≡ 16
  pub too_many_operands : TOO_MANY_OPERANDS ≡ 17
  pub stuck : STUCK ≡ 18
