-- What a machine begins with.
use Rattle.std.specs.Prelude.{ℤ, List}
use Rattle.wasm_form.specs.declared.module.Module.{Module}

pub record Start : Type 0 where
  pub program : Module
  pub input : List ℤ
