use Rattle.std.proofs.Common.{arith}
use Rattle.wasm_read.proofs.Bits.{pow_split, pow_64}
use Rattle.wasm_read.proofs.number.joined.Goals as goal

pub overflow_mul-result : goal.overflow_mul-result
overflow_mul-result c = let p = pow_split c.args.bits (omega arith) in let q = pow_64 c.args.bits c.requires.few in omega arith

pub overflow_add-result : goal.overflow_add-result
overflow_add-result c = let p = pow_split c.args.bits (omega arith) in let q = pow_64 c.args.bits c.requires.few in omega arith

pub returns-clause-fits : goal.returns-clause-fits
returns-clause-fits c = let p = pow_split c.args.bits (omega arith) in let q = pow_64 c.args.bits c.requires.few in omega arith
