use Rattle.wasm_read.proofs.AnswerLaws.{answer_found, answer_only, answer_within}
use Rattle.wasm_read.proofs.module.read_module.Goals as goal

pub returns-clause-found : goal.returns-clause-found
returns-clause-found c = answer_found c.args.bytes.now c.answer_of.result c.answer_of.ensures

pub returns-clause-only : goal.returns-clause-only
returns-clause-only c = answer_only c.args.bytes.now c.answer_of.result c.answer_of.ensures

pub returns-clause-within : goal.returns-clause-within
returns-clause-within c = answer_within c.args.bytes.now c.answer_of.result c.answer_of.ensures
