use Rattle.wasm_read.proofs.AnswerLaws.{one_law, shortest_law, least_law, within_law}
use Rattle.wasm_read.proofs.laws.spelling_law.Goals as goal

pub returns-clause-one : goal.returns-clause-one
returns-clause-one c = one_law

pub returns-clause-shortest : goal.returns-clause-shortest
returns-clause-shortest c = shortest_law

pub returns-clause-least : goal.returns-clause-least
returns-clause-least c = least_law

pub returns-clause-within : goal.returns-clause-within
returns-clause-within c = within_law
