use Rattle.std.proofs.Common.{add-one}
use Rattle.wasm_read.specs.Codes.{plain_by}
use Rattle.wasm_read.proofs.Leads.{plain_leads, gives_leads}
use Rattle.wasm_read.proofs.code.plain_of.Goals as goal

pub returns-clause-within : goal.returns-clause-within
returns-clause-within c = rw add-one (gives_leads (λ x. (x.0, x.1.now)) _ c.plain.result (plain_by c.args.opcode c.args.rest.now) (plain_leads c.args.opcode c.args.rest.now) c.plain.ensures)
