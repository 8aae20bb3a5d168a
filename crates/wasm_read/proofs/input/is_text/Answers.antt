use Rattle.std.proofs.Common.{◌∙◌}
use Rattle.wasm_read.proofs.Texts.{text_is}
use Rattle.wasm_read.proofs.input.is_text.Goals as goal

pub returns : goal.returns
returns c = c.is_ok.ensures.value ∙ text_is _ c.from_utf8.result c.args.bytes.now c.from_utf8.ensures.cases
