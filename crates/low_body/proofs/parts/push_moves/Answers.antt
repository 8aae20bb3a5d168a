use Rattle.std.proofs.Common.{◌≡◌, List, ◌++◌, ◌∷◌, ◌<◌, ◌+◌, ◌-◌, sym, ap, ◌∙◌, arith}
use Rattle.wasm_form.specs.declared.instr.Instr.{Instr}
use Rattle.wasm_form.specs.declared.instr.Instr.TheVariants as i
use Rattle.low_laws.specs.Lower.{moves_code}
use Rattle.low_laws.specs.declared.places.TheConstants.{FROM, TO}
use Rattle.low_body.proofs.Pieces.{four_more, next_move}
use Rattle.low_body.proofs.parts.push_moves.Goals as goal

pub loop-word-preserved : goal.loop-word-preserved
loop-word-preserved c =
    let n = c.loop-word.word in
    let done : List Instr = c.loop-word.code.items in
    let lt : n < c.args.count = c.loop-word-test.true in
    let rest : List Instr = moves_code (c.args.count - (n + 1)) (c.args.from + (n + 1)) (c.args.to + (n + 1)) in
    let first : moves_code (c.args.count - n) (c.args.from + n) (c.args.to + n) ≡ i.LocalGet TO ∷ i.LocalGet FROM ∷ i.I64Load c.access.result ∷ i.I64Store c.access-in-loop-word.result ∷ rest
    = rw (c.access.ensures, c.access-in-loop-word.ensures) (next_move n c.args.count c.args.from c.args.to lt) in (
      four_more done c.push.new.self.items c.push-in-loop-word.new.self.items c.push-in-loop-word-2.new.self.items c.push-in-loop-word-3.new.self.items rest (i.LocalGet TO) (i.LocalGet FROM) (i.I64Load c.access.result) (i.I64Store c.access-in-loop-word.result) c.in_ok-push.ensures.items c.in_ok-push-2.ensures.items c.in_ok-push-3.ensures.items c.in_ok-push-4.ensures.items
          ∙ ap (λ (xs : List Instr). done ++ xs) (sym first) ∙ c.loop-word.invariant.0,
      omega (arith, lt),
    )
