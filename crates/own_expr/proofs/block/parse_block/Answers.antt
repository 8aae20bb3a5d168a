use Rattle.std.proofs.Common.{arith}
use Rattle.own_tree.specs.View.{block_view}
use Rattle.own_grammar.specs.Reading.{Syntax, Depth}
use Rattle.own_expr.proofs.Whole.{stands, again, not_refused, no_block, no_level, all_deep, too_deep}
use Rattle.own_expr.proofs.block.parse_block.Goals as goal

pub returns-then-depth-ge-MOST_NESTING-clause-only : goal.returns-then-depth-ge-MOST_NESTING-clause-only
returns-then-depth-ge-MOST_NESTING-clause-only c = λ b to sp fit few. no_level c.args.tokens.now c.args.from c.args.depth (omega (arith, c.if-depth-ge-MOST_NESTING.true)) b fit

pub returns-then-depth-ge-MOST_NESTING-clause-deep : goal.returns-then-depth-ge-MOST_NESTING-clause-deep
returns-then-depth-ge-MOST_NESTING-clause-deep c = all_deep c.args.tokens.now c.args.from c.args.depth (omega (arith, c.if-depth-ge-MOST_NESTING.true))

pub returns-in-Ok-clause-patterns : goal.returns-in-Ok-clause-patterns
returns-in-Ok-clause-patterns c = (stands c.args.tokens.now c.args.from c.args.depth (block_view c.in-Ok.block) c.in-Ok.more.now (rw c.tokens_from-rest.ensures at c.in-Ok.ensures.gives)).patterns

pub returns-in-Ok-clause-found : goal.returns-in-Ok-clause-found
returns-in-Ok-clause-found c = rw c.place-next.ensures (stands c.args.tokens.now c.args.from c.args.depth (block_view c.in-Ok.block) c.in-Ok.more.now (rw c.tokens_from-rest.ensures at c.in-Ok.ensures.gives)).spelled

pub returns-in-Ok-clause-one : goal.returns-in-Ok-clause-one
returns-in-Ok-clause-one c = rw c.place-next.ensures (stands c.args.tokens.now c.args.from c.args.depth (block_view c.in-Ok.block) c.in-Ok.more.now (rw c.tokens_from-rest.ensures at c.in-Ok.ensures.gives)).only

pub returns-in-Ok-clause-only : goal.returns-in-Ok-clause-only
returns-in-Ok-clause-only c = λ b to sp fit few. again c.args.tokens.now c.args.from c.args.depth (block_view c.in-Ok.block) b c.in-Ok.more.now to (rw c.tokens_from-rest.ensures at c.in-Ok.ensures.gives) sp fit few

pub returns-in-Err-Syntax-clause-only : goal.returns-in-Err-Syntax-clause-only
returns-in-Err-Syntax-clause-only c =
    let e = rw (c.in-Err-Syntax.field-0-is, c.tokens_from-rest.ensures) at c.in-Err-Syntax.ensures.gives in
    λ b to sp fit few. not_refused c.args.tokens.now c.args.from c.args.depth b to (Syntax c.in-Err-Syntax.left) e sp fit few

pub returns-in-Err-Syntax-clause-syntax : goal.returns-in-Err-Syntax-clause-syntax
returns-in-Err-Syntax-clause-syntax c =
    let e = rw (c.in-Err-Syntax.field-0-is, c.tokens_from-rest.ensures) at c.in-Err-Syntax.ensures.gives in
    no_block c.args.tokens.now c.args.from c.args.depth c.in-Err-Syntax.left e

pub returns-in-Err-Depth-clause-only : goal.returns-in-Err-Depth-clause-only
returns-in-Err-Depth-clause-only c =
    let e = rw (c.in-Err-Depth.field-0-is, c.tokens_from-rest.ensures) at c.in-Err-Depth.ensures.gives in
    λ b to sp fit few. not_refused c.args.tokens.now c.args.from c.args.depth b to (Depth c.in-Err-Depth.left) e sp fit few

pub returns-in-Err-Depth-clause-deep : goal.returns-in-Err-Depth-clause-deep
returns-in-Err-Depth-clause-deep c =
    let e = rw (c.in-Err-Depth.field-0-is, c.tokens_from-rest.ensures) at c.in-Err-Depth.ensures.gives in
    rw c.place-token-in-Err-Depth.ensures (too_deep c.args.tokens.now c.args.from c.args.depth c.in-Err-Depth.left c.requires.start e).0

pub returns-in-Err-Depth-clause-deep_place : goal.returns-in-Err-Depth-clause-deep_place
returns-in-Err-Depth-clause-deep_place c =
    let e = rw (c.in-Err-Depth.field-0-is, c.tokens_from-rest.ensures) at c.in-Err-Depth.ensures.gives in
    let p = (too_deep c.args.tokens.now c.args.from c.args.depth c.in-Err-Depth.left c.requires.start e).1 in
    let is = c.place-token-in-Err-Depth.ensures in
    (omega (arith, p, is), omega (arith, is))
