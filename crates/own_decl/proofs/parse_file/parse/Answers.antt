use Rattle.std.proofs.Common.{inl, inr, sym}
use Rattle.own_tree.specs.View.{tree_view}
use Rattle.own_grammar.specs.Reading.{Syntax, Depth}
use Rattle.own_decl.proofs.Whole.{stands, not_refused, breaks, no_file, too_deep}
use Rattle.own_decl.proofs.parse_file.parse.Goals as goal

pub returns-in-Ok-clause-found : goal.returns-in-Ok-clause-found
returns-in-Ok-clause-found c = (stands c.args.tokens.now (tree_view c.in-Ok.tree) c.in-Ok.ensures).spelled

pub returns-in-Ok-clause-fits : goal.returns-in-Ok-clause-fits
returns-in-Ok-clause-fits c = (stands c.args.tokens.now (tree_view c.in-Ok.tree) c.in-Ok.ensures).fits

pub returns-in-Ok-clause-patterns : goal.returns-in-Ok-clause-patterns
returns-in-Ok-clause-patterns c = (stands c.args.tokens.now (tree_view c.in-Ok.tree) c.in-Ok.ensures).patterns

pub returns-in-Ok-clause-one : goal.returns-in-Ok-clause-one
returns-in-Ok-clause-one c = (stands c.args.tokens.now (tree_view c.in-Ok.tree) c.in-Ok.ensures).only

pub returns-in-Ok-clause-only : goal.returns-in-Ok-clause-only
returns-in-Ok-clause-only c = λ f sp fit few. sym ((stands c.args.tokens.now (tree_view c.in-Ok.tree) c.in-Ok.ensures).only f sp)

pub returns-in-Ok-clause-too_deep : goal.returns-in-Ok-clause-too_deep
returns-in-Ok-clause-too_deep c = λ f sp deep. too_deep c.args.tokens.now f (tree_view c.in-Ok.tree) c.in-Ok.ensures sp (inl deep)

pub returns-in-Ok-clause-too_deep_patterns : goal.returns-in-Ok-clause-too_deep_patterns
returns-in-Ok-clause-too_deep_patterns c = λ f sp deep. too_deep c.args.tokens.now f (tree_view c.in-Ok.tree) c.in-Ok.ensures sp (inr deep)

pub returns-in-Err-Syntax-clause-only : goal.returns-in-Err-Syntax-clause-only
returns-in-Err-Syntax-clause-only c =
    let e = rw c.in-Err-Syntax.field-0-is at c.in-Err-Syntax.ensures in
    λ f sp fit few. not_refused c.args.tokens.now f (Syntax c.in-Err-Syntax.left) e sp fit few

pub returns-in-Err-Syntax-clause-syntax : goal.returns-in-Err-Syntax-clause-syntax
returns-in-Err-Syntax-clause-syntax c =
    let e = rw c.in-Err-Syntax.field-0-is at c.in-Err-Syntax.ensures in
    no_file c.args.tokens.now c.in-Err-Syntax.left e

pub returns-in-Err-Syntax-clause-too_deep : goal.returns-in-Err-Syntax-clause-too_deep
returns-in-Err-Syntax-clause-too_deep c =
    let e = rw c.in-Err-Syntax.field-0-is at c.in-Err-Syntax.ensures in
    λ f sp deep. no_file c.args.tokens.now c.in-Err-Syntax.left e f sp

pub returns-in-Err-Syntax-clause-too_deep_patterns : goal.returns-in-Err-Syntax-clause-too_deep_patterns
returns-in-Err-Syntax-clause-too_deep_patterns c =
    let e = rw c.in-Err-Syntax.field-0-is at c.in-Err-Syntax.ensures in
    λ f sp deep. no_file c.args.tokens.now c.in-Err-Syntax.left e f sp

pub returns-in-Err-Depth-clause-only : goal.returns-in-Err-Depth-clause-only
returns-in-Err-Depth-clause-only c =
    let e = rw c.in-Err-Depth.field-0-is at c.in-Err-Depth.ensures in
    λ f sp fit few. not_refused c.args.tokens.now f (Depth c.in-Err-Depth.left) e sp fit few

pub returns-in-Err-Depth-clause-deep : goal.returns-in-Err-Depth-clause-deep
returns-in-Err-Depth-clause-deep c =
    let e = rw c.in-Err-Depth.field-0-is at c.in-Err-Depth.ensures in
    rw c.place-token-in-Err-Depth.ensures (breaks c.args.tokens.now c.in-Err-Depth.left e)
