-- The definitions as the code builds them.
use Rattle.std.specs.Prelude.{List, [], ◌∷◌, map, suc, ◌++◌, if◌then◌else◌, ℕ, Option, Some, None}
use Rattle.own_tree.specs.declared.op.OpKind.TheVariants as kind
use Rattle.own_tree.specs.declared.span.Span.{Span}
use Rattle.own_tree.specs.declared.typed.At.{At}
use Rattle.own_tree.specs.OpSource.{Ops, return_at}
use Rattle.own_tree.specs.TypedSource.{TExp, TStm, let_in, declare, ignore, assign, update, discard_self, if_then, if_else, else_if, loop_while, loop_repeat, loop_for, switch, leave, go_on, return_none, return_value, evaluate, TStms, no_stms, stm, TBlk, block, Program}
use Rattle.own_tree.specs.TypedView.{program_view}
use Rattle.own_paths.specs.Ops.{op_of, make, scope_of, closing, binds_twice, exp_ops, as_value, block_ops, turn_binding}
use Rattle.own_paths.specs.Within.{locals, node_of}
use Rattle.own_shapes.specs.Places.{whole}
use Rattle.own_shapes.specs.Spans.{opening}
use Rattle.own_shapes.specs.Types.{Types}
use Rattle.own_table.specs.Table.{types_in}
use Rattle.own_within.specs.declared.captured.Captured.{Captured}
use Rattle.own_uses.specs.declared.builder.Builder.{Builder}

abbrev pub types_for : Builder → Types
types_for b = types_in b.table.now

abbrev pub program_for : Builder → Program
program_for b = program_view b.typed.now

-- the Captures of a closure literal
abbrev pub captured_ops : At → List Captured → List Ops
captured_ops at cs = map (λ c. op_of kind.Capture (whole c.binding) (opening at.span) at.id) cs

-- the body of a clause with a guard that binds these names
abbrev pub guarded_scope : Types → Program → TExp → At → List ℕ → TStms → List Ops → Ops
guarded_scope types program subject at names ss body =
    if binds_twice types program subject then scope_of types program (map suc names ++ locals ss) (closing at.span)
    (map (make types program at) (map suc names) ++ body)
    else scope_of types program (names ++ locals ss) (closing at.span) body

-- a block that is one expression, whose value is returned
abbrev pub returned : Types → Program → At → TExp → Ops
returned types program at e =
    scope_of types program [] (closing at.span) (exp_ops types program e as_value ∷ return_at (node_of e).span ∷ [])

-- the expression that a statement is
abbrev pub value_of : TStm → Option TExp
value_of (let_in at x e) = None
value_of (declare at x) = None
value_of (ignore at e) = None
value_of (assign at p e) = None
value_of (update at p o mark e) = None
value_of (discard_self at p) = None
value_of (if_then at c a) = None
value_of (if_else at c a b) = None
value_of (else_if at c a s) = None
value_of (loop_while at c a) = None
value_of (loop_repeat at a c) = None
value_of (loop_for at x low o mark high a) = None
value_of (switch at e cs) = None
value_of (leave at) = None
value_of (go_on at) = None
value_of (return_none at) = None
value_of (return_value at e) = None
value_of (evaluate at e) = Some e

-- the expression that statements are, if they are one expression
abbrev pub only_value : TStms → Option TExp
only_value no_stms = None
only_value (stm s no_stms) = value_of s
only_value (stm s (stm t ss)) = None

abbrev pub returned_or_block : Types → Program → TBlk → Option TExp → Ops
returned_or_block types program (block at ss) None = block_ops types program (block at ss)
returned_or_block types program (block at ss) (Some e) = returned types program at e

-- a turn of a `for`: the scope of its variable and of what the statements of its block declare
abbrev pub turn_scope : Types → Program → At → Option ℕ → Span → TStms → List Ops → Ops
turn_scope types program at turn close ss parts =
    let variable = turn_binding types program turn in
    scope_of types program (variable ++ locals ss) close (map (make types program at) variable ++ parts)
