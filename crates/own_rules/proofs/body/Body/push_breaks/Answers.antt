use Rattle.std.proofs.Common.{◌<◌, get_or, ap, arith, rules, ltb}
use Rattle.std.proofs.lemmas.Bool.{ltb-true, ltb-false}
use Rattle.std.proofs.lemmas.List.Sorted.{IsPartitionPoint-from_clause, IsPartitionedBy-ltb}
use Rattle.std.proofs.lemmas.Option.{slice_get_within}
use Rattle.own_tree.specs.declared.place.Place.{Place}
use Rattle.own_breaks.proofs.Gathering.{gathers_more}
use Rattle.own_rules.specs.Bodies.{IsBreakWith}
use Rattle.own_rules.proofs.Growing.{no_first_leaves, own_leaves_only, read_at, read_at'}
use Rattle.own_rules.proofs.body.Body.push_breaks.Goals as goal

pub leaves-init : goal.leaves-init
leaves-init c =
    let b = c.args.self.now in let leaves = b.leaves.now in let x = c.args.op.now.place.binding in let first = c.partition_point-first.result in
    let point = IsPartitionPoint-from_clause (λ (p : Place). ltb p.binding x) leaves first c.partition_point-first.ensures.partitioned
    (IsPartitionedBy-ltb (λ (p : Place). p.binding) leaves x c.requires.whole.sorted) (λ a r q k. search rules)
    in
    no_first_leaves b c.args.rule c.args.node c.args.op.now first c.args.found.now.items
    (λ l leaf lt at same.
    let low = ltb-true (get_or leaves l leaf).binding x (point.0 l leaf (omega arith) lt) in
    let read = ap (λ (p : Place). p.binding) (read_at leaves l leaf at) in omega (arith, low, read, same))

pub leaves-preserved : goal.leaves-preserved
leaves-preserved c =
    gathers_more (λ j f. IsBreakWith c.args.self.now c.args.rule c.args.node c.args.op.now j f) c.leaves.leaf c.args.found.now.items c.leaves.found.items c.push_break.new.found.items
    c.leaves.invariant c.in_ok-push_break.ensures

pub returns-then-self-leaf : goal.returns-then-self-leaf
returns-then-self-leaf c =
    let b = c.args.self.now in let leaves = b.leaves.now in let x = c.args.op.now.place.binding in let first = c.partition_point-first.result in
    let k = c.leaves.leaf in let d = c.index-self-leaf.result in
    let point = IsPartitionPoint-from_clause (λ (p : Place). ltb p.binding x) leaves first c.partition_point-first.ensures.partitioned
    (IsPartitionedBy-ltb (λ (p : Place). p.binding) leaves x c.requires.whole.sorted) (λ a r q k. search rules)
    in
    let low = ltb-false (get_or leaves k d).binding x (point.1 k d c.leaves.auto.leaf c.leaves-test.true) in
    let read = ap (λ (p : Place). p.binding) c.index-self-leaf.is in
    let high : x < (get_or leaves k d).binding = omega (arith, low, read, c.if-self-leaf.true) in
    own_leaves_only b c.args.rule c.args.node c.args.op.now k c.args.found.now.items c.leaves.found.items
    (λ l leaf le at same.
    let up = c.requires.whole.sorted k l d le (slice_get_within leaves l leaf at) in
    let read = ap (λ (p : Place). p.binding) (read_at' leaves l leaf d at) in omega (arith, up, high, read, same)) c.leaves.invariant

pub returns : goal.returns
returns c =
    let b = c.args.self.now in
    own_leaves_only b c.args.rule c.args.node c.args.op.now c.leaves.leaf c.args.found.now.items c.leaves.found.items
    (λ l leaf le at same. let lt = slice_get_within b.leaves.now l leaf at in omega (arith, le, lt, c.leaves-test.false)) c.leaves.invariant
