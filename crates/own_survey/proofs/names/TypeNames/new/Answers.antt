use Rattle.std.proofs.Common.{arith}
use Rattle.own_survey.proofs.Known.{knows_next, counted_next, count_fits}
use Rattle.own_survey.proofs.names.TypeNames.new.Goals as goal

pub loop-declaration-preserved : goal.loop-declaration-preserved
loop-declaration-preserved c =
    let xs = c.args.declarations.now in let i = c.loop-declaration.declaration-index in let x = c.declaration-item.result in
    let lt = c.loop-declaration-test.true in let is = c.declaration-item.is in let before = c.loop-declaration.invariant in
    record {
      knows = knows_next xs i x lt is c.loop-declaration.types.entries c.add_type.new.types.entries c.loop-declaration.count before.knows before.counted c.in_ok-count.ensures.adds;
      counted = counted_next xs i x lt is c.loop-declaration.count c.in_ok-count.count before.counted c.in_ok-count.ensures.next;
    }

pub add_type-requires : goal.add_type-requires
add_type-requires c = let few = count_fits c.args.declarations.now c.loop-declaration.declaration-index c.loop-declaration.count c.loop-declaration.invariant.counted c.requires in omega (arith, few)
