use Rattle.std.proofs.Common.{◌≡◌, ◌+◌, ◌<◌, true, false, [], ◌∷◌, ◌++◌, length, drop, get_or, slice_get, Some, refl, sym, ap, ◌∙◌, arith, rules, ltb}
use Rattle.std.proofs.lemmas.Bool.{ltb-true, ltb-false}
use Rattle.std.proofs.lemmas.List.Sorted.{IsPartitionPoint-from_clause, IsPartitionedBy-ltb}
use Rattle.std.proofs.lemmas.Option.{slice_get_read}
use Rattle.own_tree.specs.declared.place.Place.{Place}
use Rattle.own_walks.specs.Pairs.{covered_pairs}
use Rattle.own_leaves.proofs.Declared.{nothing_more}
use Rattle.own_graph.proofs.PairLaws.{covered_step, covered_end, before_first, after_last}
use Rattle.own_graph.proofs.pairs.push_covered.Goals as goal
use Rattle.own_graph.proofs.pairs.push_covered.Goals.{then-covers+in_ok-push, else-covers}

pub leaves-init : goal.leaves-init
leaves-init c =
    let leaves = c.args.leaves.now in let x = c.args.op.now.place.binding in let first = c.partition_point-first.result in
    let point = IsPartitionPoint-from_clause (λ (p : Place). ltb p.binding x) leaves first c.partition_point-first.ensures.partitioned
    (IsPartitionedBy-ltb (λ (p : Place). p.binding) leaves x c.requires.sorted) (λ a r q k. search rules)
    in
    ap (λ l. c.args.pairs.now ++ l) (sym (before_first c.args.node c.args.op.now leaves first
    (λ j d lt. ltb-true (get_or leaves j d).binding x (point.0 j d (omega arith) lt))))

pub returns-then-place-binding : goal.returns-then-place-binding
returns-then-place-binding c =
    let leaves = c.args.leaves.now in let x = c.args.op.now.place.binding in let first = c.partition_point-first.result in
    let k = c.leaves.leaf in let d = c.index-leaves-leaf.result in
    let point = IsPartitionPoint-from_clause (λ (p : Place). ltb p.binding x) leaves first c.partition_point-first.ensures.partitioned
    (IsPartitionedBy-ltb (λ (p : Place). p.binding) leaves x c.requires.sorted) (λ a r q k. search rules)
    in
    let low = ltb-false (get_or leaves k d).binding x (point.1 k d c.leaves.auto.leaf c.leaves-test.true) in
    let read = ap (λ (p : Place). p.binding) c.index-leaves-leaf.is in
    let high : x < (get_or leaves k d).binding = omega (arith, low, read, c.if-place-binding.true) in
    sym (after_last c.args.node c.args.op.now leaves c.leaves.pairs k d c.requires.sorted c.leaves-test.true high) ∙ c.leaves.invariant

pub leaves-preserved : goal.leaves-preserved
leaves-preserved c =
    let leaves = c.args.leaves.now in let o = c.args.op.now in let u = c.args.node in let k = c.leaves.leaf in let place = c.index-leaves-leaf.result in
    let there : slice_get leaves k ≡ Some place = slice_get_read leaves (length leaves) k place refl c.leaves-test.true c.index-leaves-leaf.is in
    let rest = covered_pairs u o (k + 1) (drop (k + 1) leaves) in
    elim c.if-covers.branch [
      | then-covers+in_ok-push w ↦
          ap (λ l. l ++ rest) (w.pairs-is ∙ w.in_ok-push.ensures.ok ∙ ap (λ v. c.leaves.pairs ++ record { node = u; leaf = k; live = v } ∷ []) c.lives_by-live.ensures)
          ∙ covered_step true u o leaves c.leaves.pairs k place there (sym w.if-covers.ensures) ∙ c.leaves.invariant
      | else-covers w ↦
          ap (λ l. l ++ rest) (w.pairs-is ∙ sym (nothing_more c.leaves.pairs))
          ∙ covered_step false u o leaves c.leaves.pairs k place there (sym w.if-covers.ensures) ∙ c.leaves.invariant
    ]

pub returns : goal.returns
returns c = sym (covered_end c.args.node c.args.op.now c.args.leaves.now c.leaves.pairs c.leaves.leaf c.leaves-test.false) ∙ c.leaves.invariant
