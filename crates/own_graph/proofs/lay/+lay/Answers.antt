use Rattle.std.proofs.Common.{[], ◌∷◌, length, ap, ◌∙◌, arith, length-append}
use Rattle.own_tree.specs.OpView.{op_view}
use Rattle.own_walks.specs.Building.{built, lay}
use Rattle.own_graph.specs.Scopes.{ways_of}
use Rattle.own_walks.specs.Graphs.{plain}
use Rattle.own_graph.proofs.LayLaws.{items_more, grown, pushed_at}
use Rattle.own_graph.proofs.lay.+lay.Goals as goal

pub lay_all-items-preserved : goal.lay_all-items-preserved
lay_all-items-preserved t c =
    record {
      laid = items_more op_view c.args.items.now (ways_of c.args.scopes.now.items c.args.to) c.items.i c.index-items-i.result (built c.items.nodes.items c.items.at) (built c.lay.new.nodes.items c.in_ok-at.at) (omega arith) c.items.invariant.low
          (c.in_ok-at.ensures.laid
          ∙ ap (λ l. lay (op_view c.index-items-i.result) (ways_of l c.args.to) (built c.items.nodes.items c.items.at)) c.items.invariant.scopes
          ∙ ap (λ x. lay (op_view x) (ways_of c.args.scopes.now.items c.args.to) (built c.items.nodes.items c.items.at)) c.index-items-i.is)
          ∙ c.items.invariant.laid;
      scopes = c.in_ok-at.ensures.scopes ∙ c.items.invariant.scopes;
      low = omega (arith, c.items.invariant.low);
    }

pub lay-lead_back-requires : goal.lay-lead_back-requires
lay-lead_back-requires t c =
    let start = pushed_at (plain []) c.args.nodes.now.items c.push_plain.new.nodes.items c.in_ok-back-in-Loop.back c.in_ok-back-in-Loop.ensures in
    let size = ap length start.1 ∙ length-append c.args.nodes.now.items (plain [] ∷ []) in
    let one = grown (op_view c.get-in-Loop.result.now) _ c.push_plain.new.nodes.items c.lay-in-Loop.new.nodes.items c.in_ok-middle-in-Loop.middle _ c.in_ok-middle-in-Loop.ensures.laid in
    let two = grown (op_view c.get-in-Loop-2.result.now) _ c.lay-in-Loop.new.nodes.items c.lay-in-Loop-2.new.nodes.items c.in_ok-begin-in-Loop.begin _ c.in_ok-begin-in-Loop.ensures.laid in
    omega (arith, start.0, size, one, two)
