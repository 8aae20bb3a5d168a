use Rattle.std.proofs.Common.{◌≡◌, ℕ, ◌<◌, length, map, slice_get, Some, refl, sym, ap, ◌∙◌, subst, arith}
use Rattle.std.proofs.lemmas.Option.{slice_get_read}
use Rattle.std.proofs.lemmas.Result.{IfOk-weaker}
use Rattle.std.specs.Prelude.{◌↔◌, Contains}
use Rattle.own_tree.specs.TypedSource.{TBody}
use Rattle.own_tree.specs.TypedView.{body_view, program_view}
use Rattle.own_paths.specs.Findings.{ArePathFindings}
use Rattle.own_paths.specs.Makers.{uses_of}
use Rattle.own_table.specs.Table.{types_in}
use Rattle.own_leaves.specs.Bindings.{AreTyped}
use Rattle.own_walks.specs.Reaching.{IsOf}
use Rattle.own_breaks.specs.Settling.{AreBest}
use Rattle.own_rules.specs.declared.body.Body.{Body}
use Rattle.own_rules.specs.Bodies.{makers_of}
use Rattle.own_rules.proofs.Flows.{edges_of, entry_within, get_map}
use Rattle.own_rules.proofs.Whole.{of_leaves, is_whole, are_findings}
use Rattle.own_rules.proofs.findings.path_findings.Goals as goal

some_body : (x y : TBody) → Some x ≡ Some y → x ≡ y
some_body x y e = cc

pub by_leaf-requires-clause-of_leaves : goal.by_leaf-requires-clause-of_leaves
by_leaf-requires-clause-of_leaves c =
    let k = c.args.body in let source = c.index-as_slice-body.result in let bodies = c.as_slice.result.now in
    let lt : k < length bodies = subst (λ l. k < length l) (sym c.as_slice.ensures) c.requires.body in
    let there = subst (λ l. slice_get l k ≡ Some source) c.as_slice.ensures (slice_get_read bodies (length bodies) k source refl lt c.index-as_slice-body.is) in
    let flow = c.requires.flow (body_view source) (get_map body_view c.args.typed.now.bodies k source there) in
    of_leaves (uses_of (types_in c.args.table.now) (program_view c.args.typed.now) k (body_view source)) c.args.graph.now c.args.makers.now c.args.facts.now flow
    c.as_slice-pairs.result.now c.len.result c.as_slice-pairs.ensures c.len.ensures

pub all_breaks-requires : goal.all_breaks-requires
all_breaks-requires c =
    let k = c.args.body in let source = c.index-as_slice-body.result in let bodies = c.as_slice.result.now in
    let lt : k < length bodies = subst (λ l. k < length l) (sym c.as_slice.ensures) c.requires.body in
    let there = subst (λ l. slice_get l k ≡ Some source) c.as_slice.ensures (slice_get_read bodies (length bodies) k source refl lt c.index-as_slice-body.is) in
    let flow = c.requires.flow (body_view source) (get_map body_view c.args.typed.now.bodies k source there) in
    let b : Body = record {
      nodes = c.as_slice-nodes.result;
      leaves = c.as_slice-2.result;
      pairs = c.as_slice-pairs.result;
      facts = c.args.facts;
      by_leaf = c.as_slice-3.result;
      bindings = c.as_slice-4.result;
      table = c.args.table;
      discards = source.discards;
    }
    in
    record {
      whole = is_whole (program_view c.args.typed.now) k (body_view source) c.args.graph.now c.args.makers.now b flow c.as_slice-nodes.ensures c.as_slice-pairs.ensures c.as_slice-2.ensures
          c.as_slice-4.ensures (subst (λ l. AreTyped c.args.table.now l) (sym c.as_slice-4.ensures) c.requires.typed) (omega (arith, c.if-nodes.false))
          (c.as_slice-3.ensures.len ∙ c.in_ok-lists.ensures.len ∙ c.len.ensures ∙ sym (ap length c.as_slice-2.ensures))
          (subst (λ ls. (l p : ℕ) → Contains (makers_of ls l) p ↔ IsOf c.as_slice-pairs.result.now p l) (sym c.as_slice-3.ensures.value) c.in_ok-lists.ensures.has);
    }

pub push_fall-requires-clause-edges : goal.push_fall-requires-clause-edges
push_fall-requires-clause-edges c =
    let k = c.args.body in let source = c.index-as_slice-body.result in let bodies = c.as_slice.result.now in
    let lt : k < length bodies = subst (λ l. k < length l) (sym c.as_slice.ensures) c.requires.body in
    let there = subst (λ l. slice_get l k ≡ Some source) c.as_slice.ensures (slice_get_read bodies (length bodies) k source refl lt c.index-as_slice-body.is) in
    let flow = c.requires.flow (body_view source) (get_map body_view c.args.typed.now.bodies k source there) in
    edges_of (uses_of (types_in c.args.table.now) (program_view c.args.typed.now) k (body_view source)) c.args.graph.now flow.graph_is

pub push_fall-requires-clause-entry : goal.push_fall-requires-clause-entry
push_fall-requires-clause-entry c =
    let k = c.args.body in let source = c.index-as_slice-body.result in let bodies = c.as_slice.result.now in
    let lt : k < length bodies = subst (λ l. k < length l) (sym c.as_slice.ensures) c.requires.body in
    let there = subst (λ l. slice_get l k ≡ Some source) c.as_slice.ensures (slice_get_read bodies (length bodies) k source refl lt c.index-as_slice-body.is) in
    let flow = c.requires.flow (body_view source) (get_map body_view c.args.typed.now.bodies k source there) in
    entry_within (uses_of (types_in c.args.table.now) (program_view c.args.typed.now) k (body_view source)) c.args.graph.now flow.graph_is

pub returns : goal.returns
returns c =
    let k = c.args.body in let source = c.index-as_slice-body.result in let bodies = c.as_slice.result.now in
    let lt : k < length bodies = subst (λ l. k < length l) (sym c.as_slice.ensures) c.requires.body in
    let there = subst (λ l. slice_get l k ≡ Some source) c.as_slice.ensures (slice_get_read bodies (length bodies) k source refl lt c.index-as_slice-body.is) in
    let at = get_map body_view c.args.typed.now.bodies k source there in
    let flow = c.requires.flow (body_view source) at in
    let b : Body = record {
      nodes = c.as_slice-nodes.result;
      leaves = c.as_slice-2.result;
      pairs = c.as_slice-pairs.result;
      facts = c.args.facts;
      by_leaf = c.as_slice-3.result;
      bindings = c.as_slice-4.result;
      table = c.args.table;
      discards = source.discards;
    }
    in
    IfOk-weaker c.best.result (λ fs. AreBest c.push_fall.new.found.items fs)
    (λ fs. (x : TBody) → slice_get (map body_view c.args.typed.now.bodies) k ≡ Some x → ArePathFindings (uses_of (types_in c.args.table.now) (program_view c.args.typed.now) k x) fs)
    (λ fs are x e. subst (λ y. ArePathFindings (uses_of (types_in c.args.table.now) (program_view c.args.typed.now) k y) fs) (some_body (body_view source) x (sym at ∙ e))
    (are_findings (program_view c.args.typed.now) k (body_view source) c.args.graph.now c.args.makers.now b flow c.as_slice-nodes.ensures c.as_slice-pairs.ensures c.as_slice-2.ensures
    c.as_slice-4.ensures refl c.in_ok-found.found.items c.push_fall.new.found.items fs c.in_ok-found.ensures c.in_ok-push_fall.ensures are)) c.best.ensures
