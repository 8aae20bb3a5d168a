use Rattle.std.proofs.Common.{◌≡◌, length, ◌++◌, sym, ap, ◌∙◌, append-nil, rules}
use Rattle.std.proofs.lemmas.List.{nil_from_length}
use Rattle.own_tree.specs.TypedView.{expr_view}
use Rattle.own_paths.specs.Fixed.{all_conflicts}
use Rattle.own_excl.specs.Found.{arg_claims}
use Rattle.own_excl.specs.View.{accesses_view, breaks_view, types_for, program_for}
use Rattle.own_excl.proofs.Walking.{no_conflicts}
use Rattle.own_excl.proofs.walk.Walk.push_argument_conflicts.Goals as goal

pub returns-then-is_empty : goal.returns-then-is_empty
returns-then-is_empty c =
    let held = c.args.earlier.now in
    let breaks = breaks_view c.args.breaks.now.items in
    let claims = arg_claims (types_for c.args.self.now) (program_for c.args.self.now) c.args.given (expr_view c.args.argument.now) in
    let none : length held ≡ 0 = search rules in
    sym (append-nil breaks) ∙ sym (ap (λ fs. breaks ++ fs) (no_conflicts claims))
    ∙ sym (ap (λ as'. breaks ++ all_conflicts (accesses_view as') claims) (nil_from_length held none))
