use Rattle.std.proofs.Common.{◌≡◌, ap, ◌∙◌, rules, subst, sym, ◌≤◌}
use Rattle.std.specs.Prelude.{IsTrue, true}
use Rattle.wasm_form.specs.Within.{IsWithin, nest}
use Rattle.module_tests.proofs.Template.{template, template_is_within}
use Rattle.module_tests.proofs.run.program.Goals as goal

pub returns : goal.returns
returns c =
    let t : IsTrue true = search rules in
    let flat : nest c.args.code.items ≤ 0 = rw c.as_slice.ensures.value at c.if-not-are_flat.ensures t in
    rw (c.in_ok-two_types.ensures, c.in_ok-from_slice-2.ensures, c.in_ok-from_slice-3.ensures, c.new-2.ensures, c.new-3.ensures, c.new-4.ensures, c.new-5.ensures, c.new-6.ensures, c.from_vec-2.ensures, c.from_vec-3.ensures, c.as_slice-3.ensures, c.as_slice-4.ensures, c.in_ok-vec.ensures.items, c.in_ok-vec-2.ensures.items, c.in_ok-from_slice.ensures, c.as_slice-2.ensures, c.new.ensures, c.from_vec.ensures) (template_is_within c.args.code.items flat)
