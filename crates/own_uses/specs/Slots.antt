-- The slots of a binding and of an argument, each by itself.
use Rattle.std.specs.Prelude.{ℕ, ◌==◌, if◌then◌else◌}
use Rattle.own_tree.specs.declared.place.Binding.{Binding}
use Rattle.own_tree.specs.declared.typed.Passing.{Passing}
use Rattle.own_tree.specs.TypedSource.{TExp, TExps, no_exps, exp, Program}
use Rattle.own_paths.specs.BodyLimits.{binding_slots, is_kept, ty_slots}
use Rattle.own_paths.specs.Within.{node_of}
use Rattle.own_shapes.specs.Types.{Types}

-- of a binding, if body k declares it
abbrev pub own_slots : Types → Program → ℕ → Binding → ℕ
own_slots types program k b = if b.body == k then binding_slots b.mode (ty_slots types program b.ty) else 0

-- of an argument that is passed so, before later ones
abbrev pub argument_slots : Types → Program → TExp → Passing → TExps → ℕ
argument_slots types program e p no_exps = 0
argument_slots types program e p (exp f es) = if is_kept p then ty_slots types program (node_of e).ty else 0
