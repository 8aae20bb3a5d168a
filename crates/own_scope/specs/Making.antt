-- What has been made of a text, as the rules see it.
use Rattle.std.specs.Prelude.{ℕ, [], ◌∷◌, ◌++◌, length, map, slice_set}
use Rattle.own_tree.specs.declared.place.Binding.{Binding}
use Rattle.own_tree.specs.TypedSource.{TBody}
use Rattle.own_tree.specs.TypedView.{body_view}
use Rattle.own_judging.specs.Made.{Made, Found, made}
use Rattle.own_scope.specs.declared.builder.Builder.{Builder}

abbrev pub made_of : Builder → Made
made_of b = record { nodes = b.nodes; bindings = b.bindings.items; bodies = map body_view b.bodies.items }

-- a binding is this one, now that its value is known
abbrev pub settled : (binding : ℕ) → Binding → Made → Made
settled x b s = record s { bindings = slice_set s.bindings x b }

-- the next body begins
abbrev pub begun : TBody → Made → Found ℕ
begun first s = made (length s.bodies) (record s { bodies = s.bodies ++ first ∷ [] })

-- a body is this one, now that its parts are known
abbrev pub ended : (body : ℕ) → TBody → Made → Made
ended k b s = record s { bodies = slice_set s.bodies k b }
