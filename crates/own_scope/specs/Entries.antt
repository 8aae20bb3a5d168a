-- What one declaration adds to the numbers of types and bodies.
use Rattle.std.specs.Prelude.{ℕ, List}
use Rattle.own_tree.specs.declared.place.Ty.{Ty}
use Rattle.own_tree.specs.declared.typed.Signature.{Signature}
use Rattle.own_tree.specs.Source as tree
use Rattle.own_tree.specs.Source.{Decl}
use Rattle.own_judged.specs.Text.{bodies_of, member_bodies}

abbrev pub declaration_types : Decl → ℕ
declaration_types (tree.struct_of s name noncopyable ms) = 1
declaration_types (tree.enum_of s name noncopyable ms) = 1
declaration_types (tree.function f) = 0

module _ (type_of : List ℕ → Ty) (signatures : List Signature) where
  abbrev pub declaration_bodies : Decl → ℕ
  declaration_bodies (tree.struct_of s name noncopyable ms) = member_bodies type_of signatures ms
  declaration_bodies (tree.enum_of s name noncopyable ms) = member_bodies type_of signatures ms
  declaration_bodies (tree.function f) = bodies_of f.body
