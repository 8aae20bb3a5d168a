-- What is known of a text is what its declarations say.
use Rattle.std.specs.Prelude.{◌≡◌, ℕ, suc, Bool, if◌then◌else◌, List, [], ◌∷◌, ◌++◌, map, Option, Some, codes}
use Rattle.std.specs.Str.{bytes_eq}
use Rattle.std.proofs.Common.{refl, ap, ◌∙◌}
use Rattle.std.proofs.Math.Path.{fun_ext}
use Rattle.own_tree.specs.declared.place.Ty.{Ty}
use Rattle.own_tree.specs.declared.place.Ty.TheVariants as type
use Rattle.own_tree.specs.declared.typed.Signature.{Signature}
use Rattle.own_tree.specs.Source as tree
use Rattle.own_tree.specs.Source.{Decl, File}
use Rattle.own_shapes.specs.Types.{Types, Declared, declared_types, type_number, named, written_type, types_of}
use Rattle.own_judged.specs.Signatures.{signatures_in}
use Rattle.own_judged.specs.Text.{Entry, Text, text_with, text_of, entries}
use Rattle.own_scope.specs.TypeNames.{number_in, type_texts, written_in}

pub next_texts : (d : Decl) (ds : List Decl) → type_texts (d ∷ ds) ≡ type_texts (d ∷ []) ++ type_texts ds
next_texts (tree.struct_of s name noncopyable ms) ds = refl
next_texts (tree.enum_of s name noncopyable ms) ds = refl
next_texts (tree.function f) ds = refl

numbered : (k : ℕ) (ds : List Declared) (name : List ℕ) → number_in k (map (λ d. d.name.text) ds) name ≡ type_number k ds name
numbered k [] name = refl
numbered k (d ∷ ds) name = ap (λ o. if bytes_eq d.name.text name then Some k else o) (numbered (suc k) ds name)

numbers : (ds : List Declared) → number_in 0 (map (λ d. d.name.text) ds) ≡ type_number 0 ds
numbers ds = fun_ext (λ name. numbered 0 ds name)

written : (ds : List Declared) → written_in (map (λ d. d.name.text) ds) ≡ written_type ds
written ds = fun_ext (λ name. ap (λ o. if bytes_eq name (codes "Int") then type.Int else (if bytes_eq name (codes "Bool") then type.Bool else named o)) (numbered 0 ds name))

-- by the names of the types, the function types and the declarations with bodies
module _ (file : File) where
  abbrev ds : List Declared
  ds = declared_types file.declarations

  abbrev by_names : Types → List (List ℕ) → Text
  by_names types names =
      let ss = signatures_in (written_in names) [] file.declarations in
      text_with types (written_in names) (number_in 0 names) ss (entries (written_in names) ss 0 0 file.declarations)

  abbrev by_types : Types → (List ℕ → Ty) → (List ℕ → Option ℕ) → Text
  by_types types type_of number =
      let ss = signatures_in type_of [] file.declarations in
      text_with types type_of number ss (entries type_of ss 0 0 file.declarations)

  named_types : (types : Types) → by_names types (type_texts file.declarations) ≡ by_types types (written_type ds) (type_number 0 ds)
  named_types types =
      ap (λ type_of. by_types types type_of (number_in 0 (type_texts file.declarations))) (written ds)
      ∙ ap (λ number. by_types types (written_type ds) number) (numbers ds)

  pub text_is : (types : Types) (names : List (List ℕ)) (ss : List Signature) (es : List Entry)
      → types ≡ types_of file → names ≡ type_texts file.declarations → ss ≡ signatures_in (written_in names) [] file.declarations
      → es ≡ entries (written_in names) ss 0 0 file.declarations
      → text_with types (written_in names) (number_in 0 names) ss es ≡ text_of file
  text_is types names ss es at_types at_names at_signatures at_entries =
      ap (λ xs. text_with types (written_in names) (number_in 0 names) ss xs) at_entries
      ∙ ap (λ xs. text_with types (written_in names) (number_in 0 names) xs (entries (written_in names) xs 0 0 file.declarations)) at_signatures
      ∙ ap (λ ns. by_names types ns) at_names
      ∙ named_types types
      ∙ ap (λ ts. by_types ts (written_type ds) (type_number 0 ds)) at_types
