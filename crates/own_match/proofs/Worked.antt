-- What is missing in worked lists of patterns.
use Rattle.std.proofs.Common.{◌≡◌, pos, negsuc, true, false, List, [], ◌∷◌, map, Option, Some, None, refl}
use Rattle.own_tree.specs.TypedSource.{TPat, any, bind, of_case, of_number, TPats, no_pats, pat}
use Rattle.own_shapes.specs.Types.{TypeHead, Shape, Shapes, no_shapes, Payloads, no_payloads, payloads}
use Rattle.own_shapes.specs.Types as shape
use Rattle.own_match.specs.Search.{gap_columns}

here : TypeHead
here = record { number = 0; noncopyable = true; has_deinit = false; changes = [] }

abbrev missing : Shape → List TPat → Option TPats
missing s ps = gap_columns (record { shape = s; cells = ps } ∷ []) (map (λ p. true) ps)

-- struct File: ~Copyable { let fd: Int }
abbrev File : Shape
File = shape.struct here (shape.shape shape.number no_shapes)

-- case none, case one(File), case two(File, File)
abbrev Slot : Shape
Slot = shape.enum here (payloads no_shapes (payloads (shape.shape File no_shapes) (payloads (shape.shape File (shape.shape File no_shapes)) no_payloads)))

abbrev one : TPat → TPat
one p = of_case 1 (pat p no_pats)

abbrev two : TPat → TPat → TPat
two p q = of_case 2 (pat p (pat q no_pats))

none_is_missing : missing Slot (one (bind 4) ∷ two (bind 5) any ∷ []) ≡ Some (pat (of_case 0 no_pats) no_pats)
none_is_missing = refl

two_is_missing : missing Slot (one (bind 4) ∷ of_case 0 no_pats ∷ []) ≡ Some (pat (two any any) no_pats)
two_is_missing = refl

all_are_there : missing Slot (one (bind 4) ∷ two any (bind 5) ∷ of_case 0 no_pats ∷ []) ≡ None
all_are_there = refl

-- a number that no pattern has
other_is_missing : missing shape.number (of_number (pos 3) ∷ of_number (negsuc 0) ∷ []) ≡ Some (pat any no_pats)
other_is_missing = refl

-- case pair(Int, Int)
abbrev Pair : Shape
Pair = shape.enum here (payloads (shape.shape shape.number (shape.shape shape.number no_shapes)) no_payloads)

abbrev pair : TPat → TPat → TPat
pair p q = of_case 0 (pat p (pat q no_pats))

-- 7 stands at the same place in another pattern
literal_is_missing : missing Pair (pair (of_number (pos 1)) (of_number (pos 5)) ∷ pair (of_number (pos 2)) (of_number (pos 7)) ∷ []) ≡ Some (pat (pair (of_number (pos 1)) (of_number (pos 7))) no_pats)
literal_is_missing = refl

abbrev Empty : Shape
Empty = shape.enum here no_payloads

nothing_is_missing : missing Empty [] ≡ None
nothing_is_missing = refl

-- case never(Empty), case some(Int)
abbrev Maybe : Shape
Maybe = shape.enum here (payloads (shape.shape Empty no_shapes) (payloads (shape.shape shape.number no_shapes) no_payloads))

some_is_missing : missing Maybe [] ≡ Some (pat (of_case 1 (pat any no_pats)) no_pats)
some_is_missing = refl

some_is_enough : missing Maybe (of_case 1 (pat any no_pats) ∷ []) ≡ None
some_is_enough = refl
