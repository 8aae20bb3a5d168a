-- What a path rule asks: of which leaves at an op or a return, and which ops that made or ended a leaf break it.
use Rattle.std.specs.Prelude.{ℕ, Bool, true, false, ◌&&◌, ◌||◌, Option, Some}
use Rattle.own_tree.specs.declared.finding.Rule.{Rule}
use Rattle.own_tree.specs.declared.finding.Rule.TheVariants as rule
use Rattle.own_tree.specs.declared.op.Op.{Op}
use Rattle.own_tree.specs.declared.op.OpKind.{OpKind}
use Rattle.own_tree.specs.declared.op.OpKind.TheVariants as kind
use Rattle.own_tree.specs.declared.place.Mode.{Mode}
use Rattle.own_tree.specs.declared.place.Mode.TheVariants as mode
use Rattle.own_tree.specs.declared.place.Place.{Place}
use Rattle.own_paths.specs.Fixed.{is_assign, is_consume, is_discard}
use Rattle.own_paths.specs.Makers.{needs}
use Rattle.own_shapes.specs.Places.{covers}

-- ---- kinds of ops

abbrev pub is_end : OpKind → Bool
is_end kind.End = true
is_end kind.Declare = false
is_end kind.Make = false
is_end kind.Read = false
is_end kind.Borrow = false
is_end kind.Inout = false
is_end kind.Consume = false
is_end kind.Discard = false
is_end kind.Assign = false
is_end kind.Capture = false

abbrev pub is_declare : OpKind → Bool
is_declare kind.Declare = true
is_declare kind.Make = false
is_declare kind.Read = false
is_declare kind.Borrow = false
is_declare kind.Inout = false
is_declare kind.Consume = false
is_declare kind.Discard = false
is_declare kind.Assign = false
is_declare kind.Capture = false
is_declare kind.End = false

-- gives a leaf its value
abbrev pub gives_value : OpKind → Bool
gives_value kind.Make = true
gives_value kind.Assign = true
gives_value kind.Declare = false
gives_value kind.Read = false
gives_value kind.Borrow = false
gives_value kind.Inout = false
gives_value kind.Consume = false
gives_value kind.Discard = false
gives_value kind.Capture = false
gives_value kind.End = false

-- leaves a leaf without a value
abbrev pub takes_value : OpKind → Bool
takes_value kind.Declare = true
takes_value kind.Consume = true
takes_value kind.Discard = true
takes_value kind.End = true
takes_value kind.Make = false
takes_value kind.Assign = false
takes_value kind.Read = false
takes_value kind.Borrow = false
takes_value kind.Inout = false
takes_value kind.Capture = false

-- ---- bindings

-- `self` of a `consuming` method
abbrev pub is_consumed_self : Option Mode → Bool
is_consumed_self (Some mode.SelfConsuming) = true
is_consumed_self m = false

-- what the caller has back when the body returns
abbrev pub is_given_back : Option Mode → Bool
is_given_back (Some mode.Inout) = true
is_given_back (Some mode.SelfMutating) = true
is_given_back m = false

-- `self` of an `init`
abbrev pub is_initialized_self : Option Mode → Bool
is_initialized_self (Some mode.SelfInit) = true
is_initialized_self m = false

-- ---- the rules

-- an op of this kind that made or ended the leaf last breaks the rule
abbrev pub blames : Rule → OpKind → Bool
blames rule.O1 k = is_consume k || is_discard k
blames rule.O2 k = is_declare k
blames rule.O3 k = takes_value k
blames rule.O4 k = gives_value k
blames rule.O5 k = takes_value k
blames rule.O6 k = gives_value k
blames rule.O7 k = false
blames rule.O8 k = false
blames rule.O9 k = false
blames rule.O10 k = false
blames rule.O11 k = false
blames rule.F1 k = false

-- the rule asks at a return for each leaf of a binding of this mode
abbrev pub owes : Rule → Option Mode → Bool
owes rule.O3 m = is_given_back m
owes rule.O5 m = is_initialized_self m
owes rule.O1 m = false
owes rule.O2 m = false
owes rule.O4 m = false
owes rule.O6 m = false
owes rule.O7 m = false
owes rule.O8 m = false
owes rule.O9 m = false
owes rule.O10 m = false
owes rule.O11 m = false
owes rule.F1 m = false

-- In a body that contains `discard self` or not, with the modes of its bindings, and with the places that are `self`
-- of an `init` and one stored property, which is a `let`.
module _ (discards : Bool) (mode_of : ℕ → Option Mode) (is_let_property : Place → Bool) where
  -- the rule asks at an op for this leaf
  abbrev pub asks : Rule → Op → Place → Bool
  asks rule.O1 o leaf = needs o leaf
  asks rule.O2 o leaf = needs o leaf
  asks rule.O4 o leaf = (is_end o.kind && discards && is_consumed_self (mode_of o.place.binding)) && covers o.place leaf
  asks rule.O6 o leaf = (is_assign o.kind && is_let_property o.place) && covers o.place leaf
  asks rule.O3 o leaf = false
  asks rule.O5 o leaf = false
  asks rule.O7 o leaf = false
  asks rule.O8 o leaf = false
  asks rule.O9 o leaf = false
  asks rule.O10 o leaf = false
  asks rule.O11 o leaf = false
  asks rule.F1 o leaf = false
