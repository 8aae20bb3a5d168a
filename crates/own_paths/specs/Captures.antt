-- What a closure captures: each binding that is used in it or in a closure inside it and is declared in neither.
use Rattle.std.specs.Prelude.{ℕ, zero, suc, Bool, true, false, not, ◌||◌, ◌&&◌, ◌==◌, if◌then◌else◌, List, [], ◌∷◌, ◌++◌, length, slice_get, Option, Some, None}
use Rattle.own_tree.specs.declared.place.Binding.{Binding}
use Rattle.own_tree.specs.declared.typed.Passing.{Passing}
use Rattle.own_tree.specs.declared.typed.Passing.TheVariants as passing
use Rattle.own_tree.specs.declared.typed.Target.{Target}
use Rattle.own_tree.specs.declared.typed.Target.TheVariants as target
use Rattle.own_tree.specs.declared.typed.TypedPath.{TypedPath}
use Rattle.own_tree.specs.TypedSource.{TExp, number, text, truth, path, parenthesized, consumed, negated, inverted, arithmetic, wrapping, compared, logic, choice, member, call, address, closure, function, TExps, no_exps, exp, TStm, let_in, declare, ignore, assign, update, discard_self, if_then, if_else, else_if, loop_while, loop_repeat, loop_for, switch, leave, go_on, return_none, return_value, evaluate, TBlk, Program}
use Rattle.own_paths.specs.Within.{path_of, stms_in_block, exps_of_stms}

-- A binding that is mentioned or captured, and whether it is changed: in whole or in part it is assigned, passed
-- `inout`, or has a mutating method called on it.
pub record Captured : Type 0 where
  pub binding : ℕ
  pub change : Bool

abbrev pub mention : Bool → ℕ → Captured
mention change x = record { binding = x; change = change }

abbrev pub first_passing : List Passing → Passing
first_passing [] = passing.ByValue
first_passing (p ∷ ps) = p

abbrev pub other_passings : List Passing → List Passing
other_passings [] = []
other_passings (p ∷ ps) = ps

-- a parameter of function type that is called
abbrev pub called : Target → List Captured
called (target.Closure x) = mention false x ∷ []
called (target.Function k) = []
called (target.Method k) = []
called (target.Init k) = []
called (target.Memberwise k) = []
called (target.Case t k) = []
called target.Print = []
called target.ReadInt = []

-- what is passed, if it is a path
abbrev pub passed : Passing → Option TypedPath → List Captured
passed passing.Inout (Some p) = mention true p.place.binding ∷ []
passed passing.Inout None = []
passed passing.ByValue p = []
passed passing.Borrow p = []
passed passing.Consume p = []
passed passing.Closure p = []

-- the receivers of mutating methods
abbrev pub changed_by_passing : TExps → List Passing → List Captured
changed_by_passing no_exps ps = []
changed_by_passing (exp e es) ps = passed (first_passing ps) (path_of e) ++ changed_by_passing es (other_passings ps)

module _ (captured_by : ℕ → List Captured) where
  -- what an expression mentions by itself, without its parts
  abbrev pub exp_mentions : TExp → List Captured
  exp_mentions (path p) = mention false p.place.binding ∷ []
  exp_mentions (consumed at p) = mention false p.place.binding ∷ []
  exp_mentions (address p) = mention true p.place.binding ∷ []
  exp_mentions (call at to es passings) = called to ++ changed_by_passing es passings
  exp_mentions (closure at k) = captured_by k
  exp_mentions (function at x) = mention false x ∷ []
  exp_mentions (number at n) = []
  exp_mentions (text at t) = []
  exp_mentions (truth at b) = []
  exp_mentions (parenthesized at e) = []
  exp_mentions (negated at mark e) = []
  exp_mentions (inverted at e) = []
  exp_mentions (arithmetic at o mark a b) = []
  exp_mentions (wrapping at o a b) = []
  exp_mentions (compared at o a b) = []
  exp_mentions (logic at o a b) = []
  exp_mentions (choice at c a b) = []
  exp_mentions (member at e k) = []

  abbrev pub exps_mention : List TExp → List Captured
  exps_mention [] = []
  exps_mention (e ∷ es) = exp_mentions e ++ exps_mention es

-- what a statement mentions by itself, without its parts
abbrev pub stm_mentions : TStm → List Captured
stm_mentions (assign at p e) = mention true p.place.binding ∷ []
stm_mentions (update at p o mark e) = mention true p.place.binding ∷ []
stm_mentions (discard_self at p) = mention false p.binding ∷ []
stm_mentions (let_in at x e) = []
stm_mentions (declare at x) = []
stm_mentions (ignore at e) = []
stm_mentions (if_then at c a) = []
stm_mentions (if_else at c a b) = []
stm_mentions (else_if at c a s) = []
stm_mentions (loop_while at c a) = []
stm_mentions (loop_repeat at a c) = []
stm_mentions (loop_for at x low o mark high a) = []
stm_mentions (switch at e cs) = []
stm_mentions (leave at) = []
stm_mentions (go_on at) = []
stm_mentions (return_none at) = []
stm_mentions (return_value at e) = []
stm_mentions (evaluate at e) = []

abbrev pub stms_mention : List TStm → List Captured
stms_mention [] = []
stms_mention (s ∷ ss) = stm_mentions s ++ stms_mention ss

abbrev pub block_mentions : (ℕ → List Captured) → TBlk → List Captured
block_mentions captured_by b = stms_mention (stms_in_block b) ++ exps_mention captured_by (exps_of_stms (stms_in_block b))

abbrev pub is_elsewhere : ℕ → Option Binding → Bool
is_elsewhere k None = false
is_elsewhere k (Some b) = not (b.body == k)

-- those that body k does not declare
abbrev pub declared_elsewhere : List Binding → ℕ → List Captured → List Captured
declared_elsewhere bindings k [] = []
declared_elsewhere bindings k (m ∷ ms) =
    if is_elsewhere k (slice_get bindings m.binding) then m ∷ declared_elsewhere bindings k ms
    else declared_elsewhere bindings k ms

abbrev pub is_mentioned : ℕ → List Captured → Bool
is_mentioned x [] = false
is_mentioned x (m ∷ ms) = (m.binding == x) || is_mentioned x ms

abbrev pub is_changed : ℕ → List Captured → Bool
is_changed x [] = false
is_changed x (m ∷ ms) = ((m.binding == x) && m.change) || is_changed x ms

-- each binding from number x on that is mentioned, once, and in order of number
abbrev pub in_order_of_number : ℕ → List Binding → List Captured → List Captured
in_order_of_number x [] ms = []
in_order_of_number x (b ∷ bindings) ms =
    if is_mentioned x ms then record { binding = x; change = is_changed x ms } ∷ in_order_of_number (suc x) bindings ms
    else in_order_of_number (suc x) bindings ms

-- what a body mentions that it does not declare, where closures are nested at most so deep
abbrev pub outer_mentions : Program → ℕ → ℕ → List Captured
outer_mentions program zero k = []
outer_mentions program (suc depth) k = elim (slice_get program.bodies k) [
  | None ↦ []
  | Some b ↦ declared_elsewhere program.bindings k (block_mentions (outer_mentions program depth) b.block)
]

-- The captures of a closure, by the number of its body. A closure inside another has a greater number, so they are
-- nested no deeper than there are bodies.
abbrev pub captures : Program → ℕ → List Captured
captures program k = in_order_of_number 0 program.bindings (outer_mentions program (length program.bodies) k)
