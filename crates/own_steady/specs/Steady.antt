-- What a typed program keeps to besides what is known of its types: names are in scope where they stand, jumps within
-- their loops, patterns fit their subjects, and what waits at a node is of the type of the node.
use Rattle.std.specs.Prelude.{◌≡◌, ◌≢◌, ◌⊎◌, ℕ, suc, Bool, true, false, ◌==◌, ◌||◌, ◌&&◌, List, [], ◌∷◌, ◌++◌, map, slice_get, Option, Some, None}
use Rattle.own_tree.specs.declared.arithmetic.Arith.{Arith}
use Rattle.own_tree.specs.declared.arithmetic.Arith.TheVariants as arith
use Rattle.own_tree.specs.declared.place.Binding.{Binding}
use Rattle.own_tree.specs.declared.place.Mode.{Mode}
use Rattle.own_tree.specs.declared.place.Mode.TheVariants as mode
use Rattle.own_tree.specs.declared.place.Place.{Place}
use Rattle.own_tree.specs.declared.place.Ty.{Ty}
use Rattle.own_tree.specs.declared.place.Ty.TheVariants as type
use Rattle.own_tree.specs.declared.typed.At.{At}
use Rattle.own_tree.specs.declared.typed.BodyKind.{BodyKind}
use Rattle.own_tree.specs.declared.typed.BodyKind.TheVariants as kind
use Rattle.own_tree.specs.declared.typed.Comparison.{Comparison}
use Rattle.own_tree.specs.declared.typed.Comparison.TheVariants as compare
use Rattle.own_tree.specs.declared.typed.ParamInfo.{ParamInfo}
use Rattle.own_tree.specs.declared.typed.Passing.{Passing}
use Rattle.own_tree.specs.declared.typed.Passing.TheVariants as passing
use Rattle.own_tree.specs.declared.typed.Target.{Target}
use Rattle.own_tree.specs.declared.typed.Target.TheVariants as target
use Rattle.own_tree.specs.declared.typed.TypedPath.{TypedPath}
use Rattle.own_tree.specs.TypedSource.{TPat, any, bind, of_case, of_number, of_truth, TPats, no_pats, pat, TExp, number, text, truth, path, parenthesized, consumed, negated, inverted, arithmetic, wrapping, compared, logic, choice, member, call, address, closure, function, TExps, no_exps, exp, TWhen, case_of, case_where, default, TStm, let_in, declare, ignore, assign, update, discard_self, if_then, if_else, else_if, loop_while, loop_repeat, loop_for, switch, leave, go_on, return_none, return_value, evaluate, TStms, no_stms, stm, TClauses, no_clauses, clause, TBlk, block, TBody, Program}
use Rattle.own_paths.specs.Ops.{binds_twice, has_result}
use Rattle.own_shapes.specs.Types.{Types, Shape, Shapes, no_shapes, is_copyable, tracked}
use Rattle.own_shapes.specs.Types as shape
use Rattle.own_paths.specs.Within.{node_of, path_of, pattern_bindings, patterns_bindings}
use Rattle.own_runs.specs.Calls.{holder, text_of}
use Rattle.own_runs.specs.Destruction.{deinit_of}
use Rattle.own_runs.specs.Patterns.{payloads_at}
use Rattle.own_runs.specs.Run.{clause_names}
use Rattle.own_runs.specs.Values.{field}
use Rattle.own_steady.specs.Fits.{HasCase, HasParts, untracked}

-- ---- what a binding is by its declaration

-- it holds a value of its own, it stands for a place, or it is a closure
pub data Form : Type 0 where
  a_value : Form
  a_place : Form
  a_closure : Form

-- one that stands for a place, of whatever type
abbrev pub is_alias : Mode → Bool
is_alias mode.Inout = true
is_alias mode.PatternBorrowed = true
is_alias mode.SelfMutating = true
is_alias mode.SelfDeinit = true
is_alias mode.Let = false
is_alias mode.Var = false
is_alias mode.Plain = false
is_alias mode.Borrowing = false
is_alias mode.Consuming = false
is_alias mode.Turn = false
is_alias mode.PatternOwned = false
is_alias mode.SelfBorrowing = false
is_alias mode.SelfConsuming = false
is_alias mode.SelfInit = false
is_alias mode.Closure = false

-- a loan, of what is copyable by a copy (SE-0377)
abbrev pub is_loan : Mode → Bool
is_loan mode.Borrowing = true
is_loan mode.SelfBorrowing = true
is_loan mode.Inout = false
is_loan mode.PatternBorrowed = false
is_loan mode.SelfMutating = false
is_loan mode.SelfDeinit = false
is_loan mode.Let = false
is_loan mode.Var = false
is_loan mode.Plain = false
is_loan mode.Consuming = false
is_loan mode.Turn = false
is_loan mode.PatternOwned = false
is_loan mode.SelfConsuming = false
is_loan mode.SelfInit = false
is_loan mode.Closure = false

abbrev pub has_function_type : Ty → Bool
has_function_type type.Int = false
has_function_type type.Bool = false
has_function_type type.Unit = false
has_function_type (type.Named k) = false
has_function_type (type.Fun k) = true

abbrev pub form_by : (alias function copyable loan : Bool) → Form
form_by true f c l = a_place
form_by false true c l = a_closure
form_by false false true l = a_value
form_by false false false true = a_place
form_by false false false false = a_value

-- how an argument comes to its parameter
abbrev pub form_for : Passing → Form
form_for passing.ByValue = a_value
form_for passing.Consume = a_value
form_for passing.Borrow = a_place
form_for passing.Inout = a_place
form_for passing.Closure = a_closure

-- `self` of an `init` is not tracked before it is returned
abbrev pub own_shape : Mode → Shape → Shape
own_shape mode.SelfInit s = untracked s
own_shape mode.Inout s = s
own_shape mode.PatternBorrowed s = s
own_shape mode.SelfMutating s = s
own_shape mode.SelfDeinit s = s
own_shape mode.Let s = s
own_shape mode.Var s = s
own_shape mode.Plain s = s
own_shape mode.Borrowing s = s
own_shape mode.Consuming s = s
own_shape mode.Turn s = s
own_shape mode.PatternOwned s = s
own_shape mode.SelfBorrowing s = s
own_shape mode.SelfConsuming s = s
own_shape mode.Closure s = s

-- a mode that a parameter may be written with, or the one of a closure
abbrev pub IsWritten : Mode → Type 0
IsWritten mode.Plain = Unit {0}
IsWritten mode.Borrowing = Unit {0}
IsWritten mode.Consuming = Unit {0}
IsWritten mode.Inout = Unit {0}
IsWritten mode.Closure = Unit {0}
IsWritten m = ⊥

abbrev pub AreWritten : List ParamInfo → Type 0
AreWritten [] = Unit {0}
AreWritten (p ∷ ps) = IsWritten p.mode × AreWritten ps

-- ---- names

abbrev pub is_in : List ℕ → ℕ → Bool
is_in [] x = false
is_in (y ∷ ys) x = (y == x) || is_in ys x

-- each of these is one of those
abbrev pub all_in : (those these : List ℕ) → Bool
all_in those [] = true
all_in those (x ∷ xs) = is_in those x && all_in those xs

-- ---- operators

abbrev pub IsWrapping : Arith → Type 0
IsWrapping arith.Add = Unit {0}
IsWrapping arith.Sub = Unit {0}
IsWrapping arith.Mul = Unit {0}
IsWrapping arith.Div = ⊥
IsWrapping arith.Rem = ⊥
IsWrapping arith.Neg = ⊥

abbrev pub IsEquality : Comparison → Type 0
IsEquality compare.Equal = Unit {0}
IsEquality compare.Unequal = Unit {0}
IsEquality compare.Less = ⊥
IsEquality compare.LessEqual = ⊥
IsEquality compare.Greater = ⊥
IsEquality compare.GreaterEqual = ⊥

-- ---- where a part of a body stands

pub record Site : Type 0 where
  -- the names that are seen there
  pub names : List ℕ
  -- whether a `break`, whether a `continue` may stand there
  pub breaks : Bool
  pub continues : Bool

abbrev pub with_names : List ℕ → Site → Site
with_names xs g = record g { names = xs ++ g.names }

abbrev pub in_a_loop : Site → Site
in_a_loop g = record g { breaks = true; continues = true }

abbrev pub in_a_switch : Site → Site
in_a_switch g = record g { breaks = true }

abbrev pub IsField : List ℕ → Type 0
IsField [] = ⊥
IsField (k ∷ ks) = Unit {0}

abbrev pub turn_names : Option ℕ → List ℕ
turn_names None = []
turn_names (Some x) = x ∷ []

-- what the statements behind it see
abbrev pub names_after : TStm → List ℕ
names_after (let_in at x e) = x ∷ []
names_after (declare at x) = x ∷ []
names_after s = []

-- what the definitions below speak of
pub record Setting : Type 0 where
  pub types : Types
  pub program : Program
  -- the type of each node: a number is that of one node alone
  pub node_type : ℕ → Ty
  -- the names that a body sees besides its own, which a closure has from where its literal stands
  pub outer : ℕ → List ℕ

module _ (here : Setting) where
  abbrev pub form : Binding → Form
  form b = form_by (is_alias b.mode) (has_function_type b.ty) (is_copyable here.types b.ty) (is_loan b.mode)

  abbrev pub Waits : At → Type 0
  Waits at = here.node_type at.id ≡ at.ty

  -- A place begins at a name that is seen, which is no closure, and the properties of its way are there. `self` of an
  -- `init` stands before a property alone.
  pub record PlaceSteady (g : Site) (p : Place) : Type 0 where
    pub seen : is_in g.names p.binding ≡ true
    pub no_closure : (b : Binding) → slice_get here.program.bindings p.binding ≡ Some b → form b ≢ a_closure
    pub has :
        (b : Binding) → slice_get here.program.bindings p.binding ≡ Some b
        → HasParts (here.types.shape b.ty) (map field p.fields)
    pub opened :
        (b : Binding) → slice_get here.program.bindings p.binding ≡ Some b → b.mode ≡ mode.SelfInit → IsField p.fields

  -- a closure, as a name
  pub record NameSteady (g : Site) (x : ℕ) : Type 0 where
    pub seen : is_in g.names x ≡ true
    pub is_closure : (b : Binding) → slice_get here.program.bindings x ≡ Some b → form b ≡ a_closure

  -- a literal sees what is seen where it stands
  abbrev pub LiteralSteady : Site → (body : ℕ) → Type 0
  LiteralSteady g j = all_in g.names (here.outer j) ≡ true

  -- ---- arguments; `is` says that the expression is steady

  abbrev pub LentSteady : Site → Option TypedPath → TExp → (is : Type 0) → Type 0
  LentSteady g (Some p) e is = PlaceSteady g p.place
  LentSteady g None e is = is × Waits (holder e)

  abbrev pub ChangedSteady : Site → Option TypedPath → Type 0
  ChangedSteady g (Some p) = PlaceSteady g p.place
  ChangedSteady g None = ⊥

  abbrev pub InoutSteady : Site → TExp → Type 0
  InoutSteady g (address p) = PlaceSteady g p.place
  InoutSteady g e = ChangedSteady g (path_of e)

  abbrev pub ClosureSteady : Site → TExp → Type 0
  ClosureSteady g (closure at j) = LiteralSteady g j
  ClosureSteady g (function at x) = NameSteady g x
  ClosureSteady g (parenthesized at e) = ClosureSteady g e
  ClosureSteady g e = ⊥

  abbrev pub ArgSteady : Site → Passing → TExp → (is : Type 0) → Type 0
  ArgSteady g passing.ByValue e is = is × Waits (holder e)
  ArgSteady g passing.Consume e is = is × Waits (holder e)
  ArgSteady g passing.Borrow e is = LentSteady g (path_of e) e is
  ArgSteady g passing.Inout e is = InoutSteady g e
  ArgSteady g passing.Closure e is = ClosureSteady g e

  -- an item of a `print` is a text, a number or a truth
  abbrev pub ItemSteady : Option (List ℕ) → TExp → (is : Type 0) → Type 0
  ItemSteady (Some bytes) e is = Unit {0}
  ItemSteady None e is = is × (((node_of e).ty ≡ type.Int) ⊎ ((node_of e).ty ≡ type.Bool))

  -- only a struct is made by its `init` or of all its properties
  abbrev pub CallSteady : Site → At → Target → (args items : Type 0) → Type 0
  CallSteady g at (target.Function j) args items = Waits at × args
  CallSteady g at (target.Method j) args items = Waits at × args
  CallSteady g at (target.Init j) args items = Waits at × args × (here.types.is_enum at.ty ≡ false)
  CallSteady g at (target.Memberwise t) args items = Waits at × args × (here.types.is_enum at.ty ≡ false)
  CallSteady g at (target.Case t c) args items = Waits at × args
  CallSteady g at (target.Closure x) args items = Waits at × args × NameSteady g x
  CallSteady g at target.Print args items = items
  CallSteady g at target.ReadInt args items = Waits at × args

  -- ---- expressions that have a value

  abbrev mutual
    pub ExpSteady : Site → TExp → Type 0
    ExpSteady g (number at n) = Unit {0}
    ExpSteady g (text at bytes) = ⊥
    ExpSteady g (truth at b) = Unit {0}
    ExpSteady g (path p) = PlaceSteady g p.place
    ExpSteady g (parenthesized at e) = ExpSteady g e
    ExpSteady g (consumed at p) = PlaceSteady g p.place
    ExpSteady g (negated at mark e) = ExpSteady g e
    ExpSteady g (inverted at e) = ExpSteady g e
    ExpSteady g (arithmetic at o mark a b) = ExpSteady g a × ExpSteady g b
    ExpSteady g (wrapping at o a b) = ExpSteady g a × ExpSteady g b × IsWrapping o
    ExpSteady g (compared at o a b) = ExpSteady g a × ExpSteady g b × ((node_of a).ty ≡ type.Bool → IsEquality o)
    ExpSteady g (logic at o a b) = ExpSteady g a × ExpSteady g b
    ExpSteady g (choice at c a b) = ExpSteady g c × ExpSteady g a × ExpSteady g b
    ExpSteady g (member at e k) = ExpSteady g e × Waits (holder e) × Waits at
    ExpSteady g (call at to es passings) = CallSteady g at to (ArgsSteady g es passings) (ItemsSteady g es)
    ExpSteady g (address p) = ⊥
    ExpSteady g (closure at k) = ⊥
    ExpSteady g (function at x) = ⊥

    pub ArgsSteady : Site → TExps → List Passing → Type 0
    ArgsSteady g no_exps [] = Unit {0}
    ArgsSteady g (exp e es) (p ∷ ps) = ArgSteady g p e (ExpSteady g e) × ArgsSteady g es ps
    ArgsSteady g no_exps (p ∷ ps) = ⊥
    ArgsSteady g (exp e es) [] = ⊥

    pub ItemsSteady : Site → TExps → Type 0
    ItemsSteady g no_exps = Unit {0}
    ItemsSteady g (exp e es) = ItemSteady (text_of e) e (ExpSteady g e) × ItemsSteady g es

  -- ---- patterns, of a shape, in body k

  -- a binding of a pattern has the shape of its part, and is none of the names that are seen
  pub record BoundSteady (k : ℕ) (names : List ℕ) (x : ℕ) (s : Shape) : Type 0 where
    pub binding : Binding
    pub declared : slice_get here.program.bindings x ≡ Some binding
    pub body : binding.body ≡ k
    pub shape : here.types.shape binding.ty ≡ s
    pub value : has_function_type binding.ty ≡ false
    pub mode : (binding.mode ≡ mode.PatternOwned) ⊎ (binding.mode ≡ mode.PatternBorrowed)
    pub fresh : is_in names x ≡ false

  -- `bound` says which binding stands for one of the pattern: itself, or the next one
  module _ (bound : ℕ → ℕ) where
    abbrev mutual
      pub PatSteady : (k : ℕ) → List ℕ → TPat → Shape → Type 0
      PatSteady k names any s = Unit {0}
      PatSteady k names (bind x) s = BoundSteady k names (bound x) s
      PatSteady k names (of_case c ps) (shape.enum head cases) =
          HasCase cases c × PatsSteady k names ps (payloads_at cases c)
      PatSteady k names (of_case c ps) s = ⊥
      PatSteady k names (of_number n) s = s ≡ shape.number
      PatSteady k names (of_truth b) s = s ≡ shape.truth

      pub PatsSteady : (k : ℕ) → List ℕ → TPats → Shapes → Type 0
      PatsSteady k names no_pats no_shapes = Unit {0}
      PatsSteady k names (pat p ps) (shape.shape s ss) =
          PatSteady k names p s × PatsSteady k (map bound (pattern_bindings p) ++ names) ps ss
      PatsSteady k names no_pats (shape.shape s ss) = ⊥
      PatsSteady k names (pat p ps) no_shapes = ⊥

  abbrev pub itself : ℕ → ℕ
  itself x = x

  -- the patterns of a clause, each of which binds the same names
  abbrev pub EachSteady : (k : ℕ) → List ℕ → (all : List ℕ) → TPats → Shape → Type 0
  EachSteady k names all no_pats s = Unit {0}
  EachSteady k names all (pat p ps) s =
      PatSteady itself k names p s × (pattern_bindings p ≡ all) × EachSteady k names all ps s

  -- a clause with a guard whose names are bound twice binds the second ones for its body
  abbrev pub TwiceSteady : Bool → (k : ℕ) → List ℕ → TPat → Shape → Type 0
  TwiceSteady true k names p s = PatSteady suc k names p s
  TwiceSteady false k names p s = Unit {0}

  abbrev pub HeadSteady : (k : ℕ) → Site → TWhen → TExp → Type 0
  HeadSteady k g (case_of ps) e = EachSteady k g.names (patterns_bindings ps) ps (here.types.shape (node_of e).ty)
  HeadSteady k g (case_where p guard) e =
      PatSteady itself k g.names p (here.types.shape (node_of e).ty)
      × ExpSteady (with_names (pattern_bindings p) g) guard
      × TwiceSteady (binds_twice here.types here.program e) k g.names p (here.types.shape (node_of e).ty)
  HeadSteady k g default e = Unit {0}

  -- ---- statements, in body k

  -- a binding of the body that holds a value
  pub record LocalSteady (k x : ℕ) : Type 0 where
    pub binding : Binding
    pub declared : slice_get here.program.bindings x ≡ Some binding
    pub body : binding.body ≡ k
    pub form : form binding ≡ a_value
    pub mode : binding.mode ≢ mode.SelfInit

  abbrev pub TurnSteady : (k : ℕ) → Option ℕ → Type 0
  TurnSteady k None = Unit {0}
  TurnSteady k (Some x) = LocalSteady k x

  -- what `discard self` ends is tracked
  abbrev pub DiscardSteady : Place → Type 0
  DiscardSteady p =
      (b : Binding) → slice_get here.program.bindings p.binding ≡ Some b → tracked (here.types.shape b.ty) ≡ true

  abbrev mutual
    pub StmSteady : (k : ℕ) → Site → TStm → Type 0
    StmSteady k g (let_in at x e) = ExpSteady g e × LocalSteady k x
    StmSteady k g (declare at x) = LocalSteady k x
    StmSteady k g (ignore at e) = ExpSteady g e × Waits (holder e)
    StmSteady k g (assign at p e) = ExpSteady g e × Waits (holder e) × PlaceSteady g p.place
    StmSteady k g (update at p o mark e) = ExpSteady g e × PlaceSteady g p.place
    StmSteady k g (discard_self at p) = PlaceSteady g p × DiscardSteady p
    StmSteady k g (if_then at c a) = ExpSteady g c × BlkSteady k g a
    StmSteady k g (if_else at c a b) = ExpSteady g c × BlkSteady k g a × BlkSteady k g b
    StmSteady k g (else_if at c a s) = ExpSteady g c × BlkSteady k g a × StmSteady k g s
    StmSteady k g (loop_while at c a) = ExpSteady g c × BlkSteady k (in_a_loop g) a
    StmSteady k g (loop_repeat at a c) = BlkSteady k (in_a_loop g) a × ExpSteady g c
    StmSteady k g (loop_for at x low o mark high a) =
        ExpSteady g low × ExpSteady g high × TurnSteady k x × BlkSteady k (in_a_loop (with_names (turn_names x) g)) a
    StmSteady k g (switch at e cs) = ExpSteady g e × Waits (holder e) × ClausesSteady k (in_a_switch g) cs e
    StmSteady k g (leave at) = g.breaks ≡ true
    StmSteady k g (go_on at) = g.continues ≡ true
    StmSteady k g (return_none at) = Unit {0}
    StmSteady k g (return_value at e) = ExpSteady g e
    StmSteady k g (evaluate at e) = ExpSteady g e × Waits (holder e)

    pub BlkSteady : (k : ℕ) → Site → TBlk → Type 0
    BlkSteady k g (block at ss) = StmsSteady k g ss

    pub StmsSteady : (k : ℕ) → Site → TStms → Type 0
    StmsSteady k g no_stms = Unit {0}
    StmsSteady k g (stm s ss) = StmSteady k g s × StmsSteady k (with_names (names_after s) g) ss

    pub ClausesSteady : (k : ℕ) → Site → TClauses → TExp → Type 0
    ClausesSteady k g no_clauses e = Unit {0}
    ClausesSteady k g (clause span head ss cs) e =
        HeadSteady k g head e
        × StmsSteady k (with_names (clause_names (binds_twice here.types here.program e) head) g) ss
        × ClausesSteady k g cs e

  -- ---- bodies

  -- the value of one expression is returned
  abbrev pub ResultSteady : Bool → Ty → TBlk → Type 0
  ResultSteady true ty (block at (stm (evaluate node e) no_stms)) = (node_of e).ty ≡ ty
  ResultSteady is_value ty b = Unit {0}

  -- only a closure sees names besides its own
  abbrev pub OuterSteady : BodyKind → List ℕ → Type 0
  OuterSteady (kind.Closure round) xs = Unit {0}
  OuterSteady kind.Function xs = xs ≡ []
  OuterSteady kind.Method xs = xs ≡ []
  OuterSteady kind.Initializer xs = xs ≡ []
  OuterSteady kind.Deinitializer xs = xs ≡ []

  abbrev pub site_of : (k : ℕ) → TBody → Site
  site_of k body = record { names = body.params ++ here.outer k; breaks = false; continues = false }

  -- bindings of other bodies
  abbrev pub AreOthers : (k : ℕ) → List ℕ → Type 0
  AreOthers k [] = Unit {0}
  AreOthers k (x ∷ xs) =
      ((b : Binding) → slice_get here.program.bindings x ≡ Some b → b.body ≢ k) × AreOthers k xs

  pub record BodySteady (k : ℕ) (body : TBody) : Type 0 where
    pub block : BlkSteady k (site_of k body) body.block
    pub result : ResultSteady (has_result body.result) body.result body.block
    pub outer_names : OuterSteady body.kind (here.outer k)
    pub others : AreOthers k (here.outer k)

  -- the `deinit` of a type sees the value where it stands
  pub record DeinitSteady (t : ℕ) : Type 0 where
    pub number : ℕ
    pub found : deinit_of here.program t ≡ Some number
    pub body : TBody
    pub there : slice_get here.program.bodies number ≡ Some body
    pub kind : body.kind ≡ kind.Deinitializer
    pub param : ℕ
    pub params : body.params ≡ param ∷ []
    pub self : Binding
    pub declared : slice_get here.program.bindings param ≡ Some self
    pub own : self.body ≡ number
    pub ty : self.ty ≡ type.Named t
    pub mode : self.mode ≡ mode.SelfDeinit
    -- it sees no other name
    pub no_outer : (x : ℕ) → is_in (here.outer number) x ≡ true → ⊥
