-- What is known of each part of a typed program, by its types, its bindings and its bodies: types are declared, names
-- name bindings that can be seen, places lie in them, and operands have the types that their operators ask for.
use Rattle.std.specs.Prelude.{◌≡◌, ℕ, zero, suc, ◌<◌, ◌⊎◌, true, List, [], ◌∷◌, ◌++◌, length, map, Option, Some, None, slice_get}
use Rattle.own_tree.specs.declared.place.Binding.{Binding}
use Rattle.own_tree.specs.declared.place.Mode.{Mode}
use Rattle.own_tree.specs.declared.place.Mode.TheVariants as mode
use Rattle.own_tree.specs.declared.place.Ty.{Ty}
use Rattle.own_tree.specs.declared.place.Ty.TheVariants as type
use Rattle.own_tree.specs.declared.typed.At.{At}
use Rattle.own_tree.specs.declared.typed.BodyKind.{BodyKind}
use Rattle.own_tree.specs.declared.typed.BodyKind.TheVariants as kind
use Rattle.own_tree.specs.declared.typed.ParamInfo.{ParamInfo}
use Rattle.own_tree.specs.declared.typed.Passing.{Passing}
use Rattle.own_tree.specs.declared.typed.Signature.{Signature}
use Rattle.own_tree.specs.declared.typed.Target.{Target}
use Rattle.own_tree.specs.declared.typed.Target.TheVariants as target
use Rattle.own_tree.specs.declared.typed.TypedPath.{TypedPath}
use Rattle.own_tree.specs.TypedSource as typed
use Rattle.own_tree.specs.TypedSource.{TPat, TPats, TExp, TExps, TWhen, TStm, TStms, TClauses, TBlk, TBody, Program}
use Rattle.own_shapes.specs.declared.info.CaseInfo.{CaseInfo}
use Rattle.own_shapes.specs.declared.info.FieldInfo.{FieldInfo}
use Rattle.own_shapes.specs.Types.{is_copyable, shape_in}
use Rattle.own_paths.specs.Within.{node_of}
use Rattle.own_calls.specs.Arguments.{passing_of, takes}
use Rattle.own_judged.specs.Arguments.{form_of, all_by_value}
use Rattle.own_judged.specs.Bodies.{method_self}
use Rattle.own_judged.specs.Calls.{receiver_param, memberwise}
use Rattle.own_judged.specs.Paths.{payload_param}
use Rattle.own_judged.specs.Text.{Text, Callable, Method}

abbrev pub Has : Ty → TExp → Type 0
Has ty e = (node_of e).ty ≡ ty

-- two operands of one type
abbrev pub BothHave : Ty → TExp → TExp → Type 0
BothHave ty a b = Has ty a × Has ty b

module _ (text : Text) (program : Program) where
  -- ---- types, names and places

  -- it is declared, or none of the declared types
  abbrev pub IsTypeHere : Ty → Type 0
  IsTypeHere type.Int = Unit {0}
  IsTypeHere type.Bool = Unit {0}
  IsTypeHere type.Unit = Unit {0}
  IsTypeHere (type.Named k) = k < text.types.count
  IsTypeHere (type.Fun k) = k < length program.signatures

  abbrev pub AreTypes : List Ty → Type 0
  AreTypes [] = Unit {0}
  AreTypes (ty ∷ tys) = IsTypeHere ty × AreTypes tys

  -- body `inner` is a closure that stands so deep in body `outer`
  abbrev pub StandsIn : (depth inner outer : ℕ) → Type 0
  StandsIn zero inner outer = inner ≡ outer
  StandsIn (suc depth) inner outer =
      (body : TBody) × (round : ℕ) × (slice_get program.bodies inner ≡ Some body)
      × (body.kind ≡ kind.Closure round) × StandsIn depth round outer

  -- body k may name the binding of number x, which is its own or one of a body that it stands in
  abbrev pub MayName : (k x : ℕ) → Binding → Type 0
  MayName k x b = (slice_get program.bindings x ≡ Some b) × ((depth : ℕ) × StandsIn depth k b.body)

  -- one of that type
  abbrev pub NamesOf : (k x : ℕ) → Ty → Type 0
  NamesOf k x ty = (b : Binding) × MayName k x b × (b.ty ≡ ty)

  -- the place of a path lies in the shape of its binding, and has the shape of the path's type
  abbrev pub PathKnown : (k : ℕ) → TypedPath → Type 0
  PathKnown k p =
      (b : Binding) × MayName k p.place.binding b
      × (shape_in (text.types.shape b.ty) p.place.fields ≡ text.types.shape p.at.ty) × IsTypeHere p.at.ty

  -- ---- expressions, of body k

  abbrev pub MemberKnown : At → TExp → ℕ → Type 0
  MemberKnown at e i =
      (f : FieldInfo) × (slice_get (text.types.properties (node_of e).ty) i ≡ Some f) × (f.ty ≡ at.ty)

  -- bindings of body j, of the types and modes of these parameters
  abbrev pub ParamsAre : (j : ℕ) → List ℕ → List ParamInfo → Type 0
  ParamsAre j [] [] = Unit {0}
  ParamsAre j [] (p ∷ ps) = ⊥
  ParamsAre j (x ∷ xs) [] = ⊥
  ParamsAre j (x ∷ xs) (p ∷ ps) =
      ((b : Binding) × (slice_get program.bindings x ≡ Some b) × (b.body ≡ j) × (b.ty ≡ p.ty) × (b.mode ≡ p.mode))
      × ParamsAre j xs ps

  -- a closure of that type, whose body is the one of number j
  abbrev pub ClosureKnown : (k : ℕ) → At → (j : ℕ) → Type 0
  ClosureKnown k at j =
      (f : ℕ) × (g : Signature) × (body : TBody) × (at.ty ≡ type.Fun f) × (slice_get program.signatures f ≡ Some g)
      × (slice_get program.bodies j ≡ Some body) × (body.kind ≡ kind.Closure k) × (body.result ≡ g.result)
      × ParamsAre j body.params g.params

  -- ---- calls, in body k

  -- each argument is of the type of its parameter, and is written as that asks (SE-0377)
  abbrev pub AllSuit : List ParamInfo → TExps → Type 0
  AllSuit [] typed.no_exps = Unit {0}
  AllSuit [] (typed.exp e es) = ⊥
  AllSuit (p ∷ ps) typed.no_exps = ⊥
  AllSuit (p ∷ ps) (typed.exp e es) = Has p.ty e × (takes p (form_of e) ≡ true) × AllSuit ps es

  -- for these parameters
  abbrev pub Passes : List ParamInfo → TExps → List Passing → Type 0
  Passes ps es passings = AllSuit ps es × (passings ≡ map (passing_of text.types.shape) ps)

  -- a method of type t, whose receiver stands first
  abbrev pub SendsTo : At → (j : ℕ) → TExps → List Passing → (t : ℕ) → Method → Type 0
  SendsTo at j es passings t m =
      (m.callable.body ≡ j) × (at.ty ≡ m.callable.result)
      × ((receiver : TExp) × (rest : TExps) × (es ≡ typed.exp receiver rest) × Has (type.Named t) receiver
      × AllSuit m.callable.params rest
      × (passings ≡ map (passing_of text.types.shape)
      (receiver_param m.mode (node_of receiver).ty ∷ m.callable.params)))

  -- the call gives what its target gives, and its arguments are those that the target takes
  abbrev pub CallKnown : (k : ℕ) → At → Target → TExps → List Passing → Type 0
  CallKnown k at (target.Function j) es passings =
      (name : List ℕ) × (c : Callable) × (text.function name ≡ Some c) × (c.body ≡ j) × (at.ty ≡ c.result)
      × Passes c.params es passings
  CallKnown k at (target.Method j) es passings =
      (t : ℕ) × (name : List ℕ) × (m : Method) × (text.method t name ≡ Some m) × SendsTo at j es passings t m
  CallKnown k at (target.Init j) es passings =
      (t : ℕ) × (c : Callable) × (text.initializer t ≡ Some c) × (c.body ≡ j) × (at.ty ≡ type.Named t)
      × Passes c.params es passings
  CallKnown k at (target.Memberwise t) es passings =
      (text.initializer t ≡ None) × (at.ty ≡ type.Named t) × Passes (memberwise text (type.Named t)) es passings
  CallKnown k at (target.Case t i) es passings =
      (c : CaseInfo) × (slice_get (text.types.cases (type.Named t)) i ≡ Some c) × (at.ty ≡ type.Named t)
      × Passes (map payload_param c.payloads) es passings
  CallKnown k at (target.Closure x) es passings =
      (f : ℕ) × (g : Signature) × NamesOf k x (type.Fun f) × (slice_get program.signatures f ≡ Some g)
      × (at.ty ≡ g.result) × Passes g.params es passings
  CallKnown k at target.Print es passings = (at.ty ≡ type.Unit) × (passings ≡ all_by_value es)
  CallKnown k at target.ReadInt es passings = (at.ty ≡ type.Int) × Passes [] es passings

  -- ---- expressions by cases

  abbrev mutual
    pub ExpKnown : (k : ℕ) → TExp → Type 0
    ExpKnown k (typed.number at n) = at.ty ≡ type.Int
    ExpKnown k (typed.text at t) = at.ty ≡ type.Unit
    ExpKnown k (typed.truth at b) = at.ty ≡ type.Bool
    ExpKnown k (typed.path p) = PathKnown k p
    ExpKnown k (typed.parenthesized at e) = ExpKnown k e × Has at.ty e
    ExpKnown k (typed.consumed at p) = PathKnown k p × (at.ty ≡ p.at.ty)
    ExpKnown k (typed.negated at mark e) = ExpKnown k e × Has type.Int e × (at.ty ≡ type.Int)
    ExpKnown k (typed.inverted at e) = ExpKnown k e × Has type.Bool e × (at.ty ≡ type.Bool)
    ExpKnown k (typed.arithmetic at o mark a b) =
        ExpKnown k a × ExpKnown k b × BothHave type.Int a b × (at.ty ≡ type.Int)
    ExpKnown k (typed.wrapping at o a b) =
        ExpKnown k a × ExpKnown k b × BothHave type.Int a b × (at.ty ≡ type.Int)
    ExpKnown k (typed.compared at o a b) =
        ExpKnown k a × ExpKnown k b × (BothHave type.Int a b ⊎ BothHave type.Bool a b) × (at.ty ≡ type.Bool)
    ExpKnown k (typed.logic at o a b) =
        ExpKnown k a × ExpKnown k b × BothHave type.Bool a b × (at.ty ≡ type.Bool)
    ExpKnown k (typed.choice at c a b) =
        ExpKnown k c × ExpKnown k a × ExpKnown k b × Has type.Bool c × BothHave at.ty a b
    ExpKnown k (typed.member at e i) = ExpKnown k e × MemberKnown at e i × IsTypeHere at.ty
    ExpKnown k (typed.call at to es passings) = ExpsKnown k es × IsTypeHere at.ty × CallKnown k at to es passings
    ExpKnown k (typed.address p) = PathKnown k p
    ExpKnown k (typed.closure at j) = ClosureKnown k at j × IsTypeHere at.ty
    ExpKnown k (typed.function at x) = NamesOf k x at.ty × IsTypeHere at.ty

    pub ExpsKnown : (k : ℕ) → TExps → Type 0
    ExpsKnown k typed.no_exps = Unit {0}
    ExpsKnown k (typed.exp e es) = ExpKnown k e × ExpsKnown k es

  -- ---- patterns

  abbrev mutual
    pub PatKnown : (k : ℕ) → TPat → Type 0
    PatKnown k typed.any = Unit {0}
    PatKnown k (typed.bind x) = (b : Binding) × MayName k x b
    PatKnown k (typed.of_case c ps) = PatsKnown k ps
    PatKnown k (typed.of_number n) = Unit {0}
    PatKnown k (typed.of_truth b) = Unit {0}

    pub PatsKnown : (k : ℕ) → TPats → Type 0
    PatsKnown k typed.no_pats = Unit {0}
    PatsKnown k (typed.pat p ps) = PatKnown k p × PatsKnown k ps

  abbrev pub WhenKnown : (k : ℕ) → TWhen → Type 0
  WhenKnown k (typed.case_of ps) = PatsKnown k ps
  WhenKnown k (typed.case_where p e) = PatKnown k p × ExpKnown k e × Has type.Bool e
  WhenKnown k typed.default = Unit {0}

  -- ---- statements and blocks

  -- a condition
  abbrev pub ConditionKnown : (k : ℕ) → TExp → Type 0
  ConditionKnown k c = ExpKnown k c × Has type.Bool c

  -- a bound of a `for`
  abbrev pub BoundKnown : (k : ℕ) → TExp → Type 0
  BoundKnown k e = ExpKnown k e × Has type.Int e

  abbrev pub TurnKnown : (k : ℕ) → Option ℕ → Type 0
  TurnKnown k None = Unit {0}
  TurnKnown k (Some x) = NamesOf k x type.Int

  -- body k has that result
  abbrev pub GivesBack : (k : ℕ) → Ty → Type 0
  GivesBack k ty = (body : TBody) × (slice_get program.bodies k ≡ Some body) × (body.result ≡ ty)

  abbrev mutual
    pub StmKnown : (k : ℕ) → TStm → Type 0
    StmKnown k (typed.let_in at x e) = ExpKnown k e × NamesOf k x (node_of e).ty
    StmKnown k (typed.declare at x) = (b : Binding) × MayName k x b
    StmKnown k (typed.ignore at e) = ExpKnown k e
    StmKnown k (typed.assign at p e) = PathKnown k p × ExpKnown k e × Has p.at.ty e
    StmKnown k (typed.update at p o mark e) = PathKnown k p × ExpKnown k e × (p.at.ty ≡ type.Int) × Has type.Int e
    StmKnown k (typed.discard_self at p) = ((b : Binding) × MayName k p.binding b) × (p.fields ≡ [])
    StmKnown k (typed.if_then at c a) = ConditionKnown k c × BlkKnown k a
    StmKnown k (typed.if_else at c a b) = ConditionKnown k c × BlkKnown k a × BlkKnown k b
    StmKnown k (typed.else_if at c a s) = ConditionKnown k c × BlkKnown k a × StmKnown k s
    StmKnown k (typed.loop_while at c a) = ConditionKnown k c × BlkKnown k a
    StmKnown k (typed.loop_repeat at a c) = BlkKnown k a × ConditionKnown k c
    StmKnown k (typed.loop_for at x low o mark high a) =
        TurnKnown k x × BoundKnown k low × BoundKnown k high × BlkKnown k a
    StmKnown k (typed.switch at e cs) = ExpKnown k e × ClausesKnown k cs
    StmKnown k (typed.leave at) = Unit {0}
    StmKnown k (typed.go_on at) = Unit {0}
    StmKnown k (typed.return_none at) = GivesBack k type.Unit
    StmKnown k (typed.return_value at e) = ExpKnown k e × GivesBack k (node_of e).ty
    StmKnown k (typed.evaluate at e) = ExpKnown k e

    pub StmsKnown : (k : ℕ) → TStms → Type 0
    StmsKnown k typed.no_stms = Unit {0}
    StmsKnown k (typed.stm s ss) = StmKnown k s × StmsKnown k ss

    pub BlkKnown : (k : ℕ) → TBlk → Type 0
    BlkKnown k (typed.block at ss) = StmsKnown k ss

    pub ClausesKnown : (k : ℕ) → TClauses → Type 0
    ClausesKnown k typed.no_clauses = Unit {0}
    ClausesKnown k (typed.clause s w ss cs) = WhenKnown k w × StmsKnown k ss × ClausesKnown k cs

  -- ---- bodies

  -- bindings of body k itself
  abbrev pub ParamsKnown : (k : ℕ) → List ℕ → Type 0
  ParamsKnown k [] = Unit {0}
  ParamsKnown k (x ∷ xs) =
      ((b : Binding) × (slice_get program.bindings x ≡ Some b) × (b.body ≡ k)) × ParamsKnown k xs

  -- The body of a callable, which stands under its number: its parameters are `self`, where it has one, and those that
  -- the callable takes.
  abbrev pub IsBodyOf : BodyKind → (owner : Option ℕ) → (self : List ParamInfo) → Callable → Type 0
  IsBodyOf kind owner self c =
      (body : TBody) × (slice_get program.bodies c.body ≡ Some body) × (body.kind ≡ kind) × (body.owner ≡ owner)
      × (body.result ≡ c.result) × ParamsAre c.body body.params (self ++ c.params)

  -- `self` of a member of type t
  abbrev pub self_param : Mode → (t : ℕ) → ParamInfo
  self_param m t = record { label = None; mode = m; ty = type.Named t }

  abbrev pub BodyKnown : (k : ℕ) → TBody → Type 0
  BodyKnown k body = ParamsKnown k body.params × BlkKnown k body.block × IsTypeHere body.result

  -- Each body is so, and each binding is of a type of the program.
  pub record ProgramKnown : Type 0 where
    pub bodies : (k : ℕ) (body : TBody) → slice_get program.bodies k ≡ Some body → BodyKnown k body
    pub bindings : (x : ℕ) (b : Binding) → slice_get program.bindings x ≡ Some b → IsTypeHere b.ty
    -- what a name stands for stands under its number
    pub functions : (name : List ℕ) (c : Callable) → text.function name ≡ Some c → IsBodyOf kind.Function None [] c
    pub methods :
        (t : ℕ) (name : List ℕ) (m : Method) → text.method t name ≡ Some m
        → IsBodyOf kind.Method (Some t)
        (self_param (method_self (is_copyable text.types (type.Named t)) m.mode) t ∷ []) m.callable
    pub initializers :
        (t : ℕ) (c : Callable) → text.initializer t ≡ Some c
        → IsBodyOf kind.Initializer (Some t) (self_param mode.SelfInit t ∷ []) c
