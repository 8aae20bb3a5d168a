-- What a program must keep to for the frame law: by its typing, and by the rules O7 and O9 of ownership.
use Rattle.std.specs.Prelude.{ℕ, ◌≡◌, ◌⊎◌, Bool, true, false, ◌==◌, List, [], ◌∷◌, Option, Some, None, slice_get}
use Rattle.own_tree.specs.declared.place.Binding.{Binding}
use Rattle.own_tree.specs.declared.place.Mode.TheVariants as mode
use Rattle.own_tree.specs.declared.typed.Passing.{Passing}
use Rattle.own_tree.specs.declared.typed.Passing.TheVariants as passing
use Rattle.own_tree.specs.declared.typed.Target.{Target}
use Rattle.own_tree.specs.declared.typed.Target.TheVariants as target
use Rattle.own_tree.specs.declared.typed.TypedPath.{TypedPath}
use Rattle.own_tree.specs.TypedSource.{TPat, any, bind, of_case, of_number, of_truth, TPats, no_pats, pat, TExp, number, text, truth, path, parenthesized, consumed, negated, inverted, arithmetic, wrapping, compared, logic, choice, member, call, address, closure, function, TExps, no_exps, exp, TWhen, case_of, case_where, default, TStm, let_in, declare, ignore, assign, update, discard_self, if_then, if_else, else_if, loop_while, loop_repeat, loop_for, switch, leave, go_on, return_none, return_value, evaluate, TStms, no_stms, stm, TClauses, no_clauses, clause, TBlk, block, TBody, Program}
use Rattle.own_shapes.specs.Types.{Types, is_copyable}
use Rattle.own_paths.specs.Within.{node_of, path_of}
use Rattle.own_runs.specs.Destruction.{deinit_of}
use Rattle.own_frames.specs.Frame.{lends, home_of, Reach, entry_params, Takes}

-- whether the place of a subject is shown, and not a copy or a value of its own
abbrev pub shows : Bool → Option TypedPath → Bool
shows true p = false
shows false None = false
shows false (Some p) = true

module _ (program : Program) (reach : Reach) where
  abbrev pub NoCaptures : ℕ → Type 0
  NoCaptures k = (x : ℕ) (c : Bool) → reach.captured k x c → ⊥

  -- an argument of function type fits its parameter
  abbrev pub TakenBy : ℕ → TExp → Type 0
  TakenBy x (closure at k) = Takes program reach k (reach.formals x)
  TakenBy x (function at y) = reach.formals y ≡ reach.formals x
  TakenBy x (parenthesized at e) = TakenBy x e
  TakenBy x e = Unit {0}

  -- Arguments suit the parameters of a body: what only reads its place is lent to a parameter that changes nothing.
  abbrev pub SuitsArgs : List ℕ → TExps → List Passing → Type 0
  SuitsArgs [] es qs = Unit {0}
  SuitsArgs (x ∷ xs) no_exps qs = Unit {0}
  SuitsArgs (x ∷ xs) (exp e es) [] = Unit {0}
  SuitsArgs (x ∷ xs) (exp e es) (q ∷ qs) =
      ((reach.borrowed x ≡ false → lends q ≡ false) × TakenBy x e) × SuitsArgs xs es qs

  -- a call of a function, a method or an `init`, which are no closures
  abbrev pub CalledWith : ℕ → TExps → List Passing → Type 0
  CalledWith k es qs =
      NoCaptures k
      × ((b : TBody) → slice_get program.bodies k ≡ Some b → SuitsArgs (entry_params b.kind b.params) es qs)

  -- in body k
  module _ (types : Types) (k : ℕ) where
    abbrev pub IsOwn : ℕ → Bool
    IsOwn x = k == home_of program x

    -- it may be changed: its own, or a captured one
    abbrev pub Writes : ℕ → Type 0
    Writes x = ((IsOwn x ≡ true) × (reach.borrowed x ≡ false)) ⊎ ((IsOwn x ≡ false) × reach.captured k x true)

    -- it may be named: its own, or a captured one
    abbrev pub Names : ℕ → Type 0
    Names x = (IsOwn x ≡ true) ⊎ ((IsOwn x ≡ false) × reach.captured k x false)

    -- the captures of a literal that stands here
    abbrev pub Within : ℕ → Bool → Type 0
    Within x c = ((IsOwn x ≡ true) × (c ≡ true → reach.borrowed x ≡ false)) ⊎ ((IsOwn x ≡ false) × reach.captured k x c)

    abbrev pub Literal : ℕ → Type 0
    Literal k' = (x : ℕ) (c : Bool) → reach.captured k' x c → Within x c

    abbrev pub WritesPath : Option TypedPath → Type 0
    WritesPath None = Unit {0}
    WritesPath (Some p) = Writes p.place.binding

    -- a place that is lent for reading is not evaluated
    abbrev pub BorrowOk : Option TypedPath → Type 0 → Type 0
    BorrowOk None T = T
    BorrowOk (Some p) T = Unit {0}

    abbrev pub InoutOk : TExp → Type 0
    InoutOk (address p) = Writes p.place.binding
    InoutOk e = WritesPath (path_of e)

    abbrev pub ClosureOk : TExp → Type 0
    ClosureOk (closure at k') = Literal k'
    ClosureOk (function at x) = Names x
    ClosureOk (parenthesized at e) = ClosureOk e
    ClosureOk e = Unit {0}

    abbrev pub TamePass : Passing → TExp → Type 0 → Type 0
    TamePass passing.ByValue e T = T
    TamePass passing.Consume e T = T
    TamePass passing.Borrow e T = BorrowOk (path_of e) T
    TamePass passing.Inout e T = InoutOk e
    TamePass passing.Closure e T = ClosureOk e

    abbrev pub TameTarget : Target → TExps → List Passing → Type 0
    TameTarget (target.Function b) es qs = CalledWith b es qs
    TameTarget (target.Method b) es qs = CalledWith b es qs
    TameTarget (target.Init b) es qs = CalledWith b es qs
    TameTarget (target.Closure x) es qs = Names x × (qs ≡ reach.formals x)
    TameTarget (target.Memberwise t) es qs = Unit {0}
    TameTarget (target.Case t c) es qs = Unit {0}
    TameTarget target.Print es qs = Unit {0}
    TameTarget target.ReadInt es qs = Unit {0}

    abbrev mutual
      pub TameExp : TExp → Type 0
      TameExp (number at n) = Unit {0}
      TameExp (text at t) = Unit {0}
      TameExp (truth at b) = Unit {0}
      TameExp (path p) = is_copyable types p.at.ty ≡ false → Writes p.place.binding
      TameExp (parenthesized at e) = TameExp e
      TameExp (consumed at p) = Writes p.place.binding
      TameExp (negated at mark e) = TameExp e
      TameExp (inverted at e) = TameExp e
      TameExp (arithmetic at o mark a b) = TameExp a × TameExp b
      TameExp (wrapping at o a b) = TameExp a × TameExp b
      TameExp (compared at o a b) = TameExp a × TameExp b
      TameExp (logic at o a b) = TameExp a × TameExp b
      TameExp (choice at c a b) = TameExp c × TameExp a × TameExp b
      TameExp (member at e n) = TameExp e
      TameExp (call at target.Print es qs) = TameItems es
      TameExp (call at to es qs) = TameArgs es qs × TameTarget to es qs
      TameExp (address p) = Unit {0}
      TameExp (closure at n) = Unit {0}
      TameExp (function at x) = Unit {0}

      pub TameArgs : TExps → List Passing → Type 0
      TameArgs no_exps qs = Unit {0}
      TameArgs (exp e es) [] = Unit {0}
      TameArgs (exp e es) (q ∷ qs) = TamePass q e (TameExp e) × TameArgs es qs

      -- the items of a `print`
      pub TameItems : TExps → Type 0
      TameItems no_exps = Unit {0}
      TameItems (exp e es) = TameExp e × TameItems es

    -- a binding that takes its value takes a copy
    abbrev pub Copies : ℕ → Type 0
    Copies x =
        (b : Binding) → slice_get program.bindings x ≡ Some b → b.mode ≡ mode.PatternOwned
        → is_copyable types b.ty ≡ true

    -- a pattern against a place that is shown takes nothing out of it
    abbrev mutual
      pub ShownPat : TPat → Type 0
      ShownPat any = Unit {0}
      ShownPat (bind x) = Copies x
      ShownPat (of_case c ps) = ShownPats ps
      ShownPat (of_number n) = Unit {0}
      ShownPat (of_truth b) = Unit {0}

      pub ShownPats : TPats → Type 0
      ShownPats no_pats = Unit {0}
      ShownPats (pat p ps) = ShownPat p × ShownPats ps

    abbrev pub ShownHead : TWhen → Type 0
    ShownHead (case_of ps) = ShownPats ps
    ShownHead (case_where p guard) = ShownPat p
    ShownHead default = Unit {0}

    abbrev pub TameGuard : TWhen → Type 0
    TameGuard (case_of ps) = Unit {0}
    TameGuard (case_where p guard) = TameExp guard
    TameGuard default = Unit {0}

    abbrev pub is_shown : TExp → Bool
    is_shown e = shows (is_copyable types (node_of e).ty) (path_of e)

    -- of a subject that is not evaluated nothing is asked
    abbrev pub TameSubject : Bool → Type 0 → Type 0
    TameSubject true T = Unit {0}
    TameSubject false T = T

    abbrev mutual
      pub TameStm : TStm → Type 0
      TameStm (let_in at x e) = TameExp e
      TameStm (declare at x) = Unit {0}
      TameStm (ignore at e) = TameExp e
      TameStm (assign at p e) = TameExp e × Writes p.place.binding
      TameStm (update at p o mark e) = TameExp e × Writes p.place.binding
      TameStm (discard_self at p) = Writes p.binding
      TameStm (if_then at c a) = TameExp c × TameBlock a
      TameStm (if_else at c a b) = TameExp c × TameBlock a × TameBlock b
      TameStm (else_if at c a s) = TameExp c × TameBlock a × TameStm s
      TameStm (loop_while at c a) = TameExp c × TameBlock a
      TameStm (loop_repeat at a c) = TameBlock a × TameExp c
      TameStm (loop_for at x low o mark high a) = TameExp low × TameExp high × TameBlock a
      TameStm (switch at e cs) = TameSubject (is_shown e) (TameExp e) × TameClauses (is_shown e) cs
      TameStm (leave at) = Unit {0}
      TameStm (go_on at) = Unit {0}
      TameStm (return_none at) = Unit {0}
      TameStm (return_value at e) = TameExp e
      TameStm (evaluate at e) = TameExp e

      pub TameStms : TStms → Type 0
      TameStms no_stms = Unit {0}
      TameStms (stm s ss) = TameStm s × TameStms ss

      pub TameBlock : TBlk → Type 0
      TameBlock (block at ss) = TameStms ss

      pub TameClauses : Bool → TClauses → Type 0
      TameClauses shown no_clauses = Unit {0}
      TameClauses shown (clause span head ss cs) =
          (shown ≡ true → ShownHead head) × TameGuard head × TameStms ss × TameClauses shown cs

  -- Each body keeps to what it may change and name; a `deinit` captures nothing; and nothing is changed through a
  -- binding that a pattern borrows.
  pub record TameProgram (types : Types) : Type 0 where
    pub bodies : (k : ℕ) (b : TBody) → slice_get program.bodies k ≡ Some b → TameBlock types k b.block
    pub deinits : (t k : ℕ) → deinit_of program t ≡ Some k → NoCaptures k
    pub patterns : (x : ℕ) (b : Binding) → slice_get program.bindings x ≡ Some b → b.mode ≡ mode.PatternBorrowed
        → reach.borrowed x ≡ true
