-- Expressions, statements and blocks, by cases on the tree.
use Rattle.std.specs.Prelude.{ℕ, Bool, false, not, ◌&&◌, ◌||◌, List, [], ◌∷◌, ◌++◌, Option, None}
use Rattle.std.proofs.Common.{refl}
use Rattle.own_tree.specs.declared.place.Ty.{Ty}
use Rattle.own_tree.specs.declared.place.Ty.TheVariants as type
use Rattle.own_tree.specs.declared.span.Span.{Span}
use Rattle.own_tree.specs.declared.tree.Name.{Name}
use Rattle.own_tree.specs.Source as tree
use Rattle.own_tree.specs.Source.{Exp, Given, Args, Clo, Stm, Stms, When, Clauses, Blk}
use Rattle.own_tree.specs.TypedSource as typed
use Rattle.own_tree.specs.TypedSource.{TExp, TExps, TWhen, TStm, TStms, TClauses, TBlk, Program}
use Rattle.own_tree.specs.TypedView.{stms_of}
use Rattle.own_shapes.specs.Types.{is_copyable, is_empty}
use Rattle.own_survey.specs.Parts.{word_of}
use Rattle.own_paths.specs.Ops.{has_result}
use Rattle.own_paths.specs.Within.{path_of}
use Rattle.own_judging.specs.Judged.{Judged}
use Rattle.own_judged.specs.Arguments.{Arguments, nothing_given, trailing}
use Rattle.own_judged.specs.Codes.{T18, T28}
use Rattle.own_judged.specs.Conditions.{true_that}
use Rattle.own_judged.specs.Names.{Local, Scope, with_locals, inside_loop, inside_switch}
use Rattle.own_judged.specs.Paths.{member_of, a_place}
use Rattle.own_judged.specs.Patterns.{How, how_taken, unguarded, pattern_of, one_or_none}
use Rattle.own_judged.specs.Rules.{yields, refused}
use Rattle.own_judged.specs.Statements.{Typable, plain, condition, bound, value_of, loop_variable, written_type_of, updating, assigned, is_single}
use Rattle.own_judged.specs.Text.{Text}
use Rattle.own_judged.specs.Trees.{closure_span, expression, callee, arguments, argument, print_items, print_item, closure, statement, statements, block_of, head, clauses}
use Rattle.own_judged.specs.Values.{at, span_of, type_of, as_value, chosen, operation, operated, prefixed}
use Rattle.own_known.specs.Known.{ExpKnown, ExpsKnown, ConditionKnown, BoundKnown, WhenKnown, StmKnown, StmsKnown, BlkKnown, ClausesKnown}
use Rattle.own_known.specs.Surroundings.{IsKnown, TextKnown, LocalsKnown, ScopeKnown}
use Rattle.own_known.proofs.CallsKnown.{ArgumentKnown, value_given, closure_given, then_given, trailing_given, item_known, items_known, address_given, CalleeKnown, call_known}
use Rattle.own_known.proofs.ClosuresKnown.{block_known, literal_known}
use Rattle.own_known.proofs.PathsKnown.{ArgumentsKnown, nothing_known, implicit_known, member_known, path_value_known, place_known}
use Rattle.own_known.proofs.PatternsKnown.{pattern_known, alternatives_known}
use Rattle.own_known.proofs.PartsKnown.{parenthesized_known, consumed_known, value_then, binary_known, choice_known, place_then, returned_value, if_known, if_else_known, else_if_known, while_known, repeat_known, for_known, switch_known, statements_then, guarded_known, clause_known}
use Rattle.own_known.proofs.Scopes.{behind, in_loop, in_switch}
use Rattle.own_known.proofs.StatementsKnown.{StatedKnown, TypableKnown, value_of_known, assigned_known, evaluated_known, with_value_known, loop_known, without_value_known, returned_known, discarded_known}
use Rattle.own_known.proofs.Sure.{Sure, then, weaken, gives, holds, never, a_node}
use Rattle.own_known.proofs.ValuesKnown.{Value, type_known, value_known, chosen_known, literal_known as number_known, operated_known, prefixed_known}

module _ (text : Text) (program : Program) (texts : TextKnown text program) where
  abbrev Sure' : {A : Type 0} → Judged A → (A → Type 0) → Type 0
  Sure' j Q = Sure text program j Q

  abbrev Fine : Scope → TExp → Type 0
  Fine scope t = ExpKnown text program scope.body t

  -- ---- statements that became those of a block

  pub Done : ℕ → List TStm → Type 0
  Done k [] = Unit {0}
  Done k (t ∷ ts) = StmKnown text program k t × Done k ts

  one_more : (k : ℕ) (ts : List TStm) (t : TStm) → Done k ts → StmKnown text program k t → Done k (ts ++ t ∷ [])
  unfolding Done
  one_more k [] t h s = (s, tt)
  one_more k (u ∷ us) t h s = (h.0, one_more k us t h.1 s)

  all_done : (k : ℕ) (ts : List TStm) → Done k ts → StmsKnown text program k (stms_of ts)
  unfolding Done
  all_done k [] h = tt
  all_done k (t ∷ ts) h = (h.0, all_done k ts h.1)

  pub nothing_done : (k : ℕ) → Done k []
  unfolding Done
  nothing_done k = tt

  -- ---- clauses

  abbrev HeadKnown : Scope → TWhen × List Local → Type 0
  HeadKnown scope h = WhenKnown text program scope.body h.0 × LocalsKnown text program scope.body h.1

  -- ---- arguments and items, one by one

  abbrev EachArgument : Scope → Args → Type 0
  EachArgument scope tree.no_args = Unit {0}
  EachArgument scope (tree.arg label given es) =
      ArgumentKnown text program texts scope.body (argument text scope given label) × EachArgument scope es

  arguments_known :
      (scope : Scope) (es : Args) (last : Arguments) → EachArgument scope es
      → ArgumentsKnown text program texts scope.body last
      → ArgumentsKnown text program texts scope.body (arguments text scope es last)
  arguments_known scope tree.no_args last each sure = sure
  arguments_known scope (tree.arg label given es) last each sure =
      then_given text program texts scope.body (argument text scope given label) (arguments text scope es last)
      each.0 (arguments_known scope es last each.1 sure)

  abbrev EachItem : Scope → Span → Args → Type 0
  EachItem scope call tree.no_args = Unit {0}
  EachItem scope call (tree.arg label given es) =
      Sure' (print_item text scope call given label) (Fine scope) × EachItem scope call es

  items_printed :
      (scope : Scope) (call : Span) (es : Args) (last : Judged TExps) → EachItem scope call es
      → Sure' last (ExpsKnown text program scope.body)
      → Sure' (print_items text scope call es last) (ExpsKnown text program scope.body)
  items_printed scope call tree.no_args last each sure = sure
  items_printed scope call (tree.arg label given es) last each sure =
      items_known text program texts scope.body (print_item text scope call given label)
      (print_items text scope call es last)
      each.0 (items_printed scope call es last each.1 sure)

  condition_known :
      (scope : Scope) (e : Exp) (rule : Typable) → TypableKnown text program texts scope.body rule
      → Sure' (condition e rule) (ConditionKnown text program scope.body)
  condition_known scope e rule sure = value_of_known text program texts scope.body type.Bool e rule sure

  any_value :
      (scope : Scope) (e : Exp) (rule : Typable) → TypableKnown text program texts scope.body rule
      → Sure' (as_value (span_of e) None (rule None)) (Value text program scope.body None)
  any_value scope e rule sure = value_known text program scope.body (span_of e) None (rule None) (sure None)

  bound_known :
      (scope : Scope) (e : Exp) (rule : Typable) → TypableKnown text program texts scope.body rule
      → Sure' (bound e rule) (BoundKnown text program scope.body)
  bound_known scope e rule sure = value_of_known text program texts scope.body type.Int e rule sure

  mutual
    pub expression_known :
        (scope : Scope) → ScopeKnown text program scope → (e : Exp) (wanted : Option Ty)
        → Sure' (expression text scope e wanted) (Fine scope)
    expression_known scope known (tree.number s negative n) wanted =
        then _ _ _ _ a_node (λ id u. number_known text program scope.body id s negative n)
    expression_known scope known (tree.text s t) wanted = then _ _ _ _ a_node (λ id u. gives _ _ refl)
    expression_known scope known (tree.truth s b) wanted = then _ _ _ _ a_node (λ id u. gives _ _ refl)
    expression_known scope known (tree.path p) wanted =
        then _ _ _ _ a_node (λ id u. path_value_known text program texts scope known id p.span p.root p.fields)
    expression_known scope known (tree.implicit_member s n) wanted =
        then _ _ _ _ a_node (λ id u. implicit_known text program texts scope.body id s wanted n nothing_given
        (nothing_known text program texts scope.body))
    expression_known scope known (tree.parenthesized s e) wanted =
        parenthesized_known text program scope.body s (expression text scope e wanted)
        (expression_known scope known e wanted)
    expression_known scope known (tree.consumed s p) wanted =
        consumed_known text program scope.body s (a_place text scope p)
        (λ q. not (is_copyable text.types q.at.ty) || is_empty q.place.fields) T28
        (place_known text program texts scope known p)
    expression_known scope known (tree.prefix s o e) wanted =
        value_then text program scope.body (Fine scope) None (as_value (span_of e) None (expression text scope e None))
        (λ id t. prefixed id s o t) (any_value scope e (expression text scope e) (expression_known scope known e))
        (λ id t h. prefixed_known text program scope.body id s o t h.0)
    expression_known scope known (tree.binary s o mark a b) wanted =
        binary_known text program scope.body (as_value (span_of a) None (expression text scope a None))
        (as_value (span_of b) None (expression text scope b None)) (λ id x y. operated id s mark (operation o) x y)
        (any_value scope a (expression text scope a) (expression_known scope known a))
        (any_value scope b (expression text scope b) (expression_known scope known b))
        (λ id x y hx hy. operated_known text program scope.body id s mark (operation o) x y hx hy)
    expression_known scope known (tree.choice s c a b) wanted =
        choice_known text program scope.body wanted (condition c (expression text scope c))
        (as_value (span_of a) wanted (expression text scope a wanted))
        (as_value (span_of b) wanted (expression text scope b wanted)) (λ id t x y. chosen id s t x y)
        (condition_known scope c (expression text scope c) (expression_known scope known c))
        (value_known text program scope.body (span_of a) wanted (expression text scope a wanted)
        (expression_known scope known a wanted))
        (value_known text program scope.body (span_of b) wanted (expression text scope b wanted)
        (expression_known scope known b wanted))
        (λ id t x y ht hx hy. chosen_known text program scope.body id s t x y ht.0 ht.1 hx hy)
    expression_known scope known (tree.member s e n) wanted =
        value_then text program scope.body (Fine scope) None (as_value (span_of e) None (expression text scope e None))
        (λ id t. member_of text id s t n (path_of t))
        (any_value scope e (expression text scope e) (expression_known scope known e))
        (λ id t h. member_known text program texts scope.body id s t n h.0)
    expression_known scope known (tree.call s f es) wanted =
        call_known text program texts scope known (arguments text scope es nothing_given)
        (arguments_known scope es nothing_given (each_argument_known scope known es)
        (nothing_known text program texts scope.body))
        (print_items text scope s es (yields typed.no_exps))
        (items_printed scope s es (yields typed.no_exps) (each_item_known scope known s es) (gives _ _ tt))
        wanted s (callee text scope f) (callee_known scope known f)
    expression_known scope known (tree.call_closing s f es c) wanted =
        call_known text program texts scope known
        (arguments text scope es (trailing (closure_span c) (closure text scope c)))
        (arguments_known scope es (trailing (closure_span c) (closure text scope c))
        (each_argument_known scope known es)
        (trailing_given text program texts scope.body (closure_span c) (closure text scope c)
        (closure_known scope known c)))
        (refused _ _) (never _ _ _) wanted s (callee text scope f) (callee_known scope known f)
    expression_known scope known (tree.call_closure s f c) wanted =
        call_known text program texts scope known (trailing (closure_span c) (closure text scope c))
        (trailing_given text program texts scope.body (closure_span c) (closure text scope c)
        (closure_known scope known c))
        (refused _ _) (never _ _ _) wanted s (callee text scope f) (callee_known scope known f)

    callee_known :
        (scope : Scope) (known : ScopeKnown text program scope) (e : Exp)
        → CalleeKnown text program texts scope known (callee text scope e)
    callee_known scope known (tree.path p) = tt
    callee_known scope known (tree.implicit_member s n) = tt
    callee_known scope known (tree.member s e n) = expression_known scope known e None
    callee_known scope known (tree.number s negative n) = tt
    callee_known scope known (tree.text s t) = tt
    callee_known scope known (tree.truth s b) = tt
    callee_known scope known (tree.parenthesized s e) = tt
    callee_known scope known (tree.consumed s p) = tt
    callee_known scope known (tree.prefix s o e) = tt
    callee_known scope known (tree.binary s o mark a b) = tt
    callee_known scope known (tree.choice s c a b) = tt
    callee_known scope known (tree.call s f es) = tt
    callee_known scope known (tree.call_closing s f es c) = tt
    callee_known scope known (tree.call_closure s f c) = tt

    each_argument_known : (scope : Scope) → ScopeKnown text program scope → (es : Args) → EachArgument scope es
    each_argument_known scope known tree.no_args = tt
    each_argument_known scope known (tree.arg label given es) =
        (argument_known scope known given label, each_argument_known scope known es)

    argument_known :
        (scope : Scope) → ScopeKnown text program scope → (given : Given) (label : Option Name)
        → ArgumentKnown text program texts scope.body (argument text scope given label)
    argument_known scope known (tree.value e) label =
        value_given text program texts scope.body label (span_of e) (expression text scope e)
        (expression_known scope known e)
    argument_known scope known (tree.address s p) label = address_given text program texts scope known label p
    argument_known scope known (tree.closing c) label =
        closure_given text program texts scope.body label (closure_span c) (closure text scope c)
        (closure_known scope known c)

    each_item_known :
        (scope : Scope) → ScopeKnown text program scope → (call : Span) (es : Args) → EachItem scope call es
    each_item_known scope known call tree.no_args = tt
    each_item_known scope known call (tree.arg label given es) =
        (print_item_known scope known call given label, each_item_known scope known call es)

    print_item_known :
        (scope : Scope) → ScopeKnown text program scope → (call : Span) (given : Given) (label : Option Name)
        → Sure' (print_item text scope call given label) (Fine scope)
    print_item_known scope known call (tree.value e) label =
        item_known text program texts scope.body label call (span_of e) (expression text scope e None)
        (expression_known scope known e None)
    print_item_known scope known call (tree.address s p) label = never _ _ _
    print_item_known scope known call (tree.closing c) label = never _ _ _

    closure_known :
        (scope : Scope) → ScopeKnown text program scope → (c : Clo) (call : Span) (ty : Ty)
        → Sure' (closure text scope c call ty) (Fine scope)
    closure_known scope known (tree.closure s names ss) call ty =
        literal_known text program texts scope known s names
        (λ inner. statements text inner ss (is_single ss) []) call ty
        (λ inner inside. statements_known inner inside ss (is_single ss) [] (nothing_done inner.body))

    statement_known :
        (scope : Scope) → ScopeKnown text program scope → (t : Stm) (alone : Bool)
        → Sure' (statement text scope t alone) (StatedKnown text program texts scope.body)
    statement_known scope known (tree.let_in s word n written e) alone =
        then _ _ _ _ a_node (λ id u.
        with_value_known text program texts scope known id s word n (written_type_of text written) e
        (expression text scope e) (expression_known scope known e))
    statement_known scope known (tree.declare s word n written) alone =
        without_value_known text program texts scope known s word n written
    statement_known scope known (tree.assign s p o mark e) alone =
        place_then text program scope.body (a_place text scope p)
        (λ id q. assigned id s q mark (updating o) e (expression text scope e))
        (place_known text program texts scope known p)
        (λ id q place. assigned_known text program texts scope.body id s q mark (updating o) e (expression text scope e)
        place (expression_known scope known e))
    statement_known scope known (tree.ignore s written e) alone =
        value_then text program scope.body (StatedKnown text program texts scope.body) (written_type_of text written)
        (as_value (span_of e) (written_type_of text written) (expression text scope e (written_type_of text written)))
        (λ id t. plain (typed.ignore (at id s type.Unit) t))
        (value_known text program scope.body (span_of e) (written_type_of text written)
        (expression text scope e (written_type_of text written))
        (expression_known scope known e (written_type_of text written)))
        (λ id t h. gives _ _ (h.0, tt))
    statement_known scope known (tree.discard_self s) alone =
        then _ _ _ _ a_node (λ id u. then _ _ _ _ (holds (true_that scope.may_discard) _ _) (λ u may.
        discarded_known text program texts scope known id s scope.self known.self))
    statement_known scope known (tree.if_then s c a) alone =
        if_known text program scope.body s (condition c (expression text scope c))
        (condition_known scope c (expression text scope c) (expression_known scope known c))
        (block_of text scope a) (block_of_known scope known a)
    statement_known scope known (tree.if_else s c a b) alone =
        if_else_known text program scope.body s (condition c (expression text scope c))
        (condition_known scope c (expression text scope c) (expression_known scope known c))
        (block_of text scope a) (block_of_known scope known a) (block_of text scope b) (block_of_known scope known b)
    statement_known scope known (tree.else_if s c a b) alone =
        else_if_known text program scope.body s (condition c (expression text scope c))
        (condition_known scope c (expression text scope c) (expression_known scope known c))
        (block_of text scope a) (block_of_known scope known a) (statement text scope b false)
        (statement_known scope known b false)
    statement_known scope known (tree.loop_while s c a) alone =
        while_known text program scope.body s (condition c (expression text scope c))
        (condition_known scope c (expression text scope c) (expression_known scope known c))
        (block_of text (inside_loop scope) a) (block_of_known (inside_loop scope) (in_loop text program scope known) a)
    statement_known scope known (tree.loop_repeat s a c) alone =
        repeat_known text program scope.body s (condition c (expression text scope c))
        (condition_known scope c (expression text scope c) (expression_known scope known c))
        (block_of text (inside_loop scope) a) (block_of_known (inside_loop scope) (in_loop text program scope known) a)
    statement_known scope known (tree.loop_for s n low o mark high a) alone =
        for_known text program scope.body s o mark (loop_variable scope n) (bound low (expression text scope low))
        (bound high (expression text scope high)) (λ x. block_of text (inside_loop (with_locals scope x.1)) a)
        (loop_known text program texts scope known n)
        (bound_known scope low (expression text scope low) (expression_known scope known low))
        (bound_known scope high (expression text scope high) (expression_known scope known high))
        (λ x hx. block_of_known (inside_loop (with_locals scope x.1))
        (in_loop text program (with_locals scope x.1) (behind text program scope x.1 known hx)) a)
    statement_known scope known (tree.switch s e cs) alone =
        switch_known text program scope.body s (word_of 6 s) (as_value (span_of e) None (expression text scope e None))
        (λ t. clauses text (inside_switch scope) cs (how_taken (is_copyable text.types (type_of t)) (path_of t))
        (type_of t))
        (weaken _ _ _ (value_known text program scope.body (span_of e) None (expression text scope e None)
        (expression_known scope known e None)) (λ t h. h.0))
        (λ t ht. clauses_known (inside_switch scope) (in_switch text program scope known) cs
        (how_taken (is_copyable text.types (type_of t)) (path_of t)) (type_of t)
        (type_known text program scope.body t ht))
    statement_known scope known (tree.leave s) alone =
        then _ _ _ _ a_node (λ id u. then _ _ _ _ (holds (true_that (scope.in_loop || scope.in_switch)) _ _)
        (λ u inside. gives _ _ (tt, tt)))
    statement_known scope known (tree.go_on s) alone =
        then _ _ _ _ a_node (λ id u. then _ _ _ _ (holds (true_that scope.in_loop) _ _)
        (λ u inside. gives _ _ (tt, tt)))
    statement_known scope known (tree.return_none s) alone =
        then _ _ _ _ a_node (λ id u. returned_known text program texts scope known id s)
    statement_known scope known (tree.return_value s e) alone =
        returned_value text program scope.body s scope.result (has_result scope.result) T18
        (value_of scope.result e (expression text scope e))
        (value_of_known text program texts scope.body scope.result e (expression text scope e)
        (expression_known scope known e))
        known.gives_back
    statement_known scope known (tree.evaluate e) alone =
        then _ _ _ _ a_node (λ id u.
        evaluated_known text program texts scope.body (alone && has_result scope.result) id scope.result e
        (expression text scope e) (expression_known scope known e))

    pub statements_known :
        (scope : Scope) → ScopeKnown text program scope → (ss : Stms) (alone : Bool) (done : List TStm)
        → Done scope.body done
        → Sure' (statements text scope ss alone done) (StmsKnown text program scope.body)
    statements_known scope known tree.no_stms alone done h = gives _ _ (all_done scope.body done h)
    statements_known scope known (tree.stm s ss) alone done h =
        statements_then text program scope.body (statement text scope s alone)
        (λ t. statements text (with_locals scope t.1) ss alone (done ++ t.0 ∷ [])) (statement_known scope known s alone)
        (λ t ht. statements_known (with_locals scope t.1) (behind text program scope t.1 known ht.1) ss alone
        (done ++ t.0 ∷ []) (one_more scope.body done t.0 h ht.0))

    block_of_known :
        (scope : Scope) → ScopeKnown text program scope → (b : Blk)
        → Sure' (block_of text scope b) (BlkKnown text program scope.body)
    block_of_known scope known (tree.block s ss) =
        block_known text program texts scope.body s (statements text scope ss false [])
        (statements_known scope known ss false [] (nothing_done scope.body))

    head_known :
        (scope : Scope) → ScopeKnown text program scope → (w : When) (s : Span) (how : How) (ty : Ty)
        → IsKnown text program ty
        → Sure' (head text scope w s how ty) (HeadKnown scope)
    head_known scope known (tree.case_of ps) s how ty typed =
        then _ _ _ _ (alternatives_known text program texts scope (unguarded how) ps ty typed) (λ qs hq.
        then _ _ _ _ (holds (true_that (one_or_none ps qs.1)) _ _) (λ u one. gives _ _ (hq.0, hq.1.0)))
    head_known scope known (tree.case_where p e) s how ty typed =
        guarded_known text program scope.body how (pattern_of text scope how p ty)
        (λ q. condition e (expression text (with_locals scope q.1) e))
        (pattern_known text program texts scope how p ty typed)
        (λ q hq. condition_known (with_locals scope q.1) e (expression text (with_locals scope q.1) e)
        (expression_known (with_locals scope q.1) (behind text program scope q.1 known hq) e))
    head_known scope known tree.default s how ty typed = gives _ _ (tt, tt)

    clauses_known :
        (scope : Scope) → ScopeKnown text program scope → (cs : Clauses) (how : How) (ty : Ty) → IsKnown text program ty
        → Sure' (clauses text scope cs how ty) (ClausesKnown text program scope.body)
    clauses_known scope known tree.no_clauses how ty typed = gives _ _ tt
    clauses_known scope known (tree.clause s w ss cs) how ty typed =
        clause_known text program scope.body s (head text scope w s how ty)
        (λ h. statements text (with_locals scope h.1) ss false []) (clauses text scope cs how ty)
        (head_known scope known w s how ty typed)
        (λ h hh. statements_known (with_locals scope h.1) (behind text program scope h.1 known hh) ss false []
        (nothing_done scope.body))
        (clauses_known scope known cs how ty typed)
