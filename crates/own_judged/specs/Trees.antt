-- Expressions, statements and blocks, by cases on the tree.
use Rattle.std.specs.Prelude.{Bool, false, not, ◌&&◌, ◌||◌, List, [], ◌∷◌, ◌++◌, Option, None}
use Rattle.own_tree.specs.declared.place.Ty.{Ty}
use Rattle.own_tree.specs.declared.place.Ty.TheVariants as type
use Rattle.own_tree.specs.declared.span.Span.{Span}
use Rattle.own_tree.specs.declared.tree.Name.{Name}
use Rattle.own_tree.specs.Source as tree
use Rattle.own_tree.specs.Source.{Exp, Given, Args, Clo, Stm, Stms, When, Clauses, Blk}
use Rattle.own_tree.specs.TypedSource as typed
use Rattle.own_tree.specs.TypedSource.{TExp, TExps, TWhen, TStm, TStms, TClauses, TBlk}
use Rattle.own_tree.specs.TypedView.{stms_of}
use Rattle.own_shapes.specs.Types.{is_copyable, is_empty}
use Rattle.own_survey.specs.Parts.{word_of}
use Rattle.own_paths.specs.Ops.{has_result}
use Rattle.own_paths.specs.Within.{path_of}
use Rattle.own_judging.specs.Judged.{Judged}
use Rattle.own_judged.specs.Arguments.{Arguments, Argument, a_value, a_closure, nothing_given, and_then, trailing, an_item, and_items}
use Rattle.own_judged.specs.Calls.{Callee, by_path, by_case, by_member, by_value, an_address, call_of}
use Rattle.own_judged.specs.Closures.{a_block, closure_literal}
use Rattle.own_judged.specs.Codes.{T13, T18, T19, T22, T24, T28, T31}
use Rattle.own_judged.specs.Conditions.{true_that}
use Rattle.own_judged.specs.Names.{Local, Scope, with_locals, inside_loop, inside_switch}
use Rattle.own_judged.specs.Paths.{member_of, implicit, path_value, a_place}
use Rattle.own_judged.specs.Patterns.{How, how_taken, unguarded, moved, pattern_of, alternatives, one_or_none, all_matched}
use Rattle.own_judged.specs.Rules.{yields, ◌>>=◌, ◌>>◌, holding, refused, node, covering}
use Rattle.own_judged.specs.Statements.{Stated, plain, condition, bound, value_of, local_with_value, loop_variable, written_type_of, local_without_value, updating, assigned, is_single, evaluated, returned_none, discarded}
use Rattle.own_judged.specs.Text.{Text}
use Rattle.own_judged.specs.Values.{at, span_of, type_of, as_value, chosen, number_literal, operation, operated, prefixed}

abbrev pub closure_span : Clo → Span
closure_span (tree.closure s names ss) = s

module _ (text : Text) where
  abbrev mutual
    -- ---- expressions

    -- by the type that is expected, which goes into parentheses and into both branches of `?:`
    pub expression : Scope → Exp → (wanted : Option Ty) → Judged TExp
    expression scope (tree.number s negative n) wanted = do
      id ← node
      number_literal id s negative n
    expression scope (tree.text s t) wanted = do
      id ← node
      yields (typed.text (at id s type.Unit) t)
    expression scope (tree.truth s b) wanted = do
      id ← node
      yields (typed.truth (at id s type.Bool) b)
    expression scope (tree.path p) wanted = do
      id ← node
      path_value text scope id p.span p.root p.fields
    expression scope (tree.implicit_member s n) wanted = do
      id ← node
      implicit text id s wanted n nothing_given
    expression scope (tree.parenthesized s e) wanted = do
      id ← node
      t ← expression scope e wanted
      yields (typed.parenthesized (at id s (type_of t)) t)
    expression scope (tree.consumed s p) wanted = do
      id ← node
      q ← a_place text scope p
      holding (true_that (not (is_copyable text.types q.at.ty) || is_empty q.place.fields)) T28 s
      yields (typed.consumed (at id s q.at.ty) q)
    expression scope (tree.prefix s o e) wanted = do
      id ← node
      t ← as_value (span_of e) None (expression scope e None)
      prefixed id s o t
    expression scope (tree.binary s o mark a b) wanted = do
      id ← node
      x ← as_value (span_of a) None (expression scope a None)
      y ← as_value (span_of b) None (expression scope b None)
      operated id s mark (operation o) x y
    expression scope (tree.choice s c a b) wanted = do
      id ← node
      t ← condition c (expression scope c)
      x ← as_value (span_of a) wanted (expression scope a wanted)
      y ← as_value (span_of b) wanted (expression scope b wanted)
      chosen id s t x y
    expression scope (tree.member s e n) wanted = do
      id ← node
      t ← as_value (span_of e) None (expression scope e None)
      member_of text id s t n (path_of t)
    expression scope (tree.call s f es) wanted =
        call_of text scope wanted s (callee scope f)
        (arguments scope es nothing_given)
        (print_items scope s es (yields typed.no_exps))
    expression scope (tree.call_closing s f es c) wanted =
        call_of text scope wanted s (callee scope f)
        (arguments scope es (trailing (closure_span c) (closure scope c)))
        (refused T24 (closure_span c))
    expression scope (tree.call_closure s f c) wanted =
        call_of text scope wanted s (callee scope f)
        (trailing (closure_span c) (closure scope c))
        (refused T24 (closure_span c))

    -- ---- calls

    pub callee : Scope → Exp → Callee
    callee scope (tree.path p) = by_path p.root p.fields
    callee scope (tree.implicit_member s n) = by_case n
    callee scope (tree.member s e n) = by_member (expression scope e None) n
    callee scope (tree.number s negative n) = by_value
    callee scope (tree.text s t) = by_value
    callee scope (tree.truth s b) = by_value
    callee scope (tree.parenthesized s e) = by_value
    callee scope (tree.consumed s p) = by_value
    callee scope (tree.prefix s o e) = by_value
    callee scope (tree.binary s o mark a b) = by_value
    callee scope (tree.choice s c a b) = by_value
    callee scope (tree.call s f es) = by_value
    callee scope (tree.call_closing s f es c) = by_value
    callee scope (tree.call_closure s f c) = by_value

    -- arguments, before those that stand behind them
    pub arguments : Scope → Args → Arguments → Arguments
    arguments scope tree.no_args last = last
    arguments scope (tree.arg label given es) last = and_then (argument scope given label) (arguments scope es last)

    pub argument : Scope → Given → (label : Option Name) → Argument
    argument scope (tree.value e) label = a_value label (span_of e) (expression scope e)
    argument scope (tree.address s p) label = an_address text scope label p
    argument scope (tree.closing c) label = a_closure label (closure_span c) (closure scope c)

    pub print_items : Scope → (call : Span) → Args → Judged TExps → Judged TExps
    print_items scope call tree.no_args last = last
    print_items scope call (tree.arg label given es) last =
        and_items (print_item scope call given label) (print_items scope call es last)

    pub print_item : Scope → (call : Span) → Given → (label : Option Name) → Judged TExp
    print_item scope call (tree.value e) label = an_item label call (span_of e) (expression scope e None)
    print_item scope call (tree.address s p) label = refused T13 call
    print_item scope call (tree.closing c) label = refused T24 (closure_span c)

    -- by its call and the type of its parameter
    pub closure : Scope → Clo → (call : Span) → Ty → Judged TExp
    closure scope (tree.closure s names ss) =
        closure_literal text scope s names (λ inner. statements inner ss (is_single ss) [])

    -- ---- statements

    -- and whether it is alone in its body
    pub statement : Scope → Stm → (alone : Bool) → Judged Stated
    statement scope (tree.let_in s k n written e) alone = do
      id ← node
      local_with_value scope id s k n (written_type_of text written) e (expression scope e)
    statement scope (tree.declare s k n written) alone = local_without_value text scope s k n written
    statement scope (tree.assign s p o mark e) alone = do
      id ← node
      q ← a_place text scope p
      assigned id s q mark (updating o) e (expression scope e)
    statement scope (tree.ignore s written e) alone = do
      id ← node
      t ← as_value (span_of e) (written_type_of text written) (expression scope e (written_type_of text written))
      plain (typed.ignore (at id s type.Unit) t)
    statement scope (tree.discard_self s) alone = do
      id ← node
      holding (true_that scope.may_discard) T22 s
      discarded id s scope.self
    statement scope (tree.if_then s c a) alone = do
      id ← node
      t ← condition c (expression scope c)
      x ← block_of scope a
      plain (typed.if_then (at id s type.Unit) t x)
    statement scope (tree.if_else s c a b) alone = do
      id ← node
      t ← condition c (expression scope c)
      x ← block_of scope a
      y ← block_of scope b
      plain (typed.if_else (at id s type.Unit) t x y)
    statement scope (tree.else_if s c a b) alone = do
      id ← node
      t ← condition c (expression scope c)
      x ← block_of scope a
      y ← statement scope b false
      plain (typed.else_if (at id s type.Unit) t x y.0)
    statement scope (tree.loop_while s c a) alone = do
      id ← node
      t ← condition c (expression scope c)
      x ← block_of (inside_loop scope) a
      plain (typed.loop_while (at id s type.Unit) t x)
    statement scope (tree.loop_repeat s a c) alone = do
      id ← node
      x ← block_of (inside_loop scope) a
      t ← condition c (expression scope c)
      plain (typed.loop_repeat (at id s type.Unit) x t)
    statement scope (tree.loop_for s n low o mark high a) alone = do
      id ← node
      x ← loop_variable scope n
      first ← bound low (expression scope low)
      last ← bound high (expression scope high)
      b ← block_of (inside_loop (with_locals scope x.1)) a
      plain (typed.loop_for (at id s type.Unit) x.0 first o mark last b)
    statement scope (tree.switch s e cs) alone = do
      id ← node
      t ← as_value (span_of e) None (expression scope e None)
      ds ← clauses (inside_switch scope) cs (how_taken (is_copyable text.types (type_of t)) (path_of t)) (type_of t)
      covering text.types (type_of t) (all_matched ds) (word_of 6 s)
      plain (typed.switch (at id s type.Unit) t ds)
    statement scope (tree.leave s) alone = do
      id ← node
      holding (true_that (scope.in_loop || scope.in_switch)) T19 s
      plain (typed.leave (at id s type.Unit))
    statement scope (tree.go_on s) alone = do
      id ← node
      holding (true_that scope.in_loop) T19 s
      plain (typed.go_on (at id s type.Unit))
    statement scope (tree.return_none s) alone = do
      id ← node
      returned_none id s scope.result
    statement scope (tree.return_value s e) alone = do
      id ← node
      holding (true_that (has_result scope.result)) T18 s
      t ← value_of scope.result e (expression scope e)
      plain (typed.return_value (at id s type.Unit) t)
    statement scope (tree.evaluate e) alone = do
      id ← node
      evaluated (alone && has_result scope.result) id scope.result e (expression scope e)

    -- in order, behind those that became `done`; whether there is one alone in a body
    pub statements : Scope → Stms → (alone : Bool) → (done : List TStm) → Judged TStms
    statements scope tree.no_stms alone done = yields (stms_of done)
    statements scope (tree.stm s ss) alone done = do
      t ← statement scope s alone
      statements (with_locals scope t.1) ss alone (done ++ t.0 ∷ [])

    pub block_of : Scope → Blk → Judged TBlk
    block_of scope (tree.block s ss) = a_block s (statements scope ss false [])

    -- ---- clauses

    -- the head of the clause of that span, and the names that its statements see
    pub head : Scope → When → Span → How → Ty → Judged (TWhen × List Local)
    head scope (tree.case_of ps) s how ty = do
      qs ← alternatives text scope (unguarded how) ps ty
      holding (true_that (one_or_none ps qs.1)) T31 s
      yields (typed.case_of qs.0, qs.1)
    head scope (tree.case_where p e) s how ty = do
      q ← pattern_of text scope how p ty
      t ← condition e (expression (with_locals scope q.1) e)
      yields (typed.case_where q.0 t, moved how q.1)
    head scope tree.default s how ty = yields (typed.default, [])

    -- by how they take the subject, and its type
    pub clauses : Scope → Clauses → How → Ty → Judged TClauses
    clauses scope tree.no_clauses how ty = yields typed.no_clauses
    clauses scope (tree.clause s w ss cs) how ty = do
      h ← head scope w s how ty
      b ← statements (with_locals scope h.1) ss false []
      rest ← clauses scope cs how ty
      yields (typed.clause s h.0 b rest)
