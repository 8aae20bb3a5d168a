-- How many bodies expressions, statements and blocks make: one for each closure that stands in them.
use Rattle.std.specs.Prelude.{◌≡◌, ℕ, suc, ◌+◌, Bool, true, false, not, ◌&&◌, ◌||◌, if◌then◌else◌, List, [], ◌∷◌, ◌++◌, length, Option, Some, None, codes}
use Rattle.std.specs.Str.{bytes_eq}
use Rattle.std.proofs.Common.{refl, sym, arith}
use Rattle.own_tree.specs.declared.arithmetic.Arith.{Arith}
use Rattle.own_tree.specs.declared.place.Ty.{Ty}
use Rattle.own_tree.specs.declared.place.Ty.TheVariants as type
use Rattle.own_tree.specs.declared.span.Span.{Span}
use Rattle.own_tree.specs.declared.tree.Keyword.{Keyword}
use Rattle.own_tree.specs.declared.tree.Name.{Name}
use Rattle.own_tree.specs.declared.tree.Root.{Root}
use Rattle.own_tree.specs.declared.tree.Root.TheVariants as root
use Rattle.own_tree.specs.declared.typed.TypedPath.{TypedPath}
use Rattle.own_tree.specs.Source as tree
use Rattle.own_tree.specs.Source.{Exp, Given, Args, Clo, Stm, Stms, When, Clauses, Blk, Pats}
use Rattle.own_tree.specs.TypedSource as typed
use Rattle.own_tree.specs.TypedSource.{TPat, TExp, TExps, TWhen, TStm, TStms, TClauses, TBlk}
use Rattle.own_shapes.specs.Types.{is_copyable, is_empty}
use Rattle.own_survey.specs.Limits.{body_place, body_places}
use Rattle.own_survey.specs.Parts.{Part, a_print, a_scope, local_names, arg_count, word_of, exp_parts, given_parts, args_parts, closure_parts, stm_parts, stms_parts, when_parts, clauses_parts, block_parts, pats_parts, written_part, print_call, print_root}
use Rattle.own_paths.specs.Ops.{has_result}
use Rattle.own_paths.specs.Within.{path_of}
use Rattle.own_judging.specs.Judged.{Judged}
use Rattle.own_judged.specs.Arguments.{Arguments, nothing_given, trailing}
use Rattle.own_judged.specs.Codes.{T18, T28}
use Rattle.own_judged.specs.Conditions.{true_that, one_type, both as both_tests}
use Rattle.own_judged.specs.Closures.{binding_of}
use Rattle.own_judged.specs.Names.{Local, Scope, with_locals, inside_loop, inside_switch}
use Rattle.own_judged.specs.Paths.{member_of, a_place}
use Rattle.own_judged.specs.Patterns.{How, how_taken, unguarded, moved, pattern_of, one_or_none, all_matched}
use Rattle.own_judged.specs.Rules.{yields, ◌>>=◌, ◌>>◌, holding, refused, node, covering}
use Rattle.own_judged.specs.Statements.{Stated, Typable, plain, condition, bound, value_of, local_mode, or_unit, local_with_value, loop_variable, written_type_of, updating, assigned, is_effect, evaluated, is_single}
use Rattle.own_judged.specs.Text.{Text}
use Rattle.own_judged.specs.Trees.{closure_span, expression, callee, arguments, argument, print_items, print_item, closure, statement, statements, block_of, head, clauses}
use Rattle.own_judged.specs.Values.{at, span_of, type_of, is_of, as_value, chosen, operation, operated, prefixed}
use Rattle.own_known.proofs.CallsCounted.{ArgumentCount, value_counts, closure_counts as closure_given, address_counts, then_counts, trailing_counts, item_counts, items_count, CalleeCounts, call_counts, block_counts, literal_counts}
use Rattle.own_known.proofs.Counting.{Counts, counted, both, neither, first_only, second_only, given, judged, never, covers, a_node, declares_value}
use Rattle.own_known.proofs.NoBodies.{as_value_counts, chosen_none, literal_none, operated_none, prefixed_none, member_none, ArgumentsCount, nothing_counts, implicit_counts, path_value_none, place_none, pattern_none, alternatives_none, loop_none, without_value_none, returned_nothing, discarded_none}

-- ---- the bodies of parts

abbrev pub in_parts : List Part → ℕ
in_parts ps = length (body_places ps)

length_joined : {A : Type 0} (xs ys : List A) → length (xs ++ ys) ≡ length xs + length ys
length_joined [] ys = omega arith
length_joined (x ∷ xs) ys = omega (arith, length_joined xs ys)

pub joined : (ps qs : List Part) → in_parts (ps ++ qs) ≡ in_parts ps + in_parts qs
joined [] qs = omega arith
joined (p ∷ ps) qs =
    omega (
      arith,
      length_joined (body_place p) (body_places (ps ++ qs)),
      joined ps qs,
      length_joined (body_place p)
          (body_places ps),
    )

root_parts : (r : Root) (ns : List Name) (s : Span) (n : ℕ) → in_parts (print_root r ns s n) ≡ 0
root_parts (root.Named m) [] s n = by_test (bytes_eq m.text (codes "print"))
  where
    by_test : (b : Bool) → in_parts (if b then a_print s n ∷ [] else []) ≡ 0
    by_test true = refl
    by_test false = refl
root_parts (root.Named m) (f ∷ fs) s n = refl
root_parts (root.SelfWord w) ns s n = refl

call_parts : (f : Exp) (n : ℕ) → in_parts (print_call f n) ≡ 0
call_parts (tree.path p) n = root_parts p.root p.fields p.span n
call_parts (tree.number s b k) n = refl
call_parts (tree.text s t) n = refl
call_parts (tree.truth s b) n = refl
call_parts (tree.implicit_member s m) n = refl
call_parts (tree.parenthesized s e) n = refl
call_parts (tree.consumed s p) n = refl
call_parts (tree.prefix s o e) n = refl
call_parts (tree.binary s o m a b) n = refl
call_parts (tree.choice s c a b) n = refl
call_parts (tree.member s e m) n = refl
call_parts (tree.call s f es) n = refl
call_parts (tree.call_closing s f es c) n = refl
call_parts (tree.call_closure s f c) n = refl

written_parts : (w : Option Name) → in_parts (written_part w) ≡ 0
written_parts None = refl
written_parts (Some n) = refl

patterns_parts : (ps : Pats) → in_parts (pats_parts ps) ≡ 0
patterns_parts tree.no_pats = refl
patterns_parts (tree.pat p ps) = patterns_parts ps

-- ---- rules by whatever rules judge their parts

parenthesized_counts : (s : Span) (e : Judged TExp) (n : ℕ) → Counts e n
    → Counts (do
      id ← node
      t ← e
      yields (typed.parenthesized (at id s (type_of t)) t)) n
parenthesized_counts s e n c = second_only _ _ n a_node (λ id. first_only _ _ n c (λ t. given _))

consumed_none : (s : Span) (p : Judged TypedPath) (may : TypedPath → Bool) (code : ℕ) → Counts p 0
    → Counts (do
      id ← node
      q ← p
      holding (true_that (may q)) code s
      yields (typed.consumed (at id s q.at.ty) q)) 0
consumed_none s p may code c =
    neither _ _ a_node (λ id. neither _ _ c (λ q. neither _ _ (judged (true_that (may q)) code s) (λ u. given _)))

-- something, and what follows of it
then_none : {A B : Type 0} (e : Judged A) (rest : ℕ → A → Judged B) (n : ℕ) → Counts e n
    → ((id : ℕ) (t : A) → Counts (rest id t) 0)
    → Counts (do
      id ← node
      t ← e
      rest id t) n
then_none e rest n c more = second_only _ _ n a_node (λ id. first_only _ _ n c (λ t. more id t))

after_none : {A B : Type 0} (e : Judged A) (rest : ℕ → A → Judged B) (n : ℕ) → Counts e 0
    → ((id : ℕ) (t : A) → Counts (rest id t) n)
    → Counts (do
      id ← node
      t ← e
      rest id t) n
after_none e rest n c more = second_only _ _ n a_node (λ id. second_only _ _ n c (λ t. more id t))

two_count :
    {A B C : Type 0} (a : Judged A) (b : Judged B) (rest : ℕ → A → B → Judged C) (m n : ℕ) → Counts a m → Counts b n
    → ((id : ℕ) (x : A) (y : B) → Counts (rest id x y) 0)
    → Counts (do
      id ← node
      x ← a
      y ← b
      rest id x y) (m + n)
two_count a b rest m n c d more =
    second_only _ _ (m + n) a_node (λ id. both _ _ m n c (λ x. first_only _ _ n d (λ y. more id x y)))

three_count :
    {A B C D : Type 0} (a : Judged A) (b : Judged B) (c : Judged C) (rest : ℕ → A → B → C → Judged D) (l m n : ℕ)
    → Counts a l → Counts b m → Counts c n → ((id : ℕ) (x : A) (y : B) (z : C) → Counts (rest id x y z) 0)
    → Counts (do
      id ← node
      x ← a
      y ← b
      z ← c
      rest id x y z) (l + (m + n))
three_count a b c rest l m n p q r more =
    second_only _ _ (l + (m + n)) a_node
    (λ id. both _ _ l (m + n) p (λ x. both _ _ m n q (λ y. first_only _ _ n r (λ z. more id x y z))))

for_counts :
    {X : Type 0} (turn : Judged X) (low high : Judged TExp) (a : X → Judged TBlk)
    (rest : ℕ → X → TExp → TExp → TBlk → Judged Stated)
    (l m n : ℕ) → Counts turn 0 → Counts low l → Counts high m → ((x : X) → Counts (a x) n)
    → ((id : ℕ) (x : X) (first last : TExp) (b : TBlk) → Counts (rest id x first last b) 0)
    → Counts (do
      id ← node
      x ← turn
      first ← low
      last ← high
      b ← a x
      rest id x first last b) (l + (m + n))
for_counts turn low high a rest l m n t p q r more =
    second_only _ _ (l + (m + n)) a_node (λ id. second_only _ _ (l + (m + n)) t (λ x. both _ _ l (m + n) p
    (λ first. both _ _ m n q (λ last. first_only _ _ n (r x) (λ b. more id x first last b)))))

switch_counts :
    (text : Text) (s at_word : Span) (e : Judged TExp) (cs : TExp → Judged TClauses) (m n : ℕ) → Counts e m
    → ((t : TExp) → Counts (cs t) n)
    → Counts (do
      id ← node
      t ← e
      ds ← cs t
      covering text.types (type_of t) (all_matched ds) at_word
      plain (typed.switch (at id s type.Unit) t ds)) (m + n)
switch_counts text s at_word e cs m n c d =
    second_only _ _ (m + n) a_node (λ id. both _ _ m n c (λ t. first_only _ _ n (d t)
    (λ ds. neither _ _ (covers text.types (type_of t) (all_matched ds) at_word) (λ u. given _))))

returned_counts : (s : Span) (gives_value : Bool) (code : ℕ) (e : Judged TExp) (n : ℕ) → Counts e n
    → Counts (do
      id ← node
      holding (true_that gives_value) code s
      t ← e
      plain (typed.return_value (at id s type.Unit) t)) n
returned_counts s gives_value code e n c =
    second_only _ _ n a_node (λ id. second_only _ _ n (judged (true_that gives_value) code s)
    (λ u. first_only _ _ n c (λ t. given _)))

guarded_counts :
    (how : How) (p : Judged (TPat × List Local)) (e : TPat × List Local → Judged TExp) (n : ℕ) → Counts p 0
    → ((q : TPat × List Local) → Counts (e q) n)
    → Counts {A = TWhen × List Local} (do
      q ← p
      t ← e q
      yields (typed.case_where q.0 t, moved how q.1)) n
guarded_counts how p e n c d = second_only _ _ n c (λ q. first_only _ _ n (d q) (λ t. given _))

clause_counts :
    (s : Span) (h : Judged (TWhen × List Local)) (ss : TWhen × List Local → Judged TStms) (cs : Judged TClauses)
    (l m n : ℕ)
    → Counts h l → ((w : TWhen × List Local) → Counts (ss w) m) → Counts cs n
    → Counts (do
      w ← h
      b ← ss w
      rest ← cs
      yields (typed.clause s w.0 b rest)) (l + (m + n))
clause_counts s h ss cs l m n p q r =
    both _ _ l (m + n) p (λ w. both _ _ m n (q w) (λ b. first_only _ _ n r (λ rest. given _)))

stated_then :
    (first : Judged Stated) (rest : Stated → Judged TStms) (m n : ℕ) → Counts first m
    → ((t : Stated) → Counts (rest t) n) → Counts (first >>= rest) (m + n)
stated_then first rest m n c d = both _ _ m n c d

-- ---- statements with an expression

abbrev TypableCounts : Typable → ℕ → Type 0
TypableCounts rule n = (wanted : Option Ty) → Counts (rule wanted) n

value_of_counts : (ty : Ty) (e : Exp) (rule : Typable) (n : ℕ) → TypableCounts rule n → Counts (value_of ty e rule) n
value_of_counts ty e rule n c = as_value_counts (span_of e) (Some ty) (rule (Some ty)) n (c (Some ty))

with_value_counts :
    (scope : Scope) (id : ℕ) (s : Span) (word : Keyword) (m : Name) (written : Option Ty) (e : Exp) (rule : Typable)
    (n : ℕ)
    → TypableCounts rule n → Counts (local_with_value scope id s word m written e rule) n
with_value_counts scope id s word m written e rule n c =
    first_only _ _ n (declares_value (binding_of m.text (or_unit written) (local_mode word) m.span scope.body)
    (as_value (span_of e) written (rule written))
    (λ t. binding_of m.text (type_of t) (local_mode word) m.span scope.body) n
    (as_value_counts (span_of e) written (rule written) n (c written))) (λ x. given _)

assigned_counts :
    (id : ℕ) (s : Span) (p : TypedPath) (mark : Span) (o : Option Arith) (e : Exp) (rule : Typable) (n : ℕ)
    → TypableCounts rule n → Counts (assigned id s p mark o e rule) n
assigned_counts id s p mark None e rule n c = first_only _ _ n (value_of_counts p.at.ty e rule n c) (λ t. given _)
assigned_counts id s p mark (Some o) e rule n c =
    first_only _ _ n (as_value_counts (span_of e) None (rule None) n (c None))
    (λ t. neither _ _ (judged (both_tests (one_type p.at.ty type.Int) (is_of type.Int t)) _ _) (λ u. given _))

evaluated_counts :
    (gives_back : Bool) (id : ℕ) (result : Ty) (e : Exp) (rule : Typable) (n : ℕ) → TypableCounts rule n
    → Counts (evaluated gives_back id result e rule) n
evaluated_counts true id result e rule n c = first_only _ _ n (value_of_counts result e rule n c) (λ t. given _)
evaluated_counts false id result e rule n c =
    second_only _ _ n (judged (true_that (is_effect e)) _ _) (λ u. first_only _ _ n (c None) (λ t. given _))

-- ---- the tree

module _ (text : Text) where
  abbrev EachArgument : Scope → Args → Type 0
  EachArgument scope tree.no_args = Unit {0}
  EachArgument scope (tree.arg label given es) =
      ArgumentCount (argument text scope given label) (in_parts (given_parts given)) × EachArgument scope es

  arguments_count :
      (scope : Scope) (es : Args) (last : Arguments) (n : ℕ) → EachArgument scope es → ArgumentsCount text last n
      → ArgumentsCount text (arguments text scope es last) (in_parts (args_parts es) + n)
  arguments_count scope tree.no_args last n each c s ps = counted _ n (0 + n) (omega arith) (c s ps)
  arguments_count scope (tree.arg label given es) last n each c s ps =
      counted _ (in_parts (given_parts given) + (in_parts (args_parts es) + n))
      (in_parts (given_parts given ++ args_parts es) + n)
      (omega (arith, joined (given_parts given) (args_parts es)))
      (then_counts text (argument text scope given label) (arguments text scope es last) (in_parts (given_parts given))
      (in_parts (args_parts es) + n) each.0 (arguments_count scope es last n each.1 c) s ps)

  abbrev EachItem : Scope → Span → Args → Type 0
  EachItem scope call tree.no_args = Unit {0}
  EachItem scope call (tree.arg label given es) =
      Counts (print_item text scope call given label) (in_parts (given_parts given)) × EachItem scope call es

  printed_count :
      (scope : Scope) (call : Span) (es : Args) (last : Judged TExps) (n : ℕ) → EachItem scope call es → Counts last n
      → Counts (print_items text scope call es last) (in_parts (args_parts es) + n)
  printed_count scope call tree.no_args last n each c = counted _ n (0 + n) (omega arith) c
  printed_count scope call (tree.arg label given es) last n each c =
      counted _ (in_parts (given_parts given) + (in_parts (args_parts es) + n))
      (in_parts (given_parts given ++ args_parts es) + n)
      (omega (arith, joined (given_parts given) (args_parts es)))
      (items_count text (print_item text scope call given label) (print_items text scope call es last)
      (in_parts (given_parts given))
      (in_parts (args_parts es) + n) each.0 (printed_count scope call es last n each.1 c))

  -- the parts of a call
  called_parts :
      (f : Exp) (k : ℕ) (rest : List Part)
      → in_parts (print_call f k ++ exp_parts f ++ rest) ≡ in_parts (exp_parts f) + in_parts rest
  called_parts f k rest =
      omega (arith, joined (print_call f k ++ exp_parts f) rest, call_parts f k, joined (print_call f k) (exp_parts f))

  written_value : (w : Option Name) (e : Exp) → in_parts (written_part w ++ exp_parts e) ≡ in_parts (exp_parts e)
  written_value w e = omega (arith, joined (written_part w) (exp_parts e), written_parts w)

  three_parts : (ps qs rs : List Part) → in_parts (ps ++ qs ++ rs) ≡ in_parts ps + (in_parts qs + in_parts rs)
  three_parts ps qs rs = omega (arith, joined (ps ++ qs) rs, joined ps qs)

  mutual
    pub expression_counts :
        (scope : Scope) (e : Exp) (wanted : Option Ty)
        → Counts (expression text scope e wanted) (in_parts (exp_parts e))
    expression_counts scope (tree.number s negative n) wanted = neither _ _ a_node (λ id. literal_none id s negative n)
    expression_counts scope (tree.text s t) wanted = neither _ _ a_node (λ id. given _)
    expression_counts scope (tree.truth s b) wanted = neither _ _ a_node (λ id. given _)
    expression_counts scope (tree.path p) wanted =
        neither _ _ a_node (λ id. path_value_none text scope id p.span p.root p.fields)
    expression_counts scope (tree.implicit_member s n) wanted =
        neither _ _ a_node (λ id. implicit_counts text id s wanted n nothing_given 0 (nothing_counts text))
    expression_counts scope (tree.parenthesized s e) wanted =
        parenthesized_counts s (expression text scope e wanted) (in_parts (exp_parts e))
        (expression_counts scope e wanted)
    expression_counts scope (tree.consumed s p) wanted =
        consumed_none s (a_place text scope p)
        (λ q. not (is_copyable text.types q.at.ty) || is_empty q.place.fields) T28 (place_none text scope p)
    expression_counts scope (tree.prefix s o e) wanted =
        then_none (as_value (span_of e) None (expression text scope e None)) (λ id t. prefixed id s o t)
        (in_parts (exp_parts e))
        (as_value_counts (span_of e) None (expression text scope e None) (in_parts (exp_parts e))
        (expression_counts scope e None))
        (λ id t. prefixed_none id s o t)
    expression_counts scope (tree.binary s o mark a b) wanted =
        counted _ (in_parts (exp_parts a) + in_parts (exp_parts b)) (in_parts (exp_parts a ++ exp_parts b))
        (sym (joined (exp_parts a) (exp_parts b)))
        (two_count (as_value (span_of a) None (expression text scope a None))
        (as_value (span_of b) None (expression text scope b None))
        (λ id x y. operated id s mark (operation o) x y) (in_parts (exp_parts a)) (in_parts (exp_parts b))
        (as_value_counts (span_of a) None (expression text scope a None) (in_parts (exp_parts a))
        (expression_counts scope a None))
        (as_value_counts (span_of b) None (expression text scope b None) (in_parts (exp_parts b))
        (expression_counts scope b None))
        (λ id x y. operated_none id s mark (operation o) x y))
    expression_counts scope (tree.choice s c a b) wanted =
        counted _ (in_parts (exp_parts c) + (in_parts (exp_parts a) + in_parts (exp_parts b)))
        (in_parts (exp_parts c ++ exp_parts a ++ exp_parts b))
        (sym (three_parts (exp_parts c) (exp_parts a) (exp_parts b)))
        (three_count (condition c (expression text scope c))
        (as_value (span_of a) wanted (expression text scope a wanted))
        (as_value (span_of b) wanted (expression text scope b wanted)) (λ id t x y. chosen id s t x y)
        (in_parts (exp_parts c)) (in_parts (exp_parts a)) (in_parts (exp_parts b))
        (value_of_counts type.Bool c (expression text scope c) (in_parts (exp_parts c)) (expression_counts scope c))
        (as_value_counts (span_of a) wanted (expression text scope a wanted) (in_parts (exp_parts a))
        (expression_counts scope a wanted))
        (as_value_counts (span_of b) wanted (expression text scope b wanted) (in_parts (exp_parts b))
        (expression_counts scope b wanted))
        (λ id t x y. chosen_none id s t x y))
    expression_counts scope (tree.member s e n) wanted =
        then_none (as_value (span_of e) None (expression text scope e None))
        (λ id t. member_of text id s t n (path_of t)) (in_parts (exp_parts e))
        (as_value_counts (span_of e) None (expression text scope e None) (in_parts (exp_parts e))
        (expression_counts scope e None))
        (λ id t. member_none text id s t n (path_of t))
    expression_counts scope (tree.call s f es) wanted =
        counted _ (in_parts (exp_parts f) + (in_parts (args_parts es) + 0)) (in_parts (exp_parts (tree.call s f es)))
        (omega (arith, called_parts f (arg_count es) (args_parts es)))
        (call_counts text (arguments text scope es nothing_given) (in_parts (args_parts es) + 0)
        (arguments_count scope es nothing_given 0 (each_argument scope es) (nothing_counts text)) scope
        (print_items text scope s es (yields typed.no_exps))
        (printed_count scope s es (yields typed.no_exps) 0 (each_item scope s es) (given _))
        wanted s (callee text scope f) (in_parts (exp_parts f)) (callee_counts scope f))
    expression_counts scope (tree.call_closing s f es c) wanted =
        counted _ (in_parts (exp_parts f) + (in_parts (args_parts es) + (in_parts (closure_parts c) + 0)))
        (in_parts (exp_parts (tree.call_closing s f es c)))
        (omega (
          arith,
          called_parts f (suc (arg_count es)) (args_parts es),
          joined (print_call f (suc (arg_count es)) ++ exp_parts f ++ args_parts es) (closure_parts c),
        ))
        (call_counts text (arguments text scope es (trailing (closure_span c) (closure text scope c)))
        (in_parts (args_parts es) + (in_parts (closure_parts c) + 0))
        (arguments_count scope es (trailing (closure_span c) (closure text scope c)) (in_parts (closure_parts c) + 0)
        (each_argument scope es)
        (trailing_counts text (closure_span c) (closure text scope c) (in_parts (closure_parts c))
        (closure_count scope c))) scope
        (refused _ _) (never _ _ _) wanted s (callee text scope f) (in_parts (exp_parts f)) (callee_counts scope f))
    expression_counts scope (tree.call_closure s f c) wanted =
        counted _ (in_parts (exp_parts f) + (in_parts (closure_parts c) + 0))
        (in_parts (exp_parts (tree.call_closure s f c)))
        (omega (arith, called_parts f 1 (closure_parts c)))
        (call_counts text (trailing (closure_span c) (closure text scope c)) (in_parts (closure_parts c) + 0)
        (trailing_counts text (closure_span c) (closure text scope c) (in_parts (closure_parts c))
        (closure_count scope c)) scope
        (refused _ _) (never _ _ _) wanted s (callee text scope f) (in_parts (exp_parts f)) (callee_counts scope f))

    callee_counts : (scope : Scope) (e : Exp) → CalleeCounts (callee text scope e) (in_parts (exp_parts e))
    callee_counts scope (tree.path p) = refl
    callee_counts scope (tree.implicit_member s n) = refl
    callee_counts scope (tree.member s e n) = expression_counts scope e None
    callee_counts scope (tree.number s negative n) = tt
    callee_counts scope (tree.text s t) = tt
    callee_counts scope (tree.truth s b) = tt
    callee_counts scope (tree.parenthesized s e) = tt
    callee_counts scope (tree.consumed s p) = tt
    callee_counts scope (tree.prefix s o e) = tt
    callee_counts scope (tree.binary s o mark a b) = tt
    callee_counts scope (tree.choice s c a b) = tt
    callee_counts scope (tree.call s f es) = tt
    callee_counts scope (tree.call_closing s f es c) = tt
    callee_counts scope (tree.call_closure s f c) = tt

    each_argument : (scope : Scope) (es : Args) → EachArgument scope es
    each_argument scope tree.no_args = tt
    each_argument scope (tree.arg label given es) = (argument_counts scope given label, each_argument scope es)

    argument_counts :
        (scope : Scope) (given : Given) (label : Option Name)
        → ArgumentCount (argument text scope given label) (in_parts (given_parts given))
    argument_counts scope (tree.value e) label =
        value_counts label (span_of e) (expression text scope e) (in_parts (exp_parts e)) (expression_counts scope e)
    argument_counts scope (tree.address s p) label = address_counts text scope label p
    argument_counts scope (tree.closing c) label =
        closure_given label (closure_span c) (closure text scope c) (in_parts (closure_parts c))
        (closure_count scope c)

    each_item : (scope : Scope) (call : Span) (es : Args) → EachItem scope call es
    each_item scope call tree.no_args = tt
    each_item scope call (tree.arg label given es) = (item_count scope call given label, each_item scope call es)

    item_count :
        (scope : Scope) (call : Span) (given : Given) (label : Option Name)
        → Counts (print_item text scope call given label) (in_parts (given_parts given))
    item_count scope call (tree.value e) label =
        item_counts text label call (span_of e) (expression text scope e None) (in_parts (exp_parts e))
        (expression_counts scope e None)
    item_count scope call (tree.address s p) label = never _ _ _
    item_count scope call (tree.closing c) label = never _ _ _

    closure_count :
        (scope : Scope) (c : Clo) (call : Span) (ty : Ty)
        → Counts (closure text scope c call ty) (in_parts (closure_parts c))
    closure_count scope (tree.closure s names ss) call ty =
        literal_counts text scope s names (λ inner. statements text inner ss (is_single ss) []) call ty
        (in_parts (stms_parts ss))
        (λ inner. statements_count inner ss (is_single ss) [])

    statement_counts :
        (scope : Scope) (t : Stm) (alone : Bool) → Counts (statement text scope t alone) (in_parts (stm_parts t))
    statement_counts scope (tree.let_in s word n w e) alone =
        counted _ (in_parts (exp_parts e)) (in_parts (written_part w ++ exp_parts e)) (sym (written_value w e))
        (second_only _ _ (in_parts (exp_parts e)) a_node
        (λ id. with_value_counts scope id s word n (written_type_of text w) e (expression text scope e)
        (in_parts (exp_parts e)) (expression_counts scope e)))
    statement_counts scope (tree.declare s word n w) alone =
        counted _ 0 (in_parts (written_part w)) (sym (written_parts w)) (without_value_none text scope s word n w)
    statement_counts scope (tree.assign s p o mark e) alone =
        after_none (a_place text scope p) (λ id q. assigned id s q mark (updating o) e (expression text scope e))
        (in_parts (exp_parts e))
        (place_none text scope p) (λ id q. assigned_counts id s q mark (updating o) e (expression text scope e)
        (in_parts (exp_parts e)) (expression_counts scope e))
    statement_counts scope (tree.ignore s w e) alone =
        counted _ (in_parts (exp_parts e)) (in_parts (written_part w ++ exp_parts e)) (sym (written_value w e))
        (then_none (as_value (span_of e) (written_type_of text w) (expression text scope e (written_type_of text w)))
        (λ id t. plain (typed.ignore (at id s type.Unit) t)) (in_parts (exp_parts e))
        (as_value_counts (span_of e) (written_type_of text w) (expression text scope e (written_type_of text w))
        (in_parts (exp_parts e))
        (expression_counts scope e (written_type_of text w))) (λ id t. given _))
    statement_counts scope (tree.discard_self s) alone =
        neither _ _ a_node (λ id. neither _ _ (judged (true_that scope.may_discard) _ _)
        (λ u. discarded_none id s scope.self))
    statement_counts scope (tree.if_then s c a) alone =
        counted _ (in_parts (exp_parts c) + in_parts (block_parts a)) (in_parts (exp_parts c ++ block_parts a))
        (sym (joined (exp_parts c) (block_parts a)))
        (two_count (condition c (expression text scope c)) (block_of text scope a)
        (λ id t x. plain (typed.if_then (at id s type.Unit) t x))
        (in_parts (exp_parts c)) (in_parts (block_parts a))
        (value_of_counts type.Bool c (expression text scope c) (in_parts (exp_parts c)) (expression_counts scope c))
        (block_of_counts scope a) (λ id t x. given _))
    statement_counts scope (tree.if_else s c a b) alone =
        counted _ (in_parts (exp_parts c) + (in_parts (block_parts a) + in_parts (block_parts b)))
        (in_parts (exp_parts c ++ block_parts a ++ block_parts b))
        (sym (three_parts (exp_parts c) (block_parts a) (block_parts b)))
        (three_count (condition c (expression text scope c)) (block_of text scope a) (block_of text scope b)
        (λ id t x y. plain (typed.if_else (at id s type.Unit) t x y)) (in_parts (exp_parts c))
        (in_parts (block_parts a)) (in_parts (block_parts b))
        (value_of_counts type.Bool c (expression text scope c) (in_parts (exp_parts c)) (expression_counts scope c))
        (block_of_counts scope a) (block_of_counts scope b) (λ id t x y. given _))
    statement_counts scope (tree.else_if s c a b) alone =
        counted _ (in_parts (exp_parts c) + (in_parts (block_parts a) + in_parts (stm_parts b)))
        (in_parts (exp_parts c ++ block_parts a ++ stm_parts b))
        (sym (three_parts (exp_parts c) (block_parts a) (stm_parts b)))
        (three_count (condition c (expression text scope c)) (block_of text scope a) (statement text scope b false)
        (λ id t x y. plain (typed.else_if (at id s type.Unit) t x y.0)) (in_parts (exp_parts c))
        (in_parts (block_parts a)) (in_parts (stm_parts b))
        (value_of_counts type.Bool c (expression text scope c) (in_parts (exp_parts c)) (expression_counts scope c))
        (block_of_counts scope a) (statement_counts scope b false) (λ id t x y. given _))
    statement_counts scope (tree.loop_while s c a) alone =
        counted _ (in_parts (exp_parts c) + in_parts (block_parts a)) (in_parts (exp_parts c ++ block_parts a))
        (sym (joined (exp_parts c) (block_parts a)))
        (two_count (condition c (expression text scope c)) (block_of text (inside_loop scope) a)
        (λ id t x. plain (typed.loop_while (at id s type.Unit) t x))
        (in_parts (exp_parts c)) (in_parts (block_parts a))
        (value_of_counts type.Bool c (expression text scope c) (in_parts (exp_parts c)) (expression_counts scope c))
        (block_of_counts (inside_loop scope) a) (λ id t x. given _))
    statement_counts scope (tree.loop_repeat s a c) alone =
        counted _ (in_parts (block_parts a) + in_parts (exp_parts c)) (in_parts (block_parts a ++ exp_parts c))
        (sym (joined (block_parts a) (exp_parts c)))
        (two_count (block_of text (inside_loop scope) a) (condition c (expression text scope c))
        (λ id x t. plain (typed.loop_repeat (at id s type.Unit) x t))
        (in_parts (block_parts a)) (in_parts (exp_parts c)) (block_of_counts (inside_loop scope) a)
        (value_of_counts type.Bool c (expression text scope c) (in_parts (exp_parts c)) (expression_counts scope c))
        (λ id x t. given _))
    statement_counts scope (tree.loop_for s n low o mark high a) alone =
        counted _ (in_parts (exp_parts low) + (in_parts (exp_parts high) + in_parts (block_parts a)))
        (in_parts (exp_parts low ++ exp_parts high ++ block_parts a))
        (sym (three_parts (exp_parts low) (exp_parts high) (block_parts a)))
        (for_counts (loop_variable scope n) (bound low (expression text scope low))
        (bound high (expression text scope high))
        (λ x. block_of text (inside_loop (with_locals scope x.1)) a)
        (λ id x first last b. plain (typed.loop_for (at id s type.Unit) x.0 first o mark last b))
        (in_parts (exp_parts low)) (in_parts (exp_parts high)) (in_parts (block_parts a)) (loop_none text scope n)
        (value_of_counts type.Int low (expression text scope low) (in_parts (exp_parts low))
        (expression_counts scope low))
        (value_of_counts type.Int high (expression text scope high) (in_parts (exp_parts high))
        (expression_counts scope high))
        (λ x. block_of_counts (inside_loop (with_locals scope x.1)) a) (λ id x first last b. given _))
    statement_counts scope (tree.switch s e cs) alone =
        counted _ (in_parts (exp_parts e) + in_parts (clauses_parts cs)) (in_parts (exp_parts e ++ clauses_parts cs))
        (sym (joined (exp_parts e) (clauses_parts cs)))
        (switch_counts text s (word_of 6 s) (as_value (span_of e) None (expression text scope e None))
        (λ t. clauses text (inside_switch scope) cs (how_taken (is_copyable text.types (type_of t)) (path_of t))
        (type_of t))
        (in_parts (exp_parts e)) (in_parts (clauses_parts cs))
        (as_value_counts (span_of e) None (expression text scope e None) (in_parts (exp_parts e))
        (expression_counts scope e None))
        (λ t. clauses_count (inside_switch scope) cs (how_taken (is_copyable text.types (type_of t)) (path_of t))
        (type_of t)))
    statement_counts scope (tree.leave s) alone =
        neither _ _ a_node (λ id. neither _ _ (judged (true_that (scope.in_loop || scope.in_switch)) _ _)
        (λ u. given _))
    statement_counts scope (tree.go_on s) alone =
        neither _ _ a_node (λ id. neither _ _ (judged (true_that scope.in_loop) _ _) (λ u. given _))
    statement_counts scope (tree.return_none s) alone = neither _ _ a_node (λ id. returned_nothing id s scope.result)
    statement_counts scope (tree.return_value s e) alone =
        returned_counts s (has_result scope.result) T18 (value_of scope.result e (expression text scope e))
        (in_parts (exp_parts e))
        (value_of_counts scope.result e (expression text scope e) (in_parts (exp_parts e)) (expression_counts scope e))
    statement_counts scope (tree.evaluate e) alone =
        second_only _ _ (in_parts (exp_parts e)) a_node
        (λ id. evaluated_counts (alone && has_result scope.result) id scope.result e (expression text scope e)
        (in_parts (exp_parts e)) (expression_counts scope e))

    pub statements_count :
        (scope : Scope) (ss : Stms) (alone : Bool) (done : List TStm)
        → Counts (statements text scope ss alone done) (in_parts (stms_parts ss))
    statements_count scope tree.no_stms alone done = given _
    statements_count scope (tree.stm s ss) alone done =
        counted _ (in_parts (stm_parts s) + in_parts (stms_parts ss)) (in_parts (stm_parts s ++ stms_parts ss))
        (sym (joined (stm_parts s) (stms_parts ss)))
        (stated_then (statement text scope s alone)
        (λ t. statements text (with_locals scope t.1) ss alone (done ++ t.0 ∷ []))
        (in_parts (stm_parts s)) (in_parts (stms_parts ss)) (statement_counts scope s alone)
        (λ t. statements_count (with_locals scope t.1) ss alone (done ++ t.0 ∷ [])))

    block_of_counts : (scope : Scope) (b : Blk) → Counts (block_of text scope b) (in_parts (block_parts b))
    block_of_counts scope (tree.block s ss) =
        block_counts text s (statements text scope ss false []) (in_parts (stms_parts ss))
        (statements_count scope ss false [])

    head_counts :
        (scope : Scope) (w : When) (s : Span) (how : How) (ty : Ty)
        → Counts (head text scope w s how ty) (in_parts (when_parts w))
    head_counts scope (tree.case_of ps) s how ty =
        counted _ 0 (in_parts (pats_parts ps)) (sym (patterns_parts ps))
        (neither _ _ (alternatives_none text scope (unguarded how) ps ty)
        (λ qs. neither _ _ (judged (true_that (one_or_none ps qs.1)) _ _) (λ u. given _)))
    head_counts scope (tree.case_where p e) s how ty =
        guarded_counts how (pattern_of text scope how p ty)
        (λ q. condition e (expression text (with_locals scope q.1) e)) (in_parts (exp_parts e))
        (pattern_none text scope how p ty)
        (λ q. value_of_counts type.Bool e (expression text (with_locals scope q.1) e) (in_parts (exp_parts e))
        (expression_counts (with_locals scope q.1) e))
    head_counts scope tree.default s how ty = given _

    clauses_count :
        (scope : Scope) (cs : Clauses) (how : How) (ty : Ty)
        → Counts (clauses text scope cs how ty) (in_parts (clauses_parts cs))
    clauses_count scope tree.no_clauses how ty = given _
    clauses_count scope (tree.clause s w ss cs) how ty =
        counted _ (in_parts (when_parts w) + (in_parts (stms_parts ss) + in_parts (clauses_parts cs)))
        (in_parts (clauses_parts (tree.clause s w ss cs)))
        (omega (
          arith,
          joined (when_parts w ++ a_scope (local_names ss) ∷ stms_parts ss) (clauses_parts cs),
          joined (when_parts w) (a_scope (local_names ss) ∷ stms_parts ss),
        ))
        (clause_counts s (head text scope w s how ty) (λ h. statements text (with_locals scope h.1) ss false [])
        (clauses text scope cs how ty)
        (in_parts (when_parts w)) (in_parts (stms_parts ss)) (in_parts (clauses_parts cs))
        (head_counts scope w s how ty)
        (λ h. statements_count (with_locals scope h.1) ss false []) (clauses_count scope cs how ty))
