-- How many closures were counted, and how many bodies the parts of a tree have.
use Rattle.std.specs.Prelude.{◌≡◌, ℕ, suc, ◌+◌, true, false, Bool, if◌then◌else◌, List, [], ◌∷◌, ◌++◌, length, Option, Some, None, codes}
use Rattle.std.specs.Str.{bytes_eq}
use Rattle.std.proofs.Common.{refl, arith, length-append}
use Rattle.own_tree.specs.declared.tree.Name.{Name}
use Rattle.own_tree.specs.declared.tree.Root.{Root}
use Rattle.own_tree.specs.declared.tree.Root.TheVariants as root
use Rattle.own_tree.specs.declared.span.Span.{Span}
use Rattle.own_tree.specs.Source as tree
use Rattle.own_tree.specs.Source.{Pats, Exp, Given, Args, Clo, Stm, Stms, When, Clauses, Blk}
use Rattle.own_survey.specs.Limits.{body_place, body_places}
use Rattle.own_survey.specs.Parts.{Part, a_print, a_scope, arg_count, print_root, print_call, local_names, written_part, pats_parts, exp_parts, given_parts, args_parts, closure_parts, stm_parts, stms_parts, when_parts, clauses_parts, block_parts}
use Rattle.own_judged.specs.Text.{bodies_of}
use Rattle.own_scope.specs.Counting.{exp_closures, given_closures, args_closures, closure_closures, stm_closures, stms_closures, when_closures, clauses_closures, block_closures}

abbrev bodies : List Part → ℕ
bodies ps = length (body_places ps)

both : (xs ys : List Part) → bodies (xs ++ ys) ≡ bodies xs + bodies ys
both [] ys = omega arith
both (x ∷ xs) ys =
    let rest = both xs ys in
    omega (arith, rest, length-append (body_place x) (body_places xs), length-append (body_place x) (body_places (xs ++ ys)))

no_print_root : (r : Root) (fs : List Name) (s : Span) (n : ℕ) → bodies (print_root r fs s n) ≡ 0
no_print_root (root.Named name) [] s n = by (bytes_eq name.text (codes "print"))
  where
    by : (b : Bool) → bodies (if b then a_print s n ∷ [] else []) ≡ 0
    by true = refl
    by false = refl
no_print_root (root.Named name) (f ∷ fs) s n = refl
no_print_root (root.SelfWord at) fs s n = refl

no_print : (e : Exp) (n : ℕ) → bodies (print_call e n) ≡ 0
no_print (tree.number s negative k) n = refl
no_print (tree.text s t) n = refl
no_print (tree.truth s b) n = refl
no_print (tree.path p) n = no_print_root p.root p.fields p.span n
no_print (tree.implicit_member s name) n = refl
no_print (tree.parenthesized s e) n = refl
no_print (tree.consumed s p) n = refl
no_print (tree.prefix s o e) n = refl
no_print (tree.binary s o mark a b) n = refl
no_print (tree.choice s c a b) n = refl
no_print (tree.member s e name) n = refl
no_print (tree.call s f es) n = refl
no_print (tree.call_closing s f es c) n = refl
no_print (tree.call_closure s f c) n = refl

no_written : (w : Option Name) → bodies (written_part w) ≡ 0
no_written None = refl
no_written (Some n) = refl

no_patterns : (ps : Pats) → bodies (pats_parts ps) ≡ 0
no_patterns tree.no_pats = refl
no_patterns (tree.pat p ps) = no_patterns ps

-- some parts and then others
after : (xs ys : List Part) (m n k : ℕ) → m ≡ k + bodies xs → n ≡ m + bodies ys → n ≡ k + bodies (xs ++ ys)
after xs ys m n k a b = omega (arith, a, b, both xs ys)

-- behind parts that have none
behind : (xs ys : List Part) (n k : ℕ) → bodies xs ≡ 0 → n ≡ k + bodies ys → n ≡ k + bodies (xs ++ ys)
behind xs ys n k a b = omega (arith, a, b, both xs ys)

none : (k : ℕ) → k ≡ k + 0
none k = omega arith

mutual
  exp_counted : (e : Exp) (k : ℕ) → exp_closures e k ≡ k + bodies (exp_parts e)
  exp_counted (tree.number s negative n) k = none k
  exp_counted (tree.text s t) k = none k
  exp_counted (tree.truth s b) k = none k
  exp_counted (tree.path p) k = none k
  exp_counted (tree.implicit_member s n) k = none k
  exp_counted (tree.parenthesized s e) k = exp_counted e k
  exp_counted (tree.consumed s p) k = none k
  exp_counted (tree.prefix s o e) k = exp_counted e k
  exp_counted (tree.binary s o mark a b) k =
      after (exp_parts a) (exp_parts b) (exp_closures a k) _ k (exp_counted a k) (exp_counted b (exp_closures a k))
  exp_counted (tree.choice s c a b) k =
      let m = exp_closures c k in let n = exp_closures a m in
      after (exp_parts c ++ exp_parts a) (exp_parts b) n _ k
      (after (exp_parts c) (exp_parts a) m n k (exp_counted c k) (exp_counted a m)) (exp_counted b n)
  exp_counted (tree.member s e n) k = exp_counted e k
  exp_counted (tree.call s f es) k =
      let m = exp_closures f k in
      after (print_call f (arg_count es) ++ exp_parts f) (args_parts es) m _ k
      (behind (print_call f (arg_count es)) (exp_parts f) m k (no_print f (arg_count es)) (exp_counted f k))
      (args_counted es m)
  exp_counted (tree.call_closing s f es c) k =
      let m = exp_closures f k in let n = args_closures es m in
      after (print_call f (suc (arg_count es)) ++ exp_parts f ++ args_parts es) (closure_parts c) n _ k
      (after (print_call f (suc (arg_count es)) ++ exp_parts f) (args_parts es) m n k
      (behind (print_call f (suc (arg_count es))) (exp_parts f) m k (no_print f (suc (arg_count es))) (exp_counted f k))
      (args_counted es m))
      (closure_counted c n)
  exp_counted (tree.call_closure s f c) k =
      let m = exp_closures f k in
      after (print_call f 1 ++ exp_parts f) (closure_parts c) m _ k
      (behind (print_call f 1) (exp_parts f) m k (no_print f 1) (exp_counted f k)) (closure_counted c m)

  given_counted : (g : Given) (k : ℕ) → given_closures g k ≡ k + bodies (given_parts g)
  given_counted (tree.value e) k = exp_counted e k
  given_counted (tree.address s p) k = none k
  given_counted (tree.closing c) k = closure_counted c k

  args_counted : (es : Args) (k : ℕ) → args_closures es k ≡ k + bodies (args_parts es)
  args_counted tree.no_args k = none k
  args_counted (tree.arg label given es) k =
      let m = given_closures given k in
      after (given_parts given) (args_parts es) m _ k (given_counted given k) (args_counted es m)

  closure_counted : (c : Clo) (k : ℕ) → closure_closures c k ≡ k + bodies (closure_parts c)
  closure_counted (tree.closure s names ss) k =
      let rest = stms_counted ss (suc k) in omega (arith, rest)

  stm_counted : (s : Stm) (k : ℕ) → stm_closures s k ≡ k + bodies (stm_parts s)
  stm_counted (tree.let_in s w n written e) k =
      behind (written_part written) (exp_parts e) _ k (no_written written) (exp_counted e k)
  stm_counted (tree.declare s w n written) k = omega (arith, no_written written)
  stm_counted (tree.assign s p o mark e) k = exp_counted e k
  stm_counted (tree.ignore s written e) k =
      behind (written_part written) (exp_parts e) _ k (no_written written) (exp_counted e k)
  stm_counted (tree.discard_self s) k = none k
  stm_counted (tree.if_then s c a) k =
      let m = exp_closures c k in
      after (exp_parts c) (block_parts a) m _ k (exp_counted c k) (block_counted a m)
  stm_counted (tree.if_else s c a b) k =
      let m = exp_closures c k in let n = block_closures a m in
      after (exp_parts c ++ block_parts a) (block_parts b) n _ k
      (after (exp_parts c) (block_parts a) m n k (exp_counted c k) (block_counted a m)) (block_counted b n)
  stm_counted (tree.else_if s c a b) k =
      let m = exp_closures c k in let n = block_closures a m in
      after (exp_parts c ++ block_parts a) (stm_parts b) n _ k
      (after (exp_parts c) (block_parts a) m n k (exp_counted c k) (block_counted a m)) (stm_counted b n)
  stm_counted (tree.loop_while s c a) k =
      let m = exp_closures c k in
      after (exp_parts c) (block_parts a) m _ k (exp_counted c k) (block_counted a m)
  stm_counted (tree.loop_repeat s a c) k =
      let m = block_closures a k in
      after (block_parts a) (exp_parts c) m _ k (block_counted a k) (exp_counted c m)
  stm_counted (tree.loop_for s x low o mark high a) k =
      let m = exp_closures low k in let n = exp_closures high m in
      after (exp_parts low ++ exp_parts high) (block_parts a) n _ k
      (after (exp_parts low) (exp_parts high) m n k (exp_counted low k) (exp_counted high m)) (block_counted a n)
  stm_counted (tree.switch s e cs) k =
      let m = exp_closures e k in
      after (exp_parts e) (clauses_parts cs) m _ k (exp_counted e k) (clauses_counted cs m)
  stm_counted (tree.leave s) k = none k
  stm_counted (tree.go_on s) k = none k
  stm_counted (tree.return_none s) k = none k
  stm_counted (tree.return_value s e) k = exp_counted e k
  stm_counted (tree.evaluate e) k = exp_counted e k

  stms_counted : (ss : Stms) (k : ℕ) → stms_closures ss k ≡ k + bodies (stms_parts ss)
  stms_counted tree.no_stms k = none k
  stms_counted (tree.stm s ss) k =
      let m = stm_closures s k in
      after (stm_parts s) (stms_parts ss) m _ k (stm_counted s k) (stms_counted ss m)

  when_counted : (w : When) (k : ℕ) → when_closures w k ≡ k + bodies (when_parts w)
  when_counted (tree.case_of ps) k = omega (arith, no_patterns ps)
  when_counted (tree.case_where p e) k = exp_counted e k
  when_counted tree.default k = none k

  clauses_counted : (cs : Clauses) (k : ℕ) → clauses_closures cs k ≡ k + bodies (clauses_parts cs)
  clauses_counted tree.no_clauses k = none k
  clauses_counted (tree.clause s w ss cs) k =
      let m = when_closures w k in let n = stms_closures ss m in
      after (when_parts w ++ (a_scope (local_names ss) ∷ stms_parts ss)) (clauses_parts cs) n _ k
      (after (when_parts w) (a_scope (local_names ss) ∷ stms_parts ss) m n k (when_counted w k) (stms_counted ss m))
      (clauses_counted cs n)

  block_counted : (b : Blk) (k : ℕ) → block_closures b k ≡ k + bodies (block_parts b)
  block_counted (tree.block s ss) k = stms_counted ss k

-- a body is counted before those in it
pub body_counted : (b : Blk) (k : ℕ) → block_closures b (k + 1) ≡ k + bodies_of b
body_counted b k = let inside = block_counted b (k + 1) in omega (arith, inside)
