-- What is spelled takes tokens.
use Rattle.std.proofs.Common.{◌≡◌, ℕ, suc, ◌≤◌, ◌<◌, Bool, true, false, List, [], ◌∷◌, length, Option, Some, None, inl, inr, refl, ap, arith}
use Rattle.own_tree.specs.declared.token.Kind.{Kind}
use Rattle.own_tree.specs.declared.tree.ClosureName.{ClosureName}
use Rattle.own_tree.specs.declared.tree.Name.{Name}
use Rattle.own_tree.specs.declared.tree.Path.{Path}
use Rattle.own_tree.specs.Source.{LetPat, let_any, let_bind, let_case, let_number, let_truth, LetPats, no_let_pats, let_pat, Pat, any, bind, bind_case, on_case, on_number, on_truth, Pats, no_pats, pat}
use Rattle.own_tree.specs.declared.span.Span.{Span}
use Rattle.own_grammar.specs.Tests.{Toks, after, kind_at, closure_name_at, names_at, name_then, names_or, closure_head}
use Rattle.own_grammar.specs.Spells.{Fields, SpellsPath, Typed, SpellsNumber, SpellsLetPat, SpellsLetPats, SpellsPat, SpellsPats, Sep, Labels}
use Rattle.own_grammar.proofs.Facts.{number_kind, name_kind, truth_kind, root_kind, negative_kind}

pub after_short : (ts : Toks) (x : Kind) → kind_at ts ≡ Some x → length (after ts) < length ts
unfolding kind_at
after_short [] x e = absurd cc
after_short (t ∷ ts) x e = omega arith

pub after_le : (ts : Toks) → length (after ts) ≤ length ts
after_le [] = omega arith
after_le (t ∷ ts) = omega arith

pub fields_le : (ns : List Name) (from to : Toks) → Fields ns from to → length to ≤ length from
fields_le [] from to is = rw is (omega arith)
fields_le (n ∷ ns) from to (dot, nm, more) = (let a = after_le from in let b = after_le (after from) in let c = fields_le ns (after (after from)) to more in omega arith)

pub path_short : (p : Path) (from to : Toks) → SpellsPath p from to → length to < length from
path_short p from to (r, fs, s) = (let a = after_short from _ (root_kind from p.root r) in let b = fields_le p.fields (after from) to fs in omega arith)

pub typed_le : (t : Option Name) (from to : Toks) → Typed t from to → length to ≤ length from
typed_le None from to is = rw is (omega arith)
typed_le (Some t) from to (colon, nm, is) = rw is (let a = after_le from in let b = after_le (after from) in omega arith)

pub labels_le : (l : Option Name) (from to : Toks) → Labels l from to → length to ≤ length from
labels_le (Some x) from to (is, at) = rw at (let a = after_le from in let b = after_le (after from) in omega arith)
labels_le None from to (is, at) = rw at (omega arith)

pub sep_le : (bare : Bool) (from to : Toks) → Sep bare from to → length to ≤ length from
sep_le bare from to (inl (is, at)) = rw at (after_le from)
sep_le bare from to (inr (is, isnt, at)) = rw at (omega arith)

number_short : (s : Span) (negative : Bool) (n : ℕ) (from to : Toks) → SpellsNumber s negative n from to → length to < length from
number_short s false n from to (num, is, r) = rw is (after_short from _ (number_kind from n num))
number_short s true n from to (num, is, r) = rw is (let a = after_short from _ (negative_kind false from n num).0 in let b = after_le (after from) in omega arith)

mutual
  pub let_pat_short : (p : LetPat) (from to : Toks) → SpellsLetPat p from to → length to < length from
  let_pat_short (let_any s) from to (k, is, r) = rw is (after_short from _ k)
  let_pat_short (let_bind n) from to (nm, is) = rw is (after_short from _ (name_kind from n nm))
  let_pat_short (let_case s n no_let_pats) from to (c, is, r) = rw is (let a = after_short from _ c.0 in let b = after_le (after from) in omega arith)
  let_pat_short (let_case s n (let_pat p ps)) from to (c, paren, last, sps, close, is, r) = rw is (let a = after_short from _ c.0 in let b = after_le (after from) in let d = after_le (after (after from)) in let e = let_pats_short (let_pat p ps) (after (after (after from))) last sps in let f = after_le last in omega arith)
  let_pat_short (let_number s negative n) from to sp = number_short s negative n from to sp
  let_pat_short (let_truth s b) from to (t, is, r) = rw is (after_short from _ (truth_kind from b t))

  let_pats_short : (ps : LetPats) (from to : Toks) → SpellsLetPats ps from to → length to < length from
  let_pats_short no_let_pats from to sp = absurd sp
  let_pats_short (let_pat p no_let_pats) from to sp = let_pat_short p from to sp
  let_pats_short (let_pat p (let_pat q ps)) from to (mid, sp, comma, sps) = (let a = let_pat_short p from mid sp in let b = after_le mid in let c = let_pats_short (let_pat q ps) (after mid) to sps in omega arith)

mutual
  pub pat_short : (p : Pat) (from to : Toks) → SpellsPat p from to → length to < length from
  pat_short (any s) from to (k, is, r) = rw is (after_short from _ k)
  pat_short (bind s n) from to (k, nm, is, r) = rw is (let a = after_short from _ k in let b = after_le (after from) in omega arith)
  pat_short (bind_case s p) from to (k, sp, is, r) = (let a = after_short from _ k in let b = let_pat_short p (after from) to sp in omega arith)
  pat_short (on_case s n no_pats) from to (c, is, r) = rw is (let a = after_short from _ c.0 in let b = after_le (after from) in omega arith)
  pat_short (on_case s n (pat p ps)) from to (c, paren, last, sps, close, is, r) = rw is (let a = after_short from _ c.0 in let b = after_le (after from) in let d = after_le (after (after from)) in let e = pats_short (pat p ps) (after (after (after from))) last sps in let f = after_le last in omega arith)
  pat_short (on_number s negative n) from to sp = number_short s negative n from to sp
  pat_short (on_truth s b) from to (t, is, r) = rw is (after_short from _ (truth_kind from b t))

  pub pats_short : (ps : Pats) (from to : Toks) → SpellsPats ps from to → length to < length from
  pats_short no_pats from to sp = absurd sp
  pats_short (pat p no_pats) from to sp = pat_short p from to sp
  pats_short (pat p (pat q ps)) from to (mid, sp, comma, sps) = (let a = pat_short p from mid sp in let b = after_le mid in let c = pats_short (pat q ps) (after mid) to sps in omega arith)

-- ---- the names of a closure

abbrev Head : Type 0
Head = List ClosureName × Toks

some_is : (x y : Head) → Some x ≡ Some y → x.1 ≡ y.1
some_is x y e = ap (λ (r : Head). r.1) same
  where
    same : x ≡ y
    same = cc

names_le : (ts us : Toks) (ns : List ClosureName) → names_at ts ≡ Some (ns, us) → length us ≤ length ts
unfolding names_at
names_le [] us ns e = absurd cc
names_le (t ∷ []) us ns e = absurd cc
names_le (t ∷ u ∷ ts) us ns e = by_parts (closure_name_at (t ∷ u ∷ ts)) _ _ (names_at ts) e (λ ms. names_le ts us ms)
  where
    by_parts : (b : Option ClosureName) (comma ends : Bool) (more : Option (List ClosureName × Toks)) → name_then b comma ends more ts ≡ Some (ns, us) → ((ms : List ClosureName) → more ≡ Some (ms, us) → length us ≤ length ts) → length us ≤ suc (suc (length ts))
    by_parts None comma ends more h ih = absurd cc
    by_parts (Some n) true ends None h ih = absurd cc
    by_parts (Some n) true ends (Some r) h ih = (let same = some_is (n ∷ r.0, r.1) (ns, us) h in let a = ih r.0 (rw (← same) refl) in omega arith)
    by_parts (Some n) false true more h ih = (let same = some_is (n ∷ [], ts) (ns, us) h in rw (← same) (omega arith))
    by_parts (Some n) false false more h ih = absurd cc

head_by : (ts : Toks) (o : Option (List ClosureName × Toks)) → names_at ts ≡ o → length (names_or o ts).1 ≤ length ts
head_by ts None e = omega arith
head_by ts (Some r) e = names_le ts r.1 r.0 e

pub head_le : (ts : Toks) → length (closure_head ts).1 ≤ length ts
unfolding closure_head
head_le ts = head_by ts (names_at ts) refl
