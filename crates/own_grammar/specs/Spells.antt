-- *Spells*: the grammar, with one case for each production. `from` are the tokens from here on, `to` those after the part.
use Rattle.std.specs.Prelude.{◌≡◌, ℕ, ◌<◌, ◌≤◌, Bool, true, false, List, [], ◌∷◌, Option, Some, None, ◌⊎◌}
use Rattle.own_tree.specs.declared.token.Kind.TheVariants.{Mark, Word}
use Rattle.own_tree.specs.declared.token.Mark.TheVariants as mark
use Rattle.own_tree.specs.declared.token.Word.TheVariants as word
use Rattle.own_tree.specs.declared.span.Span.{Span}
use Rattle.own_tree.specs.declared.tree.Name.{Name}
use Rattle.own_tree.specs.declared.tree.Path.{Path}
use Rattle.own_tree.specs.declared.tree.Keyword.{Keyword}
use Rattle.own_tree.specs.Source.{LetPat, let_any, let_bind, let_case, let_number, let_truth, LetPats, no_let_pats, let_pat, Pat, any, bind, bind_case, on_case, on_number, on_truth, Pats, no_pats, pat, Exp, number, text, truth, path, implicit_member, parenthesized, consumed, prefix, binary, choice, member, call, call_closing, call_closure, Given, value, address, closing, Args, no_args, arg, Clo, closure, Stm, let_in, declare, assign, ignore, discard_self, if_then, if_else, else_if, loop_while, loop_repeat, loop_for, switch, leave, go_on, return_none, return_value, evaluate, Stms, no_stms, stm, When, case_of, case_where, default, Clauses, no_clauses, clause, Blk, block}
use Rattle.own_grammar.specs.declared.Context.{Context}
use Rattle.own_grammar.specs.declared.Context.TheVariants.{Plain, Condition, Inside}
use Rattle.own_grammar.specs.Tests.{Toks, after, here, till, kind_at, name_at, number_at, text_at, truth_at, root_at, binder_at, keyword_at, operator_at, negative_at, unary_at, range_at, assign_at, assigns, annotates, opens, closes, ends, is_bare, label_at, closure_head}
use Rattle.own_grammar.specs.Nesting.{exp_span, clo_span, blk_span, stm_span, let_pat_span, names_end, typed_end, stms_end, level, chains, level_of, is_post, is_path, is_call, is_if, is_return, is_let_case}

-- ---- paths and types

abbrev pub Fields : List Name → Toks → Toks → Type 0
Fields [] from to = to ≡ from
Fields (n ∷ ns) from to = (kind_at from ≡ Some (Mark mark.Dot)) × (name_at (after from) ≡ Some n) × Fields ns (after (after from)) to

abbrev pub SpellsPath : Path → Toks → Toks → Type 0
SpellsPath p from to = (root_at from ≡ Some p.root) × Fields p.fields (after from) to × (p.span ≡ till (here from) (names_end (here from) p.fields))

-- the type of a `let` or `var`, where one is written
abbrev pub Typed : Option Name → Toks → Toks → Type 0
Typed None from to = to ≡ from
Typed (Some t) from to = (annotates from ≡ true) × (name_at (after from) ≡ Some t) × (to ≡ after (after from))

-- ---- patterns

-- ["-"] NUMBER
abbrev pub SpellsNumber : Span → Bool → ℕ → Toks → Toks → Type 0
SpellsNumber s false n from to = (number_at from ≡ Some n) × (to ≡ after from) × (s ≡ here from)
SpellsNumber s true n from to = (negative_at false from ≡ Some n) × (to ≡ after (after from)) × (s ≡ till (here from) (here (after from)))

-- "." NAME
abbrev pub SpellsCase : Name → Toks → Type 0
SpellsCase n from = (kind_at from ≡ Some (Mark mark.Dot)) × (name_at (after from) ≡ Some n)

abbrev mutual
  pub SpellsLetPat : LetPat → Toks → Toks → Type 0
  SpellsLetPat (let_any s) from to = (kind_at from ≡ Some (Mark mark.Underscore)) × (to ≡ after from) × (s ≡ here from)
  SpellsLetPat (let_bind n) from to = (name_at from ≡ Some n) × (to ≡ after from)
  SpellsLetPat (let_case s n no_let_pats) from to = SpellsCase n from × (to ≡ after (after from)) × (s ≡ till (here from) (here (after from)))
  SpellsLetPat (let_case s n (let_pat p ps)) from to = SpellsCase n from × (kind_at (after (after from)) ≡ Some (Mark mark.OpenParen)) × (last : Toks) × SpellsLetPats (let_pat p ps) (after (after (after from))) last × (kind_at last ≡ Some (Mark mark.CloseParen)) × (to ≡ after last) × (s ≡ till (here from) (here last))
  SpellsLetPat (let_number s negative n) from to = SpellsNumber s negative n from to
  SpellsLetPat (let_truth s b) from to = (truth_at from ≡ Some b) × (to ≡ after from) × (s ≡ here from)

  pub SpellsLetPats : LetPats → Toks → Toks → Type 0
  SpellsLetPats no_let_pats from to = ⊥
  SpellsLetPats (let_pat p no_let_pats) from to = SpellsLetPat p from to
  SpellsLetPats (let_pat p (let_pat q ps)) from to = (mid : Toks) × SpellsLetPat p from mid × (kind_at mid ≡ Some (Mark mark.Comma)) × SpellsLetPats (let_pat q ps) (after mid) to

abbrev mutual
  pub SpellsPat : Pat → Toks → Toks → Type 0
  SpellsPat (any s) from to = (kind_at from ≡ Some (Mark mark.Underscore)) × (to ≡ after from) × (s ≡ here from)
  SpellsPat (bind s n) from to = (kind_at from ≡ Some (Word word.Let)) × (name_at (after from) ≡ Some n) × (to ≡ after (after from)) × (s ≡ till (here from) (here (after from)))
  SpellsPat (bind_case s p) from to = (kind_at from ≡ Some (Word word.Let)) × SpellsLetPat p (after from) to × (is_let_case p ≡ true) × (s ≡ till (here from) (let_pat_span p))
  SpellsPat (on_case s n no_pats) from to = SpellsCase n from × (to ≡ after (after from)) × (s ≡ till (here from) (here (after from)))
  SpellsPat (on_case s n (pat p ps)) from to = SpellsCase n from × (kind_at (after (after from)) ≡ Some (Mark mark.OpenParen)) × (last : Toks) × SpellsPats (pat p ps) (after (after (after from))) last × (kind_at last ≡ Some (Mark mark.CloseParen)) × (to ≡ after last) × (s ≡ till (here from) (here last))
  SpellsPat (on_number s negative n) from to = SpellsNumber s negative n from to
  SpellsPat (on_truth s b) from to = (truth_at from ≡ Some b) × (to ≡ after from) × (s ≡ here from)

  pub SpellsPats : Pats → Toks → Toks → Type 0
  SpellsPats no_pats from to = ⊥
  SpellsPats (pat p no_pats) from to = SpellsPat p from to
  SpellsPats (pat p (pat q ps)) from to = (mid : Toks) × SpellsPat p from mid × (kind_at mid ≡ Some (Mark mark.Comma)) × SpellsPats (pat q ps) (after mid) to

-- ---- expressions, statements and blocks

-- the highest level that may stand left of an operator
abbrev pub IsLeft : Bool → ℕ → ℕ → Type 0
IsLeft true n l = l ≤ n
IsLeft false n l = l < n

-- where a statement may end without a `;`: a bare `return` ends at its line end whatever follows
abbrev pub ends_after : Bool → Toks → Bool
ends_after true ts = is_bare ts
ends_after false ts = ends ts

-- SEP: a `;`, or nothing where the statement before ends by itself. The flag says that it is a bare `return`.
abbrev pub Sep : Bool → Toks → Toks → Type 0
Sep bare from to = ((kind_at from ≡ Some (Mark mark.Semicolon)) × (to ≡ after from)) ⊎ ((ends_after bare from ≡ true) × (kind_at from ≡ Some (Mark mark.Semicolon) → ⊥) × (to ≡ from))

abbrev pub Labels : Option Name → Toks → Toks → Type 0
Labels (Some l) from to = (label_at from ≡ Some l) × (to ≡ after (after from))
Labels None from to = (label_at from ≡ None) × (to ≡ from)

-- what stands before the `=` where a value is let go
abbrev pub Ignored : Option Name → Toks → Toks → Type 0
Ignored t from mid = ((kind_at from ≡ Some (Mark mark.Underscore)) × (t ≡ None) × (kind_at (after from) ≡ Some (Mark mark.Assign)) × (mid ≡ after from))
    ⊎ ((k : Keyword) × (keyword_at from ≡ Some k) × (kind_at (after from) ≡ Some (Mark mark.Underscore)) × Typed t (after (after from)) mid × (assigns mid ≡ true))

abbrev mutual
  -- `tight`: the token before is a prefix mark
  pub SpellsE : Exp → Bool → Context → Toks → Toks → Type 0
  SpellsE (number s false n) tight context from to = (number_at from ≡ Some n) × (to ≡ after from) × (s ≡ here from)
  SpellsE (number s true n) tight context from to = (negative_at tight from ≡ Some n) × (to ≡ after (after from)) × (s ≡ till (here from) (here (after from)))
  SpellsE (text s t) tight context from to = (text_at from ≡ Some t) × (to ≡ after from) × (s ≡ here from)
  SpellsE (truth s b) tight context from to = (truth_at from ≡ Some b) × (to ≡ after from) × (s ≡ here from)
  SpellsE (path p) tight context from to = SpellsPath p from to
  SpellsE (implicit_member s n) tight context from to = SpellsCase n from × (to ≡ after (after from)) × (s ≡ till (here from) (here (after from)))
  SpellsE (parenthesized s e) tight context from to = (kind_at from ≡ Some (Mark mark.OpenParen)) × (mid : Toks) × SpellsE e false Inside (after from) mid × (kind_at mid ≡ Some (Mark mark.CloseParen)) × (to ≡ after mid) × (s ≡ till (here from) (here mid))
  SpellsE (consumed s p) tight context from to = (kind_at from ≡ Some (Word word.Consume)) × SpellsPath p (after from) to × (s ≡ till (here from) p.span)
  SpellsE (prefix s o e) tight context from to = (unary_at tight from ≡ Some o) × SpellsE e true context (after from) to × (level_of e ≡ 0) × (s ≡ till (here from) (exp_span e))
  SpellsE (binary s o at a b) tight context from to = (mid : Toks) × SpellsE a tight context from mid × IsLeft (chains (level o)) (level o) (level_of a) × (operator_at mid ≡ Some o) × (at ≡ here mid) × SpellsE b false context (after mid) to × (level_of b < level o) × (s ≡ till (exp_span a) (exp_span b))
  SpellsE (choice s c a b) tight context from to = (mid : Toks) × (last : Toks) × SpellsE c tight context from mid × (level_of c < 6) × (kind_at mid ≡ Some (Mark mark.Question)) × SpellsE a false context (after mid) last × (kind_at last ≡ Some (Mark mark.Colon)) × SpellsE b false context (after last) to × (s ≡ till (exp_span c) (exp_span b))
  SpellsE (member s e n) tight context from to = (mid : Toks) × SpellsE e tight context from mid × (is_post e ≡ true) × (is_path e ≡ false) × SpellsCase n mid × (to ≡ after (after mid)) × (s ≡ till (exp_span e) (here (after mid)))
  SpellsE (call s f es) tight context from to = (mid : Toks) × (last : Toks) × SpellsE f tight context from mid × (is_post f ≡ true) × (opens context mid ≡ true) × SpellsA es (after mid) last × (kind_at last ≡ Some (Mark mark.CloseParen)) × (to ≡ after last) × (s ≡ till (exp_span f) (here last))
  SpellsE (call_closing s f es c) tight context from to = (mid : Toks) × (last : Toks) × SpellsE f tight context from mid × (is_post f ≡ true) × (opens context mid ≡ true) × SpellsA es (after mid) last × (kind_at last ≡ Some (Mark mark.CloseParen)) × (closes context (after last) ≡ true) × SpellsK c (after last) to × (s ≡ till (exp_span f) (clo_span c))
  SpellsE (call_closure s f c) tight context from to = (mid : Toks) × SpellsE f tight context from mid × (is_post f ≡ true) × (is_call f ≡ false) × (closes context mid ≡ true) × SpellsK c mid to × (s ≡ till (exp_span f) (clo_span c))

  pub SpellsG : Given → Toks → Toks → Type 0
  SpellsG (value e) from to = SpellsE e false Inside from to
  SpellsG (address s p) from to = (kind_at from ≡ Some (Mark mark.Ampersand)) × SpellsPath p (after from) to × (s ≡ till (here from) p.span)
  SpellsG (closing c) from to = SpellsK c from to

  pub SpellsA : Args → Toks → Toks → Type 0
  SpellsA no_args from to = to ≡ from
  SpellsA (arg l g no_args) from to = (start : Toks) × Labels l from start × SpellsG g start to
  SpellsA (arg l g (arg l' g' es)) from to = (start : Toks) × (mid : Toks) × Labels l from start × SpellsG g start mid × (kind_at mid ≡ Some (Mark mark.Comma)) × SpellsA (arg l' g' es) (after mid) to

  pub SpellsK : Clo → Toks → Toks → Type 0
  SpellsK (closure s ns ss) from to = (kind_at from ≡ Some (Mark mark.OpenBrace)) × (start : Toks) × (last : Toks) × (closure_head (after from) ≡ (ns, start)) × SpellsL ss start last × (to ≡ after last) × (s ≡ till (here from) (here last))

  pub SpellsS : Stm → Toks → Toks → Type 0
  SpellsS (let_in s k n t e) from to = (keyword_at from ≡ Some k) × (name_at (after from) ≡ Some n) × (mid : Toks) × Typed t (after (after from)) mid × (assigns mid ≡ true) × SpellsE e false Plain (after mid) to × (s ≡ till (here from) (exp_span e))
  SpellsS (declare s k n t) from to = (keyword_at from ≡ Some k) × (binder_at (after from) ≡ Some n) × Typed t (after (after from)) to × (s ≡ till (here from) (typed_end (here (after from)) t))
  SpellsS (assign s p o at e) from to = (mid : Toks) × SpellsPath p from mid × (assign_at mid ≡ Some o) × (at ≡ here mid) × SpellsE e false Plain (after mid) to × (s ≡ till p.span (exp_span e))
  SpellsS (ignore s t e) from to = (mid : Toks) × Ignored t from mid × SpellsE e false Plain (after mid) to × (s ≡ till (here from) (exp_span e))
  SpellsS (discard_self s) from to = (kind_at from ≡ Some (Word word.Discard)) × (kind_at (after from) ≡ Some (Word word.SelfValue)) × (to ≡ after (after from)) × (s ≡ till (here from) (here (after from)))
  SpellsS (if_then s c b) from to = (kind_at from ≡ Some (Word word.If)) × (mid : Toks) × SpellsE c false Condition (after from) mid × SpellsB b mid to × (s ≡ till (here from) (blk_span b))
  SpellsS (if_else s c b d) from to = (kind_at from ≡ Some (Word word.If)) × (mid : Toks) × (last : Toks) × SpellsE c false Condition (after from) mid × SpellsB b mid last × (kind_at last ≡ Some (Word word.Else)) × SpellsB d (after last) to × (s ≡ till (here from) (blk_span d))
  SpellsS (else_if s c b d) from to = (kind_at from ≡ Some (Word word.If)) × (mid : Toks) × (last : Toks) × SpellsE c false Condition (after from) mid × SpellsB b mid last × (kind_at last ≡ Some (Word word.Else)) × SpellsS d (after last) to × (is_if d ≡ true) × (s ≡ till (here from) (stm_span d))
  SpellsS (loop_while s c b) from to = (kind_at from ≡ Some (Word word.While)) × (mid : Toks) × SpellsE c false Condition (after from) mid × SpellsB b mid to × (s ≡ till (here from) (blk_span b))
  SpellsS (loop_repeat s b c) from to = (kind_at from ≡ Some (Word word.Repeat)) × (mid : Toks) × SpellsB b (after from) mid × (kind_at mid ≡ Some (Word word.While)) × SpellsE c false Condition (after mid) to × (s ≡ till (here from) (exp_span c))
  SpellsS (loop_for s n low o at high b) from to = (kind_at from ≡ Some (Word word.For)) × (binder_at (after from) ≡ Some n) × (kind_at (after (after from)) ≡ Some (Word word.In)) × (mid : Toks) × (last : Toks) × SpellsE low false Condition (after (after (after from))) mid × (range_at mid ≡ Some o) × (at ≡ here mid) × SpellsE high false Condition (after mid) last × SpellsB b last to × (s ≡ till (here from) (blk_span b))
  SpellsS (switch s e cs) from to = (kind_at from ≡ Some (Word word.Switch)) × (mid : Toks) × (last : Toks) × SpellsE e false Condition (after from) mid × (kind_at mid ≡ Some (Mark mark.OpenBrace)) × SpellsC cs (after mid) last × (to ≡ after last) × (s ≡ till (here from) (here last))
  SpellsS (leave s) from to = (kind_at from ≡ Some (Word word.Break)) × (to ≡ after from) × (s ≡ here from)
  SpellsS (go_on s) from to = (kind_at from ≡ Some (Word word.Continue)) × (to ≡ after from) × (s ≡ here from)
  SpellsS (return_none s) from to = (kind_at from ≡ Some (Word word.Return)) × (to ≡ after from) × (s ≡ here from)
  SpellsS (return_value s e) from to = (kind_at from ≡ Some (Word word.Return)) × (is_bare (after from) ≡ false) × SpellsE e false Plain (after from) to × (s ≡ till (here from) (exp_span e))
  SpellsS (evaluate e) from to = SpellsE e false Plain from to

  -- the statements up to a `}`
  pub SpellsL : Stms → Toks → Toks → Type 0
  SpellsL no_stms from to = (kind_at from ≡ Some (Mark mark.CloseBrace)) × (to ≡ from)
  SpellsL (stm s ss) from to = (mid : Toks) × (next : Toks) × SpellsS s from mid × Sep (is_return s) mid next × SpellsL ss next to

  -- the statements of a clause, at least one
  pub SpellsN : Stms → Toks → Toks → Type 0
  SpellsN no_stms from to = ⊥
  SpellsN (stm s no_stms) from to = (mid : Toks) × SpellsS s from mid × Sep (is_return s) mid to
  SpellsN (stm s (stm s' ss)) from to = (mid : Toks) × (next : Toks) × SpellsS s from mid × Sep (is_return s) mid next × SpellsN (stm s' ss) next to

  pub SpellsH : When → Toks → Toks → Type 0
  SpellsH (case_of ps) from to = (kind_at from ≡ Some (Word word.Case)) × SpellsPats ps (after from) to
  SpellsH (case_where p e) from to = (kind_at from ≡ Some (Word word.Case)) × (mid : Toks) × SpellsPat p (after from) mid × (kind_at mid ≡ Some (Word word.Where)) × SpellsE e false Plain (after mid) to
  SpellsH default from to = (kind_at from ≡ Some (Word word.Default)) × (to ≡ after from)

  -- the clauses up to a `}`
  pub SpellsC : Clauses → Toks → Toks → Type 0
  SpellsC no_clauses from to = (kind_at from ≡ Some (Mark mark.CloseBrace)) × (to ≡ from)
  SpellsC (clause s h ss cs) from to = (colon : Toks) × (next : Toks) × SpellsH h from colon × (kind_at colon ≡ Some (Mark mark.Colon)) × SpellsN ss (after colon) next × (s ≡ till (here from) (stms_end (here colon) ss)) × SpellsC cs next to

  pub SpellsB : Blk → Toks → Toks → Type 0
  SpellsB (block s ss) from to = (kind_at from ≡ Some (Mark mark.OpenBrace)) × (last : Toks) × SpellsL ss (after from) last × (to ≡ after last) × (s ≡ till (here from) (here last))
