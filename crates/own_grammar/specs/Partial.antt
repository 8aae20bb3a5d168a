-- Trees that may lack parts on their right edge and nowhere else. `at` is where the tokens that they spell end. A tree
-- breaks off where one of its parts would begin, so each node on the way to the end but the last has read a token of its
-- own, save an expression statement, which has none.
use Rattle.std.specs.Prelude.{◌≡◌, ℕ, suc, ◌<◌, max, Bool, true, false, List, Option, Some}
use Rattle.own_tree.specs.declared.token.Kind.TheVariants.{Mark, Word}
use Rattle.own_tree.specs.declared.token.Mark.TheVariants as mark
use Rattle.own_tree.specs.declared.token.Word.TheVariants as word
use Rattle.own_tree.specs.declared.tree.Name.{Name}
use Rattle.own_tree.specs.declared.tree.ClosureName.{ClosureName}
use Rattle.own_tree.specs.declared.tree.Path.{Path}
use Rattle.own_tree.specs.declared.tree.Keyword.{Keyword}
use Rattle.own_tree.specs.declared.tree.PrefixOperator.{PrefixOperator}
use Rattle.own_tree.specs.declared.tree.BinaryOperator.{BinaryOperator}
use Rattle.own_tree.specs.declared.tree.AssignOperator.{AssignOperator}
use Rattle.own_tree.specs.declared.tree.RangeOperator.{RangeOperator}
use Rattle.own_tree.specs.Source.{LetPat, Pat, Exp, Given, Args, Stm, Stms, When, Blk}
use Rattle.own_grammar.specs.declared.Context.{Context}
use Rattle.own_grammar.specs.declared.Context.TheVariants.{Plain, Condition, Inside}
use Rattle.own_grammar.specs.Tests.{Toks, after, kind_at, binder_at, keyword_at, operator_at, unary_at, range_at, assign_at, assigns, opens, closes, is_bare, closure_head}
use Rattle.own_grammar.specs.Nesting.{level, chains, level_of, is_post, is_path, is_call, is_return, nest_let_pat, nest_pat, nest, nest_given, nest_args, nest_stm, nest_stms, nest_when, nest_blk}
use Rattle.own_grammar.specs.Spells.{IsLeft, Sep, Labels, Typed, SpellsPath, SpellsCase, SpellsLetPat, SpellsPat, SpellsE, SpellsG, SpellsA, SpellsS, SpellsN, SpellsH, SpellsB}

-- a pattern after `let`, broken off in its parentheses
mutual
  pub data PLetPat : Type 0 where
    -- all its parts are missing
    gone_let : PLetPat
    p_let_case : Name → PLetPats → PLetPat

  pub data PLetPats : Type 0 where
    p_let_pat : PLetPat → PLetPats
    p_next_let : LetPat → PLetPats → PLetPats

-- a pattern, broken off in its parentheses
mutual
  pub data PPat : Type 0 where
    -- all its parts are missing
    gone_pattern : PPat
    p_bind_case : PLetPat → PPat
    p_case : Name → PPats → PPat

  pub data PPats : Type 0 where
    p_pattern : PPat → PPats
    p_next_pattern : Pat → PPats → PPats

mutual
  pub data PExp : Type 0 where
    -- all its parts are missing
    gone : PExp
    p_parenthesized : PExp → PExp
    -- `consume` without its path
    p_consumed : PExp
    p_prefix : PrefixOperator → PExp → PExp
    p_binary : BinaryOperator → Exp → PExp → PExp
    p_first : Exp → PExp → PExp
    p_second : Exp → Exp → PExp → PExp
    -- a `.` without its name
    p_member : Exp → PExp
    p_call : Exp → PArgs → PExp
    -- a call whose closure lacks all its parts
    p_unclosed : Exp → Args → PExp
    p_call_closing : Exp → Args → PClo → PExp
    p_call_closure : Exp → PClo → PExp

  pub data PGiven : Type 0 where
    -- also a closure that lacks all its parts
    p_value : PExp → PGiven
    -- `&` without its path
    p_address : PGiven
    p_closing : PClo → PGiven

  pub data PArgs : Type 0 where
    no_more : PArgs
    p_arg : Option Name → PGiven → PArgs
    p_then : Option Name → Given → PArgs → PArgs

  pub data PClo : Type 0 where
    -- its brace alone
    p_opened : PClo
    p_closure : List ClosureName → PStms → PClo

  pub data PStm : Type 0 where
    gone_stm : PStm
    -- `let` or `var`
    p_let : Keyword → Option Name → Option Name → PExp → PStm
    p_assign : Path → AssignOperator → PExp → PStm
    -- `_ =`
    p_ignore : PExp → PStm
    p_if : PExp → PStm
    p_if_then : Exp → PBlk → PStm
    p_if_else : Exp → Blk → PBlk → PStm
    p_else_if : Exp → Blk → PStm → PStm
    p_while : PExp → PStm
    p_while_do : Exp → PBlk → PStm
    p_repeat : PBlk → PStm
    p_repeat_while : Blk → PExp → PStm
    p_from : Option Name → PExp → PStm
    p_to : Option Name → Exp → RangeOperator → PExp → PStm
    p_for : Option Name → Exp → RangeOperator → Exp → PBlk → PStm
    p_subject : PExp → PStm
    p_switch : Exp → PClauses → PStm
    p_return : PExp → PStm
    p_evaluate : PExp → PStm

  pub data PStms : Type 0 where
    p_stm : PStm → PStms
    p_next : Stm → PStms → PStms

  pub data PClauses : Type 0 where
    p_patterns : PPats → PClauses
    p_where : Pat → PExp → PClauses
    p_clause : When → PStms → PClauses
    p_next_clause : When → Stms → PClauses → PClauses

  pub data PBlk : Type 0 where
    gone_block : PBlk
    p_block : PStms → PBlk

abbrev pub level_p : PExp → ℕ
level_p gone = 0
level_p (p_parenthesized p) = 0
level_p p_consumed = 0
level_p (p_prefix o p) = 0
level_p (p_binary o a p) = level o
level_p (p_first c p) = 6
level_p (p_second c a p) = 6
level_p (p_member e) = 0
level_p (p_call f ps) = 0
level_p (p_unclosed f es) = 0
level_p (p_call_closing f es p) = 0
level_p (p_call_closure f p) = 0

-- how many levels of patterns stand below one that breaks off
abbrev mutual
  pub nest_plp : PLetPat → ℕ
  nest_plp gone_let = 0
  nest_plp (p_let_case n ps) = suc (nest_plps ps)

  pub nest_plps : PLetPats → ℕ
  nest_plps (p_let_pat p) = nest_plp p
  nest_plps (p_next_let p ps) = max (nest_let_pat p) (nest_plps ps)

abbrev mutual
  pub nest_pp : PPat → ℕ
  nest_pp gone_pattern = 0
  nest_pp (p_bind_case p) = nest_plp p
  nest_pp (p_case n ps) = suc (nest_pps ps)

  pub nest_pps : PPats → ℕ
  nest_pps (p_pattern p) = nest_pp p
  nest_pps (p_next_pattern p ps) = max (nest_pat p) (nest_pps ps)

-- the greatest number of nodes on a way down
abbrev mutual
  pub nest_p : PExp → ℕ
  nest_p gone = 1
  nest_p (p_parenthesized p) = suc (nest_p p)
  nest_p p_consumed = 2
  nest_p (p_prefix o p) = suc (nest_p p)
  nest_p (p_binary o a p) = suc (max (nest a) (nest_p p))
  nest_p (p_first c p) = suc (max (nest c) (nest_p p))
  nest_p (p_second c a p) = suc (max (nest c) (max (nest a) (nest_p p)))
  nest_p (p_member e) = suc (nest e)
  nest_p (p_call f ps) = suc (max (nest f) (nest_pa ps))
  nest_p (p_unclosed f es) = suc (max (nest f) (max (nest_args es) 1))
  nest_p (p_call_closing f es p) = suc (max (nest f) (max (nest_args es) (nest_pk p)))
  nest_p (p_call_closure f p) = suc (max (nest f) (nest_pk p))

  pub nest_pg : PGiven → ℕ
  nest_pg (p_value p) = nest_p p
  nest_pg p_address = 1
  nest_pg (p_closing p) = nest_pk p

  pub nest_pa : PArgs → ℕ
  nest_pa no_more = 0
  nest_pa (p_arg l p) = nest_pg p
  nest_pa (p_then l g ps) = max (nest_given g) (nest_pa ps)

  pub nest_pk : PClo → ℕ
  nest_pk p_opened = 1
  nest_pk (p_closure ns ps) = suc (nest_pl ps)

  pub nest_ps : PStm → ℕ
  nest_ps gone_stm = 1
  nest_ps (p_let k n t p) = suc (nest_p p)
  nest_ps (p_assign x o p) = suc (max 1 (nest_p p))
  nest_ps (p_ignore p) = suc (nest_p p)
  nest_ps (p_if p) = suc (nest_p p)
  nest_ps (p_if_then c p) = suc (max (nest c) (nest_pb p))
  nest_ps (p_if_else c b p) = suc (max (nest c) (max (nest_blk b) (nest_pb p)))
  nest_ps (p_else_if c b p) = suc (max (nest c) (max (nest_blk b) (nest_ps p)))
  nest_ps (p_while p) = suc (nest_p p)
  nest_ps (p_while_do c p) = suc (max (nest c) (nest_pb p))
  nest_ps (p_repeat p) = suc (nest_pb p)
  nest_ps (p_repeat_while b p) = suc (max (nest_blk b) (nest_p p))
  nest_ps (p_from n p) = suc (nest_p p)
  nest_ps (p_to n low o p) = suc (max (nest low) (nest_p p))
  nest_ps (p_for n low o high p) = suc (max (nest low) (max (nest high) (nest_pb p)))
  nest_ps (p_subject p) = suc (nest_p p)
  nest_ps (p_switch e ps) = suc (max (nest e) (nest_pc ps))
  nest_ps (p_return p) = suc (nest_p p)
  nest_ps (p_evaluate p) = suc (nest_p p)

  pub nest_pl : PStms → ℕ
  nest_pl (p_stm p) = nest_ps p
  nest_pl (p_next s ps) = max (nest_stm s) (nest_pl ps)

  pub nest_pc : PClauses → ℕ
  nest_pc (p_patterns ps) = 0
  nest_pc (p_where q p) = nest_p p
  nest_pc (p_clause h ps) = max (nest_when h) (nest_pl ps)
  nest_pc (p_next_clause h ss ps) = max (nest_when h) (max (nest_stms ss) (nest_pc ps))

  pub nest_pb : PBlk → ℕ
  nest_pb gone_block = 1
  nest_pb (p_block ps) = suc (nest_pl ps)

abbrev mutual
  pub PartLetPat : PLetPat → Toks → Toks → Type 0
  PartLetPat gone_let from at = at ≡ from
  PartLetPat (p_let_case n ps) from at = SpellsCase n from × (kind_at (after (after from)) ≡ Some (Mark mark.OpenParen)) × PartLetPats ps (after (after (after from))) at

  pub PartLetPats : PLetPats → Toks → Toks → Type 0
  PartLetPats (p_let_pat p) from at = PartLetPat p from at
  PartLetPats (p_next_let p ps) from at = (mid : Toks) × SpellsLetPat p from mid × (kind_at mid ≡ Some (Mark mark.Comma)) × PartLetPats ps (after mid) at

abbrev mutual
  pub PartPat : PPat → Toks → Toks → Type 0
  PartPat gone_pattern from at = at ≡ from
  PartPat (p_bind_case p) from at = (kind_at from ≡ Some (Word word.Let)) × PartLetPat p (after from) at
  PartPat (p_case n ps) from at = SpellsCase n from × (kind_at (after (after from)) ≡ Some (Mark mark.OpenParen)) × PartPats ps (after (after (after from))) at

  pub PartPats : PPats → Toks → Toks → Type 0
  PartPats (p_pattern p) from at = PartPat p from at
  PartPats (p_next_pattern p ps) from at = (mid : Toks) × SpellsPat p from mid × (kind_at mid ≡ Some (Mark mark.Comma)) × PartPats ps (after mid) at

abbrev mutual
  pub PartE : PExp → Bool → Context → Toks → Toks → Type 0
  PartE gone tight context from at = at ≡ from
  PartE (p_parenthesized p) tight context from at = (kind_at from ≡ Some (Mark mark.OpenParen)) × PartE p false Inside (after from) at
  PartE p_consumed tight context from at = (kind_at from ≡ Some (Word word.Consume)) × (at ≡ after from)
  PartE (p_prefix o p) tight context from at = (unary_at tight from ≡ Some o) × PartE p true context (after from) at × (level_p p ≡ 0)
  PartE (p_binary o a p) tight context from at = (mid : Toks) × SpellsE a tight context from mid × IsLeft (chains (level o)) (level o) (level_of a) × (operator_at mid ≡ Some o) × PartE p false context (after mid) at × (level_p p < level o)
  PartE (p_first c p) tight context from at = (mid : Toks) × SpellsE c tight context from mid × (level_of c < 6) × (kind_at mid ≡ Some (Mark mark.Question)) × PartE p false context (after mid) at
  PartE (p_second c a p) tight context from at = (mid : Toks) × (last : Toks) × SpellsE c tight context from mid × (level_of c < 6) × (kind_at mid ≡ Some (Mark mark.Question)) × SpellsE a false context (after mid) last × (kind_at last ≡ Some (Mark mark.Colon)) × PartE p false context (after last) at
  PartE (p_member e) tight context from at = (mid : Toks) × SpellsE e tight context from mid × (is_post e ≡ true) × (is_path e ≡ false) × (kind_at mid ≡ Some (Mark mark.Dot)) × (at ≡ after mid)
  PartE (p_call f ps) tight context from at = (mid : Toks) × SpellsE f tight context from mid × (is_post f ≡ true) × (opens context mid ≡ true) × PartA ps (after mid) at
  PartE (p_unclosed f es) tight context from at = (mid : Toks) × (last : Toks) × SpellsE f tight context from mid × (is_post f ≡ true) × (opens context mid ≡ true) × SpellsA es (after mid) last × (kind_at last ≡ Some (Mark mark.CloseParen)) × (closes context (after last) ≡ true) × (at ≡ after last)
  PartE (p_call_closing f es p) tight context from at = (mid : Toks) × (last : Toks) × SpellsE f tight context from mid × (is_post f ≡ true) × (opens context mid ≡ true) × SpellsA es (after mid) last × (kind_at last ≡ Some (Mark mark.CloseParen)) × (closes context (after last) ≡ true) × PartK p (after last) at
  PartE (p_call_closure f p) tight context from at = (mid : Toks) × SpellsE f tight context from mid × (is_post f ≡ true) × (is_call f ≡ false) × (closes context mid ≡ true) × PartK p mid at

  pub PartG : PGiven → Toks → Toks → Type 0
  PartG (p_value p) from at = PartE p false Inside from at
  PartG p_address from at = (kind_at from ≡ Some (Mark mark.Ampersand)) × (at ≡ after from)
  PartG (p_closing p) from at = PartK p from at

  pub PartA : PArgs → Toks → Toks → Type 0
  PartA no_more from at = at ≡ from
  PartA (p_arg l p) from at = (start : Toks) × Labels l from start × PartG p start at
  PartA (p_then l g ps) from at = (start : Toks) × (mid : Toks) × Labels l from start × SpellsG g start mid × (kind_at mid ≡ Some (Mark mark.Comma)) × PartA ps (after mid) at

  pub PartK : PClo → Toks → Toks → Type 0
  PartK p_opened from at = (kind_at from ≡ Some (Mark mark.OpenBrace)) × (at ≡ after from)
  PartK (p_closure ns ps) from at = (kind_at from ≡ Some (Mark mark.OpenBrace)) × (start : Toks) × (closure_head (after from) ≡ (ns, start)) × PartL ps start at

  pub PartS : PStm → Toks → Toks → Type 0
  PartS gone_stm from at = at ≡ from
  PartS (p_let k n t p) from at = (keyword_at from ≡ Some k) × (binder_at (after from) ≡ Some n) × (mid : Toks) × Typed t (after (after from)) mid × (assigns mid ≡ true) × PartE p false Plain (after mid) at
  PartS (p_assign x o p) from at = (mid : Toks) × SpellsPath x from mid × (assign_at mid ≡ Some o) × PartE p false Plain (after mid) at
  PartS (p_ignore p) from at = (kind_at from ≡ Some (Mark mark.Underscore)) × (kind_at (after from) ≡ Some (Mark mark.Assign)) × PartE p false Plain (after (after from)) at
  PartS (p_if p) from at = (kind_at from ≡ Some (Word word.If)) × PartE p false Condition (after from) at
  PartS (p_if_then c p) from at = (kind_at from ≡ Some (Word word.If)) × (mid : Toks) × SpellsE c false Condition (after from) mid × PartB p mid at
  PartS (p_if_else c b p) from at = (kind_at from ≡ Some (Word word.If)) × (mid : Toks) × (last : Toks) × SpellsE c false Condition (after from) mid × SpellsB b mid last × (kind_at last ≡ Some (Word word.Else)) × PartB p (after last) at
  PartS (p_else_if c b p) from at = (kind_at from ≡ Some (Word word.If)) × (mid : Toks) × (last : Toks) × SpellsE c false Condition (after from) mid × SpellsB b mid last × (kind_at last ≡ Some (Word word.Else)) × PartS p (after last) at
  PartS (p_while p) from at = (kind_at from ≡ Some (Word word.While)) × PartE p false Condition (after from) at
  PartS (p_while_do c p) from at = (kind_at from ≡ Some (Word word.While)) × (mid : Toks) × SpellsE c false Condition (after from) mid × PartB p mid at
  PartS (p_repeat p) from at = (kind_at from ≡ Some (Word word.Repeat)) × PartB p (after from) at
  PartS (p_repeat_while b p) from at = (kind_at from ≡ Some (Word word.Repeat)) × (mid : Toks) × SpellsB b (after from) mid × (kind_at mid ≡ Some (Word word.While)) × PartE p false Condition (after mid) at
  PartS (p_from n p) from at = (kind_at from ≡ Some (Word word.For)) × (binder_at (after from) ≡ Some n) × (kind_at (after (after from)) ≡ Some (Word word.In)) × PartE p false Condition (after (after (after from))) at
  PartS (p_to n low o p) from at = (kind_at from ≡ Some (Word word.For)) × (binder_at (after from) ≡ Some n) × (kind_at (after (after from)) ≡ Some (Word word.In)) × (mid : Toks) × SpellsE low false Condition (after (after (after from))) mid × (range_at mid ≡ Some o) × PartE p false Condition (after mid) at
  PartS (p_for n low o high p) from at = (kind_at from ≡ Some (Word word.For)) × (binder_at (after from) ≡ Some n) × (kind_at (after (after from)) ≡ Some (Word word.In)) × (mid : Toks) × (last : Toks) × SpellsE low false Condition (after (after (after from))) mid × (range_at mid ≡ Some o) × SpellsE high false Condition (after mid) last × PartB p last at
  PartS (p_subject p) from at = (kind_at from ≡ Some (Word word.Switch)) × PartE p false Condition (after from) at
  PartS (p_switch e ps) from at = (kind_at from ≡ Some (Word word.Switch)) × (mid : Toks) × SpellsE e false Condition (after from) mid × (kind_at mid ≡ Some (Mark mark.OpenBrace)) × PartC ps (after mid) at
  PartS (p_return p) from at = (kind_at from ≡ Some (Word word.Return)) × (is_bare (after from) ≡ false) × PartE p false Plain (after from) at
  PartS (p_evaluate p) from at = PartE p false Plain from at

  pub PartL : PStms → Toks → Toks → Type 0
  PartL (p_stm p) from at = PartS p from at
  PartL (p_next s ps) from at = (mid : Toks) × (next : Toks) × SpellsS s from mid × Sep (is_return s) mid next × PartL ps next at

  pub PartC : PClauses → Toks → Toks → Type 0
  PartC (p_patterns ps) from at = (kind_at from ≡ Some (Word word.Case)) × PartPats ps (after from) at
  PartC (p_where q p) from at = (kind_at from ≡ Some (Word word.Case)) × (mid : Toks) × SpellsPat q (after from) mid × (kind_at mid ≡ Some (Word word.Where)) × PartE p false Plain (after mid) at
  PartC (p_clause h ps) from at = (colon : Toks) × SpellsH h from colon × (kind_at colon ≡ Some (Mark mark.Colon)) × PartL ps (after colon) at
  PartC (p_next_clause h ss ps) from at = (colon : Toks) × (next : Toks) × SpellsH h from colon × (kind_at colon ≡ Some (Mark mark.Colon)) × SpellsN ss (after colon) next × PartC ps next at

  pub PartB : PBlk → Toks → Toks → Type 0
  PartB gone_block from at = at ≡ from
  PartB (p_block ps) from at = (kind_at from ≡ Some (Mark mark.OpenBrace)) × PartL ps (after from) at
