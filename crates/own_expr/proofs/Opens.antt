-- What each goal reads, one step down, and what the loops keep.
use Rattle.std.proofs.Common.{◌≡◌, ℕ, zero, suc, ◌+◌, ◌-◌, ◌<◌, ◌≤◌, max, Bool, true, false, List, [], ◌∷◌, ◌++◌, map, length, Some, None, Ok, refl, sym, ap, ◌∙◌, arith}
use Rattle.std.proofs.lemmas.List.{map-append}
use Rattle.own_tree.specs.declared.limits.TheConstants.{MOST_NESTING}
use Rattle.own_grammar.specs.declared.limits.TheConstants.{MOST_PATTERN_LEVELS}
use Rattle.own_tree.specs.declared.token.Mark.{Mark}
use Rattle.own_tree.specs.declared.token.Mark.TheVariants as mark
use Rattle.own_tree.specs.declared.token.Kind.TheVariants as kind
use Rattle.own_tree.specs.declared.token.Word.TheVariants as word
use Rattle.own_tree.specs.declared.tree.Argument.{Argument}
use Rattle.own_tree.specs.declared.tree.Stmt.{Stmt}
use Rattle.own_tree.specs.declared.tree.Clause.{Clause}
use Rattle.own_tree.specs.Source.{Exp, Pat, Stm, case_of, case_where}
use Rattle.own_tree.specs.View.{Arg, Cla, args_of, stms_of, clauses_of, pats_of, argument_view, stmt_view, clause_view}
use Rattle.own_grammar.specs.declared.Context.{Context}
use Rattle.own_grammar.specs.declared.Context.TheVariants.{Plain}
use Rattle.own_grammar.specs.Tests.{Toks, after, kind_at, root_at, is_mark, is_word}
use Rattle.own_grammar.specs.Nesting.{nest_given, nest_args, nest_stm, nest_stms, nest_when, nest_clauses}
use Rattle.own_grammar.specs.Reading.{◌>>=◌, expression, operand, operators_on, calls_on, arguments_on, statement, statements_on, clause_on, clauses_on, body, Reader, parenthesized_with, primary_with, pre_with, level_with, operators_with, expression_with, argument_with, arguments_with, calls_with, statement_with, separated_with, statements_with, ends_clause, clause_statements_with, where_with, clause_with, clauses_with, block_with, literal_at, step}
use Rattle.own_grammar.proofs.Facts.{mark_kind, no_negative, at_mark}
use Rattle.own_grammar.proofs.Same.{read_is}
use Rattle.own_expr.specs.declared.fault.ReadError.{ReadError}
use Rattle.own_expr.specs.declared.fault.ReadError.TheVariants as errors
use Rattle.own_expr.specs.Gives.{Fails}
use Rattle.own_expr.specs.Reads.{reader}

-- ---- the goals

pub expression_is : (context : Context) (d : ℕ) (ts : Toks) → reader (expression context) d ts ≡ expression_with MOST_NESTING reader context d ts
unfolding step
expression_is context d ts = read_is MOST_NESTING MOST_PATTERN_LEVELS (omega arith) (expression context) d ts

pub operand_is : (context : Context) (d : ℕ) (ts : Toks) → reader (operand context) d ts ≡ pre_with MOST_NESTING reader true context d ts
unfolding step
operand_is context d ts = read_is MOST_NESTING MOST_PATTERN_LEVELS (omega arith) (operand context) d ts

pub operators_is : (j : ℕ) (context : Context) (e : Exp) (d : ℕ) (ts : Toks) → reader (operators_on j context e) d ts ≡ operators_with MOST_NESTING reader j context e d ts
unfolding step
operators_is j context e d ts = read_is MOST_NESTING MOST_PATTERN_LEVELS (omega arith) (operators_on j context e) d ts

pub calls_is : (context : Context) (e : Exp) (d : ℕ) (ts : Toks) → reader (calls_on context e) d ts ≡ calls_with MOST_NESTING reader context e d ts
unfolding step
calls_is context e d ts = read_is MOST_NESTING MOST_PATTERN_LEVELS (omega arith) (calls_on context e) d ts

pub arguments_is : (xs : List Arg) (d : ℕ) (ts : Toks) → reader (arguments_on xs) d ts ≡ arguments_with MOST_NESTING reader xs d ts
unfolding step
arguments_is xs d ts = read_is MOST_NESTING MOST_PATTERN_LEVELS (omega arith) (arguments_on xs) d ts

pub statement_is : (d : ℕ) (ts : Toks) → reader statement d ts ≡ statement_with MOST_NESTING reader d ts
unfolding step
statement_is d ts = read_is MOST_NESTING MOST_PATTERN_LEVELS (omega arith) statement d ts

pub statements_is : (ss : List Stm) (d : ℕ) (ts : Toks) → reader (statements_on ss) d ts ≡ statements_with MOST_NESTING reader ss d ts
unfolding step
statements_is ss d ts = read_is MOST_NESTING MOST_PATTERN_LEVELS (omega arith) (statements_on ss) d ts

pub clause_is : (ss : List Stm) (d : ℕ) (ts : Toks) → reader (clause_on ss) d ts ≡ clause_statements_with MOST_NESTING reader ss d ts
unfolding step
clause_is ss d ts = read_is MOST_NESTING MOST_PATTERN_LEVELS (omega arith) (clause_on ss) d ts

pub clauses_is : (cs : List Cla) (d : ℕ) (ts : Toks) → reader (clauses_on cs) d ts ≡ clauses_with MOST_PATTERN_LEVELS reader cs d ts
unfolding step
clauses_is cs d ts = read_is MOST_NESTING MOST_PATTERN_LEVELS (omega arith) (clauses_on cs) d ts

pub body_is : (d : ℕ) (ts : Toks) → reader body d ts ≡ block_with MOST_NESTING reader d ts
unfolding step
body_is d ts = read_is MOST_NESTING MOST_PATTERN_LEVELS (omega arith) body d ts

-- ---- single productions

literal_mark : (ts : Toks) (x : Mark) → kind_at ts ≡ Some (kind.Mark x) → literal_at ts ≡ None
unfolding literal_at
literal_mark ts x e = rw e refl

root_mark : (ts : Toks) (x : Mark) → kind_at ts ≡ Some (kind.Mark x) → root_at ts ≡ None
unfolding root_at
root_mark ts x e = rw e refl

pub parenthesized_is : (r : Reader) (tight : Bool) (d : ℕ) (ts : Toks) → is_mark mark.OpenParen ts ≡ true → primary_with r tight d ts ≡ parenthesized_with r d ts
unfolding primary_with
parenthesized_is r tight d ts e =
    let paren = mark_kind mark.OpenParen ts e in
    rw (no_negative tight ts _ paren refl, literal_mark ts _ paren, root_mark ts _ paren, at_mark mark.Dot ts _ paren, e) refl

pub level_zero : (r : Reader) (j : ℕ) (context : Context) (d : ℕ) (ts : Toks) → j ≡ 0 → level_with MOST_NESTING r j context d ts ≡ pre_with MOST_NESTING r false context d ts
unfolding level_with
level_zero r zero context d ts e = refl
level_zero r (suc j) context d ts e = absurd (omega (arith, e))

pub level_up : (r : Reader) (j : ℕ) (context : Context) (d : ℕ) (ts : Toks) → 0 < j → level_with MOST_NESTING r j context d ts ≡ (level_with MOST_NESTING r (j - 1) context d ts >>= λ e. r (operators_on (j - 1) context e.0) d e.1)
unfolding level_with
level_up r zero context d ts lt = absurd (omega arith)
level_up r (suc j) context d ts lt = let one : suc j - 1 ≡ j = omega arith in rw one refl

pub level_fail : (e : ReadError) (r : Reader) (j : ℕ) (context : Context) (d : ℕ) (ts : Toks) → 0 < j → Fails e (level_with MOST_NESTING r (j - 1) context d ts) → Fails e (level_with MOST_NESTING r j context d ts)
level_fail errors.Memory r j context d ts lt f = tt
level_fail (errors.Syntax n) r j context d ts lt f = level_up r j context d ts lt ∙ rw f refl
level_fail (errors.Depth n) r j context d ts lt f = level_up r j context d ts lt ∙ rw f refl

-- no `where`
pub where_none : (r : Reader) (d : ℕ) (ps : List Pat) (ts : Toks) → is_word word.Where ts ≡ false → where_with r d ps ts ≡ Ok (case_of (pats_of ps), ts)
unfolding where_with
where_none r d [] ts e = refl
where_none r d (p ∷ []) ts e = rw e refl
where_none r d (p ∷ q ∷ ps) ts e = refl

pub where_one : (r : Reader) (d : ℕ) (p : Pat) (ts : Toks) → is_word word.Where ts ≡ true → where_with r d (p ∷ []) ts ≡ (r (expression Plain) d (after ts) >>= λ e. Ok (case_where p e.0, e.1))
unfolding where_with
where_one r d p ts e = rw e refl

-- a `where` that belongs to no clause
pub where_many : (r : Reader) (d : ℕ) (ps : List Pat) (ts : Toks) → (length ps ≡ 1 → ⊥) → where_with r d ps ts ≡ Ok (case_of (pats_of ps), ts)
unfolding where_with
where_many r d [] ts e = refl
where_many r d (p ∷ []) ts e = absurd (e refl)
where_many r d (p ∷ q ∷ ps) ts e = refl

pub where_fail : (e : ReadError) (r : Reader) (d : ℕ) (p : Pat) (ts : Toks) → is_word word.Where ts ≡ true → Fails e (r (expression Plain) d (after ts)) → Fails e (where_with r d (p ∷ []) ts)
where_fail errors.Memory r d p ts w f = tt
where_fail (errors.Syntax n) r d p ts w f = where_one r d p ts w ∙ rw f refl
where_fail (errors.Depth n) r d p ts w f = where_one r d p ts w ∙ rw f refl

-- ---- nesting of lists

args_nest : (xs : List Arg) (a : Arg) → nest_args (args_of (xs ++ a ∷ [])) ≡ max (nest_args (args_of xs)) (nest_given a.1)
args_nest [] a = omega arith
args_nest (x ∷ xs) a = let i = args_nest xs a in omega arith

stms_nest : (xs : List Stm) (s : Stm) → nest_stms (stms_of (xs ++ s ∷ [])) ≡ max (nest_stms (stms_of xs)) (nest_stm s)
stms_nest [] s = omega arith
stms_nest (x ∷ xs) s = let i = stms_nest xs s in omega arith

clauses_nest : (xs : List Cla) (c : Cla) → nest_clauses (clauses_of (xs ++ c ∷ [])) ≡ max (nest_clauses (clauses_of xs)) (max (nest_when c.1) (nest_stms c.2))
clauses_nest [] c = omega arith
clauses_nest (x ∷ xs) c = let i = clauses_nest xs c in omega arith

-- ---- arguments

pub record ArgumentsOn (d : ℕ) (initial : Toks) (found : List Argument) (height : ℕ) (rest : Toks) : Type 0 where
  pub whole : arguments_with MOST_NESTING reader (map argument_view found) d rest ≡ arguments_with MOST_NESTING reader [] d initial
  pub high : height ≡ nest_args (args_of (map argument_view found))
  pub fits : d + height < MOST_NESTING
  pub within : length rest ≤ length initial

pub arguments_high : (found : List Argument) (height : ℕ) (a : Argument) (h : ℕ) → height ≡ nest_args (args_of (map argument_view found)) → h ≡ nest_given (argument_view a).1 → max height h ≡ nest_args (args_of (map argument_view (found ++ a ∷ [])))
arguments_high found height a h high one =
    let view : map argument_view (found ++ a ∷ []) ≡ map argument_view found ++ argument_view a ∷ [] = map-append argument_view found (a ∷ []) in
    let n = args_nest (map argument_view found) (argument_view a) in
    rw (view, n) (omega arith)

pub arguments_go : (d : ℕ) (initial : Toks) (found : List Argument) (height : ℕ) (rest : Toks) (a : Argument) (h : ℕ) (more next : Toks) → argument_with MOST_NESTING reader d rest ≡ Ok (argument_view a, more) → is_mark mark.Comma more ≡ true → next ≡ after more
    → h ≡ nest_given (argument_view a).1 → d + h < MOST_NESTING → length next ≤ length rest → ArgumentsOn d initial found height rest → ArgumentsOn d initial (found ++ a ∷ []) (max height h) next
unfolding arguments_with
arguments_go d initial found height rest a h more next read_ comma is high fit le on =
    let view : map argument_view (found ++ a ∷ []) ≡ map argument_view found ++ argument_view a ∷ [] = map-append argument_view found (a ∷ []) in
    let on2 = on.fits in let on3 = on.within in
    record {
      whole = rw (view, is) (sym (arguments_is (map argument_view found ++ argument_view a ∷ []) d (after more)) ∙ sym (rw (read_, comma) refl) ∙ on.whole);
      high = arguments_high found height a h on.high high;
      fits = omega arith;
      within = omega arith;
    }

pub arguments_end : (d : ℕ) (initial : Toks) (found : List Argument) (height : ℕ) (rest : Toks) (a : Argument) (more : Toks) → argument_with MOST_NESTING reader d rest ≡ Ok (argument_view a, more) → is_mark mark.Comma more ≡ false
    → ArgumentsOn d initial found height rest → arguments_with MOST_NESTING reader [] d initial ≡ Ok (map argument_view (found ++ a ∷ []), more)
unfolding arguments_with
arguments_end d initial found height rest a more read_ comma on =
    sym on.whole ∙ rw (read_, comma) (ap (λ (xs : List Arg). Ok (xs, more)) (sym (map-append argument_view found (a ∷ []))))

pub arguments_fail : (e : ReadError) (d : ℕ) (initial : Toks) (found : List Argument) (height : ℕ) (rest : Toks) → Fails e (argument_with MOST_NESTING reader d rest) → ArgumentsOn d initial found height rest → Fails e (arguments_with MOST_NESTING reader [] d initial)
unfolding arguments_with
arguments_fail errors.Memory d initial found height rest f on = tt
arguments_fail (errors.Syntax n) d initial found height rest f on = sym on.whole ∙ rw f refl
arguments_fail (errors.Depth n) d initial found height rest f on = sym on.whole ∙ rw f refl

-- ---- statements

pub statements_high : (found : List Stmt) (height : ℕ) (s : Stmt) (h : ℕ) → height ≡ nest_stms (stms_of (map stmt_view found)) → h ≡ nest_stm (stmt_view s) → max height h ≡ nest_stms (stms_of (map stmt_view (found ++ s ∷ [])))
statements_high found height s h high one =
    let view : map stmt_view (found ++ s ∷ []) ≡ map stmt_view found ++ stmt_view s ∷ [] = map-append stmt_view found (s ∷ []) in
    let n = stms_nest (map stmt_view found) (stmt_view s) in
    rw (view, n) (omega arith)

pub record StatementsOn (d : ℕ) (initial : Toks) (found : List Stmt) (height : ℕ) (rest : Toks) : Type 0 where
  pub whole : reader (statements_on (map stmt_view found)) d rest ≡ reader (statements_on []) d initial
  pub high : height ≡ nest_stms (stms_of (map stmt_view found))
  pub fits : d + height ≤ MOST_NESTING
  pub within : length rest ≤ length initial

pub statements_go : (d : ℕ) (initial : Toks) (found : List Stmt) (height : ℕ) (rest : Toks) (s : Stmt) (h : ℕ) (more : Toks) → is_mark mark.CloseBrace rest ≡ false → separated_with MOST_NESTING reader d rest ≡ Ok (stmt_view s, more)
    → h ≡ nest_stm (stmt_view s) → d + h ≤ MOST_NESTING → length more < length rest → StatementsOn d initial found height rest → StatementsOn d initial (found ++ s ∷ []) (max height h) more
unfolding statements_with
statements_go d initial found height rest s h more open_ read_ high fit le on =
    let view : map stmt_view (found ++ s ∷ []) ≡ map stmt_view found ++ stmt_view s ∷ [] = map-append stmt_view found (s ∷ []) in
    let on2 = on.fits in let on3 = on.within in
    record {
      whole = rw view (sym (rw (open_, read_) refl) ∙ sym (statements_is (map stmt_view found) d rest) ∙ on.whole);
      high = statements_high found height s h on.high high;
      fits = omega arith;
      within = omega arith;
    }

pub statements_end : (d : ℕ) (initial : Toks) (found : List Stmt) (height : ℕ) (rest : Toks) → is_mark mark.CloseBrace rest ≡ true → StatementsOn d initial found height rest → reader (statements_on []) d initial ≡ Ok (map stmt_view found, rest)
unfolding statements_with
statements_end d initial found height rest close on = sym on.whole ∙ statements_is (map stmt_view found) d rest ∙ rw close refl

pub statements_fail : (e : ReadError) (d : ℕ) (initial : Toks) (found : List Stmt) (height : ℕ) (rest : Toks) → is_mark mark.CloseBrace rest ≡ false → Fails e (separated_with MOST_NESTING reader d rest) → StatementsOn d initial found height rest → Fails e (reader (statements_on []) d initial)
unfolding statements_with
statements_fail errors.Memory d initial found height rest open_ f on = tt
statements_fail (errors.Syntax n) d initial found height rest open_ f on = sym on.whole ∙ statements_is (map stmt_view found) d rest ∙ rw (open_, f) refl
statements_fail (errors.Depth n) d initial found height rest open_ f on = sym on.whole ∙ statements_is (map stmt_view found) d rest ∙ rw (open_, f) refl

-- ---- the statements of a clause

pub record ClauseOn (d : ℕ) (initial : Toks) (found : List Stmt) (height : ℕ) (rest : Toks) : Type 0 where
  pub whole : reader (clause_on (map stmt_view found)) d rest ≡ reader (clause_on []) d initial
  pub high : height ≡ nest_stms (stms_of (map stmt_view found))
  pub fits : d + height ≤ MOST_NESTING
  pub within : length rest ≤ length initial

pub clause_go : (d : ℕ) (initial : Toks) (found : List Stmt) (height : ℕ) (rest : Toks) (s : Stmt) (h : ℕ) (more : Toks) → separated_with MOST_NESTING reader d rest ≡ Ok (stmt_view s, more) → ends_clause more ≡ false
    → h ≡ nest_stm (stmt_view s) → d + h ≤ MOST_NESTING → length more < length rest → ClauseOn d initial found height rest → ClauseOn d initial (found ++ s ∷ []) (max height h) more
unfolding clause_statements_with
clause_go d initial found height rest s h more read_ open_ high fit le on =
    let view : map stmt_view (found ++ s ∷ []) ≡ map stmt_view found ++ stmt_view s ∷ [] = map-append stmt_view found (s ∷ []) in
    let on2 = on.fits in let on3 = on.within in
    record {
      whole = rw view (sym (rw (read_, open_) refl) ∙ sym (clause_is (map stmt_view found) d rest) ∙ on.whole);
      high = statements_high found height s h on.high high;
      fits = omega arith;
      within = omega arith;
    }

pub clause_end : (d : ℕ) (initial : Toks) (found : List Stmt) (height : ℕ) (rest : Toks) (s : Stmt) (more : Toks) → separated_with MOST_NESTING reader d rest ≡ Ok (stmt_view s, more) → ends_clause more ≡ true
    → ClauseOn d initial found height rest → reader (clause_on []) d initial ≡ Ok (map stmt_view (found ++ s ∷ []), more)
unfolding clause_statements_with
clause_end d initial found height rest s more read_ close on =
    sym on.whole ∙ clause_is (map stmt_view found) d rest ∙ rw (read_, close) (ap (λ (xs : List Stm). Ok (xs, more)) (sym (map-append stmt_view found (s ∷ []))))

pub clause_fail : (e : ReadError) (d : ℕ) (initial : Toks) (found : List Stmt) (height : ℕ) (rest : Toks) → Fails e (separated_with MOST_NESTING reader d rest) → ClauseOn d initial found height rest → Fails e (reader (clause_on []) d initial)
unfolding clause_statements_with
clause_fail errors.Memory d initial found height rest f on = tt
clause_fail (errors.Syntax n) d initial found height rest f on = sym on.whole ∙ clause_is (map stmt_view found) d rest ∙ rw f refl
clause_fail (errors.Depth n) d initial found height rest f on = sym on.whole ∙ clause_is (map stmt_view found) d rest ∙ rw f refl

-- ---- clauses

abbrev pub nest_cla : Cla → ℕ
nest_cla c = max (nest_when c.1) (nest_stms c.2)

pub clauses_high : (found : List Clause) (height : ℕ) (c : Clause) (h : ℕ) → height ≡ nest_clauses (clauses_of (map clause_view found)) → h ≡ nest_cla (clause_view c) → max height h ≡ nest_clauses (clauses_of (map clause_view (found ++ c ∷ [])))
clauses_high found height c h high one =
    let view : map clause_view (found ++ c ∷ []) ≡ map clause_view found ++ clause_view c ∷ [] = map-append clause_view found (c ∷ []) in
    let n = clauses_nest (map clause_view found) (clause_view c) in
    rw (view, n) (omega arith)

pub record ClausesOn (d : ℕ) (initial : Toks) (found : List Clause) (height : ℕ) (rest : Toks) : Type 0 where
  pub whole : reader (clauses_on (map clause_view found)) d rest ≡ reader (clauses_on []) d initial
  pub high : height ≡ nest_clauses (clauses_of (map clause_view found))
  pub fits : d + height ≤ MOST_NESTING
  pub within : length rest ≤ length initial

pub clauses_go : (d : ℕ) (initial : Toks) (found : List Clause) (height : ℕ) (rest : Toks) (c : Clause) (h : ℕ) (more : Toks) → is_mark mark.CloseBrace rest ≡ false → clause_with MOST_PATTERN_LEVELS reader d rest ≡ Ok (clause_view c, more)
    → h ≡ nest_cla (clause_view c) → d + h ≤ MOST_NESTING → length more < length rest → ClausesOn d initial found height rest → ClausesOn d initial (found ++ c ∷ []) (max height h) more
unfolding clauses_with
clauses_go d initial found height rest c h more open_ read_ high fit le on =
    let view : map clause_view (found ++ c ∷ []) ≡ map clause_view found ++ clause_view c ∷ [] = map-append clause_view found (c ∷ []) in
    let on2 = on.fits in let on3 = on.within in
    record {
      whole = rw view (sym (rw (open_, read_) refl) ∙ sym (clauses_is (map clause_view found) d rest) ∙ on.whole);
      high = clauses_high found height c h on.high high;
      fits = omega arith;
      within = omega arith;
    }

pub clauses_end : (d : ℕ) (initial : Toks) (found : List Clause) (height : ℕ) (rest : Toks) → is_mark mark.CloseBrace rest ≡ true → ClausesOn d initial found height rest → reader (clauses_on []) d initial ≡ Ok (map clause_view found, rest)
unfolding clauses_with
clauses_end d initial found height rest close on = sym on.whole ∙ clauses_is (map clause_view found) d rest ∙ rw close refl

pub clauses_fail : (e : ReadError) (d : ℕ) (initial : Toks) (found : List Clause) (height : ℕ) (rest : Toks) → is_mark mark.CloseBrace rest ≡ false → Fails e (clause_with MOST_PATTERN_LEVELS reader d rest) → ClausesOn d initial found height rest → Fails e (reader (clauses_on []) d initial)
unfolding clauses_with
clauses_fail errors.Memory d initial found height rest open_ f on = tt
clauses_fail (errors.Syntax n) d initial found height rest open_ f on = sym on.whole ∙ clauses_is (map clause_view found) d rest ∙ rw (open_, f) refl
clauses_fail (errors.Depth n) d initial found height rest open_ f on = sym on.whole ∙ clauses_is (map clause_view found) d rest ∙ rw (open_, f) refl
