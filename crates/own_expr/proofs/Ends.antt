-- The end of a list is its last part.
use Rattle.std.proofs.Common.{◌≡◌, ℕ, zero, suc, List, [], ◌∷◌, map, length, get_or, ap, arith}
use Rattle.own_tree.specs.declared.span.Span.{Span}
use Rattle.own_tree.specs.declared.tree.Name.{Name}
use Rattle.own_tree.specs.declared.tree.Stmt.{Stmt}
use Rattle.own_tree.specs.View.{stmt_view, stms_of}
use Rattle.own_grammar.specs.Nesting.{stm_span, names_end, stms_end}

pub last_name : (s : Span) (ns : List Name) (n : Name) (i : ℕ) → length ns ≡ suc i → n ≡ get_or ns i n → n.span ≡ names_end s ns
last_name s [] n i len is = absurd (omega (arith, len))
last_name s (m ∷ []) n zero len is = ap (λ (x : Name). x.span) is
last_name s (m ∷ []) n (suc i) len is = absurd (omega (arith, len))
last_name s (m ∷ k ∷ ks) n zero len is = absurd (omega (arith, len))
last_name s (m ∷ k ∷ ks) n (suc i) len is = last_name m.span (k ∷ ks) n i (omega (arith, len)) is

pub last_statement : (s : Span) (ss : List Stmt) (x : Stmt) (i : ℕ) → length ss ≡ suc i → x ≡ get_or ss i x → stm_span (stmt_view x) ≡ stms_end s (stms_of (map stmt_view ss))
last_statement s [] x i len is = absurd (omega (arith, len))
last_statement s (m ∷ []) x zero len is = ap (λ (y : Stmt). stm_span (stmt_view y)) is
last_statement s (m ∷ []) x (suc i) len is = absurd (omega (arith, len))
last_statement s (m ∷ k ∷ ks) x zero len is = absurd (omega (arith, len))
last_statement s (m ∷ k ∷ ks) x (suc i) len is = last_statement (stm_span (stmt_view m)) (k ∷ ks) x i (omega (arith, len)) is
