-- The end of a list is its last part.
use Rattle.std.proofs.Common.{◌≡◌, ℕ, zero, suc, List, [], ◌∷◌, length, get_or, ap, arith}
use Rattle.own_tree.specs.declared.span.Span.{Span}
use Rattle.own_tree.specs.declared.tree.CaseItem.{CaseItem}
use Rattle.own_grammar.specs.Declarations.{items_end}

pub last_item : (s : Span) (items : List CaseItem) (x : CaseItem) (i : ℕ) → length items ≡ suc i → x ≡ get_or items i x → x.span ≡ items_end s items
last_item s [] x i len is = absurd (omega (arith, len))
last_item s (m ∷ []) x zero len is = ap (λ (y : CaseItem). y.span) is
last_item s (m ∷ []) x (suc i) len is = absurd (omega (arith, len))
last_item s (m ∷ k ∷ ks) x zero len is = absurd (omega (arith, len))
last_item s (m ∷ k ∷ ks) x (suc i) len is = last_item m.span (k ∷ ks) x i (omega (arith, len)) is
