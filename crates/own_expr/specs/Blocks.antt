-- What the answers of `parse_block` say.
use Rattle.std.specs.Prelude.{ℕ, Result, Ok, Err}
use Rattle.own_tree.specs.declared.error.ParseError.{ParseError}
use Rattle.own_tree.specs.declared.error.ParseError.TheVariants as parse_error

-- a fact of the token that a fault of syntax names
abbrev pub OnSyntax : {X : Type 0} → Result X ParseError → (ℕ → Type 0) → Type 0
OnSyntax (Ok x) p = Unit {0}
OnSyntax (Err (parse_error.Syntax token)) p = p token
OnSyntax (Err (parse_error.Depth token)) p = Unit {0}
OnSyntax (Err parse_error.Memory) p = Unit {0}

-- a fact of the token that a fault of nesting names
abbrev pub OnDepth : {X : Type 0} → Result X ParseError → (ℕ → Type 0) → Type 0
OnDepth (Ok x) p = Unit {0}
OnDepth (Err (parse_error.Syntax token)) p = Unit {0}
OnDepth (Err (parse_error.Depth token)) p = p token
OnDepth (Err parse_error.Memory) p = Unit {0}

-- an answer, of which the fact holds, unless memory runs out
abbrev pub Answers : {X : Type 0} → Result X ParseError → (X → Type 0) → Type 0
Answers (Ok x) p = p x
Answers (Err (parse_error.Syntax token)) p = ⊥
Answers (Err (parse_error.Depth token)) p = ⊥
Answers (Err parse_error.Memory) p = Unit {0}
