-- Names and words: what is read, and what the definition says.
use Rattle.std.proofs.Common.{◌≡◌, ◌≢◌, ℕ, Bool, cond, true, false, ◌&&◌, List, [], ◌∷◌, ◌++◌, map, Option, Some, None, Ok, refl, sym, ap, ◌∙◌, codes, append_assoc, encode_utf8_all, bytes_eq}
use Rattle.std.proofs.lemmas.List.{append-nil}
use Rattle.std.proofs.lemmas.Slice.Eq.{bytes_eq-Decides}
use Rattle.std.specs.Char.{encode_utf8}
use Rattle.own_tree.specs.declared.token.Kind.TheVariants as kind
use Rattle.own_tree.specs.declared.token.Word.{Word}
use Rattle.own_tree.specs.declared.token.Word.TheVariants as word
use Rattle.own_tree.specs.declared.token.Mark.TheVariants as mark
use Rattle.own_tree.specs.Characters.{Text, continues_name, run, past}
use Rattle.own_tree.specs.Spelling.{word_text}
use Rattle.own_lex.specs.declared.word.TheConstants.{WORDS}
use Rattle.own_lex.specs.Reading.{Bytes, lookup, word_of, named, name_on, name_at}

pub name_on-run : (cs : Text) (found : Bytes) → name_on found cs ≡ (found ++ encode_utf8_all (run continues_name cs), past continues_name cs)
unfolding name_on run past
name_on-run [] found = rw append-nil refl
name_on-run (c ∷ cs) found = by_test (continues_name c) refl (name_on-run cs (found ++ encode_utf8 c))
  where
    by_test : (b : Bool) → continues_name c ≡ b → name_on (found ++ encode_utf8 c) cs ≡ ((found ++ encode_utf8 c) ++ encode_utf8_all (run continues_name cs), past continues_name cs)
        → name_on found (c ∷ cs) ≡ (found ++ encode_utf8_all (run continues_name (c ∷ cs)), past continues_name (c ∷ cs))
    by_test true t more = rw t (more ∙ rw append_assoc refl)
    by_test false t more = rw t (rw append-nil refl)

pub name_at-run : (c : ℕ) (cs : Text) → name_at (c ∷ cs) ≡ Ok (named (encode_utf8_all (c ∷ run continues_name cs)), past continues_name cs)
unfolding name_at
name_at-run c cs = rw (name_on-run cs (encode_utf8 c)) refl

-- ---- words

abbrev table : List (Bytes × Word)
table = map (λ e. (e.0.now, e.1)) WORDS

abbrev all_spelled : List (Bytes × Word) → Bool
all_spelled [] = true
all_spelled (e ∷ es) = bytes_eq e.0 (word_text e.1) && all_spelled es

table_spelled : all_spelled table ≡ true
unfolding word_text
table_spelled = refl

pub both : (a b : Bool) → (a && b) ≡ true → (a ≡ true) × (b ≡ true)
both true b e = (refl, e)
both false b e = absurd cc

pub same_bytes : (xs ys : List ℕ) → bytes_eq xs ys ≡ true → xs ≡ ys
same_bytes xs ys e = (bytes_eq-Decides xs ys).0 e

lookup_spelled : (es : List (Bytes × Word)) (name : Bytes) (w : Word) → all_spelled es ≡ true → lookup es name ≡ Some w → name ≡ word_text w
lookup_spelled [] name w all e = absurd cc
lookup_spelled (x ∷ xs) name w all e = by_test (bytes_eq x.0 name) refl e (lookup_spelled xs name w (both _ _ all).1)
  where
    by_test : (b : Bool) → bytes_eq x.0 name ≡ b → cond b (Some x.1) (lookup xs name) ≡ Some w → (lookup xs name ≡ Some w → name ≡ word_text w) → name ≡ word_text w
    by_test true t e more = let same : x.1 ≡ w = cc in sym (same_bytes x.0 name t) ∙ same_bytes x.0 (word_text x.1) (both _ _ all).0 ∙ ap word_text same
    by_test false t e more = more e

pub word_of-spelled : (name : Bytes) (w : Word) → word_of name ≡ Some w → name ≡ word_text w
unfolding word_of
word_of-spelled name w e = lookup_spelled table name w table_spelled e

pub word_of-word_text : (w : Word) → word_of (word_text w) ≡ Some w
unfolding word_of word_text
word_of-word_text word.Func = refl
word_of-word_text word.Struct = refl
word_of-word_text word.Enum = refl
word_of-word_text word.Case = refl
word_of-word_text word.Let = refl
word_of-word_text word.Var = refl
word_of-word_text word.Init = refl
word_of-word_text word.Deinit = refl
word_of-word_text word.If = refl
word_of-word_text word.Else = refl
word_of-word_text word.While = refl
word_of-word_text word.Repeat = refl
word_of-word_text word.For = refl
word_of-word_text word.In = refl
word_of-word_text word.Switch = refl
word_of-word_text word.Where = refl
word_of-word_text word.Default = refl
word_of-word_text word.Return = refl
word_of-word_text word.Break = refl
word_of-word_text word.Continue = refl
word_of-word_text word.True = refl
word_of-word_text word.False = refl
word_of-word_text word.SelfValue = refl
word_of-word_text word.Consume = refl
word_of-word_text word.Borrowing = refl
word_of-word_text word.Consuming = refl
word_of-word_text word.Mutating = refl
word_of-word_text word.Inout = refl
word_of-word_text word.Discard = refl
word_of-word_text word.Copy = refl
word_of-word_text word.Class = refl
word_of-word_text word.Protocol = refl
word_of-word_text word.Extension = refl
word_of-word_text word.Import = refl
word_of-word_text word.Guard = refl
word_of-word_text word.Defer = refl
word_of-word_text word.Throw = refl
word_of-word_text word.Throws = refl
word_of-word_text word.Try = refl
word_of-word_text word.As = refl
word_of-word_text word.Is = refl
word_of-word_text word.Nil = refl
word_of-word_text word.Static = refl
word_of-word_text word.Subscript = refl
word_of-word_text word.Typealias = refl
word_of-word_text word.Do = refl
word_of-word_text word.Catch = refl
word_of-word_text word.Fallthrough = refl
word_of-word_text word.Super = refl
word_of-word_text word.SelfType = refl
word_of-word_text word.Any = refl
word_of-word_text word.Public = refl
word_of-word_text word.Private = refl
word_of-word_text word.Fileprivate = refl
word_of-word_text word.Internal = refl
word_of-word_text word.Rethrows = refl
word_of-word_text word.Associatedtype = refl
word_of-word_text word.Operator = refl

pub no_word : (name : Bytes) → word_of name ≡ None → (w : Word) → name ≢ word_text w
no_word name e w is = let other : word_of name ≡ Some w = ap word_of is ∙ word_of-word_text w in let none : None ≡ Some w = sym e ∙ other in absurd cc

underscore : word_of (codes "_") ≡ None
unfolding word_of
underscore = refl

-- ---- the kind of what is spelled

pub named_underscore : named (codes "_") ≡ kind.Mark mark.Underscore
unfolding named
named_underscore = refl

pub named_word : (w : Word) → named (word_text w) ≡ kind.Word w
unfolding named
named_word w = by_test (bytes_eq (word_text w) (codes "_")) refl
  where
    by_test : (b : Bool) → bytes_eq (word_text w) (codes "_") ≡ b → named (word_text w) ≡ kind.Word w
    by_test true t = absurd (no_word (codes "_") underscore w (sym (same_bytes (word_text w) (codes "_") t)))
    by_test false t = rw (t, word_of-word_text w) refl

pub named_name : (name : Bytes) → name ≢ codes "_" → ((w : Word) → name ≢ word_text w) → named name ≡ kind.Name name
unfolding named
named_name name other none = by_test (bytes_eq name (codes "_")) refl (word_of name) refl
  where
    by_test : (b : Bool) → bytes_eq name (codes "_") ≡ b → (r : Option Word) → word_of name ≡ r → named name ≡ kind.Name name
    by_test true t r e = absurd (other (same_bytes name (codes "_") t))
    by_test false t None e = rw (t, e) refl
    by_test false t (Some w) e = absurd (none w (word_of-spelled name w e))
