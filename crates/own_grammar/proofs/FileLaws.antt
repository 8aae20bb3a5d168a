-- What reading a file says of the trees that spell it.
use Rattle.std.proofs.Common.{◌≡◌, ℕ, suc, ◌≤◌, ◌<◌, Bool, cond, max, true, false, List, [], length, Option, Some, None, Result, Ok, Err, ◌⊎◌, inl, inr, refl, sym, ap, subst, arith, codes, ◌++◌, ◌∷◌}
use Rattle.own_tree.specs.declared.span.Span.{Span}
use Rattle.own_tree.specs.declared.token.Word.{Word}
use Rattle.own_tree.specs.declared.token.Word.TheVariants as word
use Rattle.own_tree.specs.declared.token.Kind.TheVariants as kind
use Rattle.own_tree.specs.declared.token.Mark.TheVariants as mark
use Rattle.own_tree.specs.declared.tree.Name.{Name}
use Rattle.own_tree.specs.Source.{Member, Decl, struct_of, enum_of, function, File}
use Rattle.own_grammar.specs.declared.Context.TheVariants.{Plain}
use Rattle.own_grammar.specs.Tests.{Toks, after, here, till, kind_at, is_mark, is_word, name_at, opens, is_none, is_over}
use Rattle.own_grammar.specs.Reading.{Fault, Syntax, Depth, Read, ◌>>=◌, sep_at}
use Rattle.own_grammar.specs.Lists.{Separated, greatest, separated_on}
use Rattle.own_grammar.specs.Declarations.{is_named, SpellsStructMember, SpellsEnumMember, Noncopyable, SpellsMembers, SpellsDeclaration, SpellsMain, Spells, nest_member, nest_declaration, nest_file, levels_member, levels_declaration, levels_file}
use Rattle.own_grammar.specs.ReadingFile.{wanted, function_with, struct_member_with, enum_member_with, noncopyable_with, members_with, named_with, declaration_with, end_with, main_with, is_main, read_file}
use Rattle.own_grammar.specs.PartialFile.{PDecl, p_struct, p_enum, p_function, PFile, levels_pd, levels_pf, nest_pd, nest_pf, PartDeclaration, Part}
use Rattle.own_grammar.proofs.Facts.{mark_kind, word_kind, at_mark, at_word}
use Rattle.own_grammar.proofs.Lengths.{after_short, after_le}
use Rattle.own_grammar.proofs.ListLaws.{Told, separated_complete, separated_sound, separated_deep, separated_le, separated_is}
use Rattle.own_grammar.proofs.Parameters.{wanted_is, wanted_ok, wanted_deep}
use Rattle.own_grammar.proofs.Within.{over, within_whole, over_whole}
use Rattle.own_grammar.proofs.Members.{Follows, size_blk, size_member, told_then, told_same, function_told, function_sound, function_deep, function_short, struct_member_told, struct_member_sound, struct_member_deep, struct_member_short, struct_member_word, enum_member_told, enum_member_sound, enum_member_deep, enum_member_short, enum_member_word}
use Rattle.own_grammar.proofs.Steps.{done, bind_ok, ok_is, chosen, kept, some_kept, bind_err, bind_deep, syn, some_syn, no_ok}

-- ---- how far declarations are over the limits

abbrev size_declaration : ℕ → ℕ → Decl → ℕ
size_declaration most levels (struct_of s n b ms) = greatest (size_member most levels) ms
size_declaration most levels (enum_of s n b ms) = greatest (size_member most levels) ms
size_declaration most levels (function f) = size_blk most levels f.body

abbrev size_pd : ℕ → ℕ → PDecl → ℕ
size_pd most levels p = over most levels 0 (nest_pd p) (levels_pd p)

members_over : (most levels : ℕ) (ms : List Member) → greatest (size_member most levels) ms ≡ over most levels 0 (greatest nest_member ms) (greatest levels_member ms)
members_over most levels [] = omega arith
members_over most levels (m ∷ ms) = let i = members_over most levels ms in omega (arith, i)

declaration_over : (most levels : ℕ) (d : Decl) → size_declaration most levels d ≡ over most levels 0 (nest_declaration d) (levels_declaration d)
declaration_over most levels (struct_of s n b ms) = members_over most levels ms
declaration_over most levels (enum_of s n b ms) = members_over most levels ms
declaration_over most levels (function f) = refl

file_over : (most levels : ℕ) (ds : List Decl) → greatest (size_declaration most levels) ds ≡ over most levels 0 (greatest nest_declaration ds) (greatest levels_declaration ds)
file_over most levels [] = omega arith
file_over most levels (d ∷ ds) = let one = declaration_over most levels d in let i = file_over most levels ds in omega (arith, one, i)

-- ---- `: ~Copyable`

abbrev marked : Toks → Read Bool
marked ts = Ok (true, after (after (after ts)))

noncopyable_is : (b : Bool) (from brace : Toks) → Noncopyable b from brace → kind_at brace ≡ Some (kind.Mark mark.OpenBrace) → noncopyable_with from ≡ Ok (b, brace)
unfolding noncopyable_with wanted
noncopyable_is false from brace is k = rw (← is, at_mark mark.Colon brace _ k) refl
noncopyable_is true from brace (colon, tilde, named, is) k = rw (at_mark mark.Colon from _ colon, at_mark mark.Tilde (after from) _ tilde, named, is) refl

noncopyable_sound : (ts : Toks) (x : Bool × Toks) → noncopyable_with ts ≡ Ok x → Noncopyable x.0 ts x.1
unfolding noncopyable_with
noncopyable_sound ts x e = elim (chosen (is_mark mark.Colon ts) (wanted (is_mark mark.Tilde (after ts)) (after ts) (wanted (is_named (codes "Copyable") (after (after ts))) (after (after ts)) (marked ts))) (done (false, ts)) _ e) [
  | inl y ↦ (
      let a = wanted_ok (is_mark mark.Tilde (after ts)) (after ts) (wanted (is_named (codes "Copyable") (after (after ts))) (after (after ts)) (marked ts)) x y.1 in
      let b = wanted_ok (is_named (codes "Copyable") (after (after ts))) (after (after ts)) (marked ts) x a.1 in
      rw (← ok_is (true, after (after (after ts))) x b.1) (mark_kind mark.Colon ts y.0, mark_kind mark.Tilde (after ts) a.0, b.0, refl))
  | inr y ↦ rw (← ok_is (false, ts) x y.1) refl
]

noncopyable_shallow : (ts : Toks) (n : ℕ) → noncopyable_with ts ≡ Err (Depth n) → ⊥
unfolding noncopyable_with
noncopyable_shallow ts n e = elim (chosen (is_mark mark.Colon ts) (wanted (is_mark mark.Tilde (after ts)) (after ts) (wanted (is_named (codes "Copyable") (after (after ts))) (after (after ts)) (marked ts))) (done (false, ts)) _ e) [
  | inl y ↦ (
      let a = wanted_deep (is_mark mark.Tilde (after ts)) (after ts) (wanted (is_named (codes "Copyable") (after (after ts))) (after (after ts)) (marked ts)) n y.1 in
      let b = wanted_deep (is_named (codes "Copyable") (after (after ts))) (after (after ts)) (marked ts) n a.1 in
      no_ok _ n b.1)
  | inr y ↦ no_ok _ n y.1
]

noncopyable_le : (b : Bool) (from brace : Toks) → Noncopyable b from brace → length brace ≤ length from
noncopyable_le false from brace is = rw is (omega arith)
noncopyable_le true from brace (colon, tilde, named, is) = rw is (let a = after_le from in let b = after_le (after from) in let c = after_le (after (after from)) in omega arith)

-- ---- what a struct or an enum holds

module _ (most levels : ℕ) (S : Member → Toks → Toks → Type 0) (item : Toks → Read Member)
    (told : (m : Member) (from to : Toks) → S m from to → Follows to → Told 0 (size_member most levels m) (item from) m to)
    (snd : (ts : Toks) (x : Member × Toks) → item ts ≡ Ok x → S x.0 ts x.1 × (size_member most levels x.0 ≤ 0))
    (short : (m : Member) (from to : Toks) → S m from to → length to < length from)
    (begins : (m : Member) (from to : Toks) → S m from to → (w : Word) × (kind_at from ≡ Some (kind.Word w))) where
  semicolon_follows : (ts : Toks) → kind_at ts ≡ Some (kind.Mark mark.Semicolon) → Follows ts
  semicolon_follows ts k = (at_mark mark.OpenParen ts _ k, at_mark mark.Comma ts _ k)

  part_follows : (m : Member) (from to : Toks) → S m from to → Follows from × (is_mark mark.CloseBrace from ≡ false)
  part_follows m from to sp = let k = (begins m from to sp).1 in ((at_mark mark.OpenParen from _ k, at_mark mark.Comma from _ k), at_mark mark.CloseBrace from _ k)

  members_told : (ms : List Member) (from last : Toks) → kind_at from ≡ Some (kind.Mark mark.OpenBrace) → Separated S ms (after from) last → kind_at last ≡ Some (kind.Mark mark.CloseBrace) → Told 0 (greatest (size_member most levels) ms) (members_with item from) ms last
  unfolding members_with
  members_told ms from last lb sps rb =
      told_same (greatest (size_member most levels) ms) _ (separated_on (is_mark mark.CloseBrace) item [] (after from)) ms last (wanted_is (is_mark mark.OpenBrace from) from _ (at_mark mark.OpenBrace from _ lb))
      (separated_complete 0 S (is_mark mark.CloseBrace) item (size_member most levels) Follows told snd short semicolon_follows part_follows ms [] (after from) last sps (at_mark mark.OpenParen last _ rb, at_mark mark.Comma last _ rb) (at_mark mark.CloseBrace last _ rb))

  named_reads : (make : Span → Name → Bool → List Member → Decl) (n : Name) (b : Bool) (from brace : Toks) → name_at (after from) ≡ Some n → Noncopyable b (after (after from)) brace → kind_at brace ≡ Some (kind.Mark mark.OpenBrace)
      → named_with item make from ≡ (members_with item brace >>= λ ms. done (make (till (here from) (here ms.1)) n b ms.0, after ms.1))
  unfolding named_with
  named_reads make n b from brace nm nc lb = rw (nm, noncopyable_is b (after (after from)) brace nc lb) refl

  named_told : (make : Span → Name → Bool → List Member → Decl) (w : Word) (s : Span) (n : Name) (b : Bool) (ms : List Member) (from to : Toks) → SpellsMembers w S s n b ms from to → Told 0 (greatest (size_member most levels) ms) (named_with item make from) (make s n b ms) to
  named_told make w s n b ms from to (brace, last, k, nm, nc, lb, sps, rb, is, is_s) =
      told_same (greatest (size_member most levels) ms) (named_with item make from) _ (make s n b ms) to (named_reads make n b from brace nm nc lb)
      (told_then (greatest (size_member most levels) ms) (members_with item brace) (λ ms. done (make (till (here from) (here ms.1)) n b ms.0, after ms.1)) ms (make s n b ms) last to (members_told ms brace last lb sps rb) (rw (is_s, is) refl))

  abbrev MembersRead : List Member → Toks → Toks → Type 0
  MembersRead ms from last = (kind_at from ≡ Some (kind.Mark mark.OpenBrace)) × Separated S ms (after from) last × (kind_at last ≡ Some (kind.Mark mark.CloseBrace)) × (greatest (size_member most levels) ms ≤ 0)

  members_sound : (ts : Toks) (x : List Member × Toks) → members_with item ts ≡ Ok x → MembersRead x.0 ts x.1
  unfolding members_with
  members_sound ts x e =
      let q = wanted_ok (is_mark mark.OpenBrace ts) ts (separated_on (is_mark mark.CloseBrace) item [] (after ts)) x e in
      let s = separated_sound 0 S (is_mark mark.CloseBrace) item (size_member most levels) Follows told snd short semicolon_follows part_follows [] (after ts) x q.1 in
      rw s.1 (mark_kind mark.OpenBrace ts q.0, s.2, mark_kind mark.CloseBrace x.1 s.4, s.3)

  members_is : (found : List Member) (ts : Toks) → separated_on (is_mark mark.CloseBrace) item found ts ≡ cond (is_mark mark.CloseBrace ts) (done (found, ts)) (item ts >>= λ x. sep_at true x.1 >>= λ next. separated_on (is_mark mark.CloseBrace) item (found ++ x.0 ∷ []) next)
  members_is found ts = separated_is 0 S (is_mark mark.CloseBrace) item (size_member most levels) Follows told snd short semicolon_follows part_follows found ts

  abbrev NamedRead : (Span → Name → Bool → List Member → Decl) → Word → Decl → Toks → Toks → Type 0
  NamedRead make w d from to = (s : Span) × (n : Name) × (b : Bool) × (ms : List Member) × (d ≡ make s n b ms) × SpellsMembers w S s n b ms from to × (greatest (size_member most levels) ms ≤ 0)

  named_sound : (make : Span → Name → Bool → List Member → Decl) (w : Word) (ts : Toks) (x : Decl × Toks) → kind_at ts ≡ Some (kind.Word w) → named_with item make ts ≡ Ok x → NamedRead make w x.0 ts x.1
  unfolding named_with
  named_sound make w ts x k e =
      let n = some_kept (name_at (after ts)) (λ n. noncopyable_with (after (after ts)) >>= λ b. members_with item b.1 >>= λ ms. done (make (till (here ts) (here ms.1)) n b.0 ms.0, after ms.1)) (Syntax (length (after ts))) x e in
      let b = bind_ok (noncopyable_with (after (after ts))) (λ b. members_with item b.1 >>= λ ms. done (make (till (here ts) (here ms.1)) n.0 b.0 ms.0, after ms.1)) x n.2 in
      let m = bind_ok (members_with item b.0.1) (λ ms. done (make (till (here ts) (here ms.1)) n.0 b.0.0 ms.0, after ms.1)) x b.2 in
      let s = members_sound b.0.1 m.0 m.1 in
      rw (← ok_is (make (till (here ts) (here m.0.1)) n.0 b.0.0 m.0.0, after m.0.1) x m.2)
      (till (here ts) (here m.0.1), n.0, b.0.0, m.0.0, refl, (b.0.1, m.0.1, k, n.1, noncopyable_sound (after (after ts)) b.0 b.1, s.0, s.1, s.2, refl, refl), s.3)

  abbrev NamedDeep : Toks → ℕ → Type 0
  NamedDeep ts n = (name : Name) × (b : Bool) × (ms : List Member) × (brace : Toks) × (mid : Toks) × (name_at (after ts) ≡ Some name) × Noncopyable b (after (after ts)) brace × (kind_at brace ≡ Some (kind.Mark mark.OpenBrace)) × Separated S ms (after brace) mid × (item mid ≡ Err (Depth n))

  named_deep : (make : Span → Name → Bool → List Member → Decl) (ts : Toks) (n : ℕ) → named_with item make ts ≡ Err (Depth n) → NamedDeep ts n
  unfolding named_with members_with
  named_deep make ts n e =
      let m = some_syn (name_at (after ts)) (λ m. noncopyable_with (after (after ts)) >>= λ b. members_with item b.1 >>= λ ms. done (make (till (here ts) (here ms.1)) m b.0 ms.0, after ms.1)) (length (after ts)) n e in
      elim (bind_err (noncopyable_with (after (after ts))) (λ b. members_with item b.1 >>= λ ms. done (make (till (here ts) (here ms.1)) m.0 b.0 ms.0, after ms.1)) _ m.2) [
        | inl y ↦ absurd (noncopyable_shallow (after (after ts)) n y)
        | inr b ↦ (
            let g = bind_deep (members_with item b.0.1) (λ ms. (make (till (here ts) (here ms.1)) m.0 b.0.0 ms.0, after ms.1)) n b.2 in
            let q = wanted_deep (is_mark mark.OpenBrace b.0.1) b.0.1 (separated_on (is_mark mark.CloseBrace) item [] (after b.0.1)) n g in
            let d = separated_deep 0 S (is_mark mark.CloseBrace) item (size_member most levels) Follows told snd short semicolon_follows part_follows [] (after b.0.1) n q.1 in
            (m.0, b.0.0, d.0, b.0.1, d.1, m.1, noncopyable_sound (after (after ts)) b.0 b.1, mark_kind mark.OpenBrace b.0.1 q.0, d.2, d.3))
      ]

  named_short : (w : Word) (s : Span) (n : Name) (b : Bool) (ms : List Member) (from to : Toks) → SpellsMembers w S s n b ms from to → length to < length from
  named_short w s n b ms from to (brace, last, k, nm, nc, lb, sps, rb, is, is_s) =
      rw is (let a = after_short from _ k in let c = after_le (after from) in let d = noncopyable_le b (after (after from)) brace nc in let e = after_le brace in
      let f = separated_le 0 S (is_mark mark.CloseBrace) item (size_member most levels) Follows told snd short semicolon_follows part_follows ms (after brace) last sps in let g = after_le last in omega arith)

-- ---- declarations

abbrev Free : Toks → Type 0
Free ts = Unit {0}

module _ (most levels : ℕ) (some : 0 < levels) where
  struct_told : (m : Member) (from to : Toks) → SpellsStructMember m from to → Follows to → Told 0 (size_member most levels m) (struct_member_with most levels from) m to
  struct_told m from to sp f = struct_member_told most levels some m from to sp

  declaration_told : (x : Decl) (from to : Toks) → SpellsDeclaration x from to → Free to → Told 0 (size_declaration most levels x) (declaration_with most levels from) x to
  unfolding declaration_with
  declaration_told (struct_of s n b ms) from to sp f = let k = sp.2 in
      rw (at_word word.Struct from _ k) (named_told most levels SpellsStructMember (struct_member_with most levels) struct_told (struct_member_sound most levels some) (struct_member_short most levels some) (struct_member_word most levels some) struct_of word.Struct s n b ms from to sp)
  declaration_told (enum_of s n b ms) from to sp f = let k = sp.2 in
      rw (at_word word.Struct from _ k, at_word word.Enum from _ k) (named_told most levels SpellsEnumMember (enum_member_with most levels) (enum_member_told most levels some) (enum_member_sound most levels some) (enum_member_short most levels some) (enum_member_word most levels some) enum_of word.Enum s n b ms from to sp)
  declaration_told (function g) from to sp f = let k = sp.2 in
      rw (at_word word.Struct from _ k, at_word word.Enum from _ k) (told_then (size_blk most levels g.body) (function_with most levels from) (λ h. done (function h.0, h.1)) g (function g) to to (function_told most levels some g from to sp) refl)

  declaration_sound : (ts : Toks) (x : Decl × Toks) → declaration_with most levels ts ≡ Ok x → SpellsDeclaration x.0 ts x.1 × (size_declaration most levels x.0 ≤ 0)
  unfolding declaration_with
  declaration_sound ts x e = elim (chosen (is_word word.Struct ts) (named_with (struct_member_with most levels) struct_of ts) (cond (is_word word.Enum ts) (named_with (enum_member_with most levels) enum_of ts) (function_with most levels ts >>= λ f. done (function f.0, f.1))) _ e) [
    | inl y ↦ (let s = named_sound most levels SpellsStructMember (struct_member_with most levels) struct_told (struct_member_sound most levels some) (struct_member_short most levels some) (struct_member_word most levels some) struct_of word.Struct ts x (word_kind word.Struct ts y.0) y.1 in
        rw s.4 (s.5, s.6))
    | inr y ↦ elim (chosen (is_word word.Enum ts) (named_with (enum_member_with most levels) enum_of ts) (function_with most levels ts >>= λ f. done (function f.0, f.1)) _ y.1) [
      | inl z ↦ (let s = named_sound most levels SpellsEnumMember (enum_member_with most levels) (enum_member_told most levels some) (enum_member_sound most levels some) (enum_member_short most levels some) (enum_member_word most levels some) enum_of word.Enum ts x (word_kind word.Enum ts z.0) z.1 in
          rw s.4 (s.5, s.6))
      | inr z ↦ (
          let f = bind_ok (function_with most levels ts) (λ f. done (function f.0, f.1)) x z.1 in
          let s = function_sound most levels some ts f.0 f.1 in
          rw (← ok_is (function f.0.0, f.0.1) x f.2) (s.0, s.1))
    ]
  ]

  abbrev DeepD : Toks → ℕ → Type 0
  DeepD ts n = (p : PDecl) × (at_ : Toks) × (length at_ ≡ n) × PartDeclaration p ts at_ × (0 < size_pd most levels p)

  declaration_deep : (ts : Toks) (n : ℕ) → declaration_with most levels ts ≡ Err (Depth n) → DeepD ts n
  unfolding declaration_with
  declaration_deep ts n e = elim (chosen (is_word word.Struct ts) (named_with (struct_member_with most levels) struct_of ts) (cond (is_word word.Enum ts) (named_with (enum_member_with most levels) enum_of ts) (function_with most levels ts >>= λ f. done (function f.0, f.1))) _ e) [
    | inl y ↦ (
        let s = named_deep most levels SpellsStructMember (struct_member_with most levels) struct_told (struct_member_sound most levels some) (struct_member_short most levels some) (struct_member_word most levels some) struct_of ts n y.1 in
        let d = struct_member_deep most levels some s.4 n s.9 in
        (p_struct s.0 s.1 s.2 d.0, d.1, d.2, (s.3, s.4, word_kind word.Struct ts y.0, s.5, s.6, s.7, s.8, d.3), d.4))
    | inr y ↦ elim (chosen (is_word word.Enum ts) (named_with (enum_member_with most levels) enum_of ts) (function_with most levels ts >>= λ f. done (function f.0, f.1)) _ y.1) [
      | inl z ↦ (
          let s = named_deep most levels SpellsEnumMember (enum_member_with most levels) (enum_member_told most levels some) (enum_member_sound most levels some) (enum_member_short most levels some) (enum_member_word most levels some) enum_of ts n z.1 in
          let d = enum_member_deep most levels some s.4 n s.9 in
          (p_enum s.0 s.1 s.2 d.0, d.1, d.2, (s.3, s.4, word_kind word.Enum ts z.0, s.5, s.6, s.7, s.8, d.3), d.4))
      | inr z ↦ (let d = function_deep most levels some ts n (bind_deep (function_with most levels ts) (λ f. (function f.0, f.1)) n z.1) in (p_function d.0, d.1, d.2, d.3, d.4))
    ]
  ]

  declaration_short : (x : Decl) (from to : Toks) → SpellsDeclaration x from to → length to < length from
  declaration_short (struct_of s n b ms) from to sp = named_short most levels SpellsStructMember (struct_member_with most levels) struct_told (struct_member_sound most levels some) (struct_member_short most levels some) (struct_member_word most levels some) word.Struct s n b ms from to sp
  declaration_short (enum_of s n b ms) from to sp = named_short most levels SpellsEnumMember (enum_member_with most levels) (enum_member_told most levels some) (enum_member_sound most levels some) (enum_member_short most levels some) (enum_member_word most levels some) word.Enum s n b ms from to sp
  declaration_short (function f) from to sp = function_short most levels some f from to sp

  declaration_word : (x : Decl) (from to : Toks) → SpellsDeclaration x from to → (w : Word) × (kind_at from ≡ Some (kind.Word w))
  declaration_word (struct_of s n b ms) from to sp = (word.Struct, sp.2)
  declaration_word (enum_of s n b ms) from to sp = (word.Enum, sp.2)
  declaration_word (function f) from to sp = (word.Func, sp.2)

  not_main : (ts : Toks) (w : Word) → kind_at ts ≡ Some (kind.Word w) → is_main ts ≡ false
  unfolding is_main is_named name_at
  not_main ts w k = rw k refl

  part_free : (x : Decl) (from to : Toks) → SpellsDeclaration x from to → Free from × (is_main from ≡ false)
  part_free x from to sp = let k = declaration_word x from to sp in (tt, not_main from k.0 k.1)

  -- ---- the last `main()`

  ended : (ts : Toks) → kind_at ts ≡ None → is_over ts ≡ true
  ended ts e = rw e refl

  ended_not : (ts : Toks) → kind_at ts ≡ Some (kind.Mark mark.Semicolon) → is_over ts ≡ false
  ended_not ts e = rw e refl

  ended_kind : (ts : Toks) → is_over ts ≡ true → kind_at ts ≡ None
  ended_kind ts e = none_is (kind_at ts) e
    where
      none_is : {A : Type 0} (o : Option A) → is_none o ≡ true → o ≡ None
      none_is None h = refl
      none_is (Some x) h = absurd cc

  abbrev Ended : Toks → Type 0
  Ended ts = (kind_at ts ≡ None) ⊎ ((kind_at ts ≡ Some (kind.Mark mark.Semicolon)) × (kind_at (after ts) ≡ None))

  end_is : (ts : Toks) → Ended ts → end_with ts ≡ Ok tt
  unfolding end_with
  end_is ts (inl e) = rw (ended ts e) refl
  end_is ts (inr (semi, e)) = rw (ended_not ts semi, at_mark mark.Semicolon ts _ semi, ended (after ts) e) refl

  end_sound : (ts : Toks) (u : Unit {0}) → end_with ts ≡ Ok u → Ended ts
  unfolding end_with
  end_sound ts u e = elim (chosen (is_over ts) (done tt) (cond (is_mark mark.Semicolon ts) (cond (is_over (after ts)) (done tt) (Err (Syntax (length (after ts))))) (Err (Syntax (length ts)))) _ e) [
    | inl y ↦ inl (ended_kind ts y.0)
    | inr y ↦ (
        let a = kept (is_mark mark.Semicolon ts) (cond (is_over (after ts)) (done tt) (Err (Syntax (length (after ts))))) (Syntax (length ts)) u y.1 in
        let b = kept (is_over (after ts)) (done tt) (Syntax (length (after ts))) u a.1 in
        inr (mark_kind mark.Semicolon ts a.0, ended_kind (after ts) b.0))
  ]

  end_shallow : (ts : Toks) (n : ℕ) → end_with ts ≡ Err (Depth n) → ⊥
  unfolding end_with
  end_shallow ts n e = elim (chosen (is_over ts) (done tt) (cond (is_mark mark.Semicolon ts) (cond (is_over (after ts)) (done tt) (Err (Syntax (length (after ts))))) (Err (Syntax (length ts)))) _ e) [
    | inl y ↦ no_ok _ n y.1
    | inr y ↦ (
        let a = syn (is_mark mark.Semicolon ts) (cond (is_over (after ts)) (done tt) (Err (Syntax (length (after ts))))) (length ts) n y.1 in
        let b = syn (is_over (after ts)) (done tt) (length (after ts)) n a.1 in
        no_ok _ n b.1)
  ]

  main_reads : (s : Span) (from : Toks) → SpellsMain s from → main_with from ≡ Ok s
  unfolding main_with
  main_reads s from (named, op, close, is, end) = rw (op, at_mark mark.CloseParen (after (after from)) _ close, end_is (after (after (after from))) end, is) refl

  main_sound : (s : Span) (ts : Toks) → is_main ts ≡ true → main_with ts ≡ Ok s → SpellsMain s ts
  unfolding main_with is_main
  main_sound s ts named e =
      let us = after (after (after ts)) in
      let a = kept (opens Plain (after ts)) (cond (is_mark mark.CloseParen (after (after ts))) (end_with us >>= λ u. done (here ts)) (Err (Syntax (length (after (after ts)))))) (Syntax (length (after ts))) s e in
      let b = kept (is_mark mark.CloseParen (after (after ts))) (end_with us >>= λ u. done (here ts)) (Syntax (length (after (after ts)))) s a.1 in
      let c = bind_ok (end_with us) (λ u. done (here ts)) s b.1 in
      (named, a.0, mark_kind mark.CloseParen (after (after ts)) b.0, sym (ok_is (here ts) s c.2), end_sound us c.0 c.1)

  main_shallow : (ts : Toks) (n : ℕ) → main_with ts ≡ Err (Depth n) → ⊥
  unfolding main_with
  main_shallow ts n e =
      let us = after (after (after ts)) in
      let a = syn (opens Plain (after ts)) (cond (is_mark mark.CloseParen (after (after ts))) (end_with us >>= λ u. done (here ts)) (Err (Syntax (length (after (after ts)))))) (length (after ts)) n e in
      let b = syn (is_mark mark.CloseParen (after (after ts))) (end_with us >>= λ u. done (here ts)) (length (after (after ts))) n a.1 in
      end_shallow us n (bind_deep (end_with us) (λ u. here ts) n b.1)

  main_is : (s : Span) (from : Toks) → SpellsMain s from → is_main from ≡ true
  unfolding is_main
  main_is s from sp = sp.0

  -- ---- the file

  abbrev filed : Toks → List Decl → Span → File
  filed ts ds s = record { declarations = ds; main = s; tokens = length ts }

  file_same : (f : File) (ts : Toks) → f.tokens ≡ length ts → filed ts f.declarations f.main ≡ f
  file_same f ts e = rw (← e) refl

  abbrev pub ToldFile : File → Toks → Type 0
  ToldFile f from = ((nest_file f ≤ most) × (levels_file f ≤ levels) × (read_file most levels from ≡ Ok f)) ⊎ (((most < nest_file f) ⊎ (levels < levels_file f)) × ((n : ℕ) × (read_file most levels from ≡ Err (Depth n))))

  file_by : (f : File) (from last : Toks) → SpellsMain f.main last → f.tokens ≡ length from → Told 0 (greatest (size_declaration most levels) f.declarations) (separated_on is_main (declaration_with most levels) [] from) f.declarations last → ToldFile f from
  unfolding read_file
  file_by f from last sp is (inl (fit, e)) =
      let both = within_whole most levels (nest_file f) (levels_file f) (rw (file_over most levels f.declarations) at fit) in
      inl (both.0, both.1, rw (e, main_reads f.main last sp) (ap (λ (g : File). Ok g) (file_same f from is)))
  file_by f from last sp is (inr w) = inr (over_whole most levels (nest_file f) (levels_file f) (rw (file_over most levels f.declarations) at w.0), (w.1.0, rw w.1.1 refl))

  -- A file that is spelled is read where its bodies are within the limits, and is too deep else.
  pub file_told : (f : File) (from : Toks) → Spells f from → ToldFile f from
  file_told f from (last, sps, sp, is) =
      file_by f from last sp is (separated_complete 0 SpellsDeclaration is_main (declaration_with most levels) (size_declaration most levels) Free declaration_told declaration_sound declaration_short (λ ts k. tt) part_free f.declarations [] from last sps tt (main_is f.main last sp))

  -- A file that is read is spelled, and within the limits.
  pub file_found : (from : Toks) (f : File) → read_file most levels from ≡ Ok f → Spells f from × (nest_file f ≤ most) × (levels_file f ≤ levels)
  unfolding read_file
  file_found from f e =
      let d = bind_ok (separated_on is_main (declaration_with most levels) [] from) (λ ds. main_with ds.1 >>= λ s. done (filed from ds.0 s)) f e in
      let s = separated_sound 0 SpellsDeclaration is_main (declaration_with most levels) (size_declaration most levels) Free declaration_told declaration_sound declaration_short (λ ts k. tt) part_free [] from d.0 d.1 in
      let m = bind_ok (main_with d.0.1) (λ s. done (filed from d.0.0 s)) f d.2 in
      let sep : Separated SpellsDeclaration d.0.0 from d.0.1 = subst (λ (ds : List Decl). Separated SpellsDeclaration ds from d.0.1) (sym s.1) s.2 in
      let fit : greatest (size_declaration most levels) d.0.0 ≤ 0 = subst (λ (ds : List Decl). greatest (size_declaration most levels) ds ≤ 0) (sym s.1) s.3 in
      let both = within_whole most levels (greatest nest_declaration d.0.0) (greatest levels_declaration d.0.0) (rw (file_over most levels d.0.0) at fit) in
      rw (← ok_is (filed from d.0.0 m.0) f m.2) ((d.0.1, sep, main_sound m.0 d.0.1 s.4 m.1, refl), both.0, both.1)

  -- Depth comes only where the tokens before the named one stand a level too deep.
  pub file_depth : (from : Toks) (n : ℕ) → read_file most levels from ≡ Err (Depth n) → (p : PFile) × (at_ : Toks) × (length at_ ≡ n) × Part p from at_ × ((most < nest_pf p) ⊎ (levels < levels_pf p))
  unfolding read_file
  file_depth from n e = elim (bind_err (separated_on is_main (declaration_with most levels) [] from) (λ ds. main_with ds.1 >>= λ s. done (filed from ds.0 s)) _ e) [
    | inl y ↦ (
        let s = separated_deep 0 SpellsDeclaration is_main (declaration_with most levels) (size_declaration most levels) Free declaration_told declaration_sound declaration_short (λ ts k. tt) part_free [] from n y in
        let d = declaration_deep s.1 n s.3 in
        (broken s.0 d.0, d.1, d.2, (s.1, s.2, d.3), over_whole most levels (nest_pd d.0) (levels_pd d.0) d.4))
    | inr d ↦ absurd (main_shallow d.0.1 n (bind_deep (main_with d.0.1) (λ s. filed from d.0.0 s) n d.2))
  ]
    where
      broken : List Decl → PDecl → PFile
      broken ds p = record { declarations = ds; last = p }

module _ (most levels : ℕ) (some : 0 < levels) where
  -- A file that is spelled within the limits is read.
  pub file_again : (f : File) (from : Toks) → Spells f from → nest_file f ≤ most → levels_file f ≤ levels → read_file most levels from ≡ Ok f
  file_again f from sp fit few = elim (file_told most levels some f from sp) [
    | inl y ↦ y.2
    | inr y ↦ absurd (elim y.0 [ inl u ↦ omega (arith, fit, u) | inr u ↦ omega (arith, few, u) ])
  ]

  -- Where one is spelled that is over a limit, reading says so.
  pub file_deep : (f : File) (from : Toks) → Spells f from → (most < nest_file f) ⊎ (levels < levels_file f) → (n : ℕ) × (read_file most levels from ≡ Err (Depth n))
  file_deep f from sp high = elim (file_told most levels some f from sp) [
    | inl y ↦ absurd (elim high [ inl u ↦ omega (arith, y.0, u) | inr u ↦ omega (arith, y.1, u) ])
    | inr y ↦ y.1
  ]

file_both : (f g : File) (r : Result File Fault) → r ≡ Ok f → r ≡ Ok g → f ≡ g
file_both f g r d e = cc

-- No two trees spell one text.
pub one_file : (f g : File) (from : Toks) → Spells f from → Spells g from → f ≡ g
one_file f g from spf spg =
    let most = max (nest_file f) (nest_file g) in
    let levels = suc (max (levels_file f) (levels_file g)) in
    file_both f g (read_file most levels from) (file_again most levels (omega arith) f from spf (omega arith) (omega arith)) (file_again most levels (omega arith) g from spg (omega arith) (omega arith))

syntax_no_depth : (r : Result File Fault) (m n : ℕ) → r ≡ Err (Syntax m) → r ≡ Err (Depth n) → ⊥
syntax_no_depth r m n d e = absurd cc

syntax_no_ok : (r : Result File Fault) (m : ℕ) (f : File) → r ≡ Err (Syntax m) → r ≡ Ok f → ⊥
syntax_no_ok r m f d e = absurd cc

-- Syntax comes only where no tree spells the tokens.
pub file_syntax : (most levels : ℕ) → 0 < levels → (n : ℕ) (from : Toks) → read_file most levels from ≡ Err (Syntax n) → (f : File) → Spells f from → ⊥
file_syntax most levels some n from e f sp = elim (file_told most levels some f from sp) [
  | inl y ↦ syntax_no_ok (read_file most levels from) n f e y.2
  | inr y ↦ syntax_no_depth (read_file most levels from) n y.1.0 e y.1.1
]

-- ---- one turn of each loop

pub struct_list_is : (most levels : ℕ) → 0 < levels → (found : List Member) (ts : Toks) → separated_on (is_mark mark.CloseBrace) (struct_member_with most levels) found ts ≡ cond (is_mark mark.CloseBrace ts) (done (found, ts)) (struct_member_with most levels ts >>= λ x. sep_at true x.1 >>= λ next. separated_on (is_mark mark.CloseBrace) (struct_member_with most levels) (found ++ x.0 ∷ []) next)
struct_list_is most levels some found ts = members_is most levels SpellsStructMember (struct_member_with most levels) (struct_told most levels some) (struct_member_sound most levels some) (struct_member_short most levels some) (struct_member_word most levels some) found ts

pub enum_list_is : (most levels : ℕ) → 0 < levels → (found : List Member) (ts : Toks) → separated_on (is_mark mark.CloseBrace) (enum_member_with most levels) found ts ≡ cond (is_mark mark.CloseBrace ts) (done (found, ts)) (enum_member_with most levels ts >>= λ x. sep_at true x.1 >>= λ next. separated_on (is_mark mark.CloseBrace) (enum_member_with most levels) (found ++ x.0 ∷ []) next)
enum_list_is most levels some found ts = members_is most levels SpellsEnumMember (enum_member_with most levels) (enum_member_told most levels some) (enum_member_sound most levels some) (enum_member_short most levels some) (enum_member_word most levels some) found ts

pub declaration_list_is : (most levels : ℕ) → 0 < levels → (found : List Decl) (ts : Toks) → separated_on is_main (declaration_with most levels) found ts ≡ cond (is_main ts) (done (found, ts)) (declaration_with most levels ts >>= λ x. sep_at true x.1 >>= λ next. separated_on is_main (declaration_with most levels) (found ++ x.0 ∷ []) next)
declaration_list_is most levels some found ts = separated_is 0 SpellsDeclaration is_main (declaration_with most levels) (size_declaration most levels) Free (declaration_told most levels some) (declaration_sound most levels some) (declaration_short most levels some) (λ ts k. tt) (part_free most levels some) found ts
