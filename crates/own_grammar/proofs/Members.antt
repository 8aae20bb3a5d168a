-- Members: what is spelled is read, or too deep, and what is read is spelled.
use Rattle.std.proofs.Common.{◌≡◌, ℕ, ◌≤◌, ◌<◌, cond, true, false, List, [], ◌∷◌, length, Option, Some, None, Ok, Err, inl, inr, refl, ap, ◌∙◌, arith, ◌++◌}
use Rattle.own_tree.specs.declared.span.Span.{Span}
use Rattle.own_tree.specs.declared.token.Word.{Word}
use Rattle.own_tree.specs.declared.token.Word.TheVariants as word
use Rattle.own_tree.specs.declared.token.Kind.{Kind}
use Rattle.own_tree.specs.declared.token.Kind.TheVariants as kind
use Rattle.own_tree.specs.declared.token.Mark.TheVariants as mark
use Rattle.own_tree.specs.declared.tree.Name.{Name}
use Rattle.own_tree.specs.declared.tree.Keyword.{Keyword}
use Rattle.own_tree.specs.declared.tree.Field.{Field}
use Rattle.own_tree.specs.declared.tree.CaseItem.{CaseItem}
use Rattle.own_tree.specs.declared.tree.Parameter.{Parameter}
use Rattle.own_tree.specs.declared.tree.MethodMode.{MethodMode}
use Rattle.own_tree.specs.declared.tree.ResultType.{ResultType}
use Rattle.own_tree.specs.Source.{Blk, block, Fun, Member, field, initializer, deinitializer, method, cases}
use Rattle.own_grammar.specs.Tests.{Toks, after, here, till, kind_at, is_mark, is_word, name_at, keyword_in, keyword_at, word_is}
use Rattle.own_grammar.specs.Nesting.{blk_span, nest_blk}
use Rattle.own_grammar.specs.Levels.{levels_blk}
use Rattle.own_grammar.specs.Spells.{SpellsB}
use Rattle.own_grammar.specs.Reading.{Syntax, Depth, Read, ◌>>=◌, syntax_at, on_some, body, read}
use Rattle.own_grammar.specs.Lists.{Listed, listed_on}
use Rattle.own_grammar.specs.Declarations.{word_changing, changing_in, changing_at, SpellsParameters, Returns, SpellsFunction, Changing, SpellsField, SpellsName, Payloads, SpellsItem, items_end, SpellsDeinitializer, SpellsMethod, SpellsStructMember, SpellsEnumMember, nest_member, levels_member}
use Rattle.own_grammar.specs.ReadingFile.{wanted, returns_with, parameters_with, function_body_with, function_with, method_with, field_with, initializer_with, deinitializer_with, struct_member_with, name_with, item_with, cases_with, enum_member_with}
use Rattle.own_grammar.specs.Partial.{PBlk}
use Rattle.own_grammar.specs.PartialFile.{PFun, PMember, p_initializer, p_deinitializer, p_method, nest_pm, levels_pm, PartFunction, PartStructMember, PartEnumMember}
use Rattle.own_grammar.proofs.Facts.{mark_kind, word_kind, at_mark, at_word, keyword_kind, keyword_word}
use Rattle.own_grammar.proofs.Edges.{at_keyword}
use Rattle.own_grammar.proofs.Lengths.{after_short, after_le}
use Rattle.own_grammar.proofs.Shorter.{short_b}
use Rattle.own_grammar.proofs.ListLaws.{Told, listed_complete, listed_sound, listed_shallow, listed_le, listed_is}
use Rattle.own_grammar.proofs.Parameters.{wanted_ok, wanted_deep, name_no_mark, returns_is, returns_sound, returns_shallow, returns_le, parameters_is, parameters_sound, parameters_shallow, parameters_le}
use Rattle.own_grammar.proofs.Steps.{done, le_tells, bind_is, bind_ok, ok_is, chosen, some_or, some_kept, bind_err, bind_deep, some_syn, no_ok}
use Rattle.own_grammar.proofs.Within.{over}
use Rattle.own_grammar.proofs.Laws.{block_again, block_found, block_deep}
use Rattle.own_grammar.proofs.Deep.{block_depth}

-- ---- what is read after a part

pub told_then : {A B : Type 0} (size : ℕ) (r : Read A) (k : A × Toks → Read B) (a : A) (b : B) (mid to : Toks) → Told 0 size r a mid → k (a, mid) ≡ Ok (b, to) → Told 0 size (r >>= k) b to
told_then size r k a b mid to (inl (fit, e)) eq = inl (fit, bind_is r k (a, mid) e ∙ eq)
told_then size r k a b mid to (inr w) eq = inr (w.0, (w.1.0, rw w.1.1 refl))

pub told_same : {A : Type 0} (size : ℕ) (r r' : Read A) (a : A) (to : Toks) → r ≡ r' → Told 0 size r' a to → Told 0 size r a to
told_same size r r' a to e t = rw e t

told_ok : {A : Type 0} (size : ℕ) (r : Read A) (a : A) (to : Toks) → size ≤ 0 → r ≡ Ok (a, to) → Told 0 size r a to
told_ok size r a to fit e = inl (fit, e)

-- ---- how far bodies are over the limits

abbrev pub size_blk : ℕ → ℕ → Blk → ℕ
size_blk most levels b = over most levels 0 (nest_blk b) (levels_blk b)

abbrev pub size_member : ℕ → ℕ → Member → ℕ
size_member most levels m = over most levels 0 (nest_member m) (levels_member m)

abbrev pub size_pm : ℕ → ℕ → PMember → ℕ
size_pm most levels m = over most levels 0 (nest_pm m) (levels_pm m)

-- ---- blocks

block_told : (most levels : ℕ) → 0 < levels → (b : Blk) (from to : Toks) → SpellsB b from to → Told 0 (size_blk most levels b) (read most levels body 0 from) b to
block_told most levels some b from to sp = elim (le_tells (size_blk most levels b) 0) [
  | inl low ↦ inl (low, block_again most levels some 0 b from to sp low)
  | inr high ↦ inr (high, block_deep most levels some 0 b from to sp high)
]

block_starts : (b : Blk) (from to : Toks) → SpellsB b from to → kind_at from ≡ Some (kind.Mark mark.OpenBrace)
block_starts (block s ss) from to sp = sp.0

-- ---- functions

module _ (most levels : ℕ) (some : 0 < levels) where
  abbrev made : Toks → Name → List Parameter → Option ResultType → Blk → Fun
  made ts n ps r b = record { span = till (here ts) (blk_span b); name = n; parameters = ps; result = r; body = b }

  function_same : (f : Fun) (ts : Toks) → f.span ≡ till (here ts) (blk_span f.body) → made ts f.name f.parameters f.result f.body ≡ f
  function_same f ts e = rw (← e) refl

  function_reads : (f : Fun) (from mid next to : Toks) → kind_at from ≡ Some (kind.Word word.Func) → name_at (after from) ≡ Some f.name → SpellsParameters f.parameters (after (after from)) mid → Returns f.result mid next → SpellsB f.body next to
      → function_with most levels from ≡ (read most levels body 0 next >>= λ b. done (made from f.name f.parameters f.result b.0, b.1))
  unfolding function_with wanted function_body_with
  function_reads f from mid next to k nm ps rs sp =
      rw (at_word word.Func from _ k, nm, parameters_is f.parameters (after (after from)) mid ps, returns_is f.result mid next rs (at_mark mark.Arrow next _ (block_starts f.body next to sp))) refl

  pub function_told : (f : Fun) (from to : Toks) → SpellsFunction f from to → Told 0 (size_blk most levels f.body) (function_with most levels from) f to
  function_told f from to (mid, next, k, nm, ps, rs, sp, is) =
      told_same (size_blk most levels f.body) (function_with most levels from) _ f to (function_reads f from mid next to k nm ps rs sp)
      (told_then (size_blk most levels f.body) (read most levels body 0 next) (λ b. done (made from f.name f.parameters f.result b.0, b.1)) f.body f to to (block_told most levels some f.body next to sp)
      (ap (λ (g : Fun). Ok (g, to)) (function_same f from is)))

  abbrev FunctionRead : Fun → Toks → Toks → Type 0
  FunctionRead f from to = SpellsFunction f from to × (size_blk most levels f.body ≤ 0)

  body_sound : (ts : Toks) (n : Name) (ps : List Parameter) (us : Toks) (x : Fun × Toks) → kind_at ts ≡ Some (kind.Word word.Func) → name_at (after ts) ≡ Some n → SpellsParameters ps (after (after ts)) us → function_body_with most levels ts n ps us ≡ Ok x → FunctionRead x.0 ts x.1
  unfolding function_body_with
  body_sound ts n ps us x k nm sp e =
      let r = bind_ok (returns_with us) (λ r. read most levels body 0 r.1 >>= λ b. done (made ts n ps r.0 b.0, b.1)) x e in
      let b = bind_ok (read most levels body 0 r.0.1) (λ b. done (made ts n ps r.0.0 b.0, b.1)) x r.2 in
      let f = block_found most levels some 0 r.0.1 b.0 b.1 in
      rw (← ok_is (made ts n ps r.0.0 b.0.0, b.0.1) x b.2) ((us, r.0.1, k, nm, sp, returns_sound us r.0 r.1, f.0, refl), omega (arith, f.1))

  pub function_sound : (ts : Toks) (x : Fun × Toks) → function_with most levels ts ≡ Ok x → FunctionRead x.0 ts x.1
  unfolding function_with
  function_sound ts x e =
      let q = wanted_ok (is_word word.Func ts) ts (on_some (name_at (after ts)) (λ n. parameters_with (after (after ts)) >>= λ ps. function_body_with most levels ts n ps.0 ps.1) (syntax_at (after ts))) x e in
      let n = some_kept (name_at (after ts)) (λ n. parameters_with (after (after ts)) >>= λ ps. function_body_with most levels ts n ps.0 ps.1) (Syntax (length (after ts))) x q.1 in
      let p = bind_ok (parameters_with (after (after ts))) (λ ps. function_body_with most levels ts n.0 ps.0 ps.1) x n.2 in
      body_sound ts n.0 p.0.0 p.0.1 x (word_kind word.Func ts q.0) n.1 (parameters_sound (after (after ts)) p.0 p.1) p.2

  abbrev pub DeepF : Toks → ℕ → Type 0
  DeepF ts n = (f : PFun) × (at_ : Toks) × (length at_ ≡ n) × PartFunction f ts at_ × (0 < size_pm most levels (p_method None f))

  abbrev partial : Name → List Parameter → Option ResultType → PBlk → PFun
  partial n ps r b = record { name = n; parameters = ps; result = r; body = b }

  body_deep : (ts : Toks) (name : Name) (ps : List Parameter) (us : Toks) (n : ℕ) → kind_at ts ≡ Some (kind.Word word.Func) → name_at (after ts) ≡ Some name → SpellsParameters ps (after (after ts)) us → function_body_with most levels ts name ps us ≡ Err (Depth n) → DeepF ts n
  unfolding function_body_with
  body_deep ts name ps us n k nm sp e = elim (bind_err (returns_with us) (λ r. read most levels body 0 r.1 >>= λ b. done (made ts name ps r.0 b.0, b.1)) _ e) [
    | inl y ↦ absurd (returns_shallow us n y)
    | inr r ↦ (
        let d = block_depth most levels some 0 r.0.1 n (bind_deep (read most levels body 0 r.0.1) (λ b. (made ts name ps r.0.0 b.0, b.1)) n r.2) in
        (partial name ps r.0.0 d.0, d.1, d.2, (us, r.0.1, k, nm, sp, returns_sound us r.0 r.1, d.3), omega (arith, d.4)))
  ]

  pub function_deep : (ts : Toks) (n : ℕ) → function_with most levels ts ≡ Err (Depth n) → DeepF ts n
  unfolding function_with
  function_deep ts n e =
      let q = wanted_deep (is_word word.Func ts) ts (on_some (name_at (after ts)) (λ m. parameters_with (after (after ts)) >>= λ ps. function_body_with most levels ts m ps.0 ps.1) (syntax_at (after ts))) n e in
      let m = some_syn (name_at (after ts)) (λ m. parameters_with (after (after ts)) >>= λ ps. function_body_with most levels ts m ps.0 ps.1) (length (after ts)) n q.1 in
      elim (bind_err (parameters_with (after (after ts))) (λ ps. function_body_with most levels ts m.0 ps.0 ps.1) _ m.2) [
        | inl y ↦ absurd (parameters_shallow (after (after ts)) n y)
        | inr p ↦ body_deep ts m.0 p.0.0 p.0.1 n (word_kind word.Func ts q.0) m.1 (parameters_sound (after (after ts)) p.0 p.1) p.2
      ]

  pub function_short : (f : Fun) (from to : Toks) → SpellsFunction f from to → length to < length from
  function_short f from to (mid, next, k, nm, ps, rs, sp, is) = (let a = after_le from in let b = after_le (after from) in let c = parameters_le f.parameters (after (after from)) mid ps in let d = returns_le f.result mid next rs in let e = short_b f.body next to sp in omega arith)

-- ---- what the words of a member say

record Changes (ts : Toks) : Type 0 where
  pub keyword : keyword_at ts ≡ None
  pub init : is_word word.Init ts ≡ false
  pub deinit : is_word word.Deinit ts ≡ false
  pub case_ : is_word word.Case ts ≡ false

changing_word_is : (x : Word) (m : MethodMode) → word_changing x ≡ Some m → (keyword_in (Some (kind.Word x)) ≡ None) × (word_is word.Init (Some (kind.Word x)) ≡ false) × (word_is word.Deinit (Some (kind.Word x)) ≡ false) × (word_is word.Case (Some (kind.Word x)) ≡ false)
changing_word_is word.Borrowing m e = (refl, refl, refl, refl)
changing_word_is word.Consuming m e = (refl, refl, refl, refl)
changing_word_is word.Mutating m e = (refl, refl, refl, refl)
changing_word_is _ m e = absurd cc

changing_kind_in : (x : Option Kind) (m : MethodMode) → changing_in x ≡ Some m → (w : Word) × (x ≡ Some (kind.Word w)) × (word_changing w ≡ Some m)
changing_kind_in None m e = absurd cc
changing_kind_in (Some (kind.Name x)) m e = absurd cc
changing_kind_in (Some (kind.Word x)) m e = (x, refl, e)
changing_kind_in (Some (kind.Number x)) m e = absurd cc
changing_kind_in (Some (kind.Text x)) m e = absurd cc
changing_kind_in (Some (kind.Mark x)) m e = absurd cc

changing_kind : (ts : Toks) (m : MethodMode) → changing_at ts ≡ Some m → (w : Word) × (kind_at ts ≡ Some (kind.Word w)) × (word_changing w ≡ Some m)
unfolding changing_at
changing_kind ts m e = changing_kind_in (kind_at ts) m e

no_changing : (ts : Toks) → kind_at ts ≡ Some (kind.Word word.Func) → changing_at ts ≡ None
unfolding changing_at
no_changing ts k = rw k refl

changes : (ts : Toks) (m : MethodMode) → changing_at ts ≡ Some m → Changes ts
changes ts m e = let k = changing_kind ts m e in let f = changing_word_is k.0 m k.2 in
    record { keyword = at_keyword ts _ k.1 ∙ f.0; init = at_word word.Init ts _ k.1 ∙ f.1; deinit = at_word word.Deinit ts _ k.1 ∙ f.2; case_ = at_word word.Case ts _ k.1 ∙ f.3 }

func_changes : (ts : Toks) → kind_at ts ≡ Some (kind.Word word.Func) → Changes ts
func_changes ts k = record { keyword = at_keyword ts _ k; init = at_word word.Init ts _ k; deinit = at_word word.Deinit ts _ k; case_ = at_word word.Case ts _ k }

method_changes : (s : Span) (m : Option MethodMode) (f : Fun) (from to : Toks) → SpellsMethod s m f from to → Changes from
method_changes s None f from to (mid, is, sp, r) = func_changes from (let k = sp.2 in rw is at k)
method_changes s (Some m) f from to (mid, (c, is), sp, r) = changes from m c

method_word : (s : Span) (m : Option MethodMode) (f : Fun) (from to : Toks) → SpellsMethod s m f from to → (w : Word) × (kind_at from ≡ Some (kind.Word w))
method_word s None f from to (mid, is, sp, r) = (word.Func, (let k = sp.2 in rw is at k))
method_word s (Some m) f from to (mid, (c, is), sp, r) = (let k = changing_kind from m c in (k.0, k.1))

module _ (most levels : ℕ) (some : 0 < levels) where
  abbrev Reads : Member → Toks → Toks → Read Member → Type 0
  Reads m from to r = Told 0 (size_member most levels m) r m to

  -- ---- methods

  method_told : (s : Span) (m : Option MethodMode) (f : Fun) (from to : Toks) → SpellsMethod s m f from to → Reads (method s m f) from to (method_with most levels from)
  unfolding method_with
  method_told s None f from to (mid, is, sp, r) =
      let spf : SpellsFunction f from to = rw is at sp in
      rw (no_changing from spf.2, r) (told_then (size_blk most levels f.body) (function_with most levels from) (λ g. done (method (till (here from) g.0.span) None g.0, g.1)) f (method (till (here from) f.span) None f) to to (function_told most levels some f from to spf) refl)
  method_told s (Some m) f from to (mid, (c, is), sp, r) =
      let spf : SpellsFunction f (after from) to = rw is at sp in
      rw (c, r) (told_then (size_blk most levels f.body) (function_with most levels (after from)) (λ g. done (method (till (here from) g.0.span) (Some m) g.0, g.1)) f (method (till (here from) f.span) (Some m) f) to to (function_told most levels some f (after from) to spf) refl)

  abbrev MethodRead : Member → Toks → Toks → Type 0
  MethodRead x from to = SpellsStructMember x from to × SpellsEnumMember x from to × (size_member most levels x ≤ 0)

  method_sound : (ts : Toks) (x : Member × Toks) → method_with most levels ts ≡ Ok x → MethodRead x.0 ts x.1
  unfolding method_with
  method_sound ts x e = elim (some_or (changing_at ts) (λ m. function_with most levels (after ts) >>= λ f. done (method (till (here ts) f.0.span) (Some m) f.0, f.1)) (function_with most levels ts >>= λ f. done (method (till (here ts) f.0.span) None f.0, f.1)) _ e) [
    | inl m ↦ (
        let c = bind_ok (function_with most levels (after ts)) (λ f. done (method (till (here ts) f.0.span) (Some m.0) f.0, f.1)) x m.2 in
        let s = function_sound most levels some (after ts) c.0 c.1 in
        rw (← ok_is (method (till (here ts) c.0.0.span) (Some m.0) c.0.0, c.0.1) x c.2) ((after ts, (m.1, refl), s.0, refl), (after ts, (m.1, refl), s.0, refl), s.1))
    | inr y ↦ (
        let c = bind_ok (function_with most levels ts) (λ f. done (method (till (here ts) f.0.span) None f.0, f.1)) x y.1 in
        let s = function_sound most levels some ts c.0 c.1 in
        rw (← ok_is (method (till (here ts) c.0.0.span) None c.0.0, c.0.1) x c.2) ((ts, refl, s.0, refl), (ts, refl, s.0, refl), s.1))
  ]

  abbrev DeepM : (PMember → Toks → Toks → Type 0) → Toks → ℕ → Type 0
  DeepM P ts n = (m : PMember) × (at_ : Toks) × (length at_ ≡ n) × P m ts at_ × (0 < size_pm most levels m)

  method_deep : (ts : Toks) (n : ℕ) → method_with most levels ts ≡ Err (Depth n) → DeepM PartStructMember ts n × DeepM PartEnumMember ts n
  unfolding method_with
  method_deep ts n e = elim (some_or (changing_at ts) (λ m. function_with most levels (after ts) >>= λ f. done (method (till (here ts) f.0.span) (Some m) f.0, f.1)) (function_with most levels ts >>= λ f. done (method (till (here ts) f.0.span) None f.0, f.1)) _ e) [
    | inl m ↦ (
        let d = function_deep most levels some (after ts) n (bind_deep (function_with most levels (after ts)) (λ f. (method (till (here ts) f.0.span) (Some m.0) f.0, f.1)) n m.2) in
        ((p_method (Some m.0) d.0, d.1, d.2, (after ts, (m.1, refl), d.3), d.4), (p_method (Some m.0) d.0, d.1, d.2, (after ts, (m.1, refl), d.3), d.4)))
    | inr y ↦ (
        let d = function_deep most levels some ts n (bind_deep (function_with most levels ts) (λ f. (method (till (here ts) f.0.span) None f.0, f.1)) n y.1) in
        ((p_method None d.0, d.1, d.2, (ts, refl, d.3), d.4), (p_method None d.0, d.1, d.2, (ts, refl, d.3), d.4)))
  ]

  changing_le : (m : Option MethodMode) (from mid : Toks) → Changing m from mid → length mid ≤ length from
  changing_le None from mid is = rw is (omega arith)
  changing_le (Some m) from mid (c, is) = rw is (after_le from)

  method_short : (s : Span) (m : Option MethodMode) (f : Fun) (from to : Toks) → SpellsMethod s m f from to → length to < length from
  method_short s m f from to (mid, c, sp, r) = (let a = changing_le m from mid c in let b = function_short most levels some f mid to sp in omega arith)

  -- ---- `deinit`

  deinit_told : (s : Span) (b : Blk) (from to : Toks) → SpellsDeinitializer s b from to → Reads (deinitializer s b) from to (deinitializer_with most levels from)
  unfolding deinitializer_with
  deinit_told s b from to (k, sp, is) = rw is (told_then (size_blk most levels b) (read most levels body 0 (after from)) (λ c. done (deinitializer (till (here from) (blk_span c.0)) c.0, c.1)) b (deinitializer (till (here from) (blk_span b)) b) to to (block_told most levels some b (after from) to sp) refl)

  deinit_sound : (ts : Toks) (x : Member × Toks) → is_word word.Deinit ts ≡ true → deinitializer_with most levels ts ≡ Ok x → MethodRead x.0 ts x.1
  unfolding deinitializer_with
  deinit_sound ts x kw e =
      let b = bind_ok (read most levels body 0 (after ts)) (λ b. done (deinitializer (till (here ts) (blk_span b.0)) b.0, b.1)) x e in
      let f = block_found most levels some 0 (after ts) b.0 b.1 in
      let k = word_kind word.Deinit ts kw in
      rw (← ok_is (deinitializer (till (here ts) (blk_span b.0.0)) b.0.0, b.0.1) x b.2) ((k, f.0, refl), (k, f.0, refl), omega (arith, f.1))

  deinit_deep : (ts : Toks) (n : ℕ) → is_word word.Deinit ts ≡ true → deinitializer_with most levels ts ≡ Err (Depth n) → DeepM PartStructMember ts n × DeepM PartEnumMember ts n
  unfolding deinitializer_with
  deinit_deep ts n kw e =
      let d = block_depth most levels some 0 (after ts) n (bind_deep (read most levels body 0 (after ts)) (λ b. (deinitializer (till (here ts) (blk_span b.0)) b.0, b.1)) n e) in
      let k = word_kind word.Deinit ts kw in
      ((p_deinitializer d.0, d.1, d.2, (k, d.3), omega (arith, d.4)), (p_deinitializer d.0, d.1, d.2, (k, d.3), omega (arith, d.4)))

  -- ---- members of a struct

  field_same : (f : Field) (s : Span) → f.span ≡ s → record { span = s; keyword = f.keyword; name = f.name; written = f.written } ≡ f
  field_same f s e = rw (← e) refl

  field_is : (f : Field) (from to : Toks) → SpellsField f from to → field_with from f.keyword ≡ Ok (field f, to)
  unfolding field_with wanted
  field_is f from to (kw, nm, colon, ty, is, s) = rw (nm, at_mark mark.Colon (after (after from)) _ colon, ty, is) (ap (λ (g : Field). Ok (field g, after (after (after (after from))))) (field_same f _ s))

  init_told : (s : Span) (ps : List Parameter) (b : Blk) (from mid to : Toks) → SpellsParameters ps (after from) mid → SpellsB b mid to → s ≡ till (here from) (blk_span b) → Reads (initializer s ps b) from to (initializer_with most levels from)
  unfolding initializer_with
  init_told s ps b from mid to sps sp is = rw (is, parameters_is ps (after from) mid sps) (told_then (size_blk most levels b) (read most levels body 0 mid) (λ c. done (initializer (till (here from) (blk_span c.0)) ps c.0, c.1)) b (initializer (till (here from) (blk_span b)) ps b) to to (block_told most levels some b mid to sp) refl)

  pub struct_member_told : (m : Member) (from to : Toks) → SpellsStructMember m from to → Reads m from to (struct_member_with most levels from)
  unfolding struct_member_with
  struct_member_told (field f) from to sp = told_ok _ _ (field f) to (omega arith) (rw sp.0 (field_is f from to sp))
  struct_member_told (initializer s ps b) from to (mid, k, sps, sp, is) = rw (at_keyword from _ k, at_word word.Init from _ k) (init_told s ps b from mid to sps sp is)
  struct_member_told (deinitializer s b) from to sp = let k = sp.0 in rw (at_keyword from _ k, at_word word.Init from _ k, at_word word.Deinit from _ k) (deinit_told s b from to sp)
  struct_member_told (method s m f) from to sp = let c = method_changes s m f from to sp in rw (c.keyword, c.init, c.deinit) (method_told s m f from to sp)
  struct_member_told (cases s items) from to sp = absurd sp

  abbrev MemberRead : (Member → Toks → Toks → Type 0) → Member → Toks → Toks → Type 0
  MemberRead S x from to = S x from to × (size_member most levels x ≤ 0)

  abbrev field_made : Toks → Keyword → Name → Name → Member
  field_made ts k n t = field (record { span = till (here ts) (here (after (after (after ts)))); keyword = k; name = n; written = t })

  field_sound : (ts : Toks) (k : Keyword) (x : Member × Toks) → keyword_at ts ≡ Some k → field_with ts k ≡ Ok x → MemberRead SpellsStructMember x.0 ts x.1
  unfolding field_with
  field_sound ts k x kw e =
      let us = after (after (after ts)) in
      let n = some_kept (name_at (after ts)) (λ n. wanted (is_mark mark.Colon (after (after ts))) (after (after ts)) (on_some (name_at us) (λ t. done (field_made ts k n t, after us)) (syntax_at us))) (Syntax (length (after ts))) x e in
      let q = wanted_ok (is_mark mark.Colon (after (after ts))) (after (after ts)) (on_some (name_at us) (λ t. done (field_made ts k n.0 t, after us)) (syntax_at us)) x n.2 in
      let t = some_kept (name_at us) (λ t. done (field_made ts k n.0 t, after us)) (Syntax (length us)) x q.1 in
      rw (← ok_is (field_made ts k n.0 t.0, after us) x t.2) ((kw, n.1, mark_kind mark.Colon (after (after ts)) q.0, t.1, refl, refl), omega arith)

  init_sound : (ts : Toks) (x : Member × Toks) → is_word word.Init ts ≡ true → initializer_with most levels ts ≡ Ok x → MemberRead SpellsStructMember x.0 ts x.1
  unfolding initializer_with
  init_sound ts x kw e =
      let p = bind_ok (parameters_with (after ts)) (λ ps. read most levels body 0 ps.1 >>= λ b. done (initializer (till (here ts) (blk_span b.0)) ps.0 b.0, b.1)) x e in
      let b = bind_ok (read most levels body 0 p.0.1) (λ b. done (initializer (till (here ts) (blk_span b.0)) p.0.0 b.0, b.1)) x p.2 in
      let f = block_found most levels some 0 p.0.1 b.0 b.1 in
      rw (← ok_is (initializer (till (here ts) (blk_span b.0.0)) p.0.0 b.0.0, b.0.1) x b.2) ((p.0.1, word_kind word.Init ts kw, parameters_sound (after ts) p.0 p.1, f.0, refl), omega (arith, f.1))

  pub struct_member_sound : (ts : Toks) (x : Member × Toks) → struct_member_with most levels ts ≡ Ok x → MemberRead SpellsStructMember x.0 ts x.1
  unfolding struct_member_with
  struct_member_sound ts x e = elim (some_or (keyword_at ts) (field_with ts) (cond (is_word word.Init ts) (initializer_with most levels ts) (cond (is_word word.Deinit ts) (deinitializer_with most levels ts) (method_with most levels ts))) _ e) [
    | inl k ↦ field_sound ts k.0 x k.1 k.2
    | inr y ↦ elim (chosen (is_word word.Init ts) _ _ _ y.1) [
      | inl z ↦ init_sound ts x z.0 z.1
      | inr z ↦ elim (chosen (is_word word.Deinit ts) _ _ _ z.1) [
        | inl u ↦ (let d = deinit_sound ts x u.0 u.1 in (d.0, d.2))
        | inr u ↦ (let m = method_sound ts x u.1 in (m.0, m.2))
      ]
    ]
  ]

  field_shallow : (ts : Toks) (k : Keyword) (n : ℕ) → field_with ts k ≡ Err (Depth n) → ⊥
  unfolding field_with
  field_shallow ts k n e =
      let us = after (after (after ts)) in
      let m = some_syn (name_at (after ts)) (λ n. wanted (is_mark mark.Colon (after (after ts))) (after (after ts)) (on_some (name_at us) (λ t. done (field_made ts k n t, after us)) (syntax_at us))) (length (after ts)) n e in
      let q = wanted_deep (is_mark mark.Colon (after (after ts))) (after (after ts)) (on_some (name_at us) (λ t. done (field_made ts k m.0 t, after us)) (syntax_at us)) n m.2 in
      let t = some_syn (name_at us) (λ t. done (field_made ts k m.0 t, after us)) (length us) n q.1 in
      no_ok _ n t.2

  init_deep : (ts : Toks) (n : ℕ) → is_word word.Init ts ≡ true → initializer_with most levels ts ≡ Err (Depth n) → DeepM PartStructMember ts n
  unfolding initializer_with
  init_deep ts n kw e = elim (bind_err (parameters_with (after ts)) (λ ps. read most levels body 0 ps.1 >>= λ b. done (initializer (till (here ts) (blk_span b.0)) ps.0 b.0, b.1)) _ e) [
    | inl y ↦ absurd (parameters_shallow (after ts) n y)
    | inr p ↦ (
        let d = block_depth most levels some 0 p.0.1 n (bind_deep (read most levels body 0 p.0.1) (λ b. (initializer (till (here ts) (blk_span b.0)) p.0.0 b.0, b.1)) n p.2) in
        (p_initializer p.0.0 d.0, d.1, d.2, (p.0.1, word_kind word.Init ts kw, parameters_sound (after ts) p.0 p.1, d.3), omega (arith, d.4)))
  ]

  pub struct_member_deep : (ts : Toks) (n : ℕ) → struct_member_with most levels ts ≡ Err (Depth n) → DeepM PartStructMember ts n
  unfolding struct_member_with
  struct_member_deep ts n e = elim (some_or (keyword_at ts) (field_with ts) (cond (is_word word.Init ts) (initializer_with most levels ts) (cond (is_word word.Deinit ts) (deinitializer_with most levels ts) (method_with most levels ts))) _ e) [
    | inl k ↦ absurd (field_shallow ts k.0 n k.2)
    | inr y ↦ elim (chosen (is_word word.Init ts) _ _ _ y.1) [
      | inl z ↦ init_deep ts n z.0 z.1
      | inr z ↦ elim (chosen (is_word word.Deinit ts) _ _ _ z.1) [
        | inl u ↦ (deinit_deep ts n u.0 u.1).0
        | inr u ↦ (method_deep ts n u.1).0
      ]
    ]
  ]

  pub struct_member_short : (m : Member) (from to : Toks) → SpellsStructMember m from to → length to < length from
  struct_member_short (field f) from to (kw, nm, colon, ty, is, s) = rw is (let a = after_short from _ (keyword_kind from f.keyword kw) in let b = after_le (after from) in let c = after_le (after (after from)) in let d = after_le (after (after (after from))) in omega arith)
  struct_member_short (initializer s ps b) from to (mid, k, sps, sp, is) = (let a = after_le from in let c = parameters_le ps (after from) mid sps in let d = short_b b mid to sp in omega arith)
  struct_member_short (deinitializer s b) from to (k, sp, is) = (let a = after_le from in let d = short_b b (after from) to sp in omega arith)
  struct_member_short (method s m f) from to sp = method_short s m f from to sp
  struct_member_short (cases s items) from to sp = absurd sp

  pub struct_member_word : (m : Member) (from to : Toks) → SpellsStructMember m from to → (w : Word) × (kind_at from ≡ Some (kind.Word w))
  struct_member_word (field f) from to sp = (keyword_word f.keyword, keyword_kind from f.keyword sp.0)
  struct_member_word (initializer s ps b) from to sp = (word.Init, sp.1)
  struct_member_word (deinitializer s b) from to sp = (word.Deinit, sp.0)
  struct_member_word (method s m f) from to sp = method_word s m f from to sp
  struct_member_word (cases s items) from to sp = absurd sp

-- ---- cases of an enum

abbrev Free : Toks → Type 0
Free ts = Unit {0}

abbrev Unopened : Toks → Type 0
Unopened ts = is_mark mark.OpenParen ts ≡ false

name_is : (n : Name) (from to : Toks) → SpellsName n from to → Free to → name_with from ≡ Ok (n, to)
unfolding name_with
name_is n from to (nm, is) f = rw (nm, is) refl

name_sound : (ts : Toks) (x : Name × Toks) → name_with ts ≡ Ok x → SpellsName x.0 ts x.1
unfolding name_with
name_sound ts x e = let n = some_kept (name_at ts) (λ n. done (n, after ts)) (Syntax (length ts)) x e in rw (← ok_is (n.0, after ts) x n.2) (n.1, refl)

name_le : (n : Name) (from to : Toks) → SpellsName n from to → length to ≤ length from
name_le n from to (nm, is) = rw is (after_le from)

name_starts : (n : Name) (from to : Toks) → SpellsName n from to → is_mark mark.CloseParen from ≡ false
name_starts n from to (nm, is) = name_no_mark mark.CloseParen from n nm

name_shallow : (ts : Toks) (n : ℕ) → name_with ts ≡ Err (Depth n) → ⊥
unfolding name_with
name_shallow ts n e = let q = some_syn (name_at ts) (λ n. done (n, after ts)) (length ts) n e in no_ok _ n q.2

abbrev item_made : Toks → Toks → Name → List Name → CaseItem
item_made ts end n ns = record { span = till (here ts) (here end); name = n; payloads = ns }

item_by : (n : Name) (ns : List Name) (from to : Toks) (end : Span) → name_at from ≡ Some n → Payloads ns from to end → Unopened to → item_with from ≡ Ok (record { span = till (here from) end; name = n; payloads = ns }, to)
unfolding item_with wanted
item_by n [] from to end nm (is, is_end) paren = let p = rw is at paren in rw (nm, p, is, is_end) refl
item_by n (m ∷ ms) from to end nm (last, sp, is, is_end) paren =
    rw (
      nm,
      at_mark mark.OpenParen (after from) _ sp.0,
      listed_complete SpellsName name_with Free name_is name_sound name_le (λ ts k. tt) name_starts name_shallow m ms [] (after (after from)) last sp.2 tt (at_mark mark.Comma last _ sp.1),
      at_mark mark.CloseParen last _ sp.1,
      is,
      is_end,
    ) refl

item_same : (i : CaseItem) (s : Span) → i.span ≡ s → record { span = s; name = i.name; payloads = i.payloads } ≡ i
item_same i s e = rw (← e) refl

item_is : (i : CaseItem) (from to : Toks) → SpellsItem i from to → Unopened to → item_with from ≡ Ok (i, to)
item_is i from to (nm, end, pay, s) paren = item_by i.name i.payloads from to end nm pay paren ∙ ap (λ (j : CaseItem). Ok (j, to)) (item_same i _ s)

item_sound : (ts : Toks) (x : CaseItem × Toks) → item_with ts ≡ Ok x → SpellsItem x.0 ts x.1
unfolding item_with
item_sound ts x e =
    let us = after (after ts) in
    let n = some_kept (name_at ts) (λ n. cond (is_mark mark.OpenParen (after ts)) (listed_on name_with [] us >>= λ ns. wanted (is_mark mark.CloseParen ns.1) ns.1 (done (item_made ts ns.1 n ns.0, after ns.1))) (done (item_made ts ts n [], after ts))) (Syntax (length ts)) x e in
    elim (chosen (is_mark mark.OpenParen (after ts)) (listed_on name_with [] us >>= λ ns. wanted (is_mark mark.CloseParen ns.1) ns.1 (done (item_made ts ns.1 n.0 ns.0, after ns.1))) (done (item_made ts ts n.0 [], after ts)) _ n.2) [
      | inl y ↦ (
          let c = bind_ok (listed_on name_with [] us) (λ ns. wanted (is_mark mark.CloseParen ns.1) ns.1 (done (item_made ts ns.1 n.0 ns.0, after ns.1))) x y.1 in
          let s = listed_sound SpellsName name_with Free name_is name_sound name_le (λ ts k. tt) name_starts name_shallow [] us c.0 c.1 in
          let q = wanted_ok (is_mark mark.CloseParen c.0.1) c.0.1 (done (item_made ts c.0.1 n.0 c.0.0, after c.0.1)) x c.2 in
          rw (← ok_is (item_made ts c.0.1 n.0 c.0.0, after c.0.1) x q.1, s.2) (n.1, here c.0.1, (c.0.1, (mark_kind mark.OpenParen (after ts) y.0, mark_kind mark.CloseParen c.0.1 q.0, s.3), refl, refl), refl))
      | inr y ↦ rw (← ok_is (item_made ts ts n.0 [], after ts) x y.1) (n.1, here ts, (refl, refl), refl)
    ]

item_shallow : (ts : Toks) (n : ℕ) → item_with ts ≡ Err (Depth n) → ⊥
unfolding item_with
item_shallow ts n e =
    let us = after (after ts) in
    let m = some_syn (name_at ts) (λ n. cond (is_mark mark.OpenParen (after ts)) (listed_on name_with [] us >>= λ ns. wanted (is_mark mark.CloseParen ns.1) ns.1 (done (item_made ts ns.1 n ns.0, after ns.1))) (done (item_made ts ts n [], after ts))) (length ts) n e in
    elim (chosen (is_mark mark.OpenParen (after ts)) (listed_on name_with [] us >>= λ ns. wanted (is_mark mark.CloseParen ns.1) ns.1 (done (item_made ts ns.1 m.0 ns.0, after ns.1))) (done (item_made ts ts m.0 [], after ts)) _ m.2) [
      | inl y ↦ elim (bind_err (listed_on name_with [] us) (λ ns. wanted (is_mark mark.CloseParen ns.1) ns.1 (done (item_made ts ns.1 m.0 ns.0, after ns.1))) _ y.1) [
        | inl z ↦ listed_shallow SpellsName name_with Free name_is name_sound name_le (λ ts k. tt) name_starts name_shallow [] us n z
        | inr z ↦ (let q = wanted_deep (is_mark mark.CloseParen z.0.1) z.0.1 (done (item_made ts z.0.1 m.0 z.0.0, after z.0.1)) n z.2 in no_ok _ n q.1)
      ]
      | inr y ↦ no_ok _ n y.1
    ]

payloads_le : (ns : List Name) (from to : Toks) (end : Span) → Payloads ns from to end → length to ≤ length from
payloads_le [] from to end (is, is_end) = rw is (after_le from)
payloads_le (m ∷ ms) from to end (last, sp, is, is_end) =
    rw is (let a = after_le from in let b = after_le (after from) in let c = listed_le SpellsName name_with Free name_is name_sound name_le (λ ts k. tt) name_starts name_shallow m ms (after (after from)) last sp.2 in let d = after_le last in omega arith)

item_le : (i : CaseItem) (from to : Toks) → SpellsItem i from to → length to ≤ length from
item_le i from to (nm, end, pay, s) = payloads_le i.payloads from to end pay

item_starts : (i : CaseItem) (from to : Toks) → SpellsItem i from to → is_mark mark.CloseParen from ≡ false
item_starts i from to (nm, end, pay, s) = name_no_mark mark.CloseParen from i.name nm

comma_unopened : (ts : Toks) → kind_at ts ≡ Some (kind.Mark mark.Comma) → Unopened ts
comma_unopened ts k = at_mark mark.OpenParen ts _ k

-- what stands after a member: no `(` and no comma
abbrev pub Follows : Toks → Type 0
Follows ts = (is_mark mark.OpenParen ts ≡ false) × (is_mark mark.Comma ts ≡ false)

module _ (most levels : ℕ) (some : 0 < levels) where
  cases_is : (items : List CaseItem) (from to : Toks) → Listed SpellsItem items (after from) to → Follows to → cases_with from ≡ Ok (cases (till (here from) (items_end (here from) items)) items, to)
  unfolding cases_with
  cases_is [] from to sp f = absurd sp
  cases_is (i ∷ items) from to sp f = rw (listed_complete SpellsItem item_with Unopened item_is item_sound item_le comma_unopened item_starts item_shallow i items [] (after from) to sp f.0 f.1) refl

  cases_sound : (ts : Toks) (x : Member × Toks) → is_word word.Case ts ≡ true → cases_with ts ≡ Ok x → MemberRead most levels some SpellsEnumMember x.0 ts x.1
  unfolding cases_with
  cases_sound ts x kw e =
      let c = bind_ok (listed_on item_with [] (after ts)) (λ items. done (cases (till (here ts) (items_end (here ts) items.0)) items.0, items.1)) x e in
      let s = listed_sound SpellsItem item_with Unopened item_is item_sound item_le comma_unopened item_starts item_shallow [] (after ts) c.0 c.1 in
      rw (← ok_is (cases (till (here ts) (items_end (here ts) c.0.0)) c.0.0, c.0.1) x c.2, s.2) ((word_kind word.Case ts kw, s.3, refl), omega arith)

  cases_shallow : (ts : Toks) (n : ℕ) → cases_with ts ≡ Err (Depth n) → ⊥
  unfolding cases_with
  cases_shallow ts n e = listed_shallow SpellsItem item_with Unopened item_is item_sound item_le comma_unopened item_starts item_shallow [] (after ts) n (bind_deep (listed_on item_with [] (after ts)) (λ items. (cases (till (here ts) (items_end (here ts) items.0)) items.0, items.1)) n e)

  pub enum_member_told : (m : Member) (from to : Toks) → SpellsEnumMember m from to → Follows to → Told 0 (size_member most levels m) (enum_member_with most levels from) m to
  unfolding enum_member_with
  enum_member_told (field f) from to sp fl = absurd sp
  enum_member_told (initializer s ps b) from to sp fl = absurd sp
  enum_member_told (deinitializer s b) from to sp fl = let k = sp.0 in rw (at_word word.Case from _ k, at_word word.Deinit from _ k) (deinit_told most levels some s b from to sp)
  enum_member_told (method s m f) from to sp fl = let c = method_changes s m f from to sp in rw (c.case_, c.deinit) (method_told most levels some s m f from to sp)
  enum_member_told (cases s items) from to (k, sp, is) fl = told_ok _ _ (cases s items) to (omega arith) (rw (at_word word.Case from _ k, is) (cases_is items from to sp fl))

  pub enum_member_sound : (ts : Toks) (x : Member × Toks) → enum_member_with most levels ts ≡ Ok x → MemberRead most levels some SpellsEnumMember x.0 ts x.1
  unfolding enum_member_with
  enum_member_sound ts x e = elim (chosen (is_word word.Case ts) (cases_with ts) (cond (is_word word.Deinit ts) (deinitializer_with most levels ts) (method_with most levels ts)) _ e) [
    | inl y ↦ cases_sound ts x y.0 y.1
    | inr y ↦ elim (chosen (is_word word.Deinit ts) (deinitializer_with most levels ts) (method_with most levels ts) _ y.1) [
      | inl u ↦ (let d = deinit_sound most levels some ts x u.0 u.1 in (d.1, d.2))
      | inr u ↦ (let m = method_sound most levels some ts x u.1 in (m.1, m.2))
    ]
  ]

  pub enum_member_deep : (ts : Toks) (n : ℕ) → enum_member_with most levels ts ≡ Err (Depth n) → DeepM most levels some PartEnumMember ts n
  unfolding enum_member_with
  enum_member_deep ts n e = elim (chosen (is_word word.Case ts) (cases_with ts) (cond (is_word word.Deinit ts) (deinitializer_with most levels ts) (method_with most levels ts)) _ e) [
    | inl y ↦ absurd (cases_shallow ts n y.1)
    | inr y ↦ elim (chosen (is_word word.Deinit ts) (deinitializer_with most levels ts) (method_with most levels ts) _ y.1) [
      | inl u ↦ (deinit_deep most levels some ts n u.0 u.1).1
      | inr u ↦ (method_deep most levels some ts n u.1).1
    ]
  ]

  pub enum_member_short : (m : Member) (from to : Toks) → SpellsEnumMember m from to → length to < length from
  enum_member_short (field f) from to sp = absurd sp
  enum_member_short (initializer s ps b) from to sp = absurd sp
  enum_member_short (deinitializer s b) from to (k, sp, is) = (let a = after_le from in let d = short_b b (after from) to sp in omega arith)
  enum_member_short (method s m f) from to sp = method_short most levels some s m f from to sp
  enum_member_short (cases s []) from to (k, sp, is) = absurd sp
  enum_member_short (cases s (i ∷ items)) from to (k, sp, is) = (let a = after_short from _ k in let b = listed_le SpellsItem item_with Unopened item_is item_sound item_le comma_unopened item_starts item_shallow i items (after from) to sp in omega arith)

  pub enum_member_word : (m : Member) (from to : Toks) → SpellsEnumMember m from to → (w : Word) × (kind_at from ≡ Some (kind.Word w))
  enum_member_word (field f) from to sp = absurd sp
  enum_member_word (initializer s ps b) from to sp = absurd sp
  enum_member_word (deinitializer s b) from to sp = (word.Deinit, sp.0)
  enum_member_word (method s m f) from to sp = method_word s m f from to sp
  enum_member_word (cases s items) from to sp = (word.Case, sp.0)

-- ---- one turn of each loop

pub name_list_is : (found : List Name) (ts : Toks) → listed_on name_with found ts ≡ (name_with ts >>= λ x. cond (is_mark mark.Comma x.1) (listed_on name_with (found ++ x.0 ∷ []) (after x.1)) (done (found ++ x.0 ∷ [], x.1)))
name_list_is found ts = listed_is SpellsName name_with Free name_is name_sound name_le (λ ts k. tt) name_starts name_shallow found ts

pub item_list_is : (found : List CaseItem) (ts : Toks) → listed_on item_with found ts ≡ (item_with ts >>= λ x. cond (is_mark mark.Comma x.1) (listed_on item_with (found ++ x.0 ∷ []) (after x.1)) (done (found ++ x.0 ∷ [], x.1)))
item_list_is found ts = listed_is SpellsItem item_with Unopened item_is item_sound item_le comma_unopened item_starts item_shallow found ts
