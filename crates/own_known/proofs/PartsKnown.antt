-- Rules on expressions, statements and clauses, by whatever rules judge their parts.
use Rattle.std.specs.Prelude.{ℕ, Bool, List, Option, Some, None}
use Rattle.std.proofs.Common.{refl, sym, ◌∙◌}
use Rattle.own_tree.specs.declared.place.Ty.{Ty}
use Rattle.own_tree.specs.declared.place.Ty.TheVariants as type
use Rattle.own_tree.specs.declared.span.Span.{Span}
use Rattle.own_tree.specs.declared.tree.RangeOperator.{RangeOperator}
use Rattle.own_tree.specs.declared.typed.TypedPath.{TypedPath}
use Rattle.own_tree.specs.TypedSource as typed
use Rattle.own_tree.specs.TypedSource.{TPat, TExp, TWhen, TStm, TStms, TClauses, TBlk, Program}
use Rattle.own_judging.specs.Judged.{Judged}
use Rattle.own_judged.specs.Conditions.{true_that}
use Rattle.own_judged.specs.Names.{Local}
use Rattle.own_judged.specs.Patterns.{How, moved, all_matched}
use Rattle.own_judged.specs.Rules.{yields, ◌>>=◌, ◌>>◌, holding, node, covering}
use Rattle.own_judged.specs.Statements.{Stated, plain}
use Rattle.own_judged.specs.Text.{Text}
use Rattle.own_judged.specs.Values.{at, type_of}
use Rattle.own_known.specs.Known.{PathKnown, GivesBack, ExpKnown, ConditionKnown, BoundKnown, TurnKnown, WhenKnown, StmKnown, StmsKnown, BlkKnown, ClausesKnown, PatKnown}
use Rattle.own_known.specs.Surroundings.{LocalsKnown}
use Rattle.own_known.proofs.Sure.{Sure, then, gives, holds, a_node, covers}
use Rattle.own_known.proofs.ValuesKnown.{Value}

module _ (text : Text) (program : Program) (k : ℕ) where
  abbrev Sure' : {A : Type 0} → Judged A → (A → Type 0) → Type 0
  Sure' j Q = Sure text program j Q

  abbrev Fine : TExp → Type 0
  Fine t = ExpKnown text program k t

  abbrev Condition : TExp → Type 0
  Condition t = ConditionKnown text program k t

  abbrev Bound : TExp → Type 0
  Bound t = BoundKnown text program k t

  abbrev Block : TBlk → Type 0
  Block b = BlkKnown text program k b

  abbrev StatedKnown : Stated → Type 0
  StatedKnown t = StmKnown text program k t.0 × LocalsKnown text program k t.1

  pub parenthesized_known : (s : Span) (e : Judged TExp) → Sure' e Fine
      → Sure' (do
        id ← node
        t ← e
        yields (typed.parenthesized (at id s (type_of t)) t)) Fine
  parenthesized_known s e sure = then _ _ _ _ a_node (λ id u. then _ _ _ _ sure (λ t h. gives _ _ (h, refl)))

  pub consumed_known :
      (s : Span) (p : Judged TypedPath) (may : TypedPath → Bool) (code : ℕ) → Sure' p (PathKnown text program k)
      → Sure' (do
        id ← node
        q ← p
        holding (true_that (may q)) code s
        yields (typed.consumed (at id s q.at.ty) q)) Fine
  consumed_known s p may code sure =
      then _ _ _ _ a_node (λ id u. then _ _ _ _ sure (λ q h. then _ _ _ _ (holds (true_that (may q)) code s) (λ u whole.
      gives _ _ (h, refl))))

  -- a value, and what follows of it
  pub value_then :
      {A : Type 0} (Q : A → Type 0) (wanted : Option Ty) (e : Judged TExp) (rest : ℕ → TExp → Judged A)
      → Sure' e (Value text program k wanted)
      → ((id : ℕ) (t : TExp) → Value text program k wanted t → Sure' (rest id t) Q)
      → Sure' (do
        id ← node
        t ← e
        rest id t) Q
  value_then Q wanted e rest sure more = then _ _ _ _ a_node (λ id u. then _ _ _ _ sure (λ t h. more id t h))

  pub binary_known :
      (a b : Judged TExp) (rest : ℕ → TExp → TExp → Judged TExp) → Sure' a (Value text program k None)
      → Sure' b (Value text program k None)
      → ((id : ℕ) (x y : TExp) → Fine x → Fine y → Sure' (rest id x y) Fine)
      → Sure' (do
        id ← node
        x ← a
        y ← b
        rest id x y) Fine
  binary_known a b rest first second more =
      then _ _ _ _ a_node (λ id u. then _ _ _ _ first (λ x hx. then _ _ _ _ second (λ y hy. more id x y hx.0 hy.0)))

  pub choice_known :
      (wanted : Option Ty) (c a b : Judged TExp) (rest : ℕ → TExp → TExp → TExp → Judged TExp) → Sure' c Condition
      → Sure' a (Value text program k wanted) → Sure' b (Value text program k wanted)
      → ((id : ℕ) (t x y : TExp) → Condition t → Fine x → Fine y → Sure' (rest id t x y) Fine)
      → Sure' (do
        id ← node
        t ← c
        x ← a
        y ← b
        rest id t x y) Fine
  choice_known wanted c a b rest sure first second more =
      then _ _ _ _ a_node (λ id u. then _ _ _ _ sure (λ t ht. then _ _ _ _ first (λ x hx. then _ _ _ _ second (λ y hy.
      more id t x y ht hx.0 hy.0))))

  -- ---- statements

  pub place_then :
      (p : Judged TypedPath) (rest : ℕ → TypedPath → Judged Stated) → Sure' p (PathKnown text program k)
      → ((id : ℕ) (q : TypedPath) → PathKnown text program k q → Sure' (rest id q) StatedKnown)
      → Sure' (do
        id ← node
        q ← p
        rest id q) StatedKnown
  place_then p rest sure more = then _ _ _ _ a_node (λ id u. then _ _ _ _ sure (λ q h. more id q h))

  pub returned_value :
      (s : Span) (result : Ty) (gives_value : Bool) (code : ℕ) (e : Judged TExp)
      → Sure' e (Value text program k (Some result)) → GivesBack text program k result
      → Sure' (do
        id ← node
        holding (true_that gives_value) code s
        t ← e
        plain (typed.return_value (at id s type.Unit) t)) StatedKnown
  returned_value s result gives_value code e sure back =
      then _ _ _ _ a_node (λ id u. then _ _ _ _ (holds (true_that gives_value) code s) (λ u given.
      then _ _ _ _ sure (λ t ht. gives _ _ ((ht.0, (back.0, back.1, back.2 ∙ sym ht.1)), tt))))

  module _ (s : Span) (c : Judged TExp) (sure : Sure' c Condition) (a : Judged TBlk) (block : Sure' a Block) where
    pub if_known : Sure' (do
      id ← node
      t ← c
      x ← a
      plain (typed.if_then (at id s type.Unit) t x)) StatedKnown
    if_known =
        then _ _ _ _ a_node (λ id u. then _ _ _ _ sure
        (λ t ht. then _ _ _ _ block (λ x hx. gives _ _ ((ht, hx), tt))))

    pub if_else_known : (b : Judged TBlk) → Sure' b Block
        → Sure' (do
          id ← node
          t ← c
          x ← a
          y ← b
          plain (typed.if_else (at id s type.Unit) t x y)) StatedKnown
    if_else_known b other =
        then _ _ _ _ a_node (λ id u. then _ _ _ _ sure (λ t ht. then _ _ _ _ block (λ x hx. then _ _ _ _ other (λ y hy.
        gives _ _ ((ht, hx, hy), tt)))))

    pub else_if_known : (b : Judged Stated) → Sure' b StatedKnown
        → Sure' (do
          id ← node
          t ← c
          x ← a
          y ← b
          plain (typed.else_if (at id s type.Unit) t x y.0)) StatedKnown
    else_if_known b other =
        then _ _ _ _ a_node (λ id u. then _ _ _ _ sure (λ t ht. then _ _ _ _ block (λ x hx. then _ _ _ _ other (λ y hy.
        gives _ _ ((ht, hx, hy.0), tt)))))

    pub while_known : Sure' (do
      id ← node
      t ← c
      x ← a
      plain (typed.loop_while (at id s type.Unit) t x)) StatedKnown
    while_known =
        then _ _ _ _ a_node (λ id u. then _ _ _ _ sure
        (λ t ht. then _ _ _ _ block (λ x hx. gives _ _ ((ht, hx), tt))))

    pub repeat_known : Sure' (do
      id ← node
      x ← a
      t ← c
      plain (typed.loop_repeat (at id s type.Unit) x t)) StatedKnown
    repeat_known =
        then _ _ _ _ a_node (λ id u. then _ _ _ _ block
        (λ x hx. then _ _ _ _ sure (λ t ht. gives _ _ ((hx, ht), tt))))

  pub for_known :
      (s : Span) (o : RangeOperator) (mark : Span) (turn : Judged (Option ℕ × List Local)) (low high : Judged TExp)
      (a : Option ℕ × List Local → Judged TBlk)
      → Sure' turn (λ x. TurnKnown text program k x.0 × LocalsKnown text program k x.1) → Sure' low Bound
      → Sure' high Bound → ((x : Option ℕ × List Local) → LocalsKnown text program k x.1 → Sure' (a x) Block)
      → Sure' (do
        id ← node
        x ← turn
        first ← low
        last ← high
        b ← a x
        plain (typed.loop_for (at id s type.Unit) x.0 first o mark last b)) StatedKnown
  for_known s o mark turn low high a sure first last block =
      then _ _ _ _ a_node (λ id u. then _ _ _ _ sure (λ x hx. then _ _ _ _ first (λ f hf. then _ _ _ _ last (λ l hl.
      then _ _ _ _ (block x hx.1) (λ b hb. gives _ _ ((hx.0, hf, hl, hb), tt))))))

  pub switch_known :
      (s at_word : Span) (e : Judged TExp) (cs : TExp → Judged TClauses) → Sure' e Fine
      → ((t : TExp) → Fine t → Sure' (cs t) (ClausesKnown text program k))
      → Sure' (do
        id ← node
        t ← e
        ds ← cs t
        covering text.types (type_of t) (all_matched ds) at_word
        plain (typed.switch (at id s type.Unit) t ds)) StatedKnown
  switch_known s at_word e cs sure clauses =
      then _ _ _ _ a_node (λ id u. then _ _ _ _ sure (λ t ht. then _ _ _ _ (clauses t ht) (λ ds hd.
      then _ _ _ _ (covers (type_of t) (all_matched ds) at_word) (λ u all. gives _ _ ((ht, hd), tt)))))

  pub statements_then :
      (first : Judged Stated) (rest : Stated → Judged TStms) → Sure' first StatedKnown
      → ((t : Stated) → StatedKnown t → Sure' (rest t) (StmsKnown text program k))
      → Sure' (first >>= rest) (StmsKnown text program k)
  statements_then first rest sure more = then _ _ _ _ sure more

  -- ---- clauses

  abbrev HeadKnown : TWhen × List Local → Type 0
  HeadKnown h = WhenKnown text program k h.0 × LocalsKnown text program k h.1

  pub guarded_known :
      (how : How) (p : Judged (TPat × List Local)) (e : TPat × List Local → Judged TExp)
      → Sure' p (λ q. PatKnown text program k q.0
      × (LocalsKnown text program k q.1 × LocalsKnown text program k (moved how q.1)))
      → ((q : TPat × List Local) → LocalsKnown text program k q.1 → Sure' (e q) Condition)
      → Sure' (do
        q ← p
        t ← e q
        yields (typed.case_where q.0 t, moved how q.1)) HeadKnown
  guarded_known how p e sure guard =
      then _ _ _ _ sure (λ q hq. then _ _ _ _ (guard q hq.1.0) (λ t ht. gives _ _ ((hq.0, ht.0, ht.1), hq.1.1)))

  pub clause_known :
      (s : Span) (h : Judged (TWhen × List Local)) (ss : TWhen × List Local → Judged TStms) (cs : Judged TClauses)
      → Sure' h HeadKnown
      → ((w : TWhen × List Local) → LocalsKnown text program k w.1 → Sure' (ss w) (StmsKnown text program k))
      → Sure' cs (ClausesKnown text program k)
      → Sure' (do
        w ← h
        b ← ss w
        rest ← cs
        yields (typed.clause s w.0 b rest)) (ClausesKnown text program k)
  clause_known s h ss cs sure body more =
      then _ _ _ _ sure (λ w hw. then _ _ _ _ (body w hw.1)
      (λ b hb. then _ _ _ _ more (λ rest hr. gives _ _ (hw.0, hb, hr))))
