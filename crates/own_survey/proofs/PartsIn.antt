-- What the declarations of a text contain stands among its parts.
use Rattle.std.proofs.Common.{◌≡◌, Bool, true, false, List, [], ◌∷◌, ◌++◌, length, inl, inr, refl, sym, ap, ◌∙◌, subst}
use Rattle.std.specs.Prelude.{not, ◌&&◌}
use Rattle.own_tree.specs.declared.span.Span.{Span}
use Rattle.own_tree.specs.declared.tree.CaseItem.{CaseItem}
use Rattle.own_tree.specs.declared.tree.Field.{Field}
use Rattle.own_tree.specs.declared.tree.Name.{Name}
use Rattle.own_tree.specs.Source.{Member, field, initializer, deinitializer, method, cases, Decl, struct_of, enum_of, function, File}
use Rattle.own_survey.specs.declared.declarations.Home.{Home}
use Rattle.own_survey.specs.Parts.{Part, a_case, a_type, a_content, a_lifetime, word_of, taking_parts, function_parts, block_parts, payload_parts, case_parts, member_parts, main_parts, declared_parts, last_parts, file_parts, struct_home, enum_home}
use Rattle.own_shapes.specs.Types.{Declared, declared_as, declared_types, fields_of, cases_of, has_deinit}
use Rattle.own_shapes.proofs.Lists.{In, in_front, in_back, in_either}

-- ---- in a case

item_in : (noncopyable : Bool) (cs : List CaseItem) (c : CaseItem) → In cs c → In (case_parts noncopyable cs) (a_case c.name.span (length c.payloads))
item_in noncopyable [] c i = absurd i
item_in noncopyable (d ∷ cs) c (inl e) = inl (ap (λ x. a_case x.name.span (length x.payloads)) e)
item_in noncopyable (d ∷ cs) c (inr i) = inr (in_back (payload_parts noncopyable d.payloads) (case_parts noncopyable cs) (a_case c.name.span (length c.payloads)) (item_in noncopyable cs c i))

-- what a case has among the parts of its own member, by whether its type is noncopyable
module _ (x : Bool → Part) (c : CaseItem) (there : (noncopyable : Bool) (cs : List CaseItem) → In cs c → In (case_parts noncopyable cs) (x noncopyable)) where
  in_case : (h : Home) (ms : List Member) → In (cases_of ms) c → In (member_parts h ms) (x h.noncopyable)
  in_case h [] i = absurd i
  in_case h (field g ∷ ms) i = inr (inr (in_case h ms i))
  in_case h (initializer s ps b ∷ ms) i =
      let rest = member_parts (record h { takes_init = false }) ms in
      inr (in_back (taking_parts (word_of 4 s) ps ++ block_parts b) rest (x h.noncopyable) (in_case (record h { takes_init = false }) ms i))
  in_case h (deinitializer s b ∷ ms) i =
      inr (inr (in_back (block_parts b) (member_parts (record h { takes_deinit = false }) ms) (x h.noncopyable) (in_case (record h { takes_deinit = false }) ms i)))
  in_case h (method s mode g ∷ ms) i = inr (in_back (function_parts g) (member_parts h ms) (x h.noncopyable) (in_case h ms i))
  in_case h (cases s cs ∷ ms) i = elim (in_either cs (cases_of ms) c i) [
    | inl here ↦ in_front (case_parts h.noncopyable cs) (member_parts h ms) (x h.noncopyable) (there h.noncopyable cs here)
    | inr later ↦ in_back (case_parts h.noncopyable cs) (member_parts h ms) (x h.noncopyable) (in_case h ms later)
  ]

-- ---- one of the two parts that a written type is, of a stored property or a payload

module _ (x : Bool → Name → Part) (one : (noncopyable : Bool) (n : Name) (rest : List Part) → In (a_type n ∷ a_content noncopyable n ∷ rest) (x noncopyable n)) where
  name_in : (noncopyable : Bool) (ns : List Name) (n : Name) → In ns n → In (payload_parts noncopyable ns) (x noncopyable n)
  name_in noncopyable [] n i = absurd i
  name_in noncopyable (m ∷ ns) n (inl e) = subst (λ y. In (payload_parts noncopyable (m ∷ ns)) (x noncopyable y)) e (one noncopyable m (payload_parts noncopyable ns))
  name_in noncopyable (m ∷ ns) n (inr i) = inr (inr (name_in noncopyable ns n i))

  payload_in : (noncopyable : Bool) (cs : List CaseItem) (c : CaseItem) (n : Name) → In cs c → In c.payloads n → In (case_parts noncopyable cs) (x noncopyable n)
  payload_in noncopyable [] c n i j = absurd i
  payload_in noncopyable (d ∷ cs) c n (inl e) j =
      inr (in_front (payload_parts noncopyable d.payloads) (case_parts noncopyable cs) (x noncopyable n)
      (name_in noncopyable d.payloads n (subst (λ y. In y.payloads n) (sym e) j)))
  payload_in noncopyable (d ∷ cs) c n (inr i) j =
      inr (in_back (payload_parts noncopyable d.payloads) (case_parts noncopyable cs) (x noncopyable n) (payload_in noncopyable cs c n i j))

  field_in : (h : Home) (ms : List Member) (f : Field) → In (fields_of ms) f → In (member_parts h ms) (x h.noncopyable f.written)
  field_in h [] f i = absurd i
  field_in h (field g ∷ ms) f (inl e) =
      subst (λ y. In (member_parts h (field g ∷ ms)) (x h.noncopyable y.written)) e (one h.noncopyable g.written (member_parts h ms))
  field_in h (field g ∷ ms) f (inr i) = inr (inr (field_in h ms f i))
  field_in h (initializer s ps b ∷ ms) f i =
      let rest = member_parts (record h { takes_init = false }) ms in
      inr (in_back (taking_parts (word_of 4 s) ps ++ block_parts b) rest (x h.noncopyable f.written) (field_in (record h { takes_init = false }) ms f i))
  field_in h (deinitializer s b ∷ ms) f i =
      inr (inr (in_back (block_parts b) (member_parts (record h { takes_deinit = false }) ms) (x h.noncopyable f.written) (field_in (record h { takes_deinit = false }) ms f i)))
  field_in h (method s mode g ∷ ms) f i = inr (in_back (function_parts g) (member_parts h ms) (x h.noncopyable f.written) (field_in h ms f i))
  field_in h (cases s cs ∷ ms) f i = in_back (case_parts h.noncopyable cs) (member_parts h ms) (x h.noncopyable f.written) (field_in h ms f i)

-- ---- the first `deinit` of a type

deinit_in : (h : Home) (ms : List Member) → has_deinit ms ≡ true → (s : Span) × In (member_parts h ms) (a_lifetime h.takes_deinit (word_of 6 s))
deinit_in h [] e = absurd cc
deinit_in h (field g ∷ ms) e = let d = deinit_in h ms e in (d.0, inr (inr d.1))
deinit_in h (initializer s ps b ∷ ms) e =
    let rest = record h { takes_init = false } in let d = deinit_in rest ms e in
    (d.0, inr (in_back (taking_parts (word_of 4 s) ps ++ block_parts b) (member_parts rest ms) (a_lifetime h.takes_deinit (word_of 6 d.0)) d.1))
deinit_in h (deinitializer s b ∷ ms) e = (s, inl refl)
deinit_in h (method s mode g ∷ ms) e =
    let d = deinit_in h ms e in (d.0, inr (in_back (function_parts g) (member_parts h ms) (a_lifetime h.takes_deinit (word_of 6 d.0)) d.1))
deinit_in h (cases s cs ∷ ms) e =
    let d = deinit_in h ms e in (d.0, in_back (case_parts h.noncopyable cs) (member_parts h ms) (a_lifetime h.takes_deinit (word_of 6 d.0)) d.1)

-- ---- in a text

-- the members of a declared type, and what it says of them
record IsOf (d : Declared) (h : Home) (ms : List Member) : Type 0 where
  pub fields : fields_of ms ≡ d.fields
  pub cases : cases_of ms ≡ d.cases
  pub deinit : has_deinit ms ≡ d.has_deinit
  pub noncopyable : h.noncopyable ≡ d.noncopyable
  pub takes_deinit : h.takes_deinit ≡ (d.noncopyable && not d.is_enum)

of_struct : (name : Name) (noncopyable : Bool) (ms : List Member) (d : Declared) → declared_as false name noncopyable ms ≡ d → IsOf d (struct_home noncopyable) ms
of_struct name noncopyable ms d e = record {
  fields = ap (λ t. t.fields) e;
  cases = ap (λ t. t.cases) e;
  deinit = ap (λ t. t.has_deinit) e;
  noncopyable = ap (λ t. t.noncopyable) e;
  takes_deinit = same noncopyable ∙ ap (λ t. t.noncopyable && not t.is_enum) e;
}
  where
    same : (b : Bool) → b ≡ (b && true)
    same true = refl
    same false = refl

of_enum : (name : Name) (noncopyable : Bool) (ms : List Member) (d : Declared) → declared_as true name noncopyable ms ≡ d → IsOf d (enum_home noncopyable) ms
of_enum name noncopyable ms d e = record {
  fields = ap (λ t. t.fields) e;
  cases = ap (λ t. t.cases) e;
  deinit = ap (λ t. t.has_deinit) e;
  noncopyable = ap (λ t. t.noncopyable) e;
  takes_deinit = none noncopyable ∙ ap (λ t. t.noncopyable && not t.is_enum) e;
}
  where
    none : (b : Bool) → false ≡ (b && false)
    none true = refl
    none false = refl

-- a part that a type has among those of its members
module _ (Q : Part → Type 0) (d : Declared) (there : (h : Home) (ms : List Member) → IsOf d h ms → (p : Part) × In (member_parts h ms) p × Q p) where
  in_declared : (ds : List Decl) → In (declared_types ds) d → (p : Part) × In (declared_parts ds) p × Q p
  in_declared [] i = absurd i
  in_declared (struct_of s name noncopyable ms ∷ ds) (inl e) =
      let t = there (struct_home noncopyable) ms (of_struct name noncopyable ms d e) in
      (t.0, inr (inr (in_front (member_parts (struct_home noncopyable) ms) (declared_parts ds) t.0 t.1)), t.2)
  in_declared (struct_of s name noncopyable ms ∷ ds) (inr i) =
      let t = in_declared ds i in (t.0, inr (inr (in_back (member_parts (struct_home noncopyable) ms) (declared_parts ds) t.0 t.1)), t.2)
  in_declared (enum_of s name noncopyable ms ∷ ds) (inl e) =
      let t = there (enum_home noncopyable) ms (of_enum name noncopyable ms d e) in
      (t.0, inr (inr (in_front (member_parts (enum_home noncopyable) ms) (declared_parts ds) t.0 t.1)), t.2)
  in_declared (enum_of s name noncopyable ms ∷ ds) (inr i) =
      let t = in_declared ds i in (t.0, inr (inr (in_back (member_parts (enum_home noncopyable) ms) (declared_parts ds) t.0 t.1)), t.2)
  in_declared (function f ∷ ds) i =
      let t = in_declared ds i in (t.0, inr (in_back (main_parts f ++ function_parts f) (declared_parts ds) t.0 t.1), t.2)

  in_text : (file : File) → In (declared_types file.declarations) d → (p : Part) × In (file_parts file) p × Q p
  in_text file i = let t = in_declared file.declarations i in (t.0, inr (in_front (declared_parts file.declarations) (last_parts file) t.0 t.1), t.2)

module _ (file : File) (d : Declared) (i : In (declared_types file.declarations) d) where
  known_in : (x : Part) → ((h : Home) (ms : List Member) → IsOf d h ms → In (member_parts h ms) x) → In (file_parts file) x
  known_in x there =
      let t = in_text (λ p. p ≡ x) d (λ h ms of. (x, there h ms of, refl)) file i in subst (λ p. In (file_parts file) p) t.2 t.1

  in_fields : (f : Field) (h : Home) (ms : List Member) → IsOf d h ms → In d.fields f → In (fields_of ms) f
  in_fields f h ms of j = subst (λ fs. In fs f) (sym of.fields) j

  in_cases : (c : CaseItem) (h : Home) (ms : List Member) → IsOf d h ms → In d.cases c → In (cases_of ms) c
  in_cases c h ms of j = subst (λ cs. In cs c) (sym of.cases) j

  pub text_field : (f : Field) → In d.fields f → In (file_parts file) (a_type f.written)
  text_field f j = known_in (a_type f.written) (λ h ms of. field_in (λ nc n. a_type n) (λ nc n rest. inl refl) h ms f (in_fields f h ms of j))

  -- T04 is asked of each stored property
  pub text_content : (f : Field) → In d.fields f → In (file_parts file) (a_content d.noncopyable f.written)
  text_content f j = known_in (a_content d.noncopyable f.written) (λ h ms of.
      subst (λ b. In (member_parts h ms) (a_content b f.written)) of.noncopyable
      (field_in (λ nc n. a_content nc n) (λ nc n rest. inr (inl refl)) h ms f (in_fields f h ms of j)))

  pub text_case : (c : CaseItem) → In d.cases c → In (file_parts file) (a_case c.name.span (length c.payloads))
  text_case c j =
      known_in (a_case c.name.span (length c.payloads)) (λ h ms of.
      in_case (λ nc. a_case c.name.span (length c.payloads)) c (λ nc cs k. item_in nc cs c k) h ms (in_cases c h ms of j))

  pub text_payload : (c : CaseItem) (n : Name) → In d.cases c → In c.payloads n → In (file_parts file) (a_type n)
  text_payload c n j l =
      known_in (a_type n) (λ h ms of.
      in_case (λ nc. a_type n) c (λ nc cs k. payload_in (λ b m. a_type m) (λ b m rest. inl refl) nc cs c n k l) h ms (in_cases c h ms of j))

  -- and of each payload
  pub text_payload_content : (c : CaseItem) (n : Name) → In d.cases c → In c.payloads n → In (file_parts file) (a_content d.noncopyable n)
  text_payload_content c n j l =
      known_in (a_content d.noncopyable n) (λ h ms of. subst (λ b. In (member_parts h ms) (a_content b n)) of.noncopyable
      (in_case (λ nc. a_content nc n) c (λ nc cs k. payload_in (λ b m. a_content b m) (λ b m rest. inr (inl refl)) nc cs c n k l) h ms (in_cases c h ms of j)))

  -- T05 is asked of a `deinit`: it stands in a noncopyable struct.
  pub text_deinit : d.has_deinit ≡ true → (at : Span) × In (file_parts file) (a_lifetime (d.noncopyable && not d.is_enum) at)
  text_deinit has =
      let Q : Part → Type 0 = λ p. (at : Span) × (p ≡ a_lifetime (d.noncopyable && not d.is_enum) at) in
      let t = in_text Q d (λ h ms of.
      let first = deinit_in h ms (of.deinit ∙ has) in
      (a_lifetime h.takes_deinit (word_of 6 first.0), first.1, (word_of 6 first.0, ap (λ b. a_lifetime b (word_of 6 first.0)) of.takes_deinit))) file i in
      (t.2.0, subst (λ p. In (file_parts file) p) t.2.1 t.1)
