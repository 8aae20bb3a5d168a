-- Each body stands under the number that its declaration has.
use Rattle.std.specs.Prelude.{◌≡◌, ℕ, suc, ◌+◌, ◌==◌, ◌&&◌, Bool, true, false, List, [], ◌∷◌, ◌++◌, length, map, Some, None, slice_get, if◌then◌else◌}
use Rattle.std.specs.Str.{bytes_eq}
use Rattle.std.proofs.Common.{refl, ap, ◌∙◌, subst, arith}
use Rattle.std.proofs.lemmas.Grind.{common_steps}
use Rattle.own_tree.specs.declared.place.Mode.TheVariants as mode
use Rattle.own_tree.specs.declared.place.Ty.TheVariants as type
use Rattle.own_tree.specs.declared.tree.Parameter.{Parameter}
use Rattle.own_tree.specs.declared.typed.BodyKind.TheVariants as kind
use Rattle.own_tree.specs.Source as tree
use Rattle.own_tree.specs.Source.{Blk, Member, Decl}
use Rattle.own_tree.specs.TypedSource.{Program}
use Rattle.own_shapes.specs.Types.{is_copyable}
use Rattle.own_survey.specs.Parts.{stms_parts}
use Rattle.own_judging.specs.Judged.{Judged}
use Rattle.own_judging.specs.Made.{Made}
use Rattle.own_judged.specs.Bodies.{Heading, body_of, body_inside, a_body, param_info, method_self, initializer_heading, deinitializer_heading, method_heading, function_heading, member_bodies, bodies, body_scope}
use Rattle.own_judged.specs.Closures.{no_block}
use Rattle.own_judged.specs.Rules.{yields, embodied, ◌>>◌}
use Rattle.own_judged.specs.Statements.{is_single}
use Rattle.own_judged.specs.Text.{Text, Callable, Method, Entry, for_function, for_method, for_initializer, member_entries, member_bodies as bodies_in, bodies_of, entries, function_in, method_in, initializer_in}
use Rattle.own_judged.specs.Trees.{statements}
use Rattle.own_known.specs.Known.{ParamsAre, IsBodyOf, self_param}
use Rattle.own_known.specs.Surroundings.{IsKnown, TextKnown, ParamsHere, MembersHere, DeclarationsHere}
use Rattle.own_known.proofs.BodiesKnown.{HeadingKnown, self_params, takes, result_known, whole_known}
use Rattle.own_known.proofs.CallsCounted.{block_counts}
use Rattle.own_known.proofs.Counting.{Counts, both as both_count, first_only, second_only, given, embodies as embodies_counts}
use Rattle.own_known.proofs.NoBodies.{self_none, params_none}
use Rattle.own_known.proofs.Sure.{Later, later_front, later_back}
use Rattle.own_known.proofs.TreesCounted.{in_parts, statements_count}

module _ (text : Text) where
  -- ---- how many bodies

  body_counts : (h : Heading) (ps : List Parameter) (b : Blk) → Counts (a_body text h ps b) (bodies_of b)
  body_counts h ps (tree.block s ss) =
      first_only _ _ (suc (in_parts (stms_parts ss)))
      (embodies_counts (body_of h s [] (no_block s)) (body_inside text h ps s ss) (λ a. body_of h s a.0 a.1)
      (in_parts (stms_parts ss))
      (λ k. second_only _ _ (in_parts (stms_parts ss)) (self_none k h h.self) (λ me.
      second_only _ _ (in_parts (stms_parts ss)) (params_none text k ps) (λ xs.
      first_only _ _ (in_parts (stms_parts ss))
      (block_counts text s (statements text (body_scope h k me.1 xs.1) ss (is_single ss) []) (in_parts (stms_parts ss))
      (statements_count text (body_scope h k me.1 xs.1) ss (is_single ss) [])) (λ b. given _)))))
      (λ x. given _)

  two_bodies :
      (first rest : Judged (Unit {0})) (m n : ℕ) → Counts first m → Counts rest n → Counts (first >> rest) (m + n)
  two_bodies first rest m n c d = both_count first (λ a. rest) m n c (λ a. d)

  members_count :
      (t : ℕ) (ms : List Member) → Counts (member_bodies text t ms) (bodies_in text.written text.signatures ms)
  members_count t [] = given _
  members_count t (tree.field f ∷ ms) = members_count t ms
  members_count t (tree.initializer s ps b ∷ ms) =
      two_bodies (a_body text (initializer_heading t s) ps b) (member_bodies text t ms) (bodies_of b)
      (bodies_in text.written text.signatures ms)
      (body_counts (initializer_heading t s) ps b) (members_count t ms)
  members_count t (tree.deinitializer s b ∷ ms) =
      two_bodies (a_body text (deinitializer_heading t s) [] b) (member_bodies text t ms) (bodies_of b)
      (bodies_in text.written text.signatures ms)
      (body_counts (deinitializer_heading t s) [] b) (members_count t ms)
  members_count t (tree.method s m f ∷ ms) =
      two_bodies (a_body text (method_heading text t m f) f.parameters f.body) (member_bodies text t ms)
      (bodies_of f.body) (bodies_in text.written text.signatures ms)
      (body_counts (method_heading text t m f) f.parameters f.body) (members_count t ms)
  members_count t (tree.cases s cs ∷ ms) = members_count t ms

module _ (text : Text) (program : Program) (texts : TextKnown text program) where
  -- ---- one body

  -- what is said of the body of a heading
  abbrev Is : (k : ℕ) → Heading → List Parameter → Type 0
  Is k h ps =
      IsBodyOf text program h.kind h.owner (self_params text program texts h h.self)
      (record { body = k; params = map (param_info text) ps; result = h.result })

  body_is :
      (h : Heading) (ps : List Parameter) (b : Blk) (s s' : Made) → (a_body text h ps b).holds s tt s'
      → Later text program s s' → HeadingKnown text program texts h → ParamsHere text program ps
      → Is (length s.bodies) h ps
  body_is h ps (tree.block at ss) s s' holds later known here =
      let whole = embodied (body_of h at [] (no_block at)) (body_inside text h ps at ss) (λ a. body_of h at a.0 a.1) in
      let before = later_front text program s holds.1 s' ((yields tt).grows holds.1 tt s' holds.3) later in
      let r = ((whole_known text program texts h ps at ss known here).is s holds.0 holds.1 holds.2 before).0 in
      let number : holds.0.0 ≡ length s.bodies = holds.2.1 in (
        body_of h at holds.0.1.0 holds.0.1.1,
        subst (λ k. slice_get program.bodies k ≡ Some (body_of h at holds.0.1.0 holds.0.1.1)) number r.1,
        refl,
        refl,
        refl,
        subst (λ k. ParamsAre text program k holds.0.1.0 (takes text program texts h ps)) number r.0.0,
      )

  -- ---- the entries of a text

  abbrev EntryIs : Entry → Type 0
  EntryIs (for_function n c) = IsBodyOf text program kind.Function None [] c
  EntryIs (for_method t n m) =
      IsBodyOf text program kind.Method (Some t)
      (self_param text program (method_self (is_copyable text.types (type.Named t)) m.mode) t ∷ []) m.callable
  EntryIs (for_initializer t c) =
      IsBodyOf text program kind.Initializer (Some t) (self_param text program mode.SelfInit t ∷ []) c

  abbrev EntriesAre : List Entry → Type 0
  EntriesAre [] = Unit {0}
  EntriesAre (e ∷ es) = EntryIs e × EntriesAre es

  joined_are : (es fs : List Entry) → EntriesAre es → EntriesAre fs → EntriesAre (es ++ fs)
  joined_are [] fs a b = b
  joined_are (e ∷ es) fs a b = (a.0, joined_are es fs a.1 b)

  abbrev Entries : (t k : ℕ) → List Member → List Entry
  Entries t k ms = member_entries text.written text.signatures t k ms

  abbrev Within : ℕ → ℕ → Made → Type 0
  Within k n s = length s.bodies ≡ k + n

  members_are :
      (t k : ℕ) (ms : List Member) (s s' : Made) → (member_bodies text t ms).holds s tt s' → length s.bodies ≡ k
      → Later text program s s' → IsKnown text program (type.Named t) → MembersHere text program ms
      → EntriesAre (Entries t k ms)
  members_are t k [] s s' holds at later known here = tt
  members_are t k (tree.field f ∷ ms) s s' holds at later known here = members_are t k ms s s' holds at later known here
  members_are t k (tree.initializer sp ps b ∷ ms) s s' holds at later known here =
      let h = initializer_heading t sp in
      let one = (a_body text h ps b).grows s holds.0 holds.1 holds.2 in
      let rest = (member_bodies text t ms).grows holds.1 tt s' holds.3 in
      let count = (body_counts text h ps b).is s holds.0 holds.1 holds.2 in (
        subst (λ k. Is k h ps) at (body_is h ps b s holds.1 holds.2 (later_front text program s holds.1 s' rest later)
            (record { owner = known; result = tt }) here.0),
        members_are t (k + bodies_of b) ms holds.1 s' holds.3 (count ∙ ap (λ n. n + bodies_of b) at)
            (later_back text program s holds.1 s' one later) known here.1,
      )
  members_are t k (tree.deinitializer sp b ∷ ms) s s' holds at later known here =
      let h = deinitializer_heading t sp in
      let one = (a_body text h [] b).grows s holds.0 holds.1 holds.2 in
      let count = (body_counts text h [] b).is s holds.0 holds.1 holds.2 in
      members_are t (k + bodies_of b) ms holds.1 s' holds.3 (count ∙ ap (λ n. n + bodies_of b) at)
      (later_back text program s holds.1 s' one later) known here
  members_are t k (tree.method sp m f ∷ ms) s s' holds at later known here =
      let h = method_heading text t m f in
      let one = (a_body text h f.parameters f.body).grows s holds.0 holds.1 holds.2 in
      let rest = (member_bodies text t ms).grows holds.1 tt s' holds.3 in
      let count = (body_counts text h f.parameters f.body).is s holds.0 holds.1 holds.2 in (
        subst (λ k. Is k h f.parameters) at (body_is h f.parameters f.body s holds.1 holds.2
            (later_front text program s holds.1 s' rest later)
            (record { owner = known; result = result_known text program texts f.result }) here.0),
        members_are t (k + bodies_of f.body) ms holds.1 s' holds.3 (count ∙ ap (λ n. n + bodies_of f.body) at)
            (later_back text program s holds.1 s' one later) known here.1,
      )
  members_are t k (tree.cases sp cs ∷ ms) s s' holds at later known here =
      members_are t k ms s s' holds at later known here

  -- those of a type, and those of the declarations behind it
  module _ (t k : ℕ) (ms : List Member) (ds : List Decl) (s s' : Made)
      (holds : (member_bodies text t ms >> bodies text (suc t) ds).holds s tt s') (at : length s.bodies ≡ k)
      (later : Later text program s s') (known : IsKnown text program (type.Named t))
      (here : MembersHere text program ms) where
    members_first : EntriesAre (Entries t k ms)
    members_first =
        members_are t k ms s holds.1 holds.2 at
        (later_front text program s holds.1 s' ((bodies text (suc t) ds).grows holds.1 tt s' holds.3) later) known here

    behind_at : length holds.1.bodies ≡ k + bodies_in text.written text.signatures ms
    behind_at =
        (members_count text t ms).is s holds.0 holds.1 holds.2 ∙ ap
        (λ n. n + bodies_in text.written text.signatures ms) at

    behind_later : Later text program holds.1 s'
    behind_later =
        later_back text program s holds.1 s' ((member_bodies text t ms).grows s holds.0 holds.1 holds.2) later

  pub declarations_are :
      (t k : ℕ) (ds : List Decl) (s s' : Made) → (bodies text t ds).holds s tt s' → length s.bodies ≡ k
      → Later text program s s' → DeclarationsHere text program t ds
      → EntriesAre (entries text.written text.signatures t k ds)
  declarations_are t k [] s s' holds at later here = tt
  declarations_are t k (tree.struct_of sp n noncopyable ms ∷ ds) s s' holds at later here =
      joined_are (Entries t k ms) (entries text.written text.signatures (suc t)
      (k + bodies_in text.written text.signatures ms) ds)
      (members_first t k ms ds s s' holds at later here.0 here.1)
      (declarations_are (suc t) (k + bodies_in text.written text.signatures ms) ds holds.1 s' holds.3
      (behind_at t k ms ds s s' holds at later here.0 here.1)
      (behind_later t k ms ds s s' holds at later here.0 here.1) here.2)
  declarations_are t k (tree.enum_of sp n noncopyable ms ∷ ds) s s' holds at later here =
      joined_are (Entries t k ms) (entries text.written text.signatures (suc t)
      (k + bodies_in text.written text.signatures ms) ds)
      (members_first t k ms ds s s' holds at later here.0 here.1)
      (declarations_are (suc t) (k + bodies_in text.written text.signatures ms) ds holds.1 s' holds.3
      (behind_at t k ms ds s s' holds at later here.0 here.1)
      (behind_later t k ms ds s s' holds at later here.0 here.1) here.2)
  declarations_are t k (tree.function f ∷ ds) s s' holds at later here =
      let h = function_heading text f in
      let one = (a_body text h f.parameters f.body).grows s holds.0 holds.1 holds.2 in
      let rest = (bodies text t ds).grows holds.1 tt s' holds.3 in
      let count = (body_counts text h f.parameters f.body).is s holds.0 holds.1 holds.2 in (
        subst (λ k. Is k h f.parameters) at (body_is h f.parameters f.body s holds.1 holds.2
            (later_front text program s holds.1 s' rest later)
            (record { owner = tt; result = result_known text program texts f.result }) here.0),
        declarations_are t (k + bodies_of f.body) ds holds.1 s' holds.3 (count ∙ ap (λ n. n + bodies_of f.body) at)
            (later_back text program s holds.1 s' one later) here.1,
      )

  -- ---- what is looked up

  same : {A : Type 0} (a b : A) → Some a ≡ Some b → a ≡ b
  same a b e = cc

  pub function_is :
      (es : List Entry) (name : List ℕ) (c : Callable) → EntriesAre es → function_in es name ≡ Some c
      → IsBodyOf text program kind.Function None [] c
  function_is [] name c all e = absurd (cc)
  function_is (for_function n d ∷ es) name c all e = by_test (bytes_eq n name) (λ h. function_is es name c all.1 h) e
    where
      by_test : (b : Bool) → (function_in es name ≡ Some c → IsBodyOf text program kind.Function None [] c)
          → (if b then Some d else function_in es name) ≡ Some c → IsBodyOf text program kind.Function None [] c
      by_test true rest e = subst (IsBodyOf text program kind.Function None []) (same d c e) all.0
      by_test false rest e = rest e
  function_is (for_method t n m ∷ es) name c all e = function_is es name c all.1 e
  function_is (for_initializer t d ∷ es) name c all e = function_is es name c all.1 e

  abbrev MethodIs : ℕ → Method → Type 0
  MethodIs t m =
      IsBodyOf text program kind.Method (Some t)
      (self_param text program (method_self (is_copyable text.types (type.Named t)) m.mode) t ∷ []) m.callable

  number_same : (n m : ℕ) (b : Bool) → ((n == m) && b) ≡ true → n ≡ m
  number_same n m b e = grind (arith, common_steps)

  pub method_is :
      (es : List Entry) (t : ℕ) (name : List ℕ) (m : Method) → EntriesAre es → method_in es t name ≡ Some m
      → MethodIs t m
  method_is [] t name m all e = absurd (cc)
  method_is (for_function n d ∷ es) t name m all e = method_is es t name m all.1 e
  method_is (for_method u n o ∷ es) t name m all e =
      by_test ((u == t) && bytes_eq n name) refl (λ h. method_is es t name m all.1 h) e
    where
      by_test : (b : Bool) → ((u == t) && bytes_eq n name) ≡ b → (method_in es t name ≡ Some m → MethodIs t m)
          → (if b then Some o else method_in es t name) ≡ Some m → MethodIs t m
      by_test true at_b rest e =
          subst (λ m. MethodIs t m) (same o m e)
          (subst (λ t. MethodIs t o) (number_same u t (bytes_eq n name) at_b) all.0)
      by_test false at_b rest e = rest e
  method_is (for_initializer u d ∷ es) t name m all e = method_is es t name m all.1 e

  abbrev InitializerIs : ℕ → Callable → Type 0
  InitializerIs t c = IsBodyOf text program kind.Initializer (Some t) (self_param text program mode.SelfInit t ∷ []) c

  number_is : (n m : ℕ) → (n == m) ≡ true → n ≡ m
  number_is n m e = grind (arith, common_steps)

  pub initializer_is :
      (es : List Entry) (t : ℕ) (c : Callable) → EntriesAre es → initializer_in es t ≡ Some c → InitializerIs t c
  initializer_is [] t c all e = absurd (cc)
  initializer_is (for_function n d ∷ es) t c all e = initializer_is es t c all.1 e
  initializer_is (for_method u n o ∷ es) t c all e = initializer_is es t c all.1 e
  initializer_is (for_initializer u d ∷ es) t c all e = by_test (u == t) refl (λ h. initializer_is es t c all.1 h) e
    where
      by_test : (b : Bool) → (u == t) ≡ b → (initializer_in es t ≡ Some c → InitializerIs t c)
          → (if b then Some d else initializer_in es t) ≡ Some c → InitializerIs t c
      by_test true at_b rest e =
          subst (λ c. InitializerIs t c) (same d c e) (subst (λ t. InitializerIs t d) (number_is u t at_b) all.0)
      by_test false at_b rest e = rest e
