-- The bodies of a text.
use Rattle.std.specs.Prelude.{ℕ, suc, Bool, true, false, List, [], ◌∷◌, ◌++◌, map, Option, Some, None, codes, if◌then◌else◌}
use Rattle.std.specs.Str.{bytes_eq}
use Rattle.std.proofs.Common.{refl}
use Rattle.own_tree.specs.declared.place.Mode.{Mode}
use Rattle.own_tree.specs.declared.place.Ty.TheVariants as type
use Rattle.own_tree.specs.declared.span.Span.{Span}
use Rattle.own_tree.specs.declared.tree.Parameter.{Parameter}
use Rattle.own_tree.specs.declared.tree.ResultType.{ResultType}
use Rattle.own_tree.specs.declared.tree.ResultType.TheVariants as result
use Rattle.own_tree.specs.declared.typed.ParamInfo.{ParamInfo}
use Rattle.own_tree.specs.Source as tree
use Rattle.own_tree.specs.Source.{Stms, Blk, Fun, Member, Decl, File}
use Rattle.own_tree.specs.TypedSource.{TStms, TBlk, Program}
use Rattle.own_survey.specs.Parts.{VOID}
use Rattle.own_judging.specs.Judged.{Judged}
use Rattle.own_judged.specs.Bodies.{Heading, owner_type, self_bound, body_of, body_scope, initializer_heading, deinitializer_heading, method_heading, function_heading, param_info, params_bound, body_inside, a_body, member_bodies, bodies}
use Rattle.own_judged.specs.Closures.{binding_of, no_block, a_block}
use Rattle.own_judged.specs.Names.{Local, Self, local_of}
use Rattle.own_judged.specs.Rules.{yields, ◌>>=◌, ◌>>◌, embodied}
use Rattle.own_judged.specs.Signatures.{given_result}
use Rattle.own_judged.specs.Statements.{is_single}
use Rattle.own_judged.specs.Text.{Text}
use Rattle.own_judged.specs.Trees.{statements}
use Rattle.own_known.specs.Known.{StmsKnown, BlkKnown, ParamsKnown, ParamsAre}
use Rattle.own_known.specs.Surroundings.{IsKnown, TextKnown, LocalsKnown, SelfKnown, ParamsHere, MembersHere, DeclarationsHere}
use Rattle.own_known.proofs.ClosuresKnown.{named_here, block_known}
use Rattle.own_known.proofs.Scopes.{joined}
use Rattle.own_known.proofs.Sure.{Sure, IsBody, then as premise, gives, declares, embodies}
use Rattle.own_known.proofs.TreesKnown.{statements_known, nothing_done}

module _ (text : Text) (program : Program) (texts : TextKnown text program) where
  abbrev Sure' : {A : Type 0} → Judged A → (A → Type 0) → Type 0
  Sure' j Q = Sure text program j Q

  abbrev Params : ℕ → List ℕ → Type 0
  Params k xs = ParamsKnown text program k xs

  -- ---- results

  unless_void : (b : Bool) (name : List ℕ) → IsKnown text program (if b then type.Unit else text.written name)
  unless_void true name = tt
  unless_void false name = texts.written name

  pub result_known : (r : Option ResultType) → IsKnown text program (given_result text.written r)
  result_known None = tt
  result_known (Some (result.Named n)) = unless_void (bytes_eq n.text VOID) n.text
  result_known (Some (result.Empty s)) = tt

  -- ---- what a body begins with

  abbrev pub self_params : Heading → Option Mode → List ParamInfo
  self_params h None = []
  self_params h (Some m) = record { label = None; mode = m; ty = owner_type h.owner } ∷ []

  abbrev pub Takes : ℕ → List ParamInfo → List ℕ → Type 0
  Takes k ps xs = ParamsAre text program k xs ps

  abbrev Began : ℕ → Heading → Option Mode → List ℕ × Option Self → Type 0
  Began k h m r = Takes k (self_params h m) r.0 × SelfKnown text program k h.owner r.1

  self_known :
      (k : ℕ) (h : Heading) (m : Option Mode) → IsKnown text program (owner_type h.owner)
      → Sure' (self_bound k h m) (Began k h m)
  self_known k h None known = gives _ _ (tt, tt)
  self_known k h (Some m) known =
      let b = binding_of (codes "self") (owner_type h.owner) m h.span k in
      premise _ _ _ _ (declares b known) (λ x is.
      gives _ _ (
        ((b, is, refl, refl, refl), tt),
        ((b, named_here text program texts k x b is refl, refl), refl, known),
      ))

  abbrev Taken : ℕ → List Parameter → List ℕ × List Local → Type 0
  Taken k ps r = Takes k (map (param_info text) ps) r.0 × LocalsKnown text program k r.1

  params_known :
      (k : ℕ) (ps : List Parameter) → ParamsHere text program ps → Sure' (params_bound text k ps) (Taken k ps)
  params_known k [] here = gives _ _ (tt, tt)
  params_known k (p ∷ ps) here =
      let ty = (param_info text p).ty in
      let b = binding_of p.name.text ty (param_info text p).mode p.name.span k in
      premise _ _ _ _ (declares b here.0) (λ x is.
      premise _ _ _ _ (params_known k ps here.1) (λ rest h.
      gives _ _ (
        ((b, is, refl, refl, refl), h.0),
        joined text program k (local_of p.name x ty) rest.1
            (((b, named_here text program texts k x b is refl, refl), here.0), tt) h.1,
      )))

  all_params :
      (k : ℕ) (ps qs : List ParamInfo) (xs ys : List ℕ) → Takes k ps xs → Takes k qs ys → Takes k (ps ++ qs) (xs ++ ys)
  all_params k [] qs [] ys a b = b
  all_params k [] qs (x ∷ xs) ys a b = absurd a
  all_params k (p ∷ ps) qs [] ys a b = absurd a
  all_params k (p ∷ ps) qs (x ∷ xs) ys a b = (a.0, all_params k ps qs xs ys a.1 b)

  there : (k : ℕ) (ps : List ParamInfo) (xs : List ℕ) → Takes k ps xs → ParamsKnown text program k xs
  there k [] [] a = tt
  there k [] (x ∷ xs) a = absurd a
  there k (p ∷ ps) [] a = absurd a
  there k (p ∷ ps) (x ∷ xs) a = ((a.0.0, a.0.1, a.0.2), there k ps xs a.1)

  -- ---- one body

  -- with these parameters
  abbrev pub Parts : List ParamInfo → ℕ → List ℕ × TBlk → Type 0
  Parts ps k r = Takes k ps r.0 × BlkKnown text program k r.1

  parts_known :
      (k : ℕ) (h : Heading) (m : Option Mode) (params : List Parameter) (s : Span)
      (me : Judged (List ℕ × Option Self)) (ps : Judged (List ℕ × List Local))
      (ss : Option Self → List Local → Judged TStms) → Sure' me (Began k h m) → Sure' ps (Taken k params)
      → ((self : Option Self) (ls : List Local) → SelfKnown text program k h.owner self
      → LocalsKnown text program k ls → Sure' (ss self ls) (StmsKnown text program k))
      → Sure' (do
        x ← me
        xs ← ps
        b ← a_block s (ss x.1 xs.1)
        yields (x.0 ++ xs.0, b)) (Parts (self_params h m ++ map (param_info text) params) k)
  parts_known k h m params s me ps ss first second body =
      premise _ _ _ _ first (λ x hx. premise _ _ _ _ second (λ xs hs.
      premise _ _ _ _ (block_known text program texts k s (ss x.1 xs.1) (body x.1 xs.1 hx.1 hs.1)) (λ b hb.
      gives _ _ (all_params k (self_params h m) (map (param_info text) params) x.0 xs.0 hx.0 hs.0, hb))))

  pub record HeadingKnown (h : Heading) : Type 0 where
    pub owner : IsKnown text program (owner_type h.owner)
    pub result : IsKnown text program h.result

  abbrev pub takes : Heading → List Parameter → List ParamInfo
  takes h ps = self_params h h.self ++ map (param_info text) ps

  inside_known :
      (h : Heading) (ps : List Parameter) (s : Span) (ss : Stms) (k : ℕ) (a : List ℕ × TBlk) → HeadingKnown h
      → ParamsHere text program ps → IsBody text program k (body_of h s a.0 a.1)
      → Sure' (body_inside text h ps s ss k) (Parts (takes h ps) k)
  inside_known h ps s ss k a known here is =
      parts_known k h h.self ps s (self_bound k h h.self) (params_bound text k ps)
      (λ self ls. statements text (body_scope h k self ls) ss (is_single ss) [])
      (self_known k h h.self known.owner) (params_known k ps here)
      (λ self ls hs hl. statements_known text program texts (body_scope h k self ls)
      (record { locals = hl; self = hs; gives_back = (body_of h s a.0 a.1, is, refl); result = known.result })
      ss (is_single ss) [] (nothing_done text program texts k))

  -- a body under its number
  pub whole_known :
      (h : Heading) (ps : List Parameter) (s : Span) (ss : Stms) → HeadingKnown h → ParamsHere text program ps
      → Sure' (embodied (body_of h s [] (no_block s)) (body_inside text h ps s ss) (λ a. body_of h s a.0 a.1))
      (λ r. Parts (takes h ps) r.0 r.1 × IsBody text program r.0 (body_of h s r.1.0 r.1.1))
  whole_known h ps s ss known here =
      embodies (Parts (takes h ps)) (body_of h s [] (no_block s)) (body_inside text h ps s ss)
      (λ a. body_of h s a.0 a.1)
      (λ k a is. inside_known h ps s ss k a known here is)
      (λ k a parts. (there k (takes h ps) a.0 parts.0, parts.1, known.result))

  body_known :
      (h : Heading) (ps : List Parameter) (b : Blk) → HeadingKnown h → ParamsHere text program ps
      → Sure' (a_body text h ps b) (λ u. Unit {0})
  body_known h ps (tree.block s ss) known here =
      premise _ _ _ _ (whole_known h ps s ss known here) (λ x u. gives _ _ tt)

  -- ---- the bodies of members and declarations

  one_then :
      (first rest : Judged (Unit {0})) → Sure' first (λ u. Unit {0}) → Sure' rest (λ u. Unit {0})
      → Sure' (first >> rest) (λ u. Unit {0})
  one_then first rest one more = premise first (λ a. rest) (λ u. Unit {0}) (λ u. Unit {0}) one (λ u k. more)

  abbrev Sound : Judged (Unit {0}) → Type 0
  Sound j = Sure' j (λ u. Unit {0})

  members_known :
      (t : ℕ) (ms : List Member) → IsKnown text program (type.Named t) → MembersHere text program ms
      → Sound (member_bodies text t ms)
  members_known t [] known here = gives _ _ tt
  members_known t (tree.field f ∷ ms) known here = members_known t ms known here
  members_known t (tree.initializer s ps b ∷ ms) known here =
      one_then (a_body text (initializer_heading t s) ps b) (member_bodies text t ms)
      (body_known (initializer_heading t s) ps b (record { owner = known; result = tt }) here.0)
      (members_known t ms known here.1)
  members_known t (tree.deinitializer s b ∷ ms) known here =
      one_then (a_body text (deinitializer_heading t s) [] b) (member_bodies text t ms)
      (body_known (deinitializer_heading t s) [] b (record { owner = known; result = tt }) tt)
      (members_known t ms known here)
  members_known t (tree.method s m f ∷ ms) known here =
      one_then (a_body text (method_heading text t m f) f.parameters f.body) (member_bodies text t ms)
      (body_known (method_heading text t m f) f.parameters f.body
      (record { owner = known; result = result_known f.result }) here.0)
      (members_known t ms known here.1)
  members_known t (tree.cases s cs ∷ ms) known here = members_known t ms known here

  pub bodies_known : (t : ℕ) (ds : List Decl) → DeclarationsHere text program t ds → Sound (bodies text t ds)
  bodies_known t [] here = gives _ _ tt
  bodies_known t (tree.struct_of s n noncopyable ms ∷ ds) here =
      one_then (member_bodies text t ms) (bodies text (suc t) ds) (members_known t ms here.0 here.1)
      (bodies_known (suc t) ds here.2)
  bodies_known t (tree.enum_of s n noncopyable ms ∷ ds) here =
      one_then (member_bodies text t ms) (bodies text (suc t) ds) (members_known t ms here.0 here.1)
      (bodies_known (suc t) ds here.2)
  bodies_known t (tree.function f ∷ ds) here =
      one_then (a_body text (function_heading text f) f.parameters f.body) (bodies text t ds)
      (body_known (function_heading text f) f.parameters f.body
      (record { owner = tt; result = result_known f.result }) here.0)
      (bodies_known t ds here.1)
