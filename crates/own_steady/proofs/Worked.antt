-- Worked texts whose programs are steady.
use Rattle.std.specs.Prelude.{◌≡◌, ◌≢◌, ◌==◌, ℕ, zero, suc, true, false, if◌then◌else◌, List, [], ◌∷◌, ◌++◌, Option, Some, None, codes, slice_get}
use Rattle.std.proofs.Common.{refl, sym, subst, ◌∙◌, inl, inr}
use Rattle.own_tree.specs.declared.place.Binding.{Binding}
use Rattle.own_tree.specs.declared.place.Mode.TheVariants as mode
use Rattle.own_tree.specs.declared.place.Ty.{Ty}
use Rattle.own_tree.specs.declared.place.Ty.TheVariants as type
use Rattle.own_tree.specs.declared.tree.BinaryOperator.TheVariants as binary
use Rattle.own_tree.specs.declared.tree.Label.TheVariants as label
use Rattle.own_tree.specs.declared.tree.Parameter.{Parameter}
use Rattle.own_tree.specs.declared.tree.ParameterType.TheVariants as written
use Rattle.own_tree.specs.declared.tree.PassingMode.TheVariants as passing_mode
use Rattle.own_tree.specs.declared.tree.Root.TheVariants as root
use Rattle.own_tree.specs.declared.typed.BodyKind.TheVariants as kind
use Rattle.own_tree.specs.Source as tree
use Rattle.own_tree.specs.Source.{File, Pat}
use Rattle.own_tree.specs.TypedSource as typed_tree
use Rattle.own_tree.specs.TypedSource.{TExp, TBody, Program}
use Rattle.own_shapes.specs.Types.{types_of, types_declared, tracked}
use Rattle.own_paths.specs.Within.{node_of, exps_in_block}
use Rattle.own_judging.specs.Coverage.{first_missing}
use Rattle.own_judged.specs.Text.{text_of}
use Rattle.own_judged.specs.Typing.{typed}
use Rattle.own_steady.specs.Programs.{setting, ProgramSteady}
use Rattle.own_steady.specs.Steady.{a_value, a_place, a_closure, Setting, Site, form, is_in, PlaceSteady, BodySteady, DeinitSteady, IsField}
use Rattle.own_steady.proofs.Seeing.{no_yes}
use Rattle.own_steady.proofs.Steps.{none_some, some_same}
use Rattle.own_steady.proofs.Straying.{span, name, path, call, only, function, passing_on, program_in}

-- ---- the type of a node, read off a program

abbrev type_in : List TExp → ℕ → Ty
type_in [] n = type.Unit
type_in (e ∷ es) n = if (node_of e).id == n then (node_of e).ty else type_in es n

abbrev exps_of : List TBody → List TExp
exps_of [] = []
exps_of (b ∷ bs) = exps_in_block b.block ++ exps_of bs

abbrev pub types_at : Program → ℕ → Ty
types_at program n = type_in (exps_of program.bodies) n

-- no body sees names of another
abbrev pub nothing_outer : ℕ → List ℕ
nothing_outer k = []

-- what is so of the binding that is there
pub there : (P : Binding → Type 0) (c : Binding) → P c → (b : Binding) → Some c ≡ Some b → P b
there P c h b e = subst P (some_same c b e) h

pub body_there : (P : TBody → Type 0) (c : TBody) → P c → (b : TBody) → Some c ≡ Some b → P b
body_there P c h b e = subst P (some_same c b e) h

-- ---- a closure that is passed on

abbrev pub passed_on : File
passed_on = passing_on (path (codes "f"))

abbrev pub passed_program : Program
passed_program = program_in (typed passed_on)

abbrev passed_setting : Setting
passed_setting = setting (text_of passed_on) passed_program (types_at passed_program) nothing_outer

passed_bodies : (k : ℕ) (body : TBody) → slice_get passed_program.bodies k ≡ Some body → BodySteady passed_setting k body
unfolding typed types_of types_declared first_missing
passed_bodies zero body e =
    body_there (BodySteady passed_setting 0) _
    (record {
      block = (((refl, ((tt, refl), tt), record { seen = refl; is_closure = λ b d. there (λ b. form passed_setting b ≡ a_closure) _ refl b d }), refl), tt);
      result = refl;
      outer_names = refl;
      others = tt;
    }) body e
passed_bodies (suc zero) body e =
    body_there (BodySteady passed_setting 1) _
    (record {
      block = (((refl, (record { seen = refl; is_closure = λ b d. there (λ b. form passed_setting b ≡ a_closure) _ refl b d }, tt)), refl), tt);
      result = refl;
      outer_names = refl;
      others = tt;
    }) body e
passed_bodies (suc (suc zero)) body e =
    body_there (BodySteady passed_setting 2) _
    (record { block = (((((refl, (refl, tt)), inl refl), tt), refl), tt); result = tt; outer_names = refl; others = tt }) body e
passed_bodies (suc (suc (suc zero))) body e =
    body_there (BodySteady passed_setting 3) _
    (record {
      block = (
        (
          record {
            seen = refl;
            no_closure = λ b d. there (λ b. form passed_setting b ≡ a_closure → ⊥) _ (λ q. value_closure q) b d;
            has = λ b d. tt;
            opened = λ b d. there (λ b. b.mode ≡ mode.SelfInit → IsField []) _ (λ q. plain_init q) b d;
          },
          refl,
        ),
        tt,
      );
      result = refl;
      outer_names = tt;
      others = tt;
    }) body e
  where
    value_closure : a_value ≡ a_closure → ⊥
    value_closure q = cc

    plain_init : mode.Plain ≡ mode.SelfInit → ⊥
    plain_init q = cc
passed_bodies (suc (suc (suc (suc k)))) body e = none_some body e

pub passed_on_is_steady : ProgramSteady (text_of passed_on) passed_program (types_at passed_program) nothing_outer
unfolding typed types_of types_declared first_missing
passed_on_is_steady = record {
  bodies = passed_bodies;
  deinits = λ t e. no_yes e;
  main = record { body = _; there = refl; kind = refl; params = refl };
}

abbrev pub body_or : Option TBody → TBody
body_or (Some b) = b
body_or None = record {
  kind = kind.Function;
  owner = None;
  params = [];
  result = type.Unit;
  discards = false;
  span = span 0;
  close = span 0;
  block = typed_tree.block (record { id = 0; span = span 0; ty = type.Unit }) typed_tree.no_stms;
}

-- ---- enum E: ~Copyable { case none, one(Int) }
-- ---- func f(_ e: consuming E) {
-- ----   switch consume e { case .one(let n) where n == 1: print(n) case .one(let k): print(k) default: }
-- ---- }
-- ---- func main() {}

-- `.one(let NAME)`
abbrev one : List ℕ → Pat
one t = tree.on_case (span 0) (name (codes "one")) (tree.pat (tree.bind (span 0) (name t)) tree.no_pats)

abbrev consuming_parameter : Parameter
consuming_parameter = record {
  span = span 0;
  label = label.Omitted;
  name = name (codes "e");
  written = written.Named (span 0) (Some passing_mode.Consuming) (name (codes "E"));
}

abbrev switching : File
switching = record {
  declarations =
      tree.enum_of (span 0) (name (codes "E")) true (tree.cases (span 0)
      (record { span = span 0; name = name (codes "none"); payloads = [] }
      ∷ record { span = span 0; name = name (codes "one"); payloads = name (codes "Int") ∷ [] } ∷ []) ∷ [])
      ∷ function (codes "f") (consuming_parameter ∷ []) None (
      tree.stm (tree.switch (span 0)
      (tree.consumed (span 0) (record { span = span 0; root = root.Named (name (codes "e")); fields = [] }))
      (tree.clause (span 0)
      (tree.case_where (one (codes "n"))
      (tree.binary (span 0) binary.Equal (span 0) (path (codes "n")) (tree.number (span 0) false 1)))
      (only (call (codes "print") (path (codes "n"))))
      (tree.clause (span 0) (tree.case_of (tree.pat (one (codes "k")) tree.no_pats))
      (only (call (codes "print") (path (codes "k"))))
      (tree.clause (span 0) tree.default tree.no_stms tree.no_clauses)))) tree.no_stms)
      ∷ function (codes "main") [] None tree.no_stms ∷ [];
  main = span 0;
  tokens = 50;
}

abbrev switching_program : Program
switching_program = program_in (typed switching)

abbrev switching_setting : Setting
switching_setting = setting (text_of switching) switching_program (types_at switching_program) nothing_outer

-- a binding as a whole, which holds a value
pub value_place : (here : Setting) (g : Site) (x : ℕ) (b : Binding) → slice_get here.program.bindings x ≡ Some b
    → is_in g.names x ≡ true → form here b ≡ a_value → b.mode ≢ mode.SelfInit
    → PlaceSteady here g (record { binding = x; fields = [] })
value_place here g x b d i f m = record {
  seen = i;
  no_closure = λ c e. subst (λ z. form here z ≡ a_closure → ⊥) (some_same b c (sym d ∙ e)) (λ q. apart (sym f ∙ q));
  has = λ c e. tt;
  opened = λ c e. subst (λ z. z.mode ≡ mode.SelfInit → IsField []) (some_same b c (sym d ∙ e)) (λ q. absurd (m q));
}
  where
    apart : a_value ≡ a_closure → ⊥
    apart q = cc

-- one that stands for a place
alias_place : (here : Setting) (g : Site) (x : ℕ) (b : Binding) → slice_get here.program.bindings x ≡ Some b
    → is_in g.names x ≡ true → form here b ≡ a_place → b.mode ≢ mode.SelfInit
    → PlaceSteady here g (record { binding = x; fields = [] })
alias_place here g x b d i f m = record {
  seen = i;
  no_closure = λ c e. subst (λ z. form here z ≡ a_closure → ⊥) (some_same b c (sym d ∙ e)) (λ q. apart (sym f ∙ q));
  has = λ c e. tt;
  opened = λ c e. subst (λ z. z.mode ≡ mode.SelfInit → IsField []) (some_same b c (sym d ∙ e)) (λ q. absurd (m q));
}
  where
    apart : a_place ≡ a_closure → ⊥
    apart q = cc

consuming_init : mode.Consuming ≢ mode.SelfInit
consuming_init q = cc

owned_init : mode.PatternOwned ≢ mode.SelfInit
owned_init q = cc

borrowed_init : mode.PatternBorrowed ≢ mode.SelfInit
borrowed_init q = cc

switching_body : BodySteady switching_setting 0 (body_or (slice_get switching_program.bodies 0))
unfolding typed types_of types_declared first_missing
switching_body = record {
  block = (
    (
      value_place switching_setting _ 0 _ refl refl refl consuming_init,
      refl,
      (
        (
          (tt, (record { binding = _; declared = refl; body = refl; shape = refl; value = refl; mode = inr refl; fresh = refl }, tt)),
          (alias_place switching_setting _ 1 _ refl refl refl borrowed_init, tt, λ q. tt),
          (tt, (record { binding = _; declared = refl; body = refl; shape = refl; value = refl; mode = inl refl; fresh = refl }, tt)),
        ),
        ((((value_place switching_setting _ 2 _ refl refl refl owned_init, inl refl), tt), refl), tt),
        (
          ((tt, (record { binding = _; declared = refl; body = refl; shape = refl; value = refl; mode = inl refl; fresh = refl }, tt)), refl, tt),
          ((((value_place switching_setting _ 3 _ refl refl refl owned_init, inl refl), tt), refl), tt),
          (tt, tt, tt),
        ),
      ),
    ),
    tt,
  );
  result = tt;
  outer_names = refl;
  others = tt;
}

switching_main : BodySteady switching_setting 1 (body_or (slice_get switching_program.bodies 1))
unfolding typed types_of types_declared first_missing
switching_main = record { block = tt; result = tt; outer_names = refl; others = tt }

switching_bodies : (k : ℕ) (body : TBody) → slice_get switching_program.bodies k ≡ Some body → BodySteady switching_setting k body
unfolding typed types_of types_declared first_missing
switching_bodies zero body e = body_there (BodySteady switching_setting 0) _ switching_body body e
switching_bodies (suc zero) body e = body_there (BodySteady switching_setting 1) _ switching_main body e
switching_bodies (suc (suc k)) body e = none_some body e

switching_is_steady : ProgramSteady (text_of switching) switching_program (types_at switching_program) nothing_outer
unfolding typed types_of types_declared first_missing
switching_is_steady = record {
  bodies = switching_bodies;
  deinits = λ t e. untracked_type t e;
  main = record { body = _; there = refl; kind = refl; params = refl };
}
  where
    untracked_type : (t : ℕ) → tracked ((text_of switching).types.shape (type.Named t)) ≡ true → DeinitSteady switching_setting t
    untracked_type zero e = no_yes e
    untracked_type (suc t) e = no_yes e
