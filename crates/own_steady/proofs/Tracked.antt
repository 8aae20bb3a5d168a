-- A worked text with an `init`, a `deinit`, a method and a closure that captures, whose program is steady.
use Rattle.std.specs.Prelude.{◌≡◌, ◌≢◌, ◌==◌, ℕ, zero, suc, true, false, if◌then◌else◌, List, [], ◌∷◌, Option, Some, None, codes, slice_get}
use Rattle.std.proofs.Common.{refl, sym, subst, ◌∙◌, inl, arith}
use Rattle.own_tree.specs.declared.place.Binding.{Binding}
use Rattle.own_tree.specs.declared.place.Mode.TheVariants as mode
use Rattle.own_tree.specs.declared.place.Ty.TheVariants as type
use Rattle.own_tree.specs.declared.tree.AssignOperator.TheVariants as assign
use Rattle.own_tree.specs.declared.tree.BinaryOperator.TheVariants as binary
use Rattle.own_tree.specs.declared.tree.ClosureName.TheVariants as bound
use Rattle.own_tree.specs.declared.tree.Keyword.TheVariants as keyword
use Rattle.own_tree.specs.declared.tree.Label.TheVariants as label
use Rattle.own_tree.specs.declared.tree.Parameter.{Parameter}
use Rattle.own_tree.specs.declared.tree.ParameterType.TheVariants as written
use Rattle.own_tree.specs.declared.tree.Path.{Path}
use Rattle.own_tree.specs.declared.tree.ResultType.{ResultType}
use Rattle.own_tree.specs.declared.tree.ResultType.TheVariants as result
use Rattle.own_tree.specs.declared.tree.Root.TheVariants as root
use Rattle.own_tree.specs.Source as tree
use Rattle.own_tree.specs.Source.{File}
use Rattle.own_tree.specs.TypedSource.{TBody, Program}
use Rattle.own_shapes.specs.Types.{types_of, types_declared, tracked}
use Rattle.own_judging.specs.Coverage.{first_missing}
use Rattle.own_judged.specs.Text.{text_of}
use Rattle.own_judged.specs.Typing.{typed}
use Rattle.own_runs.specs.Values.{field}
use Rattle.own_steady.specs.Fits.{HasParts}
use Rattle.own_steady.specs.Programs.{setting, ProgramSteady}
use Rattle.own_steady.specs.Steady.{a_value, a_place, a_closure, Setting, Site, form, is_in, PlaceSteady, BodySteady, DeinitSteady}
use Rattle.own_steady.proofs.Seeing.{no_yes}
use Rattle.own_steady.proofs.Steps.{none_some, some_same}
use Rattle.own_steady.proofs.Straying.{span, name, path, call, only, function_parameter, function, program_in}
use Rattle.own_steady.proofs.Worked.{types_at, body_or, there, body_there, value_place}

-- ---- struct A: ~Copyable {
-- ----   var n: Int
-- ----   init(_ m: Int) { self.n = m }
-- ----   deinit { print(self.n) }
-- ----   func get() -> Int { self.n }
-- ---- }
-- ---- func k(_ f: (Int) -> Int) -> Int { f(3) }
-- ---- func main() { let a = A(1); print(k { y in y + a.get() }) }

abbrev own_field : Path
own_field = record { span = span 0; root = root.SelfWord (span 0); fields = name (codes "n") ∷ [] }

abbrev int_parameter : Parameter
int_parameter = record {
  span = span 0;
  label = label.Omitted;
  name = name (codes "m");
  written = written.Named (span 0) None (name (codes "Int"));
}

abbrev to_int : Option ResultType
to_int = Some (result.Named (name (codes "Int")))

abbrev pub tracking : File
tracking = record {
  declarations =
      tree.struct_of (span 0) (name (codes "A")) true (
      tree.field (record { span = span 0; keyword = keyword.Var; name = name (codes "n"); written = name (codes "Int") })
      ∷ tree.initializer (span 0) (int_parameter ∷ [])
      (tree.block (span 0) (tree.stm (tree.assign (span 0) own_field assign.Plain (span 0) (path (codes "m"))) tree.no_stms))
      ∷ tree.deinitializer (span 0) (tree.block (span 0) (only (call (codes "print") (tree.path own_field))))
      ∷ tree.method (span 0) None
      (record { span = span 0; name = name (codes "get"); parameters = []; result = to_int; body = tree.block (span 0) (only (tree.path own_field)) })
      ∷ [])
      ∷ function (codes "k") (function_parameter (codes "f") ∷ []) to_int
      (only (call (codes "f") (tree.number (span 0) false 3)))
      ∷ function (codes "main") [] None (
      tree.stm (tree.let_in (span 0) keyword.Let (name (codes "a")) None (call (codes "A") (tree.number (span 0) false 1)))
      (only (call (codes "print") (tree.call_closure (span 0) (path (codes "k"))
      (tree.closure (span 0) (bound.Bind (name (codes "y")) ∷ [])
      (only (tree.binary (span 0) binary.Plus (span 0) (path (codes "y"))
      (tree.call (span 0) (tree.path (record { span = span 0; root = root.Named (name (codes "a")); fields = name (codes "get") ∷ [] })) tree.no_args))))))))
      ∷ [];
  main = span 0;
  tokens = 50;
}

abbrev pub tracking_program : Program
tracking_program = program_in (typed tracking)

-- the closure, which is body 5, sees `a`, which is binding 5
abbrev pub sees_a : ℕ → List ℕ
sees_a k = if k == 5 then 5 ∷ [] else []

abbrev tracking_setting : Setting
tracking_setting = setting (text_of tracking) tracking_program (types_at tracking_program) sees_a

-- a stored property of a binding
field_place : (here : Setting) (g : Site) (x k : ℕ) (b : Binding) → slice_get here.program.bindings x ≡ Some b
    → is_in g.names x ≡ true → (form here b ≡ a_closure → ⊥) → HasParts (here.types.shape b.ty) (field k ∷ [])
    → PlaceSteady here g (record { binding = x; fields = k ∷ [] })
field_place here g x k b d i f h = record {
  seen = i;
  no_closure = λ c e. subst (λ z. form here z ≡ a_closure → ⊥) (some_same b c (sym d ∙ e)) f;
  has = λ c e. subst (λ z. HasParts (here.types.shape z.ty) (field k ∷ [])) (some_same b c (sym d ∙ e)) h;
  opened = λ c e m. tt;
}

value_closure : a_value ≡ a_closure → ⊥
value_closure q = cc

place_closure : a_place ≡ a_closure → ⊥
place_closure q = cc

plain_init : mode.Plain ≢ mode.SelfInit
plain_init q = cc

let_init : mode.Let ≢ mode.SelfInit
let_init q = cc

four_five : ◌≡◌ {A = ℕ} 4 5 → ⊥
four_five q = absurd (omega (arith, q))

abbrev Body : ℕ → Type 0
Body k = BodySteady tracking_setting k (body_or (slice_get tracking_program.bodies k))

init_steady : Body 0
unfolding typed types_of types_declared first_missing
init_steady = record {
  block = (
    (
      value_place tracking_setting _ 1 _ refl refl refl plain_init,
      refl,
      field_place tracking_setting _ 0 0 _ refl refl value_closure (tt, tt),
    ),
    tt,
  );
  result = tt;
  outer_names = refl;
  others = tt;
}

deinit_steady : Body 1
unfolding typed types_of types_declared first_missing
deinit_steady = record {
  block = ((((field_place tracking_setting _ 2 0 _ refl refl place_closure (tt, tt), inl refl), tt), refl), tt);
  result = tt;
  outer_names = refl;
  others = tt;
}

method_steady : Body 2
unfolding typed types_of types_declared first_missing
method_steady = record {
  block = ((field_place tracking_setting _ 3 0 _ refl refl place_closure (tt, tt), refl), tt);
  result = refl;
  outer_names = refl;
  others = tt;
}

function_steady : Body 3
unfolding typed types_of types_declared first_missing
function_steady = record {
  block = (
    (
      (refl, ((tt, refl), tt), record { seen = refl; is_closure = λ b d. there (λ b. form tracking_setting b ≡ a_closure) _ refl b d }),
      refl,
    ),
    tt,
  );
  result = refl;
  outer_names = refl;
  others = tt;
}

main_steady : Body 4
unfolding typed types_of types_declared first_missing
main_steady = record {
  block = (
    ((refl, ((tt, refl), tt), refl), record { binding = _; declared = refl; body = refl; form = refl; mode = let_init }),
    (((((refl, (refl, tt)), inl refl), tt), refl), tt),
  );
  result = tt;
  outer_names = refl;
  others = tt;
}

closure_steady : Body 5
unfolding typed types_of types_declared first_missing
closure_steady = record {
  block = (
    (
      (
        value_place tracking_setting _ 6 _ refl refl refl plain_init,
        (refl, (value_place tracking_setting _ 5 _ refl refl refl let_init, tt)),
      ),
      refl,
    ),
    tt,
  );
  result = refl;
  outer_names = tt;
  others = (λ b d. there (λ b. b.body ≢ 5) _ four_five b d, tt);
}

tracking_bodies : (k : ℕ) (body : TBody) → slice_get tracking_program.bodies k ≡ Some body → BodySteady tracking_setting k body
unfolding typed types_of types_declared first_missing
tracking_bodies zero body e = body_there (BodySteady tracking_setting 0) _ init_steady body e
tracking_bodies (suc zero) body e = body_there (BodySteady tracking_setting 1) _ deinit_steady body e
tracking_bodies (suc (suc zero)) body e = body_there (BodySteady tracking_setting 2) _ method_steady body e
tracking_bodies (suc (suc (suc zero))) body e = body_there (BodySteady tracking_setting 3) _ function_steady body e
tracking_bodies (suc (suc (suc (suc zero)))) body e = body_there (BodySteady tracking_setting 4) _ main_steady body e
tracking_bodies (suc (suc (suc (suc (suc zero))))) body e = body_there (BodySteady tracking_setting 5) _ closure_steady body e
tracking_bodies (suc (suc (suc (suc (suc (suc k)))))) body e = none_some body e

pub tracking_is_steady : ProgramSteady (text_of tracking) tracking_program (types_at tracking_program) sees_a
unfolding typed types_of types_declared first_missing
tracking_is_steady = record {
  bodies = tracking_bodies;
  deinits = λ t e. tracked_type t e;
  main = record { body = _; there = refl; kind = refl; params = refl };
}
  where
    tracked_type : (t : ℕ) → tracked ((text_of tracking).types.shape (type.Named t)) ≡ true → DeinitSteady tracking_setting t
    tracked_type zero e = record {
      number = 1;
      found = refl;
      body = _;
      there = refl;
      kind = refl;
      param = 2;
      params = refl;
      self = _;
      declared = refl;
      own = refl;
      ty = refl;
      mode = refl;
      no_outer = λ x q. no_yes q;
    }
    tracked_type (suc t) e = no_yes e
