-- How an argument is passed and what its parameter is are one.
use Rattle.std.proofs.Common.{◌≡◌, ℕ, Bool, true, false, List, [], ◌∷◌, Option, Some, None, refl, sym, ap, ◌∙◌, subst}
use Rattle.std.specs.Prelude.{if◌then◌else◌}
use Rattle.own_tree.specs.declared.place.Binding.{Binding}
use Rattle.own_tree.specs.declared.place.Mode.{Mode}
use Rattle.own_tree.specs.declared.place.Mode.TheVariants as mode
use Rattle.own_tree.specs.declared.place.Ty.{Ty}
use Rattle.own_tree.specs.declared.place.Ty.TheVariants as type
use Rattle.own_tree.specs.declared.tree.MethodMode.{MethodMode}
use Rattle.own_tree.specs.declared.tree.MethodMode.TheVariants as method_mode
use Rattle.own_tree.specs.declared.typed.ParamInfo.{ParamInfo}
use Rattle.own_tree.specs.declared.typed.Passing.TheVariants as passing
use Rattle.own_tree.specs.TypedSource.{Program}
use Rattle.own_shapes.specs.Types.{Shape, copyable}
use Rattle.own_calls.specs.Arguments.{passing_of, is_inout, is_borrowing, is_function}
use Rattle.own_judged.specs.Bodies.{method_self}
use Rattle.own_judged.specs.Calls.{receiver_param, receiver_mode}
use Rattle.own_judged.specs.Text.{Text}
use Rattle.own_runs.specs.Destruction.{Passed}
use Rattle.own_known.specs.Known.{ParamsAre, self_param}
use Rattle.own_steady.specs.Steady.{form_by, form_for, form, is_alias, is_loan, has_function_type, own_shape, Setting, IsWritten, AreWritten}
use Rattle.own_steady.specs.Programs.{setting}
use Rattle.own_steady.specs.Worlds.{World}
use Rattle.own_steady.proofs.Destroying.{TakesAll}
use Rattle.own_steady.proofs.Seeing.{IsPassed, ParamsFor}

passed_form : (inout function copies loan : Bool) → form_by inout function copies loan
    ≡ form_for (if inout then passing.Inout else if function then passing.Closure else if copies then passing.ByValue else if loan then passing.Borrow else passing.Consume)
passed_form true f c l = refl
passed_form false true c l = refl
passed_form false false true l = refl
passed_form false false false true = refl
passed_form false false false false = refl

function_type : (ty : Ty) → has_function_type ty ≡ is_function ty
function_type type.Int = refl
function_type type.Bool = refl
function_type type.Unit = refl
function_type (type.Named k) = refl
function_type (type.Fun k) = refl

alias_mode : (m : Mode) → IsWritten m → is_alias m ≡ is_inout m
alias_mode mode.Plain h = refl
alias_mode mode.Borrowing h = refl
alias_mode mode.Consuming h = refl
alias_mode mode.Inout h = refl
alias_mode mode.Closure h = refl
alias_mode mode.Let h = absurd h
alias_mode mode.Var h = absurd h
alias_mode mode.Turn h = absurd h
alias_mode mode.PatternOwned h = absurd h
alias_mode mode.PatternBorrowed h = absurd h
alias_mode mode.SelfBorrowing h = absurd h
alias_mode mode.SelfConsuming h = absurd h
alias_mode mode.SelfMutating h = absurd h
alias_mode mode.SelfInit h = absurd h
alias_mode mode.SelfDeinit h = absurd h

loan_mode : (m : Mode) → IsWritten m → is_loan m ≡ is_borrowing m
loan_mode mode.Plain h = refl
loan_mode mode.Borrowing h = refl
loan_mode mode.Consuming h = refl
loan_mode mode.Inout h = refl
loan_mode mode.Closure h = refl
loan_mode mode.Let h = absurd h
loan_mode mode.Var h = absurd h
loan_mode mode.Turn h = absurd h
loan_mode mode.PatternOwned h = absurd h
loan_mode mode.PatternBorrowed h = absurd h
loan_mode mode.SelfBorrowing h = absurd h
loan_mode mode.SelfConsuming h = absurd h
loan_mode mode.SelfMutating h = absurd h
loan_mode mode.SelfInit h = absurd h
loan_mode mode.SelfDeinit h = absurd h

written_shape : (m : Mode) (s : Shape) → IsWritten m → own_shape m s ≡ s
written_shape mode.Plain s h = refl
written_shape mode.Borrowing s h = refl
written_shape mode.Consuming s h = refl
written_shape mode.Inout s h = refl
written_shape mode.Closure s h = refl
written_shape mode.Let s h = absurd h
written_shape mode.Var s h = absurd h
written_shape mode.Turn s h = absurd h
written_shape mode.PatternOwned s h = absurd h
written_shape mode.PatternBorrowed s h = absurd h
written_shape mode.SelfBorrowing s h = absurd h
written_shape mode.SelfConsuming s h = absurd h
written_shape mode.SelfMutating s h = absurd h
written_shape mode.SelfInit s h = absurd h
written_shape mode.SelfDeinit s h = absurd h

method_shape : (c : Bool) (m : Option MethodMode) (s : Shape) → own_shape (method_self c m) s ≡ s
method_shape true None s = refl
method_shape false None s = refl
method_shape true (Some method_mode.Borrowing) s = refl
method_shape true (Some method_mode.Consuming) s = refl
method_shape true (Some method_mode.Mutating) s = refl
method_shape false (Some method_mode.Borrowing) s = refl
method_shape false (Some method_mode.Consuming) s = refl
method_shape false (Some method_mode.Mutating) s = refl

method_form : (c : Bool) (m : Option MethodMode) → form_by (is_alias (method_self c m)) false c (is_loan (method_self c m))
    ≡ form_for (if is_inout (receiver_mode m) then passing.Inout else if false then passing.Closure else if c then passing.ByValue else if is_borrowing (receiver_mode m) then passing.Borrow else passing.Consume)
method_form true None = refl
method_form false None = refl
method_form true (Some method_mode.Borrowing) = refl
method_form true (Some method_mode.Consuming) = refl
method_form true (Some method_mode.Mutating) = refl
method_form false (Some method_mode.Borrowing) = refl
method_form false (Some method_mode.Consuming) = refl
method_form false (Some method_mode.Mutating) = refl

-- what is passed for parameters of a call
abbrev pub PassedFor : Setting → ℕ → World → List ParamInfo → List Passed → Type 0
PassedFor here n w [] [] = Unit {0}
PassedFor here n w (p ∷ ps) (q ∷ qs) = IsPassed here n w (form_for (passing_of here.types.shape p)) p.ty q × PassedFor here n w ps qs
PassedFor here n w [] (q ∷ qs) = ⊥
PassedFor here n w (p ∷ ps) [] = ⊥

module _ (here : Setting) where
  pub written_form : (b : Binding) (p : ParamInfo) → b.ty ≡ p.ty → b.mode ≡ p.mode → IsWritten p.mode → form here b ≡ form_for (passing_of here.types.shape p)
  written_form b p t m h =
      ap (λ z. form here (record b { ty = z })) t
      ∙ ap (λ z. form here (record b { ty = p.ty; mode = z })) m
      ∙ ap (λ z. form_by z (has_function_type p.ty) (copyable (here.types.shape p.ty)) (is_loan p.mode)) (alias_mode p.mode h)
      ∙ ap (λ z. form_by (is_inout p.mode) z (copyable (here.types.shape p.ty)) (is_loan p.mode)) (function_type p.ty)
      ∙ ap (λ z. form_by (is_inout p.mode) (is_function p.ty) (copyable (here.types.shape p.ty)) z) (loan_mode p.mode h)
      ∙ passed_form (is_inout p.mode) (is_function p.ty) (copyable (here.types.shape p.ty)) (is_borrowing p.mode)

  -- parameters that are written so take it
  pub takes_all : (n : ℕ) (w : World) (j : ℕ) (xs : List ℕ) (ps : List ParamInfo) (qs : List Passed) → ParamsFor here j xs ps → AreWritten ps → PassedFor here n w ps qs → TakesAll here n w j xs qs
  takes_all n w j [] [] [] h r q = tt
  takes_all n w j [] [] (z ∷ zs) h r q = absurd q
  takes_all n w j [] (p ∷ ps) qs h r q = absurd h
  takes_all n w j (x ∷ xs) [] qs h r q = absurd h
  takes_all n w j (x ∷ xs) (p ∷ ps) [] h r q = absurd q
  takes_all n w j (x ∷ xs) (p ∷ ps) (z ∷ zs) h r q =
      let b = (h.0).0 in (
        (
          b,
          (h.0).1,
          (h.0).2,
          ap (λ m. own_shape m (here.types.shape b.ty)) (h.0).4 ∙ written_shape p.mode (here.types.shape b.ty) r.0,
          subst (λ f. IsPassed here n w f b.ty z) (sym (written_form b p (h.0).3 (h.0).4 r.0)) (subst (λ t. IsPassed here n w (form_for (passing_of here.types.shape p)) t z) (sym (h.0).3) q.0),
        ),
        takes_all n w j xs ps zs h.1 r.1 q.1,
      )

module _ (text : Text) (program : Program) (node_type : ℕ → Ty) (outer : ℕ → List ℕ) where
  abbrev here : Setting
  here = setting text program node_type outer

  pub params_for : (j : ℕ) (xs : List ℕ) (ps : List ParamInfo) → ParamsAre text program j xs ps → ParamsFor here j xs ps
  params_for j [] [] h = tt
  params_for j [] (p ∷ ps) h = absurd h
  params_for j (x ∷ xs) [] h = absurd h
  params_for j (x ∷ xs) (p ∷ ps) h = (h.0, params_for j xs ps h.1)

  -- so does `self` of a method
  pub takes_self : (n : ℕ) (w : World) (j t : ℕ) (m : Option MethodMode) (xs : List ℕ) (ps : List ParamInfo) (qs : List Passed)
      → ParamsFor here j xs (self_param text program (method_self (copyable (text.types.shape (type.Named t))) m) t ∷ ps) → AreWritten ps
      → PassedFor here n w (receiver_param m (type.Named t) ∷ ps) qs → TakesAll here n w j xs qs
  takes_self n w j t m [] ps qs h r q = absurd h
  takes_self n w j t m (x ∷ xs) ps [] h r q = absurd q
  takes_self n w j t m (x ∷ xs) ps (z ∷ zs) h r q =
      let b = (h.0).0 in
      let c = copyable (text.types.shape (type.Named t)) in (
        (
          b,
          (h.0).1,
          (h.0).2,
          ap (λ m. own_shape m (text.types.shape b.ty)) (h.0).4 ∙ method_shape c m (text.types.shape b.ty),
          subst (λ f. IsPassed here n w f b.ty z)
              (sym (ap (λ y. form here (record b { ty = y })) (h.0).3 ∙ ap (λ y. form here (record b { ty = type.Named t; mode = y })) (h.0).4 ∙ method_form c m))
              (subst (λ y. IsPassed here n w (form_for (passing_of text.types.shape (receiver_param m (type.Named t)))) y z) (sym (h.0).3) q.0),
        ),
        takes_all here n w j xs ps zs h.1 r q.1,
      )
