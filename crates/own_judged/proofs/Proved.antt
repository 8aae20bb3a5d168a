-- The laws that contracts cite.
use Rattle.std.specs.Prelude.{◌≡◌, ◌⊎◌, Result, Ok, Err}
use Rattle.std.proofs.Common.{refl, sym, ap, ◌∙◌, inl, inr}
use Rattle.own_tree.specs.Source.{File}
use Rattle.own_tree.specs.TypedSource.{Program}
use Rattle.own_judging.specs.Made.{nothing_made, Fault, Found}
use Rattle.own_judging.proofs.Judging.{says_one, fails_one, says_or_fails}
use Rattle.own_judged.specs.Text.{text_of}
use Rattle.own_judged.specs.Typing.{all_bodies, program_of, Typing, IsFalse, as_program, typed}
use Rattle.own_judged.specs.Laws.{TypingIsOne, FaultIsOne, TypedOrRefused, NeverBoth, FindsTyping}

pub typing_is_one : TypingIsOne
typing_is_one file p q a b =
    a.2 ∙ ap (program_of (text_of file) file) (says_one (all_bodies file) nothing_made tt tt a.0 b.0 a.1 b.1).1
    ∙ sym b.2

pub fault_is_one : FaultIsOne
fault_is_one file f g a b = fails_one (all_bodies file) nothing_made f g a b

pub never_both : NeverBoth
never_both file p f a b = says_or_fails (all_bodies file) nothing_made tt a.0 f a.1 b

-- ---- the function

module _ (file : File) where
  abbrev found : Found (Unit {0})
  found = (all_bodies file).run nothing_made

  abbrev typing_is : Program → Result Program Fault
  typing_is p = Ok p

  abbrev fault_is : Fault → Result Program Fault
  fault_is f = Err f

  same_program : (p q : Program) → typing_is p ≡ typing_is q → p ≡ q
  same_program p q e = cc

  same_fault : (f g : Fault) → fault_is f ≡ fault_is g → f ≡ g
  same_fault f g e = cc

  not_both : (p : Program) (f : Fault) → typing_is p ≡ fault_is f → ⊥
  not_both p f e = cc

  is_typing :
      (p : Program) (r : Found (Unit {0})) → found ≡ r → as_program file r ≡ Ok p → Typing file p
  is_typing p (Ok x) at_found e =
      let same = same_program (program_of (text_of file) file x.1) p e in
      (x.1, (all_bodies file).is_so nothing_made tt x.1 at_found, sym same)
  is_typing p (Err f) at_found e = absurd (not_both p f (sym e))

  is_fault : (f : Fault) (r : Found (Unit {0})) → found ≡ r → as_program file r ≡ Err f → IsFalse file f
  is_fault f (Ok x) at_found e = absurd (not_both (program_of (text_of file) file x.1) f e)
  is_fault f (Err g) at_found e = (all_bodies file).is_false nothing_made f (at_found ∙ ap Err (same_fault g f e))

  one_of : (r : Found (Unit {0})) → found ≡ r → ((p : Program) × Typing file p) ⊎ ((f : Fault) × IsFalse file f)
  one_of (Ok x) at_found =
      inl (program_of (text_of file) file x.1, (x.1, (all_bodies file).is_so nothing_made tt x.1 at_found, refl))
  one_of (Err f) at_found = inr (f, (all_bodies file).is_false nothing_made f at_found)

  typing_found : (p : Program) → Typing file p → typed file ≡ Ok p
  unfolding typed
  typing_found p a = ap (as_program file) ((all_bodies file).found nothing_made tt a.0 a.1) ∙ ap Ok (sym a.2)

  fault_found : (f : Fault) → IsFalse file f → typed file ≡ Err f
  unfolding typed
  fault_found f a = ap (as_program file) ((all_bodies file).stopped nothing_made f a)

  found_typing : (p : Program) → typed file ≡ Ok p → Typing file p
  unfolding typed
  found_typing p e = is_typing p found refl e

  found_fault : (f : Fault) → typed file ≡ Err f → IsFalse file f
  unfolding typed
  found_fault f e = is_fault f found refl e

pub typed_or_refused : TypedOrRefused
typed_or_refused file = one_of file (found file) refl

pub finds_typing : FindsTyping
finds_typing = record {
  typing = λ file p. (typing_found file p, found_typing file p);
  fault = λ file f. (fault_found file f, found_fault file f);
}
