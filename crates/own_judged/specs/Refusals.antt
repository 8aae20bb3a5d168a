-- What the answers of a checker say: which judgement is false, and the form that is missing, written as a pattern.
use Rattle.std.specs.Prelude.{◌≡◌, ℕ, true, false, List, [], ◌∷◌, ◌++◌, Option, Some, None, Result, Ok, Err, slice_get, codes}
use Rattle.std.specs.Fmt.{signed_decimal}
use Rattle.own_tree.specs.declared.place.Ty.{Ty}
use Rattle.own_tree.specs.Source.{File}
use Rattle.own_tree.specs.TypedSource.{TPat, any, bind, of_case, of_number, of_truth, TPats, no_pats, pat}
use Rattle.own_shapes.specs.declared.info.CaseInfo.{CaseInfo}
use Rattle.own_shapes.specs.Types.{Types, types_of}
use Rattle.own_calls.specs.declared.error.TypeError.{TypeError}
use Rattle.own_calls.specs.declared.error.TypeError.TheVariants as type_error
use Rattle.own_judging.specs.Made.{Made, broken, uncovered, Found}
use Rattle.own_judged.specs.Typing.{IsFalse}

-- ---- a missing form: `.name`, `.name(p, p)`, `true`, `false`, a number or `_`

abbrev pub case_name : Option CaseInfo → List ℕ
case_name None = []
case_name (Some c) = c.name

abbrev pub case_payloads : Option CaseInfo → List Ty
case_payloads None = []
case_payloads (Some c) = c.payloads

module _ (types : Types) where
  abbrev mutual
    -- of that type
    pub form_text : Ty → TPat → List ℕ
    form_text ty any = codes "_"
    form_text ty (bind x) = codes "_"
    form_text ty (of_number n) = signed_decimal n
    form_text ty (of_truth true) = codes "true"
    form_text ty (of_truth false) = codes "false"
    form_text ty (of_case k ps) =
        let c = slice_get (types.cases ty) k in codes "." ++ case_name c ++ parts_text (case_payloads c) ps

    -- the payloads of a case, by their types
    pub parts_text : List Ty → TPats → List ℕ
    parts_text [] ps = []
    parts_text (ty ∷ tys) no_pats = []
    parts_text (ty ∷ tys) (pat p ps) = codes "(" ++ form_text ty p ++ more_text tys ps

    -- those behind the first
    pub more_text : List Ty → TPats → List ℕ
    more_text [] ps = codes ")"
    more_text (ty ∷ tys) no_pats = codes ")"
    more_text (ty ∷ tys) (pat p ps) = codes ", " ++ form_text ty p ++ more_text tys ps

-- ---- errors

-- The error names the judgement that is false; memory may be refused of any text.
abbrev pub Refuses : File → TypeError → Type 0
Refuses file (type_error.BadType code at) = IsFalse file (broken code at)
Refuses file (type_error.Uncovered at form) =
    (ty : Ty) × (p : TPat) × IsFalse file (uncovered at ty p) × (form ≡ form_text (types_of file) ty p)
Refuses file type_error.Memory = Unit {0}

-- ---- what the functions of a checker give for a part of a text

abbrev pub Stops : {A : Type 0} → Types → TypeError → Found A → Type 0
Stops types (type_error.BadType code at) found = found ≡ Err (broken code at)
Stops types (type_error.Uncovered at form) found =
    (ty : Ty) × (p : TPat) × (found ≡ Err (uncovered at ty p)) × (form ≡ form_text types ty p)
Stops types type_error.Memory found = Unit {0}

-- What is given is what the rule says, with what has been made by then; an error is the judgement that is false.
abbrev pub Gives : {X A : Type 0} → Types → (X → A) → Result X TypeError → Made → Found A → Type 0
Gives types view (Ok x) s found = found ≡ Ok (view x, s)
Gives types view (Err e) s found = Stops types e found
