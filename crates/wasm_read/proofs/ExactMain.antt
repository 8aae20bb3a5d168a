-- A module has a main exactly where the test for it says so.
use Rattle.std.proofs.Common.{leb, ◌≡◌, ℕ, zero, suc, ◌-◌, ◌<◌, Bool, true, false, cond, eqb, List, [], ◌∷◌, ◌++◌, length, get_or, Option, Some, None, refl, sym, ap, ◌∙◌, arith}
use Rattle.std.specs.Prelude.{◌&&◌, ◌≢◌, ◌||◌, slice_get, is_none}
use Rattle.std.specs.List.{list_any}
use Rattle.std.specs.Str.{bytes_eq}
use Rattle.std.proofs.lemmas.Bool.{eqb-true, leb-true, le-leb, and_parts, and_from, false_from_ne_true}
use Rattle.std.proofs.lemmas.List.{length-append, get_or_append_left}
use Rattle.std.proofs.Math.Seq.{get_or-append_seam}
use Rattle.std.proofs.lemmas.List.Folds.{Any-from_list_any}
use Rattle.std.proofs.lemmas.Option.{slice_get-get_or, slice_get_within}
use Rattle.std.proofs.lemmas.Slice.Eq.{bytes_eq-Decides}
use Rattle.wasm_form.specs.declared.types.ValueType.{ValueType}
use Rattle.wasm_form.specs.declared.types.FunctionType.{FunctionType}
use Rattle.wasm_form.specs.declared.module.ExportKind.{ExportKind}
use Rattle.wasm_form.specs.declared.module.ExportKind.TheVariants as kind
use Rattle.wasm_form.specs.declared.module.Export.{Export}
use Rattle.wasm_form.specs.declared.module.CodeEntry.{CodeEntry}
use Rattle.wasm_form.specs.declared.module.Module.{Module}
use Rattle.wasm_form.specs.Steps.{defined_type, main_in}
use Rattle.wasm_form.specs.Steps as step
use Rattle.wasm_form.specs.Within.{HasMain}
use Rattle.wasm_form.specs.Bytes.{AreItems, IsExport}
use Rattle.wasm_read.specs.Entries.{type_named}
use Rattle.wasm_read.specs.Sections.{is_nothing, is_start, is_main, has_main, is_function, main_name}

-- ---- the type of main

-- the type is of no parameters and no result
record IsOfNothing (o : Option FunctionType) : Type 0 where
  type : FunctionType
  is : o ≡ Some type
  parameters : type.parameters ≡ []
  result : type.result ≡ None

nothing_found : (o : Option FunctionType) → is_nothing o ≡ true → IsOfNothing o
nothing_found None e = absurd cc
nothing_found (Some t) e =
    let p = and_parts (eqb (length t.parameters) 0) (is_none t.result) e in
    record { type = t; is = refl; parameters = no_types t.parameters (eqb-true (length t.parameters) 0 p.0); result = no_type t.result p.1 }
  where
    no_types : (ts : List ValueType) → length ts ≡ 0 → ts ≡ []
    no_types [] e = refl
    no_types (t ∷ ts) e = absurd (omega (arith, e))

    no_type : (r : Option ValueType) → is_none r ≡ true → r ≡ None
    no_type None e = refl
    no_type (Some t) e = absurd cc

nothing_only : (o : Option FunctionType) → IsOfNothing o → is_nothing o ≡ true
nothing_only o h = rw (h.is, h.parameters, h.result) refl

named_is : (m : Module) (k : ℕ) → type_named m.types (slice_get m.functions k) ≡ defined_type m k
named_is m k = by (slice_get m.functions k)
  where
    by : (o : Option ℕ) → type_named m.types o ≡ step.◌>>=◌ o (λ t. slice_get m.types t)
    by None = refl
    by (Some i) = refl

-- ---- the export

-- exported under the name main as a function
abbrev IsNamedMain : Export → Type 0
IsNamedMain e = (bytes_eq e.name main_name ≡ true) × (is_function e.kind ≡ true)

kind_is : (k : ExportKind) → step.is_function k ≡ is_function k
kind_is kind.Function = refl
kind_is kind.Table = refl
kind_is kind.Memory = refl
kind_is kind.Global = refl

main_only : (e : Export) → IsNamedMain e → step.is_main e ≡ true
main_only e h = let k = kind_is e.kind ∙ h.1 in rw (k, h.0) refl

main_found : (e : Export) → step.is_main e ≡ true → IsNamedMain e
main_found e h = go (step.is_function e.kind) refl h
  where
    go : (b : Bool) → step.is_function e.kind ≡ b → cond b (bytes_eq e.name main_name) false ≡ true → IsNamedMain e
    go true k n = (n, sym (kind_is e.kind) ∙ k)
    go false k n = absurd cc

-- a later export has another name than one of those before it
later : (m : Module) (xs before : List Export) (bytes : List ℕ) → AreItems (IsExport m) before xs bytes → (j : ℕ) (d : Export) → j < length before → (k : ℕ) (e : Export) → k < length xs → (get_or before j d).name ≢ (get_or xs k e).name
later m [] before bytes h j d lt k e less = absurd (omega (arith, less))
later m (x ∷ xs) before bytes h j d lt zero e less = h.first.0 j d lt
later m (x ∷ xs) before bytes h j d lt (suc k) e less =
    let l = length-append before (x ∷ []) in
    let same : get_or (before ++ x ∷ []) j d ≡ get_or before j d = get_or_append_left before (x ∷ []) d j lt in
    let other = later m xs (before ++ x ∷ []) h.back h.second j d (omega (arith, l, lt)) k e (omega (arith, less)) in
    λ equal. other (ap (λ (y : Export). y.name) same ∙ equal)

-- so main is the one that is found first
first_main : (m : Module) (xs before : List Export) (bytes : List ℕ) → AreItems (IsExport m) before xs bytes → (k : ℕ) (e : Export) → k < length xs → get_or xs k e ≡ e → IsNamedMain e → main_in xs ≡ Some e.index
first_main m [] before bytes h k e lt is main = absurd (omega (arith, lt))
first_main m (x ∷ xs) before bytes h zero e lt is main =
    let here : step.is_main x ≡ true = ap step.is_main is ∙ main_only e main in
    rw here (ap (λ (y : Export). Some y.index) is)
first_main m (x ∷ xs) before bytes h (suc k) e lt is main =
    let l = length-append before (x ∷ []) in
    let last : get_or (before ++ x ∷ []) (length before) x ≡ x = get_or-append_seam before x [] x in
    let differ = later m xs (before ++ x ∷ []) h.back h.second (length before) x (omega (arith, l)) k e (omega (arith, lt)) in
    let other : step.is_main x ≡ false = false_from_ne_true (step.is_main x) (λ yes.
    let mine = (bytes_eq-Decides x.name main_name).0 (main_found x yes).0 in
    let its = (bytes_eq-Decides e.name main_name).0 main.0 in
    differ (ap (λ (y : Export). y.name) last ∙ mine ∙ sym its ∙ sym (ap (λ (y : Export). y.name) is))) in
    rw other (first_main m xs (before ++ x ∷ []) h.back h.second k e (omega (arith, lt)) is main)

or_true : (b : Bool) → (b || true) ≡ true
or_true true = refl
or_true false = refl

-- a main that is found is exported
some_main : (m : Module) (index : ℕ) → is_start m index ≡ true → (xs : List Export) → main_in xs ≡ Some index → list_any (is_main m) xs ≡ true
some_main m index starts [] e = absurd cc
some_main m index starts (x ∷ xs) e = go (step.is_main x) refl e (some_main m index starts xs)
  where
    go : (b : Bool) → step.is_main x ≡ b → cond b (Some x.index) (main_in xs) ≡ Some index → (main_in xs ≡ Some index → list_any (is_main m) xs ≡ true) → (is_main m x || list_any (is_main m) xs) ≡ true
    go true is e others =
        let main = main_found x is in
        let same : x.index ≡ index = cc in
        let start : is_start m x.index ≡ true = ap (is_start m) same ∙ starts in
        let here : is_main m x ≡ true = rw (main.0, main.1, start) refl in
        rw here refl
    go false is e others = let found = others e in rw found (or_true (is_main m x))

-- ---- both ways

pub main_is_found : (m : Module) (bytes : List ℕ) → AreItems (IsExport m) [] m.exports bytes → length m.codes ≡ length m.functions → has_main m ≡ true → HasMain m
main_is_found m bytes items codes h =
    let any = Any-from_list_any (is_main m) m.exports h in
    let k = any.0 in
    let e = any.1 in
    let number = e.index - length m.imports in
    let parts = and_parts (bytes_eq e.name main_name) (is_function e.kind && is_start m e.index) any.4 in
    let rest = and_parts (is_function e.kind) (is_start m e.index) parts.1 in
    let start = and_parts (leb (length m.imports) e.index) (is_nothing (type_named m.types (slice_get m.functions number))) rest.1 in
    let nothing = nothing_found (defined_type m number) (ap is_nothing (sym (named_is m number)) ∙ start.1) in
    let below : number < length m.codes = let lt = defined_below m number nothing.type nothing.is in omega (arith, lt, codes) in
    let code = slice_get-get_or m.codes number no_code below in
    record {
      index = e.index;
      type = nothing.type;
      code = get_or m.codes number no_code;
      exported = first_main m m.exports [] bytes items k e any.2 any.3 (parts.0, rest.0);
      defined = leb-true (length m.imports) e.index start.0;
      has_type = nothing.is;
      has_code = code;
      parameters = nothing.parameters;
      result = nothing.result;
    }
  where
    no_code : CodeEntry
    no_code = record { locals = []; body = [] }

    defined_below : (m : Module) (n : ℕ) (t : FunctionType) → defined_type m n ≡ Some t → n < length m.functions
    defined_below m n t e = go (slice_get m.functions n) refl e
      where
        go : (o : Option ℕ) → slice_get m.functions n ≡ o → step.◌>>=◌ o (λ i. slice_get m.types i) ≡ Some t → n < length m.functions
        go None is e = absurd cc
        go (Some i) is e = slice_get_within m.functions n i is

pub main_is_read : (m : Module) → HasMain m → has_main m ≡ true
main_is_read m h =
    let number = h.index - length m.imports in
    let nothing : is_nothing (type_named m.types (slice_get m.functions number)) ≡ true = ap is_nothing (named_is m number) ∙ nothing_only (defined_type m number) (record { type = h.type; is = h.has_type; parameters = h.parameters; result = h.result }) in
    let start : is_start m h.index ≡ true = and_from _ _ (le-leb (length m.imports) h.index h.defined) nothing in
    some_main m h.index start m.exports h.exported
