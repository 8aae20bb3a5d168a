-- A walk notes the parts of what it goes over, one after the other.
use Rattle.std.proofs.Common.{◌≡◌, ℕ, suc, Bool, true, false, List, [], ◌∷◌, ◌++◌, map, length, Option, Some, None, Result, Ok, Err, IfOk, refl, sym, ap, ◌∙◌}
use Rattle.std.specs.Prelude.{if◌then◌else◌}
use Rattle.std.specs.Str.{bytes_eq}
use Rattle.own_tree.specs.declared.span.Span.{Span}
use Rattle.own_tree.specs.declared.tree.CaseItem.{CaseItem}
use Rattle.own_tree.specs.declared.tree.FunctionParameter.{FunctionParameter}
use Rattle.own_tree.specs.declared.tree.Name.{Name}
use Rattle.own_tree.specs.declared.tree.Parameter.{Parameter}
use Rattle.own_tree.specs.declared.tree.ParameterType.{ParameterType}
use Rattle.own_tree.specs.declared.tree.ParameterType.TheVariants as written_type
use Rattle.own_tree.specs.declared.tree.PassingMode.{PassingMode}
use Rattle.own_tree.specs.declared.tree.ResultType.{ResultType}
use Rattle.own_tree.specs.Source.{Pats, no_pats, pat, Exp, number, text, truth, path, implicit_member, parenthesized, consumed, prefix, binary, choice, member, call, call_closing, call_closure, Given, value, address, closing, Args, no_args, arg, Clo, closure, Stm, let_in, declare, assign, ignore, discard_self, if_then, if_else, else_if, loop_while, loop_repeat, loop_for, switch, leave, go_on, return_none, return_value, evaluate, Stms, no_stms, stm, When, case_of, case_where, default, Clauses, no_clauses, clause, Blk, block, Fun, Member, field, initializer, deinitializer, method, cases, Decl, struct_of, enum_of, function, File}
use Rattle.own_survey.specs.declared.declarations.Home.{Home}
use Rattle.own_survey.specs.declared.survey.Survey.{Survey}
use Rattle.own_survey.specs.declared.survey.Written.{Written}
use Rattle.own_survey.specs.declared.survey.Written.TheVariants as written
use Rattle.own_survey.specs.declared.names.TypeNames.{TypeNames}
use Rattle.own_survey.specs.Judgements.{nothing, note, notes, written_name}
use Rattle.own_survey.specs.Names.{Knows, written_in}
use Rattle.own_shapes.specs.Spans.{opening}
use Rattle.own_survey.specs.Parts.{Part, a_body, a_case, a_print, a_content, a_lifetime, a_method, a_top, a_main, no_main, a_scope, a_type, a_parameter, arg_count, print_call, written_part, pat_names, local_names, closure_names, pats_parts, exp_parts, given_parts, args_parts, closure_parts, stm_parts, stms_parts, when_parts, clauses_parts, block_parts, result_parts, parts_of_result, inner_parts, parameter_type_parts, parameters_parts, parameter_names, taking_parts, function_parts, payload_parts, case_parts, member_parts, main_parts, declared_parts, last_parts, file_parts, declared_name, has_main, member_names, struct_home, enum_home, word_of, MAIN}
use Rattle.own_survey.specs.TextWalks.{home_after, parameter_walk, inner_walk, given_result_walk, parameter_type_walk, parameters_walk, taking_walk, function_walk, content_walk, payloads_walk, cases_walk, members_walk, main_walk, declarations_walk, file_walk}
use Rattle.own_shapes.specs.Types.{declared_types}
use Rattle.own_survey.specs.Walks.{scope_walk, pats_walk, exp_walk, given_walk, args_walk, closure_walk, stm_walk, stms_walk, when_walk, clauses_walk, block_walk}
use Rattle.own_survey.proofs.Known.{written_known}

module _ (w : List ℕ → Written) where
  -- a walk that notes these parts
  record Noted (f : Survey → Survey) (ps : List Part) : Type 0 where
    is : (v : Survey) → f v ≡ notes w v ps

  both : (a b : List Part) (v : Survey) → notes w v (a ++ b) ≡ notes w (notes w v a) b
  both [] b v = refl
  both (p ∷ a) b v = both a b (note w v p)

  nil : Noted (λ v. v) []
  nil = record { is = λ v. refl }

  same : (ps : List Part) → Noted (λ v. notes w v ps) ps
  same ps = record { is = λ v. refl }

  seq : {f g : Survey → Survey} {a b : List Part} → Noted f a → Noted g b → Noted (λ v. g (f v)) (a ++ b)
  seq {f} {g} {a} {b} nf ng = record { is = λ v. ng.is (f v) ∙ ap (λ x. notes w x b) (nf.is v) ∙ sym (both a b v) }

  -- one part before others
  after : {f : Survey → Survey} {ps : List Part} (p : Part) → Noted f ps → Noted (λ v. f (note w v p)) (p ∷ ps)
  after p n = record { is = λ v. n.is (note w v p) }

  pats_noted : (ps : Pats) → Noted (pats_walk ps) (pats_parts ps)
  pats_noted no_pats = nil
  pats_noted (pat p ps) = after (a_scope (pat_names p)) (pats_noted ps)

  mutual
    exp_noted : (e : Exp) → Noted (exp_walk w e) (exp_parts e)
    exp_noted (number s negative n) = nil
    exp_noted (text s t) = nil
    exp_noted (truth s b) = nil
    exp_noted (path p) = nil
    exp_noted (implicit_member s name) = nil
    exp_noted (parenthesized s e) = exp_noted e
    exp_noted (consumed s p) = nil
    exp_noted (prefix s o e) = exp_noted e
    exp_noted (binary s o mark a b) = seq (exp_noted a) (exp_noted b)
    exp_noted (choice s c a b) = seq (seq (exp_noted c) (exp_noted a)) (exp_noted b)
    exp_noted (member s e name) = exp_noted e
    exp_noted (call s callee args) = seq (seq (same (print_call callee (arg_count args))) (exp_noted callee)) (args_noted args)
    exp_noted (call_closing s callee args c) = seq (seq (seq (same (print_call callee (suc (arg_count args)))) (exp_noted callee)) (args_noted args)) (closure_noted c)
    exp_noted (call_closure s callee c) = seq (seq (same (print_call callee 1)) (exp_noted callee)) (closure_noted c)

    given_noted : (g : Given) → Noted (given_walk w g) (given_parts g)
    given_noted (value e) = exp_noted e
    given_noted (address s p) = nil
    given_noted (closing c) = closure_noted c

    args_noted : (es : Args) → Noted (args_walk w es) (args_parts es)
    args_noted no_args = nil
    args_noted (arg l g es) = seq (given_noted g) (args_noted es)

    closure_noted : (c : Clo) → Noted (closure_walk w c) (closure_parts c)
    closure_noted (closure s names ss) = after (a_body (opening s) (length names)) (after (a_scope (closure_names names)) (after (a_scope (local_names ss)) (stms_noted ss)))

    stm_noted : (s : Stm) → Noted (stm_walk w s) (stm_parts s)
    stm_noted (let_in s k name written e) = seq (same (written_part written)) (exp_noted e)
    stm_noted (declare s k name written) = same (written_part written)
    stm_noted (assign s p o mark e) = exp_noted e
    stm_noted (ignore s written e) = seq (same (written_part written)) (exp_noted e)
    stm_noted (discard_self s) = nil
    stm_noted (if_then s c a) = seq (exp_noted c) (block_noted a)
    stm_noted (if_else s c a b) = seq (seq (exp_noted c) (block_noted a)) (block_noted b)
    stm_noted (else_if s c a other) = seq (seq (exp_noted c) (block_noted a)) (stm_noted other)
    stm_noted (loop_while s c a) = seq (exp_noted c) (block_noted a)
    stm_noted (loop_repeat s a c) = seq (block_noted a) (exp_noted c)
    stm_noted (loop_for s x low o mark high a) = seq (seq (exp_noted low) (exp_noted high)) (block_noted a)
    stm_noted (switch s e cs) = seq (exp_noted e) (clauses_noted cs)
    stm_noted (leave s) = nil
    stm_noted (go_on s) = nil
    stm_noted (return_none s) = nil
    stm_noted (return_value s e) = exp_noted e
    stm_noted (evaluate e) = exp_noted e

    stms_noted : (ss : Stms) → Noted (stms_walk w ss) (stms_parts ss)
    stms_noted no_stms = nil
    stms_noted (stm s ss) = seq (stm_noted s) (stms_noted ss)

    when_noted : (h : When) → Noted (when_walk w h) (when_parts h)
    when_noted (case_of ps) = pats_noted ps
    when_noted (case_where p e) = after (a_scope (pat_names p)) (exp_noted e)
    when_noted default = nil

    clauses_noted : (cs : Clauses) → Noted (clauses_walk w cs) (clauses_parts cs)
    clauses_noted no_clauses = nil
    clauses_noted (clause s h ss cs) = seq (seq (when_noted h) (after (a_scope (local_names ss)) (stms_noted ss))) (clauses_noted cs)

    block_noted : (b : Blk) → Noted (block_walk w b) (block_parts b)
    block_noted (block s ss) = after (a_scope (local_names ss)) (stms_noted ss)

  -- ---- declarations

  result_noted : (r : Option ResultType) → Noted (given_result_walk w r) (parts_of_result r)
  result_noted None = nil
  result_noted (Some r) = same (result_parts r)

  -- the type of a parameter, and its modifier
  parameter_noted : {f : Survey → Survey} {ps : List Part} (s : Span) (mode : Option PassingMode) (n : Name) → Noted f ps → Noted (λ v. f (parameter_walk w s mode n v)) (a_type n ∷ a_parameter s mode n ∷ ps)
  parameter_noted s mode n more = after (a_type n) (after (a_parameter s mode n) more)

  inner_noted : (ps : List FunctionParameter) → Noted (inner_walk w ps) (inner_parts ps)
  inner_noted [] = nil
  inner_noted (p ∷ ps) = parameter_noted p.span p.mode p.name (inner_noted ps)

  parameter_type_noted : (t : ParameterType) → Noted (parameter_type_walk w t) (parameter_type_parts t)
  parameter_type_noted (written_type.Named s mode name) = parameter_noted s mode name nil
  parameter_type_noted (written_type.Function s ps r) = seq (inner_noted ps) (same (result_parts r))

  parameters_noted : (ps : List Parameter) → Noted (parameters_walk w ps) (parameters_parts ps)
  parameters_noted [] = nil
  parameters_noted (p ∷ ps) = seq (parameter_type_noted p.written) (parameters_noted ps)

  taking_noted : (at : Span) (ps : List Parameter) → Noted (taking_walk w at ps) (taking_parts at ps)
  taking_noted at ps = after (a_body at (length ps)) (after (a_scope (parameter_names ps)) (parameters_noted ps))

  function_noted : (f : Fun) → Noted (function_walk w f) (function_parts f)
  function_noted f = seq (seq (taking_noted f.name.span f.parameters) (result_noted f.result)) (block_noted f.body)

  -- the type of a stored property or a payload
  content_noted : {f : Survey → Survey} {ps : List Part} (noncopyable : Bool) (n : Name) → Noted f ps → Noted (λ v. f (content_walk w noncopyable n v)) (a_type n ∷ a_content noncopyable n ∷ ps)
  content_noted noncopyable n more = after (a_type n) (after (a_content noncopyable n) more)

  payloads_noted : (noncopyable : Bool) (ns : List Name) → Noted (payloads_walk w noncopyable ns) (payload_parts noncopyable ns)
  payloads_noted noncopyable [] = nil
  payloads_noted noncopyable (n ∷ ns) = content_noted noncopyable n (payloads_noted noncopyable ns)

  cases_noted : (noncopyable : Bool) (cs : List CaseItem) → Noted (cases_walk w noncopyable cs) (case_parts noncopyable cs)
  cases_noted noncopyable [] = nil
  cases_noted noncopyable (c ∷ cs) = seq (after (a_case c.name.span (length c.payloads)) (payloads_noted noncopyable c.payloads)) (cases_noted noncopyable cs)

  members_noted : (h : Home) (ms : List Member) → Noted (members_walk w h ms) (member_parts h ms)
  members_noted h [] = nil
  members_noted h (field f ∷ ms) = content_noted h.noncopyable f.written (members_noted h ms)
  members_noted h (initializer s ps b ∷ ms) =
      seq (seq (after (a_lifetime h.takes_init (word_of 4 s)) (taking_noted (word_of 4 s) ps)) (block_noted b)) (members_noted (home_after (initializer s ps b) h) ms)
  members_noted h (deinitializer s b ∷ ms) =
      seq (after (a_lifetime h.takes_deinit (word_of 6 s)) (after (a_body (word_of 6 s) 0) (block_noted b))) (members_noted (home_after (deinitializer s b) h) ms)
  members_noted h (method s mode f ∷ ms) = seq (after (a_method h.noncopyable s mode) (function_noted f)) (members_noted h ms)
  members_noted h (cases s cs ∷ ms) = seq (cases_noted h.noncopyable cs) (members_noted h ms)

  main_noted : (f : Fun) → Noted (main_walk f) (main_parts f)
  main_noted f = record {
    is = λ v.
        (let P : Bool → Type 0 = λ b. bytes_eq f.name.text MAIN ≡ b → main_walk f v ≡ notes w v (main_parts f) in
        elim (bytes_eq f.name.text MAIN) as P [ true ↦ λ e. rw e refl | false ↦ λ e. rw e refl ] refl);
  }

  declarations_noted : (ds : List Decl) → Noted (declarations_walk w ds) (declared_parts ds)
  declarations_noted [] = nil
  declarations_noted (struct_of s name noncopyable ms ∷ ds) = seq (after (a_top name) (after (a_scope (member_names ms)) (members_noted (struct_home noncopyable) ms))) (declarations_noted ds)
  declarations_noted (enum_of s name noncopyable ms ∷ ds) = seq (after (a_top name) (after (a_scope (member_names ms)) (members_noted (enum_home noncopyable) ms))) (declarations_noted ds)
  declarations_noted (function f ∷ ds) = seq (seq (after (a_top f.name) (main_noted f)) (function_noted f)) (declarations_noted ds)

  -- what a walk over a whole text notes
  pub file_noted : (file : File) → file_walk w file ≡ notes w nothing (file_parts file)
  file_noted file =
      let v = scope_walk (map declared_name file.declarations) nothing in
      let walked = declarations_noted file.declarations in
      let P : Bool → Type 0 = λ b. has_main file.declarations ≡ b → file_walk w file ≡ notes w v (declared_parts file.declarations ++ last_parts file) in
      elim (has_main file.declarations) as P [
        | true ↦ λ e. rw e (walked.is v ∙ sym (both (declared_parts file.declarations) [] v))
        | false ↦ λ e. rw e (ap (λ x. notes w x (no_main file.main ∷ [])) (walked.is v) ∙ sym (both (declared_parts file.declarations) (no_main file.main ∷ []) v))
      ] refl

-- ---- what names name

-- the same, with names that name the same
note_same : (f g : List ℕ → Written) → ((n : List ℕ) → f n ≡ g n) → (v : Survey) (p : Part) → note f v p ≡ note g v p
note_same f g e v (a_body at n) = refl
note_same f g e v (a_case at n) = refl
note_same f g e v (a_print at n) = refl
note_same f g e v (a_type n) = rw (e n.text) refl
note_same f g e v (a_scope ns) = refl
note_same f g e v (a_content noncopyable n) = rw (e n.text) refl
note_same f g e v (a_lifetime allowed at) = refl
note_same f g e v (a_parameter s mode n) = rw (e n.text) refl
note_same f g e v (a_method noncopyable s mode) = refl
note_same f g e v (a_top n) = refl
note_same f g e v (a_main plain at) = refl
note_same f g e v (no_main at) = refl

notes_same : (f g : List ℕ → Written) → ((n : List ℕ) → f n ≡ g n) → (v : Survey) (ps : List Part) → notes f v ps ≡ notes g v ps
notes_same f g e v [] = refl
notes_same f g e v (p ∷ ps) = ap (λ x. notes f x ps) (note_same f g e v p) ∙ notes_same f g e (note g v p) ps

-- the parts of a text, judged by its own types
pub text_noted : (names : TypeNames) (file : File) → Knows names.types.entries (declared_types file.declarations)
    → file_walk (written_in names) file ≡ notes (written_name (declared_types file.declarations)) nothing (file_parts file)
text_noted names file knows =
    file_noted (written_in names) file ∙ notes_same (written_in names) (written_name (declared_types file.declarations)) (written_known names (declared_types file.declarations) knows) nothing (file_parts file)

pub if_ok : {A E : Type 0} (r : Result A E) (P Q : A → Type 0) → ((x : A) → P x → Q x) → IfOk r P → IfOk r Q
if_ok (Ok x) P Q f h = f x h
if_ok (Err e) P Q f h = tt
