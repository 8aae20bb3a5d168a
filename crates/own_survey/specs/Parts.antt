-- What a text has that is counted and judged before its bodies are typed, part by part, in order of the text.
use Rattle.std.specs.Prelude.{ℕ, suc, ◌+◌, min, Bool, true, false, not, ◌&&◌, if◌then◌else◌, List, [], ◌∷◌, ◌++◌, length, map, Option, Some, None, codes}
use Rattle.std.specs.Str.{bytes_eq}
use Rattle.own_tree.specs.declared.span.Span.{Span}
use Rattle.own_tree.specs.declared.tree.CaseItem.{CaseItem}
use Rattle.own_tree.specs.declared.tree.ClosureName.{ClosureName}
use Rattle.own_tree.specs.declared.tree.ClosureName.TheVariants as bound
use Rattle.own_tree.specs.declared.tree.FunctionParameter.{FunctionParameter}
use Rattle.own_tree.specs.declared.tree.MethodMode.{MethodMode}
use Rattle.own_tree.specs.declared.tree.Name.{Name}
use Rattle.own_tree.specs.declared.tree.Parameter.{Parameter}
use Rattle.own_tree.specs.declared.tree.ParameterType.{ParameterType}
use Rattle.own_tree.specs.declared.tree.ParameterType.TheVariants as written
use Rattle.own_tree.specs.declared.tree.PassingMode.{PassingMode}
use Rattle.own_tree.specs.declared.tree.ResultType.{ResultType}
use Rattle.own_tree.specs.declared.tree.ResultType.TheVariants as result
use Rattle.own_tree.specs.declared.tree.Root.{Root}
use Rattle.own_tree.specs.declared.tree.Root.TheVariants as root
use Rattle.own_tree.specs.Source.{LetPat, let_any, let_bind, let_case, let_number, let_truth, LetPats, no_let_pats, let_pat, Pat, any, bind, bind_case, on_case, on_number, on_truth, Pats, no_pats, pat, Exp, number, text, truth, path, implicit_member, parenthesized, consumed, prefix, binary, choice, member, call, call_closing, call_closure, Given, value, address, closing, Args, no_args, arg, Clo, closure, Stm, let_in, declare, assign, ignore, discard_self, if_then, if_else, else_if, loop_while, loop_repeat, loop_for, switch, leave, go_on, return_none, return_value, evaluate, Stms, no_stms, stm, When, case_of, case_where, default, Clauses, no_clauses, clause, Blk, block, Fun, Member, field, initializer, deinitializer, method, cases, Decl, struct_of, enum_of, function, File}
use Rattle.own_survey.specs.declared.declarations.Home.{Home}
use Rattle.own_shapes.specs.Spans.{opening}
use Rattle.own_shapes.specs.Types.{is_empty}

pub data Part : Type 0 where
  -- a body at its place, with the number of its parameters (M6, M7)
  a_body : Span → ℕ → Part
  -- a case, with the number of its payloads (M7)
  a_case : Span → ℕ → Part
  -- the word `print` of a call, with the number of its items (M7)
  a_print : Span → ℕ → Part
  -- the written name of a type (T01)
  a_type : Name → Part
  -- names that have to be different (T02)
  a_scope : List Name → Part
  -- the written type of a stored property or a payload, and whether it stands in a noncopyable type (T04)
  a_content : Bool → Name → Part
  -- an `init` or a `deinit`, and whether it may stand there (T05)
  a_lifetime : Bool → Span → Part
  -- the type of a parameter, with its modifier (T06)
  a_parameter : Span → Option PassingMode → Name → Part
  -- the modifier of a method, and whether its type is noncopyable (T07)
  a_method : Bool → Span → Option MethodMode → Part
  -- a name at the top (T08)
  a_top : Name → Part
  -- `func main`, and whether it takes nothing and gives nothing (T08)
  a_main : Bool → Span → Part
  -- the last `main()` of a text without `func main` (T08)
  no_main : Span → Part

-- ---- the names of scopes

abbrev pub one_name : Option Name → List Name
one_name None = []
one_name (Some n) = n ∷ []

-- the names before the `in` of a closure, of which a `_` has none to look up
abbrev pub bound_name : ClosureName → List Name
bound_name (bound.Any s) = []
bound_name (bound.Bind n) = n ∷ []

abbrev pub closure_names : List ClosureName → List Name
closure_names [] = []
closure_names (n ∷ ns) = bound_name n ++ closure_names ns

-- what statements declare in their own scope
abbrev pub local_name : Stm → List Name
local_name (let_in s k name written e) = name ∷ []
local_name (declare s k name written) = one_name name
local_name (assign s p o mark e) = []
local_name (ignore s written e) = []
local_name (discard_self s) = []
local_name (if_then s c a) = []
local_name (if_else s c a b) = []
local_name (else_if s c a other) = []
local_name (loop_while s c a) = []
local_name (loop_repeat s a c) = []
local_name (loop_for s x low o mark high a) = []
local_name (switch s e cs) = []
local_name (leave s) = []
local_name (go_on s) = []
local_name (return_none s) = []
local_name (return_value s e) = []
local_name (evaluate e) = []

abbrev pub local_names : Stms → List Name
local_names no_stms = []
local_names (stm s ss) = local_name s ++ local_names ss

-- what a pattern binds
abbrev mutual
  pub let_names : LetPat → List Name
  let_names (let_any s) = []
  let_names (let_bind n) = n ∷ []
  let_names (let_case s n ps) = all_let_names ps
  let_names (let_number s negative n) = []
  let_names (let_truth s b) = []

  pub all_let_names : LetPats → List Name
  all_let_names no_let_pats = []
  all_let_names (let_pat p ps) = let_names p ++ all_let_names ps

abbrev mutual
  pub pat_names : Pat → List Name
  pat_names (any s) = []
  pat_names (bind s n) = n ∷ []
  pat_names (bind_case s p) = let_names p
  pat_names (on_case s n ps) = all_pat_names ps
  pat_names (on_number s negative n) = []
  pat_names (on_truth s b) = []

  pub all_pat_names : Pats → List Name
  all_pat_names no_pats = []
  all_pat_names (pat p ps) = pat_names p ++ all_pat_names ps

-- each pattern of a clause is a scope of its own
abbrev pub pats_parts : Pats → List Part
pats_parts no_pats = []
pats_parts (pat p ps) = a_scope (pat_names p) ∷ pats_parts ps

-- ---- expressions, statements and blocks

abbrev pub written_part : Option Name → List Part
written_part None = []
written_part (Some n) = a_type n ∷ []

-- a word of so many bytes that begins a declaration
abbrev pub word_of : ℕ → Span → Span
word_of bytes s = record { start = s.start; end = min (s.start + bytes) s.end }

abbrev pub arg_count : Args → ℕ
arg_count no_args = 0
arg_count (arg label given args) = suc (arg_count args)

abbrev pub print_root : Root → List Name → Span → ℕ → List Part
print_root (root.Named name) [] span items = if bytes_eq name.text (codes "print") then a_print span items ∷ [] else []
print_root (root.Named name) (f ∷ fs) span items = []
print_root (root.SelfWord s) fields span items = []

-- a call by the bare name `print`, also where that name is hidden
abbrev pub print_call : Exp → ℕ → List Part
print_call (path p) items = print_root p.root p.fields p.span items
print_call callee items = []

abbrev mutual
  pub exp_parts : Exp → List Part
  exp_parts (number s negative n) = []
  exp_parts (text s t) = []
  exp_parts (truth s b) = []
  exp_parts (path p) = []
  exp_parts (implicit_member s name) = []
  exp_parts (parenthesized s e) = exp_parts e
  exp_parts (consumed s p) = []
  exp_parts (prefix s o e) = exp_parts e
  exp_parts (binary s o mark a b) = exp_parts a ++ exp_parts b
  exp_parts (choice s c a b) = exp_parts c ++ exp_parts a ++ exp_parts b
  exp_parts (member s e name) = exp_parts e
  exp_parts (call s callee args) = print_call callee (arg_count args) ++ exp_parts callee ++ args_parts args
  exp_parts (call_closing s callee args c) =
      print_call callee (suc (arg_count args)) ++ exp_parts callee ++ args_parts args ++ closure_parts c
  exp_parts (call_closure s callee c) = print_call callee 1 ++ exp_parts callee ++ closure_parts c

  pub given_parts : Given → List Part
  given_parts (value e) = exp_parts e
  given_parts (address s p) = []
  given_parts (closing c) = closure_parts c

  pub args_parts : Args → List Part
  args_parts no_args = []
  args_parts (arg label given args) = given_parts given ++ args_parts args

  pub closure_parts : Clo → List Part
  closure_parts (closure s names ss) = a_body (opening s) (length names) ∷ a_scope (closure_names names) ∷ a_scope (local_names ss) ∷ stms_parts ss

  pub stm_parts : Stm → List Part
  stm_parts (let_in s k name written e) = written_part written ++ exp_parts e
  stm_parts (declare s k name written) = written_part written
  stm_parts (assign s p o mark e) = exp_parts e
  stm_parts (ignore s written e) = written_part written ++ exp_parts e
  stm_parts (discard_self s) = []
  stm_parts (if_then s c a) = exp_parts c ++ block_parts a
  stm_parts (if_else s c a b) = exp_parts c ++ block_parts a ++ block_parts b
  stm_parts (else_if s c a other) = exp_parts c ++ block_parts a ++ stm_parts other
  stm_parts (loop_while s c a) = exp_parts c ++ block_parts a
  stm_parts (loop_repeat s a c) = block_parts a ++ exp_parts c
  stm_parts (loop_for s x low o mark high a) = exp_parts low ++ exp_parts high ++ block_parts a
  stm_parts (switch s e cs) = exp_parts e ++ clauses_parts cs
  stm_parts (leave s) = []
  stm_parts (go_on s) = []
  stm_parts (return_none s) = []
  stm_parts (return_value s e) = exp_parts e
  stm_parts (evaluate e) = exp_parts e

  pub stms_parts : Stms → List Part
  stms_parts no_stms = []
  stms_parts (stm s ss) = stm_parts s ++ stms_parts ss

  pub when_parts : When → List Part
  when_parts (case_of ps) = pats_parts ps
  when_parts (case_where p e) = a_scope (pat_names p) ∷ exp_parts e
  when_parts default = []

  pub clauses_parts : Clauses → List Part
  clauses_parts no_clauses = []
  clauses_parts (clause s w ss cs) = when_parts w ++ a_scope (local_names ss) ∷ stms_parts ss ++ clauses_parts cs

  pub block_parts : Blk → List Part
  block_parts (block s ss) = a_scope (local_names ss) ∷ stms_parts ss

-- ---- declarations

abbrev pub VOID : List ℕ
VOID = codes "Void"

-- The result `Void` is none, as `()` is.
abbrev pub gives_value : ResultType → Bool
gives_value (result.Named name) = not (bytes_eq name.text VOID)
gives_value (result.Empty s) = false

abbrev pub result_parts : ResultType → List Part
result_parts (result.Named name) = if bytes_eq name.text VOID then [] else a_type name ∷ []
result_parts (result.Empty s) = []

abbrev pub parts_of_result : Option ResultType → List Part
parts_of_result None = []
parts_of_result (Some r) = result_parts r

-- a parameter inside a function type
abbrev pub inner_parts : List FunctionParameter → List Part
inner_parts [] = []
inner_parts (p ∷ ps) = a_type p.name ∷ a_parameter p.span p.mode p.name ∷ inner_parts ps

abbrev pub parameter_type_parts : ParameterType → List Part
parameter_type_parts (written.Named s mode name) = a_type name ∷ a_parameter s mode name ∷ []
parameter_type_parts (written.Function s ps r) = inner_parts ps ++ result_parts r

abbrev pub parameters_parts : List Parameter → List Part
parameters_parts [] = []
parameters_parts (p ∷ ps) = parameter_type_parts p.written ++ parameters_parts ps

abbrev pub parameter_names : List Parameter → List Name
parameter_names ps = map (λ p. p.name) ps

-- what a body takes: its parameters are a scope
abbrev pub taking_parts : Span → List Parameter → List Part
taking_parts at ps = a_body at (length ps) ∷ a_scope (parameter_names ps) ∷ parameters_parts ps

abbrev pub function_parts : Fun → List Part
function_parts f = taking_parts f.name.span f.parameters ++ parts_of_result f.result ++ block_parts f.body

-- the payloads of a case
abbrev pub payload_parts : Bool → List Name → List Part
payload_parts noncopyable [] = []
payload_parts noncopyable (n ∷ ns) = a_type n ∷ a_content noncopyable n ∷ payload_parts noncopyable ns

abbrev pub case_parts : Bool → List CaseItem → List Part
case_parts noncopyable [] = []
case_parts noncopyable (c ∷ cs) = a_case c.name.span (length c.payloads) ∷ payload_parts noncopyable c.payloads ++ case_parts noncopyable cs

abbrev pub member_parts : Home → List Member → List Part
member_parts h [] = []
member_parts h (field f ∷ ms) = a_type f.written ∷ a_content h.noncopyable f.written ∷ member_parts h ms
member_parts h (initializer s ps b ∷ ms) =
    a_lifetime h.takes_init (word_of 4 s) ∷ taking_parts (word_of 4 s) ps ++ block_parts b ++ member_parts (record h { takes_init = false }) ms
member_parts h (deinitializer s b ∷ ms) =
    a_lifetime h.takes_deinit (word_of 6 s) ∷ a_body (word_of 6 s) 0 ∷ block_parts b ++ member_parts (record h { takes_deinit = false }) ms
member_parts h (method s mode f ∷ ms) = a_method h.noncopyable s mode ∷ function_parts f ++ member_parts h ms
member_parts h (cases s cs ∷ ms) = case_parts h.noncopyable cs ++ member_parts h ms

abbrev pub item_names : List CaseItem → List Name
item_names cs = map (λ c. c.name) cs

-- a stored property, cases or a method
abbrev pub names_of_member : Member → List Name
names_of_member (field f) = f.name ∷ []
names_of_member (initializer s ps b) = []
names_of_member (deinitializer s b) = []
names_of_member (method s mode f) = f.name ∷ []
names_of_member (cases s cs) = item_names cs

abbrev pub member_names : List Member → List Name
member_names [] = []
member_names (m ∷ ms) = names_of_member m ++ member_names ms

-- SE-0390: a `deinit` stands in a noncopyable struct
abbrev pub struct_home : Bool → Home
struct_home noncopyable = record { noncopyable = noncopyable; takes_deinit = noncopyable; takes_init = true }

abbrev pub enum_home : Bool → Home
enum_home noncopyable = record { noncopyable = noncopyable; takes_deinit = false; takes_init = false }

abbrev pub MAIN : List ℕ
MAIN = codes "main"

abbrev pub gives_nothing : Option ResultType → Bool
gives_nothing None = true
gives_nothing (Some r) = not (gives_value r)

-- `func main`
abbrev pub main_parts : Fun → List Part
main_parts f = if bytes_eq f.name.text MAIN then a_main (is_empty f.parameters && gives_nothing f.result) f.name.span ∷ [] else []

abbrev pub declared_parts : List Decl → List Part
declared_parts [] = []
declared_parts (struct_of s name noncopyable ms ∷ ds) = a_top name ∷ a_scope (member_names ms) ∷ member_parts (struct_home noncopyable) ms ++ declared_parts ds
declared_parts (enum_of s name noncopyable ms ∷ ds) = a_top name ∷ a_scope (member_names ms) ∷ member_parts (enum_home noncopyable) ms ++ declared_parts ds
declared_parts (function f ∷ ds) = a_top f.name ∷ main_parts f ++ function_parts f ++ declared_parts ds

abbrev pub declared_name : Decl → Name
declared_name (struct_of s name noncopyable ms) = name
declared_name (enum_of s name noncopyable ms) = name
declared_name (function f) = f.name

abbrev pub is_main : Decl → Bool
is_main (struct_of s name noncopyable ms) = false
is_main (enum_of s name noncopyable ms) = false
is_main (function f) = bytes_eq f.name.text MAIN

abbrev pub has_main : List Decl → Bool
has_main [] = false
has_main (d ∷ ds) = if is_main d then true else has_main ds

abbrev pub last_parts : File → List Part
last_parts file = if has_main file.declarations then [] else no_main file.main ∷ []

-- those of the whole text: its types and functions are a scope
abbrev pub file_parts : File → List Part
file_parts file = a_scope (map declared_name file.declarations) ∷ declared_parts file.declarations ++ last_parts file
