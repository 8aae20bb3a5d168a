-- What a walk over the declarations of a text notes, step by step.
use Rattle.std.specs.Prelude.{ℕ, Bool, false, not, ◌&&◌, if◌then◌else◌, List, [], ◌∷◌, length, map, Option, Some, None}
use Rattle.std.specs.Str.{bytes_eq}
use Rattle.own_tree.specs.declared.span.Span.{Span}
use Rattle.own_tree.specs.declared.tree.CaseItem.{CaseItem}
use Rattle.own_tree.specs.declared.tree.FunctionParameter.{FunctionParameter}
use Rattle.own_tree.specs.declared.tree.Name.{Name}
use Rattle.own_tree.specs.declared.tree.Parameter.{Parameter}
use Rattle.own_tree.specs.declared.tree.ParameterType.{ParameterType}
use Rattle.own_tree.specs.declared.tree.ParameterType.TheVariants as written_type
use Rattle.own_tree.specs.declared.tree.PassingMode.{PassingMode}
use Rattle.own_tree.specs.declared.tree.ResultType.{ResultType}
use Rattle.own_tree.specs.Source.{Fun, Member, field, initializer, deinitializer, method, cases, Decl, struct_of, enum_of, function, File}
use Rattle.own_survey.specs.declared.declarations.Home.{Home}
use Rattle.own_survey.specs.declared.survey.Judgement.TheVariants as judgement
use Rattle.own_survey.specs.declared.survey.Survey.{Survey}
use Rattle.own_survey.specs.declared.survey.Written.{Written}
use Rattle.own_survey.specs.Judgements.{fault, type_fault, content_fault, fault_unless, parameter_fault, method_fault, is_reserved, nothing, with_body, with_taken, with_fault, notes}
use Rattle.own_survey.specs.Parts.{result_parts, parameter_names, member_names, word_of, MAIN, gives_nothing, declared_name, has_main, enum_home, struct_home}
use Rattle.own_shapes.specs.Types.{is_empty}
use Rattle.own_survey.specs.Walks.{scope_walk, block_walk}

-- what may still stand in a type after a member
abbrev pub home_after : Member → Home → Home
home_after (field f) h = h
home_after (initializer s ps b) h = record h { takes_init = false }
home_after (deinitializer s b) h = record h { takes_deinit = false }
home_after (method s mode f) h = h
home_after (cases s cs) h = h

abbrev pub top_walk : Name → Survey → Survey
top_walk n v = with_fault v (fault_unless (not (is_reserved n.text)) judgement.TopNames n.span)

abbrev pub main_walk : Fun → Survey → Survey
main_walk f v = if bytes_eq f.name.text MAIN then with_fault v (fault_unless (is_empty f.parameters && gives_nothing f.result) judgement.TopNames f.name.span) else v

module _ (w : List ℕ → Written) where
  abbrev pub type_walk : Name → Survey → Survey
  type_walk n v = with_fault v (type_fault (w n.text) n.span)

  abbrev pub parameter_walk : Span → Option PassingMode → Name → Survey → Survey
  parameter_walk s mode n v = with_fault (type_walk n v) (parameter_fault mode (w n.text) s)

  abbrev pub inner_walk : List FunctionParameter → Survey → Survey
  inner_walk [] v = v
  inner_walk (p ∷ ps) v = inner_walk ps (parameter_walk p.span p.mode p.name v)

  abbrev pub result_walk : ResultType → Survey → Survey
  result_walk r v = notes w v (result_parts r)

  abbrev pub given_result_walk : Option ResultType → Survey → Survey
  given_result_walk None v = v
  given_result_walk (Some r) v = result_walk r v

  abbrev pub parameter_type_walk : ParameterType → Survey → Survey
  parameter_type_walk (written_type.Named s mode name) v = parameter_walk s mode name v
  parameter_type_walk (written_type.Function s ps r) v = result_walk r (inner_walk ps v)

  abbrev pub parameters_walk : List Parameter → Survey → Survey
  parameters_walk [] v = v
  parameters_walk (p ∷ ps) v = parameters_walk ps (parameter_type_walk p.written v)

  abbrev pub taking_walk : Span → List Parameter → Survey → Survey
  taking_walk at ps v = parameters_walk ps (scope_walk (parameter_names ps) (with_taken (with_body v at) (length ps) at))

  abbrev pub function_walk : Fun → Survey → Survey
  function_walk f v = block_walk w f.body (given_result_walk f.result (taking_walk f.name.span f.parameters v))

  abbrev pub content_walk : Bool → Name → Survey → Survey
  content_walk noncopyable n v = with_fault (type_walk n v) (content_fault noncopyable (w n.text) n.span)

  abbrev pub payloads_walk : Bool → List Name → Survey → Survey
  payloads_walk noncopyable [] v = v
  payloads_walk noncopyable (n ∷ ns) v = payloads_walk noncopyable ns (content_walk noncopyable n v)

  abbrev pub cases_walk : Bool → List CaseItem → Survey → Survey
  cases_walk noncopyable [] v = v
  cases_walk noncopyable (c ∷ cs) v = cases_walk noncopyable cs (payloads_walk noncopyable c.payloads (with_taken v (length c.payloads) c.name.span))

  abbrev pub member_walk : Home → Member → Survey → Survey
  member_walk h (field f) v = content_walk h.noncopyable f.written v
  member_walk h (initializer s ps b) v = block_walk w b (taking_walk (word_of 4 s) ps (with_fault v (fault_unless h.takes_init judgement.Lifetime (word_of 4 s))))
  member_walk h (deinitializer s b) v = block_walk w b (with_taken (with_body (with_fault v (fault_unless h.takes_deinit judgement.Lifetime (word_of 6 s))) (word_of 6 s)) 0 (word_of 6 s))
  member_walk h (method s mode f) v = function_walk f (with_fault v (method_fault h.noncopyable s mode))
  member_walk h (cases s cs) v = cases_walk h.noncopyable cs v

  abbrev pub members_walk : Home → List Member → Survey → Survey
  members_walk h [] v = v
  members_walk h (m ∷ ms) v = members_walk (home_after m h) ms (member_walk h m v)

  abbrev pub declaration_walk : Decl → Survey → Survey
  declaration_walk (struct_of s name noncopyable ms) v = members_walk (struct_home noncopyable) ms (scope_walk (member_names ms) (top_walk name v))
  declaration_walk (enum_of s name noncopyable ms) v = members_walk (enum_home noncopyable) ms (scope_walk (member_names ms) (top_walk name v))
  declaration_walk (function f) v = function_walk f (main_walk f (top_walk f.name v))

  abbrev pub declarations_walk : List Decl → Survey → Survey
  declarations_walk [] v = v
  declarations_walk (d ∷ ds) v = declarations_walk ds (declaration_walk d v)

  abbrev pub file_walk : File → Survey
  file_walk file =
      let v = declarations_walk file.declarations (scope_walk (map declared_name file.declarations) nothing) in
      if has_main file.declarations then v else with_fault v (fault judgement.TopNames file.main)
