-- The laws that contracts cite.
use Rattle.std.proofs.Common.{refl}
use Rattle.own_tree.specs.declared.graph.LeafFact.TheVariants as fact
use Rattle.own_paths.specs.Findings.{IsPathFinding, IsFixedFinding, IsFinding}
use Rattle.own_paths.specs.Laws.{PartsOfLeavesHaveNone, FindingsAreOrdered, FindingsHaveOneCause, SoundBreaksNothing, FindingsAreOneList, PathFindingsAreOneList, FixedFindingsAreOneList, LeavesHaveOneFact, TracesStay, TracesGoOn, TracesExist, TracesSplit}
use Rattle.own_paths.proofs.Causes.{one_cause}
use Rattle.own_paths.proofs.PartsOfLeaves.{parts_of_leaves_have_none as none_below}
use Rattle.own_paths.proofs.Orders.{findings_are_ordered as findings, one_list}
use Rattle.own_paths.proofs.Sound.{breaks_nothing}
use Rattle.own_paths.proofs.TraceFacts.{more_turns, longer_trace, some_trace, splits}

pub parts_of_leaves_have_none : PartsOfLeavesHaveNone
parts_of_leaves_have_none types k b o leaf breaks i = none_below types k b o leaf breaks i

pub findings_are_ordered : FindingsAreOrdered
findings_are_ordered = findings

pub findings_have_one_cause : FindingsHaveOneCause
findings_have_one_cause types program k body f g a b same = one_cause types program k body f g a b same

pub findings_are_one_list : FindingsAreOneList
findings_are_one_list types program fs gs a b = one_list (IsFinding types program) fs gs a b

pub path_findings_are_one_list : PathFindingsAreOneList
path_findings_are_one_list uses fs gs a b = one_list (IsPathFinding uses) fs gs a b

pub fixed_findings_are_one_list : FixedFindingsAreOneList
fixed_findings_are_one_list types program k body fs gs a b = one_list (IsFixedFinding types program k body) fs gs a b

pub sound_breaks_nothing : SoundBreaksNothing
sound_breaks_nothing types program sound k body found = breaks_nothing types program sound k body found

pub leaves_have_one_fact : LeavesHaveOneFact
leaves_have_one_fact uses o leaf fact.Always fact.Always a b = refl
leaves_have_one_fact uses o leaf fact.Always fact.Both a b = absurd (a.1 b.1)
leaves_have_one_fact uses o leaf fact.Always fact.Never a b = absurd (b a.0)
leaves_have_one_fact uses o leaf fact.Both fact.Always a b = absurd (b.1 a.1)
leaves_have_one_fact uses o leaf fact.Both fact.Both a b = refl
leaves_have_one_fact uses o leaf fact.Both fact.Never a b = absurd (b a.0)
leaves_have_one_fact uses o leaf fact.Never fact.Always a b = absurd (a b.0)
leaves_have_one_fact uses o leaf fact.Never fact.Both a b = absurd (a b.0)
leaves_have_one_fact uses o leaf fact.Never fact.Never a b = refl

pub traces_stay : TracesStay
traces_stay j k le t os c w h = more_turns j k le t os c w h

pub traces_go_on : TracesGoOn
traces_go_on j k le t os h = longer_trace j k le t os h

pub traces_exist : TracesExist
traces_exist k t = some_trace k t

pub traces_split : TracesSplit
traces_split k a b os h = splits k a b os h
