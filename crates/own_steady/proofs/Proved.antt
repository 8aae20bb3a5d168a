-- The laws, as the contracts name them.
use Rattle.std.proofs.Common.{◌≡◌, suc, false, [], None, refl}
use Rattle.own_judged.specs.Text.{text_of}
use Rattle.own_ways.specs.Ways.{Way, gives, traps, stops, errs, strays}
use Rattle.own_runs.specs.Run.{Cut, behaviour, run_to, start, run_of}
use Rattle.own_runs.specs.Store.{State}
use Rattle.own_runs.specs.Values.{Val}
use Rattle.own_runs.proofs.Proved.{stops_out_of_turns}
use Rattle.own_steady.specs.Programs.{is_astray}
use Rattle.own_known.proofs.Proved.{typed_programs_are_known}
use Rattle.own_steady.specs.Laws.{SteadyProgramsDoNotStray, OnlyTurnsCutRuns, TypedProgramsDoNotStray}
use Rattle.own_steady.proofs.Running.{never_strays}
use Rattle.own_steady.proofs.Texts.{types_are_basic, params_are_written}

pub steady_programs_do_not_stray : SteadyProgramsDoNotStray
steady_programs_do_not_stray text program node_type outer basic whole known written steady =
    never_strays text program node_type outer (record { basic = basic; whole = whole; known = known; written = written; steady = steady })

only_stops : (w : Way State Val) → is_astray w ≡ false → (behaviour w).outcome ≡ Cut → (s : State) × (w ≡ stops s)
only_stops (stops s) h e = (s, refl)
only_stops (gives a s) h e = absurd (cc)
only_stops (traps code at s) h e = absurd (cc)
only_stops (errs s) h e = absurd (cc)
only_stops (strays s) h e = absurd (cc)

pub only_turns_cut_runs : OnlyTurnsCutRuns
unfolding run_of
only_turns_cut_runs text program node_type outer basic whole known written steady input turns cut =
    let way = run_to text.types program (suc turns) program.main None [] 0 (start input turns) in
    let stop = only_stops way (steady_programs_do_not_stray text program node_type outer basic whole known written steady input turns) cut in
    (stop.0, stop.1, stops_out_of_turns text.types program input turns stop.0 stop.1)

pub typed_programs_do_not_stray : TypedProgramsDoNotStray
typed_programs_do_not_stray file program node_type outer whole typing steady =
    steady_programs_do_not_stray (text_of file) program node_type outer (types_are_basic file) whole
    (typed_programs_are_known file program whole typing) (params_are_written file program typing) steady
