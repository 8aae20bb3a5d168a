use Rattle.std.proofs.Common.{subst, sym, arith, rules}
use Rattle.wasm_form.specs.Steps.{machine_run}
use Rattle.wasm_run.specs.Room.{HasRoom}
use Rattle.wasm_run.specs.Views.{text_of}
use Rattle.wasm_run.proofs.Runs.{begins_on, at_limit, at_end, at_trap, at_stuck, at_on, at_write, at_fault, rises}
use Rattle.wasm_run.proofs.Room.{has_room, room_started, room_goes, room_writes, main_is_within}
use Rattle.wasm_run.proofs.machine.Machine.run.Goals.{in-On, in-Wrote+in-Ok}
use Rattle.wasm_run.proofs.machine.Machine.run.Goals as goal

pub loop-done-init : goal.loop-done-init
loop-done-init g c =
    let s = c.self.inside in
    let v = c.self.invariant in
    record {
      within = v.within;
      room = subst HasRoom (sym v.begins) (room_started s.module.now v.main s.input.now (main_is_within s.module.now v.main v.within v.is_main).1);
      on = rw (← c.self.view_is) (begins_on s.module.now s.input.now c.args.n v.main s.state (g.K.Sink.written c.args.sink.now) v.is_main v.begins (search rules));
      faults = omega arith;
    }

pub step-requires-clause-layers : goal.step-requires-clause-layers
step-requires-clause-layers g c = has_room c.loop-done.state c.loop-done.invariant.room

pub returns-in-Ended-clause-ran : goal.returns-in-Ended-clause-ran
returns-in-Ended-clause-ran g c = at_end c.self.inside.module.now c.args.n c.loop-done.done c.loop-done.state (machine_run c.args.self.program c.args.self.input c.args.n) (g.K.Sink.written c.args.sink.now) (g.K.Sink.written c.loop-done.sink) c.loop-done.invariant.on c.loop-done-test.true c.in-Ended.ensures

pub returns-in-Trapped-clause-ran : goal.returns-in-Trapped-clause-ran
returns-in-Trapped-clause-ran g c = at_trap c.self.inside.module.now c.args.n c.loop-done.done c.loop-done.state (machine_run c.args.self.program c.args.self.input c.args.n) (g.K.Sink.written c.args.sink.now) (g.K.Sink.written c.loop-done.sink) c.loop-done.invariant.on c.loop-done-test.true c.in-Trapped.code c.in-Trapped.at c.in-Trapped.ensures

pub returns-in-Stuck-clause-ran : goal.returns-in-Stuck-clause-ran
returns-in-Stuck-clause-ran g c = at_stuck c.self.inside.module.now c.args.n c.loop-done.done c.loop-done.state (machine_run c.args.self.program c.args.self.input c.args.n) (g.K.Sink.written c.args.sink.now) (g.K.Sink.written c.loop-done.sink) c.loop-done.invariant.on c.loop-done-test.true c.in-Stuck.ensures

pub returns-in-Err-clause-ran : goal.returns-in-Err-clause-ran
returns-in-Err-clause-ran g c = (
  rises (g.K.Sink.faults c.args.sink.now) (g.K.Sink.faults c.loop-done.sink) (g.K.Sink.faults c.write.new.sink) c.loop-done.invariant.faults c.in-Err.ensures.failed,
  at_fault c.self.inside.module.now c.args.n c.loop-done.done c.loop-done.state (machine_run c.args.self.program c.args.self.input c.args.n) (g.K.Sink.written c.args.sink.now) (g.K.Sink.written c.loop-done.sink) c.loop-done.invariant.on c.loop-done-test.true (text_of c.in-Wrote.written c.step.new.self.memory) c.step.new.self (g.K.Sink.written c.write.new.sink) _ c.in-Wrote.ensures.0 c.in-Err.ensures.prefix c.in-Err.ensures.written,
)

pub returns : goal.returns
returns g c = record {
  count = c.loop-done.invariant.faults;
  ran = at_limit c.self.inside.module.now c.args.n c.loop-done.done c.loop-done.state (machine_run c.args.self.program c.args.self.input c.args.n) (g.K.Sink.written c.args.sink.now) (g.K.Sink.written c.loop-done.sink) c.loop-done.invariant.on (omega (arith, c.loop-done-test.false));
}

pub loop-done-preserved : goal.loop-done-preserved
loop-done-preserved g c = elim c.match-step.branch [
  | in-On w ↦ record {
    within = c.loop-done.invariant.within;
    room = room_goes c.self.inside.module.now c.loop-done.state c.step.new.self c.loop-done.invariant.within c.loop-done.invariant.room w.in-On.ensures;
    on = rw w.sink-is (at_on c.self.inside.module.now c.args.n c.loop-done.done c.loop-done.state (machine_run c.args.self.program c.args.self.input c.args.n) (g.K.Sink.written c.args.sink.now) (g.K.Sink.written c.loop-done.sink) c.loop-done.invariant.on c.loop-done-test.true c.step.new.self w.in-On.ensures);
    faults = rw w.sink-is c.loop-done.invariant.faults;
  }
  | in-Wrote+in-Ok w ↦ record {
    within = c.loop-done.invariant.within;
    room = room_writes c.self.inside.module.now (text_of w.in-Wrote.written c.step.new.self.memory) c.loop-done.state c.step.new.self c.loop-done.invariant.within c.loop-done.invariant.room w.in-Wrote.ensures.0;
    on = rw w.sink-is (at_write c.self.inside.module.now c.args.n c.loop-done.done c.loop-done.state (machine_run c.args.self.program c.args.self.input c.args.n) (g.K.Sink.written c.args.sink.now) (g.K.Sink.written c.loop-done.sink) c.loop-done.invariant.on c.loop-done-test.true (text_of w.in-Wrote.written c.step.new.self.memory) c.step.new.self (g.K.Sink.written w.write.new.sink) w.in-Wrote.ensures.0 w.in-Ok.ensures.ok);
    faults = let k = c.loop-done.invariant.faults in rw w.sink-is (omega (arith, w.in-Ok.ensures.count));
  }
]
