-- The groups of instructions, one after another.
use Rattle.std.proofs.Common.{◌≡◌, Option, None, Some}
use Rattle.wasm_form.specs.Steps.{Config, Next, settled, ◌or_else◌}
use Rattle.wasm_run.specs.declared.state.Went.{Went}
use Rattle.wasm_run.specs.Views.{Shows, ShowsIf}

-- the first group has the instruction
pub settles : (went : Went) (old new : Config) (o rest : Option Next) → ShowsIf (Some went) old new o → Shows went new (settled (o or_else rest))
settles went old new None rest h = absurd h
settles went old new (Some next) rest h = h

pub settles_last : (went : Went) (old new : Config) (o : Option Next) → ShowsIf (Some went) old new o → Shows went new (settled o)
settles_last went old new None h = absurd h
settles_last went old new (Some next) h = h

-- the first group does not have it
pub passes : (went : Went) (old mid new : Config) (o rest : Option Next) → ShowsIf None old mid o → Shows went new (settled rest) → Shows went new (settled (o or_else rest))
passes went old mid new None rest h k = k
passes went old mid new (Some next) rest h k = absurd h

pub same_after : (old mid : Config) (o : Option Next) → ShowsIf None old mid o → mid ≡ old
same_after old mid None h = h
same_after old mid (Some next) h = absurd h
