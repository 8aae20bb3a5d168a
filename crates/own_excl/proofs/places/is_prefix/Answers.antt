use Rattle.std.proofs.Common.{◌∙◌}
use Rattle.own_leaves.proofs.Prefixes.{starts_is_prefix}
use Rattle.own_excl.proofs.places.is_prefix.Goals as goal

pub returns : goal.returns
returns c = c.starts_with.ensures.value ∙ starts_is_prefix c.args.fields.now c.args.front.now
