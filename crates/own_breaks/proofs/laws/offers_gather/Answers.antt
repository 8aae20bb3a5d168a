use Rattle.own_shapes.proofs.Lists.{contains_in}
use Rattle.own_breaks.proofs.Gathering.{gathers_offered, rising_offered}
use Rattle.own_breaks.proofs.laws.offers_gather.Goals as goal

pub returns : goal.returns
returns c = record { gathers = gathers_offered; rises = λ xs f r no. rising_offered xs f r (λ x i. no x (contains_in xs x i)) }
