use Rattle.link.proofs.Delivering.{starts_delivering}
use Rattle.link.proofs.Link.new.Goals as goal

pub returns-clause-delivery : goal.returns-clause-delivery
returns-clause-delivery g c = starts_delivering g.A.Lane.LIMIT g.B.Lane.LIMIT _
