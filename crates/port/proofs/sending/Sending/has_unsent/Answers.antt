use Rattle.port.proofs.Ring.{length_held}
use Rattle.port.proofs.sending.Sending.has_unsent.Goals as goal

pub returns : goal.returns
returns c = let long = length_held c.args.self.now in cc
