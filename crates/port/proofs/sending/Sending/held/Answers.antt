use Rattle.std.proofs.Common.{arith}
use Rattle.port.proofs.Ring.{length_held}
use Rattle.port.proofs.sending.Sending.held.Goals as goal

pub returns : goal.returns
returns c =
    let long = length_held c.args.self.now in
    record { value = omega arith; most = omega arith }
