use Rattle.std.proofs.Common.{arith}
use Rattle.rules.specs.declared.state.Output.TheVariants.{Running}
use Rattle.port.proofs.Ring.{held_fewer}
use Rattle.port.proofs.sending.Sending.free.Goals as goal

pub returns : goal.returns
returns c =
    let s = c.args.self.now in
    let w = c.free-self.ensures in
    let held = held_fewer s c.place-self.result c.free-self.result.held c.args.d (omega arith) c.place-self.ensures.at w.held_is in
    λ j. record { held = held j; first = w.first_is j; sent = w.sent_is j; high = w.high_is j; output = Running }
