use Rattle.std.proofs.Common.{arith}
use Rattle.port.specs.Slots.{packets_in}
use Rattle.port.proofs.Ring.{length_held, held_more}
use Rattle.port.proofs.sending.Sending.hold.Goals as goal

pub seal-requires : goal.seal-requires
seal-requires c =
    let long = length_held c.args.self.now in
    (omega arith, c.place-i.ensures.within (omega arith))

pub hold-self-requires : goal.hold-self-requires
hold-self-requires c =
    let long = length_held c.args.self.now in
    omega arith

pub returns : goal.returns
returns c =
    let s = c.args.self.now in
    let long = length_held s in
    let w = c.hold-self.ensures in
    let held = held_more s c.place-i.result c.hold-self.result.held (packets_in c.seal.new.self) _ (omega arith) c.place-i.ensures.at w.held_is c.seal.ensures.sealed in
    λ j. record { held = held j; first = w.first_is j; sent = w.sent_is j; high = w.high_is j; output = s.output }
