use Rattle.std.proofs.Common.{refl}
use Rattle.rules.specs.declared.state.PortId.TheVariants.{A as port_a, B as port_b}
use Rattle.link.specs.Joint.{Joint}
use Rattle.link.specs.Model.{joint_in}
use Rattle.link.proofs.Delivering.{performs_keeps}
use Rattle.link.proofs.Link.perform.Goals as goal

pub returns-in-A : goal.returns-in-A
returns-in-A g c =
    let s = c.args.self.now in
    let done = c.perform_at in
    let joint = joint_in g.A.Lane.waiting g.B.Lane.waiting in
    let t : Joint = joint (record { a = done.new.port; b = s.b; from_a = done.new.out; from_b = done.new.incoming }) in
    let kept = performs_keeps g.A.Lane.LIMIT g.B.Lane.LIMIT c.args.at port_a c.in-A.is c.args.call c.args.load.now (joint s) c.args.buffer.now done.result t done.new.buffer (done.ensures, refl) in
    record { performs = kept.0; delivery = kept.1 }

pub returns-in-B : goal.returns-in-B
returns-in-B g c =
    let s = c.args.self.now in
    let done = c.perform_at-in-B in
    let joint = joint_in g.A.Lane.waiting g.B.Lane.waiting in
    let t : Joint = joint (record { a = s.a; b = done.new.port; from_a = done.new.incoming; from_b = done.new.out }) in
    let kept = performs_keeps g.A.Lane.LIMIT g.B.Lane.LIMIT c.args.at port_b c.in-B.is c.args.call c.args.load.now (joint s) c.args.buffer.now done.result t done.new.buffer (done.ensures, refl) in
    record { performs = kept.0; delivery = kept.1 }
