use Rattle.std.proofs.Common.{length, Ok, sym, arith}
use Rattle.std.proofs.lemmas.Bool.{le-ltb}
use Rattle.refusal.specs.declared.Refusal.TheVariants.{ShortBuffer, RepliesFull}
use Rattle.rules.specs.Calls.{receive_first}
use Rattle.rules.specs.Serial.{serial}
use Rattle.port.specs.Model.{port_of}
use Rattle.port.proofs.Outcomes.{not_refused, receives_first}
use Rattle.port.proofs.Port.receive.Goals as goal

pub returns : goal.returns
returns g c =
    let p = port_of c.args.self.now in
    let l = c.args.lane.now in
    let b = c.args.buffer.now in
    let took = c.in_ok-n.ensures in
    let first =
    receives_first g.L.Lane.waiting g.L.Lane.takes _ p (port_of c.handle.new.self) l c.take.new.self b c.take.new.buffer c.in_ok-n.n c.handle.result
    took.means took.kind c.handle.ensures.answer c.handle.ensures.port in
    let rest = not_refused _ _ _ RepliesFull (receive_first 32 serial (g.L.Lane.waiting l) p) (Ok c.handle.result) (sym c.if-replies_full.ensures) first in
    not_refused _ _ _ ShortBuffer _ (Ok c.handle.result) (le-ltb (length b) 276 (omega arith)) rest
