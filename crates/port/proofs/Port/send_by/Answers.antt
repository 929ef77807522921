use Rattle.std.proofs.Common.{length, Ok, arith}
use Rattle.std.proofs.lemmas.Bool.{le-ltb}
use Rattle.refusal.specs.declared.Refusal.TheVariants.{ShortBuffer}
use Rattle.rules.specs.Calls.{due, send_due}
use Rattle.rules.specs.Serial.{serial}
use Rattle.port.specs.Model.{port_of}
use Rattle.port.proofs.Outcomes.{not_refused, sends_due}
use Rattle.port.proofs.Port.send_by.Goals as goal

pub returns-clause-sends : goal.returns-clause-sends
returns-clause-sends g c =
    let p = port_of c.args.self.now in
    let o = due 32 serial p in
    let l = c.args.lane.now in
    let b = c.args.buffer.now in
    let put = c.in_ok-put.ensures in
    let sends =
    sends_due g.L.Lane.waiting g.L.Lane.puts o g.L.Lane.LIMIT _ (port_of c.write_due-n.new.self) l c.put.new.self b c.write_due-n.new.buffer c.write_due-n.result c.in-Some.what
    c.write_due-n.ensures c.in-Some.ensures put.means.1 put.means.2 put.kind in
    not_refused _ _ _ ShortBuffer (send_due g.L.Lane.LIMIT (g.L.Lane.waiting l) o) (Ok c.in-Some.what) (le-ltb (length b) 276 (omega arith)) sends
