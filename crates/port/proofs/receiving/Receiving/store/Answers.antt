use Rattle.fifo.specs.Held.{queued}
use Rattle.packet.specs.Crc.{cleared_of}
use Rattle.port.proofs.Naming.{waits_more}
use Rattle.port.proofs.receiving.Receiving.store.Goals as goal

pub returns-in-Ok-clause-receiver : goal.returns-in-Ok-clause-receiver
returns-in-Ok-clause-receiver c =
    let s = c.args.self.now in
    let p = cleared_of c.args.packet.bytes.now in
    let put = c.in-Ok.ensures in
    let wrote = c.store.ensures in
    let waits = waits_more s.slots c.store.new.self (queued s.records) (queued c.put.new.self) _ p c.in-Some.ensures.2 wrote.others wrote.stored put.puts.1 in
    λ j. record { input = s.input; expected = s.expected; pending = queued s.replies; waiting = waits j }
