use Rattle.std.proofs.Common.{arith, length-take}
use Rattle.fifo.proofs.Turning.{length_turned, ring_put}
use Rattle.fifo.proofs.ring.Ring.put.Goals as goal

pub returns-clause-puts : goal.returns-clause-puts
returns-clause-puts g c =
    let r = c.args.self.now in
    let long = length_turned r.head c.args.places.now in
    (rw length-take (omega arith), ring_put r.head r.len c.place-i.result c.args.places.now c.args.x c.place-i.ensures.at c.if-self-places.false)
