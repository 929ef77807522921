use Rattle.std.specs.Prelude.{slice_index_or}
use Rattle.std.proofs.Common.{◌≡◌, drop, Some, arith}
use Rattle.fifo.specs.Held.{in_ring, oldest}
use Rattle.fifo.proofs.Turning.{ring_nth}
use Rattle.fifo.proofs.ring.Ring.get.Goals as goal

pub returns : goal.returns
returns g c =
    let r = c.args.self.now in
    let ps = c.args.places.now in
    let x = c.index-places-place.result in
    let found : oldest (drop c.args.k (in_ring r ps)) ≡ Some (slice_index_or ps c.place.result x) = ring_nth r.head r.len c.args.k c.place.result ps x c.place.ensures.at (omega arith) in
    let at = c.index-places-place.is in
    cc
