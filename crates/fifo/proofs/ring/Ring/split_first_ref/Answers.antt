use Rattle.std.specs.Prelude.{slice_index_or}
use Rattle.std.proofs.Common.{◌≡◌, ◌-◌, ◌∷◌, take, ap, ◌∙◌, arith}
use Rattle.fifo.specs.Turned.{turned}
use Rattle.fifo.specs.Held.{in_ring}
use Rattle.fifo.proofs.Turning.{ring_take, take_least}
use Rattle.fifo.proofs.ring.Ring.split_first_ref.Goals as goal

pub returns-clause-splits : goal.returns-clause-splits
returns-clause-splits g c =
    let r = c.args.self.now in
    let ps = c.args.places.now in
    let n = c.len-len.result in
    let x = c.index-places-place.result in
    let all : take n (turned r.head ps) ≡ in_ring r ps = ap (λ k. take k (turned r.head ps)) c.len-len.ensures.value ∙ take_least r.len (turned r.head ps) in
    let first : take n (turned r.head ps) ≡ slice_index_or ps c.place.result x ∷ take (n - 1) (turned c.place-head.result ps) =
    ring_take r.head n c.place.result c.place-head.result ps x c.place.ensures.at c.place-head.ensures.at (omega arith) c.len-len.ensures.most in
    let at = c.index-places-place.is in
    cc
