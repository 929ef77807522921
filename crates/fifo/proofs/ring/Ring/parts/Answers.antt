use Rattle.std.proofs.Common.{◌++◌, take, ap, ◌∙◌}
use Rattle.fifo.proofs.Turning.{take_parts, turned_least}
use Rattle.fifo.proofs.ring.Ring.parts.Goals as goal

pub returns : goal.returns
returns g c =
    let r = c.args.self.now in
    let cut = c.split_at.ensures in
    take_parts r.len c.min-older.result c.min-newer.result c.split_at.result.1.now c.split_at.result.0.now c.min-older.ensures c.min-newer.ensures
    ∙ ap (take r.len) ((λ j. cut.back j ++ cut.front j) ∙ turned_least r.head c.min.result c.args.places.now c.min.ensures)
