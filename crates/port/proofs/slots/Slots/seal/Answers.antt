use Rattle.std.proofs.Common.{set, ap, ◌∙◌}
use Rattle.std.proofs.lemmas.List.{map-set}
use Rattle.port.specs.Slots.{packet_in, packets_in}
use Rattle.port.proofs.slots.Slots.seal.Goals as goal

pub returns-clause-sealed : goal.returns-clause-sealed
returns-clause-sealed g c =
    map-set packet_in c.args.self.now.all c.args.i c.seal.new.self ∙ ap (set (packets_in c.args.self.now) c.args.i) c.seal.ensures
