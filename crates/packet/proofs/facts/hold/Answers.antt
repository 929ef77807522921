use Rattle.std.proofs.Common.{refl}
use Rattle.packet.proofs.Sealed.{sealed_to}
use Rattle.packet.proofs.facts.hold.Goals as goal

pub returns : goal.returns
returns c = (sealed_to 6 refl, (sealed_to 80 refl, (sealed_to 82 refl, (sealed_to 84 refl, (sealed_to 270 refl, (sealed_to 272 refl, tt))))))
