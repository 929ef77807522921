use Rattle.std.proofs.Common.{arith}
use Rattle.std.proofs.lemmas.Grind.{common_steps}
use Rattle.packet.proofs.Sounds.{sound_cleared}
use Rattle.packet.proofs.header.clear.Goals as goal

pub returns-in-Some-clause-sound : goal.returns-in-Some-clause-sound
returns-in-Some-clause-sound c = sound_cleared c.args.packet.now _ (grind (arith, common_steps))
