use Rattle.std.proofs.Common.{arith}
use Rattle.std.proofs.lemmas.Grind.{common_steps}
use Rattle.packet.specs.Crc.{cleared_of}
use Rattle.packet.proofs.Divides.{crc_divides}
use Rattle.packet.proofs.crc.start.Goals as goal

pub returns-clause-divides : goal.returns-clause-divides
returns-clause-divides c = crc_divides 0xFFFF (cleared_of c.args.bytes.now) c.loop-i.running (omega arith) (grind (arith, common_steps))
