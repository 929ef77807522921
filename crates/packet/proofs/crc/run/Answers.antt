use Rattle.std.proofs.Common.{arith, rules}
use Rattle.packet.proofs.Divides.{crc_divides}
use Rattle.packet.proofs.crc.run.Goals as goal

pub returns-clause-divides : goal.returns-clause-divides
returns-clause-divides c = crc_divides c.args.value c.args.bytes.now c.fold.result (omega arith) (search rules)
