use Rattle.std.proofs.Common.{arith}
use Rattle.std.proofs.lemmas.Grind.{common_steps}
use Rattle.packet.proofs.Fields.{same_written}
use Rattle.packet.proofs.header.stamp.Goals as goal

pub returns-in-Some-clause-same : goal.returns-in-Some-clause-same
returns-in-Some-clause-same c = same_written c.args.ack_id c.args.packet.now _ (grind (arith, common_steps))
