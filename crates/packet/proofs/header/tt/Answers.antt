use Rattle.std.proofs.Common.{arith}
use Rattle.std.proofs.lemmas.Grind.{common_steps}
use Rattle.std.proofs.lemmas.Option.{gets}
use Rattle.std.proofs.lemmas.Nat.{and_mask}
use Rattle.packet.proofs.header.tt.Goals as goal

pub returns : goal.returns
returns c = grind (arith, common_steps, gets, and_mask)
