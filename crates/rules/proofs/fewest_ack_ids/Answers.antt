use Rattle.std.proofs.Common.{refl}
use Rattle.rules.proofs.Delivers.{delivery}
use Rattle.rules.proofs.fewest_ack_ids.Goals as goal

pub returns : goal.returns
returns c = record { value = refl; delivery = delivery }
