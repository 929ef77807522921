use Rattle.std.proofs.Common.{length}
use Rattle.rules.specs.Port.{Places}
use Rattle.port.proofs.Port.new.Goals as goal

pub returns : goal.returns
returns c =
    let places : Places = record { replies = length c.args.replies.now; packets = length c.args.records.now } in
    let r = c.new-2.ensures in
    λ j. record { sender = c.new.ensures places j; receiver = r.receiver places j; places = record { replies = r.replies j; packets = r.packets j } }
