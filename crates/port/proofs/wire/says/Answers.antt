use Rattle.std.proofs.Common.{sym, ◌∙◌}
use Rattle.rules.proofs.SerialWire.{reads_names}
use Rattle.port.proofs.wire.says.Goals as goal

pub returns : goal.returns
returns c = c.ok.ensures.value ∙ sym (reads_names.0 _ _ c.try_from.ensures)
