use Rattle.std.proofs.Common.{sym, ◌∙◌}
use Rattle.rules.proofs.SerialWire.{reads_names}
use Rattle.port.proofs.wire.asks.Goals as goal

pub returns : goal.returns
returns c = c.ok.ensures.value ∙ sym (reads_names.1 _ _ c.try_from.ensures)
