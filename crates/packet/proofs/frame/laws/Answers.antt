use Rattle.packet.proofs.Classes.{kind_written, kind_sealed, restored, kind_byte}
use Rattle.packet.proofs.frame.laws.Goals as goal

pub returns : goal.returns
returns c = record { written = kind_written; sealed = kind_sealed; cleared = restored; lone = kind_byte }
