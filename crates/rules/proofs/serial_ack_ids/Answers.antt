use Rattle.std.proofs.Common.{refl, arith}
use Rattle.rules.specs.Serial.{serial}
use Rattle.rules.proofs.Delivers.{delivery}
use Rattle.rules.proofs.SerialWire.{serial_lawful, seals_loads, reads_names, spoils_by_unsound}
use Rattle.rules.proofs.serial_ack_ids.Goals as goal

pub returns : goal.returns
returns c =
    record {
      value = refl;
      lawful = serial_lawful;
      seals = seals_loads;
      names = reads_names;
      spoils = spoils_by_unsound;
      delivery = λ la lb i r. delivery 32 serial la lb (omega arith) serial_lawful i r;
    }
