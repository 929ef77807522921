-- What a snapshot shows of a port.
use Rattle.std.specs.Prelude.{length}
use Rattle.rules.specs.Port.{Port}
use Rattle.port.specs.declared.snapshot.Snapshot.{Snapshot}

abbrev pub shown_of : Port → Snapshot
shown_of p =
    record {
      held = length p.sender.held;
      first = p.sender.first;
      sent = p.sender.sent;
      high = p.sender.high;
      output = p.sender.output;
      input = p.receiver.input;
      expected = p.receiver.expected;
      pending = length p.receiver.pending;
      waiting = length p.receiver.waiting;
    }
