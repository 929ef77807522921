-- What the memory of a port's two queues holds.
use Rattle.std.specs.Prelude.{List}
use Rattle.rules.specs.declared.state.Reply.{Reply}
use Rattle.port.specs.declared.memory.Memory.{Memory}
use Rattle.port.specs.declared.record.WaitingSlot.{WaitingSlot}

abbrev pub replies_in : Memory → List Reply
replies_in m = m.replies

abbrev pub records_in : Memory → List WaitingSlot
records_in m = m.records
