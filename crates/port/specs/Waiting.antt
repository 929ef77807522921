-- The receiving half of a port, in the rules' terms.
use Rattle.std.specs.Prelude.{List, map}
use Rattle.fifo.specs.Held.{queued, places_of}
use Rattle.rules.specs.Wire.{Packet}
use Rattle.rules.specs.Port.{Receiver, Places}
use Rattle.port.specs.declared.record.WaitingSlot.{WaitingSlot}
use Rattle.port.specs.declared.slots.Slots.{Slots}
use Rattle.port.specs.declared.receiving.Receiving.{Receiving}
use Rattle.port.specs.Slots.{front_in}

-- The packet that a record is of: so many bytes of the slot that it names.
abbrev pub recorded : Slots 8 → WaitingSlot → Packet
recorded slots r = front_in slots r.slot r.len

-- The packets that wait, the oldest first.
abbrev pub waiting_of : Receiving → List Packet
waiting_of r = map (recorded r.slots) (queued r.records)

abbrev pub receiver_of : Receiving → Receiver
receiver_of r = record { input = r.input; expected = r.expected; pending = queued r.replies; waiting = waiting_of r }

-- The places of its two queues.
abbrev pub places_in : Receiving → Places
places_in r = record { replies = places_of r.replies; packets = places_of r.records }
