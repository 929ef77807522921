-- The sending half of a port, in the rules' terms.
use Rattle.std.specs.Prelude.{List, take}
use Rattle.fifo.specs.Turned.{turned}
use Rattle.rules.specs.Wire.{Packet}
use Rattle.rules.specs.Port.{Sender}
use Rattle.port.specs.declared.sending.Sending.{Sending}
use Rattle.port.specs.Slots.{packets_in}

-- The packets held, the oldest first.
abbrev pub held_of : Sending → List Packet
held_of s = take s.window.held (turned s.base (packets_in s.slots))

abbrev pub sender_of : Sending → Sender
sender_of s = record { held = held_of s; first = s.window.first; sent = s.window.sent; high = s.window.high; output = s.output }
