-- A port, one end of a link, over n ackIDs.
use Rattle.std.specs.Prelude.{ℕ, ◌+◌, ◌-◌, ◌%◌, min, Bool, List, [], ◌∷◌, ◌++◌, length, nat_lt}
use Rattle.rules.specs.declared.state.Input.{Input}
use Rattle.rules.specs.declared.state.Input.TheVariants.{Ready}
use Rattle.rules.specs.declared.state.Output.{Output}
use Rattle.rules.specs.declared.state.Output.TheVariants.{Running}
use Rattle.rules.specs.declared.state.Reply.{Reply}
use Rattle.rules.specs.Wire.{Packet}

-- The sending half: the packets held, in the order of sending, and their window. The first of them has the ackID
-- first (the next to be held, where none is); sent counts those sent since the last rewind, and high those ever sent.
pub record Sender : Type 0 where
  pub held : List Packet
  pub first : ℕ
  pub sent : ℕ
  pub high : ℕ
  pub output : Output

-- The receiving half: the ackID that it expects, the replies that have yet to go out and the packets that have yet to
-- be collected, each with the oldest first.
pub record Receiver : Type 0 where
  pub input : Input
  pub expected : ℕ
  pub pending : List Reply
  pub waiting : List Packet

-- The places of its two queues, which never change.
pub record Places : Type 0 where
  pub replies : ℕ
  pub packets : ℕ

-- A port.
pub record Port : Type 0 where
  pub sender : Sender
  pub receiver : Receiver
  pub places : Places

-- A fresh port holds nothing, has nothing waiting or pending, is ready and runs.
abbrev pub fresh : Places → Port
fresh places =
    record {
      sender = record { held = []; first = 0; sent = 0; high = 0; output = Running };
      receiver = record { input = Ready; expected = 0; pending = []; waiting = [] };
      places = places;
    }

-- The port with another sending half.
abbrev pub with_sender : Sender → Port → Port
with_sender o p = record { sender = o; receiver = p.receiver; places = p.places }

-- The port with another receiving half.
abbrev pub with_receiver : Receiver → Port → Port
with_receiver r p = record { sender = p.sender; receiver = r; places = p.places }

-- The ackID that comes d after k, of n.
abbrev pub after : ℕ → ℕ → ℕ → ℕ
after n k d = (k + d) % n

-- How far the ackID k comes after first, of n.
abbrev pub distance : ℕ → ℕ → ℕ → ℕ
distance n k first = (k + (n - first)) % n

-- How many packets a port may hold: one fewer than there are ackIDs, so that a response never means both none and all.
abbrev pub most_held : ℕ → ℕ
most_held n = n - 1

-- The order of the held packets: one that is submitted comes last.
abbrev pub ordered : List Packet → Packet → List Packet
ordered held p = held ++ (p ∷ [])

-- Whether there is a free slot for a packet that comes: there are eight, and each that waits has a place in the queue.
abbrev pub has_slot : Places → List Packet → Bool
has_slot places waiting = nat_lt (length waiting) (min places.packets 8)
