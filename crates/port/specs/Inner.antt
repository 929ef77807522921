-- What the functions inside a port promise one another. No contract of a call that is offered names these.
use Rattle.std.specs.Prelude.{◌≡◌, ℕ, ◌<◌, ◌≤◌, Bool, true, false, List, [], ◌∷◌, ◌++◌, length, Some, None, Ok, Err, Option, Result, ◌==◌, slice_index_or}
use Rattle.std.specs.List.{list_any}
use Rattle.refusal.specs.declared.Refusal.{Refusal}
use Rattle.refusal.specs.declared.Refusal.TheVariants.{Nothing}
use Rattle.lane.specs.Meaning.{SizedFrame}
use Rattle.rules.specs.declared.state.Sent.{Sent}
use Rattle.rules.specs.Wire.{Packet, Frame}
use Rattle.rules.specs.Port.{Sender, Receiver, Port, Places, after}
use Rattle.rules.specs.Calls.{Departure}
use Rattle.rules.specs.Serial.{serial}
use Rattle.port.specs.declared.window.Window.{Window}
use Rattle.port.specs.declared.record.WaitingSlot.{WaitingSlot}
use Rattle.packet.specs.Sealing.{written_over}

-- A window has these four numbers.
pub record Is (w : Window) (first held sent high : ℕ) : Type 0 where
  pub first_is : w.first ≡ first
  pub held_is : w.held ≡ held
  pub sent_is : w.sent ≡ sent
  pub high_is : w.high ≡ high

-- The frame of the next packet to be sent.
abbrev pub next_frame : Sender → Frame
next_frame o = serial.stamp (after 32 o.first o.sent) (slice_index_or o.held o.sent [])

-- There is a place for another reply. This is said of a moment, and where one is pended it may hold no longer: so it is a premise
-- of each function that may pend one, and no fact of a type.
abbrev pub CanReply : Receiver → Places → Type 0
CanReply receiver places = length receiver.pending < places.replies

-- Whether one of some records names a slot.
abbrev pub is_named : ℕ → List WaitingSlot → Bool
is_named slot = list_any (λ r. r.slot == slot)

-- A slot that no record names is found while fewer than eight packets wait.
abbrev pub FindsFree : List WaitingSlot → Option ℕ → Type 0
FindsFree rs (Some slot) = (length rs < 8) × (slot < 8) × (is_named slot rs ≡ false)
FindsFree rs None = 8 ≤ length rs

-- The waiting packets once p is stored behind them, or is not.
abbrev pub stored : Bool → Packet → List Packet → List Packet
stored true p waiting = waiting ++ (p ∷ [])
stored false p waiting = waiting

-- What the packets that wait give to a buffer b: the first goes to its front, and the bytes behind stay.
abbrev pub Gives : List Packet → List ℕ → Result ℕ Refusal → List Packet → List ℕ → Type 0
Gives before b (Ok n) after b' = (p : Packet) × (before ≡ p ∷ after) × (n ≡ length p) × (b' ≡ written_over p b)
Gives before b (Err e) after b' = (e ≡ Nothing) × (before ≡ []) × (after ≡ before) × (b' ≡ b)

-- The answer of a send, by what is due.
abbrev pub answered : Option Departure → Option Sent
answered None = None
answered (Some d) = Some d.answer

-- What is due is written to the front of a buffer: n bytes.
abbrev pub Writes : Option Departure → List ℕ → ℕ → Port → List ℕ → Type 0
Writes None b n p' b' = ⊥
Writes (Some d) b n p' b' = (n ≡ length d.frame) × SizedFrame d.frame × (p' ≡ d.port) × (b' ≡ written_over d.frame b)
