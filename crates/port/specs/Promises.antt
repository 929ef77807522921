-- What each call of a port answers and leaves, by what the rules say of it.
use Rattle.std.specs.Prelude.{◌≡◌, ℕ, Bool, List, length, Ok, Err, Result}
use Rattle.refusal.specs.declared.Refusal.{Refusal}
use Rattle.packet.specs.Sealing.{written_over}
use Rattle.lane.specs.Meaning.{Frames, Gains}
use Rattle.rules.specs.declared.state.Sent.{Sent}
use Rattle.rules.specs.declared.state.Received.{Received}
use Rattle.rules.specs.Wire.{Frame}
use Rattle.rules.specs.Port.{Port}
use Rattle.rules.specs.Calls.{Submitted, Departure, Arrival, Collected, submit, send, receive, collect, time_out}
use Rattle.rules.specs.Serial.{serial}

-- The call answers as the rules do: it is handled where they handle it, and then Handled holds of what they give and
-- what it answers, or it is refused with their number, and then Refused holds.
abbrev pub Agrees : {A B : Type 0} → (A → B → Type 0) → Type 0 → Result A Refusal → Result B Refusal → Type 0
Agrees Handled Refused (Ok a) (Ok b) = Handled a b
Agrees Handled Refused (Ok a) (Err e) = ⊥
Agrees Handled Refused (Err e) (Ok b) = ⊥
Agrees Handled Refused (Err e) (Err f) = (f ≡ e) × Refused

-- Submit, from the port p to p'.
abbrev pub Submits : List ℕ → Port → Result (Unit {0}) Refusal → Port → Type 0
Submits load p r p' = Agrees (λ (s : Submitted) (done : Unit {0}). p' ≡ s.port) (p' ≡ p) (submit 32 serial load p) r

module _ {L : Type 0} (waiting : L → Frames) where
  -- A frame went out, from the lane l to l' and from the buffer b to b': it stands at the buffer's front and was put to the
  -- lane, which gained it, one unsound frame or nothing, and did with it what a lane of its kind does.
  abbrev pub Departs : (L → Frame → L → Type 0) → L → List ℕ → Port → L → List ℕ → Departure → Sent → Type 0
  Departs puts l b p' l' b' d s = (s ≡ d.answer) × (p' ≡ d.port) × (b' ≡ written_over d.frame b) × Gains (waiting l) d.frame (waiting l') × puts l d.frame l'

  -- Send, to a lane of this limit.
  abbrev pub Sends : ℕ → (L → Frame → L → Type 0) → Port → L → List ℕ → Result Sent Refusal → Port → L → List ℕ → Type 0
  Sends limit puts p l b r p' l' b' = Agrees (Departs puts l b p' l' b') ((p' ≡ p) × (l' ≡ l) × (b' ≡ b)) (send 32 serial (length b) limit (waiting l) p) r

  -- A frame came in: it was the first that waited and stands at the buffer's front, and the lane has the rest.
  abbrev pub Arrives : (L → L → Type 0) → L → List ℕ → Port → L → List ℕ → Arrival → Received → Type 0
  Arrives takes l b p' l' b' a s = (s ≡ a.answer) × (p' ≡ a.port) × (b' ≡ written_over a.frame b) × (waiting l' ≡ a.rest) × takes l l'

  -- Receive.
  abbrev pub Receives : (L → L → Type 0) → Port → L → List ℕ → Result Received Refusal → Port → L → List ℕ → Type 0
  Receives takes p l b r p' l' b' = Agrees (Arrives takes l b p' l' b') ((p' ≡ p) × (l' ≡ l) × (b' ≡ b)) (receive 32 serial (length b) (waiting l) p) r

-- Collect, to a buffer: the packet stands at its front, and its length is the answer.
abbrev pub Collects : Port → List ℕ → Result ℕ Refusal → Port → List ℕ → Type 0
Collects p b r p' b' = Agrees (λ (s : Collected) (n : ℕ). (n ≡ length s.packet) × (p' ≡ s.port) × (b' ≡ written_over s.packet b)) ((p' ≡ p) × (b' ≡ b)) (collect (length b) p) r

-- Time-out, which is never refused.
abbrev pub TimesOut : Port → Bool → Port → Type 0
TimesOut p r p' = (r ≡ (time_out p).owes) × (p' ≡ (time_out p).port)
