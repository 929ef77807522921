-- What a call at one port of a link answers and leaves, by what the rules say of it.
use Rattle.std.specs.Prelude.{◌≡◌, ℕ, List, length, Ok, Result}
use Rattle.refusal.specs.declared.Refusal.{Refusal}
use Rattle.lane.specs.Meaning.{Frames, Gains}
use Rattle.rules.specs.Port.{Port}
use Rattle.rules.specs.Calls.{Submitted as SubmittedBy, Departure, Arrival, Collected as CollectedBy, submit, send, receive, collect, time_out}
use Rattle.rules.specs.Link.{Call as RulesCall}
use Rattle.rules.specs.Link.Call.{submits, sends, receives, collects, times_out}
use Rattle.rules.specs.Serial.{serial}
use Rattle.link.specs.declared.call.Call.{Call}
use Rattle.link.specs.declared.call.Call.TheVariants.{Submit, Send, Receive, Collect, TimeOut}
use Rattle.link.specs.declared.call.Outcome.{Outcome}
use Rattle.link.specs.declared.call.Outcome.TheVariants.{Submitted, Sent, Received, Collected, TimedOut}
use Rattle.packet.specs.Sealing.{written_over}
use Rattle.port.specs.Promises.{Agrees}

-- A call in the rules' terms, with a load to submit and a buffer of so many bytes.
abbrev pub as_rules : Call → List ℕ → ℕ → RulesCall
as_rules Submit load buffer = submits load
as_rules Send load buffer = sends buffer
as_rules Receive load buffer = receives buffer
as_rules Collect load buffer = collects buffer
as_rules TimeOut load buffer = times_out

-- What a call at a port reads and leaves: the port, the frames on the lane that it writes, the frames on the lane that
-- comes in, and the buffer.
pub record Scene : Type 0 where
  pub port : Port
  pub out : Frames
  pub incoming : Frames
  pub buffer : List ℕ

-- Nothing changes.
abbrev pub Same : Scene → Scene → Type 0
Same s t = (t.port ≡ s.port) × (t.out ≡ s.out) × (t.incoming ≡ s.incoming) × (t.buffer ≡ s.buffer)

-- A call at a port whose lane has this limit; only a submit looks at the load.
abbrev pub Does : ℕ → Call → List ℕ → Scene → Result Outcome Refusal → Scene → Type 0
Does limit Submit load s r t =
    Agrees
    (λ (d : SubmittedBy) (o : Outcome). (o ≡ Submitted) × (t.port ≡ d.port) × (t.out ≡ s.out) × (t.incoming ≡ s.incoming) × (t.buffer ≡ s.buffer))
    (Same s t)
    (submit 32 serial load s.port)
    r
Does limit Send load s r t =
    Agrees
    (λ (d : Departure) (o : Outcome). (o ≡ Sent d.answer) × (t.port ≡ d.port) × Gains s.out d.frame t.out × (t.incoming ≡ s.incoming) × (t.buffer ≡ written_over d.frame s.buffer))
    (Same s t)
    (send 32 serial (length s.buffer) limit s.out s.port)
    r
Does limit Receive load s r t =
    Agrees
    (λ (d : Arrival) (o : Outcome). (o ≡ Received d.answer) × (t.port ≡ d.port) × (t.out ≡ s.out) × (t.incoming ≡ d.rest) × (t.buffer ≡ written_over d.frame s.buffer))
    (Same s t)
    (receive 32 serial (length s.buffer) s.incoming s.port)
    r
Does limit Collect load s r t =
    Agrees
    (λ (d : CollectedBy) (o : Outcome). (o ≡ Collected (length d.packet)) × (t.port ≡ d.port) × (t.out ≡ s.out) × (t.incoming ≡ s.incoming) × (t.buffer ≡ written_over d.packet s.buffer))
    (Same s t)
    (collect (length s.buffer) s.port)
    r
Does limit TimeOut load s r t =
    (r ≡ Ok (TimedOut (time_out s.port).owes)) × (t.port ≡ (time_out s.port).port) × (t.out ≡ s.out) × (t.incoming ≡ s.incoming) × (t.buffer ≡ s.buffer)
