-- A link of two ports, a and b, and two lanes; its runs, with the record of what was accepted and collected.
use Rattle.std.specs.Prelude.{◌≡◌, ℕ, List, [], ◌∷◌, ◌++◌, Ok, Err, Result}
use Rattle.refusal.specs.declared.Refusal.{Refusal}
use Rattle.symbol.specs.declared.codes.Cause.{Cause}
use Rattle.rules.specs.declared.state.PortId.{PortId}
use Rattle.rules.specs.declared.state.PortId.TheVariants.{A as port_a, B as port_b}
use Rattle.rules.specs.Wire.{Packet, Frame, FrameLength, Wire}
use Rattle.rules.specs.Wire.Seen.{unsound}
use Rattle.rules.specs.Port.{Places, Port, fresh}
use Rattle.rules.specs.Calls.{Submitted, Departure, Arrival, Collected, submit, send, receive, collect, time_out}

-- One side of a link: its port, the frames on the lane that the port writes, and the record of the port's calls, which
-- is the packets accepted at submit and the packets collected, each in the order of the calls.
pub record Side : Type 0 where
  pub port : Port
  pub lane : List Frame
  pub accepted : List Packet
  pub collected : List Packet

-- A fresh port and an empty lane, and no call made.
abbrev pub fresh_side : Places → Side
fresh_side places = record { port = fresh places; lane = []; accepted = []; collected = [] }

-- The side with another port.
abbrev pub with_port : Port → Side → Side
with_port p s = record { port = p; lane = s.lane; accepted = s.accepted; collected = s.collected }

-- The side with other frames on its lane.
abbrev pub with_lane : List Frame → Side → Side
with_lane frames s = record { port = s.port; lane = frames; accepted = s.accepted; collected = s.collected }

-- What a lane makes of a frame that is put: it keeps it, has another in its place, or loses it.
pub data Fate : Type 0 where
  keep : Fate
  spoil : Frame → Fate
  lose : Fate

-- The fates that a lane may choose: what stands in place of a frame is unsound and has a frame's length.
abbrev pub Possible : Wire → Fate → Type 0
Possible w keep = Unit {0}
Possible w (spoil u) = FrameLength u × ((c : Cause) × (w.read u ≡ unsound c))
Possible w lose = Unit {0}

-- The lane after a put.
abbrev pub put : Fate → Frame → List Frame → List Frame
put keep f frames = frames ++ (f ∷ [])
put (spoil u) f frames = frames ++ (u ∷ [])
put lose f frames = frames

-- A call, with its argument: the load that is submitted, or the length of the buffer.
pub data Call : Type 0 where
  submits : List ℕ → Call
  sends : ℕ → Call
  receives : ℕ → Call
  collects : ℕ → Call
  times_out : Call

-- The side after a submit: a call that is refused changes nothing, here and below.
abbrev pub after_submit : Result Submitted Refusal → Side → Side
after_submit (Ok r) s = record { port = r.port; lane = s.lane; accepted = s.accepted ++ (r.packet ∷ []); collected = s.collected }
after_submit (Err e) s = s

-- After a send, whose frame has this fate.
abbrev pub after_send : Fate → Result Departure Refusal → Side → Side
after_send fate (Ok d) s = record { port = d.port; lane = put fate d.frame s.lane; accepted = s.accepted; collected = s.collected }
after_send fate (Err e) s = s

-- After a receive, with what is left of the frames that came in.
abbrev pub after_receive : Result Arrival Refusal → Side → List Frame → Side × List Frame
after_receive (Ok r) s frames = (with_port r.port s, r.rest)
after_receive (Err e) s frames = (s, frames)

-- After a collect.
abbrev pub after_collect : Result Collected Refusal → Side → Side
after_collect (Ok r) s = record { port = r.port; lane = s.lane; accepted = s.accepted; collected = s.collected ++ (r.packet ∷ []) }
after_collect (Err e) s = s

module _ (n : ℕ) (w : Wire) where
  -- The side after any call, and the frames that come in: the side's lane has this limit, and a send's frame this fate.
  abbrev pub called : ℕ → Call → Fate → Side → List Frame → Side × List Frame
  called limit (submits load) fate s frames = (after_submit (submit n w load s.port) s, frames)
  called limit (sends buffer) fate s frames = (after_send fate (send n w buffer limit s.lane s.port) s, frames)
  called limit (receives buffer) fate s frames = after_receive (receive n w buffer frames s.port) s frames
  called limit (collects buffer) fate s frames = (after_collect (collect buffer s.port) s, frames)
  called limit times_out fate s frames = (with_port (time_out s.port).port s, frames)

-- The two sides.
pub record Link : Type 0 where
  pub a : Side
  pub b : Side

-- Two fresh ports and two empty lanes.
abbrev pub fresh_link : Places → Places → Link
fresh_link places_a places_b = record { a = fresh_side places_a; b = fresh_side places_b }

-- The lanes that a and b write have the limits la and lb.
module _ (n : ℕ) (w : Wire) (la lb : ℕ) where
  -- One step: a call at one of the two ports.
  abbrev pub step : PortId → Call → Fate → Link → Link
  step port_a call fate i = let r = called n w la call fate i.a i.b.lane in record { a = r.0; b = with_lane r.1 i.b }
  step port_b call fate i = let r = called n w lb call fate i.b i.a.lane in record { a = with_lane r.1 i.a; b = r.0 }

  -- A run: steps one after another, with any calls and any possible fates.
  pub data Run (i : Link) : Link → Type 0 where
    none : Run i i
    more : (j : Link) (x : PortId) (call : Call) (fate : Fate) → Possible w fate → Run i j → Run i (step x call fate j)

  -- The links that the runs from a fresh link come to.
  pub data Reached : Link → Type 0 where
    reached : (places_a places_b : Places) (i : Link) → Run (fresh_link places_a places_b) i → Reached i
