-- The record of a run, kept beside the link: the packets accepted and collected at a port, in the order of the calls.
use Rattle.std.specs.Prelude.{ℕ, List, [], ◌∷◌, ◌++◌, take, Ok, Err, Result}
use Rattle.refusal.specs.declared.Refusal.{Refusal}
use Rattle.packet.specs.Sealing.{sealed_of}
use Rattle.lane.specs.Meaning.{Frames}
use Rattle.rules.specs.Wire.{Packet}
use Rattle.rules.specs.Port.{Port}
use Rattle.rules.specs.Link.{Side}
use Rattle.link.specs.declared.call.Outcome.{Outcome}
use Rattle.link.specs.declared.call.Outcome.TheVariants.{Submitted, Sent, Received, Collected, TimedOut}

pub record Log : Type 0 where
  pub accepted : List Packet
  pub collected : List Packet

-- The log after a call, by what the call answered and left in its buffer: an accepted load's packet, or the packet that
-- was copied to the buffer, is its last.
abbrev pub logged : List ℕ → Result Outcome Refusal → List ℕ → Log → Log
logged load (Ok Submitted) buffer l = record { accepted = l.accepted ++ (sealed_of load ∷ []); collected = l.collected }
logged load (Ok (Sent s)) buffer l = l
logged load (Ok (Received x)) buffer l = l
logged load (Ok (Collected n)) buffer l = record { accepted = l.accepted; collected = l.collected ++ (take n buffer ∷ []) }
logged load (Ok (TimedOut owes)) buffer l = l
logged load (Err e) buffer l = l

-- One side of a link in the rules' terms: a port, the frames on the lane that it writes, and its log.
abbrev pub side_of : Port → Frames → Log → Side
side_of p out l = record { port = p; lane = out; accepted = l.accepted; collected = l.collected }
