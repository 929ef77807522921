-- A whole link in the rules' terms: what a call at one of its ports does, and the delivery promise of it.
use Rattle.std.specs.Prelude.{◌≡◌, ℕ, List, [], Result}
use Rattle.refusal.specs.declared.Refusal.{Refusal}
use Rattle.lane.specs.Meaning.{Frames}
use Rattle.rules.specs.declared.state.PortId.{PortId}
use Rattle.rules.specs.declared.state.PortId.TheVariants.{A as port_a, B as port_b}
use Rattle.rules.specs.Port.{Port, Places, fresh}
use Rattle.rules.specs.Link.{Link, Reached}
use Rattle.rules.specs.Delivery.{Delivers}
use Rattle.rules.specs.Serial.{serial}
use Rattle.link.specs.declared.call.Call.{Call}
use Rattle.link.specs.declared.call.Outcome.{Outcome}
use Rattle.link.specs.Performing.{Scene, Does}
use Rattle.link.specs.Recorded.{Log, logged, side_of}

-- Two ports, and the frames on the lanes that they write.
pub record Joint : Type 0 where
  pub a : Port
  pub b : Port
  pub from_a : Frames
  pub from_b : Frames

-- What a call at a port reads and leaves of the link.
abbrev pub scene_at : PortId → Joint → List ℕ → Scene
scene_at port_a i buffer = record { port = i.a; out = i.from_a; incoming = i.from_b; buffer = buffer }
scene_at port_b i buffer = record { port = i.b; out = i.from_b; incoming = i.from_a; buffer = buffer }

-- A port of the link.
abbrev pub port_at : PortId → Joint → Port
port_at port_a i = i.a
port_at port_b i = i.b

-- The other port.
abbrev pub other : PortId → PortId
other port_a = port_b
other port_b = port_a

-- The limit of the lane that a port writes.
abbrev pub limit_at : ℕ → ℕ → PortId → ℕ
limit_at la lb port_a = la
limit_at la lb port_b = lb

-- A call at one port does there what the rules say, and leaves the other port as it was.
abbrev pub Performs : ℕ → ℕ → PortId → Call → List ℕ → Joint → List ℕ → Result Outcome Refusal → Joint → List ℕ → Type 0
Performs la lb at call load i buffer r j buffer' = Does (limit_at la lb at) call load (scene_at at i buffer) r (scene_at at j buffer') × (port_at (other at) j ≡ port_at (other at) i)

-- The record of a run: the logs of both ports.
pub record Record : Type 0 where
  pub a : Log
  pub b : Log

abbrev pub empty_record : Record
empty_record = record { a = record { accepted = []; collected = [] }; b = record { accepted = []; collected = [] } }

-- The record after a call at one port.
abbrev pub recorded : PortId → List ℕ → Result Outcome Refusal → List ℕ → Record → Record
recorded port_a load r buffer k = record { a = logged load r buffer k.a; b = k.b }
recorded port_b load r buffer k = record { a = k.a; b = logged load r buffer k.b }

-- The link with its record, as the rules have it.
abbrev pub link_of : Joint → Record → Link
link_of i k = record { a = side_of i.a i.from_a k.a; b = side_of i.b i.from_b k.b }

-- The link was reached from a fresh one by some run with this record, and delivers.
abbrev pub Delivering : ℕ → ℕ → Joint → Record → Type 0
Delivering la lb i k = Reached 32 serial la lb (link_of i k) × Delivers 32 serial la lb (link_of i k)

-- The delivery promise of a call: whatever run brought the link here, with whatever record, that run and this call bring
-- it to where it is now, with the record extended by the call, and all that the delivery law says holds there.
abbrev pub KeepsDelivering : ℕ → ℕ → PortId → List ℕ → Joint → Result Outcome Refusal → Joint → List ℕ → Type 0
KeepsDelivering la lb at load i r j buffer' = (k : Record) → Reached 32 serial la lb (link_of i k) → Delivering la lb j (recorded at load r buffer' k)

-- A link of two fresh ports and two empty lanes is one that a run of no calls brings about.
abbrev pub StartsDelivering : ℕ → ℕ → Joint → Type 0
StartsDelivering la lb i = (places_a places_b : Places) → i.a ≡ fresh places_a → i.b ≡ fresh places_b → i.from_a ≡ [] → i.from_b ≡ [] → Delivering la lb i empty_record
