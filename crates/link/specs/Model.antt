-- A link in code, in the rules' terms.
use Rattle.std.specs.Prelude.{◌≡◌, List}
use Rattle.lane.specs.declared.noisy.Fate.{Fate}
use Rattle.lane.specs.declared.noisy.Noisy.{Noisy}
use Rattle.lane.specs.Meaning.{Frames}
use Rattle.lane.specs.Plans.{plan_of}
use Rattle.rules.specs.declared.state.PortId.{PortId}
use Rattle.rules.specs.declared.state.PortId.TheVariants.{A as port_a, B as port_b}
use Rattle.port.specs.Model.{port_of}
use Rattle.link.specs.declared.Link.{Link}
use Rattle.link.specs.Joint.{Joint}

-- Its ports, and the frames that wait in its lanes.
abbrev pub joint_in : {A B : Type 0} → (A → Frames) → (B → Frames) → Link A B → Joint
joint_in waiting_a waiting_b l = record { a = port_of l.a; b = port_of l.b; from_a = waiting_a l.from_a; from_b = waiting_b l.from_b }

-- A lane starts this plan, and all that waits in it stays.
abbrev pub Starts : {L : Type 0} → List Fate → Noisy L → Noisy L → Type 0
Starts entries s t = (t.plan ≡ plan_of entries) × (t.next ≡ 0) × (t.below ≡ s.below)

-- The lane that a port writes starts a plan, and the other lane stays.
abbrev pub PlansAt : {A B : Type 0} → PortId → List Fate → Link (Noisy A) (Noisy B) → Link (Noisy A) (Noisy B) → Type 0
PlansAt port_a entries s t = Starts entries s.from_a t.from_a × (t.from_b ≡ s.from_b)
PlansAt port_b entries s t = Starts entries s.from_b t.from_b × (t.from_a ≡ s.from_a)
