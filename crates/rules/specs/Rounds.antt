-- Rounds of a link whose lanes keep every frame.
use Rattle.std.specs.Prelude.{◌≡◌, ℕ, zero, suc, ◌<◌, List, [], Err}
use Rattle.refusal.specs.declared.Refusal.TheVariants.{Nothing}
use Rattle.rules.specs.Wire.{Packet, Wire}
use Rattle.rules.specs.Port.{Places}
use Rattle.rules.specs.Calls.{send}
use Rattle.rules.specs.Link.{Side, Link, step}
use Rattle.rules.specs.Link.Fate.{keep}
use Rattle.rules.specs.declared.state.PortId.{PortId}
use Rattle.rules.specs.declared.state.PortId.TheVariants.{A as port_a, B as port_b}
use Rattle.rules.specs.Link.Call.{sends, receives, collects, times_out}

-- The packets that wait at a port.
abbrev pub waiting_at : PortId → Link → List Packet
waiting_at port_a i = i.a.port.receiver.waiting
waiting_at port_b i = i.b.port.receiver.waiting

-- Each queue of a port has a place, and the lane that it writes can carry a frame.
pub record Roomy (places : Places) (limit : ℕ) : Type 0 where
  pub for_replies : 0 < places.replies
  pub for_packets : 0 < places.packets
  pub for_frames : 0 < limit

-- No frame is under way from this side, and a send would find nothing to send.
pub record Quiet (n : ℕ) (w : Wire) (limit : ℕ) (s : Side) : Type 0 where
  pub no_frame : s.lane ≡ []
  pub nothing_due : send n w 276 limit s.lane s.port ≡ Err Nothing

module _ (n : ℕ) (w : Wire) (la lb : ℕ) where
  -- Port x collects until nothing waits there; a collect that is refused changes nothing.
  pub data Drains (x : PortId) : Link → Link → Type 0 where
    drained : (i : Link) → waiting_at x i ≡ [] → Drains x i i
    collecting : (i j : Link) → Drains x (step n w la lb x (collects 276) keep i) j → Drains x i j

  -- Port x sends, and port y receives and collects until nothing waits.
  abbrev pub Exchange : PortId → PortId → Link → Link → Type 0
  Exchange x y i j = Drains y (step n w la lb y (receives 276) keep (step n w la lb x (sends 276) keep i)) j

  -- A round: from a to b, then from b to a.
  pub record Round (i k : Link) : Type 0 where
    pub middle : Link
    pub there : Exchange port_a port_b i middle
    pub back : Exchange port_b port_a middle k

  -- So many rounds.
  pub data Rounds : ℕ → Link → Link → Type 0 where
    none : (i : Link) → Rounds zero i i
    one_more : (m : ℕ) (i j k : Link) → Round i j → Rounds m j k → Rounds (suc m) i k

  -- One time-out at each port, in either order.
  pub data TimeOuts (i : Link) : Link → Type 0 where
    a_first : TimeOuts i (step n w la lb port_b times_out keep (step n w la lb port_a times_out keep i))
    b_first : TimeOuts i (step n w la lb port_a times_out keep (step n w la lb port_b times_out keep i))

  -- One time-out at each port, and then m rounds.
  pub record Recovery (m : ℕ) (i k : Link) : Type 0 where
    pub timed_out : Link
    pub time_outs : TimeOuts i timed_out
    pub rounds : Rounds m timed_out k
