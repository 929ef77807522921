-- The phases of a recovery, in the order in which a link goes through them, the last first.
use Rattle.std.proofs.Common.{◌≡◌, ℕ, ◌<◌, ◌≢◌, ◌⊎◌, [], ◌∷◌, length}
use Rattle.symbol.specs.declared.codes.PortStatus.{PortStatus}
use Rattle.symbol.specs.Codes.{status_of}
use Rattle.rules.specs.declared.state.Input.TheVariants.{Ready}
use Rattle.rules.specs.declared.state.Output.TheVariants.{Running, OwingRequest, AwaitingResponse}
use Rattle.rules.specs.declared.state.Reply.TheVariants.{Accepted, Response}
use Rattle.rules.specs.Port.{Sender, after}
use Rattle.rules.specs.Link.{Side}

-- the output runs and holds nothing
pub record Idle (o : Sender) : Type 0 where
  pub runs : o.output ≡ Running
  pub free : o.held ≡ []

-- or it is about to ask
abbrev pub Calm : Sender → Type 0
Calm o = Idle o ⊎ (o.output ≡ OwingRequest)

-- between rounds no frame is under way, and b has no reply to send
pub record Lull (a b : Side) : Type 0 where
  pub a_lane : a.lane ≡ []
  pub b_lane : b.lane ≡ []
  pub b_pends : b.port.receiver.pending ≡ []

-- all is across
pub record Done (a b : Side) : Type 0 where
  pub lull : Lull a b
  pub a_pends : a.port.receiver.pending ≡ []
  pub a_idle : Idle a.port.sender
  pub b_idle : Idle b.port.sender
  pub a_waits : a.port.receiver.waiting ≡ []
  pub b_waits : b.port.receiver.waiting ≡ []

-- a has taken a packet of b, and its accepted is pending
pub record Taken (n : ℕ) (a b : Side) : Type 0 where
  pub lull : Lull a b
  pub k : ℕ
  pub a_pends : a.port.receiver.pending ≡ Accepted k ∷ []
  pub k_is : k ≡ b.port.sender.first
  pub a_idle : Idle a.port.sender
  pub a_ready : a.port.receiver.input ≡ Ready
  pub a_waits : a.port.receiver.waiting ≡ []
  pub a_expects : a.port.receiver.expected ≡ after n b.port.sender.first 1
  pub b_runs : b.port.sender.output ≡ Running
  pub b_sent : b.port.sender.sent ≡ 1
  pub b_holds : 0 < length b.port.sender.held

-- in the middle of a round: b sends next
pub record Middle (a b : Side) : Type 0 where
  pub lull : Lull a b
  pub a_pends : a.port.receiver.pending ≡ []
  pub a_idle : Idle a.port.sender
  pub a_ready : a.port.receiver.input ≡ Ready
  pub a_waits : a.port.receiver.waiting ≡ []
  pub a_expects : a.port.receiver.expected ≡ b.port.sender.first
  pub b_runs : b.port.sender.output ≡ Running
  pub b_sent : b.port.sender.sent ≡ 0
  pub b_waits : b.port.receiver.waiting ≡ []

-- b has asked, and a's response is pending
pub record Asked (a b : Side) : Type 0 where
  pub lull : Lull a b
  pub status : PortStatus
  pub a_pends : a.port.receiver.pending ≡ Response a.port.receiver.expected status ∷ []
  pub status_ok : status_of status ≢ 2
  pub a_idle : Idle a.port.sender
  pub a_ready : a.port.receiver.input ≡ Ready
  pub a_waits : a.port.receiver.waiting ≡ []
  pub b_awaits : b.port.sender.output ≡ AwaitingResponse

-- all of a's packets are across
pub record Across (a b : Side) : Type 0 where
  pub lull : Lull a b
  pub a_pends : a.port.receiver.pending ≡ []
  pub a_idle : Idle a.port.sender
  pub b_calm : Calm b.port.sender

-- a sends its packets
pub record Giving (a b : Side) : Type 0 where
  pub lull : Lull a b
  pub a_pends : a.port.receiver.pending ≡ []
  pub a_runs : a.port.sender.output ≡ Running
  pub a_sent : a.port.sender.sent ≡ 0
  pub b_ready : b.port.receiver.input ≡ Ready
  pub b_expects : b.port.receiver.expected ≡ a.port.sender.first
  pub b_waits : b.port.receiver.waiting ≡ []
  pub b_calm : Calm b.port.sender
