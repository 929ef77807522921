-- The wire format: how what a port sends becomes frames, and what a frame is read as.
use Rattle.std.specs.Prelude.{◌≡◌, ℕ, ◌<◌, ◌≤◌, List, length, Some, None, Option}
use Rattle.symbol.specs.declared.codes.Stype0.{Stype0}
use Rattle.symbol.specs.declared.codes.Stype0.TheVariants.{Accepted as SaysAccepted, Retry as SaysRetry, NotAccepted as SaysNotAccepted, Status as SaysStatus, Response as SaysResponse}
use Rattle.symbol.specs.declared.codes.Stype1.{Stype1}
use Rattle.symbol.specs.declared.codes.Stype1.TheVariants.{Restart as AsksRestart, Request as AsksRequest, Nop as AsksNop}
use Rattle.symbol.specs.declared.codes.Cause.{Cause}
use Rattle.symbol.specs.Codes.{cause_of, status_of}
use Rattle.rules.specs.declared.state.Reply.{Reply}
use Rattle.rules.specs.declared.state.Reply.TheVariants.{Accepted, Retry, NotAccepted, Response}

-- A sealed packet by its bytes, the first six bits zero.
abbrev pub Packet : Type 0
Packet = List ℕ

-- What a lane carries, by its bytes.
abbrev pub Frame : Type 0
Frame = List ℕ

-- A frame has 1 to 276 bytes.
abbrev pub FrameLength : Frame → Type 0
FrameLength f = (1 ≤ length f) × (length f ≤ 276)

-- What a frame is read as. A sound symbol has two halves: what it says, with two parameters, and what it asks;
-- a code that has no name is None. A sound packet has an ackID, and comes with its first six bits zero.
pub data Seen : Type 0 where
  symbol : Option Stype0 → ℕ → ℕ → Option Stype1 → Seen
  packet : ℕ → Packet → Seen
  unsound : Cause → Seen

-- The first half says nothing of packets.
abbrev pub SaysNothing : Option Stype0 → Type 0
SaysNothing None = Unit {0}
SaysNothing (Some SaysStatus) = Unit {0}
SaysNothing (Some SaysAccepted) = ⊥
SaysNothing (Some SaysRetry) = ⊥
SaysNothing (Some SaysNotAccepted) = ⊥
SaysNothing (Some SaysResponse) = ⊥

-- The second half asks nothing.
abbrev pub AsksNothing : Option Stype1 → Type 0
AsksNothing None = Unit {0}
AsksNothing (Some AsksNop) = Unit {0}
AsksNothing (Some AsksRestart) = ⊥
AsksNothing (Some AsksRequest) = ⊥

-- The ackID that a reply carries.
abbrev pub ack_id_of : Reply → ℕ
ack_id_of (Accepted k) = k
ack_id_of (Retry k) = k
ack_id_of (NotAccepted k cause) = k
ack_id_of (Response k status) = k

-- A reply as it is read: the second parameter is the cause or the state, and spare where there is neither.
abbrev pub seen_reply : Reply → ℕ → Option Stype1 → Seen
seen_reply (Accepted k) spare second = symbol (Some SaysAccepted) k spare second
seen_reply (Retry k) spare second = symbol (Some SaysRetry) k spare second
seen_reply (NotAccepted k cause) spare second = symbol (Some SaysNotAccepted) k (cause_of cause) second
seen_reply (Response k status) spare second = symbol (Some SaysResponse) k (status_of status) second

-- What is seen is this reply, and asks nothing.
pub record ReadsReply (reply : Reply) (seen : Seen) : Type 0 where
  pub spare : ℕ
  pub second : Option Stype1
  pub asks_nothing : AsksNothing second
  pub is : seen ≡ seen_reply reply spare second

-- What is seen asks this, and says nothing.
pub record ReadsAsking (asks : Stype1) (seen : Seen) : Type 0 where
  pub says : Option Stype0
  pub parameter0 : ℕ
  pub parameter1 : ℕ
  pub says_nothing : SaysNothing says
  pub is : seen ≡ symbol says parameter0 parameter1 (Some asks)

-- A wire format. A load is sealed to a packet, where its length allows it. A packet goes out stamped with its ackID,
-- a restart and a request with the ackID that their sender expects.
pub record Wire : Type 0 where
  pub seal : List ℕ → Option Packet
  pub stamp : ℕ → Packet → Frame
  pub reply : Reply → Frame
  pub restart : ℕ → Frame
  pub request : ℕ → Frame
  pub read : Frame → Seen

-- What is asked of a wire format under n ackIDs: all that is written is read back, and has a frame's length.
pub record Lawful (n : ℕ) (w : Wire) : Type 0 where
  pub reads_stamp : (k : ℕ) (load : List ℕ) (p : Packet) → k < n → w.seal load ≡ Some p → w.read (w.stamp k p) ≡ packet k p
  pub reads_reply : (y : Reply) → ack_id_of y < n → ReadsReply y (w.read (w.reply y))
  pub reads_restart : (k : ℕ) → k < n → ReadsAsking AsksRestart (w.read (w.restart k))
  pub reads_request : (k : ℕ) → k < n → ReadsAsking AsksRequest (w.read (w.request k))
  pub stamp_length : (k : ℕ) (load : List ℕ) (p : Packet) → k < n → w.seal load ≡ Some p → FrameLength (w.stamp k p)
  pub reply_length : (y : Reply) → ack_id_of y < n → FrameLength (w.reply y)
  pub restart_length : (k : ℕ) → k < n → FrameLength (w.restart k)
  pub request_length : (k : ℕ) → k < n → FrameLength (w.request k)
