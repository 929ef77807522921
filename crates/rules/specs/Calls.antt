-- The five calls at a port: what each answers and leaves, or why it is refused. A refused call leaves all as it was.
use Rattle.std.specs.Prelude.{ℕ, ◌+◌, max, Bool, true, false, List, [], ◌∷◌, length, Some, None, Ok, Err, Option, Result, nat_le, nat_lt, slice_index_or}
use Rattle.refusal.specs.declared.Refusal.{Refusal}
use Rattle.refusal.specs.declared.Refusal.TheVariants.{LoadLength, WindowFull, LaneFull, Nothing, RepliesFull, ShortBuffer}
use Rattle.rules.specs.declared.state.Output.{Output}
use Rattle.rules.specs.declared.state.Output.TheVariants.{Running, RetryStopped as OutputRetryStopped, OwingRequest, AwaitingResponse, Failed}
use Rattle.rules.specs.declared.state.Reply.{Reply}
use Rattle.rules.specs.declared.state.Sent.{Sent}
use Rattle.rules.specs.declared.state.Sent.TheVariants.{Reply as SentReply, Restart as SentRestart, Request as SentRequest, Packet as SentPacket}
use Rattle.rules.specs.declared.state.Received.{Received}
use Rattle.rules.specs.declared.state.Received.TheVariants.{Symbol as ReceivedSymbol, Packet as ReceivedPacket, Unsound as ReceivedUnsound}
use Rattle.rules.specs.Wire.{Packet, Frame, Seen, Wire}
use Rattle.rules.specs.Wire.Seen.{symbol, packet, unsound}
use Rattle.rules.specs.Port.{Sender, Receiver, Port, with_sender, with_receiver, after, most_held, ordered}
use Rattle.rules.specs.Hearing.{turned, heard}

-- Refused with e where the test holds.
abbrev pub refused_if : {A : Type 0} → Bool → Refusal → Result A Refusal → Result A Refusal
refused_if true e r = Err e
refused_if false e r = r

-- The buffers that frames and packets are copied to have at least 276 bytes.
abbrev pub too_short : ℕ → Bool
too_short buffer = nat_lt buffer 276

-- Submit: the load is sealed and held ------------------------------------------------------------------------

-- A submit that is handled: the packet that is now held, and the port.
pub record Submitted : Type 0 where
  pub packet : Packet
  pub port : Port

-- The sending half with one packet more held.
abbrev pub holding : Packet → Sender → Sender
holding x o = record { held = ordered o.held x; first = o.first; sent = o.sent; high = o.high; output = o.output }

-- Refused first where the load does not seal, then where as many are held as may be.
abbrev pub submit_sealed : ℕ → Option Packet → Port → Result Submitted Refusal
submit_sealed n None p = Err LoadLength
submit_sealed n (Some x) p =
    refused_if (nat_le (most_held n) (length p.sender.held)) WindowFull (Ok (record { packet = x; port = with_sender (holding x p.sender) p }))

-- The call, with a load.
abbrev pub submit : ℕ → Wire → List ℕ → Port → Result Submitted Refusal
submit n w load p = submit_sealed n (w.seal load) p

-- Send: a frame goes out, the first of reply, restart, request and packet that is due --------------------------

-- A send that is handled: what went out, its frame, and the port.
pub record Departure : Type 0 where
  pub answer : Sent
  pub frame : Frame
  pub port : Port

-- The packet at place sent goes out.
abbrev pub one_more_sent : Sender → Sender
one_more_sent o = record { held = o.held; first = o.first; sent = o.sent + 1; high = max o.high (o.sent + 1); output = Running }

-- A restart goes out: output runs, and the held packets keep their order.
abbrev pub resumed : Sender → Sender
resumed o = turned Running o

-- The receiving half with these replies left to send.
abbrev pub leaving : List Reply → Receiver → Receiver
leaving ys r = record { input = r.input; expected = r.expected; pending = ys; waiting = r.waiting }

module _ (n : ℕ) (w : Wire) where
  -- A packet is due where one is held that was not sent since the last rewind.
  abbrev pub due_packet : Bool → Port → Option Departure
  due_packet true p =
      Some
      (record {
        answer = SentPacket;
        frame = w.stamp (after n p.sender.first p.sender.sent) (slice_index_or p.sender.held p.sender.sent []);
        port = with_sender (one_more_sent p.sender) p;
      })
  due_packet false p = None

  -- By the output: a restart, a request or a packet.
  abbrev pub due_by_output : Output → Port → Option Departure
  due_by_output Running p = due_packet (nat_lt p.sender.sent (length p.sender.held)) p
  due_by_output OutputRetryStopped p =
      Some (record { answer = SentRestart; frame = w.restart p.receiver.expected; port = with_sender (resumed p.sender) p })
  due_by_output OwingRequest p =
      Some (record { answer = SentRequest; frame = w.request p.receiver.expected; port = with_sender (turned AwaitingResponse p.sender) p })
  due_by_output AwaitingResponse p = None
  due_by_output Failed p = None

  -- The oldest pending reply comes before all else.
  abbrev pub due_by_replies : List Reply → Port → Option Departure
  due_by_replies [] p = due_by_output p.sender.output p
  due_by_replies (y ∷ ys) p = Some (record { answer = SentReply; frame = w.reply y; port = with_receiver (leaving ys p.receiver) p })

  -- What is due, if anything.
  abbrev pub due : Port → Option Departure
  due p = due_by_replies p.receiver.pending p

-- It goes onto a lane of this limit, on which the frames wait: refused first where nothing is due, then where the lane is full.
abbrev pub send_due : ℕ → List Frame → Option Departure → Result Departure Refusal
send_due limit frames None = Err Nothing
send_due limit frames (Some d) = refused_if (nat_le limit (length frames)) LaneFull (Ok d)

-- The call, with a buffer of so many bytes; a buffer that is too short is refused first.
abbrev pub send : ℕ → Wire → ℕ → ℕ → List Frame → Port → Result Departure Refusal
send n w buffer limit frames p = refused_if (too_short buffer) ShortBuffer (send_due limit frames (due n w p))

-- Receive: the first frame on the lane is taken and acts on the port ------------------------------------------

-- A receive that is handled: what the frame was, the frame, what is left on the lane, and the port.
pub record Arrival : Type 0 where
  pub answer : Received
  pub frame : Frame
  pub rest : List Frame
  pub port : Port

-- The answer, by what was seen.
abbrev pub received_as : Seen → Received
received_as (symbol says k q asks) = ReceivedSymbol
received_as (packet k x) = ReceivedPacket
received_as (unsound c) = ReceivedUnsound

-- The front of the lane, if there is one.
abbrev pub receive_first : ℕ → Wire → List Frame → Port → Result Arrival Refusal
receive_first n w [] p = Err Nothing
receive_first n w (f ∷ rest) p = Ok (record { answer = received_as (w.read f); frame = f; rest = rest; port = heard n (w.read f) p })

-- The call, with a buffer of so many bytes: refused first where that is too short, then where the queue of replies has no
-- place, whether or not the frame will ask for a reply, then where no frame waits.
abbrev pub receive : ℕ → Wire → ℕ → List Frame → Port → Result Arrival Refusal
receive n w buffer frames p =
    refused_if (too_short buffer) ShortBuffer
    (refused_if (nat_le p.places.replies (length p.receiver.pending)) RepliesFull (receive_first n w frames p))

-- Collect: the oldest waiting packet is handed out ------------------------------------------------------------

-- A collect that is handled: the packet, and the port.
pub record Collected : Type 0 where
  pub packet : Packet
  pub port : Port

-- The receiving half with these packets left to collect.
abbrev pub keeping : List Packet → Receiver → Receiver
keeping xs r = record { input = r.input; expected = r.expected; pending = r.pending; waiting = xs }

-- The oldest, if one waits.
abbrev pub collect_first : List Packet → Port → Result Collected Refusal
collect_first [] p = Err Nothing
collect_first (x ∷ xs) p = Ok (record { packet = x; port = with_receiver (keeping xs p.receiver) p })

-- The call, with a buffer of so many bytes: refused first where that is too short, then where nothing waits.
abbrev pub collect : ℕ → Port → Result Collected Refusal
collect buffer p = refused_if (too_short buffer) ShortBuffer (collect_first p.receiver.waiting p)

-- Time-out: what was sent and stays unanswered is asked for ----------------------------------------------------

-- A time-out, which is never refused: whether it turned the output into owing a request, and the port.
pub record TimedOut : Type 0 where
  pub owes : Bool
  pub port : Port

-- Whether an output waits for an answer: it runs with packets sent, or awaits a response.
abbrev pub overdue_by : Output → ℕ → Bool
overdue_by Running sent = nat_lt 0 sent
overdue_by OutputRetryStopped sent = false
overdue_by OwingRequest sent = false
overdue_by AwaitingResponse sent = true
overdue_by Failed sent = false

-- The same of a sending half.
abbrev pub overdue : Sender → Bool
overdue o = overdue_by o.output o.sent

-- Where it does, it asks.
abbrev pub asking : Bool → Sender → Sender
asking true o = turned OwingRequest o
asking false o = o

-- The call.
abbrev pub time_out : Port → TimedOut
time_out p = let owes = overdue p.sender in record { owes = owes; port = with_sender (asking owes p.sender) p }
