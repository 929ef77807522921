-- What a frame that a port receives makes of it.
use Rattle.std.specs.Prelude.{ℕ, ◌-◌, Bool, true, false, ◌&&◌, [], ◌∷◌, ◌++◌, drop, Some, None, Option, ◌==◌, nat_lt}
use Rattle.symbol.specs.declared.codes.Stype0.{Stype0}
use Rattle.symbol.specs.declared.codes.Stype0.TheVariants.{Accepted as SaysAccepted, Retry as SaysRetry, NotAccepted as SaysNotAccepted, Status as SaysStatus, Response as SaysResponse}
use Rattle.symbol.specs.declared.codes.Stype1.{Stype1}
use Rattle.symbol.specs.declared.codes.Stype1.TheVariants.{Restart as AsksRestart, Request as AsksRequest, Nop as AsksNop}
use Rattle.symbol.specs.declared.codes.Cause.{Cause}
use Rattle.symbol.specs.declared.codes.Cause.TheVariants.{UnexpectedAckId, SymbolCheck, PacketCheck, InvalidCharacter}
use Rattle.symbol.specs.declared.codes.PortStatus.{PortStatus}
use Rattle.symbol.specs.declared.codes.PortStatus.TheVariants.{Ready as StatusReady, RetryStopped as StatusRetryStopped, ErrorStopped as StatusErrorStopped, Failed as StatusFailed}
use Rattle.symbol.specs.Codes.{status_of}
use Rattle.rules.specs.declared.state.Input.{Input}
use Rattle.rules.specs.declared.state.Input.TheVariants.{Ready, RetryStopped as InputRetryStopped, ErrorStopped}
use Rattle.rules.specs.declared.state.Output.{Output}
use Rattle.rules.specs.declared.state.Output.TheVariants.{Running, RetryStopped as OutputRetryStopped, OwingRequest, AwaitingResponse, Failed}
use Rattle.rules.specs.declared.state.Reply.{Reply}
use Rattle.rules.specs.declared.state.Reply.TheVariants.{Accepted, Retry, NotAccepted, Response}
use Rattle.rules.specs.Wire.{Packet, Seen}
use Rattle.rules.specs.Wire.Seen.{symbol, packet, unsound}
use Rattle.rules.specs.Port.{Sender, Receiver, Places, Port, with_sender, with_receiver, after, distance, has_slot}

-- The first half of a symbol, at the sending half ------------------------------------------------------------

-- The output turns to x.
abbrev pub turned : Output → Sender → Sender
turned x o = record { held = o.held; first = o.first; sent = o.sent; high = o.high; output = x }

-- The first d packets held are freed, s of the others count as sent, and output runs.
abbrev pub freed : ℕ → ℕ → ℕ → Sender → Sender
freed n d s o = record { held = drop d o.held; first = after n o.first d; sent = s; high = o.high - d; output = Running }

-- Whether a reply with ackID k is about the first packet held, and that was sent.
abbrev pub means_first : ℕ → Sender → Bool
means_first k o = nat_lt 0 o.sent && k == o.first

-- An accepted at a running output frees the first packet held; one about any other packet gives owing a request.
abbrev pub acknowledged : ℕ → Bool → Sender → Sender
acknowledged n true o = freed n 1 (o.sent - 1) o
acknowledged n false o = turned OwingRequest o

-- A retry at a running output rewinds: all held packets are sent again, after a restart.
abbrev pub rewound : Bool → Sender → Sender
rewound true o = record { held = o.held; first = o.first; sent = 0; high = o.high; output = OutputRetryStopped }
rewound false o = turned OwingRequest o

-- Whether d packets are more than were ever sent.
abbrev pub beyond : ℕ → Sender → Bool
beyond d o = nat_lt o.high d

-- An awaited response, by whether it says that its port has failed, and whether it is beyond what was ever sent: either
-- fails; else the d packets before the one that it expects are freed, and the others are sent again.
abbrev pub responded : ℕ → Bool → Bool → ℕ → Sender → Sender
responded n true far d o = turned Failed o
responded n false true d o = turned Failed o
responded n false false d o = freed n d 0 o

-- A response that expects the ackID k.
abbrev pub response : ℕ → ℕ → ℕ → Sender → Sender
response n k status o = let d = distance n k o.first in responded n (status == status_of StatusFailed) (beyond d o) d o

-- What it says, with ackID k and second parameter q, by the output.
abbrev pub said : ℕ → Output → Option Stype0 → ℕ → ℕ → Sender → Sender
said n x None k q o = o
said n x (Some SaysStatus) k q o = o
said n Running (Some SaysAccepted) k q o = acknowledged n (means_first k o) o
said n Running (Some SaysRetry) k q o = rewound (means_first k o) o
said n Running (Some SaysNotAccepted) k q o = turned OwingRequest o
said n Running (Some SaysResponse) k q o = turned OwingRequest o
said n OutputRetryStopped (Some SaysAccepted) k q o = turned OwingRequest o
said n OutputRetryStopped (Some SaysRetry) k q o = turned OwingRequest o
said n OutputRetryStopped (Some SaysNotAccepted) k q o = turned OwingRequest o
said n OutputRetryStopped (Some SaysResponse) k q o = turned OwingRequest o
said n OwingRequest (Some SaysAccepted) k q o = o
said n OwingRequest (Some SaysRetry) k q o = o
said n OwingRequest (Some SaysNotAccepted) k q o = o
said n OwingRequest (Some SaysResponse) k q o = o
said n AwaitingResponse (Some SaysAccepted) k q o = o
said n AwaitingResponse (Some SaysRetry) k q o = o
said n AwaitingResponse (Some SaysNotAccepted) k q o = o
said n AwaitingResponse (Some SaysResponse) k q o = response n k q o
said n Failed (Some SaysAccepted) k q o = o
said n Failed (Some SaysRetry) k q o = o
said n Failed (Some SaysNotAccepted) k q o = o
said n Failed (Some SaysResponse) k q o = o

-- The second half of a symbol, and other frames, at the receiving half ---------------------------------------

-- The input turns to x, and a reply is pended.
abbrev pub pended : Input → Reply → Receiver → Receiver
pended x y r = record { input = x; expected = r.expected; pending = r.pending ++ (y ∷ []); waiting = r.waiting }

-- The input's state, as a response gives it.
abbrev pub status_for : Input → PortStatus
status_for Ready = StatusReady
status_for InputRetryStopped = StatusRetryStopped
status_for ErrorStopped = StatusErrorStopped

-- What a symbol asks, by the input: a request is answered with the input's state and makes it ready, and a restart
-- makes a retry-stopped input ready.
abbrev pub asked : Input → Option Stype1 → Receiver → Receiver
asked x None r = r
asked x (Some AsksNop) r = r
asked x (Some AsksRequest) r = pended Ready (Response r.expected (status_for x)) r
asked Ready (Some AsksRestart) r = r
asked InputRetryStopped (Some AsksRestart) r = record { input = Ready; expected = r.expected; pending = r.pending; waiting = r.waiting }
asked ErrorStopped (Some AsksRestart) r = r

-- Whether the ackID k is the one expected.
abbrev pub is_expected : ℕ → Receiver → Bool
is_expected k r = k == r.expected

-- The packet p with ackID k at a ready input, by whether it is the one expected, and whether there is a free slot.
abbrev pub taken : ℕ → Bool → Bool → ℕ → Packet → Receiver → Receiver
taken n false slot k p r = pended ErrorStopped (NotAccepted r.expected UnexpectedAckId) r
taken n true false k p r = pended InputRetryStopped (Retry r.expected) r
taken n true true k p r =
    record { input = Ready; expected = after n r.expected 1; pending = r.pending ++ (Accepted k ∷ []); waiting = r.waiting ++ (p ∷ []) }

-- A packet, by the input: one that is not ready takes none.
abbrev pub arrived : ℕ → Places → Input → ℕ → Packet → Receiver → Receiver
arrived n places Ready k p r = taken n (is_expected k r) (has_slot places r.waiting) k p r
arrived n places InputRetryStopped k p r = r
arrived n places ErrorStopped k p r = r

-- An unsound frame, by the input: a retry-stopped one takes only a symbol's check and invalid characters as an error.
abbrev pub rejected : Input → Cause → Receiver → Receiver
rejected Ready c r = pended ErrorStopped (NotAccepted r.expected c) r
rejected InputRetryStopped SymbolCheck r = pended ErrorStopped (NotAccepted r.expected SymbolCheck) r
rejected InputRetryStopped InvalidCharacter r = pended ErrorStopped (NotAccepted r.expected InvalidCharacter) r
rejected InputRetryStopped UnexpectedAckId r = r
rejected InputRetryStopped PacketCheck r = r
rejected ErrorStopped c r = r

-- Any frame, at the whole port -------------------------------------------------------------------------------

-- What a symbol says acts on the sending half.
abbrev pub first_half : ℕ → Option Stype0 → ℕ → ℕ → Port → Port
first_half n says k q p = with_sender (said n p.sender.output says k q p.sender) p

-- What it asks acts on the receiving half.
abbrev pub second_half : Option Stype1 → Port → Port
second_half asks p = with_receiver (asked p.receiver.input asks p.receiver) p

-- What was seen acts on the port; of a symbol the first half acts first.
abbrev pub heard : ℕ → Seen → Port → Port
heard n (symbol says k q asks) p = second_half asks (first_half n says k q p)
heard n (packet k x) p = with_receiver (arrived n p.places p.receiver.input k x p.receiver) p
heard n (unsound c) p = with_receiver (rejected p.receiver.input c p.receiver) p
