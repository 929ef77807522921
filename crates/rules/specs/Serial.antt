-- The serial format (RapidIO Part 6, revision 1.3) as a wire format with 32 ackIDs: the symbol and packet crates' layouts.
use Rattle.std.specs.Prelude.{◌≡◌, ℕ, ◌%◌, Bool, cond, ◌&&◌, List, [], ◌∷◌, length, Some, None, Option, Result, ◌==◌, nat_le}
use Rattle.std.specs.Result.{result_ok}
use Rattle.refusal.specs.Naming.{Names}
use Rattle.symbol.specs.declared.Symbol.{Symbol}
use Rattle.symbol.specs.declared.codes.NoName.{NoName}
use Rattle.symbol.specs.declared.codes.Stype0.{Stype0}
use Rattle.symbol.specs.declared.codes.Stype0.TheVariants.{Accepted as SaysAccepted, Retry as SaysRetry, NotAccepted as SaysNotAccepted, Status as SaysStatus, Response as SaysResponse}
use Rattle.symbol.specs.declared.codes.Stype1.{Stype1}
use Rattle.symbol.specs.declared.codes.Stype1.TheVariants.{Restart as AsksRestart, Request as AsksRequest, Nop as AsksNop}
use Rattle.symbol.specs.Codes.{stype0_of, stype1_of, cmd_of, cause_of, status_of, NamesBoth, symbol_of}
use Rattle.symbol.specs.Layout.{written_of}
use Rattle.packet.specs.declared.frame.Kind.{Kind}
use Rattle.packet.specs.declared.frame.Kind.TheVariants.{Symbol as KindSymbol, Packet as KindPacket, Unsound as KindUnsound}
use Rattle.packet.specs.Crc.{cleared_of}
use Rattle.packet.specs.Header.{ack_id_of, stamped_of}
use Rattle.packet.specs.Sealing.{Sealable, sealed_of}
use Rattle.packet.specs.Frames.{kind_of, UnsoundFrame}
use Rattle.rules.specs.declared.state.Reply.{Reply}
use Rattle.rules.specs.declared.state.Reply.TheVariants.{Accepted, Retry, NotAccepted, Response}
use Rattle.rules.specs.Wire.{Frame, FrameLength, Seen, Wire}
use Rattle.rules.specs.Wire.Seen.{symbol, packet, unsound}
use Rattle.rules.specs.Link.{Link, Reached, Possible}
use Rattle.rules.specs.Link.Fate.{spoil}
use Rattle.rules.specs.Delivery.{Delivers}

-- What is written ---------------------------------------------------------------------------------------------

-- The second parameter where there is neither a cause nor a state: it announces receiver-controlled flow.
abbrev pub receiver_controlled : ℕ
receiver_controlled = 31

-- A reply's symbol asks nothing.
abbrev pub reply_symbol : Reply → Symbol
reply_symbol (Accepted k) = symbol_of SaysAccepted k receiver_controlled AsksNop
reply_symbol (Retry k) = symbol_of SaysRetry k receiver_controlled AsksNop
reply_symbol (NotAccepted k cause) = symbol_of SaysNotAccepted k (cause_of cause) AsksNop
reply_symbol (Response k status) = symbol_of SaysResponse k (status_of status) AsksNop

-- What asks something goes with a status, which carries the ackID that its sender expects.
abbrev pub asking_symbol : Stype1 → ℕ → Symbol
asking_symbol asks k = symbol_of SaysStatus k receiver_controlled asks

-- Whether a load may have n bytes: an even number, 6 to 272.
abbrev pub is_load : ℕ → Bool
is_load n = n % 2 == 0 && (nat_le 6 n && nat_le n 272)

-- What is read ------------------------------------------------------------------------------------------------

-- The one of these names whose number is the code, if there is one.
abbrev pub named : {A : Type 0} → (A → ℕ) → List A → ℕ → Option A
named number_of [] code = None
named number_of (name ∷ names) code = cond (number_of name == code) (Some name) (named number_of names code)

-- What the first half says.
abbrev pub says_of : ℕ → Option Stype0
says_of stype0 = named stype0_of (SaysAccepted ∷ SaysRetry ∷ SaysNotAccepted ∷ SaysStatus ∷ SaysResponse ∷ []) stype0

-- Of what the second half asks only a request looks at the command.
abbrev pub commanded : ℕ → Option Stype1 → Option Stype1
commanded cmd None = None
commanded cmd (Some AsksRestart) = Some AsksRestart
commanded cmd (Some AsksRequest) = cond (cmd_of AsksRequest == cmd) (Some AsksRequest) None
commanded cmd (Some AsksNop) = Some AsksNop

-- What the second half asks.
abbrev pub asks_of : ℕ → ℕ → Option Stype1
asks_of stype1 cmd = commanded cmd (named stype1_of (AsksRestart ∷ AsksRequest ∷ AsksNop ∷ []) stype1)

-- The ackID that was found; a sound packet has one.
abbrev pub ack_id_in : Option ℕ → ℕ
ack_id_in (Some k) = k
ack_id_in None = 0

-- What a frame of this kind is read as.
abbrev pub seen_as : Frame → Kind → Seen
seen_as f (KindSymbol s) = symbol (says_of s.stype0) s.parameter0 s.parameter1 (asks_of s.stype1 s.cmd)
seen_as f KindPacket = packet (ack_id_in (ack_id_of f)) (cleared_of f)
seen_as f (KindUnsound cause) = unsound cause

-- The format, and the law of it ---------------------------------------------------------------------------------

-- The serial format.
abbrev pub serial : Wire
serial =
    record {
      seal = λ load. cond (is_load (length load)) (Some (sealed_of load)) None;
      stamp = stamped_of;
      reply = λ y. written_of (reply_symbol y);
      restart = λ k. written_of (asking_symbol AsksRestart k);
      request = λ k. written_of (asking_symbol AsksRequest k);
      read = λ f. seen_as f (kind_of f);
    }

-- It seals the loads that the packet crate seals.
abbrev pub SealsLoads : Type 0
SealsLoads =
    (load : List ℕ)
    → (Sealable (length load) → serial.seal load ≡ Some (sealed_of load)) × ((Sealable (length load) → ⊥) → serial.seal load ≡ None)

-- It has the symbol crate's names for codes.
abbrev pub ReadsNames : Type 0
ReadsNames =
    ((code : ℕ) (name : Result Stype0 NoName) → Names stype0_of code name → says_of code ≡ result_ok name)
    × ((codes : ℕ × ℕ) (name : Result Stype1 NoName) → NamesBoth codes name → asks_of codes.0 codes.1 ≡ result_ok name)

-- A lane may have any unsound frame in place of another.
abbrev pub SpoilsByUnsound : Type 0
SpoilsByUnsound = (u : Frame) → FrameLength u → UnsoundFrame u → Possible serial (spoil u)

-- With n ackIDs every run over serial frames delivers.
abbrev pub SerialDelivery : ℕ → Type 0
SerialDelivery n = (la lb : ℕ) (i : Link) → Reached n serial la lb i → Delivers n serial la lb i
