-- The codes that have a name, each with its number.
use Rattle.std.specs.Prelude.{◌≡◌, ℕ, Ok, Err, Result}
use Rattle.symbol.specs.declared.Symbol.{Symbol}
use Rattle.symbol.specs.declared.codes.NoName.{NoName}
use Rattle.symbol.specs.declared.codes.Stype0.{Stype0}
use Rattle.symbol.specs.declared.codes.Stype0.TheVariants.{Accepted, Retry, NotAccepted, Status, Response}
use Rattle.symbol.specs.declared.codes.Stype1.{Stype1}
use Rattle.symbol.specs.declared.codes.Stype1.TheVariants.{Restart, Request, Nop}
use Rattle.symbol.specs.declared.codes.Cause.{Cause}
use Rattle.symbol.specs.declared.codes.Cause.TheVariants.{UnexpectedAckId, SymbolCheck, PacketCheck, InvalidCharacter}
use Rattle.symbol.specs.declared.codes.PortStatus.{PortStatus}
use Rattle.symbol.specs.declared.codes.PortStatus.TheVariants.{Ready, RetryStopped, ErrorStopped, Failed}

-- What a symbol says first: of a packet, or of the port that sends the symbol.
abbrev pub stype0_of : Stype0 → ℕ
stype0_of Accepted = 0
stype0_of Retry = 1
stype0_of NotAccepted = 2
stype0_of Status = 4
stype0_of Response = 6

-- What a symbol asks of its receiver.
abbrev pub stype1_of : Stype1 → ℕ
stype1_of Restart = 3
stype1_of Request = 4
stype1_of Nop = 7

-- The command that goes with it: 4 asks for the input's state, and an unused command is sent as 0.
abbrev pub cmd_of : Stype1 → ℕ
cmd_of Restart = 0
cmd_of Request = 4
cmd_of Nop = 0

-- The stype1 and cmd fields that mean it: only a request looks at the command.
abbrev pub Means : Stype1 → ℕ → ℕ → Type 0
Means Restart stype1 cmd = stype1 ≡ 3
Means Request stype1 cmd = (stype1 ≡ 4) × (cmd ≡ 4)
Means Nop stype1 cmd = stype1 ≡ 7

-- The symbol that says this, with an ackID and a second parameter, and asks that.
abbrev pub symbol_of : Stype0 → ℕ → ℕ → Stype1 → Symbol
symbol_of says k q asks = record { stype0 = stype0_of says; parameter0 = k; parameter1 = q; stype1 = stype1_of asks; cmd = cmd_of asks }

-- Why a packet was not accepted.
abbrev pub cause_of : Cause → ℕ
cause_of UnexpectedAckId = 1
cause_of SymbolCheck = 2
cause_of PacketCheck = 4
cause_of InvalidCharacter = 5

-- The state of a port, as a response gives it.
abbrev pub status_of : PortStatus → ℕ
status_of Ready = 16
status_of RetryStopped = 4
status_of ErrorStopped = 5
status_of Failed = 2

-- The name of the two fields stype1 and cmd is one that they mean, and they have none where they mean none.
abbrev pub NamesBoth : ℕ × ℕ → Result Stype1 NoName → Type 0
NamesBoth codes (Ok name) = Means name codes.0 codes.1
NamesBoth codes (Err e) = (name : Stype1) → Means name codes.0 codes.1 → ⊥
