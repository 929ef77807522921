-- Facts of the definitions, as one list: six of sealed lengths and four of windows.
use Rattle.std.specs.Prelude.{◌≡◌, ℕ, ◌≢◌, List, [], ◌∷◌, ◌++◌, length, drop, Some}
use Rattle.symbol.specs.declared.codes.Stype0.TheVariants.{Response as SaysResponse}
use Rattle.symbol.specs.declared.codes.PortStatus.TheVariants.{Failed as StatusFailed}
use Rattle.symbol.specs.Codes.{status_of}
use Rattle.packet.specs.Facts.{facts as sealed_lengths}
use Rattle.rules.specs.declared.state.Output.TheVariants.{Running, AwaitingResponse, Failed}
use Rattle.rules.specs.Port.{Sender, after}
use Rattle.rules.specs.Hearing.{said}

-- Of 32 ackIDs, 0 comes after 31.
abbrev pub WrapsAround : Type 0
WrapsAround = after 32 31 1 ≡ 0

-- A response that expects the ackID k, and does not say that its port has failed, at a sender that awaits one.
abbrev pub AtResponse : ℕ → Sender → (Sender → Type 0) → Type 0
AtResponse k o P = (status : ℕ) → status ≢ status_of StatusFailed → o.output ≡ AwaitingResponse → P (said 32 o.output (Some SaysResponse) k status o)

-- The first d packets are freed, and the output runs.
abbrev pub Frees : ℕ → Sender → Sender → Type 0
Frees d o o' = (o'.held ≡ drop d o.held) × (o'.first ≡ after 32 o.first d) × (o'.output ≡ Running)

-- First 30 and high 4: response 2 frees four.
abbrev pub FreesAcross : Type 0
FreesAcross = (o : Sender) → o.first ≡ 30 → o.high ≡ 4 → AtResponse 2 o (Frees 4 o)

-- The same with response 3 fails.
abbrev pub FailsBeyond : Type 0
FailsBeyond = (o : Sender) → o.first ≡ 30 → o.high ≡ 4 → AtResponse 3 o (λ o'. o'.output ≡ Failed)

-- First 4, three held and ever sent, none sent since the last rewind: response 6 frees two and leaves one.
abbrev pub FreesAfterRewind : Type 0
FreesAfterRewind =
    (o : Sender) → o.first ≡ 4 → length o.held ≡ 3 → o.high ≡ 3 → o.sent ≡ 0
    → AtResponse 6 o (λ o'. Frees 2 o o' × (length o'.held ≡ 1) × (o'.high ≡ 1))

-- The facts of windows.
abbrev pub windows : List (Type 0)
windows = WrapsAround ∷ FreesAcross ∷ FailsBeyond ∷ FreesAfterRewind ∷ []

-- All of them.
abbrev pub facts : List (Type 0)
facts = sealed_lengths ++ windows
