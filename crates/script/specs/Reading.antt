-- How a line is written, and what it is to read one. Fields are parted by a tab, byte 9.
use Rattle.std.specs.Prelude.{◌≡◌, ℕ, ◌+◌, ◌-◌, ◌*◌, ◌%◌, ◌<◌, ◌≤◌, List, [], ◌∷◌, ◌++◌, map, length, replicate, All, Ok, Err, Result}
use Rattle.std.specs.Char.{digit_value}
use Rattle.refusal.specs.declared.Refusal.TheVariants.{NoSuchLine}
use Rattle.lane.specs.declared.noisy.Fate.{Fate}
use Rattle.lane.specs.declared.noisy.Fate.TheVariants.{Keep}
use Rattle.rules.specs.declared.state.PortId.{PortId}
use Rattle.script.specs.declared.call.Call.{Call}
use Rattle.script.specs.declared.call.Call.TheVariants.{Submit}
use Rattle.script.specs.declared.line.Line.{Line}
use Rattle.script.specs.declared.read.ReadError.{ReadError}
use Rattle.script.specs.declared.read.ReadError.TheVariants.{Refused, Memory}
use Rattle.script.specs.Letters.{call_letter, port_letter, fate_letter}
use Rattle.script.specs.Said.{Said, submit, send, receive, collect, time_out, plan, said_by, call_of, port_of}

-- A byte of a load is two hexadecimal digits, the high one first.
abbrev pub bytes_of : List ℕ → List ℕ
bytes_of [] = []
bytes_of (high ∷ []) = []
bytes_of (high ∷ low ∷ digits) = (digit_value high * 16 + digit_value low) ∷ bytes_of digits

-- A load is written as pairs of hexadecimal digits, each digit in either case.
abbrev pub Pairs : List ℕ → Type 0
Pairs digits = (length digits % 2 ≡ 0) × All (λ d. digit_value d < 16) digits

-- A plan has 1 to 64 entries, and keeps every frame after them.
abbrev pub Fills : List Fate → List Fate → Type 0
Fills entries fates = (0 < length entries) × (length entries ≤ 64) × (fates ≡ entries ++ replicate (64 - length entries) Keep)

-- A line begins with its call's letter, a tab and its port's letter.
abbrev pub head_of : Call → PortId → List ℕ
head_of call port = call_letter call ∷ 9 ∷ port_letter port ∷ []

-- After that comes a tab with the load or the plan, and nothing where the call has neither.
abbrev pub Follows : Said → List ℕ → Type 0
Follows (submit port load) tail = (digits : List ℕ) × (tail ≡ 9 ∷ digits) × Pairs digits × (load ≡ bytes_of digits)
Follows (plan port fates) tail = (entries : List Fate) × (tail ≡ 9 ∷ map fate_letter entries) × Fills entries fates
Follows (send port) tail = tail ≡ []
Follows (receive port) tail = tail ≡ []
Follows (collect port) tail = tail ≡ []
Follows (time_out port) tail = tail ≡ []

-- The text is a line that says so.
abbrev pub Written : Said → List ℕ → Type 0
Written said text = (tail : List ℕ) × (text ≡ head_of (call_of said) (port_of said) ++ tail) × Follows said tail

-- The text is no line at all.
abbrev pub NoLine : List ℕ → Type 0
NoLine text = (said : Said) → Written said text → ⊥

-- A text is read as the one line that it is, and refused with 12 where it is none.
-- Where there is no memory for its load it is a line to submit one all the same.
abbrev pub Reads : List ℕ → Result Line ReadError → Type 0
Reads text (Ok line) = Written (said_by line) text × ((said : Said) → Written said text → said ≡ said_by line)
Reads text (Err (Refused refusal)) = (refusal ≡ NoSuchLine) × NoLine text
Reads text (Err Memory) = (said : Said) × Written said text × (call_of said ≡ Submit)
