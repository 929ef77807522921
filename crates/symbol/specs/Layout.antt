-- A control symbol as three bytes: its six fields, the most significant bit first, are
-- stype0 (3 bits), parameter0 (5), parameter1 (5), stype1 (3), cmd (3) and the check (5).
use Rattle.std.specs.Prelude.{◌≡◌, ℕ, ◌+◌, ◌*◌, ◌/◌, ◌%◌, ◌<◌, if◌then◌else◌, List, [], ◌∷◌, Ok, Err, Result, ◌==◌}
use Rattle.refusal.specs.declared.Refusal.{Refusal}
use Rattle.refusal.specs.declared.Refusal.TheVariants.{WideField, Unsound}
use Rattle.symbol.specs.declared.Symbol.{Symbol}
use Rattle.symbol.specs.Check.{check_of, CheckDivides}

-- Each field has a value that its bits can hold.
pub record Fits (s : Symbol) : Type 0 where
  pub stype0 : s.stype0 < 8
  pub parameter0 : s.parameter0 < 32
  pub parameter1 : s.parameter1 < 32
  pub stype1 : s.stype1 < 8
  pub cmd : s.cmd < 8

-- The nineteen bits before the check, as one number.
abbrev pub unchecked_of : Symbol → ℕ
unchecked_of s = (((s.stype0 * 32 + s.parameter0) * 32 + s.parameter1) * 8 + s.stype1) * 8 + s.cmd

-- The three bytes of a symbol.
abbrev pub written_of : Symbol → List ℕ
written_of s = (s.stype0 * 32 + s.parameter0) ∷ (s.parameter1 * 8 + s.stype1) ∷ (s.cmd * 32 + check_of (unchecked_of s)) ∷ []

-- The five fields before the check, of three bytes.
abbrev pub fields_of : ℕ → ℕ → ℕ → Symbol
fields_of a b c = record { stype0 = a / 32; parameter0 = a % 32; parameter1 = b / 8; stype1 = b % 8; cmd = c / 32 }

-- What bytes are read as: three bytes whose last five bits are their check are a symbol, and all else is unsound.
abbrev pub read_of : List ℕ → Result Symbol Refusal
read_of [] = Err Unsound
read_of (a ∷ []) = Err Unsound
read_of (a ∷ b ∷ []) = Err Unsound
read_of (a ∷ b ∷ c ∷ []) = if c % 32 == check_of (unchecked_of (fields_of a b c)) then Ok (fields_of a b c) else Err Unsound
read_of (a ∷ b ∷ c ∷ d ∷ rest) = Err Unsound

-- What writing answers, and leaves in the place that held `before`.
abbrev pub Writes : Symbol → List ℕ → Result (Unit {0}) Refusal → List ℕ → Type 0
Writes s before (Ok done) after = Fits s × (after ≡ written_of s)
Writes s before (Err e) after = (e ≡ WideField) × (Fits s → ⊥) × (after ≡ before)

-- Fields written are the fields read.
abbrev pub ReadsBack : Symbol → Result (Unit {0}) Refusal → List ℕ → Type 0
ReadsBack s (Ok done) after = read_of after ≡ Ok s
ReadsBack s (Err e) after = Unit {0}

-- The check of what was written is the remainder of a division.
abbrev pub Divides : Symbol → Result (Unit {0}) Refusal → Type 0
Divides s (Ok done) = CheckDivides (unchecked_of s)
Divides s (Err e) = Unit {0}

-- A symbol that was read is written again as the bytes that it was read from.
abbrev pub WritesBack : List ℕ → Result Symbol Refusal → Type 0
WritesBack bytes (Ok s) = Fits s × (written_of s ≡ bytes)
WritesBack bytes (Err e) = Unit {0}
