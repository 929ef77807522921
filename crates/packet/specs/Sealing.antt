-- What sealing makes of a load.
use Rattle.std.specs.Prelude.{◌≡◌, ℕ, ◌+◌, ◌%◌, ◌<◌, ◌≤◌, if◌then◌else◌, ◌⊎◌, List, [], ◌∷◌, ◌++◌, length, take, drop, Ok, Err, Result, ◌==◌, nat_le}
use Rattle.std.specs.Int.{next_multiple_of}
use Rattle.refusal.specs.declared.Refusal.{Refusal}
use Rattle.refusal.specs.declared.Refusal.TheVariants.{LoadLength, ShortBuffer}
use Rattle.packet.specs.Crc.{cleared_of, run_of, bytes_of}

-- A load has an even number of bytes, 6 to 272.
abbrev pub Sealable : ℕ → Type 0
Sealable n = (n % 2 ≡ 0) × (6 ≤ n) × (n ≤ 272)

-- Bytes from a packet's first on, followed by their CRC.
abbrev pub with_crc : List ℕ → List ℕ
with_crc bytes = bytes ++ bytes_of (run_of bytes)

-- At most 80 bytes have one CRC after them. More have one after the first 80 and one at the end,
-- which goes on from the first and covers it.
abbrev pub checked_of : List ℕ → List ℕ
checked_of bytes = if nat_le (length bytes) 80 then with_crc bytes else with_crc (with_crc (take 80 bytes) ++ drop 80 bytes)

-- What pads n bytes: two zero bytes, where n is not a multiple of 4.
abbrev pub pad_of : ℕ → List ℕ
pad_of n = if n % 4 == 0 then [] else 0 ∷ 0 ∷ []

-- A buffer with bytes written over its front.
abbrev pub written_over : List ℕ → List ℕ → List ℕ
written_over bytes buffer = bytes ++ drop (length bytes) buffer

-- The packet that a load is sealed to.
unfoldable pub sealed_of : List ℕ → List ℕ
sealed_of load = checked_of (cleared_of load) ++ pad_of (length (checked_of (cleared_of load)))

-- Every load of n bytes is sealed to a packet of m.
abbrev pub SealedTo : ℕ → ℕ → Type 0
SealedTo n m = (load : List ℕ) → length load ≡ n → length (sealed_of load) ≡ m

-- The rule for that: load and CRC, two bytes or twice two, up to a multiple of 4.
abbrev pub crc_length : ℕ → ℕ
crc_length n = if nat_le n 80 then 2 else 4

abbrev pub sealed_length : ℕ → ℕ
sealed_length n = next_multiple_of (n + crc_length n) 4

-- It holds of a load that can be sealed.
abbrev pub SealsToLength : List ℕ → Type 0
SealsToLength load = Sealable (length load) → length (sealed_of load) ≡ sealed_length (length load)

-- What sealing answers, and leaves in the buffer that held `before`: the packet in front and all behind it as it was.
-- A load of a wrong length is refused first, then a buffer below 276 bytes; a refusal changes nothing.
abbrev pub Seals : List ℕ → List ℕ → Result ℕ Refusal → List ℕ → Type 0
Seals load before (Ok n) after = Sealable (length load) × (276 ≤ length before) × (n ≡ length (sealed_of load)) × (after ≡ sealed_of load ++ drop n before)
Seals load before (Err e) after = (after ≡ before) × (((e ≡ LoadLength) × (Sealable (length load) → ⊥)) ⊎ ((e ≡ ShortBuffer) × Sealable (length load) × (length before < 276)))
