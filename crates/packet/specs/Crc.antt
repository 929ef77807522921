-- The packet CRC: a register of sixteen bits that divides by X^16 + X^12 + X^5 + 1.
use Rattle.std.specs.Prelude.{ℕ, ◌/◌, ◌%◌, List, [], ◌∷◌, fold, flat_map}
use Rattle.symbol.specs.Division.{took_bits, bits_of, dividend_of, Remainder}

-- The running value takes one byte, its most significant bit first.
unfoldable pub step_of : ℕ → ℕ → ℕ
step_of value byte = took_bits 16 0x1021 value (bits_of 8 byte)

-- The running value takes bytes, one after another.
abbrev pub crc_of : ℕ → List ℕ → ℕ
crc_of value bytes = fold step_of value bytes

-- Bytes of which the first six bits are zero.
abbrev pub cleared_of : List ℕ → List ℕ
cleared_of [] = []
cleared_of (b ∷ bs) = b % 4 ∷ bs

-- The running value over a packet from its first byte on: it starts at all ones, and takes the first six bits as zero.
abbrev pub run_of : List ℕ → ℕ
run_of packet = crc_of 0xFFFF (cleared_of packet)

-- A running value as two bytes, the most significant first.
abbrev pub bytes_of : ℕ → List ℕ
bytes_of value = value / 256 ∷ value % 256 ∷ []

-- The bits of bytes, one after another, the most significant of each first.
abbrev pub bits_of_bytes : List ℕ → List ℕ
bits_of_bytes bytes = flat_map (bits_of 8) bytes

-- The law of the running value: it is the remainder of the bytes, with the value that they were taken at in front.
abbrev pub Divides : ℕ → List ℕ → ℕ → Type 0
Divides start bytes value = Remainder 16 0x1021 (dividend_of 16 start (bits_of_bytes bytes)) value
