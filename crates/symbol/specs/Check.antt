-- The check of a control symbol: a register of five bits that divides by X^5 + X^4 + X^2 + 1.
use Rattle.std.specs.Prelude.{ℕ, List, [], ◌∷◌, ◌++◌}
use Rattle.symbol.specs.Division.{took_bits, bits_of, dividend_of, Remainder}

-- What the register takes: a symbol's first nineteen bits, and then a 0 bit.
abbrev pub taken_bits : ℕ → List ℕ
taken_bits nineteen = bits_of 19 nineteen ++ (0 ∷ [])

-- The check of a symbol's first nineteen bits: the register starts at all ones.
unfoldable pub check_of : ℕ → ℕ
check_of nineteen = took_bits 5 0b10101 0b11111 (taken_bits nineteen)

-- The law of the check: it is the remainder of what the register takes, with its start in front.
abbrev pub CheckDivides : ℕ → Type 0
CheckDivides nineteen = Remainder 5 0b10101 (dividend_of 5 0b11111 (taken_bits nineteen)) (check_of nineteen)
