-- Polynomials whose coefficients are bits, written as numbers: bit i of a number is the coefficient of X^i,
-- and the sum of two is their exclusive or. A register of `width` bits divides by X^width + terms.
use Rattle.std.specs.Prelude.{◌≡◌, ℕ, zero, suc, ◌+◌, ◌-◌, ◌*◌, ◌/◌, ◌%◌, ◌^◌, ◌<◌, Bool, if◌then◌else◌, List, [], ◌∷◌, length, ◌==◌, bit_xor}

-- The register takes one bit: it moves up by one place, and where the bit that falls out at the top
-- differs from the bit taken, the terms are added.
abbrev pub took_bit : ℕ → ℕ → ℕ → ℕ → ℕ
took_bit width terms register bit = bit_xor (register * 2 % 2 ^ width) (if register / 2 ^ (width - 1) == bit then 0 else terms)

-- The register takes bits, one after another.
abbrev pub took_bits : ℕ → ℕ → ℕ → List ℕ → ℕ
took_bits width terms register [] = register
took_bits width terms register (b ∷ bs) = took_bits width terms (took_bit width terms register b) bs

-- The n low bits of a number, the most significant first.
unfoldable pub bits_of : ℕ → ℕ → List ℕ
bits_of zero x = []
bits_of (suc n) x = x / 2 ^ n % 2 ∷ bits_of n x

-- The polynomial of a list of coefficients, the highest first.
abbrev pub polynomial_of : List ℕ → ℕ
polynomial_of [] = 0
polynomial_of (b ∷ bs) = bit_xor (b * 2 ^ length bs) (polynomial_of bs)

-- The product of two polynomials, one as the list of its coefficients: the sum of the other, moved up, for each that is 1.
abbrev pub product_of : List Bool → ℕ → ℕ
product_of [] p = 0
product_of (q ∷ qs) p = bit_xor ((if q then p else 0) * 2 ^ length qs) (product_of qs p)

-- A polynomial divided by X^width + terms has this remainder: some multiple of the divisor and the remainder,
-- which is of lower degree, are its sum.
abbrev pub Remainder : ℕ → ℕ → ℕ → ℕ → Type 0
Remainder width terms dividend remainder = (remainder < 2 ^ width) × ((quotient : List Bool) × (dividend ≡ bit_xor (product_of quotient (2 ^ width + terms)) remainder))

-- What a register divides that starts at some value and takes bits: the start, moved up past them, and the bits, moved up past the register.
abbrev pub dividend_of : ℕ → ℕ → List ℕ → ℕ
dividend_of width start bits = bit_xor (start * 2 ^ length bits) (polynomial_of bits * 2 ^ width)
