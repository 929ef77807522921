-- The symbol's check, bit by bit. Assumes nothing.
use Rattle.std.proofs.Common.{◌≡◌, ℕ, suc, ◌/◌, ◌%◌, ◌^◌, ◌<◌, [], ◌∷◌, ap, arith}
use Rattle.symbol.specs.Division.{took_bit, took_bits, bits_of}
use Rattle.symbol.specs.Check.{taken_bits, check_of, CheckDivides}
use Rattle.symbol.proofs.Divides.{tooks_append, bits_bits, bits_append, divides}

module _ (width terms : ℕ) where
  -- one bit of k taken
  pub took_one : (r x n k : ℕ) → k ≡ suc n → took_bits width terms r (bits_of k x) ≡ took_bits width terms (took_bit width terms r (x / 2 ^ n % 2)) (bits_of n x)
  unfolding bits_of
  took_one r x n k e = ap (λ m. took_bits width terms r (bits_of m x)) e

  -- no bit is left
  pub took_none : (r x k : ℕ) → k ≡ 0 → took_bits width terms r (bits_of k x) ≡ r
  unfolding bits_of
  took_none r x k e = ap (λ m. took_bits width terms r (bits_of m x)) e

-- the nineteen bits, and then the 0 bit
pub check_ends : (x : ℕ) → check_of x ≡ took_bit 5 21 (took_bits 5 21 31 (bits_of 19 x)) 0
unfolding check_of
check_ends x = tooks_append 5 21 31 (bits_of 19 x) (0 ∷ [])

pub check_divides : (x : ℕ) → CheckDivides x
unfolding check_of
check_divides x = divides 4 21 31 (taken_bits x) (omega arith) (omega arith) (bits_append (bits_of 19 x) (0 ∷ []) (bits_bits 19 x) (omega arith, tt))

-- the check has five bits
pub check_lt : (x : ℕ) → check_of x < 32
check_lt x = (check_divides x).0
