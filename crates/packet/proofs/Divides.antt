-- The packet CRC divides. Assumes nothing.
use Rattle.std.proofs.Common.{◌≡◌, ℕ, ◌<◌, List, [], ◌∷◌, sym, refl, ◌∙◌, subst, arith}
use Rattle.symbol.specs.Division.{took_bits, bits_of}
use Rattle.symbol.proofs.Divides.{Bits, bits_bits, bits_append, tooks_append, divides}
use Rattle.packet.specs.Crc.{step_of, crc_of, bits_of_bytes, Divides as CrcDivides}

pub bits_bytes : (bs : List ℕ) → Bits (bits_of_bytes bs)
bits_bytes [] = tt
bits_bytes (b ∷ bs) = bits_append (bits_of 8 b) (bits_of_bytes bs) (bits_bits 8 b) (bits_bytes bs)

-- byte by byte or bit by bit
crc_bits : (v : ℕ) (bs : List ℕ) → crc_of v bs ≡ took_bits 16 0x1021 v (bits_of_bytes bs)
unfolding step_of
crc_bits v [] = refl
crc_bits v (b ∷ bs) = crc_bits (step_of v b) bs ∙ sym (tooks_append 16 0x1021 v (bits_of 8 b) (bits_of_bytes bs))

pub crc_divides : (v : ℕ) (bs : List ℕ) (r : ℕ) → v < 65536 → r ≡ crc_of v bs → CrcDivides v bs r
crc_divides v bs r h e =
    subst (λ (x : ℕ). CrcDivides v bs x) (sym (e ∙ crc_bits v bs)) (divides 15 0x1021 v (bits_of_bytes bs) (omega arith) h (bits_bytes bs))
