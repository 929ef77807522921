-- Bytes with their first six bits zero. Assumes nothing.
use Rattle.std.proofs.Common.{◌≡◌, ℕ, zero, suc, ◌%◌, ◌<◌, List, [], ◌∷◌, ◌++◌, length, take, drop, refl, ap, arith}
use Rattle.packet.specs.Crc.{cleared_of}

pub length_cleared : (bs : List ℕ) → length (cleared_of bs) ≡ length bs
length_cleared [] = refl
length_cleared (b ∷ bs) = refl

-- cleared twice is cleared once
pub cleared_cleared : (bs : List ℕ) → cleared_of (cleared_of bs) ≡ cleared_of bs
cleared_cleared [] = refl
cleared_cleared (b ∷ bs) = let e : b % 4 % 4 ≡ b % 4 = omega arith in ap (λ x. x ∷ bs) e

-- only the first byte is cleared
pub cleared_append : (xs ys : List ℕ) → 0 < length xs → cleared_of (xs ++ ys) ≡ cleared_of xs ++ ys
cleared_append [] ys h = absurd (omega arith)
cleared_append (x ∷ xs) ys h = refl

pub take_cleared : (n : ℕ) (bs : List ℕ) → cleared_of (take n bs) ≡ take n (cleared_of bs)
take_cleared zero bs = refl
take_cleared (suc n) [] = refl
take_cleared (suc n) (b ∷ bs) = refl

pub drop_cleared : (n : ℕ) (bs : List ℕ) → drop (suc n) (cleared_of bs) ≡ drop (suc n) bs
drop_cleared n [] = refl
drop_cleared n (b ∷ bs) = refl
