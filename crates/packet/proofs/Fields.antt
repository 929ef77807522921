-- The fields of a packet's first two bytes. Assumes nothing.
use Rattle.std.proofs.Common.{◌≡◌, ℕ, ◌+◌, ◌*◌, ◌/◌, ◌%◌, ◌<◌, ◌≤◌, List, [], ◌∷◌, length, slice_get, slice_index, Some, option_map, refl, ap, ◌∙◌, arith}
use Rattle.packet.specs.Crc.{cleared_of}
use Rattle.packet.specs.Header.{ack_id_of, stamped_of, unstamped_of, SameButAckId}
use Rattle.packet.proofs.Sounds.{sound_same}

-- a field of byte 1, where there is such a byte
pub in_byte1_lem : (field : ℕ → ℕ) (xs : List ℕ) (x : ℕ) → 2 ≤ length xs → x ≡ field (slice_index xs 1) → Some x ≡ option_map field (slice_get xs 1)
in_byte1_lem field [] x h e = absurd (omega arith)
in_byte1_lem field (a ∷ []) x h e = absurd (omega arith)
in_byte1_lem field (a ∷ b ∷ bs) x h e = ap Some e

pub ack_stamped : (k : ℕ) (xs : List ℕ) → 0 < length xs → ack_id_of (stamped_of k xs) ≡ Some k
ack_stamped k [] h = absurd (omega arith)
ack_stamped k (b ∷ bs) h = let e : (k * 8 + b % 8) / 8 ≡ k = omega arith in ap Some e

unstamped_stamped : (k : ℕ) (xs : List ℕ) → unstamped_of (stamped_of k xs) ≡ unstamped_of xs
unstamped_stamped k [] = refl
unstamped_stamped k (b ∷ bs) = let e : 0 * 8 + (k * 8 + b % 8) % 8 ≡ 0 * 8 + b % 8 = omega arith in ap (λ x. x ∷ bs) e

pub cleared_stamped : (k : ℕ) (xs : List ℕ) → cleared_of (stamped_of k xs) ≡ cleared_of xs
cleared_stamped k [] = refl
cleared_stamped k (b ∷ bs) = let e : (k * 8 + b % 8) % 4 ≡ b % 4 = omega arith in ap (λ x. x ∷ bs) e

-- what was written as the stamped packet differs in its ackID at most
pub same_written : (k : ℕ) (xs ys : List ℕ) → ys ≡ stamped_of k xs → SameButAckId xs ys
same_written k xs ys e =
    let cleared = ap cleared_of e ∙ cleared_stamped k xs in
    record { rest = ap unstamped_of e ∙ unstamped_stamped k xs; sound = sound_same ys xs cleared; cleared = cleared }

-- what was not written differs in nothing
pub same_itself : (xs : List ℕ) → SameButAckId xs xs
same_itself xs = record { rest = refl; sound = refl; cleared = refl }

pub length_stamped : (k : ℕ) (xs : List ℕ) → length (stamped_of k xs) ≡ length xs
length_stamped k [] = refl
length_stamped k (b ∷ bs) = refl
