-- The first two bytes of a packet. Byte 0 holds the ackID (five bits), two reserved bits and the CRF bit;
-- byte 1 holds the priority (two bits), tt (two) and ftype (four).
use Rattle.std.specs.Prelude.{◌≡◌, ℕ, ◌+◌, ◌*◌, ◌/◌, ◌%◌, ◌<◌, ◌≤◌, List, [], ◌∷◌, length, Some, Ok, Err, Option, Result, slice_get}
use Rattle.std.specs.Option.{option_map}
use Rattle.refusal.specs.declared.Refusal.{Refusal}
use Rattle.refusal.specs.declared.Refusal.TheVariants.{WideField}
use Rattle.packet.specs.Crc.{cleared_of}
use Rattle.packet.specs.Soundness.{sound_of}

-- The ackID, where there is a byte that holds it.
abbrev pub ack_id_of : List ℕ → Option ℕ
ack_id_of packet = option_map (λ b. b / 8) (slice_get packet 0)

-- The packet with its first five bits set to an ackID.
abbrev pub stamped_of : ℕ → List ℕ → List ℕ
stamped_of k [] = []
stamped_of k (b ∷ bs) = (k * 8 + b % 8) ∷ bs

-- All of a packet but its ackID.
abbrev pub unstamped_of : List ℕ → List ℕ
unstamped_of packet = stamped_of 0 packet

-- The priority: the first two bits of byte 1, where there is such a byte.
abbrev pub priority_of : List ℕ → Option ℕ
priority_of packet = option_map (λ b. b / 64) (slice_get packet 1)

-- The tt field: the next two.
abbrev pub tt_of : List ℕ → Option ℕ
tt_of packet = option_map (λ b. b / 16 % 4) (slice_get packet 1)

-- The format type: its last four.
abbrev pub ftype_of : List ℕ → Option ℕ
ftype_of packet = option_map (λ b. b % 16) (slice_get packet 1)

-- What stamping answers, and leaves of the packet `before`: an ackID has five bits.
abbrev pub Stamps : ℕ → List ℕ → Result (Unit {0}) Refusal → List ℕ → Type 0
Stamps k before (Ok done) after = (k < 32) × (after ≡ stamped_of k before)
Stamps k before (Err e) after = (e ≡ WideField) × (32 ≤ k) × (after ≡ before)

-- The ackID stamped is the ackID read.
abbrev pub ReadsAckId : ℕ → List ℕ → Result (Unit {0}) Refusal → List ℕ → Type 0
ReadsAckId k before (Ok done) after = 0 < length before → ack_id_of after ≡ Some k
ReadsAckId k before (Err e) after = Unit {0}

-- Two packets that differ in their ackID at most: they are as sound, and equal once it is cleared.
pub record SameButAckId (before after : List ℕ) : Type 0 where
  pub rest : unstamped_of after ≡ unstamped_of before
  pub sound : sound_of after ≡ sound_of before
  pub cleared : cleared_of after ≡ cleared_of before
