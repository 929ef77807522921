-- What opening hands out of a packet for a load of n bytes.
use Rattle.std.specs.Prelude.{◌≡◌, ℕ, ◌+◌, min, ◌⊎◌, List, ◌++◌, length, take, drop, Ok, Err, Result, ◌≢◌}
use Rattle.refusal.specs.declared.Refusal.{Refusal}
use Rattle.refusal.specs.declared.Refusal.TheVariants.{NoSuchLoad, Unsound}
use Rattle.packet.specs.declared.opening.Load.{Load}
use Rattle.packet.specs.Crc.{cleared_of}
use Rattle.packet.specs.Sealing.{Sealable, sealed_of, SealedTo}
use Rattle.packet.specs.Soundness.{Sound}

-- A load of n bytes can be sealed, and is sealed to a packet of m.
abbrev pub SealsTo : ℕ → ℕ → Type 0
SealsTo n m = Sealable n × SealedTo n m

-- The first bytes of the load, at most 80.
abbrev pub first_of : ℕ → List ℕ → List ℕ
first_of n packet = take (min n 80) packet

-- The rest of it, from byte 82 up to n + 2: none where n is at most 80.
abbrev pub rest_of : ℕ → List ℕ → List ℕ
rest_of n packet = drop 82 (take (n + 2) packet)

-- A load's packet, opened for the load's length, gives the load, its first six bits zero.
abbrev pub SealsLoad : List ℕ → Type 0
SealsLoad load = Sealable (length load) → first_of (length load) (sealed_of load) ++ rest_of (length load) (sealed_of load) ≡ cleared_of load

-- What opening a packet for a load of n bytes answers: the two parts of the load.
-- It is refused first where no load of n bytes has a packet of this length, then where the packet is unsound.
abbrev pub Opens : List ℕ → ℕ → Result Load Refusal → Type 0
Opens packet n (Ok load) = SealsTo n (length packet) × Sound packet × (load.first.now ≡ first_of n packet) × (load.rest.now ≡ rest_of n packet)
Opens packet n (Err e) = ((e ≡ NoSuchLoad) × (SealsTo n (length packet) → ⊥)) ⊎ ((e ≡ Unsound) × SealsTo n (length packet) × (Sound packet → ⊥))

-- Opening the packet that a load was sealed to for the load's length gives back the load, its first six bits zero.
abbrev pub GivesBack : List ℕ → ℕ → Result Load Refusal → Type 0
GivesBack packet n (Ok l) = (load : List ℕ) → length load ≡ n → packet ≡ sealed_of load → l.first.now ++ l.rest.now ≡ cleared_of load
GivesBack packet n (Err e) = (load : List ℕ) → length load ≡ n → Sealable n → packet ≢ sealed_of load
