-- Whether a packet is sound: the one definition that everything above it uses.
use Rattle.std.specs.Prelude.{◌≡◌, ℕ, ◌%◌, Bool, true, ◌&&◌, ◌||◌, List, length, take, ◌==◌, nat_le}
use Rattle.packet.specs.Crc.{run_of}
use Rattle.packet.specs.Sealing.{Sealable, sealed_of}

-- A packet's length is a multiple of 4 from 8 to 276.
abbrev pub packet_length : ℕ → Bool
packet_length n = n % 4 == 0 && (nat_le 8 n && nat_le n 276)

-- A packet is sound when it has such a length, the running value is zero at its end and,
-- above 84 bytes, is zero after the first 82 too.
unfoldable pub sound_of : List ℕ → Bool
sound_of packet = packet_length (length packet) && (run_of packet == 0 && (nat_le (length packet) 84 || run_of (take 82 packet) == 0))

abbrev pub Sound : List ℕ → Type 0
Sound packet = sound_of packet ≡ true

-- A load's packet is sound.
abbrev pub SealsSound : List ℕ → Type 0
SealsSound load = Sealable (length load) → Sound (sealed_of load)
