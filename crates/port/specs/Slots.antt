-- What slots hold.
use Rattle.std.specs.Prelude.{ℕ, List, [], map, take, slice_index_or}
use Rattle.port.specs.declared.slot.Slot.{Slot}
use Rattle.port.specs.declared.slots.Slots.{Slots}

-- The packet in a slot.
abbrev pub packet_in : Slot → List ℕ
packet_in s = take s.len s.bytes

-- The packets in slots, one after another.
abbrev pub packets_in : {N : ℕ} → Slots N → List (List ℕ)
packets_in {N} s = map packet_in s.all

abbrev pub bytes_in : Slot → List ℕ
bytes_in s = s.bytes

-- The first n bytes in the slot i.
abbrev pub front_in : {N : ℕ} → Slots N → ℕ → ℕ → List ℕ
front_in {N} s i n = take n (slice_index_or (map bytes_in s.all) i [])
