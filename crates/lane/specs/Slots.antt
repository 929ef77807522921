-- What a steady lane holds.
use Rattle.std.specs.Prelude.{ℕ, List, map, take}
use Rattle.fifo.specs.Held.{in_ring}
use Rattle.lane.specs.declared.steady.Slot.{Slot}
use Rattle.lane.specs.declared.steady.Steady.{Steady}
use Rattle.lane.specs.Meaning.{Frames}

-- The frame in a slot.
abbrev pub held : Slot → List ℕ
held s = take s.len s.bytes

-- The frames that wait, the oldest first.
abbrev pub frames_of : Steady → Frames
frames_of s = map held (in_ring s.ring s.slots)
