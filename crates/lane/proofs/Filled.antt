-- What holds of a steady lane's frames: each has a frame's length, and they are as many as the ring's length says.
use Rattle.std.specs.Prelude.{◌≡◌, ℕ, ◌+◌, ◌-◌, ◌<◌, List, [], ◌∷◌, ◌++◌, map, length, take, slice_index_or, slice_set}
use Rattle.std.proofs.Common.{sym, ap, ◌∙◌, subst, arith}
use Rattle.std.proofs.lemmas.List.{length-map, length-take-le, map_push}
use Rattle.std.proofs.lemmas.List.Elements.{All-map}
use Rattle.fifo.specs.Held.{in_ring}
use Rattle.fifo.specs.Turned.{At, turned}
use Rattle.fifo.proofs.Turning.{length_ring, ring_put, ring_take}
use Rattle.lane.specs.declared.steady.Slot.{Slot}
use Rattle.lane.specs.declared.steady.Steady.{Steady}
use Rattle.lane.specs.Meaning.{SizedFrame, SizedFrames}
use Rattle.lane.specs.Slots.{held, frames_of}

pub held_sized : (s : Slot) → SizedFrame (held s)
held_sized s =
    let n : length (held s) ≡ s.len = length-take-le s.len s.bytes (omega arith) in
    (omega arith, omega arith)

pub all_sized : (slots : List Slot) → SizedFrames (map held slots)
all_sized slots = All-map SizedFrame held slots (λ k d lt. held_sized (slice_index_or slots k d))

pub frames_length : (s : Steady) → length (frames_of s) ≡ s.ring.len
frames_length s = length-map (in_ring s.ring s.slots) held ∙ length_ring s.ring.head s.ring.len s.slots (omega arith)

module _ (s : Steady) where
  -- a place among 16 is a place among the slots
  among : (k i : ℕ) → At s.ring.head k 16 i → At s.ring.head k (length s.slots) i
  among k i at = subst (λ (n : ℕ). At s.ring.head k n i) (sym s.filled.1) at

  -- the frames, once the next slot is written
  pub frames_put : (i : ℕ) (x : Slot) → At s.ring.head s.ring.len 16 i → s.ring.len < 16 → map held (take (s.ring.len + 1) (turned s.ring.head (slice_set s.slots i x))) ≡ frames_of s ++ held x ∷ []
  frames_put i x at lt =
      ap (map held) (ring_put s.ring.head s.ring.len i s.slots x (among s.ring.len i at) (omega arith))
      ∙ map_push held (in_ring s.ring s.slots) x

  -- the oldest frame, and the rest
  pub frames_take : (i j : ℕ) (d : Slot) → At s.ring.head 0 16 i → At s.ring.head 1 16 j → 0 < s.ring.len → frames_of s ≡ held (slice_index_or s.slots i d) ∷ map held (take (s.ring.len - 1) (turned j s.slots))
  frames_take i j d at0 at1 pos = ap (map held) (ring_take s.ring.head s.ring.len i j s.slots d (among 0 i at0) (among 1 j at1) pos (omega arith))
