-- What a ring holds, what a queue holds, and what calls do to that list.
use Rattle.std.specs.Prelude.{◌≡◌, ℕ, ◌<◌, List, [], ◌∷◌, ◌++◌, length, take, Some, None, Ok, Err, Option, Result}
use Rattle.refusal.specs.declared.Refusal.{Refusal}
use Rattle.refusal.specs.declared.Refusal.TheVariants.{Nothing, QueueFull}
use Rattle.fifo.specs.declared.Queue.{Queue}
use Rattle.fifo.specs.declared.iter.Iter.{Iter}
use Rattle.fifo.specs.declared.ring.Ring.{Ring}
use Rattle.fifo.specs.Turned.{turned}

module _ {T : Type 0} where
  -- What a ring holds in some places, the oldest first.
  abbrev pub in_ring : Ring → List T → List T
  in_ring r places = take r.len (turned r.head places)

  -- What the queue holds, the oldest first.
  abbrev pub queued : Queue T → List T
  queued q = in_ring q.ring q.places.now

  -- How many it can hold.
  abbrev pub places_of : Queue T → ℕ
  places_of q = length q.places.now

  -- What is still to come of an iterator over a queue.
  abbrev pub to_come : Iter T → List T
  to_come it = in_ring it.ring it.places.now

  -- The first of a list, where there is one.
  abbrev pub oldest : List T → Option T
  oldest [] = None
  oldest (x ∷ rest) = Some x

  -- What was held takes x in at its end, or has no place left and stays.
  abbrev pub Puts : List T → ℕ → T → Result (Unit {0}) Refusal → List T → Type 0
  Puts before places x (Ok done) after = (length before < places) × (after ≡ before ++ x ∷ [])
  Puts before places x (Err e) after = (e ≡ QueueFull) × (length before ≡ places) × (after ≡ before)

  -- What was held gives its first and keeps the rest, or is empty and stays.
  abbrev pub Takes : List T → Result T Refusal → List T → Type 0
  Takes before (Ok x) after = before ≡ x ∷ after
  Takes before (Err e) after = (e ≡ Nothing) × (before ≡ []) × (after ≡ before)
