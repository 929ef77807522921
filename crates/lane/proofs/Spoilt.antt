-- The one byte 0x00 is no sound frame, so a lane that gains it in place of a frame spoils that frame.
use Rattle.std.proofs.Common.{ℕ, List, [], ◌∷◌, inl, inr, lit≤}
use Rattle.packet.specs.Frames.{UnsoundFrame}
use Rattle.packet.proofs.Classes.{kind_byte}
use Rattle.lane.specs.Meaning.{Frames, Gains}

pub zero_unsound : UnsoundFrame (0 ∷ [])
zero_unsound = (_, kind_byte 0)

pub spoilt : (w w' : Frames) (f : List ℕ) → Gains w (0 ∷ []) w' → Gains w f w'
spoilt w w' f (inl kept) = inr (inl (0 ∷ [], zero_unsound, (lit≤ tt, lit≤ tt), kept))
spoilt w w' f (inr other) = inr other
