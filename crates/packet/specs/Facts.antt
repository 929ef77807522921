-- Facts of the definitions, as one list.
use Rattle.std.specs.Prelude.{List, [], ◌∷◌}
use Rattle.packet.specs.Sealing.{SealedTo}

-- The lengths of packets, by the lengths of their loads.
abbrev pub facts : List (Type 0)
facts = SealedTo 6 8 ∷ SealedTo 80 84 ∷ SealedTo 82 88 ∷ SealedTo 84 88 ∷ SealedTo 270 276 ∷ SealedTo 272 276 ∷ []

-- Each fact of a list holds.
abbrev pub Hold : List (Type 0) → Type 0
Hold [] = Unit {0}
Hold (f ∷ fs) = f × Hold fs
