-- The number of each refusal, by which users know it.
use Rattle.std.specs.Prelude.{ℕ, List, ◌++◌, codes, decimal}
use Rattle.refusal.specs.declared.Refusal.{Refusal}
use Rattle.refusal.specs.declared.Refusal.TheVariants.{LoadLength, WindowFull, LaneFull, Nothing, RepliesFull, ShortBuffer, FrameLength, WideField, Unsound, NoSuchLoad, QueueFull, NoSuchLine}

abbrev pub number_of : Refusal → ℕ
number_of LoadLength = 1
number_of WindowFull = 2
number_of LaneFull = 3
number_of Nothing = 4
number_of RepliesFull = 5
number_of ShortBuffer = 6
number_of FrameLength = 7
number_of WideField = 8
number_of Unsound = 9
number_of NoSuchLoad = 10
number_of QueueFull = 11
number_of NoSuchLine = 12

-- The word that is printed for it.
abbrev pub refusal_word : Refusal → List ℕ
refusal_word refusal = codes "no-" ++ decimal (number_of refusal)
