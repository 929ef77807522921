-- What a lane's calls do to the frames that wait in it.
use Rattle.std.specs.Prelude.{◌≡◌, ℕ, ◌<◌, ◌≤◌, ◌⊎◌, List, [], ◌∷◌, ◌++◌, length, drop, Ok, Err, Result}
use Rattle.std.specs.List.{All}
use Rattle.refusal.specs.declared.Refusal.{Refusal}
use Rattle.refusal.specs.declared.Refusal.TheVariants.{FrameLength, LaneFull, ShortBuffer, Nothing}
use Rattle.packet.specs.Frames.{UnsoundFrame}

-- Frames that wait, the oldest first, each as its bytes.
abbrev pub Frames : Type 0
Frames = List (List ℕ)

-- A frame has 1 to 276 bytes.
abbrev pub SizedFrame : List ℕ → Type 0
SizedFrame f = (1 ≤ length f) × (length f ≤ 276)

-- Each of some frames does.
abbrev pub SizedFrames : Frames → Type 0
SizedFrames = All SizedFrame

-- What the frames w may become when f is put: they gain f, or one unsound frame, or nothing. The lane chooses.
abbrev pub Gains : Frames → List ℕ → Frames → Type 0
Gains w f w' = (w' ≡ w ++ f ∷ []) ⊎ (((u : List ℕ) × UnsoundFrame u × SizedFrame u × (w' ≡ w ++ u ∷ [])) ⊎ (w' ≡ w))

-- Why a put is refused: first for the frame's length, then for the lane's limit.
abbrev pub PutRefused : ℕ → Frames → List ℕ → Refusal → Type 0
PutRefused limit w f e = ((e ≡ FrameLength) × (SizedFrame f → ⊥)) ⊎ ((e ≡ LaneFull) × SizedFrame f × (limit ≤ length w))

-- What a put of f answers, and makes of the frames w. A refused put changes nothing.
abbrev pub PutMeans : ℕ → Frames → List ℕ → Result (Unit {0}) Refusal → Frames → Type 0
PutMeans limit w f (Ok done) w' = SizedFrame f × (length w < limit) × Gains w f w'
PutMeans limit w f (Err e) w' = PutRefused limit w f e × (w' ≡ w)

-- Why a take is refused: first for the buffer's length, then since no frame waits.
abbrev pub TakeRefused : Frames → List ℕ → Refusal → Type 0
TakeRefused w b e = ((e ≡ ShortBuffer) × (length b < 276)) ⊎ ((e ≡ Nothing) × (276 ≤ length b) × (w ≡ []))

-- What a take to a buffer b answers, and makes of the frames w and of the buffer: the first frame goes to its front,
-- and the bytes behind stay. A refused take changes nothing.
abbrev pub TakeMeans : Frames → List ℕ → Result ℕ Refusal → Frames → List ℕ → Type 0
TakeMeans w b (Ok n) w' b' = (276 ≤ length b) × ((f : List ℕ) × (w ≡ f ∷ w') × SizedFrame f × (n ≡ length f) × (b' ≡ f ++ drop (length f) b))
TakeMeans w b (Err e) w' b' = TakeRefused w b e × (w' ≡ w) × (b' ≡ b)
