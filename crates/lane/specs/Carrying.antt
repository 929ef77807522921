-- What carrying a frame from one lane to another does to the frames that wait in both.
use Rattle.std.specs.Prelude.{◌≡◌, ℕ, ◌<◌, ◌≤◌, ◌⊎◌, List, ◌∷◌, ◌++◌, length, drop, Ok, Err, Result}
use Rattle.refusal.specs.declared.Refusal.{Refusal}
use Rattle.refusal.specs.declared.Refusal.TheVariants.{LaneFull}
use Rattle.lane.specs.Meaning.{Frames, Gains, TakeRefused}

-- Why it is refused: first as a take from v is, then since w has as many frames as its lane's limit allows.
abbrev pub CarryRefused : ℕ → Frames → Frames → List ℕ → Refusal → Type 0
CarryRefused limit v w b e = TakeRefused v b e ⊎ ((e ≡ LaneFull) × (276 ≤ length b) × (1 ≤ length v) × (limit ≤ length w))

-- What it answers, and makes of the frames v of the one lane, the frames w of the other, and a buffer b.
abbrev pub CarryMeans : ℕ → Frames → Frames → List ℕ → Result ℕ Refusal → Frames → Frames → List ℕ → Type 0
CarryMeans limit v w b (Ok n) v' w' b' = (276 ≤ length b) × (length w < limit) × ((f : List ℕ) × (v ≡ f ∷ v') × (n ≡ length f) × Gains w f w' × (b' ≡ f ++ drop (length f) b))
CarryMeans limit v w b (Err e) v' w' b' = CarryRefused limit v w b e × (v' ≡ v) × (w' ≡ w) × (b' ≡ b)
