-- What a noisy lane makes of the frames put to it.
use Rattle.std.specs.Prelude.{◌≡◌, ℕ, ◌+◌, ◌-◌, ◌%◌, List, [], ◌∷◌, ◌++◌, length, take, replicate, slice_index_or}
use Rattle.lane.specs.declared.noisy.Fate.{Fate}
use Rattle.lane.specs.declared.noisy.Fate.TheVariants.{Keep, Lose, Spoil}
use Rattle.lane.specs.declared.noisy.Noisy.{Noisy}

-- The plan that keeps every frame.
abbrev pub keep_all : List Fate
keep_all = replicate 64 Keep

-- The plan of some entries: the first 64 of them, and keep for the rest.
abbrev pub plan_of : List Fate → List Fate
plan_of entries = take 64 entries ++ replicate (64 - length entries) Keep

module _ {L : Type 0} (puts : L → List ℕ → L → Type 0) where
  -- What a fate does with a frame that is put, by what a put to the lane below does.
  abbrev pub Meets : Fate → L → List ℕ → L → Type 0
  Meets Keep below f below' = puts below f below'
  Meets Lose below f below' = below' ≡ below
  Meets Spoil below f below' = puts below (0 ∷ []) below'

  -- A frame that is put meets the plan's next entry, and uses it up: after the last comes the first again.
  abbrev pub Plays : Noisy L → List ℕ → Noisy L → Type 0
  Plays s f t = Meets (slice_index_or s.plan (s.next % 64) Keep) s.below f t.below × (t.plan ≡ s.plan) × (t.next ≡ (s.next + 1) % 64)

-- The plan and the place in it stay.
abbrev pub SamePlan : {L : Type 0} → Noisy L → Noisy L → Type 0
SamePlan s t = (t.plan ≡ s.plan) × (t.next ≡ s.next)
