-- Places in a ring, read from its head on.
use Rattle.std.specs.Prelude.{◌≡◌, ℕ, ◌+◌, ◌<◌, ◌≤◌, List, ◌++◌, take, drop}

-- The place i comes k after the head of a ring of n places: past the last place comes the first again,
-- and a head past the places reads as 0.
abbrev pub At : ℕ → ℕ → ℕ → ℕ → Type 0
At head k n i = (head + k < n → i ≡ head + k) × (head < n → n ≤ head + k → i + n ≡ head + k) × (n ≤ head → i ≡ k)

-- The places from the head on, and then those before it.
abbrev pub turned : {T : Type 0} → ℕ → List T → List T
turned head places = drop head places ++ take head places
