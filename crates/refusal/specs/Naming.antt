-- Names that stand for numbers, as an enum's variants do: what it is to tell the number of a name, and the name of a number.
use Rattle.std.specs.Prelude.{◌≡◌, ◌≢◌, ℕ, Ok, Err, Result}

-- The number is the name's, and no other name's.
abbrev pub Tells : {A : Type 0} → (A → ℕ) → A → ℕ → Type 0
Tells {A} number_of name n = (n ≡ number_of name) × ((other : A) → number_of other ≡ n → other ≡ name)

-- The name is the one whose number it is, and there is none where no name has that number.
abbrev pub Names : {A E : Type 0} → (A → ℕ) → ℕ → Result A E → Type 0
Names {A} {E} number_of n (Ok name) = number_of name ≡ n
Names {A} {E} number_of n (Err e) = (name : A) → number_of name ≢ n
