-- The replies under way to a sender, by the numbers that they carry, not reduced to ackIDs, and what such a list withstands.
use Rattle.std.proofs.Common.{◌≡◌, ℕ, ◌+◌, ◌%◌, ◌≤◌, ◌≢◌, List, [], ◌∷◌, ◌++◌, Some, None, Option, refl, arith}
use Rattle.symbol.specs.declared.codes.Stype0.TheVariants.{Accepted as SaysAccepted, Retry as SaysRetry, NotAccepted as SaysNotAccepted, Status as SaysStatus, Response as SaysResponse}
use Rattle.symbol.specs.declared.codes.Stype1.{Stype1}
use Rattle.rules.specs.Wire.{Seen}
use Rattle.rules.specs.Wire.Seen.{symbol, packet, unsound}

-- a reply with a number: a sender that has freed k packets has freed e after it; no response says that the port has failed
pub data Carries (n : ℕ) : Seen → ℕ → ℕ → Type 0 where
  c_accepted : (k q : ℕ) (t : Option Stype1) → Carries n (symbol (Some SaysAccepted) (k % n) q t) k (k + 1)
  c_retry : (k q : ℕ) (t : Option Stype1) → Carries n (symbol (Some SaysRetry) (k % n) q t) k k
  c_response : (k q : ℕ) (t : Option Stype1) → q ≢ 2 → Carries n (symbol (Some SaysResponse) (k % n) q t) k k

-- what carries no number
abbrev pub Silent : Seen → Type 0
Silent (symbol None k q t) = Unit {0}
Silent (symbol (Some SaysStatus) k q t) = Unit {0}
Silent (symbol (Some SaysNotAccepted) k q t) = Unit {0}
Silent (symbol (Some SaysAccepted) k q t) = ⊥
Silent (symbol (Some SaysRetry) k q t) = ⊥
Silent (symbol (Some SaysResponse) k q t) = ⊥
Silent (packet k p) = Unit {0}
Silent (unsound c) = Unit {0}

-- their numbers rise from lo to hi
pub data Replies (n hi : ℕ) : ℕ → List Seen → Type 0 where
  end : {lo : ℕ} → lo ≤ hi → Replies n hi lo []
  carries : {lo k e : ℕ} {x : Seen} {xs : List Seen} → Carries n x k e → lo ≤ k → Replies n hi e xs → Replies n hi lo (x ∷ xs)
  silent : {lo : ℕ} {x : Seen} {xs : List Seen} → Silent x → Replies n hi lo xs → Replies n hi lo (x ∷ xs)

pub carries_le : {n : ℕ} {x : Seen} {k e : ℕ} → Carries n x k e → k ≤ e
carries_le (c_accepted k q t) = omega arith
carries_le (c_retry k q t) = omega arith
carries_le (c_response k q t h) = omega arith

pub replies_lower : {n hi lo lo' : ℕ} {xs : List Seen} → lo' ≤ lo → Replies n hi lo xs → Replies n hi lo' xs
replies_lower l (end h) = end (omega arith)
replies_lower l (carries m h c) = carries m (omega arith) c
replies_lower l (silent q c) = silent q (replies_lower l c)

pub replies_le : {n hi lo : ℕ} {xs : List Seen} → Replies n hi lo xs → lo ≤ hi
replies_le (end h) = h
replies_le (carries m h c) = let a = carries_le m in let b = replies_le c in omega arith
replies_le (silent q c) = replies_le c

-- without its first
pub replies_tail : {n hi lo : ℕ} {x : Seen} {xs : List Seen} → Replies n hi lo (x ∷ xs) → Replies n hi lo xs
replies_tail (carries m h c) = let a = carries_le m in replies_lower (omega arith) c
replies_tail (silent q c) = c

-- without one
pub replies_drop : {n hi lo : ℕ} (before : List Seen) (x : Seen) (behind : List Seen) → Replies n hi lo (before ++ (x ∷ behind)) → Replies n hi lo (before ++ behind)
replies_drop [] x behind c = replies_tail c
replies_drop (a ∷ before) x behind (carries m h c) = carries m h (replies_drop before x behind c)
replies_drop (a ∷ before) x behind (silent q c) = silent q (replies_drop before x behind c)

-- with one more that carries no number
pub replies_insert : {n hi lo : ℕ} (before : List Seen) (x : Seen) (behind : List Seen) → Silent x → Replies n hi lo (before ++ behind) → Replies n hi lo (before ++ (x ∷ behind))
replies_insert [] x behind s c = silent s c
replies_insert (a ∷ before) x behind s (carries m h c) = carries m h (replies_insert before x behind s c)
replies_insert (a ∷ before) x behind s (silent q c) = silent q (replies_insert before x behind s c)

-- with one more at the end
pub replies_push : {n hi hi' lo k e : ℕ} {x : Seen} {xs : List Seen} → Replies n hi lo xs → hi ≤ k → Carries n x k e → e ≤ hi' → Replies n hi' lo (xs ++ (x ∷ []))
replies_push (end h) l m u = carries m (omega arith) (end u)
replies_push (carries m' h c) l m u = carries m' h (replies_push c l m u)
replies_push (silent q c) l m u = silent q (replies_push c l m u)

pub replies_push_silent : {n hi lo : ℕ} (x : Seen) {xs : List Seen} → Replies n hi lo xs → Silent x → Replies n hi lo (xs ++ (x ∷ []))
replies_push_silent x (end h) s = silent s (end h)
replies_push_silent x (carries m' h c) s = carries m' h (replies_push_silent x c s)
replies_push_silent x (silent q c) s = silent q (replies_push_silent x c s)

-- what an accepted or a response at the front tells
pub accepted_front : {n hi lo k q : ℕ} {t : Option Stype1} {xs : List Seen} → Replies n hi lo (symbol (Some SaysAccepted) k q t ∷ xs) → (j : ℕ) × (k ≡ j % n) × (lo ≤ j) × Replies n hi (j + 1) xs
accepted_front (carries (c_accepted j q t) h c) = (j, refl, h, c)
accepted_front (silent s c) = absurd s

pub response_front : {n hi lo k q : ℕ} {t : Option Stype1} {xs : List Seen} → Replies n hi lo (symbol (Some SaysResponse) k q t ∷ xs) → (j : ℕ) × (k ≡ j % n) × (lo ≤ j) × (q ≢ 2) × Replies n hi j xs
response_front (carries (c_response j q t f) h c) = (j, refl, h, f, c)
response_front (silent s c) = absurd s
