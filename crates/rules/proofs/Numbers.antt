use Rattle.std.proofs.Common.{◌≡◌, ℕ, ◌+◌, ◌-◌, ◌*◌, ◌/◌, ◌%◌, ◌<◌, ◌≤◌, ◌⊎◌, sym, ap, ◌∙◌, inl, inr, mod-lt, mod-eq_of_lt, mul-le-mul_left, arith}
use native.Mathlib.Nat.{mod-add-mod, div-add-mod, add-mul-mod_self_left}
use Rattle.std.proofs.lemmas.Bool.{cases_order}

-- two numbers less than n apart, with one rest
pub same_rest : (n a b : ℕ) → 0 < n → a % n ≡ b % n → a ≤ b → b < a + n → a ≡ b
same_rest n a b p e l u = go (cases_order (a / n) (b / n))
  where
    da : n * (a / n) + a % n ≡ a
    da = div-add-mod a n

    db : n * (b / n) + b % n ≡ b
    db = div-add-mod b n

    go : (a / n ≡ b / n) ⊎ ((a / n < b / n) ⊎ (b / n < a / n)) → a ≡ b
    go (inl q) = let z : n * (a / n) ≡ n * (b / n) = ap (λ (x : ℕ). n * x) q in omega (arith, z, da, db, e)
    go (inr (inl q)) = let z : n * (a / n + 1) ≤ n * (b / n) = mul-le-mul_left n (omega (arith, q)) in omega (arith, z, da, db, e)
    go (inr (inr q)) = let z : n * (b / n + 1) ≤ n * (a / n) = mul-le-mul_left n (omega (arith, q)) in omega (arith, z, da, db, e)

-- one rest, and less than n apart either way
pub same_rest_near : (n a b : ℕ) → 0 < n → a % n ≡ b % n → a < b + n → b < a + n → a ≡ b
same_rest_near n a b p e l u = go (cases_order a b)
  where
    go : (a ≡ b) ⊎ ((a < b) ⊎ (b < a)) → a ≡ b
    go (inl q) = q
    go (inr (inl q)) = same_rest n a b p e (omega (arith, q)) u
    go (inr (inr q)) = sym (same_rest n b a p (sym e) (omega (arith, q)) l)

-- how far the number k is past r, from their rests
pub distance_is : (n k r : ℕ) → 0 < n → r ≤ k → k < r + n → (k % n + (n - r % n)) % n ≡ k - r
distance_is n k r p l u =
    let a : r % n < n = mod-lt r p in
    let dr : n * (r / n) + r % n ≡ r = div-add-mod r n in
    let e : (k % n + (n - r % n)) % n ≡ (k + (n - r % n)) % n = mod-add-mod k n (n - r % n) in
    let f : k + (n - r % n) ≡ k - r + n * (r / n + 1) = omega (arith, dr, a) in
    let s : k - r < n = omega arith in
    e ∙ ap (λ (x : ℕ). x % n) f ∙ add-mul-mod_self_left (k - r) n (r / n + 1) ∙ mod-eq_of_lt s
