-- A register that takes bits ends with the remainder of their division. Assumes nothing.
use Rattle.std.proofs.Common.{◌≡◌, ℕ, zero, suc, ◌+◌, ◌-◌, ◌*◌, ◌/◌, ◌%◌, ◌^◌, ◌<◌, Bool, true, false, cond, not, eqb, List, [], ◌∷◌, ◌++◌, length, sym, refl, ap, ◌∙◌, subst, add-zero, mul_assoc, mul_comm, one-mul, pow-suc, zero-add, zero-mul, mul-one, arith}
use native.Mathlib.Nat.{mul-div-mul_right}
use lib.Bits.{bit_xor, xor_self, xor_zero_r, xor_zero_l, xor_block, xor_lt, xor_comm, xor_assoc}
use Rattle.std.proofs.lemmas.Nat.{pow_pos, mod_below, div_below, div-add-mod'}
use Rattle.std.proofs.lemmas.Bool.{eqb-true, eqb-false}
use Rattle.symbol.specs.Division.{took_bit, took_bits, bits_of, polynomial_of, product_of, Remainder, dividend_of}

-- what the register holds fits its bits
pub took_lt : (width terms r b : ℕ) → terms < 2 ^ width → took_bit width terms r b < 2 ^ width
took_lt width terms r b h =
    let top = r / 2 ^ (width - 1) in
    let term : cond (eqb top b) 0 terms < 2 ^ width = elim (eqb top b) as (λ x. cond x 0 terms < 2 ^ width) [ true ↦ pow_pos width | false ↦ h ] in
    xor_lt width (r * 2 % 2 ^ width) (cond (eqb top b) 0 terms) (mod_below (r * 2) (2 ^ width) (pow_pos width)) term

pub tooks_lt : (width terms r : ℕ) (bs : List ℕ) → terms < 2 ^ width → r < 2 ^ width → took_bits width terms r bs < 2 ^ width
tooks_lt width terms r [] h k = k
tooks_lt width terms r (b ∷ bs) h k = tooks_lt width terms (took_bit width terms r b) bs h (took_lt width terms r b h)

-- one part after the other
pub tooks_append : (width terms r : ℕ) (xs ys : List ℕ) → took_bits width terms r (xs ++ ys) ≡ took_bits width terms (took_bits width terms r xs) ys
tooks_append width terms r [] ys = refl
tooks_append width terms r (x ∷ xs) ys = tooks_append width terms (took_bit width terms r x) xs ys

-- each of the bits is one
abbrev pub Bits : List ℕ → Type 0
Bits [] = Unit {0}
Bits (b ∷ bs) = (b < 2) × Bits bs

pub bits_bits : (n x : ℕ) → Bits (bits_of n x)
unfolding bits_of
bits_bits zero x = tt
bits_bits (suc n) x = (omega arith, bits_bits n x)

pub bits_append : (xs ys : List ℕ) → Bits xs → Bits ys → Bits (xs ++ ys)
bits_append [] ys h k = k
bits_append (x ∷ xs) ys h k = (h.0, bits_append xs ys h.1 k)

-- two bits that differ
differing : (a b : ℕ) → a < 2 → b < 2 → (a ≡ b → ⊥) → bit_xor a b ≡ 1
differing zero zero h k n = absurd (n refl)
differing zero (suc zero) h k n = refl
differing zero (suc (suc b)) h k n = absurd (omega arith)
differing (suc zero) zero h k n = refl
differing (suc zero) (suc zero) h k n = absurd (n refl)
differing (suc zero) (suc (suc b)) h k n = absurd (omega arith)
differing (suc (suc a)) b h k n = absurd (omega arith)

-- moved up, each part of a sum moves
moved : (m a b : ℕ) → bit_xor a b * 2 ^ m ≡ bit_xor (a * 2 ^ m) (b * 2 ^ m)
moved m a b =
    let p = pow_pos m in
    let a0 = add-zero (a * 2 ^ m) in
    let b0 = add-zero (b * 2 ^ m) in
    sym ((λ i. bit_xor (sym a0 i) (sym b0 i)) ∙ xor_block m a b 0 0 p p ∙ add-zero (bit_xor a b * 2 ^ m))

-- the register moved up: its top bit at X^width, and the rest
moved_up : (k v : ℕ) → v * 2 ≡ v / 2 ^ k * 2 ^ suc k + v * 2 % 2 ^ suc k
moved_up k v =
    let two : 2 ^ suc k ≡ 2 ^ k * 2 = pow-suc 2 k in
    let above : v * 2 / 2 ^ suc k ≡ v / 2 ^ k = ap (λ n. v * 2 / n) two ∙ mul-div-mul_right v (2 ^ k) (omega arith) in
    sym (div-add-mod' (v * 2) (2 ^ suc k)) ∙ ap (λ q. q * 2 ^ suc k + v * 2 % 2 ^ suc k) above

top_bit : (k v : ℕ) → v < 2 ^ suc k → v / 2 ^ k < 2
top_bit k v h = div_below v (2 ^ k) 2 (pow_pos k) (subst (λ (n : ℕ). v < n) (pow-suc 2 k ∙ mul_comm (2 ^ k) 2) h)

-- whether the divisor is added
abbrev adds : ℕ → ℕ → ℕ → Bool
adds k v b = not (eqb (v / 2 ^ k) b)

abbrev divisor : ℕ → ℕ → ℕ
divisor k terms = 2 ^ suc k + terms

same : (k terms top b rest : ℕ) → eqb top b ≡ true → bit_xor top b * 2 ^ suc k + rest ≡ bit_xor (bit_xor rest 0) 0
same k terms top b rest e =
    let none : bit_xor top b ≡ 0 = ap (λ x. bit_xor top x) (sym (eqb-true top b e)) ∙ xor_self top in
    ap (λ x. x * 2 ^ suc k + rest) none ∙ ap (λ x. x + rest) (zero-mul (2 ^ suc k)) ∙ zero-add rest ∙ sym (xor_zero_r (bit_xor rest 0) ∙ xor_zero_r rest)

other : (k terms top b rest : ℕ) → terms < 2 ^ suc k → rest < 2 ^ suc k → top < 2 → b < 2 → eqb top b ≡ false → bit_xor top b * 2 ^ suc k + rest ≡ bit_xor (bit_xor rest terms) (2 ^ suc k + terms)
other k terms top b rest small low h bit e =
    let w = 2 ^ suc k in
    let x = bit_xor rest terms in
    let one = differing top b h bit (eqb-false top b e) in
    let back : bit_xor x terms ≡ rest = xor_assoc rest terms terms ∙ ap (bit_xor rest) (xor_self terms) ∙ xor_zero_r rest in
    let x0 : x ≡ 0 * w + x = sym (ap (λ n. n + x) (zero-mul w) ∙ zero-add x) in
    let w1 : w + terms ≡ 1 * w + terms = ap (λ n. n + terms) (sym (one-mul w)) in
    ap (λ n. n * w + rest) one ∙ ap (λ n. 1 * w + n) (sym back) ∙ sym ((λ i. bit_xor (x0 i) (w1 i)) ∙ xor_block (suc k) 0 1 x terms (xor_lt (suc k) rest terms low small) small)

-- one bit taken: the register moved up, and the bit, are its next value and perhaps the divisor
took_one : (k terms v b : ℕ) → terms < 2 ^ suc k → v < 2 ^ suc k → b < 2 → bit_xor (v * 2) (b * 2 ^ suc k) ≡ bit_xor (took_bit (suc k) terms v b) (cond (adds k v b) (divisor k terms) 0)
took_one k terms v b small h bit =
    let w = 2 ^ suc k in
    let top = v / 2 ^ k in
    let rest = v * 2 % w in
    let low : rest < w = mod_below (v * 2) w (pow_pos (suc k)) in
    let place : suc k - 1 ≡ k = omega arith in
    let up = moved_up k v in
    let b0 = sym (add-zero (b * w)) in
    let left : bit_xor (v * 2) (b * w) ≡ bit_xor top b * w + rest =
    (λ i. bit_xor (up i) (b0 i)) ∙ xor_block (suc k) top b rest 0 low (pow_pos (suc k)) ∙ ap (λ x. bit_xor top b * w + x) (xor_zero_r rest) in
    let go : (t : Bool) → eqb top b ≡ t → bit_xor top b * w + rest ≡ bit_xor (bit_xor rest (cond t 0 terms)) (cond (not t) (w + terms) 0) =
    λ t. elim t as (λ t. eqb top b ≡ t → bit_xor top b * w + rest ≡ bit_xor (bit_xor rest (cond t 0 terms)) (cond (not t) (w + terms) 0)) [ true ↦ same k terms top b rest | false ↦ other k terms top b rest small low (top_bit k v h) bit ] in
    left ∙ go (eqb top b) refl ∙ ap (λ j. bit_xor (bit_xor rest (cond (eqb (v / 2 ^ j) b) 0 terms)) (cond (adds k v b) (divisor k terms) 0)) (sym place)

-- the quotient has a coefficient for each bit
abbrev quotient_of : ℕ → ℕ → ℕ → List ℕ → List Bool
quotient_of k terms v [] = []
quotient_of k terms v (b ∷ bs) = adds k v b ∷ quotient_of k terms (took_bit (suc k) terms v b) bs

length_quotient : (k terms v : ℕ) (bs : List ℕ) → length (quotient_of k terms v bs) ≡ length bs
length_quotient k terms v [] = refl
length_quotient k terms v (b ∷ bs) = ap suc (length_quotient k terms (took_bit (suc k) terms v b) bs)

-- the dividend, with its first bit apart
first_apart : (k m v b n : ℕ) → bit_xor (v * 2 ^ suc m) (bit_xor (b * 2 ^ m) n * 2 ^ suc k) ≡ bit_xor (bit_xor (v * 2) (b * 2 ^ suc k) * 2 ^ m) (n * 2 ^ suc k)
first_apart k m v b n =
    let w = 2 ^ suc k in
    let p = 2 ^ m in
    let up : v * 2 ^ suc m ≡ v * 2 * p = ap (λ x. v * x) (pow-suc 2 m ∙ mul_comm p 2) ∙ sym (mul_assoc v 2 p) in
    let swap : b * p * w ≡ b * w * p = mul_assoc b p w ∙ ap (λ x. b * x) (mul_comm p w) ∙ sym (mul_assoc b w p) in
    let apart : bit_xor (b * p) n * w ≡ bit_xor (b * w * p) (n * w) = moved (suc k) (b * p) n ∙ ap (λ x. bit_xor x (n * w)) swap in
    (λ i. bit_xor (up i) (apart i)) ∙ sym (xor_assoc (v * 2 * p) (b * w * p) (n * w)) ∙ ap (λ x. bit_xor x (n * w)) (sym (moved m (v * 2) (b * w)))

-- a sum whose first part goes in front
in_front : (m r t n : ℕ) → bit_xor (bit_xor r t * 2 ^ m) n ≡ bit_xor (t * 2 ^ m) (bit_xor (r * 2 ^ m) n)
in_front m r t n =
    ap (λ x. bit_xor x n) (moved m r t ∙ xor_comm (r * 2 ^ m) (t * 2 ^ m)) ∙ xor_assoc (t * 2 ^ m) (r * 2 ^ m) n

divided : (k terms v : ℕ) (bs : List ℕ) → terms < 2 ^ suc k → v < 2 ^ suc k → Bits bs → dividend_of (suc k) v bs ≡ bit_xor (product_of (quotient_of k terms v bs) (divisor k terms)) (took_bits (suc k) terms v bs)
divided k terms v [] small h bits =
    let v1 : v * 2 ^ 0 ≡ v = mul-one v in
    let none = zero-mul (2 ^ suc k) in
    (λ i. bit_xor (v1 i) (none i)) ∙ xor_zero_r v ∙ sym (xor_zero_l v)
divided k terms v (b ∷ bs) small h bits =
    let next = took_bit (suc k) terms v b in
    let m = length bs in
    let n = polynomial_of bs in
    let t = cond (adds k v b) (divisor k terms) 0 in
    let qs = quotient_of k terms next bs in
    let more = divided k terms next bs small (took_lt (suc k) terms v b small) bits.1 in
    first_apart k m v b n
    ∙ ap (λ x. bit_xor (x * 2 ^ m) (n * 2 ^ suc k)) (took_one k terms v b small h bits.0)
    ∙ in_front m next t (n * 2 ^ suc k)
    ∙ ap (bit_xor (t * 2 ^ m)) more
    ∙ sym (xor_assoc (t * 2 ^ m) (product_of qs (divisor k terms)) (took_bits (suc k) terms next bs))
    ∙ ap (λ l. bit_xor (bit_xor (t * 2 ^ l) (product_of qs (divisor k terms))) (took_bits (suc k) terms next bs)) (sym (length_quotient k terms next bs))

-- whatever the width and the divisor, the register ends with the remainder
pub divides : (k terms v : ℕ) (bs : List ℕ) → terms < 2 ^ suc k → v < 2 ^ suc k → Bits bs → Remainder (suc k) terms (dividend_of (suc k) v bs) (took_bits (suc k) terms v bs)
divides k terms v bs small h bits = (tooks_lt (suc k) terms v bs small h, (quotient_of k terms v bs, divided k terms v bs small h bits))
