-- The running value: it adds up with the exclusive or, and its own two bytes bring it to zero. Assumes nothing.
use Rattle.std.proofs.Common.{◌≡◌, ℕ, zero, suc, ◌+◌, ◌*◌, ◌/◌, ◌%◌, ◌^◌, ◌<◌, if◌then◌else◌, ◌==◌, List, [], ◌∷◌, sym, refl, ap, ◌∙◌, arith, eq-eqb}
use lib.Bits.{bit_xor, xor_self, xor_zero_r, xor_zero_l, xor_block, xor_lt, xor_comm, xor_assoc, xor_shr, xor_mod}
use Rattle.std.proofs.lemmas.Nat.{shr-shr}
use Rattle.symbol.specs.Division.{took_bit, took_bits, bits_of}
use Rattle.packet.specs.Crc.{step_of, crc_of, bytes_of}
use Rattle.symbol.proofs.Divides.{took_lt, tooks_lt}

abbrev took : ℕ → ℕ → ℕ
took = took_bit 16 0x1021

abbrev term : ℕ → ℕ → ℕ
term t b = if t == b then 0 else 0x1021

interchange : (a b c d : ℕ) → bit_xor (bit_xor a b) (bit_xor c d) ≡ bit_xor (bit_xor a c) (bit_xor b d)
interchange a b c d =
    xor_assoc a b (bit_xor c d)
    ∙ ap (bit_xor a) (sym (xor_assoc b c d) ∙ ap (λ x. bit_xor x d) (xor_comm b c) ∙ xor_assoc c b d)
    ∙ sym (xor_assoc a c (bit_xor b d))

-- what holds of two bits, by their four values
bits_both : (P : ℕ → ℕ → Type 0) → P 0 0 → P 0 1 → P 1 0 → P 1 1 → (x y : ℕ) → x < 2 → y < 2 → P x y
bits_both P a b c d zero zero h k = a
bits_both P a b c d zero (suc zero) h k = b
bits_both P a b c d (suc zero) zero h k = c
bits_both P a b c d (suc zero) (suc zero) h k = d
bits_both P a b c d (suc (suc x)) y h k = absurd (omega arith)
bits_both P a b c d zero (suc (suc y)) h k = absurd (omega arith)
bits_both P a b c d (suc zero) (suc (suc y)) h k = absurd (omega arith)

-- the terms that a differing bit brings in
pick : ℕ → ℕ
pick zero = 0
pick (suc n) = 0x1021

term_pick : (t a : ℕ) → t < 2 → a < 2 → term t a ≡ pick (bit_xor t a)
unfolding pick
term_pick = bits_both (λ t a. term t a ≡ pick (bit_xor t a)) refl refl refl refl

pick_xor : (x y : ℕ) → x < 2 → y < 2 → pick (bit_xor x y) ≡ bit_xor (pick x) (pick y)
unfolding pick
pick_xor = bits_both (λ x y. pick (bit_xor x y) ≡ bit_xor (pick x) (pick y)) refl refl refl refl

term_xor : (t u a b : ℕ) → t < 2 → u < 2 → a < 2 → b < 2 → term (bit_xor t u) (bit_xor a b) ≡ bit_xor (term t a) (term u b)
term_xor t u a b h i j k =
    let p = term_pick t a h j in
    let q = term_pick u b i k in
    term_pick (bit_xor t u) (bit_xor a b) (xor_lt 1 t u h i) (xor_lt 1 a b j k)
    ∙ ap pick (interchange t u a b)
    ∙ pick_xor (bit_xor t a) (bit_xor u b) (xor_lt 1 t a h j) (xor_lt 1 u b i k)
    ∙ sym (λ n. bit_xor (p n) (q n))

-- moved up by one place, each part moves
moved_xor : (r s : ℕ) → bit_xor r s * 2 % 65536 ≡ bit_xor (r * 2 % 65536) (s * 2 % 65536)
moved_xor r s =
    let one : bit_xor (r * 2 + 0) (s * 2 + 0) ≡ bit_xor r s * 2 + bit_xor 0 0 = xor_block 1 r s 0 0 (omega arith) (omega arith) in
    let r2 : r * 2 ≡ r * 2 + 0 = omega arith in
    let s2 : s * 2 ≡ s * 2 + 0 = omega arith in
    let twice : bit_xor r s * 2 ≡ bit_xor (r * 2) (s * 2) = sym ((λ i. bit_xor (r2 i) (s2 i)) ∙ one ∙ omega arith) in
    ap (λ n. n % 65536) twice ∙ xor_mod (r * 2) (s * 2) 16

took_xor : (r s a b : ℕ) → r < 65536 → s < 65536 → a < 2 → b < 2 → took (bit_xor r s) (bit_xor a b) ≡ bit_xor (took r a) (took s b)
took_xor r s a b h i j k =
    let m = moved_xor r s in
    let t = ap (λ n. term n (bit_xor a b)) (xor_shr r s 15) ∙ term_xor (r / 32768) (s / 32768) a b (omega arith) (omega arith) j k in
    (λ n. bit_xor (m n) (t n)) ∙ interchange (r * 2 % 65536) (s * 2 % 65536) (term (r / 32768) a) (term (s / 32768) b)

bit_of_xor : (n b c : ℕ) → bit_xor b c / 2 ^ n % 2 ≡ bit_xor (b / 2 ^ n % 2) (c / 2 ^ n % 2)
bit_of_xor n b c = ap (λ x. x % 2) (xor_shr b c n) ∙ xor_mod (b / 2 ^ n) (c / 2 ^ n) 1

bits_xor : (n v w b c : ℕ) → v < 65536 → w < 65536 → took_bits 16 0x1021 (bit_xor v w) (bits_of n (bit_xor b c)) ≡ bit_xor (took_bits 16 0x1021 v (bits_of n b)) (took_bits 16 0x1021 w (bits_of n c))
unfolding bits_of
bits_xor zero v w b c h k = refl
bits_xor (suc n) v w b c h k =
    let x = b / 2 ^ n % 2 in
    let y = c / 2 ^ n % 2 in
    let one = ap (took (bit_xor v w)) (bit_of_xor n b c) ∙ took_xor v w x y h k (omega arith) (omega arith) in
    ap (λ r. took_bits 16 0x1021 r (bits_of n (bit_xor b c))) one ∙ bits_xor n (took v x) (took w y) b c (took_lt 16 0x1021 v x (omega arith)) (took_lt 16 0x1021 w y (omega arith))

step_xor : (v w b c : ℕ) → v < 65536 → w < 65536 → step_of (bit_xor v w) (bit_xor b c) ≡ bit_xor (step_of v b) (step_of w c)
unfolding step_of
step_xor v w b c h k = bits_xor 8 v w b c h k

-- a bit that is the one that falls out brings nothing in
took_same : (r b : ℕ) → r / 32768 ≡ b → took r b ≡ r * 2 % 65536
took_same r b h = ap (λ x. bit_xor (r * 2 % 65536) (if x then 0 else 0x1021)) (eq-eqb (r / 32768) b h) ∙ xor_zero_r (r * 2 % 65536)

-- one bit of the value's own high byte takes itself out
took_own : (v r n w : ℕ) → r / 32768 ≡ v / 2 ^ (8 + n) % 2 → r * 2 % 65536 ≡ w → took_bits 16 0x1021 r (bits_of (suc n) (v / 256)) ≡ took_bits 16 0x1021 w (bits_of n (v / 256))
unfolding bits_of
took_own v r n w e m =
    let own : r / 32768 ≡ v / 256 / 2 ^ n % 2 = e ∙ ap (λ x. x % 2) (sym (shr-shr v 8 n)) in
    ap (λ y. took_bits 16 0x1021 y (bits_of n (v / 256))) (took_same r (v / 256 / 2 ^ n % 2) own ∙ m)

-- a byte that is the value's own high byte takes it out, and brings nothing in
pub step_same : (v : ℕ) → v < 65536 → step_of v (v / 256) ≡ v % 256 * 256
unfolding step_of bits_of
step_same v h =
    let one = took_own v in
    one v 7 (v % 32768 * 2) (omega arith) (omega arith)
    ∙ one (v % 32768 * 2) 6 (v % 16384 * 4) (omega arith) (omega arith)
    ∙ one (v % 16384 * 4) 5 (v % 8192 * 8) (omega arith) (omega arith)
    ∙ one (v % 8192 * 8) 4 (v % 4096 * 16) (omega arith) (omega arith)
    ∙ one (v % 4096 * 16) 3 (v % 2048 * 32) (omega arith) (omega arith)
    ∙ one (v % 2048 * 32) 2 (v % 1024 * 64) (omega arith) (omega arith)
    ∙ one (v % 1024 * 64) 1 (v % 512 * 128) (omega arith) (omega arith)
    ∙ one (v % 512 * 128) 0 (v % 256 * 256) (omega arith) (omega arith)

-- one byte on is one look-up: the value's low byte moves up, and the rest depends on its high byte and the byte taken alone
pub by_table : (v b : ℕ) → v < 65536 → step_of v b ≡ bit_xor (v % 256 * 256) (step_of 0 (bit_xor (v / 256) b))
by_table v b h =
    let hi = v / 256 in
    let same : bit_xor hi (bit_xor hi b) ≡ b = sym (xor_assoc hi hi b) ∙ ap (λ x. bit_xor x b) (xor_self hi) ∙ xor_zero_l b in
    let z = xor_zero_r v in
    sym (λ i. step_of (z i) (same i)) ∙ step_xor v 0 hi (bit_xor hi b) h (omega arith) ∙ ap (λ x. bit_xor x (step_of 0 (bit_xor hi b))) (step_same v h)

-- a value's own two bytes bring it to zero
pub crc_own : (v : ℕ) → v < 65536 → crc_of v (bytes_of v) ≡ 0
crc_own v h =
    let w = v % 256 * 256 in
    let low : v % 256 ≡ w / 256 = omega arith in
    ap (λ x. step_of x (v % 256)) (step_same v h) ∙ ap (step_of w) low ∙ step_same w (omega arith) ∙ omega arith

-- a running value has sixteen bits
pub crc_lt : (v : ℕ) (bs : List ℕ) → v < 65536 → crc_of v bs < 65536
unfolding step_of
crc_lt v [] h = h
crc_lt v (b ∷ bs) h = crc_lt (step_of v b) bs (tooks_lt 16 0x1021 v (bits_of 8 b) (omega arith) h)
