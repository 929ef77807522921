-- When a packet is sound, part by part, and that the first six bits do not count. Assumes nothing.
use Rattle.std.proofs.Common.{◌≡◌, ℕ, ◌%◌, ◌<◌, ◌≤◌, true, ◌&&◌, ◌||◌, ◌==◌, nat_le, List, ◌++◌, length, take, drop, sym, ap, ◌∙◌, arith}
use Rattle.std.proofs.lemmas.List.{length-take, take-append-drop}
use Rattle.std.proofs.lemmas.List.Sums.{fold-append}
use Rattle.packet.specs.Crc.{step_of, crc_of, cleared_of, run_of}
use Rattle.packet.specs.Soundness.{packet_length, sound_of, Sound}
use Rattle.packet.proofs.Cleared.{length_cleared, take_cleared, cleared_append, cleared_cleared}

-- the run over two parts of a packet
pub run_append : (xs ys : List ℕ) → 0 < length xs → run_of (xs ++ ys) ≡ crc_of (run_of xs) ys
run_append xs ys h = ap (crc_of 0xFFFF) (cleared_append xs ys h) ∙ fold-append step_of 0xFFFF (cleared_of xs) ys

pub length_parts : (n : ℕ) → packet_length n ≡ true → (n % 4 ≡ 0) × (8 ≤ n) × (n ≤ 276)
length_parts n h = grind arith

pub sound_from : (p : List ℕ) → packet_length (length p) ≡ true → run_of p ≡ 0 → (84 < length p → run_of (take 82 p) ≡ 0) → Sound p
unfolding sound_of
sound_from p m e f = grind arith

pub sound_length : (p : List ℕ) → Sound p → packet_length (length p) ≡ true
unfolding sound_of
sound_length p h = grind arith

-- what has the same bits from the seventh on is as sound
pub sound_same : (p q : List ℕ) → cleared_of p ≡ cleared_of q → sound_of p ≡ sound_of q
unfolding sound_of
sound_same p q e =
    let n : length p ≡ length q = sym (length_cleared p) ∙ ap length e ∙ length_cleared q in
    let whole : run_of p ≡ run_of q = ap (crc_of 0xFFFF) e in
    let first : run_of (take 82 p) ≡ run_of (take 82 q) = ap (crc_of 0xFFFF) (take_cleared 82 p ∙ ap (take 82) e ∙ sym (take_cleared 82 q)) in
    λ i. packet_length (n i) && (whole i == 0 && (nat_le (n i) 84 || first i == 0))

pub sound_cleared : (p q : List ℕ) → q ≡ cleared_of p → sound_of q ≡ sound_of p
sound_cleared p q e = ap sound_of e ∙ sound_same (cleared_of p) p (cleared_cleared p)

-- the run over all of a packet goes on from its first 82 bytes
pub run_on : (p : List ℕ) (n : ℕ) → 0 < n → 0 < length p → run_of p ≡ crc_of (run_of (take n p)) (drop n p)
run_on p n h k =
    let some : 0 < length (take n p) = simp length-take (omega arith) in
    ap run_of (sym (take-append-drop n p)) ∙ run_append (take n p) (drop n p) some
