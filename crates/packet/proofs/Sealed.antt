-- A sealed packet: its length, that it is sound, and where its load stands in it. Assumes nothing.
use Rattle.std.proofs.Common.{◌≡◌, ℕ, ◌+◌, ◌-◌, ◌%◌, ◌<◌, ◌≤◌, min, true, false, if◌then◌else◌, ◌==◌, nat_le, List, [], ◌∷◌, ◌++◌, length, take, drop, replicate, sym, refl, ap, ◌∙◌, ⊎_elim, subst, append_assoc, arith}
use Rattle.std.proofs.lemmas.List.{append-nil, length-replicate, length-append, length-take, length-drop, take_at, drop_at, drop-take, drop_all, take-append-drop}
use Rattle.std.proofs.lemmas.Bool.{cond-true, cond-false, cases_lt, le-leb, lt-leb}
use Rattle.std.specs.Int.{next_multiple_of}
use Rattle.symbol.specs.Division.{bits_of}
use Rattle.packet.specs.Crc.{step_of, crc_of, cleared_of, run_of, bytes_of}
use Rattle.packet.specs.Sealing.{Sealable, with_crc, checked_of, pad_of, sealed_of, SealedTo, crc_length, sealed_length, SealsToLength}
use Rattle.packet.specs.Opening.{first_of, rest_of}
use Rattle.packet.specs.Soundness.{packet_length, Sound}
use Rattle.packet.proofs.Steps.{crc_own, crc_lt}
use Rattle.packet.proofs.Cleared.{length_cleared, take_cleared, drop_cleared, cleared_append, cleared_cleared}
use Rattle.packet.proofs.Sounds.{run_append, length_parts, sound_from, sound_length}

pub length_crc : (bs : List ℕ) → length (with_crc bs) ≡ length bs + 2
length_crc bs = length-append bs (bytes_of (run_of bs))

-- bytes with their CRC bring the run to zero
pub run_crc : (bs : List ℕ) → 0 < length bs → run_of (with_crc bs) ≡ 0
run_crc bs h = run_append bs (bytes_of (run_of bs)) h ∙ crc_own (run_of bs) (crc_lt 0xFFFF (cleared_of bs) (omega arith))

-- zero bytes up to a multiple of 4
pad_zeros : (n : ℕ) → n % 2 ≡ 0 → replicate (next_multiple_of n 4 - n) 0 ≡ pad_of n
pad_zeros n even =
    elim (n % 4 == 0) as (λ b. n % 4 == 0 ≡ b → replicate {A = ℕ} (next_multiple_of n 4 - n) 0 ≡ (if b then [] else 0 ∷ 0 ∷ [])) [
      | true ↦ λ e. let none : next_multiple_of n 4 - n ≡ 0 = grind arith in ap (λ k. replicate {A = ℕ} k 0) none
      | false ↦ λ e. let two : next_multiple_of n 4 - n ≡ 2 = grind arith in ap (λ k. replicate {A = ℕ} k 0) two
    ] refl

-- zero bytes leave the value zero
run_pad : (n : ℕ) → crc_of 0 (pad_of n) ≡ 0
unfolding step_of bits_of
run_pad n = elim (n % 4 == 0) as (λ b. crc_of 0 (if b then [] else 0 ∷ 0 ∷ []) ≡ 0) [ true ↦ refl | false ↦ refl ]

pub checked_short : (bs : List ℕ) → length bs ≤ 80 → checked_of bs ≡ with_crc bs
checked_short bs h = cond-true (nat_le (length bs) 80) _ _ (le-leb (length bs) 80 h)

-- the first 80 bytes with their CRC, and the rest after them
unfoldable pub long_of : List ℕ → List ℕ
long_of bs = with_crc (take 80 bs) ++ drop 80 bs

pub checked_long : (bs : List ℕ) → 80 < length bs → checked_of bs ≡ with_crc (long_of bs)
unfolding long_of
checked_long bs h = cond-false (nat_le (length bs) 80) _ _ (lt-leb (length bs) 80 h)

-- what holds of few bytes with their CRC, and of more with their two, holds of checked bytes
by_length : (P : List ℕ → Type 0) (bs : List ℕ) → (length bs ≤ 80 → P (with_crc bs)) → (80 < length bs → P (with_crc (long_of bs))) → P (checked_of bs)
by_length P bs few many =
    ⊎_elim (λ lt. subst P (sym (checked_long bs lt)) (many lt)) (λ le. subst P (sym (checked_short bs le)) (few le)) (cases_lt 80 (length bs))

pub length_first : (bs : List ℕ) → 80 < length bs → length (with_crc (take 80 bs)) ≡ 82
length_first bs h = length_crc (take 80 bs) ∙ simp length-take (omega arith)

length_long : (bs : List ℕ) → 80 < length bs → length (long_of bs) ≡ length bs + 2
unfolding long_of
length_long bs h =
    let f = length_first bs h in
    length-append (with_crc (take 80 bs)) (drop 80 bs) ∙ simp length-drop (omega arith)

pub length_checked : (bs : List ℕ) → length (checked_of bs) ≡ length bs + crc_length (length bs)
length_checked bs =
    by_length (λ l. length l ≡ length bs + crc_length (length bs)) bs
    (λ le. length_crc bs ∙ grind arith)
    (λ lt. let k = length_long bs lt in length_crc (long_of bs) ∙ grind arith)

run_checked : (bs : List ℕ) → 0 < length bs → run_of (checked_of bs) ≡ 0
run_checked bs h = by_length (λ l. run_of l ≡ 0) bs (λ le. run_crc bs h) (λ lt. let k = length_long bs lt in run_crc (long_of bs) (omega arith))

-- the first 82 bytes of a long packet are 80 with their CRC
first_checked : (bs ys : List ℕ) → 80 < length bs → take 82 (checked_of bs ++ ys) ≡ with_crc (take 80 bs)
unfolding long_of
first_checked bs ys h =
    let crc = bytes_of (run_of (long_of bs)) in
    ap (λ x. take 82 (x ++ ys)) (checked_long bs h)
    ∙ ap (take 82) (append_assoc (long_of bs) crc ys ∙ append_assoc (with_crc (take 80 bs)) (drop 80 bs) (crc ++ ys))
    ∙ take_at (with_crc (take 80 bs)) (drop 80 bs ++ (crc ++ ys)) 82 (length_first bs h)

-- checked bytes have an even number
even_checked : (load : List ℕ) → length load % 2 ≡ 0 → length (checked_of (cleared_of load)) % 2 ≡ 0
even_checked load even = let n = length_cleared load in let m = length_checked (cleared_of load) in grind arith

-- what pads a packet, as zeros up to a multiple of 4
pub padding : (load : List ℕ) (n : ℕ) → length load % 2 ≡ 0 → n ≡ length (checked_of (cleared_of load)) → replicate (next_multiple_of n 4 - n) 0 ≡ pad_of (length (checked_of (cleared_of load)))
padding load n even e = pad_zeros n (ap (λ k. k % 2) e ∙ even_checked load even) ∙ ap pad_of e

-- the packet of a load has its checked bytes and what pads them
pub length_padded : (load : List ℕ) → length (sealed_of load) ≡ length (checked_of (cleared_of load)) + length (pad_of (length (checked_of (cleared_of load))))
unfolding sealed_of
length_padded load = length-append (checked_of (cleared_of load)) (pad_of (length (checked_of (cleared_of load))))

-- the packet of a load ends at the multiple of 4 after its checked bytes
pub padded_sealed : (load : List ℕ) (n : ℕ) → length load % 2 ≡ 0 → n ≡ length (checked_of (cleared_of load)) → next_multiple_of n 4 ≡ length (sealed_of load)
unfolding sealed_of
padded_sealed load n even e =
    let zeros = sym (length-replicate (next_multiple_of n 4 - n) 0) ∙ ap length (padding load n even e) in
    let whole = length_padded load in
    omega arith

-- and has the length that the rule gives
pub length_sealed : (load : List ℕ) → length load % 2 ≡ 0 → length (sealed_of load) ≡ sealed_length (length load)
length_sealed load even =
    let checked = length_checked (cleared_of load) ∙ ap (λ k. k + crc_length k) (length_cleared load) in
    sym (padded_sealed load (length (checked_of (cleared_of load))) even refl) ∙ ap (λ k. next_multiple_of k 4) checked

pub sealed_to : (n : ℕ) → n % 2 ≡ 0 → SealedTo n (sealed_length n)
sealed_to n even load size = length_sealed load (ap (λ k. k % 2) size ∙ even) ∙ ap sealed_length size

-- and no other
pub sealed_length_lem : (n m : ℕ) → n % 2 ≡ 0 → SealedTo n m → sealed_length n ≡ m
sealed_length_lem n m even every =
    let zeros = replicate n 0 in
    let size = length-replicate n 0 in
    sym (sealed_to n even zeros size) ∙ every zeros size

-- a load's length gives a packet's length
pub length_within : (n : ℕ) → Sealable n → packet_length (sealed_length n) ≡ true
length_within n h = grind arith

-- above 84 bytes the load has more than 80
more_load : (n : ℕ) → Sealable n → 84 < sealed_length n → 80 < n
more_load n h k = grind arith

-- a sealed packet is sound
pub sealed_sound : (load : List ℕ) → Sealable (length load) → Sound (sealed_of load)
unfolding sealed_of
sealed_sound load h =
    let bs = cleared_of load in
    let n = length_cleared load in
    let m = length_sealed load h.0 in
    let pad = pad_of (length (checked_of bs)) in
    let k = length_checked bs in
    let r = run_checked bs (omega arith) in
    sound_from (sealed_of load)
    (ap packet_length m ∙ length_within (length load) h)
    (run_append (checked_of bs) pad (omega arith) ∙ ap (λ v. crc_of v pad) r ∙ run_pad (length (checked_of bs)))
    (λ lt.
    let long : 80 < length bs = (let e = more_load (length load) h (omega arith) in omega arith) in
    ap run_of (first_checked bs pad long) ∙ run_crc (take 80 bs) (simp length-take (omega arith)))

short_load : (bs pad : List ℕ) → length bs ≤ 80 → first_of (length bs) (with_crc bs ++ pad) ++ rest_of (length bs) (with_crc bs ++ pad) ≡ bs
short_load bs pad h =
    let p = with_crc bs ++ pad in
    let crc = bytes_of (run_of bs) in
    let few : min (length bs) 80 ≡ length bs = omega arith in
    let first = (λ i. take (few i) (append_assoc bs crc pad i)) ∙ take_at bs (crc ++ pad) (length bs) refl in
    let rest : rest_of (length bs) p ≡ [] = drop_all 82 (take (length bs + 2) p) (simp length-take (omega arith)) in
    (λ i. first i ++ rest i) ∙ append-nil bs

long_load : (bs pad : List ℕ) → 80 < length bs → first_of (length bs) (with_crc (long_of bs) ++ pad) ++ rest_of (length bs) (with_crc (long_of bs) ++ pad) ≡ bs
unfolding long_of
long_load bs pad h =
    let front = take 80 bs in
    let one = bytes_of (run_of front) in
    let two = bytes_of (run_of (long_of bs)) in
    let behind = two ++ pad in
    let whole = append_assoc (long_of bs) two pad ∙ append_assoc (with_crc front) (drop 80 bs) behind in
    let many : min (length bs) 80 ≡ 80 = omega arith in
    let eighty : length front ≡ 80 = simp length-take (omega arith) in
    let first = (λ i. take (many i) (whole i)) ∙ ap (take 80) (append_assoc front one (drop 80 bs ++ behind)) ∙ take_at front (one ++ (drop 80 bs ++ behind)) 80 eighty in
    let left = length bs - 80 in
    let up : length bs + 2 ≡ 82 + left = omega arith in
    let rest =
    (λ i. drop 82 (take (up i) (whole i)))
    ∙ drop-take 82 left (with_crc front ++ (drop 80 bs ++ behind))
    ∙ ap (take left) (drop_at (with_crc front) (drop 80 bs ++ behind) 82 (length_first bs h))
    ∙ take_at (drop 80 bs) behind left (length-drop 80 bs) in
    (λ i. first i ++ rest i) ∙ take-append-drop 80 bs

-- a sealed packet has its load in front, or in two parts around the first CRC
pub sealed_load : (load : List ℕ) → first_of (length load) (sealed_of load) ++ rest_of (length load) (sealed_of load) ≡ cleared_of load
unfolding sealed_of
sealed_load load =
    let bs = cleared_of load in
    let pad = pad_of (length (checked_of bs)) in
    ap (λ n. first_of n (checked_of bs ++ pad) ++ rest_of n (checked_of bs ++ pad)) (sym (length_cleared load))
    ∙ by_length (λ l. first_of (length bs) (l ++ pad) ++ rest_of (length bs) (l ++ pad) ≡ bs) bs (short_load bs pad) (long_load bs pad)

-- the second CRC goes on from zero over the rest
long_crc : (load : List ℕ) → 80 < length load → run_of (long_of (cleared_of load)) ≡ crc_of 0 (drop 80 load)
unfolding long_of
long_crc load h =
    let bs = cleared_of load in
    let n = length_cleared load in
    let zero-there = run_crc (take 80 bs) (simp length-take (omega arith)) in
    let m = length_first bs (omega arith) in
    run_append (with_crc (take 80 bs)) (drop 80 bs) (omega arith) ∙ (λ i. crc_of (zero-there i) (drop_cleared 79 load i))

-- a long load is its first 80 bytes with their CRC, and the rest with its own
pub long_parts : (load : List ℕ) (v : ℕ) → 80 < length load → v ≡ crc_of 0 (drop 80 load) → with_crc (cleared_of (take 80 load)) ++ (drop 80 load ++ bytes_of v) ≡ checked_of (cleared_of load)
unfolding long_of
long_parts load v h e =
    let bs = cleared_of load in
    let n = length_cleared load in
    let crc = ap bytes_of (e ∙ sym (long_crc load h)) in
    let front = ap with_crc (take_cleared 80 load) in
    let rest = sym (drop_cleared 79 load) in
    (λ i. front i ++ (rest i ++ crc i)) ∙ sym (append_assoc (with_crc (take 80 bs)) (drop 80 bs) (bytes_of (run_of (long_of bs)))) ∙ sym (checked_long bs (omega arith))

pub sealed_at_most : (load : List ℕ) → Sealable (length load) → length (sealed_of load) ≤ 276
sealed_at_most load h = (length_parts (length (sealed_of load)) (sound_length (sealed_of load) (sealed_sound load h))).2

-- bytes that begin with six zero bits still do with more behind them
kept : (xs ys : List ℕ) → 0 < length xs → cleared_of xs ≡ xs → cleared_of (xs ++ ys) ≡ xs ++ ys
kept xs ys h e = cleared_append xs ys h ∙ ap (λ l. l ++ ys) e

kept_checked : (bs : List ℕ) → 0 < length bs → cleared_of bs ≡ bs → cleared_of (checked_of bs) ≡ checked_of bs
unfolding long_of
kept_checked bs h e =
    let first = take 80 bs in
    by_length (λ l. cleared_of l ≡ l) bs
    (λ le. kept bs (bytes_of (run_of bs)) h e)
    (λ lt.
    let n : length first ≡ 80 = simp length-take (omega arith) in
    let m = length_first bs lt in
    let k = length_long bs lt in
    let one = kept first (bytes_of (run_of first)) (omega arith) (take_cleared 80 bs ∙ ap (take 80) e) in
    let two = kept (with_crc first) (drop 80 bs) (omega arith) one in
    kept (long_of bs) (bytes_of (run_of (long_of bs))) (omega arith) two)

-- a sealed packet begins with six zero bits
pub cleared_sealed : (load : List ℕ) → Sealable (length load) → cleared_of (sealed_of load) ≡ sealed_of load
unfolding sealed_of
cleared_sealed load h =
    let bs = cleared_of load in
    let n = length_cleared load in
    let m = length_checked bs in
    kept (checked_of bs) (pad_of (length (checked_of bs))) (omega arith) (kept_checked bs (omega arith) (cleared_cleared load))

pub length_law : (load : List ℕ) → SealsToLength load
length_law load h = length_sealed load h.0

-- what every call of sealing ensures of the load
pub ruleset sealing_laws = (length_law, sealed_sound, sealed_load)
