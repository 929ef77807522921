-- Bytes written over the front of a buffer, and more behind them. Assumes nothing.
use Rattle.std.proofs.Common.{◌≡◌, ℕ, List, ◌++◌, length, take, drop, sym, refl, ap, ◌∙◌, append_assoc}
use Rattle.std.proofs.lemmas.List.{take_at, drop_at, drop-drop, length-append}
use Rattle.packet.specs.Sealing.{written_over}

-- a part written behind what stands in front: at is where the front ends, and the rest stays as it was
pub written_behind : (front part before first : List ℕ) (at : ℕ) → at ≡ length front → first ≡ written_over front before → take at first ++ (part ++ drop (length part) (drop at first)) ≡ written_over (front ++ part) before
written_behind front part before first at end e =
    let rest = drop (length front) before in
    let so = take_at front rest (length front) refl in
    let behind = drop_at front rest (length front) refl in
    (λ i. take (end i) (e i) ++ (part ++ drop (length part) (drop (end i) (e i))))
    ∙ (λ i. so i ++ (part ++ drop (length part) (behind i)))
    ∙ sym (append_assoc front part (drop (length part) rest))
    ∙ ap (λ l. (front ++ part) ++ l) (drop-drop (length part) (length front) before ∙ ap (λ n. drop n before) (sym (length-append front part)))
