-- Bytes at the front of a buffer.
use Rattle.std.proofs.Common.{◌≡◌, ℕ, ◌<◌, ◌≤◌, List, [], ◌∷◌, ◌++◌, length, take, drop, Ok, Err, Result, sym, refl, ap, ◌∙◌, arith}
use Rattle.std.proofs.lemmas.List.{take_at}
use Rattle.refusal.specs.declared.Refusal.{Refusal}
use Rattle.packet.specs.Header.{stamped_of, Stamps}
use Rattle.packet.proofs.Fields.{length_stamped}

stamped_append : (k : ℕ) (p rest : List ℕ) → 1 ≤ length p → stamped_of k (p ++ rest) ≡ stamped_of k p ++ rest
stamped_append k [] rest some = absurd (omega arith)
stamped_append k (b ∷ p) rest some = refl

-- the packet p at the front of a buffer, once it is stamped
pub stamped_front : (k : ℕ) (p b before : List ℕ) → 1 ≤ length p → b ≡ p ++ drop (length p) before → stamped_of k b ≡ stamped_of k p ++ drop (length (stamped_of k p)) before
stamped_front k p b before some is =
    ap (stamped_of k) is ∙ stamped_append k p (drop (length p) before) some ∙ ap (λ n. stamped_of k p ++ drop n before) (sym (length_stamped k p))

-- an ackID that has five bits is stamped
pub stamps_within : (k : ℕ) (before after : List ℕ) (r : Result (Unit {0}) Refusal) → Stamps k before r after → k < 32 → after ≡ stamped_of k before
stamps_within k before after (Ok done) stamps lt = stamps.1
stamps_within k before after (Err e) stamps lt = absurd (omega (arith, stamps.1))

-- the front of a buffer that begins with f
pub front : (b f rest : List ℕ) (n : ℕ) → b ≡ f ++ rest → n ≡ length f → take n b ≡ f
front b f rest n is len = ap (take n) is ∙ take_at f rest n (sym len)
