-- The packets held, as a ring of slots.
use Rattle.std.proofs.Common.{◌≡◌, ℕ, ◌+◌, ◌-◌, ◌<◌, ◌≤◌, List, [], ◌∷◌, ◌++◌, length, get_or, take, drop, set, sym, ap, ◌∙◌, subst, arith}
use Rattle.std.proofs.lemmas.List.{length-map}
use Rattle.fifo.proofs.Turning.{length_ring, ring_put, ring_drop, ring_get_or}
use Rattle.fifo.specs.Turned.{turned, At}
use Rattle.port.specs.declared.sending.Sending.{Sending}
use Rattle.port.specs.Slots.{packets_in}
use Rattle.port.specs.Held.{held_of}

module _ (s : Sending) where
  pub length_packets : length (packets_in s.slots) ≡ 31
  length_packets = simp length-map s.places

  pub length_held : length (held_of s) ≡ s.window.held
  length_held =
      let few = s.window.held_within in
      length_ring s.base s.window.held (packets_in s.slots) (omega (arith, length_packets))

  at_place : (k i : ℕ) → At s.base k 31 i → At s.base k (length (packets_in s.slots)) i
  at_place k i at = subst (λ n. At s.base k n i) (sym length_packets) at

  -- one more is held, in the next slot
  pub held_more : (i k : ℕ) (ps : List (List ℕ)) (x : List ℕ) → s.window.held < 31 → At s.base s.window.held 31 i → k ≡ s.window.held + 1 → ps ≡ set (packets_in s.slots) i x → take k (turned s.base ps) ≡ held_of s ++ x ∷ []
  held_more i k ps x lt at more wrote =
      ap (λ n. take n (turned s.base ps)) more
      ∙ ap (λ l. take (s.window.held + 1) (turned s.base l)) wrote
      ∙ ring_put s.base s.window.held i (packets_in s.slots) x (at_place s.window.held i at) (omega (arith, length_packets))

  -- the first d are freed
  pub held_fewer : (i k d : ℕ) → d ≤ s.window.held → At s.base d 31 i → k ≡ s.window.held - d → take k (turned i (packets_in s.slots)) ≡ drop d (held_of s)
  held_fewer i k d le at fewer =
      let few = s.window.held_within in
      ap (λ n. take n (turned i (packets_in s.slots))) fewer ∙ ring_drop s.base d i s.window.held (packets_in s.slots) (at_place d i at) le (omega (arith, length_packets))

  -- the k-th that is held
  pub held_at : (i k : ℕ) → k < s.window.held → At s.base k 31 i → get_or (held_of s) k [] ≡ get_or (packets_in s.slots) i []
  held_at i k lt at =
      let few = s.window.held_within in
      ring_get_or s.base s.window.held k i (packets_in s.slots) [] (at_place k i at) lt (omega (arith, length_packets))
