-- The invariant of one direction, from a sender to a receiver, and the steps that it withstands.
use Rattle.std.proofs.Common.{◌≡◌, ℕ, ◌+◌, ◌-◌, ◌%◌, ◌<◌, ◌≤◌, max, ◌⊎◌, List, [], ◌∷◌, ◌++◌, length, get_or, take, drop, Some, Option, sym, ap, ◌∙◌, subst, inl, inr, arith}
use native.Mathlib.Nat.{mod-add-mod}
use Rattle.std.proofs.lemmas.List.{get_or_append_left, append_assoc, length_push, length-drop, drop-drop, drop-append-le, take-append-le, take_more, get_or-drop, get_or_push}
use Rattle.std.proofs.lemmas.Bool.{cases_lt}
use Rattle.rules.specs.Wire.{Packet, Seen}
use Rattle.rules.specs.Wire.Seen.{packet}
use Rattle.rules.specs.Port.{after, ordered}
use Rattle.rules.proofs.Numbers.{same_rest_near}
use Rattle.rules.proofs.Replies.{Carries, Replies, replies_le, replies_push}
use Rattle.rules.proofs.Packets.{Packets, packets_lower, packets_raise, packets_push, packets_grow, packet_front}

-- the counts: r packets are freed, and m were received
pub record Counts (n r m held sent high accepted : ℕ) : Type 0 where
  pub freed_few : r ≤ m
  pub received_few : m ≤ r + high
  pub high_few : high ≤ held
  pub held_few : held < n
  pub sent_few : sent ≤ high
  pub all : r + held ≡ accepted

-- some load seals to the packet
abbrev pub Sealed : (List ℕ → Option Packet) → Packet → Type 0
Sealed seal p = (load : List ℕ) × (seal load ≡ Some p)

-- fore is what is under way from the sender, and back what is under way to it, the replies still pending included
pub record Direction (n : ℕ) (seal : List ℕ → Option Packet) (accepted collected held waiting : List Packet) (first sent high expected : ℕ) (fore back : List Seen) : Type 0 where
  pub r : ℕ
  pub m : ℕ
  pub counts : Counts n r m (length held) sent high (length accepted)
  pub held_is : held ≡ drop r accepted
  pub received_is : collected ++ waiting ≡ take m accepted
  pub all_sealed : (i : ℕ) → i < length held → Sealed seal (get_or held i [])
  pub first_is : first ≡ r % n
  pub expected_is : expected ≡ m % n
  pub packets : Packets n accepted (r + high) m fore
  pub replies : Replies n m r back

module _ {n : ℕ} {seal : List ℕ → Option Packet} {accepted collected held waiting : List Packet} {first sent high expected : ℕ} {fore back : List Seen} where
  -- other frames are under way back, or there
  pub with_back : (d : Direction n seal accepted collected held waiting first sent high expected fore back) (b : List Seen) → Replies n d.m d.r b
      → Direction n seal accepted collected held waiting first sent high expected fore b
  with_back d b c =
      record { r = d.r; m = d.m; counts = d.counts; held_is = d.held_is; received_is = d.received_is; all_sealed = d.all_sealed; first_is = d.first_is; expected_is = d.expected_is; packets = d.packets; replies = c }

  pub with_fore : (d : Direction n seal accepted collected held waiting first sent high expected fore back) (f : List Seen) → Packets n accepted (d.r + high) d.m f
      → Direction n seal accepted collected held waiting first sent high expected f back
  with_fore d f a =
      record { r = d.r; m = d.m; counts = d.counts; held_is = d.held_is; received_is = d.received_is; all_sealed = d.all_sealed; first_is = d.first_is; expected_is = d.expected_is; packets = a; replies = d.replies }

  -- the sender rewinds
  pub rewind : Direction n seal accepted collected held waiting first sent high expected fore back → Direction n seal accepted collected held waiting first 0 high expected fore back
  rewind d =
      let q = d.counts in
      record { r = d.r; m = d.m; counts = omega arith; held_is = d.held_is; received_is = d.received_is; all_sealed = d.all_sealed; first_is = d.first_is; expected_is = d.expected_is; packets = d.packets; replies = d.replies }

  -- k packets are freed
  pub free : (d : Direction n seal accepted collected held waiting first sent high expected fore back) (k s : ℕ) (b : List Seen) → k ≤ high → s ≤ high - k → Replies n d.m (d.r + k) b
      → Direction n seal accepted collected (drop k held) waiting (after n first k) s (high - k) expected fore b
  free d k s b h u c =
      let q = d.counts in
      let l = replies_le c in
      let len = length-drop k held in
      let e : d.r + high ≡ (d.r + k) + (high - k) = omega arith in
      record {
        r = d.r + k;
        m = d.m;
        counts = omega arith;
        held_is = ap (drop k) d.held_is ∙ drop-drop k d.r accepted;
        received_is = d.received_is;
        all_sealed = λ i f. let g : k + i < length held = omega arith in subst (Sealed seal) (sym (get_or-drop k held i [])) (d.all_sealed (k + i) g);
        first_is = ap (λ (x : ℕ). (x + k) % n) d.first_is ∙ mod-add-mod d.r n k;
        expected_is = d.expected_is;
        packets = subst (λ (x : ℕ). Packets n accepted x d.m fore) e d.packets;
        replies = c;
      }

  -- the expected packet arrives, and its accepted y is pended
  pub arrive : (d : Direction n seal accepted collected held waiting first sent high expected fore back) (k : ℕ) (p : Packet) (xs : List Seen) (y : Seen) → fore ≡ packet k p ∷ xs → 0 < n → k ≡ expected
      → Carries n y d.m (d.m + 1)
      → Direction n seal accepted collected held (waiting ++ (p ∷ [])) first sent high (after n expected 1) xs (back ++ (y ∷ []))
  arrive d k p xs y fe pos ke mk =
      let q = d.counts in
      let a = packet_front (subst (Packets n accepted (d.r + high) d.m) fe d.packets) in
      let je : a.number ≡ d.m = same_rest_near n a.number d.m pos (sym a.is ∙ ke ∙ d.expected_is) (omega arith) (omega arith) in
      let lt : d.m < length accepted = omega arith in
      record {
        r = d.r;
        m = d.m + 1;
        counts = omega arith;
        held_is = d.held_is;
        received_is =
            sym (append_assoc collected waiting (p ∷ []))
            ∙ ap (λ (x : List Packet). x ++ (p ∷ [])) d.received_is
            ∙ ap (λ (x : Packet). take d.m accepted ++ (x ∷ [])) (a.which ∙ ap (λ (x : ℕ). get_or accepted x []) je)
            ∙ sym (take_more accepted d.m [] lt);
        all_sealed = d.all_sealed;
        first_is = d.first_is;
        expected_is = ap (λ (x : ℕ). (x + 1) % n) d.expected_is ∙ mod-add-mod d.m n 1;
        packets = packets_lower (omega arith) a.rest;
        replies = replies_push d.replies (omega arith) mk (omega arith);
      }

  -- a packet is sent, whatever becomes of it on the lane
  pub depart : (d : Direction n seal accepted collected held waiting first sent high expected fore back) → sent < length held
      → Direction n seal accepted collected held waiting first (sent + 1) (max high (sent + 1)) expected fore back
  depart d l =
      let q = d.counts in
      record {
        r = d.r;
        m = d.m;
        counts = omega arith;
        held_is = d.held_is;
        received_is = d.received_is;
        all_sealed = d.all_sealed;
        first_is = d.first_is;
        expected_is = d.expected_is;
        packets = packets_raise (omega arith) d.packets;
        replies = d.replies;
      }

  -- and is kept
  pub depart_kept : (d : Direction n seal accepted collected held waiting first sent high expected fore back) → sent < length held
      → Direction n seal accepted collected held waiting first (sent + 1) (max high (sent + 1)) expected (fore ++ (packet (after n first sent) (get_or held sent []) ∷ [])) back
  depart_kept d l =
      let q = d.counts in
      let num : (first + sent) % n ≡ (d.r + sent) % n = ap (λ (x : ℕ). (x + sent) % n) d.first_is ∙ mod-add-mod d.r n sent in
      let wh : get_or held sent [] ≡ get_or accepted (d.r + sent) [] = ap (λ (x : List Packet). get_or x sent []) d.held_is ∙ get_or-drop d.r accepted sent [] in
      let z : Packets n accepted (d.r + max high (sent + 1)) d.m (fore ++ (packet ((d.r + sent) % n) (get_or held sent []) ∷ [])) = packets_push (d.r + sent) wh (omega arith) (omega arith) (omega arith) d.packets in
      record {
        r = d.r;
        m = d.m;
        counts = omega arith;
        held_is = d.held_is;
        received_is = d.received_is;
        all_sealed = d.all_sealed;
        first_is = d.first_is;
        expected_is = d.expected_is;
        packets = subst (λ (x : ℕ). Packets n accepted (d.r + max high (sent + 1)) d.m (fore ++ (packet x (get_or held sent []) ∷ []))) (sym num) z;
        replies = d.replies;
      }

  -- a packet is submitted
  pub submit : Direction n seal accepted collected held waiting first sent high expected fore back → (p : Packet) → Sealed seal p → length held + 1 < n
      → Direction n seal (accepted ++ (p ∷ [])) collected (ordered held p) waiting first sent high expected fore back
  submit d p ok l =
      let q = d.counts in
      let la = length_push accepted p in
      let lh = length_push held p in
      let ra : d.r ≤ length accepted = omega arith in
      let ma : d.m ≤ length accepted = omega arith in
      record {
        r = d.r;
        m = d.m;
        counts = omega arith;
        held_is = ap (λ (x : List Packet). x ++ (p ∷ [])) d.held_is ∙ sym (drop-append-le d.r accepted (p ∷ []) ra);
        received_is = d.received_is ∙ sym (take-append-le d.m accepted (p ∷ []) ma);
        all_sealed = λ i f. go i f (cases_lt i (length held));
        first_is = d.first_is;
        expected_is = d.expected_is;
        packets = packets_grow accepted (p ∷ []) (omega arith) d.packets;
        replies = d.replies;
      }
    where
      go : (i : ℕ) → i < length (held ++ (p ∷ [])) → (i < length held) ⊎ (length held ≤ i) → Sealed seal (get_or (held ++ (p ∷ [])) i [])
      go i f (inl u) = subst (Sealed seal) (sym (get_or_append_left held (p ∷ []) [] i u)) (d.all_sealed i u)
      go i f (inr u) = let e : length held ≡ i = omega (arith, length_push held p) in subst (Sealed seal) (sym (get_or_push held p [] i e)) ok

  -- packets are collected
  pub collect : Direction n seal accepted collected held waiting first sent high expected fore back → (collected' waiting' : List Packet) → collected' ++ waiting' ≡ collected ++ waiting
      → Direction n seal accepted collected' held waiting' first sent high expected fore back
  collect d c w e =
      record { r = d.r; m = d.m; counts = d.counts; held_is = d.held_is; received_is = e ∙ d.received_is; all_sealed = d.all_sealed; first_is = d.first_is; expected_is = d.expected_is; packets = d.packets; replies = d.replies }
