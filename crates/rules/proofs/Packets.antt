-- The packets under way from a sender, by their numbers, not reduced to ackIDs, and what such a list withstands.
use Rattle.std.proofs.Common.{◌≡◌, ℕ, ◌+◌, ◌%◌, ◌<◌, ◌≤◌, List, [], ◌∷◌, ◌++◌, length, get_or, sym, refl, ◌∙◌, arith}
use Rattle.std.proofs.lemmas.List.{get_or_append_left}
use Rattle.rules.specs.Wire.{Packet, Seen}
use Rattle.rules.specs.Wire.Seen.{symbol, packet, unsound}

abbrev pub NoPacket : Seen → Type 0
NoPacket (symbol s k q t) = Unit {0}
NoPacket (packet k p) = ⊥
NoPacket (unsound c) = Unit {0}

-- Each is the packet of its number below top; none is n or more behind the floor, nor behind one before it.
pub data Packets (n : ℕ) (accepted : List Packet) (top : ℕ) : ℕ → List Seen → Type 0 where
  end : {floor : ℕ} → floor ≤ top → Packets n accepted top floor []
  numbered : {floor next k : ℕ} {xs : List Seen} {p : Packet} → p ≡ get_or accepted k [] → k < top → floor < k + n → floor ≤ next → k < next → Packets n accepted top next xs → Packets n accepted top floor (packet (k % n) p ∷ xs)
  other : {floor : ℕ} {x : Seen} {xs : List Seen} → NoPacket x → Packets n accepted top floor xs → Packets n accepted top floor (x ∷ xs)

pub packets_lower : {n : ℕ} {accepted : List Packet} {top floor floor' : ℕ} {xs : List Seen} → floor' ≤ floor → Packets n accepted top floor xs → Packets n accepted top floor' xs
packets_lower l (end h) = end (omega arith)
packets_lower l (numbered e a b c d r) = numbered e a (omega arith) (omega arith) d r
packets_lower l (other h r) = other h (packets_lower l r)

pub packets_raise : {n : ℕ} {accepted : List Packet} {top top' floor : ℕ} {xs : List Seen} → top ≤ top' → Packets n accepted top floor xs → Packets n accepted top' floor xs
packets_raise l (end h) = end (omega arith)
packets_raise l (numbered e a b c d r) = numbered e (omega arith) b c d (packets_raise l r)
packets_raise l (other h r) = other h (packets_raise l r)

-- without its first
pub packets_tail : {n : ℕ} {accepted : List Packet} {top floor : ℕ} {x : Seen} {xs : List Seen} → Packets n accepted top floor (x ∷ xs) → Packets n accepted top floor xs
packets_tail (numbered e a b c d z) = packets_lower c z
packets_tail (other h z) = z

-- with something else at the end
pub packets_push_other : {n : ℕ} {accepted : List Packet} {top floor : ℕ} {xs : List Seen} (x : Seen) → NoPacket x → Packets n accepted top floor xs → Packets n accepted top floor (xs ++ (x ∷ []))
packets_push_other x o (end h) = other o (end h)
packets_push_other x o (numbered e a b c d r) = numbered e a b c d (packets_push_other x o r)
packets_push_other x o (other h r) = other h (packets_push_other x o r)

-- with the packet numbered k at the end
pub packets_push : {n : ℕ} {accepted : List Packet} {top top' floor : ℕ} {xs : List Seen} (k : ℕ) {p : Packet} → p ≡ get_or accepted k [] → top ≤ top' → k < top' → top < k + n → Packets n accepted top floor xs
    → Packets n accepted top' floor (xs ++ (packet (k % n) p ∷ []))
packets_push {top' = u} k i l f s (end h) = numbered {next = u} i f (omega arith) (omega arith) f (end (omega arith))
packets_push k i l f s (numbered e a b c d r) = numbered e (omega arith) b c d (packets_push k i l f s r)
packets_push k i l f s (other h r) = other h (packets_push k i l f s r)

-- with more packets accepted
pub packets_grow : {n : ℕ} (accepted more : List Packet) {top floor : ℕ} {xs : List Seen} → top ≤ length accepted → Packets n accepted top floor xs → Packets n (accepted ++ more) top floor xs
packets_grow accepted more l (end h) = end h
packets_grow accepted more l (numbered {k = k} e a b c d r) = numbered (e ∙ sym (get_or_append_left accepted more [] k (omega arith))) a b c d (packets_grow accepted more l r)
packets_grow accepted more l (other h r) = other h (packets_grow accepted more l r)

-- what a packet at the front tells
pub record Front (n : ℕ) (accepted : List Packet) (top floor k : ℕ) (p : Packet) (xs : List Seen) : Type 0 where
  pub number : ℕ
  pub next : ℕ
  pub is : k ≡ number % n
  pub which : p ≡ get_or accepted number []
  pub under : number < top
  pub near : floor < number + n
  pub up : floor ≤ next
  pub over : number < next
  pub rest : Packets n accepted top next xs

pub packet_front : {n : ℕ} {accepted : List Packet} {top floor k : ℕ} {p : Packet} {xs : List Seen} → Packets n accepted top floor (packet k p ∷ xs) → Front n accepted top floor k p xs
packet_front (numbered {next = h} {k = j} e a b c d z) = record { number = j; next = h; is = refl; which = e; under = a; near = b; up = c; over = d; rest = z }
packet_front (other h z) = absurd h
