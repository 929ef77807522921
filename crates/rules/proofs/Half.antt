-- Half a round, where the lane keeps the frame: one side sends, and the other receives and collects until nothing waits.
use Rattle.std.proofs.Common.{◌≡◌, ℕ, ◌<◌, Bool, true, false, leb, List, [], ◌∷◌, ◌++◌, length, Some, None, Ok, Option, sym, refl, ap, ◌∙◌}
use Rattle.std.proofs.lemmas.List.{append_assoc, append-nil}
use Rattle.std.proofs.lemmas.Bool.{lt-leb}
use Rattle.refusal.specs.declared.Refusal.TheVariants.{LaneFull, RepliesFull}
use Rattle.rules.specs.declared.state.Reply.{Reply}
use Rattle.rules.specs.Wire.{Packet, Frame, Seen, Wire, Lawful}
use Rattle.rules.specs.Port.{Port, with_receiver}
use Rattle.rules.specs.Hearing.{heard}
use Rattle.rules.specs.Calls.{Departure, refused_if, due, send_due, receive_first, keeping, collect_first, collect}
use Rattle.rules.specs.Link.{Side, called, with_port, with_lane, after_send, after_receive, after_collect}
use Rattle.rules.specs.Link.Fate.{keep}
use Rattle.rules.specs.Link.Call.{sends, receives}
use Rattle.rules.proofs.Direction.{collect as collect_direction}
use Rattle.rules.proofs.Keeps.{Both, called_keeps}

-- the side with these packets waiting and collected
abbrev with_packets : List Packet → List Packet → Side → Side
with_packets ws cs t = record { port = with_receiver (keeping ws t.port.receiver) t.port; lane = t.lane; accepted = t.accepted; collected = cs }

-- the side once all that waited is collected
abbrev pub emptied : Side → Side
emptied t = with_packets [] (t.collected ++ t.port.receiver.waiting) t

pub emptied_none : (t : Side) → t.port.receiver.waiting ≡ [] → emptied t ≡ t
emptied_none t e =
    ap (λ (x : List Packet). with_packets [] (t.collected ++ x) t) e
    ∙ ap (λ (x : List Packet). with_packets [] x t) (append-nil t.collected)
    ∙ ap (λ (x : List Packet). with_packets x t.collected t) (sym e)

-- a collect brings it there, and changes nothing there
pub emptied_collect : (t : Side) → emptied (after_collect (collect 276 t.port) t) ≡ emptied t
emptied_collect t = go t.port.receiver.waiting refl
  where
    go : (x : List Packet) → t.port.receiver.waiting ≡ x → emptied (after_collect (collect_first x t.port) t) ≡ emptied t
    go [] e = refl
    go (q ∷ qs) e = ap (λ (x : List Packet). with_packets [] x t) (append_assoc t.collected (q ∷ []) qs ∙ ap (λ (x : List Packet). t.collected ++ x) (sym e))

-- who has sent, and who has heard
abbrev pub sender : Port → Side → Side
sender p s = record { port = p; lane = []; accepted = s.accepted; collected = s.collected }

abbrev pub hearer : Port → Side → Side
hearer p t = emptied (with_port p t)

module _ (n : ℕ) (w : Wire) where
  -- s has sent, and t takes the front of its lane v, if it may
  abbrev takes : Bool → List Frame → Side → Side → Side × Side
  takes full v s t = let z = after_receive (refused_if full RepliesFull (receive_first n w v t.port)) t v in (with_lane z.1 s, emptied z.0)

  -- half a round from s, whose lane has this limit, to t
  abbrev pub half : ℕ → Side → Side → Side × Side
  half limit s t = let x = called n w limit (sends 276) keep s t.lane in let z = called n w limit (receives 276) keep t x.0.lane in (with_lane z.1 x.0, emptied z.0)

  module _ (limit : ℕ) (s t : Side) where
    full : Bool
    full = leb t.port.places.replies (length t.port.receiver.pending)

    pub half_nothing : s.lane ≡ [] → due n w s.port ≡ None → half limit s t ≡ (s, emptied t)
    unfolding full
    half_nothing sl e =
        ap (λ (x : Option Departure). let s₁ = after_send keep (send_due limit s.lane x) s in takes full s₁.lane s₁ t) e
        ∙ ap (λ (x : List Frame). takes full x (with_lane x s) t) sl
        ∙ last full
        ∙ ap (λ (x : List Frame). (with_lane x s, emptied t)) (sym sl)
      where
        last : (x : Bool) → takes x [] (with_lane [] s) t ≡ (with_lane [] s, emptied t)
        last true = refl
        last false = refl

    pub half_puts : (d : Departure) (x : Seen) (p : Port) → s.lane ≡ [] → 0 < limit → due n w s.port ≡ Some d → w.read d.frame ≡ x → t.port.receiver.pending ≡ [] → 0 < t.port.places.replies
        → heard n x t.port ≡ p → half limit s t ≡ (sender d.port s, hearer p t)
    unfolding full
    half_puts d x p sl pl e re te pr he =
        let e1 : leb limit (length s.lane) ≡ false = ap (λ (l : List Frame). leb limit (length l)) sl ∙ lt-leb limit 0 pl in
        let e2 : full ≡ false = ap (λ (l : List Reply). leb t.port.places.replies (length l)) te ∙ lt-leb t.port.places.replies 0 pr in
        let f = d.frame in
        let sent : List Frame → Side = λ (l : List Frame). record { port = d.port; lane = l; accepted = s.accepted; collected = s.collected } in
        ap (λ (y : Option Departure). let s₁ = after_send keep (send_due limit s.lane y) s in takes full s₁.lane s₁ t) e
        ∙ ap (λ (y : Bool). let s₁ = after_send keep (refused_if y LaneFull (Ok d)) s in takes full s₁.lane s₁ t) e1
        ∙ ap (λ (y : List Frame). takes full (y ++ (f ∷ [])) (sent (y ++ (f ∷ []))) t) sl
        ∙ ap (λ (y : Bool). takes y (f ∷ []) (sent (f ∷ [])) t) e2
        ∙ ap (λ (y : Seen). (sender d.port s, hearer (heard n y t.port) t)) re
        ∙ ap (λ (y : Port). (sender d.port s, hearer y t)) he

  -- it keeps the invariant
  pub half_keeps : (lw : Lawful n w) (pos : 0 < n) (limit : ℕ) (s t : Side) → Both n w s t → Both n w (half limit s t).0 (half limit s t).1
  half_keeps lw pos limit s t h =
      let x = called n w limit (sends 276) keep s t.lane in
      let z = called n w limit (receives 276) keep t x.0.lane in
      let h₁ = called_keeps n w lw pos s t limit (sends 276) keep tt h in
      let h₂ = called_keeps n w lw pos t x.0 limit (receives 276) keep tt (h₁.1, h₁.0) in
      let t₁ = z.0 in
      let c = append-nil (t₁.collected ++ t₁.port.receiver.waiting) in
      (record { way = collect_direction h₂.1.way (t₁.collected ++ t₁.port.receiver.waiting) [] c; fits = h₂.1.fits; alive = h₂.1.alive; sized = h₂.1.sized }, h₂.0)
