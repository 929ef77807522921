-- A call at a port is a step of the rules, with a fate that its lane may choose. Assumes nothing.
use Rattle.std.proofs.Common.{◌≡◌, ℕ, Bool, true, false, cond, leb, List, [], ◌∷◌, ◌++◌, length, take, drop, Some, None, Ok, Err, Result, sym, refl, ap, ◌∙◌, inl, inr, arith}
use Rattle.std.proofs.lemmas.List.{take_at}
use Rattle.refusal.specs.declared.Refusal.{Refusal}
use Rattle.lane.specs.Meaning.{Frames, Gains}
use Rattle.rules.specs.Wire.{Packet, Frame}
use Rattle.rules.specs.Port.{Port, most_held}
use Rattle.rules.specs.Calls.{Submitted as SubmittedBy, Departure, Arrival, Collected as CollectedBy, submit, submit_sealed, refused_if, send, receive, collect}
use Rattle.rules.specs.Link.{Side, Fate, Possible, put, called, after_submit, after_send, after_receive, after_collect}
use Rattle.rules.specs.Link.Fate.{keep, spoil, lose}
use Rattle.rules.specs.Serial.{serial, is_load}
use Rattle.rules.proofs.SerialWire.{spoils_by_unsound}
use Rattle.link.specs.declared.call.Call.{Call}
use Rattle.link.specs.declared.call.Call.TheVariants.{Submit, Send, Receive, Collect, TimeOut}
use Rattle.link.specs.declared.call.Outcome.{Outcome}
use Rattle.link.specs.declared.call.Outcome.TheVariants.{Submitted, Sent, Received, Collected}
use Rattle.link.specs.Performing.{Scene, Same, Does, as_rules}
use Rattle.packet.specs.Sealing.{sealed_of, written_over}
use Rattle.port.specs.Promises.{Agrees}
use Rattle.link.specs.Recorded.{Log, logged, side_of}

-- what is submitted is the sealed load
held_one : (full : Bool) (e : Refusal) (x : Packet) (q : Port) (d : SubmittedBy) → refused_if full e (Ok (record { packet = x; port = q })) ≡ Ok d → d.packet ≡ x
held_one true e x q d is = let z : ◌≡◌ {A = ℕ} 0 1 = cc in absurd (omega arith)
held_one false e x q d is = cc

sealed_one : (fits : Bool) (load : List ℕ) (p : Port) (d : SubmittedBy) → submit_sealed 32 (cond fits (Some (sealed_of load)) None) p ≡ Ok d → d.packet ≡ sealed_of load
sealed_one true load p d is = held_one (leb (most_held 32) (length p.sender.held)) _ (sealed_of load) _ d is
sealed_one false load p d is = let z : ◌≡◌ {A = ℕ} 0 1 = cc in absurd (omega arith)

submits_sealed : (load : List ℕ) (p : Port) (d : SubmittedBy) → submit 32 serial load p ≡ Ok d → d.packet ≡ sealed_of load
submits_sealed load p d is = sealed_one (is_load (length load)) load p d is

-- the call leaves the side as `after`, with these frames coming in
abbrev pub Leaves : Side × Frames → Side → Frames → Type 0
Leaves z after incoming = ◌≡◌ {A = Side × Frames} z (after, incoming)

module _ (s t : Scene) (l : Log) where
  -- nothing has changed
  stays : Same s t → Leaves (side_of s.port s.out l, s.incoming) (side_of t.port t.out l) t.incoming
  stays h = λ j. (side_of (sym h.0 j) (sym h.1 j) l, sym h.2 j)

  submit_leaves : (load : List ℕ) (m : Result SubmittedBy Refusal) (r : Result Outcome Refusal) → ((d : SubmittedBy) → m ≡ Ok d → d.packet ≡ sealed_of load)
      → Agrees (λ (d : SubmittedBy) (o : Outcome). (o ≡ Submitted) × (t.port ≡ d.port) × (t.out ≡ s.out) × (t.incoming ≡ s.incoming) × (t.buffer ≡ s.buffer)) (Same s t) m r
      → Leaves (after_submit m (side_of s.port s.out l), s.incoming) (side_of t.port t.out (logged load r t.buffer l)) t.incoming
  submit_leaves load (Ok d) (Ok o) is h =
      let x = is d refl in
      (λ j. (record { port = sym h.1 j; lane = sym h.2 j; accepted = l.accepted ++ (x j ∷ []); collected = l.collected }, sym h.3 j))
      ∙ ap (λ y. (side_of t.port t.out (logged load (Ok y) t.buffer l), t.incoming)) (sym h.0)
  submit_leaves load (Ok d) (Err f) is h = absurd h
  submit_leaves load (Err e) (Ok o) is h = absurd h
  submit_leaves load (Err e) (Err f) is h = stays h.1

  -- the fate that the lane chose
  fate_of : (f : Frame) (w w' : Frames) → Gains w f w' → (fate : Fate) × Possible serial fate × (put fate f w ≡ w')
  fate_of f w w' (inl e) = (keep, tt, sym e)
  fate_of f w w' (inr (inl (u, bad, sized, e))) = (spoil u, spoils_by_unsound u sized bad, sym e)
  fate_of f w w' (inr (inr e)) = (lose, tt, sym e)

  send_leaves : (load : List ℕ) (m : Result Departure Refusal) (r : Result Outcome Refusal)
      → Agrees (λ (d : Departure) (o : Outcome). (o ≡ Sent d.answer) × (t.port ≡ d.port) × Gains s.out d.frame t.out × (t.incoming ≡ s.incoming) × (t.buffer ≡ written_over d.frame s.buffer)) (Same s t) m r
      → (fate : Fate) × Possible serial fate × Leaves (after_send fate m (side_of s.port s.out l), s.incoming) (side_of t.port t.out (logged load r t.buffer l)) t.incoming
  send_leaves load (Ok d) (Ok o) h =
      let z = fate_of d.frame s.out t.out h.2 in (
        z.0,
        z.1,
        (λ j. (record { port = sym h.1 j; lane = z.2 j; accepted = l.accepted; collected = l.collected }, sym h.3 j))
            ∙ ap (λ y. (side_of t.port t.out (logged load (Ok y) t.buffer l), t.incoming)) (sym h.0),
      )
  send_leaves load (Ok d) (Err f) h = absurd h
  send_leaves load (Err e) (Ok o) h = absurd h
  send_leaves load (Err e) (Err f) h = (keep, tt, stays h.1)

  receive_leaves : (load : List ℕ) (m : Result Arrival Refusal) (r : Result Outcome Refusal)
      → Agrees (λ (d : Arrival) (o : Outcome). (o ≡ Received d.answer) × (t.port ≡ d.port) × (t.out ≡ s.out) × (t.incoming ≡ d.rest) × (t.buffer ≡ written_over d.frame s.buffer)) (Same s t) m r
      → Leaves (after_receive m (side_of s.port s.out l) s.incoming) (side_of t.port t.out (logged load r t.buffer l)) t.incoming
  receive_leaves load (Ok d) (Ok o) h =
      (λ j. (record { port = sym h.1 j; lane = sym h.2 j; accepted = l.accepted; collected = l.collected }, sym h.3 j))
      ∙ ap (λ y. (side_of t.port t.out (logged load (Ok y) t.buffer l), t.incoming)) (sym h.0)
  receive_leaves load (Ok d) (Err f) h = absurd h
  receive_leaves load (Err e) (Ok o) h = absurd h
  receive_leaves load (Err e) (Err f) h = stays h.1

  collect_leaves : (load : List ℕ) (m : Result CollectedBy Refusal) (r : Result Outcome Refusal)
      → Agrees (λ (d : CollectedBy) (o : Outcome). (o ≡ Collected (length d.packet)) × (t.port ≡ d.port) × (t.out ≡ s.out) × (t.incoming ≡ s.incoming) × (t.buffer ≡ written_over d.packet s.buffer)) (Same s t) m r
      → Leaves (after_collect m (side_of s.port s.out l), s.incoming) (side_of t.port t.out (logged load r t.buffer l)) t.incoming
  collect_leaves load (Ok d) (Ok o) h =
      let x : d.packet ≡ take (length d.packet) t.buffer =
      sym (ap (take (length d.packet)) h.4 ∙ take_at d.packet (drop (length d.packet) s.buffer) (length d.packet) refl) in
      (λ j. (record { port = sym h.1 j; lane = sym h.2 j; accepted = l.accepted; collected = l.collected ++ (x j ∷ []) }, sym h.3 j))
      ∙ ap (λ y. (side_of t.port t.out (logged load (Ok y) t.buffer l), t.incoming)) (sym h.0)
  collect_leaves load (Ok d) (Err f) h = absurd h
  collect_leaves load (Err e) (Ok o) h = absurd h
  collect_leaves load (Err e) (Err f) h = stays h.1

-- whatever the call, it is one of the rules', with some fate that the lane may choose
pub called_as : (limit : ℕ) (call : Call) (load : List ℕ) (s : Scene) (r : Result Outcome Refusal) (t : Scene) (l : Log) → Does limit call load s r t
    → (fate : Fate) × Possible serial fate × Leaves (called 32 serial limit (as_rules call load (length s.buffer)) fate (side_of s.port s.out l) s.incoming) (side_of t.port t.out (logged load r t.buffer l)) t.incoming
called_as limit Submit load s r t l h =
    (keep, tt, submit_leaves s t l load (submit 32 serial load s.port) r (λ d e. submits_sealed load s.port d e) h)
called_as limit Send load s r t l h = send_leaves s t l load (send 32 serial (length s.buffer) limit s.out s.port) r h
called_as limit Receive load s r t l h = (keep, tt, receive_leaves s t l load (receive 32 serial (length s.buffer) s.incoming s.port) r h)
called_as limit Collect load s r t l h = (keep, tt, collect_leaves s t l load (collect (length s.buffer) s.port) r h)
called_as limit TimeOut load s r t l h = (
  keep,
  tt,
  (λ j. (side_of (sym h.1 j) (sym h.2 j) l, sym h.3 j))
      ∙ ap (λ y. (side_of t.port t.out (logged load y t.buffer l), t.incoming)) (sym h.0),
)
