-- What a round makes of each phase of a recovery.
use Rattle.std.proofs.Common.{◌≡◌, ℕ, ◌+◌, ◌<◌, ◌≤◌, ◌⊎◌, List, [], ◌∷◌, ◌++◌, length, get_or, drop, sym, refl, ap, ◌∙◌, subst, inl, inr, arith}
use Rattle.std.proofs.lemmas.List.{length-drop}
use Rattle.rules.specs.declared.state.Input.TheVariants.{Ready}
use Rattle.rules.specs.declared.state.Output.TheVariants.{OwingRequest, AwaitingResponse}
use Rattle.rules.specs.declared.state.Reply.{Reply}
use Rattle.rules.specs.declared.state.Reply.TheVariants.{Response}
use Rattle.rules.specs.Wire.{Packet, Wire, Lawful}
use Rattle.rules.specs.Port.{Places, with_sender, with_receiver, after, distance}
use Rattle.rules.specs.Hearing.{turned, freed, pended, status_for}
use Rattle.rules.specs.Link.{Side}
use Rattle.rules.specs.Rounds.{Roomy}
use Rattle.rules.proofs.Hears.{never_failed}
use Rattle.rules.proofs.Keeps.{Both}
use Rattle.rules.proofs.Half.{emptied, sender, hearer, half, half_keeps}
use Rattle.rules.proofs.Moves.{relieved, gave, got, half_idle, half_ask, half_answer, answer_first, half_give, half_acknowledge}
use Rattle.rules.proofs.Phases.{Calm, Lull, Done, Taken, Middle, Asked, Across, Giving}

-- a round, as a function of the two sides: a's half, then b's
module _ (n : ℕ) (w : Wire) (la lb : ℕ) where
  abbrev pub back_half : Side × Side → Side × Side
  back_half z = let y = half n w lb z.1 z.0 in (y.1, y.0)

  abbrev pub round_of : Side × Side → Side × Side
  round_of z = back_half (half n w la z.0 z.1)

-- ta and tb were accepted at a and b, where pa and pb are the places of the queues
module _ (n : ℕ) (w : Wire) (lw : Lawful n w) (pos : 0 < n) (la lb : ℕ) (pa pb : Places) (ra : Roomy pa la) (rb : Roomy pb lb) (ta tb : List Packet) where
  abbrev pub Kept : Side → Side → Type 0
  Kept a b = Both n w a b × (a.accepted ≡ ta) × (b.accepted ≡ tb) × (a.port.places ≡ pa) × (b.port.places ≡ pb)

  room_a : (a b : Side) → Kept a b → Roomy a.port.places la
  room_a a b h = subst (λ (x : Places). Roomy x la) (sym h.3) ra

  room_b : (a b : Side) → Kept a b → Roomy b.port.places lb
  room_b a b h = subst (λ (x : Places). Roomy x lb) (sym h.4) rb

  -- neither what was accepted nor the places change
  abbrev Same : Side → Side → Type 0
  Same s s' = (s'.accepted ≡ s.accepted) × (s'.port.places ≡ s.port.places)

  -- after half a round of a, and of b
  kept_a : (a b a' b' : Side) → half n w la a b ≡ (a', b') → Same a a' → Same b b' → Kept a b → Kept a' b'
  kept_a a b a' b' e p q h =
      (subst (λ (z : Side × Side). Both n w z.0 z.1) e (half_keeps n w lw pos la a b h.0), p.0 ∙ h.1, q.0 ∙ h.2, p.1 ∙ h.3, q.1 ∙ h.4)

  kept_b : (a b a' b' : Side) → half n w lb b a ≡ (b', a') → Same a a' → Same b b' → Kept a b → Kept a' b'
  kept_b a b a' b' e p q h =
      let z = subst (λ (z : Side × Side). Both n w z.0 z.1) e (half_keeps n w lw pos lb b a (h.0.1, h.0.0)) in
      ((z.1, z.0), p.0 ∙ h.1, q.0 ∙ h.2, p.1 ∙ h.3, q.1 ∙ h.4)

  round_by : (a b a₁ b₁ a₂ b₂ : Side) → half n w la a b ≡ (a₁, b₁) → half n w lb b₁ a₁ ≡ (b₂, a₂) → round_of n w la lb (a, b) ≡ (a₂, b₂)
  round_by a b a₁ b₁ a₂ b₂ p q = ap (back_half n w la lb) p ∙ ap (λ (y : Side × Side). (y.1, y.0)) q

  -- a round brings the sides where P holds
  pub record Next (P : Side → Side → Type 0) (a b : Side) : Type 0 where
    pub a' : Side
    pub b' : Side
    pub is : round_of n w la lb (a, b) ≡ (a', b')
    pub kept : Kept a' b'
    pub holds : P a' b'

  -- by its two halves, one after the other
  next_by : (P : Side → Side → Type 0) (a b a₁ b₁ a₂ b₂ : Side) → half n w la a b ≡ (a₁, b₁) → half n w lb b₁ a₁ ≡ (b₂, a₂) → Same a₁ a₂ → Same b₁ b₂ → Kept a₁ b₁ → P a₂ b₂ → Next P a b
  next_by P a b a₁ b₁ a₂ b₂ e q sa sb h there =
      record { a' = a₂; b' = b₂; is = round_by a b a₁ b₁ a₂ b₂ e q; kept = kept_b a₁ b₁ a₂ b₂ q sa sb h; holds = there }

  abbrev DoneOrTaken : ℕ → Side → Side → Type 0
  DoneOrTaken l a b = Done a b ⊎ (Taken n a b × (length b.port.sender.held ≡ l))

  -- b's half, once b may send
  middle_next : (a b a₁ b₁ : Side) → half n w la a b ≡ (a₁, b₁) → Kept a₁ b₁ → Middle a₁ b₁ → Next (DoneOrTaken (length b₁.port.sender.held)) a b
  middle_next a b a₁ b₁ e h d = go b₁.port.sender.held refl
    where
      both : Both n w b₁ a₁
      both = (h.0.1, h.0.0)

      go : (l : List Packet) → b₁.port.sender.held ≡ l → Next (DoneOrTaken (length b₁.port.sender.held)) a b
      go [] f =
          let q = half_idle n w lw pos lb la b₁ a₁ rb.for_frames (room_a a₁ b₁ h) both d.lull.b_lane d.lull.b_pends d.b_runs f in
          next_by _ a b a₁ b₁ (emptied a₁) b₁ e q (refl, refl) (refl, refl) h
          (inl (
          record {
            lull = record { a_lane = d.lull.a_lane; b_lane = d.lull.b_lane; b_pends = d.lull.b_pends };
            a_pends = d.a_pends;
            a_idle = d.a_idle;
            b_idle = record { runs = d.b_runs; free = f };
            a_waits = refl;
            b_waits = d.b_waits;
          }
          ))
      go (p ∷ ps) f =
          let some : 0 < length b₁.port.sender.held = omega (arith, ap length f) in
          let o = b₁.port.sender in
          let b₂ : Side = sender (gave b₁.port) b₁ in
          let a₂ : Side = hearer (got n o.first (get_or o.held 0 []) a₁.port) a₁ in
          let q : half n w lb b₁ a₁ ≡ (b₂, a₂) = half_give n w lw pos lb la b₁ a₁ rb.for_frames (room_a a₁ b₁ h) both d.lull.b_lane d.lull.b_pends d.b_runs d.b_sent some d.a_pends d.a_ready d.a_expects d.a_waits in
          next_by _ a b a₁ b₁ a₂ b₂ e q (refl, refl) (refl, refl) h
          (inr (
            record {
              lull = record { a_lane = d.lull.a_lane; b_lane = refl; b_pends = d.lull.b_pends };
              k = o.first;
              a_pends = refl;
              k_is = refl;
              a_idle = d.a_idle;
              a_ready = refl;
              a_waits = refl;
              a_expects = ap (λ (x : ℕ). after n x 1) d.a_expects;
              b_runs = refl;
              b_sent = refl;
              b_holds = some;
            },
            refl,
          ))

  unfoldable pub Fewer : ℕ → Side → Side → Type 0
  Fewer l a b = Done a b ⊎ (Taken n a b × (length b.port.sender.held < l))

  -- a acknowledges, and b sends the next, if there is one
  pub taken_next : (a b : Side) → Kept a b → Taken n a b → Next (Fewer (length b.port.sender.held)) a b
  unfolding Fewer
  taken_next a b h d =
      let b₁ : Side = hearer (with_sender (freed n 1 0 b.port.sender) b.port) b in
      let a₁ : Side = sender (relieved a.port) a in
      let q : half n w la a b ≡ (a₁, b₁) = half_acknowledge n w lw pos la lb a b ra.for_frames (room_b a b h) h.0 d.k d.lull.a_lane d.a_pends d.k_is d.lull.b_pends d.b_runs d.b_sent in
      let z = middle_next a b a₁ b₁ q (kept_a a b a₁ b₁ q (refl, refl) (refl, refl) h)
      (record {
        lull = record { a_lane = refl; b_lane = d.lull.b_lane; b_pends = d.lull.b_pends };
        a_pends = refl;
        a_idle = d.a_idle;
        a_ready = d.a_ready;
        a_waits = d.a_waits;
        a_expects = d.a_expects;
        b_runs = refl;
        b_sent = refl;
        b_waits = refl;
      }) in
      record { a' = z.a'; b' = z.b'; is = z.is; kept = z.kept; holds = less z.b' z.holds }
    where
      less : {a' : Side} (b' : Side) → DoneOrTaken (length (drop 1 b.port.sender.held)) a' b' → Fewer (length b.port.sender.held) a' b'
      less b' (inl x) = inl x
      less b' (inr x) = inr (x.0, let l = length-drop 1 b.port.sender.held in let s = d.b_holds in let e = x.1 in omega arith)

  -- a answers, and b sends its first, if there is one
  pub asked_next : (a b : Side) → Kept a b → Asked a b → Next (Fewer (length b.port.sender.held + 1)) a b
  unfolding Fewer
  asked_next a b h d =
      let far : ℕ = distance n a.port.receiver.expected b.port.sender.first in
      let b₁ : Side = hearer (with_sender (freed n far 0 b.port.sender) b.port) b in
      let a₁ : Side = sender (relieved a.port) a in
      let q : half n w la a b ≡ (a₁, b₁) = half_answer n w lw pos la lb a b ra.for_frames (room_b a b h) h.0 a.port.receiver.expected d.status d.lull.a_lane d.a_pends refl d.status_ok d.lull.b_pends d.b_awaits in
      let z = middle_next a b a₁ b₁ q (kept_a a b a₁ b₁ q (refl, refl) (refl, refl) h)
      (record {
        lull = record { a_lane = refl; b_lane = d.lull.b_lane; b_pends = d.lull.b_pends };
        a_pends = refl;
        a_idle = d.a_idle;
        a_ready = d.a_ready;
        a_waits = d.a_waits;
        a_expects = sym (answer_first n w lw pos la lb a b ra.for_frames (room_b a b h) h.0);
        b_runs = refl;
        b_sent = refl;
        b_waits = refl;
      }) in
      record { a' = z.a'; b' = z.b'; is = z.is; kept = z.kept; holds = less z.b' z.holds }
    where
      less : {a' : Side} (b' : Side) → DoneOrTaken (length (drop (distance n a.port.receiver.expected b.port.sender.first) b.port.sender.held)) a' b' → Fewer (length b.port.sender.held + 1) a' b'
      less b' (inl x) = inl x
      less b' (inr x) = inr (x.0, let l = length-drop (distance n a.port.receiver.expected b.port.sender.first) b.port.sender.held in let e = x.1 in omega arith)

  -- b asks, if it has to
  pub across_next : (a b : Side) → Kept a b → Across a b → Next (λ (a' b' : Side). Done a' b' ⊎ (Asked a' b' × (b'.port.sender.held ≡ b.port.sender.held))) a b
  across_next a b h d = go d.b_calm
    where
      q : half n w la a b ≡ (a, emptied b)
      q = half_idle n w lw pos la lb a b ra.for_frames (room_b a b h) h.0 d.lull.a_lane d.a_pends d.a_idle.runs d.a_idle.free

      h₁ : Kept a (emptied b)
      h₁ = kept_a a b a (emptied b) q (refl, refl) (refl, refl) h

      both : Both n w (emptied b) a
      both = (h₁.0.1, h₁.0.0)

      go : Calm b.port.sender → Next (λ (a' b' : Side). Done a' b' ⊎ (Asked a' b' × (b'.port.sender.held ≡ b.port.sender.held))) a b
      go (inl i) =
          let q₂ = half_idle n w lw pos lb la (emptied b) a rb.for_frames (room_a a (emptied b) h₁) both d.lull.b_lane d.lull.b_pends i.runs i.free in
          next_by _ a b a (emptied b) (emptied a) (emptied b) q q₂ (refl, refl) (refl, refl) h₁
          (inl (
          record {
            lull = record { a_lane = d.lull.a_lane; b_lane = d.lull.b_lane; b_pends = d.lull.b_pends };
            a_pends = d.a_pends;
            a_idle = d.a_idle;
            b_idle = i;
            a_waits = refl;
            b_waits = refl;
          }
          ))
      go (inr i) =
          let x = status_for a.port.receiver.input in
          let y : Reply = Response a.port.receiver.expected x in
          let b₂ : Side = sender (with_sender (turned AwaitingResponse b.port.sender) (emptied b).port) (emptied b) in
          let a₂ : Side = hearer (with_receiver (pended Ready y a.port.receiver) a.port) a in
          let q₂ : half n w lb (emptied b) a ≡ (b₂, a₂) = half_ask n w lw pos lb la (emptied b) a rb.for_frames (room_a a (emptied b) h₁) both d.lull.b_lane d.lull.b_pends i d.a_pends in
          next_by _ a b a (emptied b) a₂ b₂ q q₂ (refl, refl) (refl, refl) h₁
          (inr (
            record {
              lull = record { a_lane = d.lull.a_lane; b_lane = refl; b_pends = d.lull.b_pends };
              status = x;
              a_pends = ap (λ (z : List Reply). z ++ (y ∷ [])) d.a_pends;
              status_ok = never_failed a.port.receiver.input;
              a_idle = d.a_idle;
              a_ready = refl;
              a_waits = refl;
              b_awaits = refl;
            },
            refl,
          ))

  -- a sends a packet, and b acknowledges it
  pub giving_next : (a b : Side) → Kept a b → Giving a b → 0 < length a.port.sender.held
      → Next (λ (a' b' : Side). Giving a' b' × (a'.port.sender.held ≡ drop 1 a.port.sender.held) × (b'.port.sender.held ≡ b.port.sender.held)) a b
  giving_next a b h d some =
      let o = a.port.sender in
      let a₁ : Side = sender (gave a.port) a in
      let b₁ : Side = hearer (got n o.first (get_or o.held 0 []) b.port) b in
      let q : half n w la a b ≡ (a₁, b₁) = half_give n w lw pos la lb a b ra.for_frames (room_b a b h) h.0 d.lull.a_lane d.a_pends d.a_runs d.a_sent some d.lull.b_pends d.b_ready d.b_expects d.b_waits in
      let h₁ : Kept a₁ b₁ = kept_a a b a₁ b₁ q (refl, refl) (refl, refl) h in
      let b₂ : Side = sender (relieved b₁.port) b₁ in
      let a₂ : Side = hearer (with_sender (freed n 1 0 a₁.port.sender) a₁.port) a₁ in
      let q₂ : half n w lb b₁ a₁ ≡ (b₂, a₂) = half_acknowledge n w lw pos lb la b₁ a₁ rb.for_frames (room_a a₁ b₁ h₁) (h₁.0.1, h₁.0.0) o.first d.lull.b_lane refl refl d.a_pends refl refl in
      next_by _ a b a₁ b₁ a₂ b₂ q q₂ (refl, refl) (refl, refl) h₁ (
        record {
          lull = record { a_lane = refl; b_lane = refl; b_pends = refl };
          a_pends = d.a_pends;
          a_runs = refl;
          a_sent = refl;
          b_ready = refl;
          b_expects = ap (λ (x : ℕ). after n x 1) d.b_expects;
          b_waits = refl;
          b_calm = d.b_calm;
        },
        refl,
        refl,
      )

  -- a asks, and b answers
  pub asking_next : (a b : Side) → Kept a b → Lull a b → a.port.receiver.pending ≡ [] → a.port.sender.output ≡ OwingRequest → Calm b.port.sender
      → Next (λ (a' b' : Side). Giving a' b' × (length a'.port.sender.held ≤ length a.port.sender.held) × (b'.port.sender.held ≡ b.port.sender.held)) a b
  asking_next a b h l ao ar bc =
      let o = a.port.sender in
      let r = b.port.receiver in
      let x = status_for r.input in
      let y : Reply = Response r.expected x in
      let a₁ : Side = sender (with_sender (turned AwaitingResponse o) a.port) a in
      let b₁ : Side = hearer (with_receiver (pended Ready y r) b.port) b in
      let q : half n w la a b ≡ (a₁, b₁) = half_ask n w lw pos la lb a b ra.for_frames (room_b a b h) h.0 l.a_lane ao ar l.b_pends in
      let h₁ : Kept a₁ b₁ = kept_a a b a₁ b₁ q (refl, refl) (refl, refl) h in
      let far : ℕ = distance n r.expected o.first in
      let b₂ : Side = sender (relieved b₁.port) b₁ in
      let a₂ : Side = hearer (with_sender (freed n far 0 a₁.port.sender) a₁.port) a₁ in
      let bo : b₁.port.receiver.pending ≡ y ∷ [] = ap (λ (z : List Reply). z ++ (y ∷ [])) l.b_pends in
      let ba : Both n w b₁ a₁ = (h₁.0.1, h₁.0.0) in
      let q₂ : half n w lb b₁ a₁ ≡ (b₂, a₂) = half_answer n w lw pos lb la b₁ a₁ rb.for_frames (room_a a₁ b₁ h₁) ba r.expected x l.b_lane bo refl (never_failed r.input) ao refl in
      let len = length-drop far o.held in
      next_by _ a b a₁ b₁ a₂ b₂ q q₂ (refl, refl) (refl, refl) h₁ (
        record {
          lull = record { a_lane = refl; b_lane = refl; b_pends = refl };
          a_pends = ao;
          a_runs = refl;
          a_sent = refl;
          b_ready = refl;
          b_expects = sym (answer_first n w lw pos lb la b₁ a₁ rb.for_frames (room_a a₁ b₁ h₁) ba);
          b_waits = refl;
          b_calm = bc;
        },
        omega arith,
        refl,
      )

  -- nothing is left to do
  pub done_next : (a b : Side) → Kept a b → Done a b → Next Done a b
  done_next a b h d =
      let q = half_idle n w lw pos la lb a b ra.for_frames (room_b a b h) h.0 d.lull.a_lane d.a_pends d.a_idle.runs d.a_idle.free in
      let h₁ : Kept a (emptied b) = kept_a a b a (emptied b) q (refl, refl) (refl, refl) h in
      let q₂ = half_idle n w lw pos lb la (emptied b) a rb.for_frames (room_a a (emptied b) h₁) (h₁.0.1, h₁.0.0) d.lull.b_lane d.lull.b_pends d.b_idle.runs d.b_idle.free in
      next_by _ a b a (emptied b) (emptied a) (emptied b) q q₂ (refl, refl) (refl, refl) h₁
      (record {
        lull = record { a_lane = d.lull.a_lane; b_lane = d.lull.b_lane; b_pends = d.lull.b_pends };
        a_pends = d.a_pends;
        a_idle = d.a_idle;
        b_idle = d.b_idle;
        a_waits = refl;
        b_waits = refl;
      })
