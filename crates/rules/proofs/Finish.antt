-- From each phase the rounds that are left carry all across.
use Rattle.std.proofs.Common.{◌≡◌, ℕ, zero, suc, ◌+◌, ◌<◌, ◌≤◌, Bool, true, false, ltb, leb, List, [], ◌∷◌, ◌++◌, length, Some, None, Ok, Err, Option, sym, refl, ap, ◌∙◌, subst, inl, inr, arith}
use Rattle.std.proofs.lemmas.List.{append-nil, length-drop, take_all, nil_from_length}
use Rattle.std.proofs.lemmas.Bool.{ltb-false}
use Rattle.refusal.specs.declared.Refusal.TheVariants.{Nothing, LaneFull}
use Rattle.rules.specs.declared.state.Output.{Output}
use Rattle.rules.specs.declared.state.Output.TheVariants.{Running, RetryStopped as OutputRetryStopped, OwingRequest, AwaitingResponse, Failed}
use Rattle.rules.specs.declared.state.Reply.{Reply}
use Rattle.rules.specs.Wire.{Packet, Wire, Lawful}
use Rattle.rules.specs.Port.{Sender, Places}
use Rattle.rules.specs.Calls.{Departure, refused_if, due_packet, due_by_output, due_by_replies, due, send_due, send, overdue_by, overdue, asking, time_out}
use Rattle.rules.specs.Link.{Side, with_port}
use Rattle.rules.specs.Rounds.{Roomy}
use Rattle.rules.proofs.Hears.{Alive}
use Rattle.rules.proofs.Keeps.{From}
use Rattle.rules.proofs.Phases.{Calm, Lull, Done, Taken, Asked, Across, Giving}
use Rattle.rules.proofs.Progress.{round_of, Kept, Fewer, taken_next, asked_next, across_next, giving_next, asking_next, done_next}

-- rounds, as a function of the two sides
unfoldable pub rounds_of : ℕ → Wire → ℕ → ℕ → ℕ → Side × Side → Side × Side
rounds_of n w la lb zero z = z
rounds_of n w la lb (suc m) z = rounds_of n w la lb m (round_of n w la lb z)

module _ (n : ℕ) (w : Wire) (lw : Lawful n w) (pos : 0 < n) (la lb : ℕ) (pa pb : Places) (ra : Roomy pa la) (rb : Roomy pb lb) (ta tb : List Packet) where
  abbrev K : Side → Side → Type 0
  K = Kept n w lw pos la lb pa pb ra rb ta tb

  abbrev Well : Side × Side → Type 0
  Well z = Done z.0 z.1 × K z.0 z.1

  one_more : (m : ℕ) (a b a' b' : Side) → round_of n w la lb (a, b) ≡ (a', b') → Well (rounds_of n w la lb m (a', b')) → Well (rounds_of n w la lb (suc m) (a, b))
  unfolding rounds_of
  one_more m a b a' b' e x = subst (λ (z : Side × Side). Well (rounds_of n w la lb m z)) (sym e) x

  finish_done : (m : ℕ) (a b : Side) → K a b → Done a b → Well (rounds_of n w la lb m (a, b))
  unfolding rounds_of
  finish_done zero a b h d = (d, h)
  finish_done (suc m) a b h d =
      let z = done_next n w lw pos la lb pa pb ra rb ta tb a b h d in
      one_more m a b z.a' z.b' z.is (finish_done m z.a' z.b' z.kept z.holds)

  -- one round for each packet that b holds
  finish_taken : (m : ℕ) (a b : Side) → K a b → Taken n a b → length b.port.sender.held ≤ m → Well (rounds_of n w la lb m (a, b))
  unfolding Fewer
  finish_taken zero a b h d l = let s = d.b_holds in absurd (omega arith)
  finish_taken (suc m) a b h d l =
      let z = taken_next n w lw pos la lb pa pb ra rb ta tb a b h d in
      let done = λ (x : Done z.a' z.b'). finish_done m z.a' z.b' z.kept x in
      let next = λ (x : Taken n z.a' z.b') (s : length z.b'.port.sender.held ≤ m). finish_taken m z.a' z.b' z.kept x s in
      one_more m a b z.a' z.b' z.is (elim z.holds [ inl x ↦ done x | inr x ↦ next x.0 (let s = x.1 in omega arith) ])

  -- one more for the response to b
  finish_asked : (m : ℕ) (a b : Side) → K a b → Asked a b → length b.port.sender.held < m → Well (rounds_of n w la lb m (a, b))
  unfolding Fewer
  finish_asked zero a b h d l = absurd (omega arith)
  finish_asked (suc m) a b h d l =
      let z = asked_next n w lw pos la lb pa pb ra rb ta tb a b h d in
      one_more m a b z.a' z.b' z.is
      (elim z.holds [ inl x ↦ finish_done m z.a' z.b' z.kept x | inr x ↦ finish_taken m z.a' z.b' z.kept x.0 (let s = x.1 in omega arith) ])

  -- one more for b's request
  finish_across : (m : ℕ) (a b : Side) → K a b → Across a b → length b.port.sender.held + 1 < m → Well (rounds_of n w la lb m (a, b))
  finish_across zero a b h d l = absurd (omega arith)
  finish_across (suc m) a b h d l =
      let z = across_next n w lw pos la lb pa pb ra rb ta tb a b h d in
      one_more m a b z.a' z.b' z.is
      (elim z.holds [ inl x ↦ finish_done m z.a' z.b' z.kept x | inr x ↦ finish_asked m z.a' z.b' z.kept x.0 (let s = ap length x.1 in omega arith) ])

  -- one for each packet that a holds
  finish_giving : (m : ℕ) (a b : Side) → K a b → Giving a b → length a.port.sender.held + length b.port.sender.held + 1 < m → Well (rounds_of n w la lb m (a, b))
  finish_giving zero a b h d l = absurd (omega arith)
  finish_giving (suc m) a b h d l = go a.port.sender.held refl
      (λ s. let z = giving_next n w lw pos la lb pa pb ra rb ta tb a b h d s in let e = ap length z.holds.1 in let f = ap length z.holds.2 in let g = length-drop 1 a.port.sender.held in
      one_more m a b z.a' z.b' z.is (finish_giving m z.a' z.b' z.kept z.holds.0 (omega arith)))
    where
      go : (x : List Packet) → a.port.sender.held ≡ x → (0 < length a.port.sender.held → Well (rounds_of n w la lb (suc m) (a, b))) → Well (rounds_of n w la lb (suc m) (a, b))
      go [] e next = finish_across (suc m) a b h (record { lull = d.lull; a_pends = d.a_pends; a_idle = record { runs = d.a_runs; free = e }; b_calm = d.b_calm }) (omega arith)
      go (p ∷ ps) e next = next (omega (arith, ap length e))

  -- one more for a's request and the response to it
  pub finish_start : (m : ℕ) (a b : Side) → K a b → Lull a b → a.port.receiver.pending ≡ [] → Calm a.port.sender → Calm b.port.sender
      → length a.port.sender.held + length b.port.sender.held + 2 < m → Well (rounds_of n w la lb m (a, b))
  finish_start zero a b h u ao ac bc l = absurd (omega arith)
  finish_start (suc m) a b h u ao (inl i) bc l = finish_across (suc m) a b h (record { lull = u; a_pends = ao; a_idle = i; b_calm = bc }) (omega arith)
  finish_start (suc m) a b h u ao (inr i) bc l =
      let z = asking_next n w lw pos la lb pa pb ra rb ta tb a b h u ao i bc in
      let e = z.holds.1 in
      let f = ap length z.holds.2 in
      one_more m a b z.a' z.b' z.is (finish_giving m z.a' z.b' z.kept z.holds.0 (omega arith))

-- a port that has nothing to send, once its time is out ------------------------------------------------------
module _ (n : ℕ) (w : Wire) (s : Side) where
  no_departure : {d : Departure} → Some d ≡ None → ⊥
  no_departure e = let z : ◌≡◌ {A = ℕ} 0 1 = cc in omega arith

  pub nothing_due : (limit : ℕ) → send n w 276 limit s.lane s.port ≡ Err Nothing → due n w s.port ≡ None
  nothing_due limit = go (due n w s.port)
    where
      go : (x : Option Departure) → send_due limit s.lane x ≡ Err Nothing → x ≡ None
      go None e = refl
      go (Some d) e = full (leb limit (length s.lane)) e
        where
          full : (x : Bool) → refused_if x LaneFull (Ok d) ≡ Err Nothing → Some d ≡ None
          full true e = cc
          full false e = cc

  pub none_pending : due n w s.port ≡ None → s.port.receiver.pending ≡ []
  none_pending = go s.port.receiver.pending
    where
      go : (x : List Reply) → due_by_replies n w x s.port ≡ None → x ≡ []
      go [] e = refl
      go (y ∷ ys) e = absurd (no_departure e)

  abbrev pub timed : Side
  timed = with_port (time_out s.port).port s

  pub calm_timed : Alive s.port.sender.output → due n w s.port ≡ None → Calm timed.port.sender
  calm_timed al e = go s.port.sender.output refl al (ap (λ (x : List Reply). due_by_replies n w x s.port) (sym (none_pending e)) ∙ e)
    where
      o : Sender
      o = s.port.sender

      go : (x : Output) → o.output ≡ x → Alive x → due_by_output n w x s.port ≡ None → Calm (asking (overdue_by x o.sent) o)
      go Running r al e = late (ltb 0 o.sent) (ltb o.sent (length o.held)) refl refl e
        where
          late : (x y : Bool) → ltb 0 o.sent ≡ x → ltb o.sent (length o.held) ≡ y → due_packet n w y s.port ≡ None → Calm (asking x o)
          late x true p q e = absurd (no_departure e)
          late true false p q e = inr refl
          late false false p q e = inl (record { runs = r; free = let a = ltb-false 0 o.sent p in let b = ltb-false o.sent (length o.held) q in nil_from_length o.held (omega arith) })
      go OutputRetryStopped r al e = absurd (no_departure e)
      go OwingRequest r al e = absurd (no_departure e)
      go AwaitingResponse r al e = inr refl
      go Failed r al e = absurd al

  pub timed_held : timed.port.sender.held ≡ s.port.sender.held
  timed_held = go (overdue s.port.sender)
    where
      go : (x : Bool) → (asking x s.port.sender).held ≡ s.port.sender.held
      go true = refl
      go false = refl

-- nothing held and nothing waiting: all is collected
pub all_collected : (n : ℕ) (w : Wire) (s t : Side) → From n w s t → s.port.sender.held ≡ [] → t.port.receiver.waiting ≡ [] → t.collected ≡ s.accepted
all_collected n w s t h sh tw =
    let d = h.way in
    let q = d.counts in
    let l = ap length sh in
    let m : length s.accepted ≤ d.m = omega arith in
    sym (append-nil t.collected) ∙ ap (λ (x : List Packet). t.collected ++ x) (sym tw) ∙ d.received_is ∙ take_all d.m s.accepted m
