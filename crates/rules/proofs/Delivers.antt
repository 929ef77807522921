-- The delivery law.
use Rattle.std.proofs.Common.{ℕ, ◌<◌, length, sym, refl, ap, ◌∙◌, subst, mod-lt, arith}
use Rattle.rules.specs.Wire.{Wire, Lawful}
use Rattle.rules.specs.Link.{Side, Link, Run, Reached, fresh_link}
use Rattle.rules.specs.Link.Run.{none}
use Rattle.rules.specs.Link.Reached.{reached}
use Rattle.rules.specs.Rounds.{Roomy, Quiet}
use Rattle.rules.specs.Delivery.{Delivered, InWindow, Recovered, Delivers, Delivery, enough}
use Rattle.rules.proofs.Hears.{Alive}
use Rattle.rules.proofs.Keeps.{From, Both, time_out_keeps, reached_keeps}
use Rattle.rules.proofs.Finish.{rounds_of, finish_start, nothing_due, none_pending, timed, calm_timed, timed_held, all_collected}
use Rattle.rules.proofs.Relations.{to_link, rounds_end, time_outs_end, recovery_goes, recovery_run}

from_delivered : (n : ℕ) (w : Wire) (s t : Side) → From n w s t → Delivered s t
from_delivered n w s t h =
    let d = h.way in
    let q = d.counts in
    record {
      received = d.m;
      freed = d.r;
      in_order = d.received_is;
      none_made_up = omega arith;
      none_freed_early = omega arith;
      none_lost = d.held_is;
      not_failed = λ e. subst Alive e h.alive;
      frames_sized = h.sized;
    }

from_in_window : (n : ℕ) (w : Wire) (s t : Side) → 0 < n → From n w s t → InWindow n s.port.sender
from_in_window n w s t pos h =
    let q = h.way.counts in
    let e = h.way.first_is in
    let l = mod-lt h.way.r pos in
    omega arith

-- a run goes on from a link that was reached
reached_on : (n : ℕ) (w : Wire) (la lb : ℕ) (i j : Link) → Reached n w la lb i → ((h : Link) → Run n w la lb h i → Run n w la lb h j) → Reached n w la lb j
reached_on n w la lb _ j (reached pa pb i r) more = reached pa pb j (more (fresh_link pa pb) r)

module _ (n : ℕ) (w : Wire) (lw : Lawful n w) (pos : 0 < n) (la lb : ℕ) (i : Link) (h : Both n w i.a i.b) where
  -- all that the rounds after the time-outs come to
  recovered : Roomy i.a.port.places la → Roomy i.b.port.places lb → Quiet n w la i.a → Quiet n w lb i.b
      → Recovered i (to_link (rounds_of n w la lb (enough i) (timed n w i.a, timed n w i.b)))
  recovered ra rb qa qb =
      let a = i.a in
      let b = i.b in
      let ea = nothing_due n w a la qa.nothing_due in
      let eb = nothing_due n w b lb qb.nothing_due in
      let h₁ = time_out_keeps n w lw pos a b h in
      let h₂ = time_out_keeps n w lw pos b (timed n w a) (h₁.1, h₁.0) in
      let la' = ap length (timed_held n w a) in
      let lb' = ap length (timed_held n w b) in
      let m = enough i in
      let z = finish_start n w lw pos la lb a.port.places b.port.places ra rb a.accepted b.accepted m (timed n w a) (timed n w b) ((h₂.1, h₂.0), refl, refl, refl, refl)
      (record { a_lane = qa.no_frame; b_lane = qb.no_frame; b_pends = none_pending n w b eb }) (none_pending n w a ea)
      (calm_timed n w a h.0.alive ea) (calm_timed n w b h.1.alive eb) (omega arith) in
      let y = rounds_of n w la lb m (timed n w a, timed n w b) in
      record {
        a_accepts_none = z.1.1;
        b_accepts_none = z.1.2;
        a_holds_none = z.0.a_idle.free;
        b_holds_none = z.0.b_idle.free;
        b_collects_all = all_collected n w y.0 y.1 z.1.0.0 z.0.a_idle.free z.0.b_waits;
        a_collects_all = all_collected n w y.1 y.0 z.1.0.1 z.0.b_idle.free z.0.a_waits;
      }

  delivers : Reached n w la lb i → Delivers n w la lb i
  delivers r =
      record {
        a_to_b = from_delivered n w i.a i.b h.0;
        b_to_a = from_delivered n w i.b i.a h.1;
        a_window = from_in_window n w i.a i.b pos h.0;
        b_window = from_in_window n w i.b i.a pos h.1;
        recovery = λ ra rb qa qb.
            record {
              possible = recovery_goes n w la lb (enough i) i;
              runs = λ j c. recovery_run n w la lb i (enough i) i j c none;
              reaches = λ j c. reached_on n w la lb i j r (λ h. recovery_run n w la lb h (enough i) i j c);
              recovers = λ j c.
                  let m = enough i in
                  let e = time_outs_end n w la lb i c.timed_out c.time_outs in
                  let f = rounds_end n w la lb m c.timed_out j c.rounds ∙ ap (λ (x : Link). to_link (rounds_of n w la lb m (x.a, x.b))) e in
                  subst (Recovered i) (sym f) (recovered ra rb qa qb);
            };
      }

pub delivery : Delivery 2
delivery n w la lb two lw i r = delivers n w lw (omega arith) la lb i (reached_keeps n w lw (omega arith) la lb i r) r
