-- A round as a relation ends where the function of it ends, there is one, and it is a run.
use Rattle.std.proofs.Common.{◌≡◌, ℕ, zero, suc, List, [], ◌∷◌, sym, refl, ap, ◌∙◌, subst}
use Rattle.rules.specs.Wire.{Packet, Wire}
use Rattle.rules.specs.Calls.{collect_first}
use Rattle.rules.specs.Link.{Side, Link, Run, step, after_collect}
use Rattle.rules.specs.Link.Fate.{keep}
use Rattle.rules.specs.Link.Call.{sends, receives, collects, times_out}
use Rattle.rules.specs.declared.state.PortId.{PortId}
use Rattle.rules.specs.declared.state.PortId.TheVariants.{A as port_a, B as port_b}
use Rattle.rules.specs.Link.Run.{more}
use Rattle.rules.specs.Rounds.{Drains, Exchange, Round, Rounds, TimeOuts, Recovery, waiting_at}
use Rattle.rules.specs.Rounds.Drains.{drained, collecting}
use Rattle.rules.specs.Rounds.Rounds.{none, one_more}
use Rattle.rules.specs.Rounds.TimeOuts.{a_first, b_first}
use Rattle.rules.proofs.Half.{emptied, emptied_none, emptied_collect, half}
use Rattle.rules.proofs.Progress.{round_of}
use Rattle.rules.proofs.Finish.{rounds_of, timed}

abbrev emptied_at : PortId → Link → Link
emptied_at port_a i = record { a = emptied i.a; b = i.b }
emptied_at port_b i = record { a = i.a; b = emptied i.b }

emptied_at_none : (x : PortId) (i : Link) → waiting_at x i ≡ [] → emptied_at x i ≡ i
emptied_at_none port_a i e = ap (λ (s : Side). record { a = s; b = i.b }) (emptied_none i.a e)
emptied_at_none port_b i e = ap (λ (s : Side). record { a = i.a; b = s }) (emptied_none i.b e)

abbrev pub to_link : Side × Side → Link
to_link z = record { a = z.0; b = z.1 }

module _ (n : ℕ) (w : Wire) (la lb : ℕ) where
  emptied_at_collect : (x : PortId) (i : Link) → emptied_at x (step n w la lb x (collects 276) keep i) ≡ emptied_at x i
  emptied_at_collect port_a i = ap (λ (s : Side). record { a = s; b = i.b }) (emptied_collect i.a)
  emptied_at_collect port_b i = ap (λ (s : Side). record { a = i.a; b = s }) (emptied_collect i.b)

  -- where it ends
  drains_ends : (x : PortId) (i j : Link) → Drains n w la lb x i j → j ≡ emptied_at x i
  drains_ends x _ _ (drained i e) = sym (emptied_at_none x i e)
  drains_ends x _ _ (collecting i j d) = drains_ends x (step n w la lb x (collects 276) keep i) j d ∙ emptied_at_collect x i

  pub round_ends : (i k : Link) → Round n w la lb i k → k ≡ to_link (round_of n w la lb (i.a, i.b))
  round_ends i k r =
      let e = drains_ends port_b _ _ r.there in
      let f = drains_ends port_a _ _ r.back in
      f ∙ ap (λ (j : Link). let y = half n w lb j.b j.a in record { a = y.1; b = y.0 }) e

  pub rounds_end : (m : ℕ) (i k : Link) → Rounds n w la lb m i k → k ≡ to_link (rounds_of n w la lb m (i.a, i.b))
  unfolding rounds_of
  rounds_end _ _ _ (none i) = refl
  rounds_end _ _ _ (one_more m i j k r rs) = rounds_end m j k rs ∙ ap (λ (x : Link). to_link (rounds_of n w la lb m (x.a, x.b))) (round_ends i j r)

  pub time_outs_end : (i j : Link) → TimeOuts n w la lb i j → j ≡ to_link (timed n w i.a, timed n w i.b)
  time_outs_end i _ a_first = refl
  time_outs_end i _ b_first = refl

  -- there is one
  collected_waits : (x : PortId) (i : Link) (q : Packet) (qs : List Packet) → waiting_at x i ≡ q ∷ qs → waiting_at x (step n w la lb x (collects 276) keep i) ≡ qs
  collected_waits port_a i q qs e = ap (λ (l : List Packet). (after_collect (collect_first l i.a.port) i.a).port.receiver.waiting) e
  collected_waits port_b i q qs e = ap (λ (l : List Packet). (after_collect (collect_first l i.b.port) i.b).port.receiver.waiting) e

  drains_goes : (x : PortId) (qs : List Packet) (i : Link) → waiting_at x i ≡ qs → Drains n w la lb x i (emptied_at x i)
  drains_goes x [] i e = subst (Drains n w la lb x i) (sym (emptied_at_none x i e)) (drained i e)
  drains_goes x (q ∷ qs) i e =
      let j = step n w la lb x (collects 276) keep i in
      collecting i (emptied_at x i) (subst (Drains n w la lb x j) (emptied_at_collect x i) (drains_goes x qs j (collected_waits x i q qs e)))

  round_goes : (i : Link) → Round n w la lb i (to_link (round_of n w la lb (i.a, i.b)))
  round_goes i = record { middle = to_link (half n w la i.a i.b); there = drains_goes port_b _ _ refl; back = drains_goes port_a _ _ refl }

  rounds_go : (m : ℕ) (i : Link) → Rounds n w la lb m i (to_link (rounds_of n w la lb m (i.a, i.b)))
  unfolding rounds_of
  rounds_go zero i = none i
  rounds_go (suc m) i = one_more m i (to_link (round_of n w la lb (i.a, i.b))) _ (round_goes i) (rounds_go m (to_link (round_of n w la lb (i.a, i.b))))

  pub recovery_goes : (m : ℕ) (i : Link) → (j : Link) × Recovery n w la lb m i j
  recovery_goes m i =
      let j = step n w la lb port_b times_out keep (step n w la lb port_a times_out keep i) in
      (to_link (rounds_of n w la lb m (j.a, j.b)), record { timed_out = j; time_outs = a_first; rounds = rounds_go m j })

  -- it is a run
  drains_run : (h : Link) (x : PortId) (i j : Link) → Drains n w la lb x i j → Run n w la lb h i → Run n w la lb h j
  drains_run h x _ _ (drained i e) r = r
  drains_run h x _ _ (collecting i j d) r = drains_run h x _ j d (more i x (collects 276) keep tt r)

  exchange_run : (h : Link) (x y : PortId) (i j : Link) → Exchange n w la lb x y i j → Run n w la lb h i → Run n w la lb h j
  exchange_run h x y i j d r = drains_run h y _ j d (more _ y (receives 276) keep tt (more i x (sends 276) keep tt r))

  rounds_run : (h : Link) (m : ℕ) (i k : Link) → Rounds n w la lb m i k → Run n w la lb h i → Run n w la lb h k
  rounds_run h _ _ _ (none i) r = r
  rounds_run h _ _ _ (one_more m i j k e es) r =
      rounds_run h m j k es (exchange_run h port_b port_a e.middle j e.back (exchange_run h port_a port_b i e.middle e.there r))

  time_outs_run : (h i j : Link) → TimeOuts n w la lb i j → Run n w la lb h i → Run n w la lb h j
  time_outs_run h i _ a_first r = more _ port_b times_out keep tt (more i port_a times_out keep tt r)
  time_outs_run h i _ b_first r = more _ port_a times_out keep tt (more i port_b times_out keep tt r)

  pub recovery_run : (h : Link) (m : ℕ) (i k : Link) → Recovery n w la lb m i k → Run n w la lb h i → Run n w la lb h k
  recovery_run h m i k c r = rounds_run h m c.timed_out k c.rounds (time_outs_run h i c.timed_out c.time_outs r)
