-- From what a call does to the delivery promise. Assumes nothing.
use Rattle.std.proofs.Common.{◌≡◌, ℕ, List, length, Result, sym, ap, subst, arith}
use Rattle.refusal.specs.declared.Refusal.{Refusal}
use Rattle.lane.specs.Meaning.{Frames}
use Rattle.rules.specs.declared.state.PortId.{PortId}
use Rattle.rules.specs.declared.state.PortId.TheVariants.{A as port_a, B as port_b}
use Rattle.rules.specs.Link.{Side, Link, Fate, Possible, Reached, step, fresh_link}
use Rattle.rules.specs.Link.Run.{none, more}
use Rattle.rules.specs.Link.Reached.{reached}
use Rattle.rules.specs.Serial.{serial}
use Rattle.rules.proofs.Delivers.{delivery}
use Rattle.rules.proofs.SerialWire.{serial_lawful}
use Rattle.link.specs.declared.call.Call.{Call}
use Rattle.link.specs.declared.call.Outcome.{Outcome}
use Rattle.link.specs.Performing.{as_rules}
use Rattle.link.specs.Recorded.{side_of}
use Rattle.link.specs.Joint.{Joint, Performs, Record, empty_record, recorded, link_of, Delivering, KeepsDelivering, StartsDelivering}
use Rattle.link.proofs.Called.{called_as}

module _ (la lb : ℕ) where
  -- a reached link delivers
  delivering : (i : Joint) (k : Record) → Reached 32 serial la lb (link_of i k) → Delivering la lb i k
  delivering i k r = (r, delivery 32 serial la lb (omega arith) serial_lawful (link_of i k) r)

  -- one step more
  one_more : (i : Link) (x : PortId) (load : List ℕ) (buffer : ℕ) (call : Call) (fate : Fate) → Possible serial fate → Reached 32 serial la lb i → Reached 32 serial la lb (step 32 serial la lb x (as_rules call load buffer) fate i)
  one_more i x load buffer call fate p (reached pa pb _ run) = reached pa pb _ (more i x (as_rules call load buffer) fate p run)

  -- the call is a step of the rules
  stepped : (at : PortId) (call : Call) (load : List ℕ) (i : Joint) (b : List ℕ) (r : Result Outcome Refusal) (j : Joint) (b' : List ℕ) (k : Record) → Performs la lb at call load i b r j b'
      → (fate : Fate) × Possible serial fate × (step 32 serial la lb at (as_rules call load (length b)) fate (link_of i k) ≡ link_of j (recorded at load r b' k))
  stepped port_a call load i b r j b' k h =
      let z = called_as la call load _ r _ k.a h.0 in
      let side = ap (λ (y : Side × Frames). y.0) z.2 in
      let rest = ap (λ (y : Side × Frames). y.1) z.2 in
      (z.0, z.1, λ n. record { a = side n; b = side_of (sym h.1 n) (rest n) k.b })
  stepped port_b call load i b r j b' k h =
      let z = called_as lb call load _ r _ k.b h.0 in
      let side = ap (λ (y : Side × Frames). y.0) z.2 in
      let rest = ap (λ (y : Side × Frames). y.1) z.2 in
      (z.0, z.1, λ n. record { a = side_of (sym h.1 n) (rest n) k.a; b = side n })

  -- the port at which the call was made
  pub at_port : (at x : PortId) → at ≡ x → (call : Call) (load : List ℕ) (i : Joint) (b : List ℕ) (r : Result Outcome Refusal) (j : Joint) (b' : List ℕ) → Performs la lb x call load i b r j b' → Performs la lb at call load i b r j b'
  at_port at x is call load i b r j b' h = subst (λ y. Performs la lb y call load i b r j b') (sym is) h

  pub keeps_delivering : (at : PortId) (call : Call) (load : List ℕ) (i : Joint) (b : List ℕ) (r : Result Outcome Refusal) (j : Joint) (b' : List ℕ) → Performs la lb at call load i b r j b' → KeepsDelivering la lb at load i r j b'
  keeps_delivering at call load i b r j b' h k was =
      let z = stepped at call load i b r j b' k h in
      delivering j _ (subst (Reached 32 serial la lb) z.2 (one_more (link_of i k) at load (length b) call z.0 z.1 was))

  -- the call at the port where it was made, and the delivery promise of it
  pub performs_keeps : (at x : PortId) → at ≡ x → (call : Call) (load : List ℕ) (i : Joint) (b : List ℕ) (r : Result Outcome Refusal) (j : Joint) (b' : List ℕ) → Performs la lb x call load i b r j b'
      → Performs la lb at call load i b r j b' × KeepsDelivering la lb at load i r j b'
  performs_keeps at x is call load i b r j b' h =
      let performs = at_port at x is call load i b r j b' h in
      (performs, keeps_delivering at call load i b r j b' performs)

  pub starts_delivering : (i : Joint) → StartsDelivering la lb i
  starts_delivering i pa pb ea eb la-none lb-none =
      let same : fresh_link pa pb ≡ link_of i empty_record = λ n. record { a = side_of (sym ea n) (sym la-none n) empty_record.a; b = side_of (sym eb n) (sym lb-none n) empty_record.b } in
      delivering i empty_record (subst (Reached 32 serial la lb) same (reached pa pb (fresh_link pa pb) none))
