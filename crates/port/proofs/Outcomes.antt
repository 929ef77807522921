-- What a send and a receive come to where they are handled.
use Rattle.std.proofs.Common.{◌≡◌, ℕ, ◌<◌, Bool, false, List, length, take, Some, None, Ok, Option, Result, sym, refl, subst}
use Rattle.std.proofs.lemmas.Bool.{lt-leb}
use Rattle.refusal.specs.declared.Refusal.{Refusal}
use Rattle.refusal.specs.declared.Refusal.TheVariants.{LaneFull}
use Rattle.lane.specs.Meaning.{Frames, Gains, TakeMeans}
use Rattle.rules.specs.declared.state.Sent.{Sent}
use Rattle.rules.specs.declared.state.Received.{Received}
use Rattle.rules.specs.Wire.{Frame}
use Rattle.rules.specs.Port.{Port}
use Rattle.rules.specs.Hearing.{heard}
use Rattle.rules.specs.Calls.{Departure, refused_if, send_due, received_as, receive_first}
use Rattle.rules.specs.Serial.{serial}
use Rattle.port.specs.Promises.{Agrees, Departs, Arrives}
use Rattle.port.specs.Inner.{answered, Writes}
use Rattle.port.proofs.Fronts.{front}

-- what is not refused is as the rest says
pub not_refused : {A B : Type 0} (Handled : A → B → Type 0) (Refused : Type 0) (t : Bool) (e : Refusal) (x : Result A Refusal) (r : Result B Refusal) → t ≡ false → Agrees Handled Refused x r → Agrees Handled Refused (refused_if t e x) r
not_refused Handled Refused t e x r is agrees = subst (λ b. Agrees Handled Refused (refused_if b e x) r) (sym is) agrees

module _ {L : Type 0} (waiting : L → Frames) where
  pub sends_due : (puts : L → Frame → L → Type 0) (o : Option Departure) (limit : ℕ) (Refused : Type 0) (p' : Port) (l l' : L) (b b' : List ℕ) (n : ℕ) (what : Sent) → Writes o b n p' b' → Some what ≡ answered o → length (waiting l) < limit → Gains (waiting l) (take n b') (waiting l') → puts l (take n b') l' → Agrees (Departs waiting puts l b p' l' b') Refused (send_due limit (waiting l) o) (Ok what)
  sends_due puts None limit Refused p' l l' b b' n what writes is room gains put = absurd writes
  sends_due puts (Some d) limit Refused p' l l' b b' n what writes is room gains put =
      let part : take n b' ≡ d.frame = front b' d.frame _ n writes.3 writes.0 in
      let answer : what ≡ d.answer = cc in
      not_refused (Departs waiting puts l b p' l' b') Refused _ LaneFull (Ok d) (Ok what) (lt-leb limit (length (waiting l)) room)
      (answer, writes.2, writes.3, subst (λ f. Gains (waiting l) f (waiting l')) part gains, subst (λ f. puts l f l') part put)

  pub receives_first : (takes : L → L → Type 0) (Refused : Type 0) (p p' : Port) (l l' : L) (b b' : List ℕ) (n : ℕ) (r : Received) → TakeMeans (waiting l) b (Ok n) (waiting l') b' → takes l l' → r ≡ received_as (serial.read (take n b')) → p' ≡ heard 32 (serial.read (take n b')) p → Agrees (Arrives waiting takes l b p' l' b') Refused (receive_first 32 serial (waiting l) p) (Ok r)
  receives_first takes Refused p p' l l' b b' n r took kind answer port =
      let f = took.1.0 in
      let part : take n b' ≡ f = front b' f _ n took.1.4 took.1.3 in
      subst (λ frames. Agrees (Arrives waiting takes l b p' l' b') Refused (receive_first 32 serial frames p) (Ok r)) (sym took.1.1)
      (subst (λ x. r ≡ received_as (serial.read x)) part answer, subst (λ x. p' ≡ heard 32 (serial.read x) p) part port, took.1.4, refl, kind)
