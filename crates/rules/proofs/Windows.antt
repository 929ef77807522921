-- The facts of windows.
use Rattle.std.proofs.Common.{◌≡◌, ℕ, ◌-◌, ◌<◌, ◌≤◌, Bool, true, false, ltb, ◌≢◌, length, drop, Some, refl, ap, ◌∙◌, arith}
use Rattle.std.proofs.lemmas.List.{length-drop}
use Rattle.std.proofs.lemmas.Bool.{ne_eqb, le-ltb, lt-ltb}
use Rattle.symbol.specs.declared.codes.Stype0.TheVariants.{Response as SaysResponse}
use Rattle.rules.specs.declared.state.Output.{Output}
use Rattle.rules.specs.declared.state.Output.TheVariants.{AwaitingResponse, Failed}
use Rattle.rules.specs.Port.{Sender, distance}
use Rattle.rules.specs.Hearing.{turned, freed, responded, said}
use Rattle.rules.specs.Facts.{FreesAcross, FailsBeyond, FreesAfterRewind, windows}
use Rattle.packet.specs.Facts.{Hold}

module _ (o : Sender) (k status d : ℕ) (ok : status ≢ 2) (awaits : o.output ≡ AwaitingResponse) (far : distance 32 k o.first ≡ d) where
  -- by how far the response is past the first
  response_is : (x : Bool) → ltb o.high d ≡ x → said 32 o.output (Some SaysResponse) k status o ≡ responded 32 false x d o
  response_is x e =
      ap (λ (y : Output). said 32 y (Some SaysResponse) k status o) awaits
      ∙ ap (λ (y : Bool). responded 32 y (ltb o.high (distance 32 k o.first)) (distance 32 k o.first) o) (ne_eqb status 2 ok)
      ∙ ap (λ (y : ℕ). responded 32 false (ltb o.high y) y o) far
      ∙ ap (λ (y : Bool). responded 32 false y d o) e

  frees : d ≤ o.high → said 32 o.output (Some SaysResponse) k status o ≡ freed 32 d 0 o
  frees l = response_is false (le-ltb o.high d l)

  fails : o.high < d → said 32 o.output (Some SaysResponse) k status o ≡ turned Failed o
  fails l = response_is true (lt-ltb o.high d l)

frees_across : FreesAcross
frees_across o f h status ok awaits = let e = frees o 2 status 4 ok awaits (ap (distance 32 2) f) (omega arith) in (ap (λ (x : Sender). x.held) e, ap (λ (x : Sender). x.first) e, ap (λ (x : Sender). x.output) e)

fails_beyond : FailsBeyond
fails_beyond o f h status ok awaits = ap (λ (x : Sender). x.output) (fails o 3 status 5 ok awaits (ap (distance 32 3) f) (omega arith))

frees_after_rewind : FreesAfterRewind
frees_after_rewind o f l h s status ok awaits =
    let e = frees o 6 status 2 ok awaits (ap (distance 32 6) f) (omega arith) in
    let n : length (drop 2 o.held) ≡ 1 = let z = length-drop 2 o.held in omega arith in
    let m : o.high - 2 ≡ 1 = omega arith in (
      (ap (λ (x : Sender). x.held) e, ap (λ (x : Sender). x.first) e, ap (λ (x : Sender). x.output) e),
      ap (λ (x : Sender). length x.held) e ∙ n,
      ap (λ (x : Sender). x.high) e ∙ m,
    )

pub windows_hold : Hold windows
windows_hold = (refl, (frees_across, (fails_beyond, (frees_after_rewind, tt))))
