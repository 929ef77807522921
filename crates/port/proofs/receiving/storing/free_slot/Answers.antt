use Rattle.std.proofs.Common.{◌≡◌, ℕ, ◌<◌, ◌≤◌, List, length, true, false, Some, None, Option, arith, rules}
use Rattle.std.specs.Option.{MatchOption}
use Rattle.std.proofs.lemmas.Iterator.{first_from_Range}
use Rattle.fifo.specs.Held.{queued}
use Rattle.port.specs.declared.record.WaitingSlot.{WaitingSlot}
use Rattle.port.specs.Inner.{is_named, FindsFree}
use Rattle.port.proofs.Naming.{named_all}
use Rattle.port.proofs.receiving.storing.free_slot.Goals as goal

finds : (rs : List WaitingSlot) (r : Option ℕ) → length rs < 8
    → MatchOption r ((k : ℕ) → 0 ≤ k → k < 8 → is_named k rs ≡ true) (λ i. (0 ≤ i) × (i < 8) × (is_named i rs ≡ false) × ((k : ℕ) → 0 ≤ k → k < i → is_named k rs ≡ true))
    → FindsFree rs r
finds rs None few all = named_all 8 rs (λ j lt. all j (omega arith) lt)
finds rs (Some slot) few found = (few, found.1, found.2)

pub returns : goal.returns
returns c =
    let rs = queued c.args.records.now in
    finds rs c.find.result (omega arith) (first_from_Range _ _ _ c.find.result (λ k. is_named k rs ≡ false) (λ k. is_named k rs ≡ true) c.find.ensures.ran (λ x q called. search rules) (λ x q called. search rules))
