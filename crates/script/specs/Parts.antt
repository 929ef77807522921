-- What the reader of a line finds on its way. Only functions inside the crate cite these.
use Rattle.std.specs.Borrow.{Bor}
use Rattle.std.specs.Prelude.{◌≡◌, ℕ, List, ◌∷◌, ◌++◌, map, Ok, Err, Result, ◌≢◌}
use Rattle.refusal.specs.declared.Refusal.{Refusal}
use Rattle.refusal.specs.declared.Refusal.TheVariants.{NoSuchLine}
use Rattle.rules.specs.declared.state.PortId.{PortId}
use Rattle.lane.specs.declared.noisy.Fate.{Fate}
use Rattle.script.specs.declared.call.Call.{Call}
use Rattle.script.specs.declared.read.Head.{Head}
use Rattle.script.specs.Letters.{fate_letter}
use Rattle.script.specs.Reading.{Fills, head_of}

-- The call and the port with which a line begins, and what follows them: no line does where there are none.
abbrev pub Begins : List ℕ → Result Head Refusal → Type 0
Begins text (Ok head) = text ≡ head_of head.call head.port ++ head.tail.now
Begins text (Err refusal) = (refusal ≡ NoSuchLine) × ((call : Call) (port : PortId) (tail : List ℕ) → text ≢ head_of call port ++ tail)

-- The field after a tab.
abbrev pub Parts : List ℕ → Result (Bor (List ℕ)) Refusal → Type 0
Parts tail (Ok field) = tail ≡ 9 ∷ field.now
Parts tail (Err refusal) = (refusal ≡ NoSuchLine) × ((field : List ℕ) → tail ≢ 9 ∷ field)

-- The plan that letters spell, where they spell one.
abbrev pub Plans : List ℕ → Result (List Fate) Refusal → Type 0
Plans letters (Ok fates) = (entries : List Fate) × (letters ≡ map fate_letter entries) × Fills entries fates
Plans letters (Err refusal) = (refusal ≡ NoSuchLine) × ((entries fates : List Fate) → letters ≡ map fate_letter entries → Fills entries fates → ⊥)
