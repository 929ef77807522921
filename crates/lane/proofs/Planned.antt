-- How a plan is filled with keep.
use Rattle.std.proofs.Common.{◌≡◌, ℕ, ◌-◌, min, List, ◌++◌, length, take, drop, replicate, sym, ap, ◌∙◌, inl, inr, arith}
use Rattle.std.proofs.lemmas.Bool.{cases_lt}
use Rattle.std.proofs.lemmas.List.{take_all, drop-replicate}
use Rattle.lane.specs.declared.noisy.Fate.{Fate}
use Rattle.lane.specs.declared.noisy.Fate.TheVariants.{Keep}
use Rattle.lane.specs.Plans.{keep_all, plan_of}

pub filled : (entries : List Fate) (used : ℕ) → used ≡ min (length entries) 64 → take used entries ++ drop used keep_all ≡ plan_of entries
filled entries used is =
    let same : take used entries ≡ take 64 entries =
    elim (cases_lt (length entries) 64) [
      | inl few ↦ take_all used entries (omega arith) ∙ sym (take_all 64 entries (omega arith))
      | inr many ↦ let e : used ≡ 64 = omega arith in ap (λ n. take n entries) e
    ] in
    let left : 64 - used ≡ 64 - length entries = omega arith in
    let rest : drop used keep_all ≡ replicate (64 - length entries) Keep = drop-replicate used 64 Keep ∙ ap (λ n. replicate n Keep) left in
    cc
