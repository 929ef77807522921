use Rattle.std.proofs.Common.{List, ◌++◌, drop, ap, ◌∙◌, arith}
use Rattle.lane.specs.declared.noisy.Fate.{Fate}
use Rattle.lane.specs.Plans.{keep_all}
use Rattle.lane.proofs.Planned.{filled}
use Rattle.lane.proofs.noisy.Noisy.set_plan.Goals as goal

pub returns-clause-plan : goal.returns-clause-plan
returns-clause-plan g c =
    let used = c.min-used.result in
    ap (λ (xs : List Fate). xs ++ drop used keep_all) c.copy_from_slice.ensures.after ∙ filled c.args.entries.now used (omega arith)
