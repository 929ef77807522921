use Rattle.std.proofs.Common.{arith}
use Rattle.script.proofs.Spelt.{plan_more, no_entry}
use Rattle.script.specs.Parts.{Plans}
use Rattle.script.proofs.Texts.{failed}
use Rattle.script.proofs.read.plan_of.Goals as goal

pub returns-in_err-plan : goal.returns-in_err-plan
returns-in_err-plan c =
    let letters = c.args.letters.now in
    failed (Plans letters) c.from_residual.result _ c.from_residual.ensures.1 (no_entry letters c.loop-i.i _ (omega arith) c.in_err-plan.ensures.refused c.in_err-plan.ensures.told)

pub loop-i-preserved : goal.loop-i-preserved
loop-i-preserved c = plan_more c.args.letters.now c.loop-i.plan c.loop-i.i c.in_ok-plan.field-0 (omega arith) (omega arith) c.in_ok-plan.ensures.told c.loop-i.invariant
