use Rattle.std.proofs.Common.{◌∷◌, ◌++◌, drop, sym, refl, ap, ◌∙◌}
use Rattle.script.specs.declared.call.Call.TheVariants.{Plan as PlanCall}
use Rattle.script.specs.declared.line.Line.TheVariants.{Plan}
use Rattle.script.specs.Reading.{head_of, Reads}
use Rattle.script.proofs.Texts.{says, says_nothing, failed}
use Rattle.script.proofs.read.plan_line.Goals as goal

pub returns-in_err-plan : goal.returns-in_err-plan
returns-in_err-plan c =
    let port = c.args.port in
    let tail = c.args.tail.now in
    failed (Reads (head_of PlanCall port ++ tail)) c.from_residual-in_err-plan.result _ c.from_residual-in_err-plan.ensures.1
    (c.in_err-plan.ensures.0, says_nothing PlanCall port tail (λ (entries, fates, field, fills). c.in_err-plan.ensures.1 entries fates (ap (drop 1) (sym c.in_ok-field_of.ensures ∙ field)) fills))

pub returns : goal.returns
returns c =
    let port = c.args.port in
    let (entries, letters, fills) = c.in_ok-plan.ensures in
    says (Plan port c.in_ok-plan.plan) PlanCall port c.args.tail.now refl refl (entries, c.in_ok-field_of.ensures ∙ ap (λ l. 9 ∷ l) letters, fills)
