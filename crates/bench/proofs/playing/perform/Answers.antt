use Rattle.std.proofs.Common.{◌∙◌, sym, ap, subst}
use Rattle.script.specs.declared.line.Line.{Line}
use Rattle.script.specs.Said.{said_by}
use Rattle.bench.proofs.Played.{Asks, call_played}
use Rattle.bench.proofs.playing.perform.Goals as goal
use Rattle.bench.proofs.playing.perform.Goals.{in-Submit, in-Send, in-Receive, in-Collect, in-TimeOut}

pub returns : goal.returns
returns g c =
    let said = said_by c.args.line.now in
    let call = c.match-line.call.0 in
    let load = c.match-line.call.1.now in
    let asks : Asks said call load = elim c.match-line.branch [
      | in-Submit w ↦ subst (λ (l : Line). Asks (said_by l) call load) (sym w.in-Submit.is) (ap (λ x. x.0) w.call-is, ap (λ x. x.1.now) w.call-is ∙ w.as_slice.ensures.value)
      | in-Send w ↦ subst (λ (l : Line). Asks (said_by l) call load) (sym w.in-Send.is) (ap (λ x. x.0) w.call-is, ap (λ x. x.1.now) w.call-is)
      | in-Receive w ↦ subst (λ (l : Line). Asks (said_by l) call load) (sym w.in-Receive.is) (ap (λ x. x.0) w.call-is, ap (λ x. x.1.now) w.call-is)
      | in-Collect w ↦ subst (λ (l : Line). Asks (said_by l) call load) (sym w.in-Collect.is) (ap (λ x. x.0) w.call-is, ap (λ x. x.1.now) w.call-is)
      | in-TimeOut w ↦ subst (λ (l : Line). Asks (said_by l) call load) (sym w.in-TimeOut.is) (ap (λ x. x.0) w.call-is, ap (λ x. x.1.now) w.call-is)
    ] in
    call_played g.A.Lane.waiting g.B.Lane.waiting g.A.Lane.LIMIT g.B.Lane.LIMIT _ _ _ _ _ said _ call load asks c.port-at.ensures (c.perform.result, c.answer_of.ensures, c.perform.ensures.performs)
