use Rattle.rules.specs.Calls.{due, send_due}
use Rattle.rules.specs.Serial.{serial}
use Rattle.port.specs.Model.{port_of}
use Rattle.port.proofs.Whole.{stays_whole, copied_whole, agrees_whole}
use Rattle.port.proofs.Port.send.Goals as goal

pub returns : goal.returns
returns g c =
    let p = port_of c.args.self.now in
    let b = c.args.buffer.now in
    let front = c.in-Some.front.now in
    let after = c.send_by.new.buffer in
    let cut = c.in-Some.ensures.cases in
    let out = c.send_by.ensures in
    agrees_whole b front after cut.same cut.enough out.whole _ _ _ _ (send_due g.L.Lane.LIMIT (g.L.Lane.waiting c.args.lane.now) (due 32 serial p)) c.send_by.result
    (λ d s h. (h.0, h.1, copied_whole b front after cut.same cut.enough out.whole d.frame h.2, h.3, h.4))
    (λ h. (h.0, h.1, stays_whole b front after cut.same cut.enough out.whole h.2))
    out.sends
