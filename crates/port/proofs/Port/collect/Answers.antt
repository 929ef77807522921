use Rattle.rules.specs.Calls.{collect_first}
use Rattle.port.specs.Model.{port_of}
use Rattle.port.proofs.Whole.{stays_whole, copied_whole, agrees_whole}
use Rattle.port.proofs.Port.collect.Goals as goal

pub returns : goal.returns
returns c =
    let p = port_of c.args.self.now in
    let b = c.args.buffer.now in
    let front = c.in-Some.front.now in
    let after = c.collect_to.new.buffer in
    let cut = c.in-Some.ensures.cases in
    let out = c.collect_to.ensures in
    agrees_whole b front after cut.same cut.enough out.whole _ _ _ _ (collect_first p.receiver.waiting p) c.collect_to.result
    (λ s n h. (h.0, h.1, copied_whole b front after cut.same cut.enough out.whole s.packet h.2))
    (λ h. (h.0, stays_whole b front after cut.same cut.enough out.whole h.1))
    out.collects
