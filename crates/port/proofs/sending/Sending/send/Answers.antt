use Rattle.std.proofs.Common.{◌≡◌, ℕ, ◌≤◌, List, [], ◌++◌, length, get_or, drop, sym, ap, ◌∙◌, arith}
use Rattle.packet.specs.Header.{stamped_of}
use Rattle.packet.proofs.Fields.{length_stamped}
use Rattle.port.specs.Slots.{packets_in}
use Rattle.port.specs.Held.{held_of, sender_of}
use Rattle.port.specs.Inner.{next_frame}
use Rattle.port.proofs.Ring.{length_held, held_at}
use Rattle.port.proofs.Fronts.{stamped_front, stamps_within}
use Rattle.port.proofs.sending.Sending.send.Goals as goal

pub copy_out-n-requires : goal.copy_out-n-requires
copy_out-n-requires c =
    let long = length_held c.args.self.now in
    (omega arith, c.place-i.ensures.within (omega arith))

pub count_sent-requires : goal.count_sent-requires
count_sent-requires c =
    let long = length_held c.args.self.now in
    (c.requires.0, omega arith)

pub returns : goal.returns
returns c =
    let s = c.args.self.now in
    let before = c.args.buffer.now in
    let i = c.place-i.result in
    let long = length_held s in
    let k = s.window.sent in
    let id = c.next_ack_id.result in
    let p = get_or (packets_in s.slots) i [] in
    let same : get_or (held_of s) k [] ≡ p = held_at s i k (omega arith) c.place-i.ensures.at in
    let frame : next_frame (sender_of s) ≡ stamped_of id p = ap (λ (n : ℕ). stamped_of n (get_or (held_of s) k [])) (sym c.next_ack_id.ensures.value) ∙ ap (stamped_of id) same in
    let out = c.copy_out-n.ensures in
    let some : 1 ≤ length p = omega (arith, out.len, out.bounds.0) in
    let stamped : c.stamp.new.packet ≡ stamped_of id c.copy_out-n.new.buffer = stamps_within id c.copy_out-n.new.buffer c.stamp.new.packet c.stamp.result c.stamp.ensures.value c.next_ack_id.ensures.within in
    let wrote = stamped_front id p c.copy_out-n.new.buffer before some out.bytes in
    record {
      len = out.len ∙ sym (length_stamped id p) ∙ ap length (sym frame);
      bounds = out.bounds;
      bytes = stamped ∙ wrote ∙ ap (λ (f : List ℕ). f ++ drop (length f) before) (sym frame);
      sender = c.count_sent.ensures;
    }
