use Rattle.std.proofs.Common.{◌≡◌, ◌+◌, ◌-◌, ◌++◌, length, take, drop, sym, ap, ◌∙◌, append-nil, arith}
use Rattle.std.proofs.lemmas.List.{length-append, length-drop, take_rest, drop_all}
use Rattle.packet.specs.Crc.{crc_of, cleared_of, bytes_of}
use Rattle.packet.specs.Sealing.{with_crc, written_over}
use Rattle.packet.proofs.Cleared.{length_cleared}
use Rattle.packet.proofs.Sealed.{length_crc, checked_short, long_parts}
use Rattle.packet.proofs.Written.{written_behind}
use Rattle.packet.proofs.sealing.put_checked.Goals as goal

pub returns-then-n-le-FIRST : goal.returns-then-n-le-FIRST
returns-then-n-le-FIRST c =
    let bs = cleared_of c.args.load.now in
    let n = length_cleared c.args.load.now in
    let short = sym (checked_short bs (omega arith)) in
    record {
      written = c.put_first.ensures.written ∙ ap (λ l. written_over l c.args.buffer.now) short;
      ends = c.put_first.ensures.ends ∙ ap (λ k. k + 2) (sym n) ∙ sym (length_crc bs) ∙ ap length short;
    }

pub returns : goal.returns
returns c =
    let load = c.args.load.now in
    let before = c.args.buffer.now in
    let first = c.put_first-end.new.buffer in
    let at = c.put_first-end.result in
    let v = c.run.result in
    let front = with_crc (cleared_of (take 80 load)) in
    let part = drop 80 load ++ bytes_of v in
    let rest = take_rest load 80 in
    let end : at ≡ length front = c.put_first-end.ensures.ends ∙ ap (λ k. k + 2) (sym (length_cleared (take 80 load))) ∙ sym (length_crc (cleared_of (take 80 load))) in
    let parts = long_parts load v (omega arith) (c.run.ensures.value ∙ ap (crc_of 0) rest) in
    let written = c.put.ensures.written ∙ (λ i. written_over (rest i ++ bytes_of v) (take_rest first at i)) in
    let none = drop_all (length first - at) (drop at first) (simp length-drop (omega arith)) in
    record {
      written =
          (λ i. take at first ++ (written i ++ none i))
          ∙ ap (λ l. take at first ++ l) (append-nil (written_over part (drop at first)))
          ∙ written_behind front part before first at end c.put_first-end.ensures.written
          ∙ ap (λ l. written_over l before) parts;
      ends = (λ i. end i + (c.put.ensures.ends ∙ ap (λ l. length l + 2) rest ∙ sym (length-append (drop 80 load) (bytes_of v))) i) ∙ sym (length-append front part) ∙ ap length parts;
    }
