use Rattle.std.proofs.Common.{◌≡◌, string_bytes, refl}
use Rattle.std.proofs.lemmas.Result.{IfOk-weaker}
use Rattle.script.specs.Printed.{row_of}
use Rattle.bench.specs.Playing.{Prints}
use Rattle.bench.proofs.Played.{row_printed}
use Rattle.bench.proofs.playing.play_line.Goals as goal

pub returns-in-Ok : goal.returns-in-Ok
returns-in-Ok g c =
    let wa = g.A.Lane.waiting in
    let wb = g.B.Lane.waiting in
    let la = g.A.Lane.LIMIT in
    let lb = g.B.Lane.LIMIT in
    let number = c.args.number in
    let text = c.args.text.now in
    let t = c.perform-answer.new.link in
    IfOk-weaker c.row.result
    (λ p. string_bytes p ≡ row_of number c.call.result c.port-at.result c.perform-answer.result c.held.result)
    (λ p. Prints wa wb la lb number text c.args.link.now (string_bytes p) t)
    (λ p row. row_printed wa wb la lb c.args.link.now _ c.perform-answer.result t c.perform-answer.new.buffer number text c.read.result c.in-Ok.line c.call.result c.port-at.result c.held.result (string_bytes p) c.in-Ok.is c.read.ensures c.call.ensures c.port-at.ensures c.held.ensures refl c.perform-answer.ensures row)
    c.row.ensures
