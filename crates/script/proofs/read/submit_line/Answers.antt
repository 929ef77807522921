use Rattle.std.proofs.Common.{◌++◌, refl}
use Rattle.script.specs.declared.call.Call.TheVariants.{Submit}
use Rattle.script.specs.Reading.{bytes_of, head_of, Reads}
use Rattle.script.specs.Said.{submit}
use Rattle.script.proofs.Texts.{failed}
use Rattle.script.proofs.read.submit_line.Goals as goal

pub returns-in_err-load : goal.returns-in_err-load
returns-in_err-load c =
    let port = c.args.port in
    let tail = c.args.tail.now in
    let digits = c.in_ok-digits.digits.now in
    failed (Reads (head_of Submit port ++ tail)) c.from_residual-in_err-load.result _ c.from_residual-in_err-load.ensures.1
    (submit port (bytes_of digits), (tail, refl, (digits, c.in_ok-digits.ensures, (c.if-digits-ne0.false, c.if-not-are_digits.ensures.0 refl), refl)), refl)
