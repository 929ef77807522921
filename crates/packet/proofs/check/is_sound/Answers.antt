use Rattle.std.proofs.Common.{◌≡◌, sym, ◌∙◌, arith}
use Rattle.std.proofs.lemmas.List.{take_rest}
use Rattle.packet.specs.Crc.{crc_of, run_of}
use Rattle.packet.specs.Soundness.{sound_of}
use Rattle.packet.proofs.Sounds.{run_on}
use Rattle.packet.proofs.check.is_sound.Goals as goal

pub returns-then-first-eq0 : goal.returns-then-first-eq0
unfolding sound_of
returns-then-first-eq0 c =
    let p = c.args.packet.now in
    let first = c.start-first.ensures.value in
    let rest = take_rest p 82 in
    let last : c.run-last.result ≡ run_of p = c.run-last.ensures.value ∙ (λ i. crc_of (first i) (rest i)) ∙ sym (run_on p 82 (omega arith) (omega arith)) in
    grind arith
