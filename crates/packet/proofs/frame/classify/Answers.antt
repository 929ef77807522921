use Rattle.std.proofs.Common.{◌≡◌, ℕ, Ok, Err, sym, ap, ◌∙◌, arith}
use Rattle.std.proofs.lemmas.Bool.{both_ways}
use Rattle.symbol.specs.Layout.{read_of}
use Rattle.packet.specs.Soundness.{sound_of}
use Rattle.packet.proofs.Classes.{read_written}
use Rattle.packet.proofs.frame.classify.Goals as goal

pub returns-in-Err-2-clause-means : goal.returns-in-Err-2-clause-means
returns-in-Err-2-clause-means c = (
  c.cause_at.ensures,
  both_ways (sound_of c.args.frame.now) (sym c.if-is_sound.ensures),
  λ s fits e.
      let read : Err c.in-Err-2.field-0 ≡ Ok s = c.in-Err-2.ensures.value ∙ ap read_of e ∙ read_written s fits in
      let z : ◌≡◌ {A = ℕ} 0 1 = cc in
      omega arith,
)
