use Rattle.std.proofs.Common.{sym, refl, ◌∙◌}
use Rattle.std.proofs.lemmas.Bool.{eqb-true, eq-eqb}
use Rattle.packet.specs.Sealing.{Sealable}
use Rattle.packet.proofs.Sealed.{sealed_to, sealed_length_lem}
use Rattle.packet.proofs.opening.seals_to.Goals as goal

pub returns-then-is_sealable-clause-means : goal.returns-then-is_sealable-clause-means
returns-then-is_sealable-clause-means c =
    let n = c.args.n in
    let m = c.args.m in
    let h : Sealable n = c.if-is_sealable.ensures.0 refl in
    let size = c.sealed_length.ensures in (
      λ t. (h, λ load k. sealed_to n h.0 load k ∙ sym size ∙ eqb-true c.sealed_length.result m t),
      λ s. eq-eqb c.sealed_length.result m (size ∙ sealed_length_lem n m h.0 s.1),
    )
