use Rattle.std.proofs.Common.{◌≡◌, ◌-◌, ◌≤◌, ◌++◌, length, take, drop, replicate, sym, refl, ap, ◌∙◌, arith, rules}
use Rattle.std.proofs.lemmas.List.{length-replicate}
use Rattle.packet.specs.Crc.{cleared_of}
use Rattle.packet.specs.Sealing.{Sealable, checked_of, pad_of, sealed_of}
use Rattle.packet.proofs.Sealed.{padded_sealed, sealed_at_most, padding}
use Rattle.packet.proofs.Written.{written_behind}
use Rattle.packet.proofs.sealing.seal.Goals as goal

pub slice_bounds-fill-end : goal.slice_bounds-fill-end
slice_bounds-fill-end c =
    let load = c.args.load.now in
    let h : Sealable (length load) = c.if-not-is_sealable.ensures.0 refl in
    let size = c.next_multiple_of-padded.ensures.value ∙ padded_sealed load c.put_checked-end.result h.0 c.put_checked-end.ensures.ends in
    let most = sealed_at_most load h in
    let fits : c.next_multiple_of-padded.result ≤ length c.args.buffer.now = omega arith in
    search rules

pub returns-clause-value : goal.returns-clause-value
unfolding sealed_of
returns-clause-value c =
    let load = c.args.load.now in
    let h : Sealable (length load) = c.if-not-is_sealable.ensures.0 refl in
    let front = checked_of (cleared_of load) in
    let at = c.put_checked-end.result in
    let checked = c.put_checked-end.new.buffer in
    let padded = c.next_multiple_of-padded.result in
    let pad = pad_of (length front) in
    let end : at ≡ length front = c.put_checked-end.ensures.ends in
    let size : padded ≡ length (sealed_of load) = c.next_multiple_of-padded.ensures.value ∙ padded_sealed load at h.0 end in
    let most = sealed_at_most load h in
    let fits : padded ≤ length checked = omega arith in
    let zeros : replicate (padded - at) 0 ≡ pad = ap (λ n. replicate (n - at) 0) c.next_multiple_of-padded.ensures.value ∙ padding load at h.0 end in
    let filled : c.fill.new.self ≡ replicate (padded - at) 0 = search rules in
    let long : padded - at ≡ length pad = sym (length-replicate (padded - at) 0) ∙ ap length zeros in
    let same : c.fill.new.self ≡ pad = filled ∙ zeros in (
      h,
      c.if-buffer-lt-LONGEST.false,
      size,
      (λ i. take at checked ++ (same i ++ drop (long i) (drop at checked)))
          ∙ written_behind front pad c.args.buffer.now checked at end c.put_checked-end.ensures.written
          ∙ ap (λ k. sealed_of load ++ drop k c.args.buffer.now) (sym size),
    )
