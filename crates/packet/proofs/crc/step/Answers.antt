use Rattle.std.proofs.Common.{◌≡◌, ◌*◌, ◌/◌, ◌%◌, sym, ◌∙◌, zero-add, arith}
use Rattle.std.proofs.lemmas.List.FromFn.{get_or-map-range_with_len}
use lib.Bits.{bit_xor, xor_lt}
use Rattle.symbol.specs.Division.{bits_of}
use Rattle.packet.specs.Crc.{step_of}
use Rattle.packet.proofs.Steps.{by_table}
use Rattle.packet.proofs.crc.step.Goals as goal

-- the table made from its rule: computed, entry by entry, it is the one in the source
pub returns : goal.returns
unfolding step_of bits_of
returns c =
    let v = c.args.value in
    let i = bit_xor (v / 256) c.args.byte in
    let low : v * 256 % 65536 ≡ v % 256 * 256 = omega arith in
    let found : _ = get_or-map-range_with_len (step_of 0) 0 256 i i 0 (xor_lt 8 (v / 256) c.args.byte (omega arith) (omega arith)) (zero-add i) in
    (λ j. bit_xor (low j) (found j)) ∙ sym (by_table v c.args.byte (omega arith))
