use Rattle.std.proofs.Common.{◌-◌, ◌/◌, ◌^◌, sym, ap, ◌∙◌, arith}
use Rattle.std.proofs.lemmas.Nat.{and_mask}
use Rattle.symbol.specs.Division.{took_bit, took_bits, bits_of}
use Rattle.symbol.proofs.Register.{took_one, took_none, check_ends}
use Rattle.symbol.proofs.check_of.Goals as goal

pub loop-i-preserved : goal.loop-i-preserved
loop-i-preserved c =
    let x = c.args.nineteen in
    let n = c.loop-i.i - 1 in
    let r = c.loop-i.register in
    let bit = and_mask (x / 2 ^ n) 1 in
    let next = c.took_bit-register.ensures in
    record {
      within = next.within;
      same = ap (λ y. took_bits 5 21 y (bits_of n x)) (next.value ∙ ap (took_bit 5 21 r) bit) ∙ sym (took_one 5 21 r x n c.loop-i.i (omega arith)) ∙ c.loop-i.invariant.same;
    }

pub returns-clause-value : goal.returns-clause-value
returns-clause-value c =
    let x = c.args.nineteen in
    let r = c.loop-i.register in
    let all = sym (took_none 5 21 r x c.loop-i.i (omega arith)) ∙ c.loop-i.invariant.same in
    c.took_bit.ensures.value ∙ ap (λ y. took_bit 5 21 y 0) all ∙ sym (check_ends x)
