use Rattle.std.proofs.Common.{◌≡◌, ◌<◌}
use Rattle.symbol.specs.Division.{took_bits, bits_of}
use Rattle.symbol.proofs.check_of.Given as goal

-- the bits still to come bring the register to where all nineteen bring its start
abbrev pub invariant-loop-i : goal.invariant-loop-i
invariant-loop-i l = record {
  within : l.register < 32;
  same : took_bits 5 21 l.register (bits_of l.i l.nineteen) ≡ took_bits 5 21 0b11111 (bits_of 19 l.nineteen);
}
