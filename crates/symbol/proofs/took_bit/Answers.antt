use Rattle.std.proofs.Common.{◌*◌, ◌%◌, arith}
use Rattle.std.proofs.lemmas.Nat.{and_mask, xor_lt}
use Rattle.symbol.proofs.took_bit.Goals as goal

pub returns-else-register-bit-clause-within : goal.returns-else-register-bit-clause-within
returns-else-register-bit-clause-within c = xor_lt 5 _ 21 (omega (arith, and_mask (c.args.register * 2 % 256) 5)) (omega arith)
