-- The symbol that accepts a packet.
use Rattle.std.specs.Prelude.{ℕ}
use Rattle.symbol.specs.declared.Symbol.{Symbol}
use Rattle.symbol.specs.declared.codes.Stype0.TheVariants.{Accepted}
use Rattle.symbol.specs.declared.codes.Stype1.TheVariants.{Nop}
use Rattle.symbol.specs.Codes.{stype0_of, stype1_of, cmd_of}

-- Its first parameter is the packet's number, and a 31 in its second says that the receiver keeps the pace by retries.
abbrev pub accepted_of : ℕ → Symbol
accepted_of k = record { stype0 = stype0_of Accepted; parameter0 = k; parameter1 = 31; stype1 = stype1_of Nop; cmd = cmd_of Nop }
