use Rattle.std.proofs.Common.{◌≡◌, take}
use Rattle.packet.specs.Crc.{crc_of, cleared_of}
use Rattle.packet.proofs.crc.start.Given as goal

-- the running value over the bytes up to here
abbrev pub invariant-loop-i : goal.invariant-loop-i
invariant-loop-i l = l.running ≡ crc_of 0xFFFF (take l.i (cleared_of l.bytes))
