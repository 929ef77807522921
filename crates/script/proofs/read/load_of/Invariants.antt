use Rattle.std.proofs.Common.{◌≡◌, map, take, vec_items}
use Rattle.script.proofs.Spelt.{byte_of}
use Rattle.script.proofs.read.load_of.Given as goal

-- the pairs so far are spelt
abbrev pub invariant-loop-high : goal.invariant-loop-high
invariant-loop-high l = vec_items l.load ≡ map byte_of (take l.high-index l.pairs)
