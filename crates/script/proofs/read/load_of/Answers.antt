use Rattle.std.proofs.Common.{◌/◌, map, length, ap, ◌∙◌, arith}
use Rattle.std.proofs.lemmas.List.{take_all}
use Rattle.script.proofs.Spelt.{byte_of, pair_digit, pairs_spell}
use Rattle.script.proofs.read.load_of.Goals as goal

pub value_of-requires : goal.value_of-requires
value_of-requires c = rw c.as_chunks.ensures.front (pair_digit (length c.args.digits.now / 2) c.args.digits.now c.loop-high.high-index 0 (omega arith) (omega arith) (omega arith) c.requires.1)

pub value_of-requires-in-loop-high : goal.value_of-requires-in-loop-high
value_of-requires-in-loop-high c = rw c.as_chunks.ensures.front (pair_digit (length c.args.digits.now / 2) c.args.digits.now c.loop-high.high-index 1 (omega arith) (omega arith) (omega arith) c.requires.1)

pub returns : goal.returns
returns c =
    let ds = c.args.digits.now in
    c.loop-high.invariant
    ∙ ap (map byte_of) (take_all c.loop-high.high-index c.as_chunks.result.0.now (omega arith) ∙ c.as_chunks.ensures.front)
    ∙ pairs_spell (length ds / 2) ds (omega arith)
