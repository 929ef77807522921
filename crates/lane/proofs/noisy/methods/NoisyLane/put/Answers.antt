use Rattle.std.proofs.Common.{rules}
use Rattle.lane.specs.Meaning.{Gains}
use Rattle.lane.proofs.Spoilt.{spoilt}
use Rattle.lane.proofs.noisy.methods.NoisyLane.put.Goals as goal
use Rattle.lane.proofs.noisy.methods.NoisyLane.put.Goals.{in-Keep+in_ok-put-in-Keep, in-Lose, in-Spoil+in_ok-put-in-Spoil}

pub returns-clause-means : goal.returns-clause-means
returns-clause-means g c =
    let w = g.L.Lane.waiting c.args.self.now.below in
    let f = c.args.frame.now in
    let gains : Gains w f (g.L.Lane.waiting c.match-self-place.self.below) =
    elim c.match-self-place.branch [
      | in-Keep+in_ok-put-in-Keep k ↦ search rules
      | in-Lose k ↦ search rules
      | in-Spoil+in_ok-put-in-Spoil k ↦ spoilt w (g.L.Lane.waiting c.match-self-place.self.below) f (search rules)
    ] in
    search rules
