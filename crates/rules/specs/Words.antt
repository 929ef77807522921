-- The words that are printed for what calls put onto a lane and find in a frame.
use Rattle.std.specs.Prelude.{ℕ, List, codes}
use Rattle.rules.specs.declared.state.Sent.{Sent}
use Rattle.rules.specs.declared.state.Sent.TheVariants.{Reply, Restart, Request, Packet as PacketSent}
use Rattle.rules.specs.declared.state.Received.{Received}
use Rattle.rules.specs.declared.state.Received.TheVariants.{Symbol, Packet, Unsound}

-- The word for what a send put onto the lane.
abbrev pub sent_word : Sent → List ℕ
sent_word Reply = codes "reply"
sent_word Restart = codes "restart"
sent_word Request = codes "request"
sent_word PacketSent = codes "packet"

-- The word for what a receive found.
abbrev pub received_word : Received → List ℕ
received_word Symbol = codes "symbol"
received_word Packet = codes "packet"
received_word Unsound = codes "unsound"
