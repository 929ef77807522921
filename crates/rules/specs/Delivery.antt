-- The delivery law: what holds after each call of every run.
use Rattle.std.specs.Prelude.{◌≡◌, ℕ, ◌+◌, ◌<◌, ◌≤◌, ◌≢◌, [], ◌++◌, length, take, drop, slice_index_or}
use Rattle.rules.specs.declared.state.Output.TheVariants.{Failed}
use Rattle.rules.specs.Wire.{FrameLength, Wire, Lawful}
use Rattle.rules.specs.Port.{Sender, most_held}
use Rattle.rules.specs.Link.{Side, Link, Run, Reached}
use Rattle.rules.specs.Rounds.{Roomy, Quiet, Recovery}

-- From the side s to the side t: what t has collected and what waits there are, in order, the first packets that s
-- accepted, each once. Of these s has freed the first ones; it holds all the others in order, and its output has
-- not failed. Each frame on its lane has 1 to 276 bytes.
pub record Delivered (s t : Side) : Type 0 where
  pub received : ℕ
  pub freed : ℕ
  pub in_order : t.collected ++ t.port.receiver.waiting ≡ take received s.accepted
  pub none_made_up : received ≤ length s.accepted
  pub none_freed_early : freed ≤ received
  pub none_lost : s.port.sender.held ≡ drop freed s.accepted
  pub not_failed : s.port.sender.output ≢ Failed
  pub frames_sized : (k : ℕ) → k < length s.lane → FrameLength (slice_index_or s.lane k [])

-- The counts of a window are in order, and no two of the held packets have one ackID.
pub record InWindow (n : ℕ) (o : Sender) : Type 0 where
  pub sent_few : o.sent ≤ o.high
  pub high_few : o.high ≤ length o.held
  pub held_few : length o.held ≤ most_held n
  pub first_few : o.first < n

-- From the link i to the link j nothing was accepted, and all is across: neither port holds a packet, and what each
-- has accepted is what the other has collected.
pub record Recovered (i j : Link) : Type 0 where
  pub a_accepts_none : j.a.accepted ≡ i.a.accepted
  pub b_accepts_none : j.b.accepted ≡ i.b.accepted
  pub a_holds_none : j.a.port.sender.held ≡ []
  pub b_holds_none : j.b.port.sender.held ≡ []
  pub b_collects_all : j.b.collected ≡ j.a.accepted
  pub a_collects_all : j.a.collected ≡ j.b.accepted

-- The rounds that carry all that is held across.
abbrev pub enough : Link → ℕ
enough i = length i.a.port.sender.held + length i.b.port.sender.held + 3

module _ (n : ℕ) (w : Wire) (la lb : ℕ) where
  -- There is a recovery of that many rounds; each is a run, its end is reached, and it carries all across.
  pub record Recovers (i : Link) : Type 0 where
    pub possible : (j : Link) × Recovery n w la lb (enough i) i j
    pub runs : (j : Link) → Recovery n w la lb (enough i) i j → Run n w la lb i j
    pub reaches : (j : Link) → Recovery n w la lb (enough i) i j → Reached n w la lb j
    pub recovers : (j : Link) → Recovery n w la lb (enough i) i j → Recovered i j

  -- Packets are delivered in both directions, windows are in order, and a quiet link recovers.
  pub record Delivers (i : Link) : Type 0 where
    pub a_to_b : Delivered i.a i.b
    pub b_to_a : Delivered i.b i.a
    pub a_window : InWindow n i.a.port.sender
    pub b_window : InWindow n i.b.port.sender
    pub recovery : Roomy i.a.port.places la → Roomy i.b.port.places lb → Quiet n w la i.a → Quiet n w lb i.b → Recovers i

-- For any number of ackIDs, from the fewest on, any lawful wire format and any limits of the lanes: every run delivers.
abbrev pub Delivery : ℕ → Type 0
Delivery fewest = (n : ℕ) (w : Wire) (la lb : ℕ) → fewest ≤ n → Lawful n w → (i : Link) → Reached n w la lb i → Delivers n w la lb i
