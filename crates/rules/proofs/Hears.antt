-- What a frame that is heard leaves of the invariant.
use Rattle.std.proofs.Common.{◌≡◌, ℕ, ◌+◌, ◌-◌, ◌%◌, ◌<◌, ◌≤◌, Bool, true, false, eqb, ltb, ◌≢◌, List, [], ◌∷◌, ◌++◌, map, Some, None, Option, sym, refl, ap, ◌∙◌, subst, mod-lt, arith}
use Rattle.std.proofs.lemmas.List.{append_assoc, map-append}
use Rattle.std.proofs.lemmas.Bool.{and_parts, ltb-true, eqb-true}
use Rattle.symbol.specs.declared.codes.Stype0.{Stype0}
use Rattle.symbol.specs.declared.codes.Stype0.TheVariants.{Accepted as SaysAccepted, Retry as SaysRetry, NotAccepted as SaysNotAccepted, Status as SaysStatus, Response as SaysResponse}
use Rattle.symbol.specs.declared.codes.Stype1.{Stype1}
use Rattle.symbol.specs.declared.codes.Stype1.TheVariants.{Restart as AsksRestart, Request as AsksRequest, Nop as AsksNop}
use Rattle.symbol.specs.declared.codes.Cause.{Cause}
use Rattle.symbol.specs.declared.codes.Cause.TheVariants.{UnexpectedAckId, SymbolCheck, PacketCheck, InvalidCharacter}
use Rattle.symbol.specs.Codes.{status_of}
use Rattle.rules.specs.declared.state.Input.{Input}
use Rattle.rules.specs.declared.state.Input.TheVariants.{Ready, RetryStopped as InputRetryStopped, ErrorStopped}
use Rattle.rules.specs.declared.state.Output.{Output}
use Rattle.rules.specs.declared.state.Output.TheVariants.{Running, RetryStopped as OutputRetryStopped, OwingRequest, AwaitingResponse, Failed}
use Rattle.rules.specs.declared.state.Reply.{Reply}
use Rattle.rules.specs.declared.state.Reply.TheVariants.{Accepted, Retry, NotAccepted, Response}
use Rattle.rules.specs.Wire.{Packet, Frame, Seen, Wire, Lawful, ack_id_of}
use Rattle.rules.specs.Wire.Seen.{symbol, packet, unsound}
use Rattle.rules.specs.Port.{Sender, Receiver, Places, after, distance, has_slot}
use Rattle.rules.specs.Hearing.{means_first, acknowledged, rewound, beyond, responded, response, said, pended, status_for, asked, is_expected, taken, arrived, rejected}
use Rattle.rules.proofs.Numbers.{same_rest, distance_is}
use Rattle.rules.proofs.Replies.{Carries, Silent, Replies, replies_le, replies_tail, replies_push, replies_push_silent, accepted_front, response_front}
use Rattle.rules.proofs.Replies.Carries.{c_accepted, c_retry, c_response}
use Rattle.rules.proofs.Packets.{packets_tail}
use Rattle.rules.proofs.Direction.{Direction, with_back, with_fore, rewind, free, arrive}

abbrev pub Alive : Output → Type 0
Alive Running = Unit {0}
Alive OutputRetryStopped = Unit {0}
Alive OwingRequest = Unit {0}
Alive AwaitingResponse = Unit {0}
Alive Failed = ⊥

-- the direction from the sender o to the receiver r
abbrev pub Way : (n : ℕ) (seal : List ℕ → Option Packet) (accepted collected : List Packet) → Sender → Receiver → List Seen → List Seen → Type 0
Way n seal accepted collected o r fore back = Direction n seal accepted collected o.held r.waiting o.first o.sent o.high r.expected fore back

-- what is under way to a sender: the frames on the lane, and then the pending replies
abbrev pub under_way : Wire → List Frame → List Reply → List Seen
under_way w frames pending = map w.read (frames ++ map w.reply pending)

-- the sender hears the first half of a symbol ----------------------------------------------------------------

module _ (n : ℕ) (seal : List ℕ → Option Packet) (pos : 0 < n) (accepted collected : List Packet) (o : Sender) (r : Receiver) (fore : List Seen) where
  Kept : Sender → List Seen → Type 0
  Kept o' b = Way n seal accepted collected o' r fore b × Alive o'.output

  hears_accepted : (k q : ℕ) (t : Option Stype1) (b : List Seen) → Way n seal accepted collected o r fore (symbol (Some SaysAccepted) k q t ∷ b) → Kept (acknowledged n (means_first k o) o) b
  unfolding Kept
  hears_accepted k q t b d = go (means_first k o) refl
    where
      go : (x : Bool) → means_first k o ≡ x → Kept (acknowledged n x o) b
      go true e =
          let q = d.counts in
          let ps = and_parts (ltb 0 o.sent) (eqb k o.first) e in
          let a = ltb-true 0 o.sent ps.0 in
          let f = eqb-true k o.first ps.1 in
          let c = accepted_front d.replies in
          let l = replies_le c.3 in
          let l2 = c.2 in
          let j : d.r ≡ c.0 = same_rest n d.r c.0 pos (sym d.first_is ∙ sym f ∙ c.1) l2 (omega arith) in
          (free d 1 (o.sent - 1) b (omega arith) (omega arith) (subst (λ (x : ℕ). Replies n d.m (x + 1) b) (sym j) c.3), tt)
      go false e = (with_back d b (replies_tail d.replies), tt)

  hears_retry : (k q : ℕ) (t : Option Stype1) (b : List Seen) → Way n seal accepted collected o r fore (symbol (Some SaysRetry) k q t ∷ b) → Kept (rewound (means_first k o) o) b
  unfolding Kept
  hears_retry k q t b d = go (means_first k o)
    where
      go : (x : Bool) → Kept (rewound x o) b
      go true = (rewind (with_back d b (replies_tail d.replies)), tt)
      go false = (with_back d b (replies_tail d.replies), tt)

  hears_response : (k q : ℕ) (t : Option Stype1) (b : List Seen) → Way n seal accepted collected o r fore (symbol (Some SaysResponse) k q t ∷ b) → Kept (response n k q o) b
  unfolding Kept
  hears_response k q t b d = go (eqb q 2) (beyond far o) refl refl
    where
      far : ℕ
      far = distance n k o.first

      go : (x y : Bool) → eqb q 2 ≡ x → beyond far o ≡ y → Kept (responded n x y far o) b
      go x y ex ey =
          let z = d.counts in
          let c = response_front d.replies in
          let l = replies_le c.4 in
          let l2 = c.2 in
          let fe : far ≡ c.0 - d.r = ap (λ (x : ℕ). distance n x o.first) c.1 ∙ ap (distance n (c.0 % n)) d.first_is ∙ distance_is n c.0 d.r pos l2 (omega arith) in
          let le : far ≤ o.high = omega arith in
          let je : c.0 ≡ d.r + far = omega arith in
          last x y ex ey c.3 le (subst (λ (x : ℕ). Replies n d.m x b) je c.4)
        where
          last : (x y : Bool) → eqb q 2 ≡ x → beyond far o ≡ y → q ≢ 2 → far ≤ o.high → Replies n d.m (d.r + far) b → Kept (responded n x y far o) b
          last true y ex ey l3 le ch = absurd (l3 (eqb-true q 2 ex))
          last false true ex ey l3 le ch = let z = ltb-true _ _ ey in absurd (omega arith)
          last false false ex ey l3 le ch = (free d far 0 b le (omega arith) ch, tt)

  pub said_keeps : (x : Output) (s : Option Stype0) (k q : ℕ) (t : Option Stype1) (b : List Seen) → o.output ≡ x → Alive o.output → Way n seal accepted collected o r fore (symbol s k q t ∷ b)
      → Way n seal accepted collected (said n x s k q o) r fore b × Alive (said n x s k q o).output
  unfolding Kept
  said_keeps x None k q t b e al d = (with_back d b (replies_tail d.replies), al)
  said_keeps x (Some SaysStatus) k q t b e al d = (with_back d b (replies_tail d.replies), al)
  said_keeps Running (Some SaysAccepted) k q t b e al d = hears_accepted k q t b d
  said_keeps Running (Some SaysRetry) k q t b e al d = hears_retry k q t b d
  said_keeps Running (Some SaysNotAccepted) k q t b e al d = (with_back d b (replies_tail d.replies), tt)
  said_keeps Running (Some SaysResponse) k q t b e al d = (with_back d b (replies_tail d.replies), tt)
  said_keeps OutputRetryStopped (Some SaysAccepted) k q t b e al d = (with_back d b (replies_tail d.replies), tt)
  said_keeps OutputRetryStopped (Some SaysRetry) k q t b e al d = (with_back d b (replies_tail d.replies), tt)
  said_keeps OutputRetryStopped (Some SaysNotAccepted) k q t b e al d = (with_back d b (replies_tail d.replies), tt)
  said_keeps OutputRetryStopped (Some SaysResponse) k q t b e al d = (with_back d b (replies_tail d.replies), tt)
  said_keeps OwingRequest (Some SaysAccepted) k q t b e al d = (with_back d b (replies_tail d.replies), al)
  said_keeps OwingRequest (Some SaysRetry) k q t b e al d = (with_back d b (replies_tail d.replies), al)
  said_keeps OwingRequest (Some SaysNotAccepted) k q t b e al d = (with_back d b (replies_tail d.replies), al)
  said_keeps OwingRequest (Some SaysResponse) k q t b e al d = (with_back d b (replies_tail d.replies), al)
  said_keeps AwaitingResponse (Some SaysAccepted) k q t b e al d = (with_back d b (replies_tail d.replies), al)
  said_keeps AwaitingResponse (Some SaysRetry) k q t b e al d = (with_back d b (replies_tail d.replies), al)
  said_keeps AwaitingResponse (Some SaysNotAccepted) k q t b e al d = (with_back d b (replies_tail d.replies), al)
  said_keeps AwaitingResponse (Some SaysResponse) k q t b e al d = hears_response k q t b d
  said_keeps Failed (Some SaysAccepted) k q t b e al d = absurd (subst Alive e al)
  said_keeps Failed (Some SaysRetry) k q t b e al d = absurd (subst Alive e al)
  said_keeps Failed (Some SaysNotAccepted) k q t b e al d = absurd (subst Alive e al)
  said_keeps Failed (Some SaysResponse) k q t b e al d = absurd (subst Alive e al)

-- the receiver hears a frame ---------------------------------------------------------------------------------

-- one more reply is pended
pub push_pending : (w : Wire) (frames : List Frame) (ys : List Reply) (y : Reply) → under_way w frames ys ++ (w.read (w.reply y) ∷ []) ≡ under_way w frames (ys ++ (y ∷ []))
push_pending w frames ys y =
    sym (map-append w.read (frames ++ map w.reply ys) (w.reply y ∷ []))
    ∙ ap (map w.read) (append_assoc frames (map w.reply ys) (w.reply y ∷ []) ∙ ap (λ (x : List Frame). frames ++ x) (sym (map-append w.reply ys (y ∷ []))))

-- a response never says that the port has failed
pub never_failed : (x : Input) → status_of (status_for x) ≢ 2
never_failed Ready e = omega arith
never_failed InputRetryStopped e = omega arith
never_failed ErrorStopped e = omega arith

-- every pending reply carries an ackID
abbrev pub AllFit : ℕ → List Reply → Type 0
AllFit n [] = Unit {0}
AllFit n (y ∷ ys) = (ack_id_of y < n) × AllFit n ys

fit_push : (n : ℕ) (ys : List Reply) (y : Reply) → AllFit n ys → ack_id_of y < n → AllFit n (ys ++ (y ∷ []))
fit_push n [] y f l = (l, tt)
fit_push n (z ∷ ys) y f l = (f.0, fit_push n ys y f.1 l)

-- the direction from o to r, where r writes the frames
abbrev pub Full : (n : ℕ) (w : Wire) (accepted collected : List Packet) → Sender → Receiver → List Seen → List Frame → Type 0
Full n w accepted collected o r fore frames = Way n w.seal accepted collected o r fore (under_way w frames r.pending) × AllFit n r.pending

module _ (n : ℕ) (w : Wire) (lw : Lawful n w) (pos : 0 < n) (accepted collected : List Packet) (o : Sender) (r : Receiver) (frames : List Frame) where
  -- a reply is pended, and the input turns to x
  pend : (f : List Seen) (x : Input) (y : Reply) (d : Full n w accepted collected o r f frames) → ack_id_of y < n
      → Replies n d.0.m d.0.r (under_way w frames r.pending ++ (w.read (w.reply y) ∷ []))
      → Full n w accepted collected o (pended x y r) f frames
  pend f x y d l c = (with_back d.0 _ (subst (Replies n d.0.m d.0.r) (push_pending w frames r.pending y) c), fit_push n r.pending y d.1 l)

  expected_fits : (f : List Seen) → Full n w accepted collected o r f frames → r.expected < n
  expected_fits f d = let l = mod-lt d.0.m pos in let e = d.0.expected_is in omega arith

  pend_refused : (f : List Seen) (x : Input) (c : Cause) → Full n w accepted collected o r f frames → Full n w accepted collected o (pended x (NotAccepted r.expected c) r) f frames
  pend_refused f x c d =
      let y = NotAccepted r.expected c in
      let l = expected_fits f d in
      let z = lw.reads_reply y l in
      pend f x y d l (replies_push_silent (w.read (w.reply y)) d.0.replies (subst Silent (sym z.is) tt))

  pend_retry : (f : List Seen) (x : Input) → Full n w accepted collected o r f frames → Full n w accepted collected o (pended x (Retry r.expected) r) f frames
  pend_retry f x d =
      let y = Retry r.expected in
      let m = d.0.m in
      let l = expected_fits f d in
      let z = lw.reads_reply y l in
      let e : w.read (w.reply y) ≡ symbol (Some SaysRetry) (m % n) z.spare z.second = z.is ∙ ap (λ (k : ℕ). symbol (Some SaysRetry) k z.spare z.second) d.0.expected_is in
      pend f x y d l (replies_push d.0.replies (omega arith) (subst (λ (s : Seen). Carries n s m m) (sym e) (c_retry m z.spare z.second)) (omega arith))

  pend_response : (f : List Seen) (x x' : Input) → Full n w accepted collected o r f frames → Full n w accepted collected o (pended x (Response r.expected (status_for x')) r) f frames
  pend_response f x x' d =
      let y = Response r.expected (status_for x') in
      let q = status_of (status_for x') in
      let m = d.0.m in
      let l = expected_fits f d in
      let z = lw.reads_reply y l in
      let e : w.read (w.reply y) ≡ symbol (Some SaysResponse) (m % n) q z.second = z.is ∙ ap (λ (k : ℕ). symbol (Some SaysResponse) k q z.second) d.0.expected_is in
      pend f x y d l (replies_push d.0.replies (omega arith) (subst (λ (s : Seen). Carries n s m m) (sym e) (c_response m q z.second (never_failed x'))) (omega arith))

  past_front : (x : Seen) (f : List Seen) → Full n w accepted collected o r (x ∷ f) frames → Full n w accepted collected o r f frames
  past_front x f d = (with_fore d.0 f (packets_tail d.0.packets), d.1)

  take_packet : (k : ℕ) (p : Packet) (f : List Seen) → k ≡ r.expected → Full n w accepted collected o r (packet k p ∷ f) frames → Full n w accepted collected o (taken n true true k p r) f frames
  take_packet k p f ke d =
      let y = Accepted k in
      let m = d.0.m in
      let l : k < n = subst (λ (x : ℕ). x < n) (sym ke) (expected_fits (packet k p ∷ f) d) in
      let z = lw.reads_reply y l in
      let e : w.read (w.reply y) ≡ symbol (Some SaysAccepted) (m % n) z.spare z.second = z.is ∙ ap (λ (x : ℕ). symbol (Some SaysAccepted) x z.spare z.second) (ke ∙ d.0.expected_is) in
      let a = arrive d.0 k p f (w.read (w.reply y)) refl pos ke (subst (λ (s : Seen). Carries n s m (m + 1)) (sym e) (c_accepted m z.spare z.second)) in (
        subst (Direction n w.seal accepted collected o.held (r.waiting ++ (p ∷ [])) o.first o.sent o.high (after n r.expected 1) f) (push_pending w frames r.pending y) a,
        fit_push n r.pending y d.1 l,
      )

  hears_packet : (slot : Bool) (k : ℕ) (p : Packet) (f : List Seen) → Full n w accepted collected o r (packet k p ∷ f) frames → Full n w accepted collected o (taken n (is_expected k r) slot k p r) f frames
  hears_packet slot k p f d = go (is_expected k r) slot refl
    where
      go : (x y : Bool) → is_expected k r ≡ x → Full n w accepted collected o (taken n x y k p r) f frames
      go false y e = pend_refused f ErrorStopped UnexpectedAckId (past_front (packet k p) f d)
      go true false e = pend_retry f InputRetryStopped (past_front (packet k p) f d)
      go true true e = take_packet k p f (eqb-true _ _ e) d

  pub arrived_keeps : (places : Places) (x : Input) (k : ℕ) (p : Packet) (f : List Seen) → Full n w accepted collected o r (packet k p ∷ f) frames → Full n w accepted collected o (arrived n places x k p r) f frames
  arrived_keeps places Ready k p f d = hears_packet (has_slot places r.waiting) k p f d
  arrived_keeps places InputRetryStopped k p f d = past_front (packet k p) f d
  arrived_keeps places ErrorStopped k p f d = past_front (packet k p) f d

  pub rejected_keeps : (x : Input) (c : Cause) (f : List Seen) → Full n w accepted collected o r (unsound c ∷ f) frames → Full n w accepted collected o (rejected x c r) f frames
  rejected_keeps Ready c f d = pend_refused f ErrorStopped c (past_front (unsound c) f d)
  rejected_keeps InputRetryStopped SymbolCheck f d = pend_refused f ErrorStopped SymbolCheck (past_front (unsound SymbolCheck) f d)
  rejected_keeps InputRetryStopped InvalidCharacter f d = pend_refused f ErrorStopped InvalidCharacter (past_front (unsound InvalidCharacter) f d)
  rejected_keeps InputRetryStopped UnexpectedAckId f d = past_front (unsound UnexpectedAckId) f d
  rejected_keeps InputRetryStopped PacketCheck f d = past_front (unsound PacketCheck) f d
  rejected_keeps ErrorStopped c f d = past_front (unsound c) f d

  pub asked_keeps : (x : Input) (s : Option Stype0) (k q : ℕ) (t : Option Stype1) (f : List Seen) → Full n w accepted collected o r (symbol s k q t ∷ f) frames → Full n w accepted collected o (asked x t r) f frames
  asked_keeps x s k q None f d = past_front (symbol s k q None) f d
  asked_keeps x s k q (Some AsksNop) f d = past_front (symbol s k q (Some AsksNop)) f d
  asked_keeps x s k q (Some AsksRequest) f d = pend_response f Ready x (past_front (symbol s k q (Some AsksRequest)) f d)
  asked_keeps Ready s k q (Some AsksRestart) f d = past_front (symbol s k q (Some AsksRestart)) f d
  asked_keeps InputRetryStopped s k q (Some AsksRestart) f d = past_front (symbol s k q (Some AsksRestart)) f d
  asked_keeps ErrorStopped s k q (Some AsksRestart) f d = past_front (symbol s k q (Some AsksRestart)) f d
