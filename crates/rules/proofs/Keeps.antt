-- Each call keeps the invariant of both directions, and so does each run.
use Rattle.std.proofs.Common.{◌≡◌, ℕ, ◌+◌, ◌<◌, Bool, true, false, ltb, leb, List, [], ◌∷◌, ◌++◌, map, length, get_or, Some, None, Ok, Option, sym, refl, ap, ◌∙◌, subst, mod-lt, arith}
use native.Mathlib.Nat.{zero-mod}
use Rattle.std.proofs.lemmas.List.{append_assoc}
use Rattle.std.proofs.lemmas.Bool.{ltb-true, leb-false}
use Rattle.refusal.specs.declared.Refusal.TheVariants.{WindowFull, LaneFull, RepliesFull, ShortBuffer}
use Rattle.symbol.specs.declared.codes.Stype0.{Stype0}
use Rattle.symbol.specs.declared.codes.Stype0.TheVariants.{Accepted as SaysAccepted, Retry as SaysRetry, NotAccepted as SaysNotAccepted, Status as SaysStatus, Response as SaysResponse}
use Rattle.symbol.specs.declared.codes.Stype1.{Stype1}
use Rattle.rules.specs.declared.state.Output.{Output}
use Rattle.rules.specs.declared.state.Output.TheVariants.{Running, RetryStopped as OutputRetryStopped, OwingRequest, AwaitingResponse, Failed}
use Rattle.rules.specs.declared.state.Reply.{Reply}
use Rattle.rules.specs.declared.state.Reply.TheVariants.{Accepted, Retry, NotAccepted, Response}
use Rattle.rules.specs.Wire.{Packet, Frame, FrameLength, Seen, Wire, Lawful, SaysNothing, ReadsAsking, seen_reply}
use Rattle.rules.specs.Wire.Seen.{symbol, packet, unsound}
use Rattle.rules.specs.Port.{Places, Port, Sender, Receiver, with_sender, with_receiver, after, most_held}
use Rattle.rules.specs.Hearing.{turned, heard}
use Rattle.rules.specs.Calls.{Departure, refused_if, too_short, holding, submit_sealed, one_more_sent, leaving, due_packet, due_by_output, due_by_replies, due, send_due, receive_first, collect_first, overdue_by, asking}
use Rattle.rules.specs.Link.{Side, Fate, Possible, Call, Link, Run, Reached, put, fresh_side, fresh_link, with_port, with_lane, after_submit, after_send, after_receive, after_collect, called, step}
use Rattle.rules.specs.Link.Fate.{keep, spoil, lose}
use Rattle.rules.specs.Link.Call.{submits, sends, receives, collects, times_out}
use Rattle.rules.specs.declared.state.PortId.{PortId}
use Rattle.rules.specs.declared.state.PortId.TheVariants.{A as port_a, B as port_b}
use Rattle.rules.specs.Link.Run.{none, more}
use Rattle.rules.specs.Link.Reached.{reached}
use Rattle.rules.proofs.Replies.{Silent, Replies, replies_tail}
use Rattle.rules.proofs.Replies.Replies.{end}
use Rattle.rules.proofs.Packets.{NoPacket, Packets}
use Rattle.rules.proofs.Packets.Packets.{end as no_more}
use Rattle.rules.proofs.Direction.{with_back, with_fore, submit, depart, depart_kept, collect}
use Rattle.rules.proofs.Hears.{Alive, Way, Full, under_way, AllFit, said_keeps, arrived_keeps, rejected_keeps, asked_keeps}
use Rattle.rules.proofs.Puts.{AllSized, tail_sized, put_sized, push_read, spoilt_other, put_other, put_silent, put_pending}

asking_silent : (s : Option Stype0) (k q : ℕ) (t : Option Stype1) → SaysNothing s → Silent (symbol s k q t)
asking_silent None k q t h = tt
asking_silent (Some SaysStatus) k q t h = tt
asking_silent (Some SaysAccepted) k q t h = h
asking_silent (Some SaysRetry) k q t h = h
asking_silent (Some SaysNotAccepted) k q t h = tt
asking_silent (Some SaysResponse) k q t h = h

reply_other : (y : Reply) (q : ℕ) (t : Option Stype1) → NoPacket (seen_reply y q t)
reply_other (Accepted k) q t = tt
reply_other (Retry k) q t = tt
reply_other (NotAccepted k c) q t = tt
reply_other (Response k s) q t = tt

-- from the side s to the side t: the direction, with an output that has not failed, and frames of 1 to 276 bytes
pub record Half (n : ℕ) (w : Wire) (accepted collected : List Packet) (o : Sender) (r : Receiver) (frames back : List Frame) : Type 0 where
  pub way : Way n w.seal accepted collected o r (map w.read frames) (under_way w back r.pending)
  pub fits : AllFit n r.pending
  pub alive : Alive o.output
  pub sized : AllSized frames

abbrev pub From : ℕ → Wire → Side → Side → Type 0
From n w s t = Half n w s.accepted t.collected s.port.sender t.port.receiver s.lane t.lane

abbrev pub Both : ℕ → Wire → Side → Side → Type 0
Both n w s t = From n w s t × From n w t s

module _ (n : ℕ) (w : Wire) (lw : Lawful n w) (pos : 0 < n) (s t : Side) (h : Both n w s t) where
  pub submit_keeps : (load : List ℕ) → Both n w (after_submit (submit_sealed n (w.seal load) s.port) s) t
  submit_keeps load = go (w.seal load) refl
    where
      go : (x : Option Packet) → w.seal load ≡ x → Both n w (after_submit (submit_sealed n x s.port) s) t
      go None e = h
      go (Some p) e = held (leb (most_held n) (length s.port.sender.held)) refl
        where
          held : (x : Bool) → leb (most_held n) (length s.port.sender.held) ≡ x
              → Both n w (after_submit (refused_if x WindowFull (Ok (record { packet = p; port = with_sender (holding p s.port.sender) s.port }))) s) t
          held true f = h
          held false f =
              let l = leb-false (most_held n) (length s.port.sender.held) f in
              (record { way = submit h.0.way p (load, e) (omega arith); fits = h.0.fits; alive = h.0.alive; sized = h.0.sized }, h.1)

  pub collect_keeps : (x : Bool) → Both n w (after_collect (refused_if x ShortBuffer (collect_first s.port.receiver.waiting s.port)) s) t
  collect_keeps true = h
  collect_keeps false = go s.port.receiver.waiting refl
    where
      go : (x : List Packet) → s.port.receiver.waiting ≡ x → Both n w (after_collect (collect_first x s.port) s) t
      go [] e = h
      go (q ∷ qs) e =
          let c : (s.collected ++ (q ∷ [])) ++ qs ≡ s.collected ++ s.port.receiver.waiting = append_assoc s.collected (q ∷ []) qs ∙ ap (λ (x : List Packet). s.collected ++ x) (sym e) in
          (h.0, record { way = collect h.1.way (s.collected ++ (q ∷ [])) qs c; fits = h.1.fits; alive = h.1.alive; sized = h.1.sized })

  pub time_out_keeps : Both n w (with_port (with_sender (asking (overdue_by s.port.sender.output s.port.sender.sent) s.port.sender) s.port) s) t
  time_out_keeps = go (overdue_by s.port.sender.output s.port.sender.sent)
    where
      go : (x : Bool) → Both n w (with_port (with_sender (asking x s.port.sender) s.port) s) t
      go true = (record { way = h.0.way; fits = h.0.fits; alive = tt; sized = h.0.sized }, h.1)
      go false = h

  -- a frame goes out, and has this fate -----------------------------------------------------------------------
  module _ (fate : Fate) (ok : Possible w fate) where
    abbrev Left : Frame → Port → Type 0
    Left f p = Both n w (record { port = p; lane = put fate f s.lane; accepted = s.accepted; collected = s.collected }) t

    expected_fits : s.port.receiver.expected < n
    expected_fits = let a = mod-lt h.1.way.m pos in let b = h.1.way.expected_is in omega arith

    -- a restart or a request, and the output turns to x
    asking_left : (f : Frame) (a : Stype1) (x : Output) → Alive x → ReadsAsking a (w.read f) → FrameLength f → Left f (with_sender (turned x s.port.sender) s.port)
    asking_left f a x al z fl =
        let other : NoPacket (w.read f) = subst NoPacket (sym z.is) tt in
        let quiet : Silent (w.read f) = subst Silent (sym z.is) (asking_silent z.says z.parameter0 z.parameter1 (Some a) z.says_nothing) in (
          record { way = with_fore h.0.way _ (put_other w fate s.lane f ok other h.0.way.packets); fits = h.0.fits; alive = al; sized = put_sized w fate s.lane f ok fl h.0.sized },
          record { way = with_back h.1.way _ (put_silent w fate s.lane f (map w.reply s.port.receiver.pending) ok quiet h.1.way.replies); fits = h.1.fits; alive = h.1.alive; sized = h.1.sized },
        )

    reply_left : (y : Reply) (ys : List Reply) → s.port.receiver.pending ≡ y ∷ ys → Left (w.reply y) (with_receiver (leaving ys s.port.receiver) s.port)
    reply_left y ys e =
        let f = w.reply y in
        let fits : AllFit n (y ∷ ys) = subst (AllFit n) e h.1.fits in
        let z = lw.reads_reply y fits.0 in
        let other : NoPacket (w.read f) = subst NoPacket (sym z.is) (reply_other y z.spare z.second) in
        let m = h.1.way.m in
        let r = h.1.way.r in
        let c : Replies n m r (under_way w s.lane (y ∷ ys)) = subst (λ (x : List Reply). Replies n m r (under_way w s.lane x)) e h.1.way.replies in (
          record { way = with_fore h.0.way _ (put_other w fate s.lane f ok other h.0.way.packets); fits = h.0.fits; alive = h.0.alive; sized = put_sized w fate s.lane f ok (lw.reply_length y fits.0) h.0.sized },
          record { way = with_back h.1.way _ (put_pending w fate s.lane f (map w.reply ys) ok c); fits = fits.1; alive = h.1.alive; sized = h.1.sized },
        )

    -- the packet at place sent
    abbrev number : ℕ
    number = after n s.port.sender.first s.port.sender.sent

    abbrev which : Packet
    which = get_or s.port.sender.held s.port.sender.sent []

    packet_fore : (x : Fate) → Possible w x → (f : Frame) → w.read f ≡ packet number which → s.port.sender.sent < length s.port.sender.held
        → Way n w.seal s.accepted t.collected (one_more_sent s.port.sender) t.port.receiver (map w.read (put x f s.lane)) (under_way w t.lane t.port.receiver.pending)
    packet_fore keep k f e lt =
        let z = depart_kept h.0.way lt in
        let p = ap (λ (y : Seen). map w.read s.lane ++ (y ∷ [])) (sym e) ∙ sym (push_read w s.lane f) in
        with_fore z _ (subst (Packets n s.accepted (z.r + (one_more_sent s.port.sender).high) z.m) p z.packets)
    packet_fore (spoil u) k f e lt =
        let z = depart h.0.way lt in
        with_fore z _ (put_other w (spoil u) s.lane u k (spoilt_other w u k.1) z.packets)
    packet_fore lose k f e lt = depart h.0.way lt

    packet_left : s.port.sender.sent < length s.port.sender.held → Left (w.stamp number which) (with_sender (one_more_sent s.port.sender) s.port)
    packet_left lt =
        let f = w.stamp number which in
        let small : number < n = mod-lt (s.port.sender.first + s.port.sender.sent) pos in
        let sl = h.0.way.all_sealed s.port.sender.sent lt in
        let e : w.read f ≡ packet number which = lw.reads_stamp number sl.0 which small sl.1 in
        let quiet : Silent (w.read f) = subst Silent (sym e) tt in (
          record { way = packet_fore fate ok f e lt; fits = h.0.fits; alive = tt; sized = put_sized w fate s.lane f ok (lw.stamp_length number sl.0 which small sl.1) h.0.sized },
          record { way = with_back h.1.way _ (put_silent w fate s.lane f (map w.reply s.port.receiver.pending) ok quiet h.1.way.replies); fits = h.1.fits; alive = h.1.alive; sized = h.1.sized },
        )

    -- whatever is due
    abbrev DueLeft : Option Departure → Type 0
    DueLeft None = Unit {0}
    DueLeft (Some d) = Left d.frame d.port

    packet_due : (x : Bool) → ltb s.port.sender.sent (length s.port.sender.held) ≡ x → DueLeft (due_packet n w x s.port)
    packet_due true e = packet_left (ltb-true s.port.sender.sent (length s.port.sender.held) e)
    packet_due false e = tt

    output_due : (x : Output) → DueLeft (due_by_output n w x s.port)
    output_due Running = packet_due (ltb s.port.sender.sent (length s.port.sender.held)) refl
    output_due OutputRetryStopped = let k = s.port.receiver.expected in asking_left (w.restart k) _ Running tt (lw.reads_restart k expected_fits) (lw.restart_length k expected_fits)
    output_due OwingRequest = let k = s.port.receiver.expected in asking_left (w.request k) _ AwaitingResponse tt (lw.reads_request k expected_fits) (lw.request_length k expected_fits)
    output_due AwaitingResponse = tt
    output_due Failed = tt

    replies_due : (x : List Reply) → s.port.receiver.pending ≡ x → DueLeft (due_by_replies n w x s.port)
    replies_due [] e = output_due s.port.sender.output
    replies_due (y ∷ ys) e = reply_left y ys e

    pub send_keeps : (x : Bool) (limit : ℕ) → Both n w (after_send fate (refused_if x ShortBuffer (send_due limit s.lane (due n w s.port))) s) t
    send_keeps true limit = h
    send_keeps false limit = go (due n w s.port) (replies_due s.port.receiver.pending refl)
      where
        go : (x : Option Departure) → DueLeft x → Both n w (after_send fate (send_due limit s.lane x) s) t
        go None k = h
        go (Some d) k = full (leb limit (length s.lane))
          where
            full : (x : Bool) → Both n w (after_send fate (refused_if x LaneFull (Ok d)) s) t
            full true = h
            full false = k

-- a frame is received -----------------------------------------------------------------------------------------

module _ (n : ℕ) (w : Wire) (lw : Lawful n w) (pos : 0 < n) (s t : Side) where
  -- what the front of a lane was read as, before it is taken
  abbrev Heads : Seen → List Frame → Type 0
  Heads x v =
      Way n w.seal s.accepted t.collected s.port.sender t.port.receiver (map w.read s.lane) (x ∷ under_way w v t.port.receiver.pending)
      × Full n w t.accepted s.collected t.port.sender s.port.receiver (x ∷ map w.read v) s.lane

  hear_keeps : (x : Seen) (v : List Frame) → Heads x v → AllFit n t.port.receiver.pending → Alive s.port.sender.output → Alive t.port.sender.output → AllSized s.lane → AllSized v
      → Both n w (with_port (heard n x s.port) s) (with_lane v t)
  hear_keeps (symbol says k q asks) v d ft al bl sz vz =
      let y = said_keeps n w.seal pos s.accepted t.collected s.port.sender t.port.receiver (map w.read s.lane) s.port.sender.output says k q asks _ refl al d.0 in
      let z = asked_keeps n w lw pos t.accepted s.collected t.port.sender s.port.receiver s.lane s.port.receiver.input says k q asks (map w.read v) d.1 in
      (record { way = y.0; fits = ft; alive = y.1; sized = sz }, record { way = z.0; fits = z.1; alive = bl; sized = vz })
  hear_keeps (packet k p) v d ft al bl sz vz =
      let z = arrived_keeps n w lw pos t.accepted s.collected t.port.sender s.port.receiver s.lane s.port.places s.port.receiver.input k p (map w.read v) d.1 in
      (record { way = with_back d.0 _ (replies_tail d.0.replies); fits = ft; alive = al; sized = sz }, record { way = z.0; fits = z.1; alive = bl; sized = vz })
  hear_keeps (unsound c) v d ft al bl sz vz =
      let z = rejected_keeps n w lw pos t.accepted s.collected t.port.sender s.port.receiver s.lane s.port.receiver.input c (map w.read v) d.1 in
      (record { way = with_back d.0 _ (replies_tail d.0.replies); fits = ft; alive = al; sized = sz }, record { way = z.0; fits = z.1; alive = bl; sized = vz })

  pub front_keeps : (f : Frame) (v : List Frame) → Both n w s (with_lane (f ∷ v) t) → Both n w (with_port (heard n (w.read f) s.port) s) (with_lane v t)
  front_keeps f v h = hear_keeps (w.read f) v (h.0.way, (h.1.way, h.1.fits)) h.0.fits h.0.alive h.1.alive h.0.sized (tail_sized f v h.1.sized)

  receive_keeps : (x y : Bool) → Both n w s t → let z = after_receive (refused_if x ShortBuffer (refused_if y RepliesFull (receive_first n w t.lane s.port))) s t.lane in Both n w z.0 (with_lane z.1 t)
  receive_keeps true y h = h
  receive_keeps false true h = h
  receive_keeps false false h = go t.lane h
    where
      go : (v : List Frame) → Both n w s (with_lane v t) → let z = after_receive (receive_first n w v s.port) s v in Both n w z.0 (with_lane z.1 t)
      go [] h = h
      go (f ∷ v) h = front_keeps f v h

  -- any call at s
  pub called_keeps : (limit : ℕ) (call : Call) (fate : Fate) → Possible w fate → Both n w s t → let z = called n w limit call fate s t.lane in Both n w z.0 (with_lane z.1 t)
  called_keeps limit (submits load) fate ok h = submit_keeps n w lw pos s t h load
  called_keeps limit (sends buffer) fate ok h = send_keeps n w lw pos s t h fate ok (too_short buffer) limit
  called_keeps limit (receives buffer) fate ok h = receive_keeps (too_short buffer) (leb s.port.places.replies (length s.port.receiver.pending)) h
  called_keeps limit (collects buffer) fate ok h = collect_keeps n w lw pos s t h (too_short buffer)
  called_keeps limit times_out fate ok h = time_out_keeps n w lw pos s t h

module _ (n : ℕ) (w : Wire) (lw : Lawful n w) (pos : 0 < n) where
  fresh_from : (ps pt : Places) → From n w (fresh_side ps) (fresh_side pt)
  fresh_from ps pt =
      record {
        way = record {
          r = 0;
          m = 0;
          counts = omega arith;
          held_is = refl;
          received_is = refl;
          all_sealed = λ i l. absurd (omega arith);
          first_is = sym (zero-mod n);
          expected_is = sym (zero-mod n);
          packets = no_more (omega arith);
          replies = end (omega arith);
        };
        fits = tt;
        alive = tt;
        sized = λ k l. absurd (omega arith);
      }

  pub step_keeps : (la lb : ℕ) (x : PortId) (call : Call) (fate : Fate) (i : Link) → Possible w fate → Both n w i.a i.b → let j = step n w la lb x call fate i in Both n w j.a j.b
  step_keeps la lb port_a call fate i ok h = called_keeps n w lw pos i.a i.b la call fate ok h
  step_keeps la lb port_b call fate i ok h = let z = called_keeps n w lw pos i.b i.a lb call fate ok (h.1, h.0) in (z.1, z.0)

  pub run_keeps : (la lb : ℕ) (i j : Link) → Run n w la lb i j → Both n w i.a i.b → Both n w j.a j.b
  run_keeps la lb i _ none h = h
  run_keeps la lb i _ (more j x call fate ok r) h = step_keeps la lb x call fate j ok (run_keeps la lb i j r h)

  pub reached_keeps : (la lb : ℕ) (i : Link) → Reached n w la lb i → Both n w i.a i.b
  reached_keeps la lb _ (reached pa pb i r) = run_keeps la lb (fresh_link pa pb) i r (fresh_from pa pb, fresh_from pb pa)
