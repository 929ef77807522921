-- The moves of a recovery, each half a round: idle, ask, answer, give a packet, acknowledge it.
use Rattle.std.proofs.Common.{◌≡◌, ℕ, ◌+◌, ◌-◌, ◌%◌, ◌<◌, ◌≤◌, min, max, Bool, true, false, eqb, ltb, ◌≢◌, List, [], ◌∷◌, ◌++◌, length, get_or, Some, None, Option, sym, refl, ap, ◌∙◌, mod-lt, arith}
use native.Mathlib.Nat.{mod-add-mod}
use Rattle.std.proofs.lemmas.Bool.{lt-ltb, le-ltb, eq-eqb, ne_eqb, and_from}
use Rattle.symbol.specs.declared.codes.Stype0.{Stype0}
use Rattle.symbol.specs.declared.codes.Stype0.TheVariants.{Accepted as SaysAccepted, Retry as SaysRetry, NotAccepted as SaysNotAccepted, Status as SaysStatus, Response as SaysResponse}
use Rattle.symbol.specs.declared.codes.Stype1.{Stype1}
use Rattle.symbol.specs.declared.codes.Stype1.TheVariants.{Restart as AsksRestart, Request as AsksRequest, Nop as AsksNop}
use Rattle.symbol.specs.declared.codes.PortStatus.{PortStatus}
use Rattle.symbol.specs.Codes.{status_of}
use Rattle.rules.specs.declared.state.Input.{Input}
use Rattle.rules.specs.declared.state.Input.TheVariants.{Ready}
use Rattle.rules.specs.declared.state.Output.{Output}
use Rattle.rules.specs.declared.state.Output.TheVariants.{Running, OwingRequest, AwaitingResponse}
use Rattle.rules.specs.declared.state.Reply.{Reply}
use Rattle.rules.specs.declared.state.Reply.TheVariants.{Accepted, Response}
use Rattle.rules.specs.declared.state.Sent.TheVariants.{Reply as SentReply, Request as SentRequest, Packet as SentPacket}
use Rattle.rules.specs.Wire.{Packet, Wire, Lawful, SaysNothing, AsksNothing}
use Rattle.rules.specs.Wire.Seen.{symbol, packet}
use Rattle.rules.specs.Port.{Sender, Receiver, Port, with_sender, with_receiver, after, distance, has_slot}
use Rattle.rules.specs.Hearing.{turned, freed, acknowledged, responded, said, pended, status_for, asked, taken, arrived, heard}
use Rattle.rules.specs.Calls.{Departure, due_packet, due_by_output, due_by_replies, due, leaving}
use Rattle.rules.specs.Link.{Side}
use Rattle.rules.specs.Rounds.{Roomy}
use Rattle.rules.proofs.Numbers.{distance_is}
use Rattle.rules.proofs.Keeps.{Both}
use Rattle.rules.proofs.Half.{emptied, sender, hearer, half, half_nothing, half_puts}

said_nothing : (n : ℕ) (x : Output) (s : Option Stype0) (k q : ℕ) (o : Sender) → SaysNothing s → said n x s k q o ≡ o
said_nothing n x None k q o h = refl
said_nothing n x (Some SaysStatus) k q o h = refl
said_nothing n x (Some SaysAccepted) k q o h = absurd h
said_nothing n x (Some SaysRetry) k q o h = absurd h
said_nothing n x (Some SaysNotAccepted) k q o h = absurd h
said_nothing n x (Some SaysResponse) k q o h = absurd h

asked_nothing : (x : Input) (t : Option Stype1) (r : Receiver) → AsksNothing t → asked x t r ≡ r
asked_nothing x None r h = refl
asked_nothing x (Some AsksNop) r h = refl
asked_nothing x (Some AsksRequest) r h = absurd h
asked_nothing x (Some AsksRestart) r h = absurd h

-- what a symbol that asks nothing makes of a port
heard_reply : (n : ℕ) (s : Option Stype0) (k q : ℕ) (t : Option Stype1) (p : Port) (o : Sender) → AsksNothing t → said n p.sender.output s k q p.sender ≡ o → heard n (symbol s k q t) p ≡ with_sender o p
heard_reply n s k q t p o h e =
    ap (λ (x : Receiver). record { sender = said n p.sender.output s k q p.sender; receiver = x; places = p.places }) (asked_nothing p.receiver.input t p.receiver h)
    ∙ ap (λ (x : Sender). with_sender x p) e

-- all pending replies have gone out
abbrev pub relieved : Port → Port
relieved p = with_receiver (leaving [] p.receiver) p

-- one packet has gone out
abbrev pub gave : Port → Port
gave p = with_sender (record { held = p.sender.held; first = p.sender.first; sent = 1; high = max p.sender.high 1; output = Running }) p

-- a packet x with ackID k has come, and its accepted is pending
abbrev pub got : ℕ → ℕ → Packet → Port → Port
got n k x p = with_receiver (record { input = Ready; expected = after n p.receiver.expected 1; pending = Accepted k ∷ []; waiting = x ∷ [] }) p

module _ (n : ℕ) (w : Wire) (lw : Lawful n w) (pos : 0 < n) (limit other : ℕ) (s t : Side) (es : 0 < limit) (et : Roomy t.port.places other) (h : Both n w s t) where
  -- what is due goes out as the frame of d
  no_reply : s.port.receiver.pending ≡ [] → (x : Output) → s.port.sender.output ≡ x → due n w s.port ≡ due_by_output n w x s.port
  no_reply sp x sr = ap (λ (y : List Reply). due_by_replies n w y s.port) sp ∙ ap (λ (y : Output). due_by_output n w y s.port) sr

  pub half_idle : s.lane ≡ [] → s.port.receiver.pending ≡ [] → s.port.sender.output ≡ Running → s.port.sender.held ≡ [] → half n w limit s t ≡ (s, emptied t)
  half_idle sl sp sr sh =
      let p = s.port in
      let e : due n w p ≡ None =
      no_reply sp Running sr
      ∙ ap (λ (x : Bool). due_packet n w x p) (ap (λ (x : List Packet). ltb p.sender.sent (length x)) sh ∙ le-ltb p.sender.sent 0 (omega arith)) in
      half_nothing n w limit s t sl e

  pub half_ask : s.lane ≡ [] → s.port.receiver.pending ≡ [] → s.port.sender.output ≡ OwingRequest → t.port.receiver.pending ≡ []
      → half n w limit s t
      ≡ (
        sender (with_sender (turned AwaitingResponse s.port.sender) s.port) s,
        hearer (with_receiver (pended Ready (Response t.port.receiver.expected (status_for t.port.receiver.input)) t.port.receiver) t.port) t,
      )
  half_ask sl sp sr tp =
      let p = s.port in
      let k = p.receiver.expected in
      let small : k < n = let a = mod-lt h.1.way.m pos in let b = h.1.way.expected_is in omega arith in
      let z = lw.reads_request k small in
      let r = t.port.receiver in
      half_puts n w limit s t (record { answer = SentRequest; frame = w.request k; port = with_sender (turned AwaitingResponse p.sender) p }) (symbol z.says z.parameter0 z.parameter1 (Some AsksRequest))
      (with_receiver (pended Ready (Response r.expected (status_for r.input)) r) t.port) sl es (no_reply sp OwingRequest sr) z.is tp et.for_replies
      (ap (λ (x : Sender). record { sender = x; receiver = pended Ready (Response r.expected (status_for r.input)) r; places = t.port.places })
      (said_nothing n t.port.sender.output z.says z.parameter0 z.parameter1 t.port.sender z.says_nothing))

  -- how far the ackID that s expects is past the first that t holds
  far_is : distance n s.port.receiver.expected t.port.sender.first ≡ h.1.way.m - h.1.way.r
  far_is =
      let d = h.1.way in
      let q = d.counts in
      ap (λ (x : ℕ). distance n x t.port.sender.first) d.expected_is ∙ ap (distance n (d.m % n)) d.first_is ∙ distance_is n d.m d.r pos (omega arith) (omega arith)

  pub answer_first : after n t.port.sender.first (distance n s.port.receiver.expected t.port.sender.first) ≡ s.port.receiver.expected
  answer_first =
      let d = h.1.way in
      let q = d.counts in
      let e : d.r + (d.m - d.r) ≡ d.m = omega arith in
      ap (after n t.port.sender.first) far_is ∙ ap (λ (x : ℕ). after n x (d.m - d.r)) d.first_is ∙ mod-add-mod d.r n (d.m - d.r) ∙ ap (λ (x : ℕ). x % n) e ∙ sym d.expected_is

  pub half_answer : (k : ℕ) (st : PortStatus) → s.lane ≡ [] → s.port.receiver.pending ≡ Response k st ∷ [] → k ≡ s.port.receiver.expected → status_of st ≢ 2 → t.port.receiver.pending ≡ [] → t.port.sender.output ≡ AwaitingResponse
      → half n w limit s t
      ≡ (sender (relieved s.port) s, hearer (with_sender (freed n (distance n s.port.receiver.expected t.port.sender.first) 0 t.port.sender) t.port) t)
  half_answer k st sl sp ke ok tp tr =
      let p = s.port in
      let o = t.port.sender in
      let d = h.1.way in
      let q = d.counts in
      let small : k < n = let a = mod-lt d.m pos in let b = d.expected_is in omega arith in
      let fe : distance n k o.first ≡ distance n p.receiver.expected o.first = ap (λ (x : ℕ). distance n x o.first) ke in
      let near : distance n k o.first ≤ o.high = omega (arith, fe, far_is) in
      let z = lw.reads_reply (Response k st) small in
      half_puts n w limit s t (record { answer = SentReply; frame = w.reply (Response k st); port = relieved p }) (symbol (Some SaysResponse) k (status_of st) z.second)
      (with_sender (freed n (distance n p.receiver.expected o.first) 0 o) t.port) sl es
      (ap (λ (x : List Reply). due_by_replies n w x p) sp) z.is tp et.for_replies
      (heard_reply n (Some SaysResponse) k (status_of st) z.second t.port (freed n (distance n p.receiver.expected o.first) 0 o) z.asks_nothing
      (ap (λ (x : Output). said n x (Some SaysResponse) k (status_of st) o) tr
      ∙ ap (λ (x : Bool). responded n x (ltb o.high (distance n k o.first)) (distance n k o.first) o) (ne_eqb (status_of st) 2 ok)
      ∙ ap (λ (x : Bool). responded n false x (distance n k o.first) o) (le-ltb o.high (distance n k o.first) near)
      ∙ ap (λ (x : ℕ). freed n x 0 o) fe
      ))

  pub half_give : s.lane ≡ [] → s.port.receiver.pending ≡ [] → s.port.sender.output ≡ Running → s.port.sender.sent ≡ 0 → 0 < length s.port.sender.held
      → t.port.receiver.pending ≡ [] → t.port.receiver.input ≡ Ready → t.port.receiver.expected ≡ s.port.sender.first → t.port.receiver.waiting ≡ []
      → half n w limit s t ≡ (sender (gave s.port) s, hearer (got n s.port.sender.first (get_or s.port.sender.held 0 []) t.port) t)
  half_give sl sp sr sz sh tp ti te tw =
      let p = s.port in
      let o = p.sender in
      let r = t.port.receiver in
      let d = h.0.way in
      let fs : o.first < n = let a = mod-lt d.r pos in let b = d.first_is in omega arith in
      let z : d.r + 0 ≡ d.r = omega arith in
      let ke : after n o.first 0 ≡ o.first = ap (λ (x : ℕ). after n x 0) d.first_is ∙ mod-add-mod d.r n 0 ∙ ap (λ (x : ℕ). x % n) z ∙ sym d.first_is in
      let x : Packet = get_or o.held 0 [] in
      let goes : ℕ → Option Departure = λ (i : ℕ). Some
      (record {
        answer = SentPacket;
        frame = w.stamp (after n o.first i) (get_or o.held i []);
        port = with_sender (record { held = o.held; first = o.first; sent = i + 1; high = max o.high (i + 1); output = Running }) p;
      }) in
      let sl0 = d.all_sealed 0 sh in
      half_puts n w limit s t (record { answer = SentPacket; frame = w.stamp o.first x; port = gave p }) (packet o.first x) (got n o.first x t.port) sl es
      (no_reply sp Running sr
      ∙ ap (λ (y : Bool). due_packet n w y p) (lt-ltb o.sent (length o.held) (omega arith))
      ∙ ap goes sz
      ∙ ap (λ (y : ℕ). Some (record { answer = SentPacket; frame = w.stamp y x; port = gave p })) ke
      )
      (lw.reads_stamp o.first sl0.0 x fs sl0.1) tp et.for_replies
      (ap (λ (y : Receiver). with_receiver y t.port)
      (ap (λ (y : Input). arrived n t.port.places y o.first x r) ti
      ∙ ap (λ (y : Bool). taken n y (has_slot t.port.places r.waiting) o.first x r) (eq-eqb o.first r.expected (sym te))
      ∙ ap (λ (y : Bool). taken n true y o.first x r) (ap (has_slot t.port.places) tw ∙ lt-ltb 0 (min t.port.places.packets 8) (let l = et.for_packets in omega arith))
      ∙ ap (λ (y : List Reply). record { input = Ready; expected = after n r.expected 1; pending = y ++ (Accepted o.first ∷ []); waiting = r.waiting ++ (x ∷ []) }) tp
      ∙ ap (λ (y : List Packet). record { input = Ready; expected = after n r.expected 1; pending = Accepted o.first ∷ []; waiting = y ++ (x ∷ []) }) tw
      ))

  pub half_acknowledge : (k : ℕ) → s.lane ≡ [] → s.port.receiver.pending ≡ Accepted k ∷ [] → k ≡ t.port.sender.first → t.port.receiver.pending ≡ [] → t.port.sender.output ≡ Running → t.port.sender.sent ≡ 1
      → half n w limit s t ≡ (sender (relieved s.port) s, hearer (with_sender (freed n 1 0 t.port.sender) t.port) t)
  half_acknowledge k sl sp ke tp tr ts =
      let p = s.port in
      let o = t.port.sender in
      let d = h.1.way in
      let small : k < n = let a = mod-lt d.r pos in let b = d.first_is in omega arith in
      let z = lw.reads_reply (Accepted k) small in
      half_puts n w limit s t (record { answer = SentReply; frame = w.reply (Accepted k); port = relieved p }) (symbol (Some SaysAccepted) k z.spare z.second)
      (with_sender (freed n 1 0 o) t.port) sl es
      (ap (λ (x : List Reply). due_by_replies n w x p) sp) z.is tp et.for_replies
      (heard_reply n (Some SaysAccepted) k z.spare z.second t.port (freed n 1 0 o) z.asks_nothing
      (ap (λ (x : Output). said n x (Some SaysAccepted) k z.spare o) tr
      ∙ ap (λ (x : Bool). acknowledged n x o) (and_from (ltb 0 o.sent) (eqb k o.first) (lt-ltb 0 o.sent (omega arith)) (eq-eqb k o.first ke))
      ∙ ap (λ (x : ℕ). freed n 1 (x - 1) o) ts
      ))
