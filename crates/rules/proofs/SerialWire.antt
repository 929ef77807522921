-- The serial format is lawful.
use Rattle.std.proofs.Common.{◌≡◌, ℕ, ◌%◌, ◌<◌, ◌≤◌, Bool, true, false, cond, ◌&&◌, eqb, leb, List, [], ◌∷◌, length, Some, None, Ok, Err, Option, Result, sym, refl, ap, ◌∙◌, subst, arith}
use Rattle.std.specs.Result.{result_ok}
use Rattle.std.proofs.lemmas.Bool.{and_parts, and_from, eqb-true, eq-eqb, ne_eqb, leb-true, le-leb}
use Rattle.refusal.specs.Naming.{Names}
use Rattle.symbol.specs.declared.codes.NoName.{NoName}
use Rattle.symbol.specs.declared.codes.Stype0.{Stype0}
use Rattle.symbol.specs.declared.codes.Stype0.TheVariants.{Accepted as SaysAccepted, Retry as SaysRetry, NotAccepted as SaysNotAccepted, Status as SaysStatus, Response as SaysResponse}
use Rattle.symbol.specs.declared.codes.Stype1.{Stype1}
use Rattle.symbol.specs.declared.codes.Stype1.TheVariants.{Restart as AsksRestart, Request as AsksRequest, Nop as AsksNop}
use Rattle.symbol.specs.declared.codes.Cause.{Cause}
use Rattle.symbol.specs.declared.codes.Cause.TheVariants.{UnexpectedAckId, SymbolCheck, PacketCheck, InvalidCharacter}
use Rattle.symbol.specs.declared.codes.PortStatus.{PortStatus}
use Rattle.symbol.specs.declared.codes.PortStatus.TheVariants.{Ready, RetryStopped, ErrorStopped, Failed}
use Rattle.symbol.specs.Codes.{stype0_of, stype1_of, cmd_of, cause_of, status_of, NamesBoth, symbol_of}
use Rattle.symbol.specs.Layout.{Fits, written_of}
use Rattle.packet.specs.Crc.{cleared_of}
use Rattle.packet.specs.Header.{stamped_of}
use Rattle.packet.specs.Sealing.{Sealable, sealed_of}
use Rattle.packet.proofs.Classes.{kind_written, kind_sealed, restored}
use Rattle.packet.proofs.Fields.{ack_stamped, length_stamped}
use Rattle.packet.proofs.Sealed.{sealed_sound}
use Rattle.packet.proofs.Sounds.{length_parts, sound_length}
use Rattle.rules.specs.declared.state.Reply.{Reply}
use Rattle.rules.specs.declared.state.Reply.TheVariants.{Accepted, Retry, NotAccepted, Response}
use Rattle.rules.specs.Wire.{Packet, FrameLength, Lawful, ReadsReply, ReadsAsking, ack_id_of as reply_ack_id}
use Rattle.rules.specs.Wire.Seen.{symbol, packet}
use Rattle.rules.specs.Serial.{receiver_controlled, asking_symbol, is_load, named, says_of, commanded, asks_of, ack_id_in, seen_as, serial, SealsLoads, ReadsNames, SpoilsByUnsound}

-- loads -------------------------------------------------------------------------------------------------------

load_yes : (n : ℕ) → Sealable n → is_load n ≡ true
load_yes n s = and_from (eqb (n % 2) 0) (leb 6 n && leb n 272) (eq-eqb (n % 2) 0 s.0) (and_from (leb 6 n) (leb n 272) (le-leb 6 n s.1) (le-leb n 272 s.2))

load_is : (n : ℕ) → is_load n ≡ true → Sealable n
load_is n e =
    let a = and_parts (eqb (n % 2) 0) (leb 6 n && leb n 272) e in
    let b = and_parts (leb 6 n) (leb n 272) a.1 in
    (eqb-true (n % 2) 0 a.0, leb-true 6 n b.0, leb-true n 272 b.1)

-- what a load was sealed to
sealed_is : (load : List ℕ) (p : Packet) → serial.seal load ≡ Some p → Sealable (length load) × (sealed_of load ≡ p)
sealed_is load p = go (is_load (length load)) refl
  where
    go : (x : Bool) → is_load (length load) ≡ x → cond x (Some (sealed_of load)) None ≡ Some p → Sealable (length load) × (sealed_of load ≡ p)
    go true e f = (load_is (length load) e, cc)
    go false e f = let z : ◌≡◌ {A = ℕ} 0 1 = cc in absurd (omega arith)

pub seals_loads : SealsLoads
seals_loads load = (
  λ s. ap (λ (x : Bool). cond x (Some (sealed_of load)) None) (load_yes (length load) s),
  λ never. go never (is_load (length load)) refl,
)
  where
    go : (Sealable (length load) → ⊥) → (x : Bool) → is_load (length load) ≡ x → cond x (Some (sealed_of load)) None ≡ None
    go never true e = absurd (never (load_is (length load) e))
    go never false e = refl

-- packets -----------------------------------------------------------------------------------------------------

sized : (load : List ℕ) → Sealable (length load) → (8 ≤ length (sealed_of load)) × (length (sealed_of load) ≤ 276)
sized load s = let z = length_parts (length (sealed_of load)) (sound_length (sealed_of load) (sealed_sound load s)) in (z.1, z.2)

reads_stamp : (k : ℕ) (load : List ℕ) (p : Packet) → serial.seal load ≡ Some p → serial.read (stamped_of k p) ≡ packet k p
reads_stamp k load p e =
    let z = sealed_is load p e in
    let s = z.0 in
    let q = sealed_of load in
    let f = stamped_of k q in
    let l = sized load s in
    let whole : serial.read f ≡ packet k q =
    ap (seen_as f) (kind_sealed k load s)
    ∙ ap (λ (x : Option ℕ). packet (ack_id_in x) (cleared_of f)) (ack_stamped k q (omega arith))
    ∙ ap (packet k) (restored k load s) in
    subst (λ (x : Packet). serial.read (stamped_of k x) ≡ packet k x) z.1 whole

stamp_length : (k : ℕ) (load : List ℕ) (p : Packet) → serial.seal load ≡ Some p → FrameLength (stamped_of k p)
stamp_length k load p e =
    let z = sealed_is load p e in
    let l = sized load z.0 in
    let n = length_stamped k (sealed_of load) in
    subst (λ (x : Packet). FrameLength (stamped_of k x)) z.1 (omega arith)

-- symbols -----------------------------------------------------------------------------------------------------

cause_fits : (c : Cause) → cause_of c < 32
cause_fits UnexpectedAckId = omega arith
cause_fits SymbolCheck = omega arith
cause_fits PacketCheck = omega arith
cause_fits InvalidCharacter = omega arith

status_fits : (s : PortStatus) → status_of s < 32
status_fits Ready = omega arith
status_fits RetryStopped = omega arith
status_fits ErrorStopped = omega arith
status_fits Failed = omega arith

says_fits : (s : Stype0) → stype0_of s < 8
says_fits SaysAccepted = omega arith
says_fits SaysRetry = omega arith
says_fits SaysNotAccepted = omega arith
says_fits SaysStatus = omega arith
says_fits SaysResponse = omega arith

asks_fits : (a : Stype1) → (stype1_of a < 8) × (cmd_of a < 8)
asks_fits AsksRestart = omega arith
asks_fits AsksRequest = omega arith
asks_fits AsksNop = omega arith

says_back : (s : Stype0) → says_of (stype0_of s) ≡ Some s
says_back SaysAccepted = refl
says_back SaysRetry = refl
says_back SaysNotAccepted = refl
says_back SaysStatus = refl
says_back SaysResponse = refl

asks_back : (a : Stype1) → asks_of (stype1_of a) (cmd_of a) ≡ Some a
asks_back AsksRestart = refl
asks_back AsksRequest = refl
asks_back AsksNop = refl

-- a symbol written is read back
reads_symbol : (s : Stype0) (k q : ℕ) (a : Stype1) → k < 32 → q < 32 → serial.read (written_of (symbol_of s k q a)) ≡ symbol (Some s) k q (Some a)
reads_symbol s k q a kl ql =
    let z = asks_fits a in
    let f : Fits (symbol_of s k q a) = record { stype0 = says_fits s; parameter0 = kl; parameter1 = ql; stype1 = z.0; cmd = z.1 } in
    ap (seen_as (written_of (symbol_of s k q a))) (kind_written (symbol_of s k q a) f)
    ∙ ap (λ (x : Option Stype0). symbol x k q (asks_of (stype1_of a) (cmd_of a))) (says_back s)
    ∙ ap (symbol (Some s) k q) (asks_back a)

reads_reply : (y : Reply) → reply_ack_id y < 32 → ReadsReply y (serial.read (serial.reply y))
reads_reply (Accepted k) l = record { spare = receiver_controlled; second = Some AsksNop; asks_nothing = tt; is = reads_symbol SaysAccepted k receiver_controlled AsksNop l (omega arith) }
reads_reply (Retry k) l = record { spare = receiver_controlled; second = Some AsksNop; asks_nothing = tt; is = reads_symbol SaysRetry k receiver_controlled AsksNop l (omega arith) }
reads_reply (NotAccepted k c) l = record { spare = 0; second = Some AsksNop; asks_nothing = tt; is = reads_symbol SaysNotAccepted k (cause_of c) AsksNop l (cause_fits c) }
reads_reply (Response k s) l = record { spare = 0; second = Some AsksNop; asks_nothing = tt; is = reads_symbol SaysResponse k (status_of s) AsksNop l (status_fits s) }

reads_asking : (a : Stype1) (k : ℕ) → k < 32 → ReadsAsking a (serial.read (written_of (asking_symbol a k)))
reads_asking a k l = record { says = Some SaysStatus; parameter0 = k; parameter1 = receiver_controlled; says_nothing = tt; is = reads_symbol SaysStatus k receiver_controlled a l (omega arith) }

pub serial_lawful : Lawful 32 serial
serial_lawful =
    record {
      reads_stamp = λ k load p l. reads_stamp k load p;
      reads_reply = reads_reply;
      reads_restart = reads_asking AsksRestart;
      reads_request = reads_asking AsksRequest;
      stamp_length = λ k load p l. stamp_length k load p;
      reply_length = λ y l. omega arith;
      restart_length = λ k l. omega arith;
      request_length = λ k l. omega arith;
    }

-- names -------------------------------------------------------------------------------------------------------

-- a code that no name has
named_none : {A : Type 0} (number_of : A → ℕ) (names : List A) (code : ℕ) → ((x : A) → number_of x ≡ code → ⊥) → named number_of names code ≡ None
named_none number_of [] code h = refl
named_none number_of (x ∷ xs) code h =
    ap (λ (b : Bool). cond b (Some x) (named number_of xs code)) (ne_eqb (number_of x) code (h x)) ∙ named_none number_of xs code h

says_names : (code : ℕ) (name : Result Stype0 NoName) → Names stype0_of code name → says_of code ≡ result_ok name
says_names code (Ok x) e = ap says_of (sym e) ∙ says_back x
says_names code (Err e) h = named_none stype0_of (SaysAccepted ∷ SaysRetry ∷ SaysNotAccepted ∷ SaysStatus ∷ SaysResponse ∷ []) code h

asks_names : (codes : ℕ × ℕ) (name : Result Stype1 NoName) → NamesBoth codes name → asks_of codes.0 codes.1 ≡ result_ok name
asks_names codes (Ok AsksRestart) e = ap (λ (x : ℕ). asks_of x codes.1) e
asks_names codes (Ok AsksRequest) e = ap (λ (x : ℕ). asks_of x codes.1) e.0 ∙ ap (asks_of 4) e.1
asks_names codes (Ok AsksNop) e = ap (λ (x : ℕ). asks_of x codes.1) e
asks_names (stype1, cmd) (Err e) h = go (eqb 3 stype1) (eqb 4 stype1) (eqb 7 stype1) (eqb 4 cmd) refl refl refl refl
  where
    go : (x y z u : Bool) → eqb 3 stype1 ≡ x → eqb 4 stype1 ≡ y → eqb 7 stype1 ≡ z → eqb 4 cmd ≡ u
        → commanded cmd (cond x (Some AsksRestart) (cond y (Some AsksRequest) (cond z (Some AsksNop) None))) ≡ None
    go true y z u p q r s = absurd (h AsksRestart (sym (eqb-true 3 stype1 p)))
    go false true z true p q r s = absurd (h AsksRequest (sym (eqb-true 4 stype1 q), sym (eqb-true 4 cmd s)))
    go false true z false p q r s = ap (λ (b : Bool). cond b (Some AsksRequest) None) s
    go false false true u p q r s = absurd (h AsksNop (sym (eqb-true 7 stype1 r)))
    go false false false u p q r s = refl

pub reads_names : ReadsNames
reads_names = (says_names, asks_names)

-- lanes -------------------------------------------------------------------------------------------------------

pub spoils_by_unsound : SpoilsByUnsound
spoils_by_unsound u l e = (l, (e.0, ap (seen_as u) e.1))
