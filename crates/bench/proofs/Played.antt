-- What a line comes to when it is played and its row is printed. Assumes nothing.
use Rattle.std.proofs.Common.{◌≡◌, ℕ, List, [], length, Ok, Result, ap, ◌∙◌, subst, inl}
use Rattle.lane.specs.declared.noisy.Noisy.{Noisy}
use Rattle.lane.specs.Meaning.{Frames}
use Rattle.rules.specs.declared.state.PortId.{PortId}
use Rattle.link.specs.declared.Link.{Link}
use Rattle.link.specs.declared.call.Call.{Call}
use Rattle.link.specs.declared.call.Call.TheVariants.{Submit, Send, Receive, Collect, TimeOut}
use Rattle.script.specs.declared.print.Answer.{Answer}
use Rattle.script.specs.Printed.{row_of}
use Rattle.script.specs.declared.call.Call.{Call as ScriptCall}
use Rattle.script.specs.declared.line.Line.{Line}
use Rattle.script.specs.declared.read.ReadError.{ReadError}
use Rattle.script.specs.Reading.{Reads}
use Rattle.script.specs.Said.{Said, said_by, call_of, port_of}
use Rattle.script.specs.Said.Said.{submit, send, receive, collect, time_out, plan}
use Rattle.bench.specs.Playing.{Makes, Plays, Prints, held_at}

-- the call of a link that a line asks for, with its load
abbrev pub Asks : Said → Call → List ℕ → Type 0
Asks (submit at load) call given = (call ≡ Submit) × (given ≡ load)
Asks (send at) call given = (call ≡ Send) × (given ≡ [])
Asks (receive at) call given = (call ≡ Receive) × (given ≡ [])
Asks (collect at) call given = (call ≡ Collect) × (given ≡ [])
Asks (time_out at) call given = (call ≡ TimeOut) × (given ≡ [])
Asks (plan at fates) call given = ⊥

module _ {A B : Type 0} (waiting_a : A → Frames) (waiting_b : B → Frames) (la lb : ℕ) (s : Link (Noisy A) (Noisy B)) (b : List ℕ) (answer : Answer) (t : Link (Noisy A) (Noisy B)) (b' : List ℕ) where
  moved : (at to : PortId) (call other : Call) (load given : List ℕ) → at ≡ to → call ≡ other → load ≡ given
      → Makes waiting_a waiting_b la lb at call load s b answer t b'
      → Makes waiting_a waiting_b la lb to other given s b answer t b'
  moved at to call other load given e f g made =
      subst (λ (x : PortId). Makes waiting_a waiting_b la lb x other given s b answer t b') e
      (subst (λ (x : Call). Makes waiting_a waiting_b la lb at x given s b answer t b') f (subst (λ (x : List ℕ). Makes waiting_a waiting_b la lb at call x s b answer t b') g made))

  -- the call of a line that is no plan, made at its port, plays the line
  pub call_played : (said : Said) (at : PortId) (call : Call) (load : List ℕ) → Asks said call load → at ≡ port_of said
      → Makes waiting_a waiting_b la lb at call load s b answer t b'
      → Plays waiting_a waiting_b la lb said s b answer t b'
  call_played (submit p l) at call load (is, of) to made = moved _ _ _ _ _ _ to is of made
  call_played (send p) at call load (is, of) to made = moved _ _ _ _ _ _ to is of made
  call_played (receive p) at call load (is, of) to made = moved _ _ _ _ _ _ to is of made
  call_played (collect p) at call load (is, of) to made = moved _ _ _ _ _ _ to is of made
  call_played (time_out p) at call load (is, of) to made = moved _ _ _ _ _ _ to is of made
  call_played (plan p fates) at call load none to made = absurd none

  -- the row of a line that was read and played
  pub row_printed : (number : ℕ) (text : List ℕ) (r : Result Line ReadError) (line : Line) (call : ScriptCall) (at : PortId) (held : ℕ) (printed : List ℕ)
      → r ≡ Ok line → Reads text r → call ≡ call_of (said_by line) → at ≡ port_of (said_by line) → held ≡ held_at waiting_a waiting_b la lb at t
      → length b ≡ 276 → Plays waiting_a waiting_b la lb (said_by line) s b answer t b' → printed ≡ row_of number call at answer held
      → Prints waiting_a waiting_b la lb number text s printed t
  row_printed number text r line call at held printed is reads called port holds long plays row =
      let all = holds ∙ ap (λ (x : PortId). held_at waiting_a waiting_b la lb x t) port in
      inl (said_by line, (subst (Reads text) is reads).0, (answer, (b, (b', long, plays, row ∙ (λ j. row_of number (called j) (port j) answer (all j))))))
