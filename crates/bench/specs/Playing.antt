-- What a line of a script does to a link: the call that it says, or a plan for the lane that its port writes.
use Rattle.std.specs.Prelude.{◌≡◌, ℕ, ◌⊎◌, List, [], length, Result}
use Rattle.refusal.specs.declared.Refusal.{Refusal}
use Rattle.lane.specs.declared.noisy.Noisy.{Noisy}
use Rattle.lane.specs.Meaning.{Frames}
use Rattle.rules.specs.declared.state.PortId.{PortId}
use Rattle.link.specs.declared.Link.{Link}
use Rattle.link.specs.declared.call.Call.{Call}
use Rattle.link.specs.declared.call.Call.TheVariants.{Submit, Send, Receive, Collect, TimeOut}
use Rattle.link.specs.declared.call.Outcome.{Outcome}
use Rattle.link.specs.Joint.{Joint, port_at, Performs}
use Rattle.link.specs.Model.{joint_in, PlansAt}
use Rattle.script.specs.declared.print.Answer.{Answer}
use Rattle.script.specs.declared.print.Answer.TheVariants.{Done}
use Rattle.script.specs.Printed.{row_of, refused_row}
use Rattle.script.specs.Reading.{Written, NoLine}
use Rattle.script.specs.Said.{Said, call_of, port_of}
use Rattle.script.specs.Said.Said.{submit, send, receive, collect, time_out, plan}
use Rattle.bench.specs.Answers.{answer_of}

-- A link of two noisy lanes, each over a lane known by the frames that wait in it.
module _ {A B : Type 0} (waiting_a : A → Frames) (waiting_b : B → Frames) (la lb : ℕ) where
  -- The link in the rules' terms.
  abbrev pub joint : Link (Noisy A) (Noisy B) → Joint
  joint l = joint_in (λ (x : Noisy A). waiting_a x.below) (λ (x : Noisy B). waiting_b x.below) l

  -- How many packets a port holds.
  abbrev pub held_at : PortId → Link (Noisy A) (Noisy B) → ℕ
  held_at at l = length (port_at at (joint l)).sender.held

  -- A call was made at a port, with what it came to as the answer.
  abbrev pub Makes : PortId → Call → List ℕ → Link (Noisy A) (Noisy B) → List ℕ → Answer → Link (Noisy A) (Noisy B) → List ℕ → Type 0
  Makes at call load s b answer t b' =
      (r : Result Outcome Refusal)
      × (answer ≡ answer_of r)
      × Performs la lb at call load (joint s) b r (joint t) b'

  -- What a line says was done.
  abbrev pub Plays : Said → Link (Noisy A) (Noisy B) → List ℕ → Answer → Link (Noisy A) (Noisy B) → List ℕ → Type 0
  Plays (submit at load) s b answer t b' = Makes at Submit load s b answer t b'
  Plays (send at) s b answer t b' = Makes at Send [] s b answer t b'
  Plays (receive at) s b answer t b' = Makes at Receive [] s b answer t b'
  Plays (collect at) s b answer t b' = Makes at Collect [] s b answer t b'
  Plays (time_out at) s b answer t b' = Makes at TimeOut [] s b answer t b'
  Plays (plan at fates) s b answer t b' = (answer ≡ Done) × PlansAt at fates s t × (t.a ≡ s.a) × (t.b ≡ s.b) × (b' ≡ b)

  -- What is printed for a line of a script with this number and text, and done to the link: the line is played, with a buffer of 276
  -- bytes, and its row has the answer and how many packets its port holds then; or it is no line, and the link stays.
  abbrev pub Prints : ℕ → List ℕ → Link (Noisy A) (Noisy B) → List ℕ → Link (Noisy A) (Noisy B) → Type 0
  Prints number text s printed t =
      ((said : Said) × Written said text
      × ((answer : Answer) × ((b : List ℕ) × ((b' : List ℕ) × (length b ≡ 276) × Plays said s b answer t b' × (printed ≡ row_of number (call_of said) (port_of said) answer (held_at (port_of said) t))))))
      ⊎ (NoLine text × (t ≡ s) × (printed ≡ refused_row number))
