-- A text says one thing at most. Assumes nothing.
use Rattle.std.proofs.Common.{◌≡◌, ℕ, ◌-◌, if◌then◌else◌, ◌==◌, List, [], ◌∷◌, ◌++◌, map, length, slice_index_or, drop, replicate, Ok, Err, Result, sym, refl, ap, ◌∙◌, subst}
use Rattle.std.specs.Result.{IsErrAnd}
use Rattle.std.proofs.lemmas.List.{length-map}
use Rattle.rules.specs.declared.state.PortId.{PortId}
use Rattle.rules.specs.declared.state.PortId.TheVariants.{A, B}
use Rattle.lane.specs.declared.noisy.Fate.{Fate}
use Rattle.lane.specs.declared.noisy.Fate.TheVariants.{Keep, Lose, Spoil}
use Rattle.script.specs.declared.call.Call.{Call}
use Rattle.script.specs.declared.call.Call.TheVariants.{Submit, Send, Receive, Collect, TimeOut, Plan}
use Rattle.script.specs.declared.line.Line.{Line}
use Rattle.script.specs.Letters.{call_letter, port_letter, fate_letter}
use Rattle.script.specs.Said.{Said, submit, send, receive, collect, time_out, plan, said_by, call_of, port_of}
use Rattle.script.specs.Reading.{bytes_of, Pairs, Fills, head_of, Follows, NoLine, Reads}

-- from letters back to what they name
call_at : ℕ → Call
call_at letter =
    if letter == 104 then Submit else
    if letter == 115 then Send else
    if letter == 114 then Receive else
    if letter == 99 then Collect else
    if letter == 111 then TimeOut else Plan

call_back : (call : Call) → call_at (call_letter call) ≡ call
unfolding call_at
call_back Submit = refl
call_back Send = refl
call_back Receive = refl
call_back Collect = refl
call_back TimeOut = refl
call_back Plan = refl

port_at : ℕ → PortId
port_at letter = if letter == 97 then A else B

port_back : (port : PortId) → port_at (port_letter port) ≡ port
unfolding port_at
port_back A = refl
port_back B = refl

fate_at : ℕ → Fate
fate_at letter = if letter == 107 then Keep else if letter == 108 then Lose else Spoil

fate_back : (fate : Fate) → fate_at (fate_letter fate) ≡ fate
unfolding fate_at
fate_back Keep = refl
fate_back Lose = refl
fate_back Spoil = refl

fates_back : (entries : List Fate) → map fate_at (map fate_letter entries) ≡ entries
fates_back [] = refl
fates_back (fate ∷ entries) = λ j. fate_back fate j ∷ fates_back entries j

-- a call, a port and the rest of a text leave one thing to say
said_from : Call → PortId → List ℕ → Said
said_from Submit port tail = submit port (bytes_of (drop 1 tail))
said_from Send port tail = send port
said_from Receive port tail = receive port
said_from Collect port tail = collect port
said_from TimeOut port tail = time_out port
said_from Plan port tail = plan port (map fate_at (drop 1 tail) ++ replicate (64 - length (drop 1 tail)) Keep)

said_from_lem : (said : Said) (tail : List ℕ) → Follows said tail → said_from (call_of said) (port_of said) tail ≡ said
unfolding said_from
said_from_lem (submit port load) tail (digits, field, pairs, is) = ap (λ t. submit port (bytes_of (drop 1 t))) field ∙ ap (submit port) (sym is)
said_from_lem (send port) tail none = refl
said_from_lem (receive port) tail none = refl
said_from_lem (collect port) tail none = refl
said_from_lem (time_out port) tail none = refl
said_from_lem (plan port fates) tail (entries, field, (some, room, is)) =
    ap (λ t. plan port (map fate_at (drop 1 t) ++ replicate (64 - length (drop 1 t)) Keep)) field
    ∙ (λ j. plan port (fates_back entries j ++ replicate (64 - length-map entries fate_letter j) Keep))
    ∙ ap (plan port) (sym is)

-- the same beginning has the same call, port and rest
same_call : (call call' : Call) (port port' : PortId) (tail tail' : List ℕ) → head_of call port ++ tail ≡ head_of call' port' ++ tail' → call ≡ call'
same_call call call' port port' tail tail' e = sym (call_back call) ∙ ap (λ t. call_at (slice_index_or t 0 0)) e ∙ call_back call'

same_port : (call call' : Call) (port port' : PortId) (tail tail' : List ℕ) → head_of call port ++ tail ≡ head_of call' port' ++ tail' → port ≡ port'
same_port call call' port port' tail tail' e = sym (port_back port) ∙ ap (λ t. port_at (slice_index_or t 2 0)) e ∙ port_back port'

-- what follows a call's letter, whatever the line says
abbrev pub FollowsCall : Call → List ℕ → Type 0
FollowsCall Submit tail = (digits : List ℕ) × (tail ≡ 9 ∷ digits) × Pairs digits
FollowsCall Send tail = tail ≡ []
FollowsCall Receive tail = tail ≡ []
FollowsCall Collect tail = tail ≡ []
FollowsCall TimeOut tail = tail ≡ []
FollowsCall Plan tail = (entries : List Fate) × (fates : List Fate) × (tail ≡ 9 ∷ map fate_letter entries) × Fills entries fates

follows_call : (said : Said) (tail : List ℕ) → Follows said tail → FollowsCall (call_of said) tail
follows_call (submit port load) tail (digits, field, pairs, is) = (digits, field, pairs)
follows_call (send port) tail none = none
follows_call (receive port) tail none = none
follows_call (collect port) tail none = none
follows_call (time_out port) tail none = none
follows_call (plan port fates) tail (entries, field, fills) = (entries, fates, field, fills)

-- a line that follows its beginning rightly is what the text says, and nothing else is
pub says : (line : Line) (call : Call) (port : PortId) (tail : List ℕ) → call_of (said_by line) ≡ call → port_of (said_by line) ≡ port → Follows (said_by line) tail → Reads (head_of call port ++ tail) (Ok line)
says line call port tail is at follows = (
  (tail, λ j. head_of (sym is j) (sym at j) ++ tail, follows),
  λ other. λ (rest, e, g).
      let b = ap (drop 3) e in
      sym (said_from_lem other rest g) ∙ (λ j. said_from (sym (same_call _ _ _ _ _ _ e) j) (sym (same_port _ _ _ _ _ _ e) j) (sym b j)) ∙ (λ j. said_from (sym is j) (sym at j) tail) ∙ said_from_lem (said_by line) tail follows,
)

-- where nothing can follow so, the text says nothing
pub says_nothing : (call : Call) (port : PortId) (tail : List ℕ) → (FollowsCall call tail → ⊥) → NoLine (head_of call port ++ tail)
says_nothing call port tail not said (rest, e, g) =
    not (subst (FollowsCall call) (sym (ap (drop 3) e)) (subst (λ k. FollowsCall k rest) (sym (same_call _ _ _ _ _ _ e)) (follows_call said rest g)))

-- where a step failed, what holds of its error holds of the result
pub failed : {A E : Type 0} (P : Result A E → Type 0) (r : Result A E) (e : E) → IsErrAnd r (λ x. x ≡ e) → P (Err e) → P r
failed P (Ok a) e none holds = absurd none
failed P (Err x) e is holds = subst (λ x. P (Err x)) (sym is) holds
