-- The lines that the bench prints, without their line feeds.
use Rattle.std.specs.Prelude.{ℕ, List, [], ◌∷◌, ◌++◌, codes, decimal}
use Rattle.refusal.specs.declared.Refusal.TheVariants.{NoSuchLine}
use Rattle.refusal.specs.Numbers.{refusal_word}
use Rattle.rules.specs.declared.state.PortId.{PortId}
use Rattle.rules.specs.Words.{sent_word, received_word}
use Rattle.script.specs.declared.call.Call.{Call}
use Rattle.script.specs.declared.print.Answer.{Answer}
use Rattle.script.specs.declared.print.Answer.TheVariants.{Done, Owing, Unchanged, Length, Sent, Received, Refused}
use Rattle.script.specs.Letters.{call_letter, port_letter}

-- The word for each answer: a length is its number.
abbrev pub word_of : Answer → List ℕ
word_of Done = codes "ok"
word_of Owing = codes "owing"
word_of Unchanged = codes "none"
word_of (Length length) = decimal length
word_of (Sent frame) = sent_word frame
word_of (Received frame) = received_word frame
word_of (Refused refusal) = refusal_word refusal

-- Five fields in one line, parted by tabs.
abbrev pub parted : List ℕ → List ℕ → List ℕ → List ℕ → List ℕ → List ℕ
parted number call port answer held = number ++ (9 ∷ call ++ (9 ∷ port ++ (9 ∷ answer ++ (9 ∷ held))))

-- The first line names the fields.
abbrev pub header_line : List ℕ
header_line = parted (codes "n") (codes "call") (codes "end") (codes "answer") (codes "held")

-- The line for a line that was read: its number, its call and port, the answer, and how many packets the port holds after it.
abbrev pub row_of : ℕ → Call → PortId → Answer → ℕ → List ℕ
row_of number call port answer held = parted (decimal number) (call_letter call ∷ []) (port_letter port ∷ []) (word_of answer) (decimal held)

-- The line for one that was refused as no line.
abbrev pub refused_row : ℕ → List ℕ
refused_row number = parted (decimal number) (codes "-") (codes "-") (word_of (Refused NoSuchLine)) (codes "-")
