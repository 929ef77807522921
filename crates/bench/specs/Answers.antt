-- What a call came to, as the bench prints it: the words are the script crate's.
use Rattle.std.specs.Prelude.{true, false, Ok, Err, Result}
use Rattle.refusal.specs.declared.Refusal.{Refusal}
use Rattle.link.specs.declared.call.Outcome.{Outcome}
use Rattle.link.specs.declared.call.Outcome.TheVariants.{Submitted, Sent, Received, Collected, TimedOut}
use Rattle.script.specs.declared.print.Answer.{Answer}
use Rattle.script.specs.declared.print.Answer.TheVariants.{Done, Owing, Unchanged, Length, Sent as AnswerSent, Received as AnswerReceived, Refused}

abbrev pub answer_of : Result Outcome Refusal → Answer
answer_of (Ok Submitted) = Done
answer_of (Ok (Sent frame)) = AnswerSent frame
answer_of (Ok (Received frame)) = AnswerReceived frame
answer_of (Ok (Collected length)) = Length length
answer_of (Ok (TimedOut true)) = Owing
answer_of (Ok (TimedOut false)) = Unchanged
answer_of (Err refusal) = Refused refusal
