use Rattle.script.proofs.Spelt.{Entered}
use Rattle.script.proofs.read.plan_of.Given as goal

abbrev pub invariant-loop-i : goal.invariant-loop-i
invariant-loop-i l = Entered l.letters l.plan l.i
