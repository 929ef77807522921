use Rattle.std.proofs.Common.{◌≡◌, ◌+◌, ◌<◌, [], length, sym, ap, ◌∙◌, arith, true-eqb, false-eqb}
use Rattle.std.proofs.lemmas.List.{nil_from_length, take_rest}
use Rattle.script.specs.Lines.{lines_of}
use Rattle.script.proofs.Cuts.{lines_none, cut_found, cut_none, lines_stand}
use Rattle.script.proofs.lines.first_line.Goals as goal
use Rattle.script.proofs.lines.first_line.Goals.{in-Some, in-None}

pub returns-then-is_empty : goal.returns-then-is_empty
returns-then-is_empty c =
    let none : c.args.script.now ≡ [] = nil_from_length _ (omega (arith, true-eqb)) in
    record { cut = (none, ap lines_of none ∙ lines_none); lines = lines_stand _ }

pub returns : goal.returns
returns c =
    let s = c.args.script.now in
    let some : 0 < length s = omega (arith, false-eqb) in record {
      cut = elim c.match-line_end.branch [
        | in-Some w ↦ cut_found s _ _ w.in-Some.end (sym w.in-Some.ensures) (ap (λ r. r.line.now) w.result-is) (ap (λ r. r.rest.now) w.result-is ∙ take_rest s (w.in-Some.end + 1))
        | in-None w ↦ cut_none s _ _ some (sym w.in-None.ensures) (ap (λ r. r.line.now) w.result-is) (ap (λ r. r.rest.now) w.result-is)
      ];
      lines = lines_stand s;
    }
