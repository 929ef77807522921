use Rattle.symbol.specs.Layout.{unchecked_of}
use Rattle.symbol.proofs.Register.{check_divides}
use Rattle.symbol.proofs.Symbol.write.Goals as goal

pub returns-clause-divides : goal.returns-clause-divides
returns-clause-divides c = check_divides (unchecked_of c.args.self)
