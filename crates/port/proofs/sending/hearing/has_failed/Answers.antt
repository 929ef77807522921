use Rattle.std.proofs.Common.{sym, ne_eqb}
use Rattle.symbol.specs.declared.codes.PortStatus.TheVariants.{Failed}
use Rattle.port.proofs.sending.hearing.has_failed.Goals as goal

pub returns-in_default-2 : goal.returns-in_default-2
returns-in_default-2 c =
    let none = rw c.in_default.is at c.try_from.ensures in
    sym (ne_eqb c.args.status 2 (λ e. none Failed (sym e)))
