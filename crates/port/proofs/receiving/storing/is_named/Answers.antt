use Rattle.std.proofs.Common.{◌||◌, ap, ◌∙◌}
use Rattle.fifo.specs.Held.{queued}
use Rattle.port.specs.Inner.{is_named}
use Rattle.port.proofs.Naming.{named_parts}
use Rattle.port.proofs.receiving.storing.is_named.Goals as goal

pub returns-then-names : goal.returns-then-names
returns-then-names c =
    let newer = c.as_slices.result.1.now in
    c.if-names.true ∙ ap (λ b. b || is_named c.args.slot newer) c.if-names.ensures ∙ named_parts c.args.slot c.as_slices.result.0.now newer (queued c.args.records.now) c.as_slices.ensures

pub returns-else-names : goal.returns-else-names
returns-else-names c =
    let newer = c.as_slices.result.1.now in
    c.names-else-names.ensures ∙ ap (λ b. b || is_named c.args.slot newer) c.if-names.ensures ∙ named_parts c.args.slot c.as_slices.result.0.now newer (queued c.args.records.now) c.as_slices.ensures
