use Rattle.std.proofs.Common.{List, [], ◌∷◌, ◌++◌, refl}
use Rattle.packet.specs.Facts.{Hold, facts as sealed_lengths}
use Rattle.rules.specs.Facts.{windows}
use Rattle.rules.proofs.Windows.{windows_hold}
use Rattle.rules.proofs.facts_listed.Goals as goal

hold_both : (fs gs : List (Type 0)) → Hold fs → Hold gs → Hold (fs ++ gs)
hold_both [] gs h k = k
hold_both (f ∷ fs) gs h k = (h.0, hold_both fs gs h.1 k)

pub returns : goal.returns
returns c = record { value = (refl, refl); hold = hold_both sealed_lengths windows c.hold.ensures windows_hold }
