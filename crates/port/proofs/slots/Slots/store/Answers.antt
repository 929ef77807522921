use Rattle.std.proofs.Common.{◌≡◌, ℕ, ◌<◌, List, [], map, length, get_or, take, set, sym, ap, ◌∙◌, arith}
use Rattle.std.proofs.lemmas.List.{map-set, length-map, get_or-set_same, get_or-set_other}
use Rattle.port.specs.Slots.{bytes_in}
use Rattle.port.proofs.slots.Slots.store.Goals as goal

pub returns : goal.returns
returns g c =
    let all = c.args.self.now.all in
    let i = c.args.i in
    let new = c.store.new.self in
    let n = length c.args.packet.bytes.now in
    let wrote : map bytes_in (set all i new) ≡ set (map bytes_in all) i new.bytes = map-set bytes_in all i new in
    let inside : i < length (map bytes_in all) = simp length-map (omega arith) in
    let out = c.store.ensures in
    record {
      stored = ap (λ (l : List (List ℕ)). take n (get_or l i [])) wrote ∙ ap (take n) (get_or-set_same (map bytes_in all) i new.bytes [] inside) ∙ ap (λ (k : ℕ). take k new.bytes) (sym out.len) ∙ out.packet;
      others = λ j k other. ap (λ (l : List (List ℕ)). take k (get_or l j [])) wrote ∙ ap (take k) (get_or-set_other (map bytes_in all) i j new.bytes [] other);
    }
