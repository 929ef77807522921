use Rattle.std.proofs.Common.{◌≡◌, ℕ, ◌+◌, ◌-◌, List, ◌++◌, length, take, drop, sym, refl, ap, ◌∙◌, subst, arith}
use Rattle.std.proofs.lemmas.List.{length-take, drop_all}
use Rattle.std.proofs.lemmas.Slice.{between_is}
use Rattle.std.proofs.lemmas.Bool.{both_ways, false≢true}
use Rattle.packet.specs.Crc.{cleared_of}
use Rattle.packet.specs.Opening.{SealsTo, first_of, rest_of}
use Rattle.packet.specs.Sealing.{Sealable, sealed_of}
use Rattle.packet.specs.Soundness.{sound_of, Sound}
use Rattle.packet.proofs.Sealed.{sealed_to, sealed_sound, sealed_load}
use Rattle.packet.proofs.opening.open.Goals as goal

-- neither refusal meets the packet of a load
module _ (packet load : List ℕ) (n : ℕ) (size : length load ≡ n) (h : Sealable n) (e : packet ≡ sealed_of load) where
  here : Sealable (length load)
  here = subst (λ (k : ℕ). Sealable k) (sym size) h

  seals : SealsTo n (length packet)
  seals = (h, λ l k. sealed_to n h.0 l k ∙ sym (sealed_to n h.0 load size) ∙ sym (ap length e))

  sound : Sound packet
  sound = ap sound_of e ∙ sealed_sound load here

-- its two parts are the load
back : (packet first rest load : List ℕ) (n : ℕ) → first ≡ first_of n packet → rest ≡ rest_of n packet → length load ≡ n → packet ≡ sealed_of load → first ++ rest ≡ cleared_of load
back packet first rest load n f r size e =
    (λ i. f i ++ r i) ∙ (let k = sym size in λ i. first_of (k i) (e i) ++ rest_of (k i) (e i)) ∙ sealed_load load

pub returns-then-not-seals_to-clause-gives_back : goal.returns-then-not-seals_to-clause-gives_back
returns-then-not-seals_to-clause-gives_back c = λ load size h e. false≢true (c.if-not-seals_to.ensures.means.1 (seals c.args.packet.now load c.args.n size h e))

pub returns-then-not-is_sound-clause-gives_back : goal.returns-then-not-is_sound-clause-gives_back
returns-then-not-is_sound-clause-gives_back c = λ load size h e. both_ways (sound_of c.args.packet.now) (sym c.if-not-is_sound.ensures) (sound c.args.packet.now load c.args.n size h e)

pub returns-then-n-le-FIRST : goal.returns-then-n-le-FIRST
returns-then-n-le-FIRST c =
    let p = c.args.packet.now in
    let n = c.args.n in
    let first : take (n - 0) p ≡ first_of n p = grind arith in
    let none : n - n ≡ 0 = omega arith in
    let rest : take (n - n) (drop n p) ≡ rest_of n p = ap (λ k. take k (drop n p)) none ∙ sym (drop_all 82 (take (n + 2) p) (simp length-take (omega arith))) in
    record {
      value = (c.if-not-seals_to.ensures.means.0 refl, sym c.if-not-is_sound.ensures, first, rest);
      gives_back = λ load size e. back p (take (n - 0) p) (take (n - n) (drop n p)) load n first rest size e;
    }

pub returns : goal.returns
returns c =
    let p = c.args.packet.now in
    let n = c.args.n in
    let first : take 80 p ≡ first_of n p = grind arith in
    let rest : take (n + 2 - 82) (drop 82 p) ≡ rest_of n p = between_is p 82 (n + 2) in
    record {
      value = (c.if-not-seals_to.ensures.means.0 refl, sym c.if-not-is_sound.ensures, first, rest);
      gives_back = λ load size e. back p (take 80 p) (take (n + 2 - 82) (drop 82 p)) load n first rest size e;
    }
