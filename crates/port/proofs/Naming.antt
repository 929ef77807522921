-- Which slots some records name.
use Rattle.std.proofs.Common.{◌≡◌, ℕ, zero, suc, ◌<◌, ◌≤◌, Bool, true, false, cond, ◌||◌, eqb, ◌≢◌, List, [], ◌∷◌, ◌++◌, map, length, sym, refl, ap, ◌∙◌, arith}
use Rattle.std.proofs.lemmas.Bool.{eqb-true, eqb-false, ne_eqb, or_parts}
use Rattle.std.proofs.lemmas.List.{map_push}
use Rattle.std.proofs.lemmas.List.Folds.{list_any-append}
use Rattle.port.specs.declared.record.WaitingSlot.{WaitingSlot}
use Rattle.port.specs.declared.slots.Slots.{Slots}
use Rattle.port.specs.Slots.{front_in}
use Rattle.port.specs.Waiting.{recorded}
use Rattle.port.specs.Inner.{is_named}

-- some records in two parts
pub named_parts : (slot : ℕ) (older newer all : List WaitingSlot) → older ++ newer ≡ all → (is_named slot older || is_named slot newer) ≡ is_named slot all
named_parts slot older newer all is = sym (list_any-append (λ r. eqb r.slot slot) older newer) ∙ ap (is_named slot) is

-- the records without the first that names a slot
without : ℕ → List WaitingSlot → List WaitingSlot
without slot [] = []
without slot (r ∷ rs) = cond (eqb r.slot slot) rs (r ∷ without slot rs)

without_length : (slot : ℕ) (rs : List WaitingSlot) → is_named slot rs ≡ true → length rs ≡ suc (length (without slot rs))
unfolding without
without_length slot [] e = let z : ◌≡◌ {A = ℕ} 0 1 = cc in absurd (omega arith)
without_length slot (r ∷ rs) e = go (without_length slot rs) (eqb r.slot slot) e
  where
    go : (is_named slot rs ≡ true → length rs ≡ suc (length (without slot rs))) → (b : Bool) → (b || is_named slot rs) ≡ true → suc (length rs) ≡ suc (length (cond b rs (r ∷ without slot rs)))
    go rest true h = refl
    go rest false h = ap suc (rest h)

without_others : (slot other : ℕ) (rs : List WaitingSlot) → other ≢ slot → is_named other (without slot rs) ≡ is_named other rs
unfolding without
without_others slot other [] ne = refl
without_others slot other (r ∷ rs) ne = go (without_others slot other rs ne) (eqb r.slot slot) refl
  where
    go : is_named other (without slot rs) ≡ is_named other rs → (b : Bool) → eqb r.slot slot ≡ b → is_named other (cond b rs (r ∷ without slot rs)) ≡ (eqb r.slot other || is_named other rs)
    go rest true h =
        let at : r.slot ≡ slot = eqb-true r.slot slot h in
        ap (λ (b : Bool). b || is_named other rs) (sym (ne_eqb r.slot other (λ e. ne (sym e ∙ at))))
    go rest false h = ap (λ (b : Bool). eqb r.slot other || b) rest

-- m slots are named by at least m records
pub named_all : (m : ℕ) (rs : List WaitingSlot) → ((j : ℕ) → j < m → is_named j rs ≡ true) → m ≤ length rs
named_all zero rs all = omega arith
named_all (suc m) rs all =
    let one = without_length m rs (all m (omega arith)) in
    let rest : m ≤ length (without m rs) = named_all m (without m rs) (λ j lt. let ne : j ≢ m = (λ e. omega arith) in without_others m j rs ne ∙ all j (omega arith)) in
    omega arith

-- a slot that no record names may change, and the packets that they are of do not
pub others_stay : (old new : Slots 8) (slot : ℕ) (rs : List WaitingSlot) → is_named slot rs ≡ false → ((j n : ℕ) → (j ≡ slot → ⊥) → front_in new j n ≡ front_in old j n) → map (recorded new) rs ≡ map (recorded old) rs
others_stay old new slot [] free others = refl
others_stay old new slot (r ∷ rs) free others =
    let parts = or_parts (eqb r.slot slot) (is_named slot rs) free in
    let here : recorded new r ≡ recorded old r = others r.slot r.len (eqb-false r.slot slot parts.0) in
    let rest : map (recorded new) rs ≡ map (recorded old) rs = others_stay old new slot rs parts.1 others in
    cc

-- one more packet waits, in a slot that no record named
pub waits_more : (old new : Slots 8) (rs rs' : List WaitingSlot) (r : WaitingSlot) (p : List ℕ) → is_named r.slot rs ≡ false → ((j n : ℕ) → (j ≡ r.slot → ⊥) → front_in new j n ≡ front_in old j n) → recorded new r ≡ p → rs' ≡ rs ++ r ∷ [] → map (recorded new) rs' ≡ map (recorded old) rs ++ p ∷ []
waits_more old new rs rs' r p free others here more =
    ap (map (recorded new)) more ∙ map_push (recorded new) rs r ∙ ap (λ (x : List ℕ). map (recorded new) rs ++ x ∷ []) here ∙ ap (λ (l : List (List ℕ)). l ++ p ∷ []) (others_stay old new r.slot rs free others)
