-- What is done to the front of a buffer is done to the buffer.
use Rattle.std.proofs.Common.{◌≡◌, ℕ, ◌≤◌, List, ◌++◌, length, take, drop, Ok, Err, Result, ap, ◌∙◌, sym, subst, append_assoc, arith, length-append, length-take-le}
use Rattle.std.proofs.lemmas.List.{take-append-drop, drop-append-le}
use Rattle.std.proofs.lemmas.Bool.{le-ltb}
use Rattle.refusal.specs.declared.Refusal.{Refusal}
use Rattle.refusal.specs.declared.Refusal.TheVariants.{ShortBuffer}
use Rattle.rules.specs.Calls.{refused_if, too_short}
use Rattle.packet.specs.Sealing.{written_over}
use Rattle.port.specs.Promises.{Agrees}
use Rattle.port.proofs.Outcomes.{not_refused}

-- what holds of a call still holds where each half of it follows
agrees_so : {A B : Type 0} (H H' : A → B → Type 0) (R R' : Type 0) (x : Result A Refusal) (r : Result B Refusal) → ((a : A) (b : B) → H a b → H' a b) → (R → R') → Agrees H R x r → Agrees H' R' x r
agrees_so H H' R R' (Ok a) (Ok b) h k agrees = h a b agrees
agrees_so H H' R R' (Ok a) (Err e) h k agrees = agrees
agrees_so H H' R R' (Err e) (Ok b) h k agrees = agrees
agrees_so H H' R R' (Err e) (Err f) h k agrees = (agrees.0, k agrees.1)

-- the buffer b, of which the first 276 bytes were `front` and are `after`
module _ (b front after : List ℕ) (cut : front ≡ take 276 b) (long : 276 ≤ length b) (same : length after ≡ 276) where
  whole : front ++ drop 276 b ≡ b
  whole = ap (λ l. l ++ drop 276 b) cut ∙ take-append-drop 276 b

  length_front : length front ≡ 276
  length_front = ap length cut ∙ length-take-le 276 b long

  pub stays_whole : after ≡ front → after ++ drop 276 b ≡ b
  stays_whole e = ap (λ l. l ++ drop 276 b) e ∙ whole

  pub copied_whole : (f : List ℕ) → after ≡ written_over f front → after ++ drop 276 b ≡ written_over f b
  copied_whole f e =
      let parts = ap length e ∙ length-append f (drop (length f) front) in
      let n = length_front in
      let within : length f ≤ length front = omega arith in
      ap (λ l. l ++ drop 276 b) e
      ∙ append_assoc f (drop (length f) front) (drop 276 b)
      ∙ ap (λ l. f ++ l) (sym (drop-append-le (length f) front (drop 276 b) within) ∙ ap (drop (length f)) whole)

  pub agrees_whole : {A B : Type 0} (H H' : A → B → Type 0) (R R' : Type 0) (x : Result A Refusal) (r : Result B Refusal) → ((a : A) (b : B) → H a b → H' a b) → (R → R') → Agrees H R (refused_if (too_short (length front)) ShortBuffer x) r → Agrees H' R' (refused_if (too_short (length b)) ShortBuffer x) r
  agrees_whole H H' R R' x r h k agrees =
      let enough = le-ltb (length front) 276 (omega (arith, length_front)) in
      not_refused H' R' (too_short (length b)) ShortBuffer x r (le-ltb (length b) 276 long)
      (agrees_so H H' R R' x r h k (subst (λ t. Agrees H R (refused_if t ShortBuffer x) r) enough agrees))
