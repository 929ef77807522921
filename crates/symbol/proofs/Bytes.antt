-- Three bytes and the fields in them. Assumes nothing.
use Rattle.std.proofs.Common.{◌≡◌, ℕ, ◌+◌, ◌*◌, ◌/◌, ◌%◌, ◌<◌, true, cond, eqb, List, [], ◌∷◌, length, get_or, Ok, Err, Result, sym, refl, ap, ◌∙◌, arith, eq-eqb, ne_eqb}
use Rattle.refusal.specs.declared.Refusal.{Refusal}
use Rattle.refusal.specs.declared.Refusal.TheVariants.{Unsound}
use Rattle.symbol.specs.declared.Symbol.{Symbol}
use Rattle.symbol.specs.Check.{check_of}
use Rattle.symbol.specs.Layout.{Fits, unchecked_of, written_of, fields_of, read_of}

-- the fields of what was written are those that were written
pub fields_written : (s : Symbol) (k : ℕ) → Fits s → k < 32 → fields_of (s.stype0 * 32 + s.parameter0) (s.parameter1 * 8 + s.stype1) (s.cmd * 32 + k) ≡ s
fields_written s k f h =
    let a : (s.stype0 * 32 + s.parameter0) / 32 ≡ s.stype0 = omega arith in
    let b : (s.stype0 * 32 + s.parameter0) % 32 ≡ s.parameter0 = omega arith in
    let c : (s.parameter1 * 8 + s.stype1) / 8 ≡ s.parameter1 = omega arith in
    let d : (s.parameter1 * 8 + s.stype1) % 8 ≡ s.stype1 = omega arith in
    let e : (s.cmd * 32 + k) / 32 ≡ s.cmd = omega arith in
    λ j. record { stype0 = a j; parameter0 = b j; parameter1 = c j; stype1 = d j; cmd = e j }

-- a written symbol is read as it was
pub reads_written : (s : Symbol) → Fits s → check_of (unchecked_of s) < 32 → read_of (written_of s) ≡ Ok s
reads_written s f h =
    let k = check_of (unchecked_of s) in
    let same = fields_written s k f h in
    let low : (s.cmd * 32 + k) % 32 ≡ k = omega arith in
    let x = fields_of (s.stype0 * 32 + s.parameter0) (s.parameter1 * 8 + s.stype1) (s.cmd * 32 + k) in
    let right : eqb ((s.cmd * 32 + k) % 32) (check_of (unchecked_of x)) ≡ true = eq-eqb _ _ (low ∙ sym (ap (λ y. check_of (unchecked_of y)) same)) in
    let read : Result Symbol Refusal = Err Unsound in
    ap (λ t. cond t (Ok x) read) right ∙ ap Ok same

-- three bytes as a list of three
pub three : (xs : List ℕ) → length xs ≡ 3 → xs ≡ get_or xs 0 0 ∷ get_or xs 1 0 ∷ get_or xs 2 0 ∷ []
three [] h = absurd (omega arith)
three (a ∷ []) h = absurd (omega arith)
three (a ∷ b ∷ []) h = absurd (omega arith)
three (a ∷ b ∷ c ∷ []) h = refl
three (a ∷ b ∷ c ∷ d ∷ xs) h = absurd (omega arith)

module _ (xs : List ℕ) (s : Symbol) (n : length xs ≡ 3) (fields : s ≡ fields_of (get_or xs 0 0) (get_or xs 1 0) (get_or xs 2 0)) where
  read_three : read_of xs ≡ cond (eqb (get_or xs 2 0 % 32) (check_of (unchecked_of s))) (Ok s) (Err Unsound)
  read_three =
      let none : Result Symbol Refusal = Err Unsound in
      ap read_of (three xs n) ∙ (λ j. cond (eqb (get_or xs 2 0 % 32) (check_of (unchecked_of (sym fields j)))) (Ok (sym fields j)) none)

  -- three bytes whose last five bits are their check are the symbol of their fields
  pub read_sound : get_or xs 2 0 % 32 ≡ check_of (unchecked_of s) → read_of xs ≡ Ok s
  read_sound h =
      let none : Result Symbol Refusal = Err Unsound in
      read_three ∙ ap (λ t. cond t (Ok s) none) (eq-eqb _ _ h)

  -- three other bytes are refused
  pub read_spoiled : (get_or xs 2 0 % 32 ≡ check_of (unchecked_of s) → ⊥) → read_of xs ≡ Err Unsound
  read_spoiled h =
      let none : Result Symbol Refusal = Err Unsound in
      read_three ∙ ap (λ t. cond t (Ok s) none) (ne_eqb _ _ h)

  -- and the symbol is written again as the bytes that it was read from
  pub writes_read : get_or xs 2 0 % 32 ≡ check_of (unchecked_of s) → written_of s ≡ xs
  writes_read h =
      let a = get_or xs 0 0 in
      let b = get_or xs 1 0 in
      let c = get_or xs 2 0 in
      let x : a / 32 * 32 + a % 32 ≡ a = omega arith in
      let y : b / 8 * 8 + b % 8 ≡ b = omega arith in
      let z : c / 32 * 32 + c % 32 ≡ c = omega arith in
      let k : check_of (unchecked_of (fields_of a b c)) ≡ c % 32 = sym (ap (λ u. check_of (unchecked_of u)) fields) ∙ sym h in
      ap written_of fields ∙ (λ j. x j ∷ y j ∷ (ap (λ u. c / 32 * 32 + u) k ∙ z) j ∷ []) ∙ sym (three xs n)
