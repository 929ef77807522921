-- How digits spell a load, and letters a plan. Assumes nothing.
use Rattle.std.proofs.Common.{◌≡◌, ℕ, zero, suc, ◌+◌, ◌-◌, ◌*◌, ◌<◌, List, [], ◌∷◌, ◌++◌, map, length, All, slice_index_or, take, drop, slice_set, replicate, Err, sym, refl, ap, ◌∙◌, arith, length-set}
use Rattle.std.specs.Char.{digit_value}
use Rattle.std.specs.Simd.{first_chunks}
use Rattle.std.proofs.lemmas.List.Elements.{All-head, All-tail}
use Rattle.std.proofs.lemmas.List.{length-map, get_or-map, map_push, take_more_set, take_more, drop-set-lt, drop-drop, drop-replicate}
use Rattle.lane.specs.declared.noisy.Fate.{Fate}
use Rattle.lane.specs.declared.noisy.Fate.TheVariants.{Keep}
use Rattle.refusal.specs.declared.Refusal.{Refusal}
use Rattle.refusal.specs.declared.Refusal.TheVariants.{NoSuchLine}
use Rattle.refusal.specs.Naming.{Names}
use Rattle.script.specs.Letters.{fate_letter}
use Rattle.script.specs.Parts.{Plans}
use Rattle.script.specs.Reading.{bytes_of}

-- the byte that a pair of digits spells
abbrev pub byte_of : List ℕ → ℕ
byte_of pair = digit_value (slice_index_or pair 0 0) * 16 + digit_value (slice_index_or pair 1 0)

pub pairs_spell : (k : ℕ) (ds : List ℕ) → length ds ≡ k * 2 → map byte_of (first_chunks 2 k ds) ≡ bytes_of ds
pairs_spell zero [] long = refl
pairs_spell zero (d ∷ ds) long = absurd (omega arith)
pairs_spell (suc k) [] long = absurd (omega arith)
pairs_spell (suc k) (d ∷ []) long = absurd (omega arith)
pairs_spell (suc k) (high ∷ low ∷ ds) long = ap (λ bytes. (digit_value high * 16 + digit_value low) ∷ bytes) (pairs_spell k ds (omega arith))

abbrev pub Digit : ℕ → Type 0
Digit d = digit_value d < 16

-- and what is in a pair is a digit where all are
pub pair_digit : (k : ℕ) (ds : List ℕ) (i j : ℕ) → length ds ≡ k * 2 → i < k → j < 2 → All Digit ds → Digit (slice_index_or (slice_index_or (first_chunks 2 k ds) i []) j 0)
pair_digit zero ds i j long lt two each = absurd (omega arith)
pair_digit (suc k) [] i j long lt two each = absurd (omega arith)
pair_digit (suc k) (d ∷ []) i j long lt two each = absurd (omega arith)
pair_digit (suc k) (high ∷ low ∷ ds) zero zero long lt two each = All-head Digit high (low ∷ ds) each
pair_digit (suc k) (high ∷ low ∷ ds) zero (suc zero) long lt two each = All-head Digit low ds (All-tail Digit high (low ∷ ds) each)
pair_digit (suc k) (high ∷ low ∷ ds) zero (suc (suc j)) long lt two each = absurd (omega arith)
pair_digit (suc k) (high ∷ low ∷ ds) (suc i) j long lt two each =
    pair_digit k ds i j (omega arith) (omega arith) two (All-tail Digit low ds (All-tail Digit high (low ∷ ds) each))

-- the letters before place i are entered into the plan, and the rest keeps
abbrev pub Entered : List ℕ → List Fate → ℕ → Type 0
Entered letters fates i = (length fates ≡ 64) × (map fate_letter (take i fates) ≡ take i letters) × (drop i fates ≡ replicate (64 - i) Keep)

pub plan_more : (letters : List ℕ) (fates : List Fate) (i : ℕ) (fate : Fate) → i < length letters → i < 64 → fate_letter fate ≡ slice_index_or letters i 0 → Entered letters fates i → Entered letters (slice_set fates i fate) (i + 1)
plan_more letters fates i fate within room is (size, front, back) =
    let less : 64 - i - 1 ≡ 64 - (i + 1) = omega arith in (
      length-set fates i fate ∙ size,
      ap (map fate_letter) (take_more_set fates i fate (omega arith))
          ∙ map_push fate_letter (take i fates) fate
          ∙ (λ j. front j ++ (is j ∷ []))
          ∙ sym (take_more letters i 0 within),
      drop-set-lt (i + 1) fates i fate (omega arith)
          ∙ sym (drop-drop 1 i fates)
          ∙ ap (drop 1) back
          ∙ drop-replicate 1 (64 - i) Keep
          ∙ ap (λ n. replicate n Keep) less,
    )

-- no entries are spelt where a letter tells no fate
pub no_entry : (letters : List ℕ) (i : ℕ) (refusal : Refusal) → i < length letters → refusal ≡ NoSuchLine → Names {E = Refusal} fate_letter (slice_index_or letters i 0) (Err refusal) → Plans letters (Err refusal)
no_entry letters i refusal within twelve none = (
  twelve,
  λ entries fates. λ is. λ fills.
      let long : length letters ≡ length entries = ap length is ∙ length-map entries fate_letter in
      none (slice_index_or entries i Keep) (sym (ap (λ l. slice_index_or l i 0) is ∙ get_or-map fate_letter entries i Keep 0 (omega arith))),
)
