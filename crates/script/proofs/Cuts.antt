-- How a script falls into lines. Assumes nothing.
use Rattle.std.proofs.Common.{◌≡◌, ℕ, zero, suc, ◌+◌, ◌<◌, ◌≤◌, Bool, if◌then◌else◌, ◌==◌, List, [], ◌∷◌, ◌++◌, length, slice_index_or, take, drop, All, flat_map, position, nat_lt, Some, None, sym, refl, ap, ◌∙◌, inl, inr, add-one, arith, length-append, length-drop, eq-eqb, ne_eqb, true-eqb, false-eqb}
use Rattle.std.proofs.lemmas.Bool.{cases_eq}
use Rattle.std.proofs.lemmas.Bool.Decides.{nat_tests}
use Rattle.std.specs.List.{position_or_len}
use Rattle.std.proofs.lemmas.List.Elements.{All-nil, All-cons, All-head, All-tail}
use Rattle.std.proofs.lemmas.List.Quantifiers.{position-Some}
use Rattle.std.proofs.lemmas.List.Sums.{fails_before_first}
use Rattle.std.proofs.lemmas.List.{append_assoc, take-append-drop, drop_more, take_all, drop_all}
use Rattle.script.specs.Lines.{before, lines_of, ended, Whole, AreLines, LinesStand, Splits}

-- a line feed ends a line at once, and any other byte is the first of its line
feed : (c : ℕ) (cs : List ℕ) → c ≡ 10 → lines_of (c ∷ cs) ≡ [] ∷ lines_of cs
unfolding lines_of
feed c cs is = ap (λ b. if b then [] ∷ lines_of cs else before c (lines_of cs)) (eq-eqb c 10 is)

other : (c : ℕ) (cs : List ℕ) → (c ≡ 10 → ⊥) → lines_of (c ∷ cs) ≡ before c (lines_of cs)
unfolding lines_of
other c cs isnt = ap (λ b. if b then [] ∷ lines_of cs else before c (lines_of cs)) (ne_eqb c 10 isnt)

pub lines_none : lines_of [] ≡ []
unfolding lines_of
lines_none = refl

-- the first line goes up to the first line feed
lines_cut : (s : List ℕ) (n : ℕ) → 0 < length s → n ≤ length s → ((k : ℕ) → k < n → slice_index_or s k 0 ≡ 10 → ⊥) → (n < length s → slice_index_or s n 0 ≡ 10) → lines_of s ≡ take n s ∷ lines_of (drop (suc n) s)
lines_cut [] n some within clear found = absurd (omega arith)
lines_cut (c ∷ cs) zero some within clear found = feed c cs (found (omega arith))
lines_cut (c ∷ []) (suc zero) some within clear found = other c [] (clear 0 (omega arith)) ∙ ap (before c) lines_none ∙ ap (λ ls. (c ∷ []) ∷ ls) (sym lines_none)
lines_cut (c ∷ []) (suc (suc n)) some within clear found = absurd (omega arith)
lines_cut (c ∷ d ∷ ds) (suc n) some within clear found =
    other c (d ∷ ds) (clear 0 (omega arith))
    ∙ ap (before c) (lines_cut (d ∷ ds) n (omega arith) (omega arith) (λ k h. clear (suc k) (omega arith)) (λ h. found (omega arith)))

-- so what `first_line` gives is the first line and the script after its line feed
abbrev pub Feeds : ℕ → Bool
Feeds c = c == 10

abbrev pub Cut : List ℕ → List ℕ → List ℕ → Type 0
Cut s line rest = Splits s line rest × (lines_of s ≡ line ∷ lines_of rest) × (length rest < length s)

pub cut_found : (s line rest : List ℕ) (n : ℕ) → position Feeds s ≡ Some n → line ≡ take n s → rest ≡ drop (n + 1) s → Cut s line rest
cut_found s line rest n at front back =
    let (inside, is, none) = position-Some Feeds s n 0 at in
    let found : slice_index_or s n 0 ≡ 10 = true-eqb _ _ (sym is) in
    let feeds : drop n s ≡ 10 ∷ rest = drop_more s n 0 inside ∙ (λ j. found j ∷ sym back j) in (
      inl (sym (take-append-drop n s) ∙ (λ j. sym front j ++ feeds j) ∙ sym (append_assoc line (10 ∷ []) rest)),
      lines_cut s n (omega arith) (omega arith) (λ k h. false-eqb _ _ (sym (none k h))) (λ h. found)
          ∙ (λ j. sym front j ∷ lines_of ((ap (λ k. drop k s) (sym (add-one n)) ∙ sym back) j)),
      rw back (simp length-drop (omega arith)),
    )

-- and a script that has no line feed is one line
no_place : (i n : ℕ) → (if nat_lt i n then Some i else None) ≡ None → n ≤ i
no_place i n none = grind (arith, nat_tests)

pub cut_none : (s line rest : List ℕ) → 0 < length s → position Feeds s ≡ None → line ≡ s → rest ≡ [] → Cut s line rest
cut_none s line rest some none front back =
    let far : length s ≤ position_or_len Feeds s = no_place _ _ none in (
      inr (sym front, back),
      lines_cut s (length s) some (omega arith) (λ k h. false-eqb _ _ (sym (fails_before_first Feeds s k 0 (omega arith)))) (λ h. absurd (omega arith))
          ∙ (λ j. (take_all (length s) s (omega arith) ∙ sym front) j ∷ lines_of ((drop_all (suc (length s)) s (omega arith) ∙ sym back) j)),
      rw back some,
    )

-- one more byte in front of lines that make up the rest
abbrev NoFeed : ℕ → Type 0
NoFeed c = c ≡ 10 → ⊥

one : (c : ℕ) → NoFeed c → All Whole ((c ∷ []) ∷ [])
one c isnt = All-cons Whole (c ∷ []) [] (All-cons NoFeed c [] isnt (All-nil NoFeed)) (All-nil Whole)

more : (c : ℕ) (l : List ℕ) (ls : List (List ℕ)) → NoFeed c → All Whole (l ∷ ls) → All Whole ((c ∷ l) ∷ ls)
more c l ls isnt each = All-cons Whole (c ∷ l) ls (All-cons NoFeed c l isnt (All-head Whole l ls each)) (All-tail Whole l ls each)

step : (c : ℕ) (cs : List ℕ) (ls : List (List ℕ)) → (c ≡ 10 → ⊥) → AreLines cs ls → AreLines (c ∷ cs) (before c ls)
step c cs [] isnt (each, inl e) = (one c isnt, inr ([], c, ap (λ l. c ∷ l) (sym e), isnt, ap (λ l. c ∷ l ++ (10 ∷ [])) e))
step c cs [] isnt (each, inr (front, d, split, last, e)) = absurd (omega (arith, simp length-append at (ap length e)))
step c cs (l ∷ ls) isnt (each, inl e) = (more c l ls isnt each, inl (ap (λ l. c ∷ l) e))
step c cs (l ∷ ls) isnt (each, inr (front, d, split, last, e)) = (more c l ls isnt each, inr (c ∷ front, d, ap (λ l. c ∷ l) split, last, ap (λ l. c ∷ l) e))

-- the same with a line feed in front
fed : (c : ℕ) (cs : List ℕ) (ls : List (List ℕ)) → c ≡ 10 → AreLines cs ls → AreLines (c ∷ cs) ([] ∷ ls)
fed c cs ls is (each, inl e) = (All-cons Whole [] ls (All-nil NoFeed) each, inl (λ j. sym is j ∷ e j))
fed c cs ls is (each, inr (front, d, split, last, e)) = (All-cons Whole [] ls (All-nil NoFeed) each, inr (c ∷ front, d, ap (λ l. c ∷ l) split, last, λ j. sym is j ∷ e j))

are_lines : (s : List ℕ) → AreLines s (lines_of s)
are_lines [] = rw lines_none (All-nil Whole, inl refl)
are_lines (c ∷ cs) =
    elim (cases_eq c 10) [ inl is ↦ rw (feed c cs is) (fed c cs (lines_of cs) is (are_lines cs)) | inr isnt ↦ rw (other c cs isnt) (step c cs (lines_of cs) isnt (are_lines cs)) ]

-- a line with its line feed, and lines that have all of theirs, fall apart again
line_back : (l rest : List ℕ) → Whole l → lines_of (ended l ++ rest) ≡ l ∷ lines_of rest
line_back [] rest whole = feed 10 rest refl
line_back (c ∷ l) rest whole = other c (ended l ++ rest) (All-head NoFeed c l whole) ∙ ap (before c) (line_back l rest (All-tail NoFeed c l whole))

lines_back : (ls : List (List ℕ)) → All Whole ls → lines_of (flat_map ended ls) ≡ ls
lines_back [] each = lines_none
lines_back (l ∷ ls) each =
    line_back l (flat_map ended ls) (All-head Whole l ls each) ∙ ap (λ ms. l ∷ ms) (lines_back ls (All-tail Whole l ls each))

-- the last line may lack its line feed
open_end : (front : List ℕ) (c : ℕ) → (c ≡ 10 → ⊥) → lines_of ((front ++ (c ∷ [])) ++ (10 ∷ [])) ≡ lines_of (front ++ (c ∷ []))
open_end [] c isnt = other c (10 ∷ []) isnt ∙ ap (before c) (feed 10 [] refl ∙ ap (λ ls. [] ∷ ls) lines_none) ∙ sym (other c [] isnt ∙ ap (before c) lines_none)
open_end (d ∷ front) c isnt =
    elim (cases_eq d 10) [
      | inl is ↦ feed d _ is ∙ ap (λ ls. [] ∷ ls) (open_end front c isnt) ∙ sym (feed d _ is)
      | inr not ↦ other d _ not ∙ ap (before d) (open_end front c isnt) ∙ sym (other d _ not)
    ]

only_lines : (s : List ℕ) (ls : List (List ℕ)) → AreLines s ls → ls ≡ lines_of s
only_lines s ls (each, inl e) = sym (lines_back ls each) ∙ ap lines_of e
only_lines s ls (each, inr (front, c, split, last, e)) =
    sym (lines_back ls each) ∙ ap lines_of (e ∙ ap (λ l. l ++ (10 ∷ [])) split) ∙ open_end front c last ∙ ap lines_of (sym split)

pub lines_stand : (s : List ℕ) → LinesStand s
lines_stand s = (are_lines s, only_lines s)
