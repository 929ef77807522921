-- What a write into a ring, a read, and some steps on do to its places as read from the head on.
use Rattle.std.specs.Prelude.{slice_index_or}
use Rattle.std.proofs.Common.{append-nil, min, ◌≡◌, ℕ, ◌+◌, ◌-◌, ◌<◌, ◌≤◌, List, [], ◌∷◌, ◌++◌, length, take, drop, set, Some, sym, ap, ◌∙◌, inl, inr, append_assoc, arith}
use lib.Seq.{take-set-lt}
use Rattle.std.proofs.Math.Seq.{take-append-add}
use Rattle.std.proofs.lemmas.Bool.{cases_lt}
use Rattle.std.proofs.lemmas.List.{length-append, length-take, length-take-le, length-drop, length-set, take-append-le, take_more_set, take-set-le, drop-set-lt, drop-set-add, set-append_left, set-append_right, get_or_append_left, get_or-append_right, get_or-drop, get_or-take, drop-append-le, drop_at, drop_more, drop-drop, drop-take, take-append-drop, take-take, take_all, drop_all}
use Rattle.fifo.specs.Turned.{turned, At}
use Rattle.fifo.specs.Held.{oldest}

module _ {T : Type 0} where
  pub length_turned : (h : ℕ) (ps : List T) → length (turned h ps) ≡ length ps
  length_turned h ps = simp (length-append, length-take, length-drop) (omega arith)

  pub length_ring : (h n : ℕ) (ps : List T) → n ≤ length ps → length (take n (turned h ps)) ≡ n
  length_ring h n ps le = length-take n (turned h ps) ∙ omega (arith, length_turned h ps)

  -- past the places, a ring begins at the first
  pub turned_past : (h : ℕ) (ps : List T) → length ps ≤ h → turned h ps ≡ ps
  turned_past h ps le = simp (drop_all, take_all)

  pub turned_set : (h k i : ℕ) (ps : List T) (x : T) → At h k (length ps) i → k < length ps → turned h (set ps i x) ≡ set (turned h ps) k x
  turned_set h k i ps x at lt =
      elim (cases_lt h (length ps)) [
        | inl inside ↦ elim (cases_lt (h + k) (length ps)) [
          | inl on ↦
              let is : i ≡ h + k = at.0 on in
              let a : drop h (set ps (h + k) x) ≡ set (drop h ps) k x = drop-set-add h ps k x in
              let b : take h (set ps (h + k) x) ≡ take h ps = take-set-le h ps (h + k) x (omega arith) in
              let e : set (drop h ps ++ take h ps) k x ≡ set (drop h ps) k x ++ take h ps = set-append_left (drop h ps) (take h ps) k x (simp length-drop (omega arith)) in
              cc
          | inr past ↦
              let is : i ≡ k - (length ps - h) = omega (arith, at.1 inside past) in
              let a : drop h (set ps i x) ≡ drop h ps = drop-set-lt h ps i x (omega arith) in
              let b : take h (set ps i x) ≡ set (take h ps) i x = take-set-lt h ps i x (omega arith) in
              let e : set (drop h ps ++ take h ps) k x ≡ drop h ps ++ set (take h ps) (k - (length ps - h)) x = set-append_right (drop h ps) (take h ps) (length ps - h) k x (length-drop h ps) (omega arith) in
              cc
        ]
        | inr out ↦
            let is : i ≡ k = at.2 out in
            let a : turned h ps ≡ ps = turned_past h ps out in
            let b : turned h (set ps i x) ≡ set ps i x = turned_past h (set ps i x) (simp length-set out) in
            cc
      ]

  pub turned_get_or : (h k i : ℕ) (ps : List T) (d : T) → At h k (length ps) i → k < length ps → slice_index_or (turned h ps) k d ≡ slice_index_or ps i d
  turned_get_or h k i ps d at lt =
      elim (cases_lt h (length ps)) [
        | inl inside ↦ elim (cases_lt (h + k) (length ps)) [
          | inl on ↦ get_or_append_left (drop h ps) (take h ps) d k (simp length-drop (omega arith)) ∙ get_or-drop h ps k d ∙ ap (λ j. slice_index_or ps j d) (sym (at.0 on))
          | inr past ↦
              let is : k - (length ps - h) ≡ i = omega (arith, at.1 inside past) in
              get_or-append_right (drop h ps) (take h ps) (length ps - h) k d (length-drop h ps) (omega arith) ∙ get_or-take h ps (k - (length ps - h)) d (omega arith) ∙ ap (λ j. slice_index_or ps j d) is
        ]
        | inr out ↦ ap (λ l. slice_index_or l k d) (turned_past h ps out) ∙ ap (λ j. slice_index_or ps j d) (sym (at.2 out))
      ]

  drop_past : (n k : ℕ) (xs ys : List T) → length xs ≡ k → k ≤ n → drop n (xs ++ ys) ≡ drop (n - k) ys
  drop_past n k xs ys is le =
      let e : k + (n - k) ≡ n = omega arith in
      ap (λ j. drop j (xs ++ ys)) (sym e) ∙ sym (drop-drop (n - k) k (xs ++ ys)) ∙ ap (drop (n - k)) (drop_at xs ys k is)

  same_front : (m i h : ℕ) (ps : List T) → h ≤ i → i < length ps → m + (i - h) ≤ length ps → take m (turned i ps) ≡ take m (drop i ps ++ take h (take i ps))
  same_front m i h ps hi lt le =
      let t : take h (take i ps) ++ drop h (take i ps) ≡ take i ps = take-append-drop h (take i ps) in
      let a : (drop i ps ++ take h (take i ps)) ++ drop h (take i ps) ≡ drop i ps ++ (take h (take i ps) ++ drop h (take i ps)) = append_assoc (drop i ps) (take h (take i ps)) (drop h (take i ps)) in
      let e : take m ((drop i ps ++ take h (take i ps)) ++ drop h (take i ps)) ≡ take m (drop i ps ++ take h (take i ps)) = take-append-le m (drop i ps ++ take h (take i ps)) (drop h (take i ps)) (simp (length-append, length-drop, length-take) (omega arith)) in
      cc

  -- d places on, what is left of the places comes first
  pub turned_on : (h d i m : ℕ) (ps : List T) → At h d (length ps) i → m + d ≤ length ps → take m (turned i ps) ≡ take m (drop d (turned h ps))
  turned_on h d i m ps at le =
      elim (cases_lt h (length ps)) [
        | inl inside ↦ elim (cases_lt (h + d) (length ps)) [
          | inl on ↦
              let is : i ≡ h + d = at.0 on in
              let a : drop d (turned h ps) ≡ drop d (drop h ps) ++ take h ps = drop-append-le d (drop h ps) (take h ps) (simp length-drop (omega arith)) in
              let b : drop d (drop h ps) ≡ drop (h + d) ps = drop-drop d h ps in
              let front : take m (turned i ps) ≡ take m (drop i ps ++ take h (take i ps)) = same_front m i h ps (omega arith) (omega arith) (omega arith) in
              let t : take h (take i ps) ≡ take h ps = take-take h i ps (omega arith) in
              cc
          | inr past ↦
              let is : d - (length ps - h) ≡ i = omega (arith, at.1 inside past) in
              let a : drop d (turned h ps) ≡ drop i (take h ps) = drop_past d (length ps - h) (drop h ps) (take h ps) (length-drop h ps) (omega arith) ∙ ap (λ j. drop j (take h ps)) is in
              let whole : take h ps ++ drop h ps ≡ ps = take-append-drop h ps in
              let b : drop i (take h ps ++ drop h ps) ≡ drop i (take h ps) ++ drop h ps = drop-append-le i (take h ps) (drop h ps) (simp length-take (omega arith)) in
              let long : m ≤ length (drop i (take h ps)) = simp (length-drop, length-take) (omega arith) in
              let e1 : drop i ps ≡ drop i (take h ps) ++ drop h ps = ap (drop i) (sym whole) ∙ b in
              let e2 : turned i ps ≡ drop i (take h ps) ++ (drop h ps ++ take i ps) = ap (λ l. l ++ take i ps) e1 ∙ append_assoc (drop i (take h ps)) (drop h ps) (take i ps) in
              let e3 : take m (drop i (take h ps) ++ (drop h ps ++ take i ps)) ≡ take m (drop i (take h ps)) = take-append-le m (drop i (take h ps)) (drop h ps ++ take i ps) long in
              cc
        ]
        | inr out ↦
            let is : i ≡ d = at.2 out in
            let a : turned h ps ≡ ps = turned_past h ps out in
            let b : take m (turned d ps) ≡ take m (drop d ps) = take-append-le m (drop d ps) (take d ps) (simp length-drop (omega arith)) in
            cc
      ]

  -- the first n, once the next place is written
  pub ring_put : (h n i : ℕ) (ps : List T) (x : T) → At h n (length ps) i → n < length ps → take (n + 1) (turned h (set ps i x)) ≡ take n (turned h ps) ++ x ∷ []
  ring_put h n i ps x at lt = ap (take (n + 1)) (turned_set h n i ps x at lt) ∙ take_more_set (turned h ps) n x (omega (arith, length_turned h ps))

  -- the first n without the first d
  pub ring_drop : (h d i n : ℕ) (ps : List T) → At h d (length ps) i → d ≤ n → n ≤ length ps → take (n - d) (turned i ps) ≡ drop d (take n (turned h ps))
  ring_drop h d i n ps at dn le =
      let e : d + (n - d) ≡ n = omega arith in
      turned_on h d i (n - d) ps at (omega arith) ∙ sym (drop-take d (n - d) (turned h ps)) ∙ ap (λ j. drop d (take j (turned h ps))) e

  pub ring_get_or : (h n k i : ℕ) (ps : List T) (d : T) → At h k (length ps) i → k < n → n ≤ length ps → slice_index_or (take n (turned h ps)) k d ≡ slice_index_or ps i d
  ring_get_or h n k i ps d at kn le = get_or-take n (turned h ps) k d kn ∙ turned_get_or h k i ps d at (omega arith)

  -- the oldest, and the rest
  pub ring_take : (h n i j : ℕ) (ps : List T) (d : T) → At h 0 (length ps) i → At h 1 (length ps) j → 0 < n → n ≤ length ps → take n (turned h ps) ≡ slice_index_or ps i d ∷ take (n - 1) (turned j ps)
  ring_take h n i j ps d at0 at1 pos le =
      let ring = take n (turned h ps) in
      let long = length_ring h n ps le in
      let a : ring ≡ slice_index_or ring 0 d ∷ drop (0 + 1) ring = drop_more ring 0 d (omega arith) in
      let b : slice_index_or ring 0 d ≡ slice_index_or ps i d = ring_get_or h n 0 i ps d at0 pos le in
      let e : take (n - 1) (turned j ps) ≡ drop 1 ring = ring_drop h 1 j n ps at1 pos le in
      cc

  -- what comes k after the oldest of what is held, of which there may be said to be more than there are places
  pub ring_nth : (h n k i : ℕ) (ps : List T) (d : T) → At h k (length ps) i → k < length (take n (turned h ps)) → oldest (drop k (take n (turned h ps))) ≡ Some (slice_index_or ps i d)
  ring_nth h n k i ps d at lt =
      let ring = take n (turned h ps) in
      let long = length_turned h ps in
      let some : k < n = omega (arith, length-take n (turned h ps)) in
      let places : k < length ps = omega (arith, length-take n (turned h ps)) in
      let a : drop k ring ≡ slice_index_or ring k d ∷ drop (k + 1) ring = drop_more ring k d lt in
      let b : slice_index_or ring k d ≡ slice_index_or ps i d = get_or-take n (turned h ps) k d some ∙ turned_get_or h k i ps d at places in
      let e : oldest (drop k ring) ≡ Some (slice_index_or ring k d) = ap oldest a in
      cc

  take_min : (m : ℕ) (xs : List T) → take (min m (length xs)) xs ≡ take m xs
  take_min m xs =
      elim (cases_lt m (length xs)) [
        | inl lt ↦ let e : min m (length xs) ≡ m = omega arith in ap (λ k. take k xs) e
        | inr ge ↦ let e : min m (length xs) ≡ length xs = omega arith in ap (λ k. take k xs) e ∙ take_all (length xs) xs (omega arith) ∙ sym (take_all m xs ge)
      ]

  -- the first m of two lists, as the first of the one and the first of the other
  pub take_parts : (m i j : ℕ) (xs ys : List T) → i ≡ min m (length xs) → j ≡ min (m - i) (length ys) → take i xs ++ take j ys ≡ take m (xs ++ ys)
  take_parts m i j xs ys is js =
      elim (cases_lt (length xs) m) [
        | inl more ↦
            let all : take i xs ≡ xs = take_all i xs (omega arith) in
            let rest : take j ys ≡ take (m - length xs) ys = ap (λ k. take k ys) (let e : j ≡ min (m - length xs) (length ys) = omega arith in e) ∙ take_min (m - length xs) ys in
            let whole : take (length xs + (m - length xs)) (xs ++ ys) ≡ xs ++ take (m - length xs) ys = take-append-add xs ys (m - length xs) in
            let sum : length xs + (m - length xs) ≡ m = omega arith in
            (λ k. all k ++ rest k) ∙ sym whole ∙ ap (λ k. take k (xs ++ ys)) sum
        | inr few ↦
            let one : i ≡ m = omega arith in
            let none : j ≡ 0 = omega arith in
            (λ k. take (one k) xs ++ take (none k) ys) ∙ append-nil (take m xs) ∙ sym (take-append-le m xs ys few)
      ]

  -- from the head or, where that is past them, from the first
  pub turned_least : (h m : ℕ) (ps : List T) → m ≡ min h (length ps) → drop m ps ++ take m ps ≡ turned h ps
  turned_least h m ps is =
      elim (cases_lt h (length ps)) [
        | inl lt ↦ let e : m ≡ h = omega arith in ap (λ k. turned k ps) e
        | inr past ↦ turned_past m ps (omega arith) ∙ sym (turned_past h ps past)
      ]

  pub take_least : (m : ℕ) (xs : List T) → take (length (take m xs)) xs ≡ take m xs
  take_least m xs =
      elim (cases_lt m (length xs)) [
        | inl lt ↦ ap (λ k. take k xs) (length-take-le m xs (omega arith))
        | inr ge ↦
            let a : take m xs ≡ xs = take_all m xs ge in
            let b : take (length xs) xs ≡ xs = take_all (length xs) xs (omega arith) in
            cc
      ]
