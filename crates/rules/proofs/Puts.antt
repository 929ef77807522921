-- What a put, whatever the lane makes of the frame, leaves of the lists of packets and replies under way.
use Rattle.std.proofs.Common.{◌≡◌, ℕ, suc, ◌<◌, ◌≤◌, ◌⊎◌, List, [], ◌∷◌, ◌++◌, map, length, get_or, sym, ap, ◌∙◌, subst, inl, inr, arith}
use Rattle.std.proofs.lemmas.List.{append_assoc, map-append, get_or_append_left, get_or_push, length_push}
use Rattle.std.proofs.lemmas.Bool.{cases_lt}
use Rattle.symbol.specs.declared.codes.Cause.{Cause}
use Rattle.rules.specs.Wire.{Packet, Frame, FrameLength, Wire}
use Rattle.rules.specs.Wire.Seen.{unsound}
use Rattle.rules.specs.Link.{Fate, Possible, put}
use Rattle.rules.specs.Link.Fate.{keep, spoil, lose}
use Rattle.rules.proofs.Replies.{Silent, Replies, replies_drop, replies_insert}
use Rattle.rules.proofs.Packets.{NoPacket, Packets, packets_push_other}

-- each frame has 1 to 276 bytes
abbrev pub AllSized : List Frame → Type 0
AllSized frames = (k : ℕ) → k < length frames → FrameLength (get_or frames k [])

push_sized : (l : List Frame) (f : Frame) → FrameLength f → AllSized l → AllSized (l ++ (f ∷ []))
push_sized l f s a k lt = go (cases_lt k (length l))
  where
    go : (k < length l) ⊎ (length l ≤ k) → FrameLength (get_or (l ++ (f ∷ [])) k [])
    go (inl u) = subst FrameLength (sym (get_or_append_left l (f ∷ []) [] k u)) (a k u)
    go (inr u) = let e : length l ≡ k = omega (arith, length_push l f) in subst FrameLength (sym (get_or_push l f [] k e)) s

pub tail_sized : (f : Frame) (l : List Frame) → AllSized (f ∷ l) → AllSized l
tail_sized f l a k lt = a (suc k) (omega arith)

module _ (w : Wire) where
  pub put_sized : (fate : Fate) (l : List Frame) (f : Frame) → Possible w fate → FrameLength f → AllSized l → AllSized (put fate f l)
  put_sized keep l f ok s a = push_sized l f s a
  put_sized (spoil u) l f ok s a = push_sized l u ok.0 a
  put_sized lose l f ok s a = a

  -- one frame more, at the end of a lane, and before the replies that are pending
  pub push_read : (l : List Frame) (f : Frame) → map w.read (l ++ (f ∷ [])) ≡ map w.read l ++ (w.read f ∷ [])
  push_read l f = map-append w.read l (f ∷ [])

  pub push_before : (l : List Frame) (f : Frame) (ps : List Frame) → map w.read ((l ++ (f ∷ [])) ++ ps) ≡ map w.read l ++ (w.read f ∷ map w.read ps)
  push_before l f ps = ap (map w.read) (append_assoc l (f ∷ []) ps) ∙ map-append w.read l (f ∷ ps)

  pub spoilt_other : (u : Frame) → ((c : Cause) × (w.read u ≡ unsound c)) → NoPacket (w.read u)
  spoilt_other u e = subst NoPacket (sym e.1) tt

  spoilt_silent : (u : Frame) → ((c : Cause) × (w.read u ≡ unsound c)) → Silent (w.read u)
  spoilt_silent u e = subst Silent (sym e.1) tt

  -- packets: a frame that is none
  pub put_other : {n : ℕ} {accepted : List Packet} {top floor : ℕ} (fate : Fate) (l : List Frame) (f : Frame) → Possible w fate → NoPacket (w.read f)
      → Packets n accepted top floor (map w.read l) → Packets n accepted top floor (map w.read (put fate f l))
  put_other {n} {accepted} {top} {floor} keep l f ok o a = subst (Packets n accepted top floor) (sym (push_read l f)) (packets_push_other (w.read f) o a)
  put_other {n} {accepted} {top} {floor} (spoil u) l f ok o a = subst (Packets n accepted top floor) (sym (push_read l u)) (packets_push_other (w.read u) (spoilt_other u ok.1) a)
  put_other lose l f ok o a = a

  -- replies: a frame that carries no number, and the first of those that are pending
  pub put_silent : {n hi lo : ℕ} (fate : Fate) (l : List Frame) (f : Frame) (ps : List Frame) → Possible w fate → Silent (w.read f)
      → Replies n hi lo (map w.read (l ++ ps)) → Replies n hi lo (map w.read (put fate f l ++ ps))
  put_silent {n} {hi} {lo} keep l f ps ok s a = subst (Replies n hi lo) (sym (push_before l f ps)) (replies_insert (map w.read l) (w.read f) (map w.read ps) s (subst (Replies n hi lo) (map-append w.read l ps) a))
  put_silent {n} {hi} {lo} (spoil u) l f ps ok s a = subst (Replies n hi lo) (sym (push_before l u ps)) (replies_insert (map w.read l) (w.read u) (map w.read ps) (spoilt_silent u ok.1) (subst (Replies n hi lo) (map-append w.read l ps) a))
  put_silent lose l f ps ok s a = a

  lose_pending : {n hi lo : ℕ} (l : List Frame) (f : Frame) (ps : List Frame) → Replies n hi lo (map w.read (l ++ (f ∷ ps))) → Replies n hi lo (map w.read (l ++ ps))
  lose_pending {n} {hi} {lo} l f ps a =
      subst (Replies n hi lo) (sym (map-append w.read l ps)) (replies_drop (map w.read l) (w.read f) (map w.read ps) (subst (Replies n hi lo) (map-append w.read l (f ∷ ps)) a))

  pub put_pending : {n hi lo : ℕ} (fate : Fate) (l : List Frame) (f : Frame) (ps : List Frame) → Possible w fate
      → Replies n hi lo (map w.read (l ++ (f ∷ ps))) → Replies n hi lo (map w.read (put fate f l ++ ps))
  put_pending {n} {hi} {lo} keep l f ps ok a = subst (λ (x : List Frame). Replies n hi lo (map w.read x)) (sym (append_assoc l (f ∷ []) ps)) a
  put_pending (spoil u) l f ps ok a = put_silent (spoil u) l u ps ok (spoilt_silent u ok.1) (lose_pending l f ps a)
  put_pending lose l f ps ok a = lose_pending l f ps a
