-- What a frame is, by what it is read as. Assumes nothing.
use Rattle.std.proofs.Common.{◌≡◌, ℕ, ◌<◌, List, [], ◌∷◌, length, Ok, Err, refl, ap, ◌∙◌, arith}
use Rattle.std.proofs.lemmas.Bool.{cond-true}
use Rattle.refusal.specs.declared.Refusal.TheVariants.{Unsound as UnsoundBytes}
use Rattle.symbol.specs.declared.Symbol.{Symbol as Fields}
use Rattle.symbol.specs.declared.codes.Cause.TheVariants.{InvalidCharacter}
use Rattle.symbol.specs.Layout.{Fits, written_of, read_of, unchecked_of}
use Rattle.symbol.proofs.Bytes.{reads_written}
use Rattle.packet.specs.declared.frame.Kind.TheVariants.{Symbol, Packet, Unsound}
use Rattle.packet.specs.Crc.{cleared_of}
use Rattle.packet.specs.Header.{stamped_of}
use Rattle.packet.specs.Sealing.{Sealable, sealed_of}
use Rattle.packet.specs.Soundness.{sound_of, Sound}
use Rattle.packet.specs.Frames.{kind_after, kind_of}
use Rattle.symbol.proofs.Register.{check_lt}
use Rattle.packet.proofs.Sounds.{length_parts, sound_length, sound_same}
use Rattle.packet.proofs.Sealed.{sealed_sound, cleared_sealed}
use Rattle.packet.proofs.Fields.{cleared_stamped}

-- a written symbol is read, and is that symbol
pub read_written : (s : Fields) → Fits s → read_of (written_of s) ≡ Ok s
read_written s f = reads_written s f (check_lt (unchecked_of s))

pub kind_written : (s : Fields) → Fits s → kind_of (written_of s) ≡ Symbol s
unfolding kind_of
kind_written s f = ap (kind_after (written_of s)) (read_written s f)

-- more than three bytes are no symbol
read_more : (f : List ℕ) → 3 < length f → read_of f ≡ Err UnsoundBytes
read_more [] h = absurd (omega arith)
read_more (a ∷ []) h = absurd (omega arith)
read_more (a ∷ b ∷ []) h = absurd (omega arith)
read_more (a ∷ b ∷ c ∷ []) h = absurd (omega arith)
read_more (a ∷ b ∷ c ∷ d ∷ f) h = refl

-- a sound packet is a packet, whatever its ackID
pub kind_sound : (p : List ℕ) → Sound p → kind_of p ≡ Packet
unfolding kind_of
kind_sound p h =
    let n = length_parts (length p) (sound_length p h) in
    ap (kind_after p) (read_more p (omega arith)) ∙ cond-true (sound_of p) _ _ h

pub kind_sealed : (k : ℕ) (load : List ℕ) → Sealable (length load) → kind_of (stamped_of k (sealed_of load)) ≡ Packet
kind_sealed k load h =
    kind_sound (stamped_of k (sealed_of load))
    (sound_same (stamped_of k (sealed_of load)) (sealed_of load) (cleared_stamped k (sealed_of load)) ∙ sealed_sound load h)

-- one byte is neither
pub kind_byte : (b : ℕ) → kind_of (b ∷ []) ≡ Unsound InvalidCharacter
unfolding kind_of sound_of
kind_byte b = refl

-- a packet that was stamped is the packet again once it is cleared
pub restored : (k : ℕ) (load : List ℕ) → Sealable (length load) → cleared_of (stamped_of k (sealed_of load)) ≡ sealed_of load
restored k load h = cleared_stamped k (sealed_of load) ∙ cleared_sealed load h
