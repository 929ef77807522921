-- What a frame is: sound as a symbol, sound as a packet, or unsound with a cause.
use Rattle.std.specs.Prelude.{◌≡◌, ℕ, if◌then◌else◌, List, [], ◌∷◌, length, Ok, Err, Result, ◌==◌, ◌≢◌}
use Rattle.refusal.specs.declared.Refusal.{Refusal}
use Rattle.symbol.specs.declared.Symbol.{Symbol as Fields}
use Rattle.symbol.specs.declared.codes.Cause.{Cause}
use Rattle.symbol.specs.declared.codes.Cause.TheVariants.{SymbolCheck, PacketCheck, InvalidCharacter}
use Rattle.symbol.specs.Layout.{Fits, written_of, read_of}
use Rattle.packet.specs.declared.frame.Kind.{Kind}
use Rattle.packet.specs.declared.frame.Kind.TheVariants.{Symbol, Packet, Unsound}
use Rattle.packet.specs.Crc.{cleared_of}
use Rattle.packet.specs.Header.{stamped_of}
use Rattle.packet.specs.Sealing.{Sealable, sealed_of}
use Rattle.packet.specs.Soundness.{packet_length, sound_of, Sound}

-- Why a frame of n bytes is unsound, where it is: its symbol's check, its packet's check, or a length that neither has.
abbrev pub cause_at : ℕ → Cause
cause_at n = if n == 3 then SymbolCheck else (if packet_length n then PacketCheck else InvalidCharacter)

-- A frame that was read as a symbol is one; any other is a sound packet or unsound.
abbrev pub kind_after : List ℕ → Result Fields Refusal → Kind
kind_after frame (Ok symbol) = Symbol symbol
kind_after frame (Err e) = if sound_of frame then Packet else Unsound (cause_at (length frame))

-- What a frame is.
unfoldable pub kind_of : List ℕ → Kind
kind_of frame = kind_after frame (read_of frame)

-- A frame that is unsound, for some cause.
abbrev pub UnsoundFrame : List ℕ → Type 0
UnsoundFrame frame = (cause : Cause) × (kind_of frame ≡ Unsound cause)

-- A frame is a symbol where it is what that symbol is written as, a packet where it is sound as one,
-- and unsound where it is neither, with the cause that its length gives.
abbrev pub Is : List ℕ → Kind → Type 0
Is frame (Symbol s) = Fits s × (frame ≡ written_of s)
Is frame Packet = Sound frame
Is frame (Unsound cause) = (cause ≡ cause_at (length frame)) × (Sound frame → ⊥) × ((s : Fields) → Fits s → frame ≢ written_of s)

-- What a symbol is written as is that symbol.
abbrev pub WrittenIsSymbol : Type 0
WrittenIsSymbol = (s : Fields) → Fits s → kind_of (written_of s) ≡ Symbol s

-- A sealed packet is a packet under every ackID.
abbrev pub SealedIsPacket : Type 0
SealedIsPacket = (k : ℕ) (load : List ℕ) → Sealable (length load) → kind_of (stamped_of k (sealed_of load)) ≡ Packet

-- Cleared, it is again as it was sealed.
abbrev pub ClearedIsSealed : Type 0
ClearedIsSealed = (k : ℕ) (load : List ℕ) → Sealable (length load) → cleared_of (stamped_of k (sealed_of load)) ≡ sealed_of load

-- A lone byte is neither.
abbrev pub LoneIsUnsound : Type 0
LoneIsUnsound = (b : ℕ) → kind_of (b ∷ []) ≡ Unsound InvalidCharacter
