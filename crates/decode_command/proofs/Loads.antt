-- What is held becomes less with each event, and so do bounds on counts.
use Rattle.std.proofs.Common.{◌≡◌, ◌≤◌, ◌<◌, ◌+◌, ℕ, List, [], ◌++◌, sym, ap, subst, arith, append-nil, length, drop, length-drop}
use Rattle.decode_command.specs.Decodes.{Decoding, decoding_load}

pub same_load : (a b : ℕ) → a ≡ b → a ≤ b
same_load a b is = omega (arith, is)

pub fewer_held : (bytes left : List ℕ) (size : ℕ) → left ≡ drop size bytes → 0 < size → size ≤ length bytes → length left < length bytes
fewer_held bytes left size gone some within = subst (λ (b : List ℕ). length b < length bytes) (sym gone) (omega (arith, length-drop size bytes, some, within))

pub room_more : (n : ℕ) → n < 280 → n < 288
room_more n few = omega (arith, few)

-- nothing was told
pub none_told : (has : List ℕ → Type 0) (text told : List ℕ) → has told → (more : List ℕ) × (text ≡ text ++ more) × has (told ++ more)
none_told has text told h = ([], sym (append-nil text), subst has (sym (append-nil told)) h)

-- those of `decode`
pub decoded_less : (old new : Decoding) (size : ℕ) → new.reader.bytes ≡ drop size old.reader.bytes → size ≤ length old.reader.bytes
    → new.offset ≡ old.offset + size → new.frames + new.skipped ≤ old.frames + old.skipped + size → decoding_load new ≤ decoding_load old
decoded_less old new size gone within offset counts = omega (arith, length-drop size old.reader.bytes, ap length gone, within, offset, counts)
