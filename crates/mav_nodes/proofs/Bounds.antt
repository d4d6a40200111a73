-- Bounds of what a frame contains: its checksum, its signature and its payload.
use Rattle.std.proofs.Common.{◌≡◌, ℕ, zero, suc, ◌/◌, ◌%◌, ◌^◌, ◌<◌, ◌==◌, ◌&&◌, nat_lt, Bool, true, false, if◌then◌else◌, List, [], ◌∷◌, length, take, fold, bit_xor, refl, arith}
use Rattle.std.specs.Prelude.{All, flat_map, slice_index}
use Rattle.std.specs.Int.{to_be_bytes, w32}
use Rattle.std.proofs.lemmas.Bool.Decides.{nat_tests}
use Rattle.std.proofs.lemmas.List.{length-take-le}
use Rattle.std.proofs.lemmas.List.Elements.{All-nil, All-cons, All-append, All-head, All-tail, All-take, All-from_recursion}
use lib.Bits.{xor_lt}
use Rattle.x25_check.specs.Check.{after_bit, bits_of, after_byte, check_from, check}
use Rattle.sha2.specs.Sha256.{digest_bytes, sha256}
use Rattle.sha2.proofs.Facts256.{length-sha256}
use Rattle.mav_frame.specs.Packet.{Packet}
use Rattle.mav_sign.specs.Signing.{signature_of}
use Rattle.field_layout.specs.Definition.{Definition, full_len_of}
use Rattle.field_layout.specs.Types.{element_size}
use Rattle.field_layout.specs.WireOrder.{Placed, wire_order}
use Rattle.field_layout.specs.Payload.{le_bytes, field_bytes, words_at, serialised, kept, without_trailing_zeros, truncated, FitsLayout}
use Rattle.field_layout.proofs.Serialised.{length-serialised}
use Rattle.field_layout.proofs.Truncation.{truncated_le}
use Rattle.mav_profile.specs.Profile.{profile_definitions}
use Rattle.mav_sign.proofs.Profiles.{profile_has}
use Rattle.mav_messages.specs.declared.messages.Message.{Message}
use Rattle.mav_messages.specs.Messages.{definition_of, values_of}

abbrev pub Small : ℕ → Type 0
Small x = x < 256

-- ---- a checksum has 16 bits

stepped : (t : Bool) (half : ℕ) → half < 2 ^ 16 → (if t then bit_xor half 0x8408 else half) < 2 ^ 16
stepped true half small = xor_lt 16 half 0x8408 small (omega arith)
stepped false half small = small

bits_small : (bits : List ℕ) (register : ℕ) → register < 2 ^ 16 → fold after_bit register bits < 2 ^ 16
bits_small [] register small = small
bits_small (bit ∷ bits) register small =
    bits_small bits (after_bit register bit) (stepped (bit_xor register bit % 2 == 1) (register / 2) (omega arith))

byte_small : (register byte : ℕ) → register < 2 ^ 16 → after_byte register byte < 2 ^ 16
unfolding after_byte
byte_small register byte small = bits_small (bits_of 8 byte) register small

bytes_small : (bytes : List ℕ) (register : ℕ) → register < 2 ^ 16 → check_from register bytes < 2 ^ 16
bytes_small [] register small = small
bytes_small (byte ∷ bytes) register small = bytes_small bytes (after_byte register byte) (byte_small register byte small)

pub check_small : (bytes : List ℕ) → check bytes < 2 ^ 16
check_small bytes = bytes_small bytes 0xFFFF (omega arith)

-- ---- a signature has six bytes

word_small : (word : ℕ) → All Small (to_be_bytes w32 word)
word_small word =
    All-from_recursion Small (to_be_bytes w32 word) (omega arith, (omega arith, (omega arith, (omega arith, tt))))

digest_small : (hash : List ℕ) (count : ℕ) → All Small (digest_bytes hash count)
unfolding digest_bytes
digest_small hash zero = All-nil Small
digest_small hash (suc count) =
    All-append Small (digest_bytes hash count) (to_be_bytes w32 (slice_index hash count)) (digest_small hash count) (word_small (slice_index hash count))

sha256_small : (message : List ℕ) → All Small (sha256 message)
unfolding sha256
sha256_small message = digest_small _ 8

pub signature_small : (key : List ℕ) (packet : Packet) (link stamp : ℕ) → All Small (signature_of key packet link stamp)
signature_small key packet link stamp = All-take Small 6 _ (sha256_small _)

six_of : (bytes : List ℕ) → length bytes ≡ 32 → length (take 6 bytes) ≡ 6
six_of bytes long = length-take-le 6 bytes (omega (arith, long))

pub signature_length : (key : List ℕ) (packet : Packet) (link stamp : ℕ) → length (signature_of key packet link stamp) ≡ 6
signature_length key packet link stamp = six_of _ (length-sha256 _)

-- ---- a payload has bytes

le_small : (size word : ℕ) → All Small (le_bytes size word)
le_small zero word = All-nil Small
le_small (suc size) word = All-cons Small (word % 256) (le_bytes size (word / 256)) (omega arith) (le_small size (word / 256))

joined_small : {X : Type 0} (f : X → List ℕ) → ((x : X) → All Small (f x)) → (xs : List X) → All Small (flat_map f xs)
joined_small f each [] = All-nil Small
joined_small f each (x ∷ xs) = All-append Small (f x) (flat_map f xs) (each x) (joined_small f each xs)

serialised_small : (def : Definition) (values : List (List ℕ)) → All Small (serialised def values)
serialised_small def values =
    joined_small (λ (field : Placed). field_bytes field.1 (words_at values field.0)) (λ field. joined_small (le_bytes (element_size field.1.ty)) (le_small (element_size field.1.ty)) (words_at values field.0)) (wire_order def)

byte_kept : (t : Bool) (byte : ℕ) → byte < 256 → All Small (if t then [] else byte ∷ [])
byte_kept true byte small = All-nil Small
byte_kept false byte small = All-cons Small byte [] small (All-nil Small)

kept_small : (byte : ℕ) (rest : List ℕ) → byte < 256 → All Small rest → All Small (kept byte rest)
kept_small byte [] small all = byte_kept (byte == 0) byte small
kept_small byte (next ∷ rest) small all = All-cons Small byte (next ∷ rest) small all

trimmed_small : (bytes : List ℕ) → All Small bytes → All Small (without_trailing_zeros bytes)
trimmed_small [] all = All-nil Small
trimmed_small (byte ∷ rest) all =
    kept_small byte (without_trailing_zeros rest) (All-head Small byte rest all) (trimmed_small rest (All-tail Small byte rest all))

truncated_small : (bytes : List ℕ) → All Small bytes → All Small (truncated bytes)
truncated_small [] all = All-nil Small
truncated_small (byte ∷ rest) all =
    All-cons Small byte (without_trailing_zeros rest) (All-head Small byte rest all) (trimmed_small rest (All-tail Small byte rest all))

pub payload_small : (message : Message) → All Small (truncated (serialised (definition_of message) (values_of message)))
payload_small message =
    truncated_small (serialised (definition_of message) (values_of message)) (serialised_small (definition_of message) (values_of message))

-- ---- a message of the profile fits a frame

abbrev FitsNumbers : Definition → Type 0
FitsNumbers def = (nat_lt def.id (2 ^ 24) && nat_lt (full_len_of def) 256) ≡ true

profile_fits : All FitsNumbers profile_definitions
profile_fits =
    All-from_recursion FitsNumbers profile_definitions (refl, (refl, (refl, (refl, (refl, (refl, (refl, (refl, (refl, (refl, (refl, (refl, (refl, (refl, (refl, (refl, (refl, (refl, (refl, tt)))))))))))))))))))

both_below : (a b c d : ℕ) → (nat_lt a b && nat_lt c d) ≡ true → (a < b) × (c < d)
both_below a b c d test = grind (arith, nat_tests)

pub id_small : (message : Message) → (definition_of message).id < 2 ^ 24
id_small message =
    (both_below (definition_of message).id (2 ^ 24) (full_len_of (definition_of message)) 256 (profile_has FitsNumbers profile_fits message)).0

pub payload_short : (message : Message) → FitsLayout (definition_of message) (values_of message) → length (truncated (serialised (definition_of message) (values_of message))) < 256
payload_short message fits =
    let def = definition_of message in
    let bytes = serialised def (values_of message) in
    let short : full_len_of def < 256 = (both_below def.id (2 ^ 24) (full_len_of def) 256 (profile_has FitsNumbers profile_fits message)).1 in
    omega (arith, short, length-serialised def (values_of message) fits, truncated_le bytes)
