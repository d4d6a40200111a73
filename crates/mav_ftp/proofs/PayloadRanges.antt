-- Payloads, replies and entries are made of bytes.
use Rattle.std.proofs.Common.{◌≡◌, ◌<◌, ◌≤◌, ℕ, zero, suc, ◌+◌, ◌-◌, ◌/◌, ◌%◌, ◌==◌, nat_le, ◌&&◌, Bool, true, false, if◌then◌else◌, List, [], ◌∷◌, ◌++◌, length, replicate, refl, arith, All}
use Rattle.std.specs.Int.{w16, w32, to_le_bytes}
use Rattle.std.specs.Fmt.{digits, digits_onto, digit_glyph, decimal}
use Rattle.std.specs.List.{list_all}
use Rattle.std.proofs.lemmas.List.Sums.{AllPass-from_list_all}
use Rattle.std.proofs.lemmas.List.{length-append, length-replicate}
use Rattle.std.proofs.lemmas.List.Elements.{All-nil, All-cons, All-append, All-replicate, All-head, All-tail, All-get_or, All-weaker}
use Rattle.mav_ftp.specs.declared.payload.FtpFields.{FtpFields}
use Rattle.mav_ftp.specs.Payload.{fields_of, ftp_header, ftp_payload, most_data, is_name_byte, is_file_name}
use Rattle.mav_ftp.specs.Replies.{next_seq, ack_of, nak_of}
use Rattle.mav_ftp.specs.Files.{File}
use Rattle.mav_ftp.specs.Listing.{entry, entries_within}
use Rattle.mav_ftp.specs.Ranges.{AreBytes, PayloadInRange, FileInRange}

pub by_test : {A : Type 0} (P : A → Type 0) (b : Bool) (x y : A) → (b ≡ true → P x) → (b ≡ false → P y) → P (if b then x else y)
by_test P true x y f g = f refl
by_test P false x y f g = g refl

abbrev is_byte : ℕ → Type 0
is_byte b = b < 256

low_byte : (n : ℕ) → n % 256 < 256
low_byte n = grind arith

four : (a b c d : ℕ) → a < 256 → b < 256 → c < 256 → d < 256 → AreBytes (a ∷ b ∷ c ∷ d ∷ [])
four a b c d ha hb hc hd =
    All-cons is_byte a (b ∷ c ∷ d ∷ []) ha (All-cons is_byte b (c ∷ d ∷ []) hb (All-cons is_byte c (d ∷ []) hc (All-cons is_byte d [] hd (All-nil is_byte))))

two : (a b : ℕ) → a < 256 → b < 256 → AreBytes (a ∷ b ∷ [])
two a b ha hb = All-cons is_byte a (b ∷ []) ha (All-cons is_byte b [] hb (All-nil is_byte))

two_bytes : (n : ℕ) → AreBytes (to_le_bytes w16 n)
two_bytes n = two (n % 256) (n / 256 % 256) (low_byte n) (low_byte (n / 256))

pub four_bytes : (n : ℕ) → AreBytes (to_le_bytes w32 n)
four_bytes n =
    four (n % 256) (n / 256 % 256) (n / 65536 % 256) (n / 16777216 % 256) (low_byte n) (low_byte (n / 256)) (low_byte (n / 65536)) (low_byte (n / 16777216))

-- the numbers of one byte
pub record FieldsInRange (f : FtpFields) : Type 0 where
  pub session : f.session < 256
  pub opcode : f.opcode < 256
  pub size : f.size < 256
  pub req_opcode : f.req_opcode < 256

header_in_range : (f : FtpFields) → FieldsInRange f → AreBytes (ftp_header f)
header_in_range f h =
    All-append is_byte (to_le_bytes w16 f.seq) (f.session ∷ f.opcode ∷ f.size ∷ f.req_opcode ∷ 0 ∷ 0 ∷ to_le_bytes w32 f.offset) (two_bytes f.seq)
    (All-append is_byte (f.session ∷ f.opcode ∷ f.size ∷ f.req_opcode ∷ []) (0 ∷ 0 ∷ to_le_bytes w32 f.offset)
    (four f.session f.opcode f.size f.req_opcode h.session h.opcode h.size h.req_opcode)
    (All-append is_byte (0 ∷ 0 ∷ []) (to_le_bytes w32 f.offset) (two 0 0 (omega arith) (omega arith)) (four_bytes f.offset)))

payload_size : (f : FtpFields) (bytes : List ℕ) → length bytes ≤ most_data → length (ftp_payload f bytes) ≡ 251
payload_size f bytes short =
    let rest : length (bytes ++ replicate (239 - length bytes) 0) ≡ length bytes + length {A = ℕ} (replicate (239 - length bytes) 0) = length-append bytes (replicate (239 - length bytes) 0) in
    let zeros : length {A = ℕ} (replicate (239 - length bytes) 0) ≡ 239 - length bytes = length-replicate {A = ℕ} (239 - length bytes) 0 in
    let whole : length (ftp_payload f bytes) ≡ 12 + length (bytes ++ replicate (239 - length bytes) 0) = length-append (ftp_header f) (bytes ++ replicate (239 - length bytes) 0) in
    omega (arith, short, rest, zeros, whole)

pub payload_in_range : (f : FtpFields) (bytes : List ℕ) → FieldsInRange f → length bytes ≤ most_data → AreBytes bytes → PayloadInRange (ftp_payload f bytes)
payload_in_range f bytes h short all = record {
  size = payload_size f bytes short;
  bytes =
      All-append is_byte (ftp_header f) (bytes ++ replicate (239 - length bytes) 0) (header_in_range f h)
      (All-append is_byte bytes (replicate (239 - length bytes) 0) all (All-replicate is_byte (239 - length bytes) 0 (omega arith)));
}

-- a request's numbers
pub fields_in_range : (p : List ℕ) → PayloadInRange p → FieldsInRange (fields_of p)
fields_in_range p h = record {
  session = All-get_or is_byte p 2 0 (omega (arith, h.size)) h.bytes;
  opcode = All-get_or is_byte p 3 0 (omega (arith, h.size)) h.bytes;
  size = All-get_or is_byte p 4 0 (omega (arith, h.size)) h.bytes;
  req_opcode = All-get_or is_byte p 5 0 (omega (arith, h.size)) h.bytes;
}

pub ack_in_range : (r : FtpFields) (session : ℕ) (bytes : List ℕ) → FieldsInRange r → session < 256 → length bytes ≤ most_data → AreBytes bytes
    → PayloadInRange (ack_of r session bytes)
ack_in_range r session bytes h small short all =
    payload_in_range (record { seq = next_seq r.seq; session = session; opcode = 128; size = length bytes; req_opcode = r.opcode; offset = r.offset }) bytes
    (record { session = small; opcode = omega arith; size = omega (arith, short); req_opcode = h.opcode }) short all

pub nak_in_range : (r : FtpFields) (error : ℕ) → FieldsInRange r → error < 256 → PayloadInRange (nak_of r error)
nak_in_range r error h small =
    payload_in_range (record { seq = next_seq r.seq; session = r.session; opcode = 129; size = 1; req_opcode = r.opcode; offset = r.offset }) (error ∷ [])
    (record { session = h.session; opcode = omega arith; size = omega arith; req_opcode = h.opcode }) (omega arith)
    (All-cons is_byte error [] small (All-nil is_byte))

-- entries of a listing

glyph : (n : ℕ) → digit_glyph false (n % 10) < 256
glyph n = grind arith

onto_in_range : (k n : ℕ) (more : List ℕ) → AreBytes more → AreBytes (digits_onto k 10 false n more)
onto_in_range zero n more h = h
onto_in_range (suc k) n more h =
    let next : AreBytes (digit_glyph false (n % 10) ∷ more) = All-cons is_byte (digit_glyph false (n % 10)) more (glyph n) h in
    by_test AreBytes (n / 10 == 0) (digit_glyph false (n % 10) ∷ more) (digits_onto k 10 false (n / 10) (digit_glyph false (n % 10) ∷ more)) (λ _. next)
    (λ _. onto_in_range k (n / 10) (digit_glyph false (n % 10) ∷ more) next)

decimal_in_range : (n : ℕ) → AreBytes (decimal n)
unfolding digits
decimal_in_range n = onto_in_range 64 n [] (All-nil is_byte)

-- a name is made of bytes
name_byte : (b : ℕ) → is_name_byte b ≡ true → b < 256
name_byte b h = grind arith

both : (a b : Bool) → (a && b) ≡ true → (a ≡ true) × (b ≡ true)
both true true h = (refl, refl)
both true false h = absurd (cc)
both false b h = absurd (cc)

name_bytes : (name : List ℕ) → is_file_name name ≡ true → AreBytes name
name_bytes name h =
    All-weaker (λ b. is_name_byte b ≡ true) is_byte name_byte name
    (AllPass-from_list_all is_name_byte name (both (nat_le 1 (length name) && nat_le (length name) 64) (list_all is_name_byte name) h).1)

entry_in_range : (f : File) → FileInRange f → AreBytes (entry f)
entry_in_range f h =
    let size = decimal (length f.bytes) in
    All-cons is_byte 70 (f.name ++ (9 ∷ (size ++ 0 ∷ []))) (omega arith)
    (All-append is_byte f.name (9 ∷ (size ++ 0 ∷ [])) (name_bytes f.name h.name)
    (All-cons is_byte 9 (size ++ 0 ∷ []) (omega arith)
    (All-append is_byte size (0 ∷ []) (decimal_in_range (length f.bytes)) (All-cons is_byte 0 [] (omega arith) (All-nil is_byte)))))

pub entries_in_range : (room : ℕ) (fs : List File) → All FileInRange fs → AreBytes (entries_within room fs)
entries_in_range room [] h = All-nil is_byte
entries_in_range room (f ∷ fs) h =
    by_test AreBytes (nat_le (length (entry f)) room) (entry f ++ entries_within (room - length (entry f)) fs) []
    (λ _. All-append is_byte (entry f) (entries_within (room - length (entry f)) fs) (entry_in_range f (All-head FileInRange f fs h))
    (entries_in_range (room - length (entry f)) fs (All-tail FileInRange f fs h))) (λ _. All-nil is_byte)

fits_room : (m n : ℕ) → nat_le m n ≡ true → m ≤ n
fits_room m n h = grind arith

pub entries_short : (room : ℕ) (fs : List File) → length (entries_within room fs) ≤ room
entries_short room [] = omega arith
entries_short room (f ∷ fs) =
    by_test (λ es. length es ≤ room) (nat_le (length (entry f)) room) (entry f ++ entries_within (room - length (entry f)) fs) []
    (λ t. omega (arith, fits_room (length (entry f)) room t, entries_short (room - length (entry f)) fs, length-append (entry f) (entries_within (room - length (entry f)) fs)))
    (λ _. omega arith)
