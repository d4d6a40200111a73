-- A payload is read back.
use Rattle.std.proofs.Common.{◌≡◌, ◌<◌, ◌^◌, ◌-◌, ℕ, List, ◌++◌, length, take, replicate, ap, ◌∙◌}
use Rattle.std.specs.Int.{w32, from_le_bytes, to_le_bytes}
use Rattle.std.proofs.Math.Seq.{take-append_seam}
use Rattle.std.proofs.lemmas.Nat.{from_le_bytes-to_le_bytes_2, from_le_bytes-to_le_bytes_4}
use Rattle.mav_ftp.specs.declared.payload.FtpFields.{FtpFields}
use Rattle.mav_ftp.specs.Payload.{fields_of, sized_data, ftp_payload}

abbrev with_numbers : FtpFields → ℕ → ℕ → FtpFields
with_numbers f seq offset = record { seq = seq; session = f.session; opcode = f.opcode; size = f.size; req_opcode = f.req_opcode; offset = offset }

pub numbers_back : (f : FtpFields) (bytes : List ℕ) → f.seq < 65536 → f.offset < 2 ^ 32 → fields_of (ftp_payload f bytes) ≡ f
numbers_back f bytes seq offset =
    ap (λ x. with_numbers f x (from_le_bytes w32 (to_le_bytes w32 f.offset))) (from_le_bytes-to_le_bytes_2 f.seq seq)
    ∙ ap (with_numbers f f.seq) (from_le_bytes-to_le_bytes_4 f.offset offset)

pub offset_back : (f : FtpFields) (bytes : List ℕ) → f.offset < 2 ^ 32 → (fields_of (ftp_payload f bytes)).offset ≡ f.offset
offset_back f bytes offset = from_le_bytes-to_le_bytes_4 f.offset offset

pub data_back : (f : FtpFields) (bytes : List ℕ) → f.size ≡ length bytes → sized_data (ftp_payload f bytes) ≡ bytes
data_back f bytes size =
    ap (λ n. take n (bytes ++ replicate (239 - length bytes) 0)) size ∙ take-append_seam bytes (replicate (239 - length bytes) 0)
