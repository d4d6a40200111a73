-- The payload of FILE_TRANSFER_PROTOCOL (MAVLink guide, File Transfer Protocol: Payload Format).
use Rattle.std.specs.Prelude.{ℕ, ◌-◌, ◌==◌, ◌&&◌, ◌||◌, nat_le, Bool, List, [], ◌∷◌, ◌++◌, length, take, drop}
use Rattle.std.specs.Prelude.{replicate, slice_index}
use Rattle.std.specs.Int.{w16, w32, from_le_bytes, to_le_bytes}
use Rattle.std.specs.List.{list_all}
use Rattle.mav_ftp.specs.declared.payload.FtpFields.{FtpFields}

-- a payload has 251 bytes: a header of 12, and at most 239 of data
abbrev pub payload_bytes : ℕ
payload_bytes = 251

abbrev pub header_bytes : ℕ
header_bytes = 12

abbrev pub most_data : ℕ
most_data = 239

-- this profile's limits: the bytes of a name and of a file
abbrev pub most_name : ℕ
most_name = 64

abbrev pub most_file : ℕ
most_file = 1048576

-- opcodes
abbrev pub terminate_session : ℕ
terminate_session = 1

abbrev pub reset_sessions : ℕ
reset_sessions = 2

abbrev pub list_directory : ℕ
list_directory = 3

abbrev pub open_file_ro : ℕ
open_file_ro = 4

abbrev pub read_file : ℕ
read_file = 5

abbrev pub create_file : ℕ
create_file = 6

abbrev pub write_file : ℕ
write_file = 7

abbrev pub remove_file : ℕ
remove_file = 8

abbrev pub ack : ℕ
ack = 128

abbrev pub nak : ℕ
nak = 129

-- error codes of a NAK
abbrev pub fail : ℕ
fail = 1

abbrev pub invalid_data_size : ℕ
invalid_data_size = 3

abbrev pub invalid_session : ℕ
invalid_session = 4

abbrev pub no_sessions_available : ℕ
no_sessions_available = 5

abbrev pub end_of_file : ℕ
end_of_file = 6

abbrev pub unknown_command : ℕ
unknown_command = 7

abbrev pub file_exists : ℕ
file_exists = 8

abbrev pub file_not_found : ℕ
file_not_found = 10

-- the numbers of a payload, each with its lowest byte first
abbrev pub fields_of : List ℕ → FtpFields
fields_of p = record {
  seq = from_le_bytes w16 (slice_index p 0 ∷ slice_index p 1 ∷ []);
  session = slice_index p 2;
  opcode = slice_index p 3;
  size = slice_index p 4;
  req_opcode = slice_index p 5;
  offset = from_le_bytes w32 (slice_index p 8 ∷ slice_index p 9 ∷ slice_index p 10 ∷ slice_index p 11 ∷ []);
}

-- its data: all 239 bytes, and those that its size counts
abbrev pub data_of : List ℕ → List ℕ
data_of p = drop header_bytes p

abbrev pub sized_data : List ℕ → List ℕ
sized_data p = take (slice_index p 4) (data_of p)

-- the header, with burst_complete and padding 0
abbrev pub ftp_header : FtpFields → List ℕ
ftp_header f =
    to_le_bytes w16 f.seq ++ (f.session ∷ f.opcode ∷ f.size ∷ f.req_opcode ∷ 0 ∷ 0 ∷ []) ++ to_le_bytes w32 f.offset

-- the payload of these numbers and this data, with zeros after it
abbrev pub ftp_payload : FtpFields → List ℕ → List ℕ
ftp_payload f bytes = ftp_header f ++ (bytes ++ replicate (most_data - length bytes) 0)

-- a name of a file: 1 to 64 bytes out of A to Z, a to z, 0 to 9, `.`, `_` and `-`
abbrev pub is_name_byte : ℕ → Bool
is_name_byte b =
    (nat_le 65 b && nat_le b 90) || ((nat_le 97 b && nat_le b 122) || ((nat_le 48 b && nat_le b 57)
    || ((b == 46) || ((b == 95) || (b == 45)))))

abbrev pub is_file_name : List ℕ → Bool
is_file_name name = (nat_le 1 (length name) && nat_le (length name) most_name) && list_all is_name_byte name
