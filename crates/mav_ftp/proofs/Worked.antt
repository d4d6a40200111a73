-- A server's replies, as the MAVLink guide and this profile give them.
use Rattle.std.proofs.Common.{◌≡◌, refl, ℕ, List, [], ◌∷◌, ◌++◌, replicate, Some, zero, suc}
use Rattle.std.specs.Prelude.{codes}
use Rattle.std.specs.Fmt.{digits}
use Rattle.mav_names.specs.declared.names.Stream.{Stream}
use Rattle.mav_ftp.specs.declared.payload.FtpFields.{FtpFields}
use Rattle.mav_ftp.specs.Payload.{fields_of, sized_data, ftp_payload}
use Rattle.mav_ftp.specs.Server.{FilesState, no_files, reply_to, files_after, file_named}

-- a request by its sequence number, session, opcode, size, offset and data
abbrev request : ℕ → ℕ → ℕ → ℕ → ℕ → List ℕ → List ℕ
request seq session opcode size offset bytes =
    ftp_payload (record { seq = seq; session = session; opcode = opcode; size = size; req_opcode = 0; offset = offset }) bytes

-- a reply as its sequence number, session, opcode, the request's opcode, its offset, and its data
abbrev shown_fields : FtpFields → List ℕ → List ℕ
shown_fields f bytes = f.seq ∷ f.session ∷ f.opcode ∷ f.req_opcode ∷ f.offset ∷ bytes

abbrev shown : List ℕ → List ℕ
shown reply = shown_fields (fields_of reply) (sized_data reply)

record Sent : Type 0 where
  from : Stream
  payload : List ℕ

abbrev replies : FilesState → List Sent → List (List ℕ)
replies st [] = []
replies st (s ∷ ss) = shown (reply_to st s.from s.payload) ∷ replies (files_after st s.from s.payload) ss

abbrev after : FilesState → List Sent → FilesState
after st [] = st
after st (s ∷ ss) = after (files_after st s.from s.payload) ss

abbrev station : Stream
station = record { sys = 255; comp = 190; link = 1 }

abbrev other : Stream
other = record { sys = 254; comp = 190; link = 1 }

abbrev asks : List ℕ → Sent
asks payload = record { from = station; payload = payload }

abbrev other_asks : List ℕ → Sent
other_asks payload = record { from = other; payload = payload }

abbrev first_files : List Sent
first_files =
    asks (request 0 0 3 0 0 [])
    ∷ asks (request 2 0 6 1 0 (codes "a"))
    ∷ asks (request 4 0 7 3 0 (1 ∷ 2 ∷ 3 ∷ []))
    ∷ asks (request 6 0 3 0 0 [])
    ∷ asks (request 8 0 1 0 0 [])
    ∷ asks (request 10 0 3 0 0 [])
    ∷ asks (request 12 0 6 1 0 (codes "a"))
    ∷ asks (request 14 0 6 1 0 (codes "b"))
    ∷ asks (request 16 0 7 3 0 (1 ∷ 2 ∷ 3 ∷ []))
    ∷ asks (request 18 0 7 1 4 (9 ∷ []))
    ∷ asks (request 20 0 2 0 0 [])
    ∷ asks (request 22 0 4 1 0 (codes "a"))
    ∷ asks (request 24 0 4 1 0 (codes "a"))
    ∷ asks (request 26 0 4 1 0 (codes "a"))
    ∷ asks (request 28 0 4 1 0 (codes "a"))
    ∷ asks (request 30 0 4 1 0 (codes "a"))
    ∷ asks (request 32 0 15 0 0 [])
    ∷ []

the_first_files : replies no_files first_files
    ≡ (1 ∷ 0 ∷ 129 ∷ 3 ∷ 0 ∷ 6 ∷ [])
    ∷ (3 ∷ 0 ∷ 128 ∷ 6 ∷ 0 ∷ [])
    ∷ (5 ∷ 0 ∷ 128 ∷ 7 ∷ 0 ∷ [])
    ∷ (7 ∷ 0 ∷ 129 ∷ 3 ∷ 0 ∷ 6 ∷ [])
    ∷ (9 ∷ 0 ∷ 128 ∷ 1 ∷ 0 ∷ [])
    ∷ (11 ∷ 0 ∷ 128 ∷ 3 ∷ 0 ∷ 70 ∷ 97 ∷ 9 ∷ 51 ∷ 0 ∷ [])
    ∷ (13 ∷ 0 ∷ 129 ∷ 6 ∷ 0 ∷ 8 ∷ [])
    ∷ (15 ∷ 0 ∷ 128 ∷ 6 ∷ 0 ∷ [])
    ∷ (17 ∷ 0 ∷ 128 ∷ 7 ∷ 0 ∷ [])
    ∷ (19 ∷ 0 ∷ 129 ∷ 7 ∷ 4 ∷ 1 ∷ [])
    ∷ (21 ∷ 0 ∷ 128 ∷ 2 ∷ 0 ∷ [])
    ∷ (23 ∷ 0 ∷ 128 ∷ 4 ∷ 0 ∷ 3 ∷ 0 ∷ 0 ∷ 0 ∷ [])
    ∷ (25 ∷ 1 ∷ 128 ∷ 4 ∷ 0 ∷ 3 ∷ 0 ∷ 0 ∷ 0 ∷ [])
    ∷ (27 ∷ 2 ∷ 128 ∷ 4 ∷ 0 ∷ 3 ∷ 0 ∷ 0 ∷ 0 ∷ [])
    ∷ (29 ∷ 3 ∷ 128 ∷ 4 ∷ 0 ∷ 3 ∷ 0 ∷ 0 ∷ 0 ∷ [])
    ∷ (31 ∷ 0 ∷ 129 ∷ 4 ∷ 0 ∷ 5 ∷ [])
    ∷ (33 ∷ 0 ∷ 129 ∷ 15 ∷ 0 ∷ 7 ∷ [])
    ∷ []
unfolding digits
the_first_files = refl

-- a file of 500 bytes, written in three pieces
abbrev large_file : List Sent
large_file =
    other_asks (request 0 0 6 1 0 (codes "a"))
    ∷ other_asks (request 2 0 7 239 0 (replicate 239 1))
    ∷ other_asks (request 4 0 7 239 239 (replicate 239 2))
    ∷ other_asks (request 6 0 7 22 478 (replicate 22 3))
    ∷ other_asks (request 8 0 1 0 0 [])
    ∷ []

the_large_file : file_named (after no_files large_file) (codes "a") ≡ Some (replicate 239 1 ++ replicate 239 2 ++ replicate 22 3)
the_large_file = refl

-- it is read as it was when it was opened, while another stream removes it and writes it anew
abbrev reads_on : List Sent
reads_on =
    asks (request 0 0 4 1 0 (codes "a"))
    ∷ asks (request 2 0 5 239 0 [])
    ∷ other_asks (request 10 0 8 1 0 (codes "a"))
    ∷ other_asks (request 12 0 6 1 0 (codes "a"))
    ∷ other_asks (request 14 1 7 2 0 (7 ∷ 7 ∷ []))
    ∷ other_asks (request 16 1 1 0 0 [])
    ∷ asks (request 4 0 5 239 239 [])
    ∷ asks (request 4 0 5 239 239 [])
    ∷ asks (request 6 0 5 239 478 [])
    ∷ asks (request 8 0 5 239 500 [])
    ∷ []

the_reads : replies (after no_files large_file) reads_on
    ≡ (1 ∷ 0 ∷ 128 ∷ 4 ∷ 0 ∷ 244 ∷ 1 ∷ 0 ∷ 0 ∷ [])
    ∷ (3 ∷ 0 ∷ 128 ∷ 5 ∷ 0 ∷ replicate 239 1)
    ∷ (11 ∷ 0 ∷ 128 ∷ 8 ∷ 0 ∷ [])
    ∷ (13 ∷ 1 ∷ 128 ∷ 6 ∷ 0 ∷ [])
    ∷ (15 ∷ 1 ∷ 128 ∷ 7 ∷ 0 ∷ [])
    ∷ (17 ∷ 1 ∷ 128 ∷ 1 ∷ 0 ∷ [])
    ∷ (5 ∷ 0 ∷ 128 ∷ 5 ∷ 239 ∷ replicate 239 2)
    ∷ (5 ∷ 0 ∷ 128 ∷ 5 ∷ 239 ∷ replicate 239 2)
    ∷ (7 ∷ 0 ∷ 128 ∷ 5 ∷ 478 ∷ replicate 22 3)
    ∷ (9 ∷ 0 ∷ 129 ∷ 5 ∷ 500 ∷ 6 ∷ [])
    ∷ []
the_reads = refl

the_new_file : file_named (after no_files (large_file ++ reads_on)) (codes "a") ≡ Some (7 ∷ 7 ∷ [])
the_new_file = refl

-- another stream's session: each use of it is error 4
abbrev foreign : List Sent
foreign =
    asks (request 0 0 6 1 0 (codes "a"))
    ∷ other_asks (request 0 0 7 1 0 (1 ∷ []))
    ∷ other_asks (request 2 0 1 0 0 [])
    ∷ other_asks (request 4 0 5 1 0 [])
    ∷ other_asks (request 6 0 2 0 0 [])
    ∷ asks (request 2 0 7 1 0 (1 ∷ []))
    ∷ []

the_foreign : replies no_files foreign
    ≡ (1 ∷ 0 ∷ 128 ∷ 6 ∷ 0 ∷ [])
    ∷ (1 ∷ 0 ∷ 129 ∷ 7 ∷ 0 ∷ 4 ∷ [])
    ∷ (3 ∷ 0 ∷ 129 ∷ 1 ∷ 0 ∷ 4 ∷ [])
    ∷ (5 ∷ 0 ∷ 129 ∷ 5 ∷ 0 ∷ 4 ∷ [])
    ∷ (7 ∷ 0 ∷ 128 ∷ 2 ∷ 0 ∷ [])
    ∷ (3 ∷ 0 ∷ 128 ∷ 7 ∷ 0 ∷ [])
    ∷ []
the_foreign = refl

-- a table of 256 streams
abbrev numbered : ℕ → Stream
numbered n = record { sys = n; comp = 1; link = 0 }

abbrev after_streams : ℕ → FilesState
after_streams zero = no_files
after_streams (suc n) = files_after (after_streams n) (numbered n) (request 0 0 2 0 0 [])

-- one more is refused and not kept, and those that are kept are served
the_last_stream : replies (after_streams 256)
    (other_asks (request 0 0 3 0 0 []) ∷ other_asks (request 0 0 3 0 0 []) ∷ record { from = numbered 0; payload = request 2 0 3 0 0 [] } ∷ [])
    ≡ (1 ∷ 0 ∷ 129 ∷ 3 ∷ 0 ∷ 1 ∷ []) ∷ (1 ∷ 0 ∷ 129 ∷ 3 ∷ 0 ∷ 1 ∷ []) ∷ (3 ∷ 0 ∷ 129 ∷ 3 ∷ 0 ∷ 6 ∷ []) ∷ []
the_last_stream = refl
