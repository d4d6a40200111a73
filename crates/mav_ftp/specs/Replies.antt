-- Replies of a server (MAVLink guide, File Transfer Protocol: ACK and NAK).
use Rattle.std.specs.Prelude.{ℕ, ◌+◌, ◌%◌, List, [], ◌∷◌, length}
use Rattle.mav_ftp.specs.declared.payload.FtpFields.{FtpFields}
use Rattle.mav_ftp.specs.Payload.{ack, nak, ftp_payload}

-- the reply's sequence number is one higher than the request's
abbrev pub next_seq : ℕ → ℕ
next_seq seq = (seq + 1) % 65536

-- a reply to a request, by its opcode, session and data
abbrev pub reply_of : FtpFields → ℕ → ℕ → List ℕ → List ℕ
reply_of r opcode session bytes =
    ftp_payload (record {
      seq = next_seq r.seq;
      session = session;
      opcode = opcode;
      size = length bytes;
      req_opcode = r.opcode;
      offset = r.offset;
    }) bytes

-- an ACK of a session, and a NAK, whose one byte of data is the error
abbrev pub ack_of : FtpFields → ℕ → List ℕ → List ℕ
ack_of r session bytes = reply_of r ack session bytes

abbrev pub nak_of : FtpFields → ℕ → List ℕ
nak_of r error = reply_of r nak r.session (error ∷ [])
