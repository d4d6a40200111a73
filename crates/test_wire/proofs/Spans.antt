-- What is at the start of the bytes that a scanner holds, computed from the definitions alone.
use Rattle.std.proofs.Common.{◌≡◌, ℕ, zero, suc, List, [], ◌∷◌, ◌++◌, take, drop, replicate, false, true, refl, Bool}
use Rattle.x25_check.specs.Check.{after_byte}
use Rattle.mav_frame.specs.declared.looks.Why.TheVariants.{NotStx, UnknownFlag, UnknownId, BadCheck, Short}
use Rattle.mav_stream.specs.Held.{Held}
use Rattle.mav_stream.specs.Spans.{next_span, held_after}
use Rattle.mav_stream.specs.declared.spans.NextSpan.{NextSpan}
use Rattle.mav_stream.specs.declared.spans.NextSpan.TheVariants.{Frame, Skipped, Need}
use Rattle.test_wire.proofs.Frames.{heartbeat_bytes, old_heartbeat_bytes}

-- HEARTBEAT's CRC_EXTRA, and a message with the id 70,000
abbrev extras : List (ℕ × ℕ)
extras = (0, 50) ∷ (70000, 7) ∷ []

abbrev holding : Bool → List ℕ → Held
holding ended bytes = record { extras = extras; reads_old = false; bytes = bytes; ended = ended }

-- so many results, each of which is removed
abbrev answers : ℕ → Held → List NextSpan
answers zero held = []
answers (suc count) held = next_span held ∷ answers count (held_after held (next_span held))

-- garbage, an STX with an unknown flag and what is left of its frame, a frame, the same with another byte in its
-- payload, and the header of an unknown id
abbrev corrupt_bytes : List ℕ
corrupt_bytes = take 14 heartbeat_bytes ++ 1 ∷ drop 15 heartbeat_bytes

abbrev mixed : List ℕ
mixed =
    7 ∷ 8 ∷ 0xFD ∷ 0 ∷ 2 ∷ 1 ∷ heartbeat_bytes ++ corrupt_bytes ++ 0xFD ∷ 0 ∷ 0 ∷ 0 ∷ 0 ∷ 1 ∷ 1 ∷ 1 ∷ 0 ∷ 0 ∷ []

pub each_answer : answers 9 (holding false mixed) ≡
    Skipped NotStx 2 ∷ Skipped UnknownFlag 1 ∷ Skipped NotStx 3 ∷ Frame 21 ∷ Skipped BadCheck 1 ∷ Skipped NotStx 20 ∷ Skipped UnknownId 1 ∷ Skipped NotStx 9 ∷ Need ∷ []
unfolding after_byte
each_answer = refl

-- an incomplete frame is skipped after the end only
pub before_end : answers 1 (holding false (take 20 heartbeat_bytes)) ≡ Need ∷ []
before_end = refl

pub after_end : answers 3 (holding true (take 20 heartbeat_bytes)) ≡ Skipped Short 1 ∷ Skipped NotStx 19 ∷ Need ∷ []
after_end = refl

pub large_id : answers 2 (holding false (0xFD ∷ 1 ∷ 0 ∷ 0 ∷ 5 ∷ 1 ∷ 1 ∷ 0x70 ∷ 0x11 ∷ 0x01 ∷ 42 ∷ 0xEC ∷ 0x93 ∷ [])) ≡ Frame 13 ∷ Need ∷ []
unfolding after_byte
large_id = refl

pub unknown_large_id : answers 1 (holding false (0xFD ∷ 1 ∷ 0 ∷ 0 ∷ 5 ∷ 1 ∷ 1 ∷ 0x71 ∷ 0x11 ∷ 0x01 ∷ 42 ∷ 0xEC ∷ 0x93 ∷ [])) ≡ Skipped UnknownId 1 ∷ []
unknown_large_id = refl

-- a frame of MAVLink 1 between garbage and an STX at the stream's end, and the same frame with a wrong checksum
abbrev reading_old : Bool → List ℕ → Held
reading_old ended bytes = record (holding ended bytes) { reads_old = true }

pub old_frame : answers 4 (reading_old true (7 ∷ old_heartbeat_bytes ++ 0xFE ∷ [])) ≡ Skipped NotStx 1 ∷ Frame 17 ∷ Skipped Short 1 ∷ Need ∷ []
unfolding after_byte
old_frame = refl

pub corrupt_old_frame : answers 3 (reading_old false (take 16 old_heartbeat_bytes ++ 0 ∷ [])) ≡ Skipped BadCheck 1 ∷ Skipped NotStx 16 ∷ Need ∷ []
unfolding after_byte
corrupt_old_frame = refl

-- long runs are returned in parts
pub garbage_in_parts : answers 3 (holding false (replicate 1030 7 ++ heartbeat_bytes)) ≡ Skipped NotStx 1024 ∷ Skipped NotStx 6 ∷ Frame 21 ∷ []
unfolding after_byte
garbage_in_parts = refl

pub flagged_in_parts : answers 3 (holding false (replicate 1304 0xFD)) ≡ Skipped UnknownFlag 1024 ∷ Skipped UnknownFlag 278 ∷ Need ∷ []
flagged_in_parts = refl
