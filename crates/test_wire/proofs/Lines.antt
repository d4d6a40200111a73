-- Texts of frames and of skipped bytes, computed from the definitions alone.
use Rattle.std.proofs.Common.{◌≡◌, ℕ, List, [], ◌∷◌, ◌++◌, length, map, replicate, codes, refl, true, false}
use Rattle.std.specs.Prelude.{Some, None, flat_map}
use Rattle.std.specs.Fmt.{digits}
use Rattle.field_layout.specs.declared.ty.Ty.{Ty}
use Rattle.field_layout.specs.declared.ty.Ty.TheVariants.{I8, U8, Char, I16, U16, I32, U32, I64, U64, F32, F64, Version}
use Rattle.field_layout.specs.declared.fields.Field.{Field}
use Rattle.field_layout.specs.Definition.{Definition}
use Rattle.mav_profile.specs.Profile.{single, array, heartbeat_definition}
use Rattle.mav_frame.specs.Packet.{Packet}
use Rattle.mav_frame.specs.Looks.{is_old_at, packet_at}
use Rattle.mav_frame.specs.declared.looks.Why.TheVariants.{NotStx, UnknownFlag, UnknownId, BadCheck, Short}
use Rattle.mav_text.specs.FrameText.{frame_text, skip_line, skip_lines}
use Rattle.mav_text.specs.TemplateText.{line_of, has_short_names}
use Rattle.test_wire.proofs.Frames.{node, old_heartbeat_bytes}

-- the line of the frame at the start of some bytes, at a large offset and with an ending
abbrev line_at : Definition → List ℕ → List ℕ
line_at def bytes = line_of (Some def) 12345678901 (packet_at (is_old_at true bytes) bytes) (codes " end\n")

abbrev definition : ℕ → List ℕ → List Field → List Field → Definition
definition id name fields extensions = record { id = id; name = name; fields = fields; extensions = extensions }

-- ---- a HEARTBEAT of 1.1, link 2, timestamp 0x060504030201; the same without a signature block; one with a payload of
-- five bytes

abbrev signed_bytes : List ℕ
signed_bytes =
    0xFD ∷ 0x09 ∷ 0x01 ∷ 0x00 ∷ 0x07 ∷ 0x01 ∷ 0x01 ∷ 0x00 ∷ 0x00 ∷ 0x00 ∷ 0x00 ∷ 0x00 ∷ 0x00 ∷ 0x00 ∷ 0x02 ∷
    0x03 ∷ 0x51 ∷ 0x04 ∷ 0x03 ∷ 0xAA ∷ 0xBB ∷ 0x02 ∷ 0x01 ∷ 0x02 ∷ 0x03 ∷ 0x04 ∷ 0x05 ∷ 0x06 ∷ 0x1C ∷ 0x44 ∷
    0xB1 ∷ 0x0F ∷ 0x2D ∷ 0xBB ∷ []

abbrev unsigned_bytes : List ℕ
unsigned_bytes =
    0xFD ∷ 0x09 ∷ 0x00 ∷ 0x00 ∷ 0x07 ∷ 0x01 ∷ 0x01 ∷ 0x00 ∷ 0x00 ∷ 0x00 ∷ 0x00 ∷ 0x00 ∷ 0x00 ∷ 0x00 ∷ 0x02 ∷
    0x03 ∷ 0x51 ∷ 0x04 ∷ 0x03 ∷ 0xAA ∷ 0xBB ∷ []

abbrev truncated_bytes : List ℕ
truncated_bytes = 0xFD ∷ 0x05 ∷ 0x00 ∷ 0x00 ∷ 0xFF ∷ 0xFE ∷ 0x01 ∷ 0x00 ∷ 0x00 ∷ 0x00 ∷ 0x01 ∷ 0x00 ∷ 0x00 ∷ 0x00 ∷ 0x02 ∷ 0xAA ∷ 0xBB ∷ []

pub heartbeat_lines : flat_map (line_at heartbeat_definition) (signed_bytes ∷ unsigned_bytes ∷ truncated_bytes ∷ []) ≡ codes
    "12345678901 HEARTBEAT 1.1 #7 type=2 autopilot=3 base_mode=81 custom_mode=0 system_status=4 mavlink_version=3 signed 2 6618611909121 end\n"
    ++ codes "12345678901 HEARTBEAT 1.1 #7 type=2 autopilot=3 base_mode=81 custom_mode=0 system_status=4 mavlink_version=3 end\n"
    ++ codes "12345678901 HEARTBEAT 254.1 #255 type=2 autopilot=0 base_mode=0 custom_mode=1 system_status=0 mavlink_version=0 end\n"
unfolding digits
heartbeat_lines = refl

-- ---- frames of MAVLink 1: a HEARTBEAT as captures have it; a frame whose length covers an extension field, which is
-- still written as 0; one with a payload of one byte. The payload of the second in a frame of MAVLink 2 gives the
-- extension field.

pub old_heartbeat_line : line_at heartbeat_definition old_heartbeat_bytes ≡ codes
    "12345678901 HEARTBEAT 1.1 #0 v1 type=2 autopilot=3 base_mode=81 custom_mode=0 system_status=4 mavlink_version=3 end\n"
unfolding digits
old_heartbeat_line = refl

abbrev extended : Definition
extended = definition 9 (codes "EXTENDED") (single U16 (codes "base") ∷ []) (single U8 (codes "more") ∷ [])

pub extended_lines : flat_map (line_at extended)
    ((0xFE ∷ 0x03 ∷ 0x07 ∷ 0x01 ∷ 0x02 ∷ 0x09 ∷ 0x01 ∷ 0x02 ∷ 0x05 ∷ 0xAA ∷ 0xBB ∷ []) ∷
    (0xFE ∷ 0x01 ∷ 0x08 ∷ 0x01 ∷ 0x02 ∷ 0x09 ∷ 0x01 ∷ 0xAA ∷ 0xBB ∷ []) ∷
    (0xFD ∷ 0x03 ∷ 0x00 ∷ 0x00 ∷ 0x07 ∷ 0x01 ∷ 0x02 ∷ 0x09 ∷ 0x00 ∷ 0x00 ∷ 0x01 ∷ 0x02 ∷ 0x05 ∷ 0xAA ∷ 0xBB ∷ []) ∷ []) ≡ codes
    "12345678901 EXTENDED 1.2 #7 v1 base=513 more=0 end\n"
    ++ codes "12345678901 EXTENDED 1.2 #8 v1 base=1 more=0 end\n"
    ++ codes "12345678901 EXTENDED 1.2 #7 base=513 more=5 end\n"
unfolding digits
extended_lines = refl

-- ---- names of 22, 23 and 64 bytes, and a large id

abbrev names : Definition
names = definition 300 (codes "NAMES")
    (single U8 (replicate 22 97) ∷ single U8 (replicate 23 98) ∷ array Char 2 (replicate 64 99) ∷ [])
    []

abbrev large : Definition
large = definition 70000 (codes "LARGE") (single I8 (codes "a") ∷ []) []

pub line_of_names : line_at names (0xFD ∷ 0x04 ∷ 0x00 ∷ 0x00 ∷ 0x00 ∷ 0x01 ∷ 0x02 ∷ 0x2C ∷ 0x01 ∷ 0x00 ∷ 0x01 ∷ 0x02 ∷ 0x41 ∷ 0x42 ∷ 0xAA ∷ 0xBB ∷ []) ≡ codes
    "12345678901 NAMES 1.2 #0 aaaaaaaaaaaaaaaaaaaaaa=1 bbbbbbbbbbbbbbbbbbbbbbb=2 cccccccccccccccccccccccccccccccccccccccccccccccccccccccccccccccc=\"AB\" end\n"
unfolding digits
line_of_names = refl

pub line_of_large_id : line_at large (0xFD ∷ 0x01 ∷ 0x00 ∷ 0x00 ∷ 0x00 ∷ 0x01 ∷ 0x02 ∷ 0x70 ∷ 0x11 ∷ 0x01 ∷ 0xFF ∷ 0xAA ∷ 0xBB ∷ []) ≡ codes "12345678901 LARGE 1.2 #0 a=-1 end\n"
unfolding digits
line_of_large_id = refl

-- a name that is too long isn't kept with its line
abbrev with_name : ℕ → Definition
with_name count = definition 1 (codes "ONE") (single U8 (replicate count 97) ∷ []) []

pub names_kept : map (λ count. has_short_names (with_name count)) (70 ∷ 71 ∷ []) ≡ true ∷ false ∷ []
names_kept = refl

-- ---- of each type of field the least and the greatest values, arrays and characters, in wire order

abbrev packet : ℕ → List ℕ → Packet
packet seq payload =
    record { old = false; compat = 0; seq = seq; from = node 255 1; id = 7; payload = payload; check = 0; block = None }

abbrev every_field : List Field
every_field =
    single I8 (codes "a") ∷ single U8 (codes "b") ∷ single Char (codes "c") ∷ single I16 (codes "d") ∷
    single U16 (codes "e") ∷ single I32 (codes "f") ∷ single U32 (codes "g") ∷ single I64 (codes "h") ∷
    single U64 (codes "i") ∷ single F32 (codes "j") ∷ single F64 (codes "k") ∷ single Version (codes "l") ∷
    array U8 3 (codes "m") ∷ array I16 2 (codes "n") ∷ array F32 2 (codes "o") ∷ array Char 8 (codes "p") ∷ []

abbrev every_extension : List Field
every_extension =
    single U16 (codes "q") ∷ single Char (codes "r") ∷ array Char 2 (codes "s") ∷ array U8 1 (codes "t") ∷ []

abbrev every_type : Definition
every_type = definition 7 (codes "EVERY") every_field every_extension

abbrev every_payload : List ℕ
every_payload =
    0x00 ∷ 0x00 ∷ 0x00 ∷ 0x00 ∷ 0x00 ∷ 0x00 ∷ 0x00 ∷ 0x80 ∷ 0xFF ∷ 0xFF ∷ 0xFF ∷ 0xFF ∷ 0xFF ∷ 0xFF ∷ 0xFF ∷
    0xFF ∷ 0x00 ∷ 0x00 ∷ 0x00 ∷ 0x00 ∷ 0x00 ∷ 0x00 ∷ 0xF0 ∷ 0x3F ∷ 0x00 ∷ 0x00 ∷ 0x00 ∷ 0x80 ∷ 0xFF ∷ 0xFF ∷
    0xFF ∷ 0xFF ∷ 0x00 ∷ 0x00 ∷ 0x80 ∷ 0x3F ∷ 0x00 ∷ 0x00 ∷ 0x00 ∷ 0xBF ∷ 0x00 ∷ 0x00 ∷ 0x00 ∷ 0x00 ∷ 0xFE ∷
    0xFF ∷ 0xFF ∷ 0xFF ∷ 0x00 ∷ 0x80 ∷ 0xFF ∷ 0x7F ∷ 0x80 ∷ 0xC8 ∷ 0x41 ∷ 0x03 ∷ 0x00 ∷ 0x0A ∷ 0xFF ∷ 0x61 ∷
    0x22 ∷ 0x5C ∷ 0x01 ∷ 0xFF ∷ 0x7E ∷ 0x00 ∷ 0x7A ∷ []

pub every_text : frame_text every_type (packet 255 every_payload) ≡ codes
    "EVERY 255.1 #255 a=-128 b=200 c=\"A\" d=-2 e=65535 f=-2147483648 g=4294967295 h=-9223372036854775808 i=18446744073709551615 j=3f800000 k=3ff0000000000000 l=3 m=[0,10,255] n=[-32768,32767] o=[bf000000,00000000] p=\"a\\x22\\x5c\\x01\\xff~\" q=0 r=\"\" s=\"\" t=[0]"
unfolding digits
every_text = refl

-- the longest values: 255 elements of three digits and a sign, and 255 characters that are escaped
abbrev longest : Ty → Definition
longest ty = definition 7 (codes "X") (array ty 255 (codes "x") ∷ []) []

pub longest_texts : map (λ ty. length (frame_text (longest ty) (packet 0 (replicate 255 0x80)))) (I8 ∷ Char ∷ []) ≡ 1289 ∷ 1035 ∷ []
unfolding digits
longest_texts = refl

-- ---- skipped bytes

pub skipped :
    skip_line 0 0x0F NotStx ++ skip_line 9 0xA0 UnknownFlag ++ skip_line 10 0xFD UnknownId ++ skip_line 268435455 0x99 BadCheck ++ skip_line 18446744073709551615 0xFD Short ≡ codes
    "0 skip 0f not-stx\n9 skip a0 unknown-flag\n10 skip fd unknown-id\n268435455 skip 99 bad-check\n18446744073709551615 skip fd short\n"
unfolding digits
skipped = refl

-- runs of them: the line of 99 and that of 100, and the last offset whose line is put whole, among them
pub runs_skipped :
    skip_lines 8 (0x0F ∷ 0xA0 ∷ 0xFE ∷ 0x99 ∷ []) NotStx ++ skip_lines 98 (0xFD ∷ 0xFD ∷ 0xFD ∷ []) UnknownFlag ++ skip_lines 100 (0x01 ∷ []) Short ++
    skip_lines 1199 (0xFD ∷ 0xF0 ∷ []) UnknownFlag ++ skip_lines 9999999997 (0x9A ∷ 0xBC ∷ []) UnknownId ++ skip_lines 9999999999 (0xDE ∷ 0x00 ∷ []) BadCheck ≡
    codes "8 skip 0f not-stx\n9 skip a0 not-stx\n10 skip fe not-stx\n11 skip 99 not-stx\n98 skip fd unknown-flag\n99 skip fd unknown-flag\n100 skip fd unknown-flag\n"
    ++ codes "100 skip 01 short\n1199 skip fd unknown-flag\n1200 skip f0 unknown-flag\n9999999997 skip 9a unknown-id\n9999999998 skip bc unknown-id\n9999999999 skip de bad-check\n10000000000 skip 00 bad-check\n"
unfolding digits
runs_skipped = refl
