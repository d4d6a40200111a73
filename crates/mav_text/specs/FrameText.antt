-- The texts of frames and of skipped bytes.
use Rattle.std.specs.Prelude.{ℕ, zero, suc, ◌+◌, ◌-◌, ◌/◌, ◌%◌, ◌^◌, ◌==◌, Bool, true, false, nat_lt, if◌then◌else◌}
use Rattle.std.specs.Prelude.{List, [], ◌∷◌, ◌++◌, take, codes, Option, Some, None}
use Rattle.std.specs.Fmt.{decimal}
use Rattle.field_layout.specs.declared.ty.Ty.{Ty}
use Rattle.field_layout.specs.declared.ty.Ty.TheVariants.{I8, U8, Char, I16, U16, I32, U32, I64, U64, F32, F64}
use Rattle.field_layout.specs.declared.ty.Ty.TheVariants.{Version}
use Rattle.field_layout.specs.declared.fields.Field.{Field}
use Rattle.field_layout.specs.Types.{element_size}
use Rattle.field_layout.specs.Definition.{Definition, all_fields, base_len_of, element_count}
use Rattle.field_layout.specs.WireOrder.{offset_of}
use Rattle.field_layout.specs.Payload.{words_at}
use Rattle.field_layout.specs.Reading.{words_from}
pub use Rattle.field_layout.specs.CharText.{hex_digit, byte_hex, is_plain, char_text, chars_text, quoted_text}
use Rattle.mav_frame.specs.Packet.{SignatureBlock, Packet}
use Rattle.mav_frame.specs.declared.looks.Why.{Why}
use Rattle.mav_frame.specs.declared.looks.Why.TheVariants.{NotStx, UnknownFlag, UnknownId, BadCheck, Short}

-- ---- numbers

-- two decimal digits, the first of which may be 0
abbrev pub pair_text : ℕ → List ℕ
pair_text pair = (48 + pair / 10) ∷ (48 + pair % 10) ∷ []

-- the digits of a word of so many bytes, highest byte first
abbrev pub word_hex : ℕ → ℕ → List ℕ
word_hex zero word = []
word_hex (suc size) word = word_hex size (word / 256) ++ byte_hex (word % 256)

-- a number of so many bytes in two's complement
abbrev pub signed_text : ℕ → ℕ → List ℕ
signed_text size word = if nat_lt word (256 ^ size / 2) then decimal word else 45 ∷ decimal (256 ^ size - word)

-- a value: whole numbers in decimal, a float or double as the digits of its word
abbrev pub number_text : Ty → ℕ → List ℕ
number_text I8 word = signed_text 1 word
number_text I16 word = signed_text 2 word
number_text I32 word = signed_text 4 word
number_text I64 word = signed_text 8 word
number_text F32 word = word_hex 4 word
number_text F64 word = word_hex 8 word
number_text U8 word = decimal word
number_text U16 word = decimal word
number_text U32 word = decimal word
number_text U64 word = decimal word
number_text Version word = decimal word
number_text Char word = decimal word

-- ---- values of fields

-- values with a comma before each
abbrev pub further_text : Ty → List ℕ → List ℕ
further_text ty [] = []
further_text ty (word ∷ words) = 44 ∷ number_text ty word ++ further_text ty words

-- values parted by commas
abbrev pub values_text : Ty → List ℕ → List ℕ
values_text ty [] = []
values_text ty (word ∷ words) = number_text ty word ++ further_text ty words

abbrev pub is_char : Ty → Bool
is_char Char = true
is_char _ = false

-- a char or a char array in double quotes, another array in square brackets, or a single value
abbrev pub shown_text : Ty → ℕ → List ℕ → List ℕ
shown_text ty len words =
    if is_char ty then quoted_text words
    else if len == 0 then values_text ty words
    else 91 ∷ values_text ty words ++ 93 ∷ []

abbrev pub value_text : Field → List ℕ → List ℕ
value_text field words = shown_text field.ty field.len words

-- ` name=value`
abbrev pub field_text : Field → List ℕ → List ℕ
field_text field words = 32 ∷ field.name ++ 61 ∷ value_text field words

-- the fields from an index on, each with its words
abbrev pub fields_text : (ℕ → Field → List ℕ) → ℕ → List Field → List ℕ
fields_text words number [] = []
fields_text words number (field ∷ fields) =
    field_text field (words number field) ++ fields_text words (number + 1) fields

-- ---- frames

-- ` SYS.COMP #SEQ`
abbrev pub sender_text : Packet → List ℕ
sender_text packet =
    32 ∷ decimal packet.from.sys ++ 46 ∷ decimal packet.from.comp ++ 32 ∷ 35 ∷ decimal packet.seq

-- ` v1` after the sequence number of a frame of MAVLink 1
abbrev pub version_text : Bool → List ℕ
version_text true = codes " v1"
version_text false = []

-- ` signed LINK STAMP` after a signed frame
abbrev pub block_text : Option SignatureBlock → List ℕ
block_text None = []
block_text (Some block) = codes " signed " ++ decimal block.link ++ 32 ∷ decimal block.stamp

-- a frame from its name on, where the fields have these words
abbrev pub frame_text_of : (ℕ → Field → List ℕ) → Definition → Packet → List ℕ
frame_text_of words def packet =
    def.name ++ sender_text packet ++ version_text packet.old ++ fields_text words 0 (all_fields def)
    ++ block_text packet.block

-- the words of a field as a payload has them, whose bytes past its end are 0
abbrev pub words_in : Definition → List ℕ → ℕ → Field → List ℕ
words_in def payload number field = words_from payload (offset_of def number) (element_size field.ty)
    (element_count field)

-- the bytes of a payload that values are read from: of a frame of MAVLink 1 none past the base fields, so that its
-- extension fields are 0
abbrev pub value_bytes : ℕ → Packet → List ℕ
value_bytes base_len packet = if packet.old then take base_len packet.payload else packet.payload

abbrev pub frame_text : Definition → Packet → List ℕ
frame_text def packet = frame_text_of (words_in def (value_bytes (base_len_of def) packet)) def packet

-- a frame of given values, each field's words in definition order
abbrev pub frame_text_with : List (List ℕ) → Definition → Packet → List ℕ
frame_text_with values def packet = frame_text_of (λ number field. words_at values number) def packet

-- ---- skipped bytes

abbrev pub why_text : Why → List ℕ
why_text NotStx = codes "not-stx"
why_text UnknownFlag = codes "unknown-flag"
why_text UnknownId = codes "unknown-id"
why_text BadCheck = codes "bad-check"
why_text Short = codes "short"

-- `OFFSET skip BYTE WHY` and the line end
abbrev pub skip_line : ℕ → ℕ → Why → List ℕ
skip_line offset byte why = decimal offset ++ codes " skip " ++ byte_hex byte ++ 32 ∷ why_text why ++ 10 ∷ []

-- the lines of bytes that are skipped one after another for one reason, the first of which stands at `offset`
abbrev pub skip_lines : ℕ → List ℕ → Why → List ℕ
skip_lines offset [] why = []
skip_lines offset (byte ∷ bytes) why = skip_line offset byte why ++ skip_lines (offset + 1) bytes why
