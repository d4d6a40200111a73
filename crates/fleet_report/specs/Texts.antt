-- How names, kinds, messages, items and causes are printed.
use Rattle.std.specs.Prelude.{ℕ, ℤ, ◌+◌, ◌/◌, ◌%◌, ◌==◌, if◌then◌else◌, List, [], ◌∷◌, ◌++◌, length, codes, Option}
use Rattle.std.specs.Prelude.{Some, None}
use Rattle.std.specs.Fmt.{decimal, signed_decimal}
use Rattle.hex.specs.Hex.{encode_lower}
use Rattle.mav_names.specs.declared.names.Name.{Name}
use Rattle.plan_items.specs.declared.items.Item.{Item}
use Rattle.plan_items.specs.declared.messages.PlanMsg.{PlanMsg}
use Rattle.plan_items.specs.declared.messages.PlanMsg.TheVariants.{Count, Request, Item as Give, Ack, List as Listing}
use Rattle.plan_items.specs.declared.messages.PlanMsg.TheVariants.{Clear, Ping}
use Rattle.plan_upload.specs.declared.faults.OpFault.{OpFault}
use Rattle.plan_upload.specs.declared.faults.OpFault.TheVariants.{Busy, EmptyPlan, PingsSpent, NotFit, NoMemory}
use Rattle.plan_upload.specs.Plans.{every_kind}
use Rattle.plan_upload.specs.Station.{Told, Told_installed, Told_not_installed, Told_unknown, Told_cleared, Told_got}
use Rattle.plan_upload.specs.Station.{Told_ended, addressee}
use Rattle.field_layout.specs.CharText.{quoted_text}
use Rattle.mav_messages.specs.declared.messages.Message.{Message}
use Rattle.mav_messages.specs.Messages.{definition_of, values_of}
use Rattle.mav_messages.specs.Plans.{plan_of}
use Rattle.mav_messages.specs.Targets.{target_field}
use Rattle.param_proto.specs.declared.params.Param.{Param}
use Rattle.mav_sign.specs.declared.admission.Admit.{Admit}
use Rattle.mav_sign.specs.declared.admission.Admit.TheVariants.{Admitted, Unsigned, BadSignature, BelowFloor, NotLater}
use Rattle.mav_sign.specs.declared.admission.Admit.TheVariants.{TooOld, TooManyStreams}

abbrev pub space : List ℕ
space = 32 ∷ []

abbrev pub newline : List ℕ
newline = 10 ∷ []

abbrev pub name_text : Name → List ℕ
name_text name = decimal name.sys ++ 46 ∷ decimal name.comp

abbrev pub kind_text : ℕ → List ℕ
kind_text kind =
    if kind == 0 then codes "mission"
    else if kind == 1 then codes "fence"
    else if kind == 2 then codes "rally"
    else if kind == every_kind then codes "all"
    else decimal kind

-- ---- messages

-- a message of the mission protocol by its name and numbers
abbrev pub said : PlanMsg → List ℕ
said (Ping to usec seq) = codes "PING " ++ decimal seq
said (Count to count kind) = codes "COUNT " ++ kind_text kind ++ space ++ decimal count
said (Request to seq kind) = codes "REQUEST " ++ kind_text kind ++ space ++ decimal seq
said (Give to seq kind item) = codes "ITEM " ++ kind_text kind ++ space ++ decimal seq
said (Ack to code kind) = codes "ACK " ++ decimal code ++ space ++ kind_text kind
said (Listing to kind) = codes "LIST " ++ kind_text kind
said (Clear to kind) = codes "CLEAR " ++ kind_text kind

-- whom it is for
abbrev pub to_text : Name → List ℕ
to_text name = codes " to " ++ name_text name

abbrev pub plan_message_text : PlanMsg → List ℕ
plan_message_text m = said m ++ to_text (addressee m)

abbrev pub target_text : Option Name → List ℕ
target_text None = []
target_text (Some name) = to_text name

-- any other message by its name in the definitions, and whom it is for
abbrev pub other_message_text : Message → List ℕ
other_message_text m = (definition_of m).name ++ target_text (target_field (definition_of m) (values_of m))

abbrev pub carried_text : Message → Option PlanMsg → List ℕ
carried_text m (Some plan) = plan_message_text plan
carried_text m None = other_message_text m

abbrev pub message_text : Message → List ℕ
message_text m = carried_text m (plan_of m)

-- ---- items

-- a word of 32 bits in eight digits
abbrev pub big_endian : ℕ → List ℕ
big_endian w = w / 16777216 ∷ w / 65536 % 256 ∷ w / 256 % 256 ∷ w % 256 ∷ []

abbrev pub word_text : ℕ → List ℕ
word_text w = encode_lower (big_endian w)

abbrev pub words_text : List ℕ → List ℕ
words_text [] = []
words_text (w ∷ ws) = word_text w ++ space ++ words_text ws

-- an item's line: SEQ FRAME COMMAND CURRENT AUTOCONTINUE P1 P2 P3 P4 X Y Z
abbrev pub item_text : ℕ → Item → List ℕ
item_text seq item =
    decimal seq ++ space ++ decimal item.frame ++ space ++ decimal item.command ++ space
    ++ decimal item.current ++ space ++ decimal item.autocontinue ++ space
    ++ words_text item.p
    ++ signed_decimal item.x ++ space ++ signed_decimal item.y ++ space ++ word_text item.z ++ newline

-- a location, in units of 1e-7 degrees
abbrev pub location_text : ℤ → ℤ → List ℕ
location_text x y = signed_decimal x ++ space ++ signed_decimal y

-- the lines of items, the first of them with this number
abbrev pub items_text : ℕ → List Item → List ℕ
items_text seq [] = []
items_text seq (item ∷ items) = item_text seq item ++ items_text (seq + 1) items

-- ---- parameters

-- the four bytes of a word in wire order, lowest byte first
abbrev pub little_endian : ℕ → List ℕ
little_endian w = w % 256 ∷ w / 256 % 256 ∷ w / 65536 % 256 ∷ w / 16777216 ∷ []

abbrev pub wire_text : ℕ → List ℕ
wire_text w = encode_lower (little_endian w)

-- a parameter's line: STATION ID TYPE WORD
abbrev pub param_text : Name → Param → List ℕ
param_text station param =
    codes "param " ++ name_text station ++ space ++ quoted_text param.id ++ space ++ decimal param.ty ++ space
    ++ wire_text param.word ++ newline

-- the lines of parameters
abbrev pub params_text : Name → List Param → List ℕ
params_text station [] = []
params_text station (param ∷ params) = param_text station param ++ params_text station params

-- ---- causes and outcomes

-- the code of an answer to a frame (MAVLink guide, Message Signing: Accepting Signed Packets)
abbrev pub code_of : Admit → ℕ
code_of Admitted = 0
code_of Unsigned = 1
code_of BadSignature = 2
code_of (BelowFloor floor) = 6
code_of (NotLater last) = 3
code_of (TooOld local) = 4
code_of TooManyStreams = 5

abbrev pub refusal_text : OpFault → List ℕ
refusal_text (Busy phase) = codes "busy " ++ decimal phase
refusal_text EmptyPlan = codes "empty"
refusal_text PingsSpent = codes "pings spent"
refusal_text (NotFit limit) = codes "not fit " ++ decimal limit
refusal_text NoMemory = []

abbrev pub outcome_text : Told → List ℕ
outcome_text Told_installed = codes "installed" ++ newline
outcome_text (Told_not_installed code) = codes "not installed " ++ decimal code ++ newline
outcome_text Told_unknown = codes "unknown" ++ newline
outcome_text Told_cleared = codes "cleared" ++ newline
outcome_text (Told_got items) = codes "got " ++ decimal (length items) ++ newline ++ items_text 0 items
outcome_text (Told_ended code) = codes "ended " ++ decimal code ++ newline

-- how a command ended: by its result, or without an answer
abbrev pub result_text : Option ℕ → List ℕ
result_text (Some result) = codes "result " ++ decimal result
result_text None = codes "no answer"

-- how a list of parameters ended: how many there are and a line for each, or without an answer
abbrev pub values_text : Name → Option (List Param) → List ℕ
values_text station (Some values) = decimal (length values) ++ newline ++ params_text station values
values_text station None = codes "no answer" ++ newline
