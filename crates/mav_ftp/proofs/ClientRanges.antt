-- A client stays in range, and each of its requests is a payload.
use Rattle.std.proofs.Common.{◌≡◌, ℕ, ◌+◌, ◌<◌, ◌≤◌, ◌==◌, ◌&&◌, ◌||◌, Bool, true, false, if◌then◌else◌, nat_le, nat_lt, List, [], ◌∷◌, length, drop, get_or, Option, Some, None, IfSome, refl, arith, length-append}
use Rattle.std.specs.List.{list_all}
use Rattle.std.proofs.lemmas.Bool.{and_parts}
use Rattle.std.proofs.lemmas.List.{length-take}
use Rattle.std.proofs.lemmas.List.Elements.{All-nil, All-cons, All-append, All-take, All-drop}
use Rattle.mav_ftp.specs.declared.payload.FtpFields.{FtpFields}
use Rattle.mav_ftp.specs.declared.client.ends.FtpStep.TheVariants.{Quiet}
use Rattle.mav_ftp.specs.Payload.{most_data, ack, nak, end_of_file, fields_of, sized_data, is_file_name, is_name_byte}
use Rattle.mav_ftp.specs.Client.{FilePhase, Listing, Opening, Reading, Closing, Creating, Writing, Committing, Removing, Transfer, TransferState, Course, Goes_on, Is_done, Is_refused, FileStep, FileOrder, list_order, fetch_order, store_order, remove_order, most_taken, opcode_of, request_data, request_size, request_fields, next_piece, opened, more_taken, acknowledged, denied, replied, is_sized, is_reply, least_size, after_course, heard, transfer_step, after_tick, transfer_tick, begun, order_fault, ordered, request_seq, waiting_request, request_of, idle_limit}
use Rattle.mav_ftp.specs.Replies.{next_seq}
use Rattle.mav_ftp.proofs.Stores.{short_name}
use Rattle.mav_ftp.proofs.CarriedOut.{accepted_fetch, accepted_remove, accepted_store}
use Rattle.mav_ftp.specs.Ranges.{AreBytes, PayloadInRange}
use Rattle.mav_ftp.proofs.PayloadRanges.{payload_in_range}
use Rattle.mav_ftp.specs.ClientRanges.{TransferInRange, TransfersInRange, OrderInRange}

abbrev IsByte : ℕ → Type 0
IsByte byte = byte < 256

-- ---- requests

none : AreBytes []
none = All-nil IsByte

then_byte : (b : ℕ) (bs : List ℕ) → b < 256 → AreBytes bs → AreBytes (b ∷ bs)
then_byte b bs h rest = All-cons IsByte b bs h rest

opcode_below : (phase : FilePhase) → opcode_of phase < 256
opcode_below Listing = omega arith
opcode_below Opening = omega arith
opcode_below Reading = omega arith
opcode_below Closing = omega arith
opcode_below Creating = omega arith
opcode_below Writing = omega arith
opcode_below Committing = omega arith
opcode_below Removing = omega arith

-- the data of a request, and its size
pub record DataInRange (t : Transfer) (phase : FilePhase) : Type 0 where
  pub bytes : AreBytes (request_data t phase)
  pub few : length (request_data t phase) ≤ most_data
  pub size : request_size t phase < 256

data_below : (t : Transfer) (phase : FilePhase) → TransferInRange t → DataInRange t phase
data_below t Listing h = record { bytes = none; few = omega arith; size = omega arith }
data_below t Opening h = record { bytes = h.name; few = omega (arith, h.short); size = omega (arith, h.short) }
data_below t Reading h = record { bytes = none; few = omega arith; size = omega arith }
data_below t Closing h = record { bytes = none; few = omega arith; size = omega arith }
data_below t Creating h = record { bytes = h.name; few = omega (arith, h.short); size = omega (arith, h.short) }
data_below t Writing h =
    let size = length-take 239 (drop t.written t.bytes) in
    record {
      bytes = All-take IsByte 239 (drop t.written t.bytes) (All-drop IsByte t.written t.bytes h.bytes);
      few = omega (arith, size);
      size = omega (arith, size);
    }
data_below t Committing h = record { bytes = none; few = omega arith; size = omega arith }
data_below t Removing h = record { bytes = h.name; few = omega (arith, h.short); size = omega (arith, h.short) }

pub request_in_range : (s : TransferState) → TransfersInRange s → IfSome s.operation (λ t. PayloadInRange (request_of s))
request_in_range s h = waiting_in_range (request_seq s.last) s.operation h where
  waiting_in_range : (seq : ℕ) (o : Option Transfer) → IfSome o TransferInRange → IfSome o (λ t. PayloadInRange (waiting_request seq o))
  waiting_in_range seq None h = h
  waiting_in_range seq (Some t) h =
      let d = data_below t t.phase h in
      payload_in_range (request_fields seq t) (request_data t t.phase) (record { session = h.session; opcode = opcode_below t.phase; size = d.size; req_opcode = omega arith }) d.few d.bytes

-- ---- steps

abbrev CourseInRange : Course → Type 0
CourseInRange (Goes_on t) = TransferInRange t
CourseInRange _ = Unit {0}

next_in_range : (t : Transfer) → TransferInRange t → (b : Bool) → TransferInRange (if b then record t { phase = Writing; idle = 0 } else record t { phase = Committing; idle = 0 })
next_in_range t h true = record { name = h.name; short = h.short; bytes = h.bytes; few = h.few; session = h.session }
next_in_range t h false = record { name = h.name; short = h.short; bytes = h.bytes; few = h.few; session = h.session }

opened_in_range : (t : Transfer) (phase : FilePhase) (session : ℕ) → TransferInRange t → session < 256 → TransferInRange (opened t phase session)
opened_in_range t phase session h below = record { name = none; short = omega arith; bytes = h.bytes; few = h.few; session = below }

more_in_range : (t : Transfer) (given : List ℕ) → TransferInRange t → AreBytes given → length t.bytes + length given ≤ most_taken → TransferInRange (more_taken t given)
more_in_range t given h bytes few = record {
  name = h.name;
  short = h.short;
  bytes = All-append IsByte t.bytes given h.bytes bytes;
  few = omega (arith, length-append t.bytes given, few);
  session = h.session;
}

acknowledged_in_range : (t : Transfer) (phase : FilePhase) (session : ℕ) (given : List ℕ) → TransferInRange t → session < 256 → AreBytes given
    → length t.bytes + length given ≤ most_taken → CourseInRange (acknowledged t phase session given)
acknowledged_in_range t Listing session given h below bytes few = more_in_range t given h bytes few
acknowledged_in_range t Opening session given h below bytes few = opened_in_range t Reading session h below
acknowledged_in_range t Reading session given h below bytes few = more_in_range t given h bytes few
acknowledged_in_range t Closing session given h below bytes few = tt
acknowledged_in_range t Creating session given h below bytes few =
    next_in_range (opened t Writing session) (opened_in_range t Writing session h below) (nat_lt t.written (length t.bytes))
acknowledged_in_range t Writing session given h below bytes few =
    let on : Transfer = record t { written = t.written + length (next_piece t) } in
    let same : TransferInRange on = record { name = h.name; short = h.short; bytes = h.bytes; few = h.few; session = h.session } in
    next_in_range on same (nat_lt on.written (length t.bytes))
acknowledged_in_range t Committing session given h below bytes few = tt
acknowledged_in_range t Removing session given h below bytes few = tt

either_way : (b : Bool) (x y : Course) → CourseInRange x → CourseInRange y → CourseInRange (if b then x else y)
either_way true x y p q = p
either_way false x y p q = q

denied_in_range : (t : Transfer) (phase : FilePhase) (code : ℕ) → TransferInRange t → CourseInRange (denied t phase code)
denied_in_range t Listing code h = either_way (code == end_of_file) (Is_done t.bytes) (Is_refused code) tt tt
denied_in_range t Reading code h =
    let closing : TransferInRange (record t { phase = Closing; idle = 0 }) = record { name = h.name; short = h.short; bytes = h.bytes; few = h.few; session = h.session } in
    either_way (code == end_of_file) (Goes_on (record t { phase = Closing; idle = 0 })) (Is_refused code) closing tt
denied_in_range t Closing code h = tt
denied_in_range t Opening code h = tt
denied_in_range t Creating code h = tt
denied_in_range t Writing code h = tt
denied_in_range t Committing code h = tt
denied_in_range t Removing code h = tt

after_in_range : (seq : ℕ) (c : Course) → CourseInRange c → TransfersInRange (after_course seq c).state
after_in_range seq (Goes_on t) h = h
after_in_range seq (Is_done bytes) h = tt
after_in_range seq (Is_refused code) h = tt

is_few : (t : Transfer) (f : FtpFields) → is_sized t f ≡ true → length t.bytes + f.size ≤ most_taken
is_few t f sized =
    let rest = and_parts (nat_le (least_size t.phase (f.opcode == ack)) f.size) (nat_le f.size most_data && nat_le (length t.bytes + f.size) most_taken) sized in
    let few = (and_parts (nat_le f.size most_data) (nat_le (length t.bytes + f.size) most_taken) rest.1).1 in
    grind (arith, few)

sized_of : (seq : ℕ) (t : Transfer) (f : FtpFields) → is_reply seq t f ≡ true → is_sized t f ≡ true
sized_of seq t f replies =
    let first = and_parts (f.seq == next_seq seq) ((f.req_opcode == opcode_of t.phase) && (((f.opcode == ack) || (f.opcode == nak)) && is_sized t f)) replies in
    let second = and_parts (f.req_opcode == opcode_of t.phase) (((f.opcode == ack) || (f.opcode == nak)) && is_sized t f) first.1 in
    (and_parts ((f.opcode == ack) || (f.opcode == nak)) (is_sized t f) second.1).1

replied_in_range : (seq : ℕ) (t : Transfer) (p : List ℕ) → TransferInRange t → PayloadInRange p → is_reply seq t (fields_of p) ≡ true
    → CourseInRange (replied t (fields_of p) (sized_data p))
replied_in_range seq t p h payload replies =
    let f = fields_of p in
    let given = sized_data p in
    let bytes : AreBytes given = All-take IsByte f.size (drop 12 p) (All-drop IsByte 12 p payload.bytes) in
    let few : length t.bytes + length given ≤ most_taken = omega (arith, is_few t f (sized_of seq t f replies), length-take f.size (drop 12 p)) in
    let session : f.session < 256 = payload.bytes 2 0 (omega (arith, payload.size)) in
    either_way (f.opcode == ack) (acknowledged t t.phase f.session given) (denied t t.phase (get_or given 0 0))
    (acknowledged_in_range t t.phase f.session given h session bytes few) (denied_in_range t t.phase (get_or given 0 0) h)

heard_in_range : (s : TransferState) (o : Option Transfer) (p : List ℕ) → TransfersInRange s → IfSome o TransferInRange → PayloadInRange p
    → TransfersInRange (heard s o p).state
heard_in_range s None p whole h payload = whole
heard_in_range s (Some t) p whole h payload =
    let seq = request_seq s.last in
    let course = replied t (fields_of p) (sized_data p) in
    elim (is_reply seq t (fields_of p)) as (λ b. is_reply seq t (fields_of p) ≡ b → TransfersInRange (let r : FileStep = if b then after_course (fields_of p).seq course else record { state = s; answer = Quiet } in r).state) [
      | true ↦ λ e. after_in_range (fields_of p).seq course (replied_in_range seq t p h payload e)
      | false ↦ λ e. whole
    ] refl

pub step_in_range : (s : TransferState) → TransfersInRange s → (p : List ℕ) → PayloadInRange p → TransfersInRange (transfer_step s p)
step_in_range s h p payload = heard_in_range s s.operation p h h payload

-- ---- ticks and orders

ticked_in_range : (o : Option Transfer) → IfSome o TransferInRange → IfSome (after_tick o) TransferInRange
ticked_in_range None h = h
ticked_in_range (Some t) h =
    let later : TransferInRange (record t { idle = t.idle + 1 }) = record { name = h.name; short = h.short; bytes = h.bytes; few = h.few; session = h.session } in
    elim (nat_lt (t.idle + 1) idle_limit) as (λ b. IfSome (if b then Some (record t { idle = t.idle + 1 }) else None) TransferInRange) [
      | true ↦ later
      | false ↦ tt
    ]

pub tick_in_range : (s : TransferState) → TransfersInRange s → TransfersInRange (transfer_tick s)
tick_in_range s h = ticked_in_range s.operation h

name_byte : (b : ℕ) → is_name_byte b ≡ true → b < 256
name_byte b h = grind (arith, h)

name_bytes : (name : List ℕ) → list_all is_name_byte name ≡ true → AreBytes name
name_bytes [] h = none
name_bytes (b ∷ bs) h =
    let parts = and_parts (is_name_byte b) (list_all is_name_byte bs) h in
    then_byte b bs (name_byte b parts.0) (name_bytes bs parts.1)

named_in_range : (phase : FilePhase) (name bytes : List ℕ) → is_file_name name ≡ true → AreBytes bytes → length bytes ≤ most_taken → TransferInRange (begun phase name bytes)
named_in_range phase name bytes valid given few =
    let parts = and_parts (nat_le 1 (length name) && nat_le (length name) 64) (list_all is_name_byte name) valid in
    record { name = name_bytes name parts.1; short = short_name name valid; bytes = given; few = few; session = omega arith }

pub order_in_range : (s : TransferState) (order : FileOrder) → OrderInRange order → order_fault s order ≡ None → TransfersInRange (ordered s order)
order_in_range s list_order h e = record { name = none; short = omega arith; bytes = none; few = omega arith; session = omega arith }
order_in_range s (fetch_order name) h e = named_in_range Opening name [] (accepted_fetch s.operation name e) none (omega arith)
order_in_range s (store_order name bytes) h e =
    let good = accepted_store s.operation name bytes e in
    named_in_range Creating name bytes good.0 h (grind (arith, good.1))
order_in_range s (remove_order name) h e = named_in_range Removing name [] (accepted_remove s.operation name e) none (omega arith)
