-- What a client's calls come to, by the operation that was taken out.
use Rattle.std.proofs.Common.{◌≡◌, ℕ, Bool, true, false, if◌then◌else◌, List, Option, Some, ◌+◌, ◌≤◌, ◌==◌, ◌||◌, ◌&&◌, length, take, length-take, sym, ap, ◌∙◌, arith}
use Rattle.std.specs.Prelude.{nat_le, slice_index}
use Rattle.std.proofs.lemmas.Bool.{and_parts, leb-true}
use Rattle.mav_ftp.specs.Payload.{fields_of, sized_data, data_of, most_data, ack, nak}
use Rattle.mav_ftp.specs.Replies.{next_seq}
use Rattle.mav_ftp.specs.declared.payload.FtpFields.{FtpFields}
use Rattle.mav_ftp.specs.declared.client.ends.FtpStep.TheVariants.{Quiet}
use Rattle.mav_ftp.specs.declared.client.FtpClient.TheInside.{Inside}
use Rattle.mav_ftp.specs.Client.{Transfer, TransferState, FileStep, Course, most_taken, opcode_of, least_size, is_sized, request_seq, is_reply, replied, after_course, heard}
use Rattle.mav_ftp.specs.ClientView.{client_view}

-- the client with this operation
abbrev pub now_open : Inside → Transfer → TransferState
now_open i t = record { last = i.last; operation = Some t }

-- the client as it was
pub put_back : (i : Inside) (s : TransferState) (t : Transfer) → client_view i ≡ s → i.open ≡ Some t → ◌≡◌ {A = TransferState} (record { last = i.last; operation = Some t }) s
put_back i s t view is = (λ k. record { last = i.last; operation = sym is k }) ∙ view

heard_at : (i : Inside) (s : TransferState) (t : Transfer) (p : List ℕ) (seq : ℕ) (f : FtpFields) (a : Bool) → client_view i ≡ s → i.open ≡ Some t → seq ≡ request_seq i.last → f ≡ fields_of p → a ≡ is_reply seq t f
    → heard s s.operation p ≡ (if a then after_course f.seq (replied t f (sized_data p)) else record { state = record { last = i.last; operation = Some t }; answer = Quiet })
heard_at i s t p seq f a view is number fields test =
    let at = sym number in let read = sym fields in
    let tested : is_reply (request_seq i.last) t (fields_of p) ≡ a = (λ k. is_reply (at k) t (read k)) ∙ sym test in
    sym (ap (λ (s : TransferState). heard s s.operation p) view)
    ∙ (ap (λ (o : Option Transfer). heard (record { last = i.last; operation = o }) o p) is
    ∙ (λ k. if tested k then after_course (read k).seq (replied t (read k) (sized_data p)) else record { state = record { last = i.last; operation = Some t }; answer = Quiet }))

-- a payload that isn't the reply
pub quiet_step : (i : Inside) (s : TransferState) (t : Transfer) (p : List ℕ) (seq : ℕ) (f : FtpFields) (a : Bool) → client_view i ≡ s → i.open ≡ Some t → seq ≡ request_seq i.last → f ≡ fields_of p → a ≡ is_reply seq t f → a ≡ false
    → ◌≡◌ {A = FileStep} (record { state = record { last = i.last; operation = Some t }; answer = Quiet }) (heard s s.operation p)
quiet_step i s t p seq f a view is number fields test other =
    sym (heard_at i s t p seq f a view is number fields test ∙ ap (λ (b : Bool). if b then after_course f.seq (replied t f (sized_data p)) else record { state = record { last = i.last; operation = Some t }; answer = Quiet }) other)

-- the reply
pub taken_step : (i : Inside) (s : TransferState) (t : Transfer) (p : List ℕ) (seq : ℕ) (f : FtpFields) (a : Bool) (given : List ℕ) (course : Course) → client_view i ≡ s → i.open ≡ Some t → seq ≡ request_seq i.last → f ≡ fields_of p → a ≡ is_reply seq t f → a ≡ true
    → given ≡ sized_data p → course ≡ replied t f given → after_course f.seq course ≡ heard s s.operation p
taken_step i s t p seq f a given course view is number fields test own bytes makes =
    ap (after_course f.seq) (makes ∙ ap (replied t f) bytes)
    ∙ sym (heard_at i s t p seq f a view is number fields test ∙ ap (λ (b : Bool). if b then after_course f.seq (replied t f (sized_data p)) else record { state = record { last = i.last; operation = Some t }; answer = Quiet }) own)

-- the reply's data are no more than may be taken
pub few_taken : (t : Transfer) (p : List ℕ) (seq : ℕ) (f : FtpFields) (a : Bool) (given : List ℕ) → f ≡ fields_of p → a ≡ is_reply seq t f → a ≡ true → given ≡ sized_data p → length t.bytes + length given ≤ most_taken
few_taken t p seq f a given fields test own bytes =
    let opcode = (f.opcode == ack) || (f.opcode == nak) in
    let one = and_parts (f.seq == next_seq seq) ((f.req_opcode == opcode_of t.phase) && (opcode && is_sized t f)) (sym test ∙ own) in
    let two = and_parts (f.req_opcode == opcode_of t.phase) (opcode && is_sized t f) one.1 in
    let three = and_parts opcode (is_sized t f) two.1 in
    let sized = and_parts (nat_le (least_size t.phase (f.opcode == ack)) f.size) (nat_le f.size most_data && nat_le (length t.bytes + f.size) most_taken) three.1 in
    let few = leb-true (length t.bytes + f.size) most_taken (and_parts (nat_le f.size most_data) (nat_le (length t.bytes + f.size) most_taken) sized.1).1 in
    let size : f.size ≡ slice_index p 4 = ap (λ (f : FtpFields). f.size) fields in
    let short : length (take (slice_index p 4) (data_of p)) ≤ slice_index p 4 = omega (arith, length-take {A = ℕ}) in
    omega (arith, few, size, short, ap length bytes)
