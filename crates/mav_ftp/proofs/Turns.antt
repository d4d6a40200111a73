-- One request and its reply, at both ends.
use Rattle.std.proofs.Common.{◌≡◌, ℕ, suc, ◌+◌, ◌<◌, ◌≤◌, ◌==◌, true, false, List, [], ◌∷◌, length, Option, Some, None, if◌then◌else◌, nat_le, nat_lt, refl, ap, sym, subst, ◌∙◌, arith}
use Rattle.mav_names.specs.declared.names.Stream.{Stream}
use Rattle.mav_ftp.specs.declared.payload.FtpFields.{FtpFields}
use Rattle.mav_ftp.specs.declared.exchanges.Exchange.{Exchange}
use Rattle.mav_ftp.specs.declared.client.ends.FtpStep.{FtpStep}
use Rattle.mav_ftp.specs.declared.client.ends.FtpStep.TheVariants.{Quiet, Send, Done}
use Rattle.mav_ftp.specs.Payload.{ack, nak, fields_of, sized_data, most_data}
use Rattle.mav_ftp.specs.Client.{Transfer, TransferState, Course, Goes_on, Is_done, FileStep, most_taken, request_seq, request_fields, transfer_request, is_sized, is_reply, least_size, opcode_of, replied, after_course, heard, idle_limit, transfer_tick}
use Rattle.mav_ftp.specs.Replies.{next_seq, reply_of}
use Rattle.mav_ftp.specs.Exchanges.{with_exchange}
use Rattle.mav_ftp.specs.Steps.{Storage, Served, storage_step}
use Rattle.mav_ftp.specs.Server.{FilesState, served, reply_to, files_after, kept_after}
use Rattle.mav_ftp.specs.ClientLaws.{FtpLink, Delivery, Both_arrive, Reply_lost, Request_lost, answered, delivered, transferred, arrivals, LosesFew}
use Rattle.mav_ftp.proofs.ReadBack.{numbers_back, data_back}
use Rattle.mav_ftp.proofs.NewRequests.{IsFresh, IsSmall, seq_small, next_small, fresh_next, kept_again}

-- the numbers of a reply
abbrev pub reply_fields : FtpFields → ℕ → ℕ → List ℕ → FtpFields
reply_fields r opcode session out =
    record { seq = next_seq r.seq; session = session; opcode = opcode; size = length out; req_opcode = r.opcode; offset = r.offset }

-- a server
abbrev pub server_at : Storage → List Exchange → FilesState
server_at st exchanges = record { files = st.files; sessions = st.sessions; exchanges = exchanges }

-- an operation that is open, with its server
abbrev pub link_at : Option ℕ → Transfer → Storage → List Exchange → FtpStep → FtpLink
link_at last t st exchanges answer =
    record { client = record { last = last; operation = Some t }; server = server_at st exchanges; answer = answer }

abbrev pub joined : FileStep → FilesState → FtpLink
joined s st = record { client = s.state; server = st; answer = s.answer }

-- what a client makes of these numbers and this data
abbrev stepped : TransferState → Transfer → FtpFields → List ℕ → FileStep
stepped s t f given =
    if is_reply (request_seq s.last) t f then after_course f.seq (replied t f given) else record { state = s; answer = Quiet }

takes : (last : Option ℕ) (t : Transfer) (p : List ℕ) (f : FtpFields) (out : List ℕ)
    → fields_of p ≡ f → sized_data p ≡ out → is_reply (request_seq last) t f ≡ true
    → heard (record { last = last; operation = Some t }) (Some t) p ≡ after_course f.seq (replied t f out)
takes last t p f out fields bytes replies =
    let s : TransferState = record { last = last; operation = Some t } in
    ap (λ f. stepped s t f (sized_data p)) fields ∙ ap (λ d. stepped s t f d) bytes
    ∙ ap (λ b. if b then after_course f.seq (replied t f out) else record { state = s; answer = Quiet }) replies

-- this server gives the request this reply, and is that server then
pub record Serves (from : Stream) (request reply : List ℕ) (server after : FilesState) : Type 0 where
  pub reply_is : reply_to server from request ≡ reply
  pub after_is : files_after server from request ≡ after

serves_new : (st : FilesState) (from : Stream) (p : List ℕ) (s : Served) → IsFresh st.exchanges from p → served st from p ≡ s
    → Serves from p s.reply st (kept_after st from p s)
serves_new st from p s fresh is = record {
  reply_is = rw (fresh.other, fresh.room) (ap (λ (s : Served). s.reply) is);
  after_is = rw (fresh.other, fresh.room) (ap (λ s. kept_after st from p s) is);
}

-- the same request is answered once more, and nothing changes
serves_again : (st : FilesState) (from : Stream) (p : List ℕ) (s : Served) → Serves from p s.reply (kept_after st from p s) (kept_after st from p s)
serves_again st from p s =
    let kept = kept_again st.exchanges (record { stream = from; request = p; reply = s.reply }) in
    record { reply_is = rw kept refl; after_is = rw kept refl }

-- ---- until the end

-- this holds once no operation is open, after so many requests that arrive
abbrev pub Ends : (FtpLink → Type 0) → Stream → ℕ → FtpLink → Type 0
Ends P from k l = (ds : List Delivery) → LosesFew 0 ds → k ≤ arrivals ds → P (transferred from ds l)

-- the operation after some ticks
abbrev pub waits : Transfer → ℕ → Transfer
waits t idle = record t { idle = idle }

abbrev pub link_of : Option ℕ → Transfer → FilesState → FtpStep → FtpLink
link_of last t server answer = record { client = record { last = last; operation = Some t }; server = server; answer = answer }

ticked : (last : Option ℕ) (t : Transfer) (idle : ℕ) (server : FilesState) (answer : FtpStep) → idle + 1 < idle_limit
    → (let l : FtpLink = record { client = transfer_tick (record { last = last; operation = Some (waits t idle) }); server = server; answer = answer } in l)
    ≡ link_of last (waits t (idle + 1)) server answer
ticked last t idle server answer few =
    let yes : nat_lt (idle + 1) idle_limit ≡ true = grind (arith, few) in
    ap (λ b. let l : FtpLink = record { client = record { last = last; operation = if b then Some (waits t (idle + 1)) else None }; server = server; answer = answer } in l) yes

-- a request that waits is answered in the end: before its reply arrives it is served once, however often it is sent
arrives : (P : FtpLink → Type 0) (from : Stream) (k : ℕ) (last : Option ℕ) (t : Transfer) (reply : List ℕ) (after : FilesState) (step : FileStep)
    → Serves from (transfer_request (request_seq last) t) reply after after
    → ((idle : ℕ) → heard (record { last = last; operation = Some (waits t idle) }) (Some (waits t idle)) reply ≡ step)
    → Ends P from k (joined step after)
    → (ds : List Delivery) (idle : ℕ) (server : FilesState) (answer : FtpStep) → Serves from (transfer_request (request_seq last) t) reply server after
    → LosesFew idle ds → suc k ≤ arrivals ds → P (transferred from ds (link_of last (waits t idle) server answer))
arrives P from k last t reply after step again takes later [] idle server answer serves few enough = absurd (omega arith)
arrives P from k last t reply after step again takes later (Both_arrive ∷ ds) idle server answer serves few enough =
    let c : TransferState = record { last = last; operation = Some (waits t idle) } in
    let is : answered from (link_of last (waits t idle) server answer) ≡ joined step after =
    ap (λ (a, b). joined (heard c (Some (waits t idle)) a) b) (ap (λ a. (a, files_after server from (transfer_request (request_seq last) t))) serves.reply_is ∙ ap (λ b. (reply, b)) serves.after_is)
    ∙ ap (λ s. joined s after) (takes idle) in
    subst (λ l. P (transferred from ds l)) (sym is) (later ds few (omega (arith, enough)))
arrives P from k last t reply after step again takes later (Reply_lost ∷ ds) idle server answer serves few enough =
    let c : TransferState = record { last = last; operation = Some (waits t idle) } in
    let is : delivered from Reply_lost (link_of last (waits t idle) server answer) ≡ link_of last (waits t (idle + 1)) after answer =
    ap (λ s. let l : FtpLink = record { client = transfer_tick c; server = s; answer = answer } in l) serves.after_is ∙ ticked last t idle after answer few.0 in
    subst (λ l. P (transferred from ds l)) (sym is) (arrives P from k last t reply after step again takes later ds (idle + 1) after answer again few.1 enough)
arrives P from k last t reply after step again takes later (Request_lost ∷ ds) idle server answer serves few enough =
    subst (λ l. P (transferred from ds l)) (sym (ticked last t idle server answer few.0))
    (arrives P from k last t reply after step again takes later ds (idle + 1) server answer serves few.1 enough)

stays_closed : (from : Stream) (last : Option ℕ) (server : FilesState) (answer : FtpStep) (ds : List Delivery)
    → transferred from ds (record { client = record { last = last; operation = None }; server = server; answer = answer })
    ≡ record { client = record { last = last; operation = None }; server = server; answer = answer }
stays_closed from last server answer [] = refl
stays_closed from last server answer (d ∷ ds) = refl

at_end : (P : FtpLink → Type 0) (from : Stream) (last : Option ℕ) (server : FilesState) (answer : FtpStep)
    → P (record { client = record { last = last; operation = None }; server = server; answer = answer })
    → Ends P from 0 (record { client = record { last = last; operation = None }; server = server; answer = answer })
at_end P from last server answer holds ds few h = subst P (sym (stays_closed from last server answer ds)) holds

-- what one request makes of a server's storage and of the operation
pub record Turn (from : Stream) (last : Option ℕ) (t : Transfer) (st next : Storage) (course : Course) : Type 0 where
  pub opcode : ℕ
  pub session : ℕ
  pub out : List ℕ
  pub small : IsSmall t
  pub serves : storage_step st from (fields_of (transfer_request (request_seq last) t)) (sized_data (transfer_request (request_seq last) t))
      ≡ record { storage = next; reply = reply_of (request_fields (request_seq last) t) opcode session out }
  pub replies : is_reply (request_seq last) t (reply_fields (request_fields (request_seq last) t) opcode session out) ≡ true
  pub goes : (idle : ℕ) → replied (waits t idle) (reply_fields (request_fields (request_seq last) t) opcode session out) out ≡ course

-- the server after it
abbrev pub server_after : (from : Stream) (last : Option ℕ) (t : Transfer) (next : Storage) (exchanges : List Exchange) (reply : List ℕ) → FilesState
server_after from last t next exchanges reply =
    server_at next (with_exchange exchanges (record { stream = from; request = transfer_request (request_seq last) t; reply = reply }))

turns : (P : FtpLink → Type 0) (from : Stream) (k : ℕ) (last : Option ℕ) (t : Transfer) (st next : Storage) (course : Course) (turn : Turn from last t st next course)
    (exchanges : List Exchange) (answer : FtpStep) → IsFresh exchanges from (transfer_request (request_seq last) t)
    → Ends P from k (joined (after_course (next_seq (request_seq last)) course) (server_after from last t next exchanges (reply_of (request_fields (request_seq last) t) turn.opcode turn.session turn.out)))
    → Ends P from (suc k) (link_at last (waits t 0) st exchanges answer)
turns P from k last t st next course turn exchanges answer fresh later ds few enough =
    let seq = request_seq last in
    let r = request_fields seq t in
    let p = transfer_request seq t in
    let s : Served = record { storage = next; reply = reply_of r turn.opcode turn.session turn.out } in
    let f = reply_fields r turn.opcode turn.session turn.out in
    let server = server_at st exchanges in
    let taken : (idle : ℕ) → heard (record { last = last; operation = Some (waits t idle) }) (Some (waits t idle)) s.reply ≡ after_course (next_seq seq) course =
    λ idle. takes last (waits t idle) s.reply f turn.out (numbers_back f turn.out (next_small seq) turn.small) (data_back f turn.out refl) turn.replies ∙ ap (λ c. after_course (next_seq seq) c) (turn.goes idle) in
    arrives P from k last t s.reply (server_after from last t next exchanges s.reply) (after_course (next_seq seq) course)
    (serves_again server from p s) taken later ds 0 server answer (serves_new server from p s fresh turn.serves) few enough

-- the operation goes on, and the next request is a new one
pub goes_on : (P : FtpLink → Type 0) (from : Stream) (k : ℕ) (last : Option ℕ) (t : Transfer) (st next : Storage) (after : Transfer)
    → Turn from last t st next (Goes_on after) → IsSmall after
    → ((last : Option ℕ) (exchanges : List Exchange) (answer : FtpStep) → IsFresh exchanges from (transfer_request (request_seq last) after) → Ends P from k (link_at last after next exchanges answer))
    → (exchanges : List Exchange) (answer : FtpStep) → IsFresh exchanges from (transfer_request (request_seq last) t)
    → Ends P from (suc k) (link_at last (waits t 0) st exchanges answer)
goes_on P from k last t st next after turn small later exchanges answer fresh =
    let seq = request_seq last in
    let reply = reply_of (request_fields seq t) turn.opcode turn.session turn.out in
    let kept = with_exchange exchanges (record { stream = from; request = transfer_request seq t; reply = reply }) in
    let ends = later (Some (next_seq seq)) kept (Send (transfer_request (next_seq (next_seq seq)) after)) (fresh_next exchanges from seq t after reply (seq_small last) turn.small small) in
    turns P from k last t st next (Goes_on after) turn exchanges answer fresh ends

-- none is open, and any next request is a new one
pub record Closed (from : Stream) (st : Storage) (answer : FtpStep) (l : FtpLink) : Type 0 where
  pub seq : ℕ
  pub exchanges : List Exchange
  pub is : l ≡ record { client = record { last = Some seq; operation = None }; server = server_at st exchanges; answer = answer }
  pub fresh : (t : Transfer) → IsSmall t → IsFresh exchanges from (transfer_request (next_seq seq) t)

pub is_done : (from : Stream) (last : Option ℕ) (t : Transfer) (st next : Storage) (bytes : List ℕ)
    → Turn from last t st next (Is_done bytes)
    → (exchanges : List Exchange) (answer : FtpStep) → IsFresh exchanges from (transfer_request (request_seq last) t)
    → Ends (Closed from next (Done bytes)) from 1 (link_at last (waits t 0) st exchanges answer)
is_done from last t st next bytes turn exchanges answer fresh =
    let seq = request_seq last in
    let reply = reply_of (request_fields seq t) turn.opcode turn.session turn.out in
    let kept = with_exchange exchanges (record { stream = from; request = transfer_request seq t; reply = reply }) in
    let P : FtpLink → Type 0 = λ l. Closed from next (Done bytes) l in
    let closed : P (record { client = record { last = Some (next_seq seq); operation = None }; server = server_at next kept; answer = Done bytes }) = record {
      seq = next_seq seq;
      exchanges = kept;
      is = refl;
      fresh = λ after small. fresh_next exchanges from seq t after reply (seq_small last) turn.small small;
    } in
    turns P from 0 last t st next (Is_done bytes) turn exchanges answer fresh (at_end P from (Some (next_seq seq)) (server_at next kept) (Done bytes) closed)

-- the client takes an ACK and a NAK of these sizes
same : (n : ℕ) → (n == n) ≡ true
same n = grind arith

at_most : (a b : ℕ) → a ≤ b → nat_le a b ≡ true
at_most a b h = grind arith

sized : (t : Transfer) (f : FtpFields) → least_size t.phase (f.opcode == ack) ≤ f.size → f.size ≤ most_data → length t.bytes + f.size ≤ most_taken
    → is_sized t f ≡ true
sized t f least most few = rw (at_most (least_size t.phase (f.opcode == ack)) f.size least, at_most f.size most_data most, at_most (length t.bytes + f.size) most_taken few) refl

pub acks : (seq : ℕ) (t : Transfer) (session : ℕ) (out : List ℕ)
    → least_size t.phase true ≤ length out → length out ≤ most_data → length t.bytes + length out ≤ most_taken
    → is_reply seq t (reply_fields (request_fields seq t) ack session out) ≡ true
acks seq t session out least most few =
    rw (same (next_seq seq), same (opcode_of t.phase), sized t (reply_fields (request_fields seq t) ack session out) least most few) refl

pub naks : (seq : ℕ) (t : Transfer) (session error : ℕ) → least_size t.phase false ≤ 1 → length t.bytes + 1 ≤ most_taken
    → is_reply seq t (reply_fields (request_fields seq t) nak session (error ∷ [])) ≡ true
naks seq t session error least few =
    rw (same (next_seq seq), same (opcode_of t.phase), sized t (reply_fields (request_fields seq t) nak session (error ∷ [])) least (omega arith) few) refl
