-- The part of the world and the store that a drone d and a station s have, and what holds of it.
use Rattle.std.proofs.Common.{◌≡◌, ◌≢◌, ℕ, suc, zero, ◌+◌, ◌<◌, ◌≤◌, ◌⊎◌, inl, inr, Bool, true, false, List, [], ◌∷◌, length, take, Option, Some, None, refl, subst, arith, ◌∙◌}
use Rattle.std.specs.Prelude.{slice_get}
use Rattle.mav_names.specs.declared.names.Name.{Name}
use Rattle.mav_names.specs.declared.names.Stream.{Stream}
use Rattle.plan_items.specs.declared.items.Item.{Item}
use Rattle.plan_items.specs.declared.messages.PlanMsg.{PlanMsg}
use Rattle.plan_items.specs.declared.messages.PlanMsg.TheVariants.{Count, Request, Item as Give, Ack, List as Listing, Clear, Ping}
use Rattle.plan_upload.specs.Addresses.{node_of, everyone, is_for_drone}
use Rattle.plan_upload.specs.Drone.{DroneState, Upload, Download, is_own, result_of}
use Rattle.plan_upload.specs.Station.{Operation, Work, Uploads, Clears, Gets, Phase, Pinging, Cancelling, Sending, Clearing, Listing_items, Getting, phase_number, addressee}
use Rattle.plan_safety.specs.Frames.{Frame, Said, SaidAfter}
use Rattle.plan_safety.specs.Store.{Job, A_clear, A_get, Transaction, Stage, Fresh, In_place, Closed, CountSent, ItemAsked, RefusesCount, RefusesUpload, RefusedWith, is_emptied, staged}
use Rattle.plan_safety.proofs.Keys.{flag}
use Rattle.plan_safety.proofs.Pair.{Pair, Facts, SentByStation, SentByDrone, IsVerdict}

-- what the station has open at the drone beside an upload
pub record Seen : Type 0 where
  pub kind : ℕ
  pub job : Job
  pub drone_since : ℕ
  pub emptied : List ℕ

pub record Part : Type 0 where
  pub drone : DroneState
  pub drone_last : ℕ
  pub drone_next : ℕ
  pub operation : Option Operation  -- the station's, if it is at the drone
  pub synced : Bool
  pub pings : ℕ
  pub station_last : ℕ
  pub station_next : ℕ
  pub transaction : Transaction
  pub opening : Option Seen
  pub cancelled : Bool
  pub sent : List Frame

-- the moments of the pair
pub record Moments : Type 0 where
  pub first_count : ℕ
  pub last_count : ℕ
  pub last_request : ℕ
  pub first_open : ℕ
  pub first_ping : ℕ
  pub first_reply : ℕ
  pub first_job : ℕ
  pub last_job : ℕ
  pub last_cancel : ℕ
  pub last_ack : ℕ
  pub last_verdict : ℕ
  pub last_shown : ℕ
  pub now_shown : ℕ
  pub counted : ℕ

abbrev pub result_number : Option Bool → ℕ
result_number None = 0
result_number (Some true) = 2
result_number (Some false) = 1

abbrev pub work_number : Work → ℕ
work_number Uploads = 1
work_number Clears = 2
work_number Gets = 3

abbrev pub job_number : Job → ℕ
job_number A_clear = 1
job_number (A_get shown) = 2

abbrev pub stage_number : Stage → ℕ
stage_number Fresh = 1
stage_number In_place = 2
stage_number Closed = 0

abbrev pub number_in : {A : Type 0} → Option A → (A → ℕ) → ℕ
number_in None f = 0
number_in (Some a) f = f a

-- the number of an attempt; no reply has that of one without a PING
abbrev pub attempt_number : ℕ → Option ℕ → ℕ
attempt_number pings None = pings + 1
attempt_number pings (Some number) = number

-- the drone's next timestamp when the operation began
abbrev pub began_at : Work → ℕ → ℕ → ℕ
began_at Uploads upload other = upload
began_at Clears upload other = other
began_at Gets upload other = other

abbrev pub since_of : Option Seen → ℕ
since_of c = number_in c (λ x. x.drone_since)

abbrev pub pair_of : Stream → Part → Moments → Pair
pair_of s p g = record {
  has_open = flag (is_own p.drone.upload s);
  result = result_number (result_of p.drone.results s);
  drone_last = p.drone_last;
  drone_next = p.drone_next;
  work = number_in p.operation (λ o. work_number o.work);
  phase = number_in p.operation (λ o. phase_number o.phase);
  terminating = number_in p.operation (λ o. flag o.terminating);
  asked = number_in p.operation (λ o. flag o.asked);
  final_sent = number_in p.operation (λ o. flag o.final_sent);
  number = number_in p.operation (λ o. attempt_number p.pings o.number);
  next_ping = p.pings + 1;
  synced = flag p.synced;
  station_last = p.station_last;
  station_next = p.station_next;
  stage = stage_number p.transaction.stage;
  lost = flag p.transaction.lost;
  job = number_in p.opening (λ c. job_number c.job);
  began = number_in p.operation (λ o. began_at o.work p.transaction.drone_since (since_of p.opening));
  first_count = g.first_count;
  last_count = g.last_count;
  last_request = g.last_request;
  first_open = g.first_open;
  first_ping = g.first_ping;
  first_reply = g.first_reply;
  first_job = g.first_job;
  last_job = g.last_job;
  last_cancel = g.last_cancel;
  last_ack = g.last_ack;
  last_verdict = g.last_verdict;
  last_shown = g.last_shown;
  now_shown = g.now_shown;
  counted = g.counted;
}

-- the plan that a download was shown
abbrev pub shown_by : Job → List Item
shown_by A_clear = []
shown_by (A_get None) = []
shown_by (A_get (Some plan)) = plan

abbrev pub shown_of : Option Seen → List Item
shown_of None = []
shown_of (Some c) = shown_by c.job

abbrev pub IsShown : Job → Type 0
IsShown A_clear = ⊥
IsShown (A_get None) = ⊥
IsShown (A_get (Some plan)) = Unit {0}

abbrev pub HasShown : Option Seen → Type 0
HasShown None = ⊥
HasShown (Some c) = IsShown c.job

abbrev pub kind_of : Option Seen → ℕ
kind_of c = number_in c (λ x. x.kind)

-- a clear is open that has emptied each of its kinds
abbrev pub emptied_of : Option Seen → Bool
emptied_of None = false
emptied_of (Some c) = is_emptied c.kind c.emptied

-- a clear of this kind is open, or a download
abbrev pub IsClear : ℕ → Option Seen → Type 0
IsClear kind None = ⊥
IsClear kind (Some c) = (c.job ≡ A_clear) × (c.kind ≡ kind)

abbrev pub IsGetJob : Job → Type 0
IsGetJob A_clear = ⊥
IsGetJob (A_get shown) = Unit {0}

abbrev pub IsGet : ℕ → Option Seen → Type 0
IsGet kind None = ⊥
IsGet kind (Some c) = IsGetJob c.job × (c.kind ≡ kind)

-- what the drone's frames for a download say: the count, and then the items, of the plan that was shown
abbrev pub Shows : Pair → ℕ → List Item → ℕ → Option PlanMsg → Type 0
Shows p kind plan t (Some (Ping to usec n)) = Unit {0}
Shows p kind plan t (Some (Count to n k)) = 4 < p.phase → 0 < p.now_shown → p.now_shown ≤ t → (k ≡ kind) × (n ≡ length plan)
Shows p kind plan t (Some (Give to i k x)) = 4 < p.phase → 0 < p.now_shown → p.now_shown < t → (k ≡ kind) × (slice_get plan i ≡ Some x)
Shows p kind plan t (Some (Request to i k)) = Unit {0}
Shows p kind plan t (Some (Ack to c k)) = Unit {0}
Shows p kind plan t (Some (Clear to k)) = Unit {0}
Shows p kind plan t (Some (Listing to k)) = Unit {0}
Shows p kind plan t None = Unit {0}

-- the open download of the stream s is of that plan
abbrev pub Copies : Stream → ℕ → List Item → Option Download → Type 0
Copies s kind plan None = Unit {0}
Copies s kind plan (Some c) = c.stream ≡ s → (c.kind ≡ kind) × (c.items ≡ plan)

-- in phase 6 the station has gathered a proper prefix of that plan
abbrev pub GathersIn : List Item → Phase → List Item → ℕ → Type 0
GathersIn plan Pinging got total = Unit {0}
GathersIn plan Cancelling got total = Unit {0}
GathersIn plan Sending got total = Unit {0}
GathersIn plan Clearing got total = Unit {0}
GathersIn plan Listing_items got total = Unit {0}
GathersIn plan Getting got total = (got ≡ take (length got) plan) × (length got < length plan) × (total ≡ length plan)

-- the operation is the latest upload transaction, or what is open
abbrev pub Means : Transaction → Option Seen → Work → ℕ → List Item → Type 0
Means t c Uploads kind plan = (kind ≡ t.kind) × (plan ≡ t.plan)
Means t c Clears kind plan = IsClear kind c
Means t c Gets kind plan = IsGet kind c

-- the number of a PING was used
abbrev pub Numbered : ℕ → Option ℕ → Type 0
Numbered pings None = Unit {0}
Numbered pings (Some number) = number ≤ pings

-- a kept code is one that the drone refused the upload with
abbrev pub Coded : List Frame → Stream → Stream → Transaction → Option ℕ → Type 0
Coded sent d s t None = Unit {0}
Coded sent d s t (Some code) = RefusedWith sent d s t code

-- a clear or a download terminates only if it was cancelled
abbrev pub Terminates : Bool → Work → Bool → Type 0
Terminates cancelled Uploads terminating = Unit {0}
Terminates cancelled Clears terminating = terminating ≡ true → cancelled ≡ true
Terminates cancelled Gets terminating = terminating ≡ true → cancelled ≡ true

-- the last item was sent to the drone
abbrev pub Final : List Frame → Stream → Stream → Transaction → Type 0
Final sent d s t = (seq : ℕ) × (item : Item) × (seq + 1 ≡ length t.plan) × (slice_get t.plan seq ≡ Some item) × Said sent s t.since (Give (node_of d) seq t.kind item)

-- in phase 2 the cancel was sent to the drone, after the last item if that was sent
abbrev pub CancelSaid : List Frame → Stream → Stream → ℕ → (List Frame → Type 0) → Bool → ℕ → Phase → Type 0
CancelSaid sent d s since Last final kind Cancelling =
    Said sent s since (Ack (node_of d) 15 kind) × (final ≡ true → SaidAfter Last sent s (Ack (node_of d) 15 kind))
CancelSaid sent d s since Last final kind Pinging = Unit {0}
CancelSaid sent d s since Last final kind Sending = Unit {0}
CancelSaid sent d s since Last final kind Clearing = Unit {0}
CancelSaid sent d s since Last final kind Listing_items = Unit {0}
CancelSaid sent d s since Last final kind Getting = Unit {0}

-- what holds of the station's operation at the drone
pub record Operating (d s : Stream) (sent : List Frame) (t : Transaction) (c : Option Seen) (cancelled : Bool) (pings : ℕ) (o : Operation) : Type 0 where
  pub means : Means t c o.work o.kind o.plan
  pub numbered : Numbered pings o.number
  pub coded : Coded sent d s t o.code
  pub terminates : Terminates cancelled o.work o.terminating
  pub gathers : GathersIn (shown_of c) o.phase o.got o.total
  pub final : o.final_sent ≡ true → Final sent d s t
  pub cancel : CancelSaid sent d s t.since (λ earlier. Final earlier d s t) o.final_sent o.kind o.phase

abbrev pub Operates : Stream → Stream → List Frame → Transaction → Option Seen → Bool → ℕ → Option Operation → Type 0
Operates d s sent t c cancelled pings None = Unit {0}
Operates d s sent t c cancelled pings (Some o) = Operating d s sent t c cancelled pings o

-- what the truth of a frame speaks of: the kinds, how long the plan is, the plan, since when it is uploaded, the plan
-- shown, and whether the clear has emptied its kinds
pub record Subject : Type 0 where
  pub jkind : ℕ
  pub kind : ℕ
  pub total : ℕ
  pub plan : ℕ → Option Item
  pub since : ℕ
  pub shown : List Item
  pub emptied : Bool

abbrev pub subject : Transaction → Option Seen → Subject
subject t c = record { jkind = kind_of c; kind = t.kind; total = length t.plan; plan = slice_get t.plan; since = t.since; shown = shown_of c; emptied = emptied_of c }

-- the last item was sent, and a cancel of the upload after it
abbrev pub LastSent : Stream → Stream → Subject → List Frame → Type 0
LastSent d s j sent = (seq : ℕ) × (item : Item) × (seq + 1 ≡ j.total) × (j.plan seq ≡ Some item) × Said sent s j.since (Give (node_of d) seq j.kind item)

abbrev pub LastCancelled : Stream → Stream → Subject → List Frame → Type 0
LastCancelled d s j sent = SaidAfter (λ earlier. LastSent d s j earlier) sent s (Ack (node_of d) 15 j.kind)

-- the drone answered with code 1 after that cancel
abbrev pub Settled : List Frame → Stream → Stream → Transaction → Type 0
Settled sent d s t =
    (kind : ℕ) × SaidAfter (λ earlier. SaidAfter (λ first. Final first d s t) earlier s (Ack (node_of d) 15 t.kind)) sent d (Ack (node_of s) 1 kind)

-- what is true of an acknowledgement since the first reply to this attempt's PING, once the last item was sent: if its
-- code is 1 the cancel was sent before it
abbrev pub Settles : Stream → Stream → Pair → Subject → ℕ → List Frame → Option PlanMsg → Type 0
Settles d s p j t earlier (Some (Ping to usec n)) = Unit {0}
Settles d s p j t earlier (Some (Count to n k)) = Unit {0}
Settles d s p j t earlier (Some (Give to i k x)) = Unit {0}
Settles d s p j t earlier (Some (Request to i k)) = Unit {0}
Settles d s p j t earlier (Some (Ack to c k)) = 0 < p.first_reply → p.first_reply < t → p.final_sent ≡ 1 → c ≡ 1 → LastCancelled d s j earlier
Settles d s p j t earlier (Some (Clear to k)) = Unit {0}
Settles d s p j t earlier (Some (Listing to k)) = Unit {0}
Settles d s p j t earlier None = Unit {0}

-- what is true of an acknowledgement while a clear waits for it: if its code is 0 the clear has emptied its kinds
abbrev pub Accepts : Pair → Bool → ℕ → Option PlanMsg → Type 0
Accepts p emptied t (Some (Ping to usec n)) = Unit {0}
Accepts p emptied t (Some (Count to n k)) = Unit {0}
Accepts p emptied t (Some (Give to i k x)) = Unit {0}
Accepts p emptied t (Some (Request to i k)) = Unit {0}
Accepts p emptied t (Some (Ack to c k)) = p.phase ≡ 4 → p.station_last < t → c ≡ 0 → emptied ≡ true
Accepts p emptied t (Some (Clear to k)) = Unit {0}
Accepts p emptied t (Some (Listing to k)) = Unit {0}
Accepts p emptied t None = Unit {0}

-- a plan message for this name; one that a drone may hear
abbrev pub IsTo : Name → Option PlanMsg → Type 0
IsTo name None = ⊥
IsTo name (Some m) = addressee m ≡ name

abbrev pub Reaches : Stream → Option PlanMsg → Type 0
Reaches d None = ⊥
Reaches d (Some m) = (is_for_drone d.sys (addressee m) ≡ true) ⊎ (addressee m ≡ everyone)

-- it is a PING, or for the drone by name
abbrev pub Named : Stream → Option PlanMsg → Type 0
Named d (Some (Ping to usec n)) = Unit {0}
Named d (Some (Count to n k)) = to ≡ node_of d
Named d (Some (Give to i k x)) = to ≡ node_of d
Named d (Some (Request to i k)) = to ≡ node_of d
Named d (Some (Ack to c k)) = to ≡ node_of d
Named d (Some (Clear to k)) = to ≡ node_of d
Named d (Some (Listing to k)) = to ≡ node_of d
Named d None = Unit {0}

-- what is true of a frame, after these earlier ones
pub record Truth (d s : Stream) (p : Pair) (j : Subject) (f : Frame) (earlier : List Frame) : Type 0 where
  pub drone : f.from ≡ d → IsTo (node_of s) f.message → SentByDrone p f.timestamp f.message
  pub station : f.from ≡ s → Reaches d f.message → SentByStation p j.jkind j.kind j.total j.plan f.timestamp f.message
  pub shows : f.from ≡ d → IsTo (node_of s) f.message → Shows p j.jkind j.shown f.timestamp f.message
  pub last : f.from ≡ d → IsTo (node_of s) f.message → Settles d s p j f.timestamp earlier f.message
  pub accepts : f.from ≡ d → IsTo (node_of s) f.message → Accepts p j.emptied f.timestamp f.message
  pub named : f.from ≡ s → Reaches d f.message → Named d f.message
  pub by_drone : f.from ≡ d → f.timestamp < p.drone_next
  pub by_station : f.from ≡ s → f.timestamp < p.station_next

abbrev pub Truths : Stream → Stream → Pair → Subject → List Frame → Type 0
Truths d s p j [] = Unit {0}
Truths d s p j (f ∷ fs) = Truth d s p j f fs × Truths d s p j fs

-- what was gathered is a prefix of the transaction's plan, all of it sent
pub record Gathering (d s : Stream) (sent : List Frame) (t : Transaction) (u : Upload) : Type 0 where
  pub kind : u.kind ≡ t.kind
  pub total : u.total ≡ length t.plan
  pub short : length u.items < length t.plan
  pub same : u.items ≡ take (length u.items) t.plan
  pub said : (i : ℕ) (x : Item) → i < length u.items → slice_get t.plan i ≡ Some x → Said sent s t.since (Give (node_of d) i t.kind x)

abbrev pub Gathers : Stream → Stream → List Frame → Transaction → Option Upload → Type 0
Gathers d s sent t None = Unit {0}
Gathers d s sent t (Some u) = u.stream ≡ s → Gathering d s sent t u

-- what is true of an acknowledgement of the drone at this time; `earlier` are the frames before it: it refuses the
-- upload, if it refuses a Count since the first one was sent, or anything since the upload was opened
abbrev pub Answers : Stream → Stream → Transaction → ℕ → ℕ → ℕ → List Frame → Option PlanMsg → Type 0
Answers d s t counted opened time earlier (Some (Ping to usec n)) = Unit {0}
Answers d s t counted opened time earlier (Some (Count to n k)) = Unit {0}
Answers d s t counted opened time earlier (Some (Give to i k x)) = Unit {0}
Answers d s t counted opened time earlier (Some (Request to i k)) = Unit {0}
Answers d s t counted opened time earlier (Some (Ack to c k)) =
    (counted ≤ time → RefusesCount c → (k ≡ t.kind) × CountSent earlier d s t)
    × (0 < opened → opened ≤ time → c ≢ 0 → (k ≡ t.kind) × ItemAsked earlier d s t × RefusesUpload c)
Answers d s t counted opened time earlier (Some (Clear to k)) = Unit {0}
Answers d s t counted opened time earlier (Some (Listing to k)) = Unit {0}
Answers d s t counted opened time earlier None = Unit {0}

-- what is true of each of the drone's to the station
abbrev pub Answered : Stream → Stream → Transaction → ℕ → ℕ → List Frame → Type 0
Answered d s t counted opened [] = Unit {0}
Answered d s t counted opened (f ∷ fs) =
    (f.from ≡ d → IsTo (node_of s) f.message → Answers d s t counted opened f.timestamp fs f.message) × Answered d s t counted opened fs

pub record Inv (d s : Stream) (p : Part) (g : Moments) : Type 0 where
  pub facts : Facts (pair_of s p g)
  pub truths : Truths d s (pair_of s p g) (subject p.transaction p.opening) p.sent
  pub upload : Gathers d s p.sent p.transaction p.drone.upload
  pub operation : Operates d s p.sent p.transaction p.opening p.cancelled p.pings p.operation
  pub for_drone : stage_number p.transaction.stage ≡ 1 → p.transaction.drone ≡ d
  pub since : p.transaction.since ≤ p.station_next
  pub since_count : 0 < g.first_count → p.transaction.since ≤ g.first_count
  pub count : 0 < g.first_count → Said p.sent s p.transaction.since (Count (node_of d) (length p.transaction.plan) p.transaction.kind)
  pub download : 4 < (pair_of s p g).phase → 0 < g.now_shown → HasShown p.opening × Copies s (kind_of p.opening) (shown_of p.opening) p.drone.download
  pub asked : 0 < g.first_open → ItemAsked p.sent d s p.transaction
  pub answers : (pair_of s p g).phase ≡ 3 → Answered d s p.transaction g.counted g.first_open p.sent

-- frames
pub truths_keep : (d s : Stream) (p q : Pair) (j k : Subject) → ((f : Frame) (earlier : List Frame) → Truth d s p j f earlier → Truth d s q k f earlier) → (fs : List Frame) → Truths d s p j fs → Truths d s q k fs
truths_keep d s p q j k t [] h = tt
truths_keep d s p q j k t (f ∷ fs) h = (t f fs h.0, truths_keep d s p q j k t fs h.1)

-- of a frame in its place
pub truth_at : (d s : Stream) (p : Pair) (j : Subject) (fs : List Frame) (k : ℕ) (f : Frame) → slice_get fs k ≡ Some f → Truths d s p j fs → (earlier : List Frame) × Truth d s p j f earlier
truth_at d s p j [] k f e h = absurd (cc)
truth_at d s p j (g ∷ fs) zero f e h = let same : g ≡ f = cc in (fs, subst (λ x. Truth d s p j x fs) same h.0)
truth_at d s p j (g ∷ fs) (suc k) f e h = truth_at d s p j fs k f e h.1

-- a frame in its place was said
pub said_at : (fs : List Frame) (k : ℕ) (f : Frame) (s : Stream) (since : ℕ) (m : PlanMsg) → slice_get fs k ≡ Some f → f.from ≡ s → since ≤ f.timestamp → f.message ≡ Some m → Said fs s since m
said_at [] k f s since m e a b c = absurd (cc)
said_at (g ∷ fs) zero f s since m e a b c = let same : f ≡ g = cc in inl (subst (λ (x : Frame). (x.from ≡ s) × (since ≤ x.timestamp) × (x.message ≡ Some m)) same (a, b, c))
said_at (g ∷ fs) (suc k) f s since m e a b c = inr (said_at fs k f s since m e a b c)

-- what was gathered, once more is sent, or with another stage
pub gathers_more : (d s : Stream) (sent : List Frame) (f : Frame) (t : Transaction) (u : Option Upload) → Gathers d s sent t u → Gathers d s (f ∷ sent) t u
gathers_more d s sent f t None h = tt
gathers_more d s sent f t (Some u) h = λ e. let g = h e in record { kind = g.kind; total = g.total; short = g.short; same = g.same; said = λ i x l y. inr (g.said i x l y) }

pub gathers_at : (d s : Stream) (sent : List Frame) (t : Transaction) (stage : Stage) (u : Option Upload) → Gathers d s sent t u → Gathers d s sent (staged t stage) u
gathers_at d s sent t stage None h = tt
gathers_at d s sent t stage (Some u) h = λ e. let g = h e in record { kind = g.kind; total = g.total; short = g.short; same = g.same; said = g.said }

-- the operation, once more is sent
pub coded_more : (d s : Stream) (sent : List Frame) (f : Frame) (t : Transaction) (code : Option ℕ) → Coded sent d s t code → Coded (f ∷ sent) d s t code
coded_more d s sent f t None h = tt
coded_more d s sent f t (Some code) h = inr h

pub final_more : (d s : Stream) (sent : List Frame) (f : Frame) (t : Transaction) → Final sent d s t → Final (f ∷ sent) d s t
final_more d s sent f t h = (h.0, h.1, h.2, h.3, inr h.4)

pub cancel_more : (d s : Stream) (sent : List Frame) (f : Frame) (since : ℕ) (Last : List Frame → Type 0) (final : Bool) (kind : ℕ) (phase : Phase) → CancelSaid sent d s since Last final kind phase → CancelSaid (f ∷ sent) d s since Last final kind phase
cancel_more d s sent f since Last final kind Cancelling h = (inr h.0, λ e. inr (h.1 e))
cancel_more d s sent f since Last final kind Pinging h = tt
cancel_more d s sent f since Last final kind Sending h = tt
cancel_more d s sent f since Last final kind Clearing h = tt
cancel_more d s sent f since Last final kind Listing_items h = tt
cancel_more d s sent f since Last final kind Getting h = tt

pub operating_more : (d s : Stream) (sent : List Frame) (f : Frame) (t : Transaction) (c : Option Seen) (cancelled : Bool) (pings : ℕ) (o : Operation) → Operating d s sent t c cancelled pings o → Operating d s (f ∷ sent) t c cancelled pings o
operating_more d s sent f t c cancelled pings o h = record {
  means = h.means;
  numbered = h.numbered;
  coded = coded_more d s sent f t o.code h.coded;
  terminates = h.terminates;
  gathers = h.gathers;
  final = λ e. final_more d s sent f t (h.final e);
  cancel = cancel_more d s sent f t.since (λ earlier. Final earlier d s t) o.final_sent o.kind o.phase h.cancel;
}

pub operates_more : (d s : Stream) (sent : List Frame) (f : Frame) (t : Transaction) (c : Option Seen) (cancelled : Bool) (pings : ℕ) (o : Option Operation) → Operates d s sent t c cancelled pings o → Operates d s (f ∷ sent) t c cancelled pings o
operates_more d s sent f t c cancelled pings None h = tt
operates_more d s sent f t c cancelled pings (Some o) h = operating_more d s sent f t c cancelled pings o h

-- the operation does not speak of the transaction's stage, nor of whether it is lost
means_else : (t : Transaction) (stage : Stage) (lost : Bool) (c : Option Seen) (w : Work) (kind : ℕ) (plan : List Item) → Means t c w kind plan → Means (record t { stage = stage; lost = lost }) c w kind plan
means_else t stage lost c Uploads kind plan h = h
means_else t stage lost c Clears kind plan h = h
means_else t stage lost c Gets kind plan h = h

coded_else : (d s : Stream) (sent : List Frame) (t : Transaction) (stage : Stage) (lost : Bool) (code : Option ℕ) → Coded sent d s t code → Coded sent d s (record t { stage = stage; lost = lost }) code
coded_else d s sent t stage lost None h = tt
coded_else d s sent t stage lost (Some code) h = h

pub operates_else : (d s : Stream) (sent : List Frame) (t : Transaction) (stage : Stage) (lost : Bool) (c : Option Seen) (cancelled : Bool) (pings : ℕ) (o : Option Operation) → Operates d s sent t c cancelled pings o → Operates d s sent (record t { stage = stage; lost = lost }) c cancelled pings o
operates_else d s sent t stage lost c cancelled pings None h = tt
operates_else d s sent t stage lost c cancelled pings (Some o) h = record {
  means = means_else t stage lost c o.work o.kind o.plan h.means;
  numbered = h.numbered;
  coded = coded_else d s sent t stage lost o.code h.coded;
  terminates = h.terminates;
  gathers = h.gathers;
  final = h.final;
  cancel = h.cancel;
}

-- what a step leaves of an attempt and of a clear
pub record Again (p q : Pair) : Type 0 where
  pub attempt : 0 < q.first_reply → q.final_sent ≡ 1 → ((p.first_reply ≡ q.first_reply) × (p.final_sent ≡ 1)) ⊎ (p.drone_next ≤ q.first_reply)
  pub clear : q.phase ≡ 4 → ((p.phase ≡ 4) × (p.station_last ≤ q.station_last)) ⊎ (p.last_verdict ≤ q.station_last)

-- a step that changes neither
pub again_same : (p q : Pair) → p.first_reply ≡ q.first_reply → p.final_sent ≡ q.final_sent → p.phase ≡ q.phase → p.station_last ≤ q.station_last → Again p q
again_same p q a b c l = record { attempt = λ _ e. inl (a, b ∙ e); clear = λ e. inl (c ∙ e, l) }

-- what was true of each message is true of it again
pub record Keeps (p q : Pair) : Type 0 where
  pub drone_next : p.drone_next ≤ q.drone_next
  pub station_next : p.station_next ≤ q.station_next
  pub shows : 4 < q.phase → 0 < q.now_shown → (4 < p.phase) × (p.now_shown ≡ q.now_shown)
  pub again : Again p q
  pub drone : (u : ℕ) (m : Option PlanMsg) → SentByDrone p u m → SentByDrone q u m
  pub station : (jkind kind total : ℕ) (plan : ℕ → Option Item) (u : ℕ) (m : Option PlanMsg) → SentByStation p jkind kind total plan u m → SentByStation q jkind kind total plan u m

-- what was shown is shown again
pub shows_again : (p q : Pair) (kind : ℕ) (plan : List Item) (t : ℕ) (m : Option PlanMsg) → (4 < q.phase → 0 < q.now_shown → (4 < p.phase) × (p.now_shown ≡ q.now_shown)) → Shows p kind plan t m → Shows q kind plan t m
shows_again p q kind plan t (Some (Ping to usec n)) k h = tt
shows_again p q kind plan t (Some (Count to n c)) k h = λ a b l. let e = k a b in h e.0 (let z = e.1 in omega arith) (let z = e.1 in omega arith)
shows_again p q kind plan t (Some (Give to i c x)) k h = λ a b l. let e = k a b in h e.0 (let z = e.1 in omega arith) (let z = e.1 in omega arith)
shows_again p q kind plan t (Some (Request to i c)) k h = tt
shows_again p q kind plan t (Some (Ack to c i)) k h = tt
shows_again p q kind plan t (Some (Clear to c)) k h = tt
shows_again p q kind plan t (Some (Listing to c)) k h = tt
shows_again p q kind plan t None k h = tt

-- what was true of acknowledgements is true again
pub settles_again : (d s : Stream) (p q : Pair) (j : Subject) (t : ℕ) (earlier : List Frame) (m : Option PlanMsg) → Again p q → t < p.drone_next → Settles d s p j t earlier m → Settles d s q j t earlier m
settles_again d s p q j t earlier (Some (Ping to usec n)) a l h = tt
settles_again d s p q j t earlier (Some (Count to n k)) a l h = tt
settles_again d s p q j t earlier (Some (Give to i k x)) a l h = tt
settles_again d s p q j t earlier (Some (Request to i k)) a l h = tt
settles_again d s p q j t earlier (Some (Ack to c k)) a l h = λ some late last one. elim (a.attempt some last) [
  | inl x ↦ h (let y = x.0 in omega arith) (let y = x.0 in omega arith) x.1 one
  | inr x ↦ absurd (omega arith)
]
settles_again d s p q j t earlier (Some (Clear to k)) a l h = tt
settles_again d s p q j t earlier (Some (Listing to k)) a l h = tt
settles_again d s p q j t earlier None a l h = tt

pub zero_verdict : (c : ℕ) → c ≡ 0 → IsVerdict c
zero_verdict c e = grind arith

pub accepts_again : (p q : Pair) (e e' : Bool) (t : ℕ) (m : Option PlanMsg) → Again p q → (e ≡ true → e' ≡ true) → SentByDrone p t m → Accepts p e t m → Accepts q e' t m
accepts_again p q e e' t (Some (Ping to usec n)) a l by h = tt
accepts_again p q e e' t (Some (Count to n k)) a l by h = tt
accepts_again p q e e' t (Some (Give to i k x)) a l by h = tt
accepts_again p q e e' t (Some (Request to i k)) a l by h = tt
accepts_again p q e e' t (Some (Ack to c k)) a l by h = λ ph late none. elim (a.clear ph) [
  | inl x ↦ l (h x.0 (let y = x.1 in omega arith) none)
  | inr x ↦ absurd (let y : t ≤ p.last_verdict = by.9 (zero_verdict c none) in omega arith)
]
accepts_again p q e e' t (Some (Clear to k)) a l by h = tt
accepts_again p q e e' t (Some (Listing to k)) a l by h = tt
accepts_again p q e e' t None a l by h = tt

-- what was true of a frame
pub keeps_truth : (d s : Stream) (p q : Pair) (j : Subject) → Keeps p q → (f : Frame) (earlier : List Frame) → Truth d s p j f earlier → Truth d s q j f earlier
keeps_truth d s p q j k f earlier t = record {
  drone = λ a b. k.drone f.timestamp f.message (t.drone a b);
  shows = λ a b. shows_again p q j.jkind j.shown f.timestamp f.message k.shows (t.shows a b);
  station = λ a b. k.station _ _ _ _ f.timestamp f.message (t.station a b);
  last = λ a b. settles_again d s p q j f.timestamp earlier f.message k.again (t.by_drone a) (t.last a b);
  accepts = λ a b. accepts_again p q j.emptied j.emptied f.timestamp f.message k.again (λ z. z) (t.drone a b) (t.accepts a b);
  named = t.named;
  by_drone = λ e. let l = t.by_drone e in let n = k.drone_next in omega arith;
  by_station = λ e. let l = t.by_station e in let n = k.station_next in omega arith;
}

-- stages
pub fresh : (s : Stage) → stage_number s ≡ 1 → s ≡ Fresh
fresh Fresh e = refl
fresh In_place e = absurd (omega arith)
fresh Closed e = absurd (omega arith)

pub in_place : (s : Stage) → stage_number s ≡ 2 → s ≡ In_place
in_place Fresh e = absurd (omega arith)
in_place In_place e = refl
in_place Closed e = absurd (omega arith)
