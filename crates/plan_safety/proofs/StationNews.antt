-- What a step of the station with an operation at the drone has to show.
use Rattle.std.proofs.Common.{◌≡◌, ◌≢◌, ℕ, ◌+◌, ◌<◌, ◌≤◌, ◌⊎◌, inl, inr, Bool, true, false, List, [], ◌∷◌, length, Option, Some, None, refl, sym, ap, subst, arith}
use Rattle.mav_names.specs.declared.names.Stream.{Stream}
use Rattle.plan_items.specs.declared.items.Item.{Item}
use Rattle.plan_items.specs.declared.messages.PlanMsg.{PlanMsg}
use Rattle.plan_items.specs.declared.messages.PlanMsg.TheVariants.{Count, Request, Item as Give, Ack, List as Listing, Clear, Ping}
use Rattle.plan_upload.specs.Addresses.{node_of, everyone}
use Rattle.plan_items.specs.Kinds.{limit_of}
use Rattle.plan_upload.specs.Station.{StationState, StationStep, Operation, Told, Told_installed, Told_not_installed, Told_unknown, Told_cleared, Told_got, Told_ended, is_synced}
use Rattle.plan_safety.specs.Frames.{Frame, Said}
use Rattle.plan_safety.specs.World.{frame_of}
use Rattle.plan_safety.specs.Store.{Job, A_clear, A_get, Transaction, Fresh, In_place, Closed, Acked, RefusedWith, ItemAsked, TooMany, is_emptied, staged, given_up, begun}
use Rattle.plan_safety.proofs.Keys.{flag}
use Rattle.plan_safety.proofs.Pair.{Pair, Facts, SentByStation}
use Rattle.plan_safety.proofs.Part.{Seen, Part, Moments, pair_of, subject, Named, Truths, Final, Settled, Operates, Inv, Keeps, keeps_truth, truths_keep, gathers_more, shown_of, number_in, job_number, since_of, IsGet, Answered}

-- what a step reports: an outcome, that an operation began, or that it was cancelled
pub data StationNews : Type 0 where
  Silent : StationNews
  Reports : (told : Told) → StationNews
  Begins_upload : (kind : ℕ) (plan : List Item) → StationNews
  Begins_clear : (kind : ℕ) → StationNews
  Begins_get : (kind : ℕ) → StationNews
  Cancels : StationNews

abbrev pub news_of : Option Told → StationNews
news_of None = Silent
news_of (Some told) = Reports told

-- a clear is open that has emptied its kinds; a download that was shown this plan; what ends one with a code
abbrev pub SeesCleared : Option Seen → Type 0
SeesCleared None = ⊥
SeesCleared (Some c) = (c.job ≡ A_clear) × (is_emptied c.kind c.emptied ≡ true)

abbrev pub SeesPlan : Option Seen → List Item → Type 0
SeesPlan None plan = ⊥
SeesPlan (Some c) plan = c.job ≡ A_get (Some plan)

abbrev pub SeesEnd : List Frame → Stream → Stream → Bool → Option Seen → ℕ → Type 0
SeesEnd sent d s cancelled None code = ⊥
SeesEnd sent d s cancelled (Some c) code =
    Acked sent d s c.drone_since code ⊎ (((code ≡ 15) × (cancelled ≡ true)) ⊎ ((code ≡ 4) × TooMany c.kind c.job))

-- what an outcome needs of the pair
abbrev pub Reportable : Stream → Stream → List Frame → Transaction → Option Seen → Bool → Told → Type 0
Reportable d s sent t c cancelled Told_installed = t.stage ≡ In_place
Reportable d s sent t c cancelled (Told_not_installed code) = (t.stage ≡ Fresh) × ((code ≡ 15) ⊎ RefusedWith sent d s t code)
Reportable d s sent t c cancelled Told_unknown = (t.stage ≡ Closed → ⊥) × (t.lost ≡ true) × Acked sent d s t.drone_since 1 × Final sent d s t × Said sent s t.since (Ack (node_of d) 15 t.kind) × Settled sent d s t
Reportable d s sent t c cancelled Told_cleared = SeesCleared c
Reportable d s sent t c cancelled (Told_got plan) = SeesPlan c plan
Reportable d s sent t c cancelled (Told_ended code) = SeesEnd sent d s cancelled c code

abbrev pub StationNeeds : Stream → Stream → List Frame → Transaction → Option Seen → Bool → StationNews → Type 0
StationNeeds d s sent t c cancelled Silent = Unit {0}
StationNeeds d s sent t c cancelled (Reports told) = Reportable d s sent t c cancelled told
StationNeeds d s sent t c cancelled (Begins_upload kind plan) = t.stage ≡ Fresh → ⊥
StationNeeds d s sent t c cancelled (Begins_clear kind) = c ≡ None
StationNeeds d s sent t c cancelled (Begins_get kind) = c ≡ None
StationNeeds d s sent t c cancelled Cancels = Unit {0}

-- the transaction afterwards; `now` and `later` are the next timestamps of the station and the drone
abbrev pub reported_transaction : Transaction → Told → Transaction
reported_transaction t Told_installed = t
reported_transaction t (Told_not_installed code) = staged t Closed
reported_transaction t Told_unknown = given_up t
reported_transaction t Told_cleared = t
reported_transaction t (Told_got plan) = t
reported_transaction t (Told_ended code) = t

abbrev pub station_transaction : Stream → ℕ → ℕ → Transaction → StationNews → Transaction
station_transaction d now later t Silent = t
station_transaction d now later t (Reports told) = reported_transaction t told
station_transaction d now later t (Begins_upload kind plan) = begun d kind plan now later
station_transaction d now later t (Begins_clear kind) = t
station_transaction d now later t (Begins_get kind) = t
station_transaction d now later t Cancels = t

-- what is open afterwards
abbrev pub seen : ℕ → Job → ℕ → Option Seen
seen kind job since = Some (record { kind = kind; job = job; drone_since = since; emptied = [] })

abbrev pub reported_opening : Option Seen → Told → Option Seen
reported_opening c Told_installed = c
reported_opening c (Told_not_installed code) = c
reported_opening c Told_unknown = c
reported_opening c Told_cleared = None
reported_opening c (Told_got plan) = None
reported_opening c (Told_ended code) = None

abbrev pub station_opening : ℕ → Option Seen → StationNews → Option Seen
station_opening later c Silent = c
station_opening later c (Reports told) = reported_opening c told
station_opening later c (Begins_upload kind plan) = c
station_opening later c (Begins_clear kind) = seen kind A_clear later
station_opening later c (Begins_get kind) = seen kind (A_get None) later
station_opening later c Cancels = c

abbrev pub station_cancelled : Bool → StationNews → Bool
station_cancelled b Silent = b
station_cancelled b (Reports told) = b
station_cancelled b (Begins_upload kind plan) = false
station_cancelled b (Begins_clear kind) = false
station_cancelled b (Begins_get kind) = false
station_cancelled b Cancels = true

-- the part with this station in it
abbrev pub with_station : Stream → Part → StationState → Part
with_station d p t = record p { operation = t.operation; synced = is_synced t.synced d; pings = t.pings }

abbrev pub part_sends : Stream → Part → Option PlanMsg → Part
part_sends s p None = p
part_sends s p (Some m) = record p { station_next = p.station_next + 1; sent = frame_of s p.station_next (Some m) ∷ p.sent }

-- the part with the news in it, and after what the station does
abbrev pub with_news : Stream → Part → StationNews → Part
with_news d p n = record p { transaction = station_transaction d p.station_next p.drone_next p.transaction n; opening = station_opening p.drone_next p.opening n; cancelled = station_cancelled p.cancelled n }

abbrev pub acted : Stream → Stream → Part → StationStep → StationNews → Part
acted d s p a n = part_sends s (with_news d (with_station d p a.station) n) a.answer

abbrev pub OfDrone : Stream → Option Operation → Type 0
OfDrone d None = Unit {0}
OfDrone d (Some o) = o.drone ≡ d

-- it is a PING to everyone, or for the drone
abbrev pub ForDrone : Stream → PlanMsg → Type 0
ForDrone d (Ping to usec n) = to ≡ everyone
ForDrone d (Count to n k) = to ≡ node_of d
ForDrone d (Give to i k x) = to ≡ node_of d
ForDrone d (Request to i k) = to ≡ node_of d
ForDrone d (Ack to c k) = to ≡ node_of d
ForDrone d (Clear to k) = to ≡ node_of d
ForDrone d (Listing to k) = to ≡ node_of d

abbrev pub SendsTo : Stream → Option PlanMsg → Type 0
SendsTo d None = Unit {0}
SendsTo d (Some m) = ForDrone d m

-- t is the station before
pub record Acted (d s : Stream) (t : StationState) (p : Part) (a : StationStep) (n : StationNews) : Type 0 where
  pub needs : StationNeeds d s p.sent p.transaction p.opening p.cancelled n
  pub moments : Moments
  pub inv : Inv d s (acted d s p a n) moments
  pub of_drone : OfDrone d a.station.operation
  pub sends_to : SendsTo d a.answer
  pub synced : (x : Stream) → x ≢ d → flag (is_synced a.station.synced x) ≤ flag (is_synced t.synced x)
  pub pings : t.pings ≤ a.station.pings
  pub me : a.station.me ≡ t.me

-- a step at a message or a tick
abbrev pub Heeds : Stream → Stream → StationState → Part → StationStep → Type 0
Heeds d s t p a = Acted d s t p a (news_of a.told)

-- the station says x, and is t then
abbrev pub sent_part : Stream → Stream → Part → StationState → PlanMsg → Part
sent_part d s p t x = part_sends s (with_station d p t) (Some x)

-- q is the pair after the frame, however it is spelled
pub station_said : (d s : Stream) → d ≢ s → (p : Part) (g h : Moments) (t : StationState) (x : PlanMsg) (q : Pair) → Inv d s p g → pair_of s (sent_part d s p t x) h ≡ q → Facts q → Keeps (pair_of s p g) q → (let j = subject p.transaction p.opening in SentByStation q j.jkind j.kind j.total j.plan p.station_next (Some x)) → Named d (Some x) → p.station_next < q.station_next → Operates d s (sent_part d s p t x).sent p.transaction p.opening p.cancelled t.pings t.operation → (0 < h.first_count → p.transaction.since ≤ h.first_count) → (0 < h.first_count → Said (sent_part d s p t x).sent s p.transaction.since (Count (node_of d) (length p.transaction.plan) p.transaction.kind)) → (0 < h.first_open → ItemAsked (sent_part d s p t x).sent d s p.transaction) → ((pair_of s (sent_part d s p t x) h).phase ≡ 3 → Answered d s p.transaction h.counted h.first_open p.sent) → Inv d s (sent_part d s p t x) h
station_said d s ne p g h t x q i is f k n named l o c m ask old = record {
  facts = subst Facts (sym is) f;
  truths = subst (λ y. Truths d s y (subject p.transaction p.opening) (sent_part d s p t x).sent) (sym is) (
    record { drone = λ e _. absurd (ne (sym e)); shows = λ e _. absurd (ne (sym e)); last = λ e _. absurd (ne (sym e)); accepts = λ e _. absurd (ne (sym e)); station = λ _ _. n; named = λ _ _. named; by_drone = λ e. absurd (ne (sym e)); by_station = λ _. l },
    truths_keep d s (pair_of s p g) q (subject p.transaction p.opening) (subject p.transaction p.opening) (keeps_truth d s (pair_of s p g) q (subject p.transaction p.opening) k) p.sent i.truths,
  );
  upload = gathers_more d s p.sent _ p.transaction p.drone.upload i.upload;
  operation = o;
  for_drone = i.for_drone;
  since = let z = i.since in omega arith;
  since_count = c;
  count = m;
  download = λ a b. let e = k.shows (subst (λ x. 4 < x.phase) is a) (subst (λ x. 0 < x.now_shown) is b) in let w : 0 < g.now_shown = (let z = e.1 in let y : h.now_shown ≡ q.now_shown = ap (λ x. x.now_shown) is in omega arith) in i.download e.0 w;
  asked = ask;
  answers = λ ph. (λ e _. absurd (ne (sym e)), old ph);
}

-- more sent frames show no less
pub acked_more : (sent : List Frame) (f : Frame) (d s : Stream) (since code : ℕ) → Acked sent d s since code → Acked (f ∷ sent) d s since code
acked_more sent f d s since code h = (h.0, inr h.1)

end_more : (d s : Stream) (sent : List Frame) (f : Frame) (cancelled : Bool) (c : Option Seen) (code : ℕ) → SeesEnd sent d s cancelled c code → SeesEnd (f ∷ sent) d s cancelled c code
end_more d s sent f cancelled None code h = h
end_more d s sent f cancelled (Some c) code (inl h) = inl (acked_more sent f d s c.drone_since code h)
end_more d s sent f cancelled (Some c) code (inr h) = inr h

or_refused : (sent : List Frame) (f : Frame) (d s : Stream) (t : Transaction) (code : ℕ) → (code ≡ 15) ⊎ RefusedWith sent d s t code → (code ≡ 15) ⊎ RefusedWith (f ∷ sent) d s t code
or_refused sent f d s t code (inl h) = inl h
or_refused sent f d s t code (inr h) = inr (inr h)

pub reportable_more : (d s : Stream) (sent : List Frame) (f : Frame) (t : Transaction) (c : Option Seen) (cancelled : Bool) (told : Told) → Reportable d s sent t c cancelled told → Reportable d s (f ∷ sent) t c cancelled told
reportable_more d s sent f t c cancelled Told_installed h = h
reportable_more d s sent f t c cancelled (Told_not_installed code) h = (h.0, or_refused sent f d s t code h.1)
reportable_more d s sent f t c cancelled Told_unknown h = (h.0, h.1, acked_more sent f d s t.drone_since 1 h.2, (h.3.0, h.3.1, h.3.2, h.3.3, inr h.3.4), inr h.4, (h.5.0, inr h.5.1))
reportable_more d s sent f t c cancelled Told_cleared h = h
reportable_more d s sent f t c cancelled (Told_got plan) h = h
reportable_more d s sent f t c cancelled (Told_ended code) h = end_more d s sent f cancelled c code h

-- the three causes of an end
pub end_acked : (d s : Stream) (sent : List Frame) (cancelled : Bool) (c : Option Seen) (code : ℕ) → 0 < number_in c (λ (x : Seen). job_number x.job) → Acked sent d s (since_of c) code → SeesEnd sent d s cancelled c code
end_acked d s sent cancelled None code l h = absurd (omega arith)
end_acked d s sent cancelled (Some c) code l h = inl h

pub end_cancelled : (d s : Stream) (sent : List Frame) (cancelled : Bool) (c : Option Seen) → 0 < number_in c (λ (x : Seen). job_number x.job) → cancelled ≡ true → SeesEnd sent d s cancelled c 15
end_cancelled d s sent cancelled None l h = absurd (omega arith)
end_cancelled d s sent cancelled (Some c) l h = inr (inl (refl, h))

too_many : (kind n : ℕ) (job : Job) → 0 < n → n ≡ length (shown_of (Some (record { kind = kind; job = job; drone_since = 0; emptied = [] }))) → limit_of kind < n → TooMany kind job
too_many kind n A_clear some e l = absurd (let z : n ≡ 0 = e in omega arith)
too_many kind n (A_get None) some e l = absurd (let z : n ≡ 0 = e in omega arith)
too_many kind n (A_get (Some plan)) some e l = subst (λ x. limit_of kind < x) e l

pub end_too_many : (d s : Stream) (sent : List Frame) (cancelled : Bool) (c : Option Seen) (kind n : ℕ) → IsGet kind c → 0 < n → n ≡ length (shown_of c) → limit_of kind < n → SeesEnd sent d s cancelled c 4
end_too_many d s sent cancelled None kind n g some e l = absurd g
end_too_many d s sent cancelled (Some c) kind n g some e l = inr (inr (refl, too_many c.kind n c.job some e (subst (λ x. limit_of x < n) (sym g.1) l)))
