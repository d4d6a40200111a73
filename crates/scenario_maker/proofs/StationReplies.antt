-- A station's step at a message sends at most one message, and a PING only as its upload comes to an end.
use Rattle.std.proofs.Common.{◌≡◌, ◌∙◌, ℕ, ◌+◌, ◌*◌, ◌≤◌, Bool, true, false, ◌==◌, ◌&&◌, ◌||◌, nat_lt, slice_get, List, [], ◌∷◌, ◌++◌, length, Option, Some, None, refl, ap, arith}
use Rattle.mav_names.specs.declared.names.Stream.{Stream}
use Rattle.plan_items.specs.declared.items.Item.{Item}
use Rattle.plan_items.specs.declared.messages.PlanMsg.{PlanMsg}
use Rattle.plan_items.specs.declared.messages.PlanMsg.TheVariants.{Count, Request, Item as Give, Ack, List as Listing, Clear, Ping}
use Rattle.plan_items.specs.Kinds.{limit_of}
use Rattle.plan_upload.specs.Addresses.{same_stream, same_name}
use Rattle.plan_upload.specs.Station.{StationState, StationStep, Operation, Work, Uploads, Clears, Gets, Phase, Pinging, Cancelling, Sending, Clearing, Listing_items, Getting, Told, stays, ends, outcome_at, first_phase, first_message, last_ping, is_number, synchronises, refused, item_asked, upload_acked, downloaded, counted, item_got, phase_step, operation_step, station_step, addressee}
use Rattle.fleet_invariants.proofs.Tests.{by_test}
use Rattle.scenario_maker.proofs.Weights.{cost, undecided, may_end, opens_in}

starting : (work : Work) → may_end (first_phase work) false ≡ 1
starting Uploads = refl
starting Clears = refl
starting Gets = refl

first_cost : (work : Work) (drone : Stream) (kind : ℕ) (plan : List Item) → cost (Some (first_message work drone kind plan)) ≡ 1
first_cost Uploads drone kind plan = refl
first_cost Clears drone kind plan = refl
first_cost Gets drone kind plan = refl

module _ (s : StationState) (o : Operation) (open_is : s.operation ≡ Some o) (phase : Phase) (phase_is : o.phase ≡ phase) where
  -- a step counts for one more at most
  abbrev Fits : StationStep → Type 0
  Fits r = cost r.answer + 4 * opens_in r.station.operation ≤ 4 * may_end phase o.terminating + 1

  open_now : opens_in s.operation ≡ may_end phase o.terminating
  open_now = ap opens_in open_is ∙ ap (λ f. may_end f o.terminating) phase_is

  still : may_end o.phase o.terminating ≡ may_end phase o.terminating
  still = ap (λ f. may_end f o.terminating) phase_is

  stay : Fits (stays s)
  stay = omega (arith, open_now)

  end : (told : Told) → Fits (ends s o.drone told)
  end told = omega arith

  got : (items : List Item) → Fits (downloaded s o items)
  got items = omega arith

  -- an upload that is sending
  give_up : (code : ℕ) → phase ≡ Sending → Fits (refused s o code)
  give_up code e =
      let one : may_end phase o.terminating ≡ 1 = ap (λ f. may_end f o.terminating) e in
      by_test Fits (nat_lt s.pings last_ping) _ _ (λ _. omega (arith, one)) (λ _. omega (arith, one))

  synced : (code : ℕ) → phase ≡ Cancelling → Fits (synchronises s o code)
  synced code e =
      by_test Fits o.terminating _ _ (λ _. end (outcome_at o.work o.final_sent code o.code)) (λ going.
      let first : may_end (first_phase o.work) o.terminating ≡ 1 = ap (may_end (first_phase o.work)) going ∙ starting o.work in
      let sent = first_cost o.work o.drone o.kind o.plan in
      let one : may_end phase o.terminating ≡ 1 = ap (λ f. may_end f o.terminating) e ∙ ap undecided going in
      omega (arith, first, sent, one))

  asks : (seq : ℕ) (item : Option Item) → Fits (item_asked s o seq item)
  asks seq None = stay
  asks seq (Some item) = omega (arith, still)

  acks : (code : ℕ) → phase ≡ Sending → Fits (upload_acked s o code)
  acks code e =
      by_test Fits o.asked _ _
      (λ _. by_test Fits (code == 0) _ _ (λ _. by_test Fits o.final_sent _ _ (λ _. omega arith) (λ _. stay)) (λ _. give_up code e))
      (λ _. by_test Fits ((code == 3) || ((code == 4) || ((code == 5) || (code == 14)))) _ _ (λ _. give_up code e) (λ _. stay))

  counts : (count : ℕ) → phase ≡ Listing_items → Fits (counted s o count)
  counts count e =
      let now : may_end phase o.terminating ≡ undecided o.terminating = ap (λ f. may_end f o.terminating) e in
      by_test Fits (count == 0) _ _ (λ _. got []) (λ _.
      by_test Fits (nat_lt (limit_of o.kind) count) _ _ (λ _. omega arith) (λ _. omega (arith, now)))

  items : (gathered : List Item) → Fits (item_got s o gathered)
  items gathered = by_test Fits (nat_lt (length gathered) o.total) _ _ (λ _. omega (arith, still)) (λ _. got gathered)

phases : (s : StationState) (o : Operation) (is : s.operation ≡ Some o) (phase : Phase) (e : o.phase ≡ phase) (m : PlanMsg) → Fits s o is phase e (phase_step s o phase m)
phases s o is Pinging e (Ping to usec seq) = by_test (Fits s o is Pinging e) ((usec == s.boot) && is_number o.number seq) _ _ (λ _. omega arith) (λ _. stay s o is Pinging e)
phases s o is Pinging e (Count to count kind) = stay s o is Pinging e
phases s o is Pinging e (Request to seq kind) = stay s o is Pinging e
phases s o is Pinging e (Give to seq kind item) = stay s o is Pinging e
phases s o is Pinging e (Ack to code kind) = stay s o is Pinging e
phases s o is Pinging e (Listing to kind) = stay s o is Pinging e
phases s o is Pinging e (Clear to kind) = stay s o is Pinging e
phases s o is Cancelling e (Ping to usec seq) = stay s o is Cancelling e
phases s o is Cancelling e (Count to count kind) = stay s o is Cancelling e
phases s o is Cancelling e (Request to seq kind) = stay s o is Cancelling e
phases s o is Cancelling e (Give to seq kind item) = stay s o is Cancelling e
phases s o is Cancelling e (Ack to code kind) = by_test (Fits s o is Cancelling e) ((code == 0) || ((code == 1) || (code == 15))) _ _ (λ _. synced s o is Cancelling e code refl) (λ _. stay s o is Cancelling e)
phases s o is Cancelling e (Listing to kind) = stay s o is Cancelling e
phases s o is Cancelling e (Clear to kind) = stay s o is Cancelling e
phases s o is Sending e (Ping to usec seq) = stay s o is Sending e
phases s o is Sending e (Count to count kind) = stay s o is Sending e
phases s o is Sending e (Request to seq kind) = by_test (Fits s o is Sending e) (kind == o.kind) _ _ (λ _. asks s o is Sending e seq (slice_get o.plan seq)) (λ _. stay s o is Sending e)
phases s o is Sending e (Give to seq kind item) = stay s o is Sending e
phases s o is Sending e (Ack to code kind) = acks s o is Sending e code refl
phases s o is Sending e (Listing to kind) = stay s o is Sending e
phases s o is Sending e (Clear to kind) = stay s o is Sending e
phases s o is Clearing e (Ping to usec seq) = stay s o is Clearing e
phases s o is Clearing e (Count to count kind) = stay s o is Clearing e
phases s o is Clearing e (Request to seq kind) = stay s o is Clearing e
phases s o is Clearing e (Give to seq kind item) = stay s o is Clearing e
phases s o is Clearing e (Ack to code kind) = by_test (Fits s o is Clearing e) (code == 0) _ _ (λ _. omega arith) (λ _. by_test (Fits s o is Clearing e) ((code == 3) || (code == 14)) _ _ (λ _. omega arith) (λ _. stay s o is Clearing e))
phases s o is Clearing e (Listing to kind) = stay s o is Clearing e
phases s o is Clearing e (Clear to kind) = stay s o is Clearing e
phases s o is Listing_items e (Ping to usec seq) = stay s o is Listing_items e
phases s o is Listing_items e (Count to count kind) = by_test (Fits s o is Listing_items e) (kind == o.kind) _ _ (λ _. counts s o is Listing_items e count refl) (λ _. stay s o is Listing_items e)
phases s o is Listing_items e (Request to seq kind) = stay s o is Listing_items e
phases s o is Listing_items e (Give to seq kind item) = stay s o is Listing_items e
phases s o is Listing_items e (Ack to code kind) = by_test (Fits s o is Listing_items e) ((code == 3) || (code == 14)) _ _ (λ _. omega arith) (λ _. stay s o is Listing_items e)
phases s o is Listing_items e (Listing to kind) = stay s o is Listing_items e
phases s o is Listing_items e (Clear to kind) = stay s o is Listing_items e
phases s o is Getting e (Ping to usec seq) = stay s o is Getting e
phases s o is Getting e (Count to count kind) = stay s o is Getting e
phases s o is Getting e (Request to seq kind) = stay s o is Getting e
phases s o is Getting e (Give to seq kind item) = by_test (Fits s o is Getting e) ((kind == o.kind) && (seq == length o.got)) _ _ (λ _. items s o is Getting e (o.got ++ item ∷ [])) (λ _. stay s o is Getting e)
phases s o is Getting e (Ack to code kind) = by_test (Fits s o is Getting e) (code == 0) _ _ (λ _. stay s o is Getting e) (λ _. omega arith)
phases s o is Getting e (Listing to kind) = stay s o is Getting e
phases s o is Getting e (Clear to kind) = stay s o is Getting e

-- how much is counted for a message that is for this node, or isn't
abbrev pub one_if : Bool → ℕ
one_if true = 1
one_if false = 0

both_second : (a b : Bool) → (a && b) ≡ true → b ≡ true
both_second true b e = e
both_second false b e = absurd (cc)

module _ (s : StationState) (from : Stream) (m : PlanMsg) where
  abbrev Within : StationStep → Type 0
  Within r = cost r.answer + 4 * opens_in r.station.operation ≤ 4 * opens_in s.operation + one_if (same_name (addressee m) s.me)

  by_operation : (operation : Option Operation) → s.operation ≡ operation → Within (operation_step s operation from m)
  by_operation None e = omega arith
  by_operation (Some o) e =
      by_test Within (same_stream from o.drone && same_name (addressee m) s.me) _ _
      (λ is. let h = phases s o e o.phase refl m in let one : one_if (same_name (addressee m) s.me) ≡ 1 = ap one_if (both_second (same_stream from o.drone) (same_name (addressee m) s.me) is) in let now = ap opens_in e in omega (arith, h, one, now))
      (λ _. omega arith)

  pub station_fits : Within (station_step s from m)
  station_fits = by_operation s.operation refl
