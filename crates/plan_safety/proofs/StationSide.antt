-- What each step of the station keeps, in numbers. For a step S of the pair, under the facts before it and the step's own
-- hypotheses, there are three lemmas: S_facts, the facts hold after it; S_station and S_drone, what was true of a frame
-- of the station, or of the drone, that was sent before is true after it, one clause for each message. Each is linear
-- arithmetic over the numbers of the pair. They are written out in full, so that each can be read and changed alone.
use Rattle.std.proofs.Common.{◌≡◌, ◌≢◌, ℕ, ◌<◌, ◌≤◌, Option, Some, None, arith}
use Rattle.plan_items.specs.declared.items.Item.{Item}
use Rattle.plan_items.specs.declared.messages.PlanMsg.{PlanMsg}
use Rattle.plan_items.specs.declared.messages.PlanMsg.TheVariants.{Count, Request, Item as Give, Ack, List as Listing, Clear, Ping}
use Rattle.plan_safety.proofs.Pair.{Pair, Facts, SentByStation, SentByDrone, attempts, attempts_spent, begins_attempt, begins_clear, begins_clear_attempt, begins_count, begins_get, begins_get_attempt, cancels, counts, elsewhere, ends, gets, hears, later_station, marks_terminating, pings, sends_item, starts_clear, starts_count, starts_listing}

pub hears_facts : (p : Pair) (t : ℕ) → Facts p → p.station_last < t → t < p.drone_next → Facts (hears p t)
hears_facts p t f h0 h1 = grind arith

pub hears_station : (p : Pair) (t : ℕ) (jkind kind total : ℕ) (plan : ℕ → Option Item) (u : ℕ) (m : Option PlanMsg) → Facts p → p.station_last < t → t < p.drone_next → SentByStation p jkind kind total plan u m → SentByStation (hears p t) jkind kind total plan u m
hears_station p t jkind kind total plan u (Some (Ping to usec n)) f h0 h1 h = grind arith
hears_station p t jkind kind total plan u (Some (Count to n k)) f h0 h1 h = grind arith
hears_station p t jkind kind total plan u (Some (Give to i k x)) f h0 h1 h = grind arith
hears_station p t jkind kind total plan u (Some (Request to i k)) f h0 h1 h = grind arith
hears_station p t jkind kind total plan u (Some (Ack to c k)) f h0 h1 h = grind arith
hears_station p t jkind kind total plan u (Some (Clear to k)) f h0 h1 h = grind arith
hears_station p t jkind kind total plan u (Some (Listing to k)) f h0 h1 h = grind arith
hears_station p t jkind kind total plan u None f h0 h1 h = grind arith

pub hears_drone : (p : Pair) (t : ℕ) (u : ℕ) (m : Option PlanMsg) → Facts p → p.station_last < t → t < p.drone_next → SentByDrone p u m → SentByDrone (hears p t) u m
hears_drone p t u (Some (Ping to usec n)) f h0 h1 h = grind arith
hears_drone p t u (Some (Count to n k)) f h0 h1 h = grind arith
hears_drone p t u (Some (Give to i k x)) f h0 h1 h = grind arith
hears_drone p t u (Some (Request to i k)) f h0 h1 h = grind arith
hears_drone p t u (Some (Ack to c k)) f h0 h1 h = grind arith
hears_drone p t u (Some (Clear to k)) f h0 h1 h = grind arith
hears_drone p t u (Some (Listing to k)) f h0 h1 h = grind arith
hears_drone p t u None f h0 h1 h = grind arith

pub cancels_facts : (p : Pair) → Facts p → p.phase ≡ 1 → 0 < p.first_reply → p.first_reply ≤ p.station_last → Facts (cancels p)
cancels_facts p f h0 h1 h2 = grind arith

pub cancels_station : (p : Pair) (jkind kind total : ℕ) (plan : ℕ → Option Item) (u : ℕ) (m : Option PlanMsg) → Facts p → p.phase ≡ 1 → 0 < p.first_reply → p.first_reply ≤ p.station_last → SentByStation p jkind kind total plan u m → SentByStation (cancels p) jkind kind total plan u m
cancels_station p jkind kind total plan u (Some (Ping to usec n)) f h0 h1 h2 h = grind arith
cancels_station p jkind kind total plan u (Some (Count to n k)) f h0 h1 h2 h = grind arith
cancels_station p jkind kind total plan u (Some (Give to i k x)) f h0 h1 h2 h = grind arith
cancels_station p jkind kind total plan u (Some (Request to i k)) f h0 h1 h2 h = grind arith
cancels_station p jkind kind total plan u (Some (Ack to c k)) f h0 h1 h2 h = grind arith
cancels_station p jkind kind total plan u (Some (Clear to k)) f h0 h1 h2 h = grind arith
cancels_station p jkind kind total plan u (Some (Listing to k)) f h0 h1 h2 h = grind arith
cancels_station p jkind kind total plan u None f h0 h1 h2 h = grind arith

pub cancels_drone : (p : Pair) (u : ℕ) (m : Option PlanMsg) → Facts p → p.phase ≡ 1 → 0 < p.first_reply → p.first_reply ≤ p.station_last → SentByDrone p u m → SentByDrone (cancels p) u m
cancels_drone p u (Some (Ping to usec n)) f h0 h1 h2 h = grind arith
cancels_drone p u (Some (Count to n k)) f h0 h1 h2 h = grind arith
cancels_drone p u (Some (Give to i k x)) f h0 h1 h2 h = grind arith
cancels_drone p u (Some (Request to i k)) f h0 h1 h2 h = grind arith
cancels_drone p u (Some (Ack to c k)) f h0 h1 h2 h = grind arith
cancels_drone p u (Some (Clear to k)) f h0 h1 h2 h = grind arith
cancels_drone p u (Some (Listing to k)) f h0 h1 h2 h = grind arith
cancels_drone p u None f h0 h1 h2 h = grind arith

pub starts_count_facts : (p : Pair) → Facts p → p.phase ≡ 2 → p.terminating ≡ 0 → p.work ≡ 1 → p.last_verdict ≤ p.station_last → p.last_shown ≤ p.station_last → Facts (starts_count p)
starts_count_facts p f h0 h1 h2 h3 h4 = grind arith

pub starts_count_station : (p : Pair) (jkind kind total : ℕ) (plan : ℕ → Option Item) (u : ℕ) (m : Option PlanMsg) → Facts p → p.phase ≡ 2 → p.terminating ≡ 0 → p.work ≡ 1 → p.last_verdict ≤ p.station_last → p.last_shown ≤ p.station_last → SentByStation p jkind kind total plan u m → SentByStation (starts_count p) jkind kind total plan u m
starts_count_station p jkind kind total plan u (Some (Ping to usec n)) f h0 h1 h2 h3 h4 h = grind arith
starts_count_station p jkind kind total plan u (Some (Count to n k)) f h0 h1 h2 h3 h4 h = grind arith
starts_count_station p jkind kind total plan u (Some (Give to i k x)) f h0 h1 h2 h3 h4 h = grind arith
starts_count_station p jkind kind total plan u (Some (Request to i k)) f h0 h1 h2 h3 h4 h = grind arith
starts_count_station p jkind kind total plan u (Some (Ack to c k)) f h0 h1 h2 h3 h4 h = grind arith
starts_count_station p jkind kind total plan u (Some (Clear to k)) f h0 h1 h2 h3 h4 h = grind arith
starts_count_station p jkind kind total plan u (Some (Listing to k)) f h0 h1 h2 h3 h4 h = grind arith
starts_count_station p jkind kind total plan u None f h0 h1 h2 h3 h4 h = grind arith

pub starts_count_drone : (p : Pair) (u : ℕ) (m : Option PlanMsg) → Facts p → p.phase ≡ 2 → p.terminating ≡ 0 → p.work ≡ 1 → p.last_verdict ≤ p.station_last → p.last_shown ≤ p.station_last → SentByDrone p u m → SentByDrone (starts_count p) u m
starts_count_drone p u (Some (Ping to usec n)) f h0 h1 h2 h3 h4 h = grind arith
starts_count_drone p u (Some (Count to n k)) f h0 h1 h2 h3 h4 h = grind arith
starts_count_drone p u (Some (Give to i k x)) f h0 h1 h2 h3 h4 h = grind arith
starts_count_drone p u (Some (Request to i k)) f h0 h1 h2 h3 h4 h = grind arith
starts_count_drone p u (Some (Ack to c k)) f h0 h1 h2 h3 h4 h = grind arith
starts_count_drone p u (Some (Clear to k)) f h0 h1 h2 h3 h4 h = grind arith
starts_count_drone p u (Some (Listing to k)) f h0 h1 h2 h3 h4 h = grind arith
starts_count_drone p u None f h0 h1 h2 h3 h4 h = grind arith

pub starts_clear_facts : (p : Pair) (e : ℕ) → Facts p → p.phase ≡ 2 → p.terminating ≡ 0 → p.work ≡ 2 → p.last_verdict ≤ p.station_last → p.last_shown ≤ p.station_last → (p.drone_last < p.last_cancel → p.result < 2) → 0 < e → e ≤ p.station_next → (0 < p.first_job → e ≡ p.first_job) → (p.first_job ≡ 0 → e ≡ p.station_next) → Facts (starts_clear p e)
starts_clear_facts p e f h0 h1 h2 h3 h4 h5 h6 h7 h8 h9 = grind arith

pub starts_clear_station : (p : Pair) (e : ℕ) (jkind kind total : ℕ) (plan : ℕ → Option Item) (u : ℕ) (m : Option PlanMsg) → Facts p → p.phase ≡ 2 → p.terminating ≡ 0 → p.work ≡ 2 → p.last_verdict ≤ p.station_last → p.last_shown ≤ p.station_last → (p.drone_last < p.last_cancel → p.result < 2) → 0 < e → e ≤ p.station_next → (0 < p.first_job → e ≡ p.first_job) → (p.first_job ≡ 0 → e ≡ p.station_next) → SentByStation p jkind kind total plan u m → SentByStation (starts_clear p e) jkind kind total plan u m
starts_clear_station p e jkind kind total plan u (Some (Ping to usec n)) f h0 h1 h2 h3 h4 h5 h6 h7 h8 h9 h = grind arith
starts_clear_station p e jkind kind total plan u (Some (Count to n k)) f h0 h1 h2 h3 h4 h5 h6 h7 h8 h9 h = grind arith
starts_clear_station p e jkind kind total plan u (Some (Give to i k x)) f h0 h1 h2 h3 h4 h5 h6 h7 h8 h9 h = grind arith
starts_clear_station p e jkind kind total plan u (Some (Request to i k)) f h0 h1 h2 h3 h4 h5 h6 h7 h8 h9 h = grind arith
starts_clear_station p e jkind kind total plan u (Some (Ack to c k)) f h0 h1 h2 h3 h4 h5 h6 h7 h8 h9 h = grind arith
starts_clear_station p e jkind kind total plan u (Some (Clear to k)) f h0 h1 h2 h3 h4 h5 h6 h7 h8 h9 h = grind arith
starts_clear_station p e jkind kind total plan u (Some (Listing to k)) f h0 h1 h2 h3 h4 h5 h6 h7 h8 h9 h = grind arith
starts_clear_station p e jkind kind total plan u None f h0 h1 h2 h3 h4 h5 h6 h7 h8 h9 h = grind arith

pub starts_clear_drone : (p : Pair) (e : ℕ) (u : ℕ) (m : Option PlanMsg) → Facts p → p.phase ≡ 2 → p.terminating ≡ 0 → p.work ≡ 2 → p.last_verdict ≤ p.station_last → p.last_shown ≤ p.station_last → (p.drone_last < p.last_cancel → p.result < 2) → 0 < e → e ≤ p.station_next → (0 < p.first_job → e ≡ p.first_job) → (p.first_job ≡ 0 → e ≡ p.station_next) → SentByDrone p u m → SentByDrone (starts_clear p e) u m
starts_clear_drone p e u (Some (Ping to usec n)) f h0 h1 h2 h3 h4 h5 h6 h7 h8 h9 h = grind arith
starts_clear_drone p e u (Some (Count to n k)) f h0 h1 h2 h3 h4 h5 h6 h7 h8 h9 h = grind arith
starts_clear_drone p e u (Some (Give to i k x)) f h0 h1 h2 h3 h4 h5 h6 h7 h8 h9 h = grind arith
starts_clear_drone p e u (Some (Request to i k)) f h0 h1 h2 h3 h4 h5 h6 h7 h8 h9 h = grind arith
starts_clear_drone p e u (Some (Ack to c k)) f h0 h1 h2 h3 h4 h5 h6 h7 h8 h9 h = grind arith
starts_clear_drone p e u (Some (Clear to k)) f h0 h1 h2 h3 h4 h5 h6 h7 h8 h9 h = grind arith
starts_clear_drone p e u (Some (Listing to k)) f h0 h1 h2 h3 h4 h5 h6 h7 h8 h9 h = grind arith
starts_clear_drone p e u None f h0 h1 h2 h3 h4 h5 h6 h7 h8 h9 h = grind arith

pub starts_listing_facts : (p : Pair) (e : ℕ) → Facts p → p.phase ≡ 2 → p.terminating ≡ 0 → p.work ≡ 3 → p.last_verdict ≤ p.station_last → p.last_shown ≤ p.station_last → (p.drone_last < p.last_cancel → p.result < 2) → 0 < e → e ≤ p.station_next → (0 < p.first_job → e ≡ p.first_job) → (p.first_job ≡ 0 → e ≡ p.station_next) → Facts (starts_listing p e)
starts_listing_facts p e f h0 h1 h2 h3 h4 h5 h6 h7 h8 h9 = grind arith

pub starts_listing_station : (p : Pair) (e : ℕ) (jkind kind total : ℕ) (plan : ℕ → Option Item) (u : ℕ) (m : Option PlanMsg) → Facts p → p.phase ≡ 2 → p.terminating ≡ 0 → p.work ≡ 3 → p.last_verdict ≤ p.station_last → p.last_shown ≤ p.station_last → (p.drone_last < p.last_cancel → p.result < 2) → 0 < e → e ≤ p.station_next → (0 < p.first_job → e ≡ p.first_job) → (p.first_job ≡ 0 → e ≡ p.station_next) → SentByStation p jkind kind total plan u m → SentByStation (starts_listing p e) jkind kind total plan u m
starts_listing_station p e jkind kind total plan u (Some (Ping to usec n)) f h0 h1 h2 h3 h4 h5 h6 h7 h8 h9 h = grind arith
starts_listing_station p e jkind kind total plan u (Some (Count to n k)) f h0 h1 h2 h3 h4 h5 h6 h7 h8 h9 h = grind arith
starts_listing_station p e jkind kind total plan u (Some (Give to i k x)) f h0 h1 h2 h3 h4 h5 h6 h7 h8 h9 h = grind arith
starts_listing_station p e jkind kind total plan u (Some (Request to i k)) f h0 h1 h2 h3 h4 h5 h6 h7 h8 h9 h = grind arith
starts_listing_station p e jkind kind total plan u (Some (Ack to c k)) f h0 h1 h2 h3 h4 h5 h6 h7 h8 h9 h = grind arith
starts_listing_station p e jkind kind total plan u (Some (Clear to k)) f h0 h1 h2 h3 h4 h5 h6 h7 h8 h9 h = grind arith
starts_listing_station p e jkind kind total plan u (Some (Listing to k)) f h0 h1 h2 h3 h4 h5 h6 h7 h8 h9 h = grind arith
starts_listing_station p e jkind kind total plan u None f h0 h1 h2 h3 h4 h5 h6 h7 h8 h9 h = grind arith

pub starts_listing_drone : (p : Pair) (e : ℕ) (u : ℕ) (m : Option PlanMsg) → Facts p → p.phase ≡ 2 → p.terminating ≡ 0 → p.work ≡ 3 → p.last_verdict ≤ p.station_last → p.last_shown ≤ p.station_last → (p.drone_last < p.last_cancel → p.result < 2) → 0 < e → e ≤ p.station_next → (0 < p.first_job → e ≡ p.first_job) → (p.first_job ≡ 0 → e ≡ p.station_next) → SentByDrone p u m → SentByDrone (starts_listing p e) u m
starts_listing_drone p e u (Some (Ping to usec n)) f h0 h1 h2 h3 h4 h5 h6 h7 h8 h9 h = grind arith
starts_listing_drone p e u (Some (Count to n k)) f h0 h1 h2 h3 h4 h5 h6 h7 h8 h9 h = grind arith
starts_listing_drone p e u (Some (Give to i k x)) f h0 h1 h2 h3 h4 h5 h6 h7 h8 h9 h = grind arith
starts_listing_drone p e u (Some (Request to i k)) f h0 h1 h2 h3 h4 h5 h6 h7 h8 h9 h = grind arith
starts_listing_drone p e u (Some (Ack to c k)) f h0 h1 h2 h3 h4 h5 h6 h7 h8 h9 h = grind arith
starts_listing_drone p e u (Some (Clear to k)) f h0 h1 h2 h3 h4 h5 h6 h7 h8 h9 h = grind arith
starts_listing_drone p e u (Some (Listing to k)) f h0 h1 h2 h3 h4 h5 h6 h7 h8 h9 h = grind arith
starts_listing_drone p e u None f h0 h1 h2 h3 h4 h5 h6 h7 h8 h9 h = grind arith

pub ends_facts : (p : Pair) (stage job : ℕ) → Facts p → 0 < p.work → p.has_open ≡ 0 → p.last_count ≤ p.drone_last → p.last_job ≤ p.drone_last → p.last_request ≤ p.station_last → p.last_verdict ≤ p.station_last → p.last_shown ≤ p.station_last → stage ≢ 1 → stage ≤ 2 → job ≡ 0 → (p.drone_last < p.last_cancel → p.result < 2) → Facts (ends p stage job)
ends_facts p stage job f h0 h1 h2 h3 h4 h5 h6 h7 h8 h9 h10 = grind arith

pub ends_station : (p : Pair) (stage job : ℕ) (jkind kind total : ℕ) (plan : ℕ → Option Item) (u : ℕ) (m : Option PlanMsg) → Facts p → 0 < p.work → p.has_open ≡ 0 → p.last_count ≤ p.drone_last → p.last_job ≤ p.drone_last → p.last_request ≤ p.station_last → p.last_verdict ≤ p.station_last → p.last_shown ≤ p.station_last → stage ≢ 1 → stage ≤ 2 → job ≡ 0 → (p.drone_last < p.last_cancel → p.result < 2) → SentByStation p jkind kind total plan u m → SentByStation (ends p stage job) jkind kind total plan u m
ends_station p stage job jkind kind total plan u (Some (Ping to usec n)) f h0 h1 h2 h3 h4 h5 h6 h7 h8 h9 h10 h = grind arith
ends_station p stage job jkind kind total plan u (Some (Count to n k)) f h0 h1 h2 h3 h4 h5 h6 h7 h8 h9 h10 h = grind arith
ends_station p stage job jkind kind total plan u (Some (Give to i k x)) f h0 h1 h2 h3 h4 h5 h6 h7 h8 h9 h10 h = grind arith
ends_station p stage job jkind kind total plan u (Some (Request to i k)) f h0 h1 h2 h3 h4 h5 h6 h7 h8 h9 h10 h = grind arith
ends_station p stage job jkind kind total plan u (Some (Ack to c k)) f h0 h1 h2 h3 h4 h5 h6 h7 h8 h9 h10 h = grind arith
ends_station p stage job jkind kind total plan u (Some (Clear to k)) f h0 h1 h2 h3 h4 h5 h6 h7 h8 h9 h10 h = grind arith
ends_station p stage job jkind kind total plan u (Some (Listing to k)) f h0 h1 h2 h3 h4 h5 h6 h7 h8 h9 h10 h = grind arith
ends_station p stage job jkind kind total plan u None f h0 h1 h2 h3 h4 h5 h6 h7 h8 h9 h10 h = grind arith

pub ends_drone : (p : Pair) (stage job : ℕ) (u : ℕ) (m : Option PlanMsg) → Facts p → 0 < p.work → p.has_open ≡ 0 → p.last_count ≤ p.drone_last → p.last_job ≤ p.drone_last → p.last_request ≤ p.station_last → p.last_verdict ≤ p.station_last → p.last_shown ≤ p.station_last → stage ≢ 1 → stage ≤ 2 → job ≡ 0 → (p.drone_last < p.last_cancel → p.result < 2) → SentByDrone p u m → SentByDrone (ends p stage job) u m
ends_drone p stage job u (Some (Ping to usec n)) f h0 h1 h2 h3 h4 h5 h6 h7 h8 h9 h10 h = grind arith
ends_drone p stage job u (Some (Count to n k)) f h0 h1 h2 h3 h4 h5 h6 h7 h8 h9 h10 h = grind arith
ends_drone p stage job u (Some (Give to i k x)) f h0 h1 h2 h3 h4 h5 h6 h7 h8 h9 h10 h = grind arith
ends_drone p stage job u (Some (Request to i k)) f h0 h1 h2 h3 h4 h5 h6 h7 h8 h9 h10 h = grind arith
ends_drone p stage job u (Some (Ack to c k)) f h0 h1 h2 h3 h4 h5 h6 h7 h8 h9 h10 h = grind arith
ends_drone p stage job u (Some (Clear to k)) f h0 h1 h2 h3 h4 h5 h6 h7 h8 h9 h10 h = grind arith
ends_drone p stage job u (Some (Listing to k)) f h0 h1 h2 h3 h4 h5 h6 h7 h8 h9 h10 h = grind arith
ends_drone p stage job u None f h0 h1 h2 h3 h4 h5 h6 h7 h8 h9 h10 h = grind arith

pub sends_item_facts : (p : Pair) (last : ℕ) → Facts p → p.phase ≡ 3 → 0 < p.first_open → p.first_open ≤ p.station_last → p.final_sent ≤ last → last ≤ 1 → Facts (sends_item p last)
sends_item_facts p last f h0 h1 h2 h3 h4 = grind arith

pub sends_item_station : (p : Pair) (last : ℕ) (jkind kind total : ℕ) (plan : ℕ → Option Item) (u : ℕ) (m : Option PlanMsg) → Facts p → p.phase ≡ 3 → 0 < p.first_open → p.first_open ≤ p.station_last → p.final_sent ≤ last → last ≤ 1 → SentByStation p jkind kind total plan u m → SentByStation (sends_item p last) jkind kind total plan u m
sends_item_station p last jkind kind total plan u (Some (Ping to usec n)) f h0 h1 h2 h3 h4 h = grind arith
sends_item_station p last jkind kind total plan u (Some (Count to n k)) f h0 h1 h2 h3 h4 h = grind arith
sends_item_station p last jkind kind total plan u (Some (Give to i k x)) f h0 h1 h2 h3 h4 h = grind arith
sends_item_station p last jkind kind total plan u (Some (Request to i k)) f h0 h1 h2 h3 h4 h = grind arith
sends_item_station p last jkind kind total plan u (Some (Ack to c k)) f h0 h1 h2 h3 h4 h = grind arith
sends_item_station p last jkind kind total plan u (Some (Clear to k)) f h0 h1 h2 h3 h4 h = grind arith
sends_item_station p last jkind kind total plan u (Some (Listing to k)) f h0 h1 h2 h3 h4 h = grind arith
sends_item_station p last jkind kind total plan u None f h0 h1 h2 h3 h4 h = grind arith

pub sends_item_drone : (p : Pair) (last : ℕ) (u : ℕ) (m : Option PlanMsg) → Facts p → p.phase ≡ 3 → 0 < p.first_open → p.first_open ≤ p.station_last → p.final_sent ≤ last → last ≤ 1 → SentByDrone p u m → SentByDrone (sends_item p last) u m
sends_item_drone p last u (Some (Ping to usec n)) f h0 h1 h2 h3 h4 h = grind arith
sends_item_drone p last u (Some (Count to n k)) f h0 h1 h2 h3 h4 h = grind arith
sends_item_drone p last u (Some (Give to i k x)) f h0 h1 h2 h3 h4 h = grind arith
sends_item_drone p last u (Some (Request to i k)) f h0 h1 h2 h3 h4 h = grind arith
sends_item_drone p last u (Some (Ack to c k)) f h0 h1 h2 h3 h4 h = grind arith
sends_item_drone p last u (Some (Clear to k)) f h0 h1 h2 h3 h4 h = grind arith
sends_item_drone p last u (Some (Listing to k)) f h0 h1 h2 h3 h4 h = grind arith
sends_item_drone p last u None f h0 h1 h2 h3 h4 h = grind arith

pub attempts_facts : (p : Pair) (terminating : ℕ) → Facts p → 0 < p.phase → (0 < p.first_count → 0 < terminating) → Facts (attempts p terminating)
attempts_facts p terminating f h0 h1 = grind arith

pub attempts_station : (p : Pair) (terminating : ℕ) (jkind kind total : ℕ) (plan : ℕ → Option Item) (u : ℕ) (m : Option PlanMsg) → Facts p → 0 < p.phase → (0 < p.first_count → 0 < terminating) → SentByStation p jkind kind total plan u m → SentByStation (attempts p terminating) jkind kind total plan u m
attempts_station p terminating jkind kind total plan u (Some (Ping to usec n)) f h0 h1 h = grind arith
attempts_station p terminating jkind kind total plan u (Some (Count to n k)) f h0 h1 h = grind arith
attempts_station p terminating jkind kind total plan u (Some (Give to i k x)) f h0 h1 h = grind arith
attempts_station p terminating jkind kind total plan u (Some (Request to i k)) f h0 h1 h = grind arith
attempts_station p terminating jkind kind total plan u (Some (Ack to c k)) f h0 h1 h = grind arith
attempts_station p terminating jkind kind total plan u (Some (Clear to k)) f h0 h1 h = grind arith
attempts_station p terminating jkind kind total plan u (Some (Listing to k)) f h0 h1 h = grind arith
attempts_station p terminating jkind kind total plan u None f h0 h1 h = grind arith

pub attempts_drone : (p : Pair) (terminating : ℕ) (u : ℕ) (m : Option PlanMsg) → Facts p → 0 < p.phase → (0 < p.first_count → 0 < terminating) → SentByDrone p u m → SentByDrone (attempts p terminating) u m
attempts_drone p terminating u (Some (Ping to usec n)) f h0 h1 h = grind arith
attempts_drone p terminating u (Some (Count to n k)) f h0 h1 h = grind arith
attempts_drone p terminating u (Some (Give to i k x)) f h0 h1 h = grind arith
attempts_drone p terminating u (Some (Request to i k)) f h0 h1 h = grind arith
attempts_drone p terminating u (Some (Ack to c k)) f h0 h1 h = grind arith
attempts_drone p terminating u (Some (Clear to k)) f h0 h1 h = grind arith
attempts_drone p terminating u (Some (Listing to k)) f h0 h1 h = grind arith
attempts_drone p terminating u None f h0 h1 h = grind arith

pub attempts_spent_facts : (p : Pair) (terminating : ℕ) → Facts p → 0 < p.phase → (0 < p.first_count → 0 < terminating) → Facts (attempts_spent p terminating)
attempts_spent_facts p terminating f h0 h1 = grind arith

pub attempts_spent_station : (p : Pair) (terminating : ℕ) (jkind kind total : ℕ) (plan : ℕ → Option Item) (u : ℕ) (m : Option PlanMsg) → Facts p → 0 < p.phase → (0 < p.first_count → 0 < terminating) → SentByStation p jkind kind total plan u m → SentByStation (attempts_spent p terminating) jkind kind total plan u m
attempts_spent_station p terminating jkind kind total plan u (Some (Ping to usec n)) f h0 h1 h = grind arith
attempts_spent_station p terminating jkind kind total plan u (Some (Count to n k)) f h0 h1 h = grind arith
attempts_spent_station p terminating jkind kind total plan u (Some (Give to i k x)) f h0 h1 h = grind arith
attempts_spent_station p terminating jkind kind total plan u (Some (Request to i k)) f h0 h1 h = grind arith
attempts_spent_station p terminating jkind kind total plan u (Some (Ack to c k)) f h0 h1 h = grind arith
attempts_spent_station p terminating jkind kind total plan u (Some (Clear to k)) f h0 h1 h = grind arith
attempts_spent_station p terminating jkind kind total plan u (Some (Listing to k)) f h0 h1 h = grind arith
attempts_spent_station p terminating jkind kind total plan u None f h0 h1 h = grind arith

pub attempts_spent_drone : (p : Pair) (terminating : ℕ) (u : ℕ) (m : Option PlanMsg) → Facts p → 0 < p.phase → (0 < p.first_count → 0 < terminating) → SentByDrone p u m → SentByDrone (attempts_spent p terminating) u m
attempts_spent_drone p terminating u (Some (Ping to usec n)) f h0 h1 h = grind arith
attempts_spent_drone p terminating u (Some (Count to n k)) f h0 h1 h = grind arith
attempts_spent_drone p terminating u (Some (Give to i k x)) f h0 h1 h = grind arith
attempts_spent_drone p terminating u (Some (Request to i k)) f h0 h1 h = grind arith
attempts_spent_drone p terminating u (Some (Ack to c k)) f h0 h1 h = grind arith
attempts_spent_drone p terminating u (Some (Clear to k)) f h0 h1 h = grind arith
attempts_spent_drone p terminating u (Some (Listing to k)) f h0 h1 h = grind arith
attempts_spent_drone p terminating u None f h0 h1 h = grind arith

pub begins_attempt_facts : (p : Pair) (began : ℕ) → Facts p → p.work ≡ 0 → began ≡ p.drone_next → Facts (begins_attempt p began)
begins_attempt_facts p began f h0 h1 = grind arith

pub begins_attempt_station : (p : Pair) (began : ℕ) (jkind kind total : ℕ) (plan : ℕ → Option Item) (jkind' kind' total' : ℕ) (plan' : ℕ → Option Item) (u : ℕ) (m : Option PlanMsg) → Facts p → p.work ≡ 0 → began ≡ p.drone_next → SentByStation p jkind kind total plan u m → SentByStation (begins_attempt p began) jkind' kind' total' plan' u m
begins_attempt_station p began jkind kind total plan jkind' kind' total' plan' u (Some (Ping to usec n)) f h0 h1 h = grind arith
begins_attempt_station p began jkind kind total plan jkind' kind' total' plan' u (Some (Count to n k)) f h0 h1 h = grind arith
begins_attempt_station p began jkind kind total plan jkind' kind' total' plan' u (Some (Give to i k x)) f h0 h1 h = grind arith
begins_attempt_station p began jkind kind total plan jkind' kind' total' plan' u (Some (Request to i k)) f h0 h1 h = grind arith
begins_attempt_station p began jkind kind total plan jkind' kind' total' plan' u (Some (Ack to c k)) f h0 h1 h = grind arith
begins_attempt_station p began jkind kind total plan jkind' kind' total' plan' u (Some (Clear to k)) f h0 h1 h = grind arith
begins_attempt_station p began jkind kind total plan jkind' kind' total' plan' u (Some (Listing to k)) f h0 h1 h = grind arith
begins_attempt_station p began jkind kind total plan jkind' kind' total' plan' u None f h0 h1 h = grind arith

pub begins_attempt_drone : (p : Pair) (began : ℕ) (u : ℕ) (m : Option PlanMsg) → Facts p → p.work ≡ 0 → began ≡ p.drone_next → SentByDrone p u m → SentByDrone (begins_attempt p began) u m
begins_attempt_drone p began u (Some (Ping to usec n)) f h0 h1 h = grind arith
begins_attempt_drone p began u (Some (Count to n k)) f h0 h1 h = grind arith
begins_attempt_drone p began u (Some (Give to i k x)) f h0 h1 h = grind arith
begins_attempt_drone p began u (Some (Request to i k)) f h0 h1 h = grind arith
begins_attempt_drone p began u (Some (Ack to c k)) f h0 h1 h = grind arith
begins_attempt_drone p began u (Some (Clear to k)) f h0 h1 h = grind arith
begins_attempt_drone p began u (Some (Listing to k)) f h0 h1 h = grind arith
begins_attempt_drone p began u None f h0 h1 h = grind arith

pub begins_count_facts : (p : Pair) (began : ℕ) → Facts p → p.work ≡ 0 → p.synced ≡ 1 → began ≡ p.drone_next → Facts (begins_count p began)
begins_count_facts p began f h0 h1 h2 = grind arith

pub begins_count_station : (p : Pair) (began : ℕ) (jkind kind total : ℕ) (plan : ℕ → Option Item) (jkind' kind' total' : ℕ) (plan' : ℕ → Option Item) (u : ℕ) (m : Option PlanMsg) → Facts p → p.work ≡ 0 → p.synced ≡ 1 → began ≡ p.drone_next → SentByStation p jkind kind total plan u m → SentByStation (begins_count p began) jkind' kind' total' plan' u m
begins_count_station p began jkind kind total plan jkind' kind' total' plan' u (Some (Ping to usec n)) f h0 h1 h2 h = grind arith
begins_count_station p began jkind kind total plan jkind' kind' total' plan' u (Some (Count to n k)) f h0 h1 h2 h = grind arith
begins_count_station p began jkind kind total plan jkind' kind' total' plan' u (Some (Give to i k x)) f h0 h1 h2 h = grind arith
begins_count_station p began jkind kind total plan jkind' kind' total' plan' u (Some (Request to i k)) f h0 h1 h2 h = grind arith
begins_count_station p began jkind kind total plan jkind' kind' total' plan' u (Some (Ack to c k)) f h0 h1 h2 h = grind arith
begins_count_station p began jkind kind total plan jkind' kind' total' plan' u (Some (Clear to k)) f h0 h1 h2 h = grind arith
begins_count_station p began jkind kind total plan jkind' kind' total' plan' u (Some (Listing to k)) f h0 h1 h2 h = grind arith
begins_count_station p began jkind kind total plan jkind' kind' total' plan' u None f h0 h1 h2 h = grind arith

pub begins_count_drone : (p : Pair) (began : ℕ) (u : ℕ) (m : Option PlanMsg) → Facts p → p.work ≡ 0 → p.synced ≡ 1 → began ≡ p.drone_next → SentByDrone p u m → SentByDrone (begins_count p began) u m
begins_count_drone p began u (Some (Ping to usec n)) f h0 h1 h2 h = grind arith
begins_count_drone p began u (Some (Count to n k)) f h0 h1 h2 h = grind arith
begins_count_drone p began u (Some (Give to i k x)) f h0 h1 h2 h = grind arith
begins_count_drone p began u (Some (Request to i k)) f h0 h1 h2 h = grind arith
begins_count_drone p began u (Some (Ack to c k)) f h0 h1 h2 h = grind arith
begins_count_drone p began u (Some (Clear to k)) f h0 h1 h2 h = grind arith
begins_count_drone p began u (Some (Listing to k)) f h0 h1 h2 h = grind arith
begins_count_drone p began u None f h0 h1 h2 h = grind arith

pub begins_clear_attempt_facts : (p : Pair) (began : ℕ) → Facts p → p.work ≡ 0 → began ≡ p.drone_next → Facts (begins_clear_attempt p began)
begins_clear_attempt_facts p began f h0 h1 = grind arith

pub begins_clear_attempt_station : (p : Pair) (began : ℕ) (jkind kind total : ℕ) (plan : ℕ → Option Item) (jkind' kind' total' : ℕ) (plan' : ℕ → Option Item) (u : ℕ) (m : Option PlanMsg) → Facts p → p.work ≡ 0 → began ≡ p.drone_next → SentByStation p jkind kind total plan u m → SentByStation (begins_clear_attempt p began) jkind' kind' total' plan' u m
begins_clear_attempt_station p began jkind kind total plan jkind' kind' total' plan' u (Some (Ping to usec n)) f h0 h1 h = grind arith
begins_clear_attempt_station p began jkind kind total plan jkind' kind' total' plan' u (Some (Count to n k)) f h0 h1 h = grind arith
begins_clear_attempt_station p began jkind kind total plan jkind' kind' total' plan' u (Some (Give to i k x)) f h0 h1 h = grind arith
begins_clear_attempt_station p began jkind kind total plan jkind' kind' total' plan' u (Some (Request to i k)) f h0 h1 h = grind arith
begins_clear_attempt_station p began jkind kind total plan jkind' kind' total' plan' u (Some (Ack to c k)) f h0 h1 h = grind arith
begins_clear_attempt_station p began jkind kind total plan jkind' kind' total' plan' u (Some (Clear to k)) f h0 h1 h = grind arith
begins_clear_attempt_station p began jkind kind total plan jkind' kind' total' plan' u (Some (Listing to k)) f h0 h1 h = grind arith
begins_clear_attempt_station p began jkind kind total plan jkind' kind' total' plan' u None f h0 h1 h = grind arith

pub begins_clear_attempt_drone : (p : Pair) (began : ℕ) (u : ℕ) (m : Option PlanMsg) → Facts p → p.work ≡ 0 → began ≡ p.drone_next → SentByDrone p u m → SentByDrone (begins_clear_attempt p began) u m
begins_clear_attempt_drone p began u (Some (Ping to usec n)) f h0 h1 h = grind arith
begins_clear_attempt_drone p began u (Some (Count to n k)) f h0 h1 h = grind arith
begins_clear_attempt_drone p began u (Some (Give to i k x)) f h0 h1 h = grind arith
begins_clear_attempt_drone p began u (Some (Request to i k)) f h0 h1 h = grind arith
begins_clear_attempt_drone p began u (Some (Ack to c k)) f h0 h1 h = grind arith
begins_clear_attempt_drone p began u (Some (Clear to k)) f h0 h1 h = grind arith
begins_clear_attempt_drone p began u (Some (Listing to k)) f h0 h1 h = grind arith
begins_clear_attempt_drone p began u None f h0 h1 h = grind arith

pub begins_clear_facts : (p : Pair) (began : ℕ) → Facts p → p.work ≡ 0 → p.synced ≡ 1 → began ≡ p.drone_next → Facts (begins_clear p began)
begins_clear_facts p began f h0 h1 h2 = grind arith

pub begins_clear_station : (p : Pair) (began : ℕ) (jkind kind total : ℕ) (plan : ℕ → Option Item) (jkind' kind' total' : ℕ) (plan' : ℕ → Option Item) (u : ℕ) (m : Option PlanMsg) → Facts p → p.work ≡ 0 → p.synced ≡ 1 → began ≡ p.drone_next → SentByStation p jkind kind total plan u m → SentByStation (begins_clear p began) jkind' kind' total' plan' u m
begins_clear_station p began jkind kind total plan jkind' kind' total' plan' u (Some (Ping to usec n)) f h0 h1 h2 h = grind arith
begins_clear_station p began jkind kind total plan jkind' kind' total' plan' u (Some (Count to n k)) f h0 h1 h2 h = grind arith
begins_clear_station p began jkind kind total plan jkind' kind' total' plan' u (Some (Give to i k x)) f h0 h1 h2 h = grind arith
begins_clear_station p began jkind kind total plan jkind' kind' total' plan' u (Some (Request to i k)) f h0 h1 h2 h = grind arith
begins_clear_station p began jkind kind total plan jkind' kind' total' plan' u (Some (Ack to c k)) f h0 h1 h2 h = grind arith
begins_clear_station p began jkind kind total plan jkind' kind' total' plan' u (Some (Clear to k)) f h0 h1 h2 h = grind arith
begins_clear_station p began jkind kind total plan jkind' kind' total' plan' u (Some (Listing to k)) f h0 h1 h2 h = grind arith
begins_clear_station p began jkind kind total plan jkind' kind' total' plan' u None f h0 h1 h2 h = grind arith

pub begins_clear_drone : (p : Pair) (began : ℕ) (u : ℕ) (m : Option PlanMsg) → Facts p → p.work ≡ 0 → p.synced ≡ 1 → began ≡ p.drone_next → SentByDrone p u m → SentByDrone (begins_clear p began) u m
begins_clear_drone p began u (Some (Ping to usec n)) f h0 h1 h2 h = grind arith
begins_clear_drone p began u (Some (Count to n k)) f h0 h1 h2 h = grind arith
begins_clear_drone p began u (Some (Give to i k x)) f h0 h1 h2 h = grind arith
begins_clear_drone p began u (Some (Request to i k)) f h0 h1 h2 h = grind arith
begins_clear_drone p began u (Some (Ack to c k)) f h0 h1 h2 h = grind arith
begins_clear_drone p began u (Some (Clear to k)) f h0 h1 h2 h = grind arith
begins_clear_drone p began u (Some (Listing to k)) f h0 h1 h2 h = grind arith
begins_clear_drone p began u None f h0 h1 h2 h = grind arith

pub begins_get_attempt_facts : (p : Pair) (began : ℕ) → Facts p → p.work ≡ 0 → began ≡ p.drone_next → Facts (begins_get_attempt p began)
begins_get_attempt_facts p began f h0 h1 = grind arith

pub begins_get_attempt_station : (p : Pair) (began : ℕ) (jkind kind total : ℕ) (plan : ℕ → Option Item) (jkind' kind' total' : ℕ) (plan' : ℕ → Option Item) (u : ℕ) (m : Option PlanMsg) → Facts p → p.work ≡ 0 → began ≡ p.drone_next → SentByStation p jkind kind total plan u m → SentByStation (begins_get_attempt p began) jkind' kind' total' plan' u m
begins_get_attempt_station p began jkind kind total plan jkind' kind' total' plan' u (Some (Ping to usec n)) f h0 h1 h = grind arith
begins_get_attempt_station p began jkind kind total plan jkind' kind' total' plan' u (Some (Count to n k)) f h0 h1 h = grind arith
begins_get_attempt_station p began jkind kind total plan jkind' kind' total' plan' u (Some (Give to i k x)) f h0 h1 h = grind arith
begins_get_attempt_station p began jkind kind total plan jkind' kind' total' plan' u (Some (Request to i k)) f h0 h1 h = grind arith
begins_get_attempt_station p began jkind kind total plan jkind' kind' total' plan' u (Some (Ack to c k)) f h0 h1 h = grind arith
begins_get_attempt_station p began jkind kind total plan jkind' kind' total' plan' u (Some (Clear to k)) f h0 h1 h = grind arith
begins_get_attempt_station p began jkind kind total plan jkind' kind' total' plan' u (Some (Listing to k)) f h0 h1 h = grind arith
begins_get_attempt_station p began jkind kind total plan jkind' kind' total' plan' u None f h0 h1 h = grind arith

pub begins_get_attempt_drone : (p : Pair) (began : ℕ) (u : ℕ) (m : Option PlanMsg) → Facts p → p.work ≡ 0 → began ≡ p.drone_next → SentByDrone p u m → SentByDrone (begins_get_attempt p began) u m
begins_get_attempt_drone p began u (Some (Ping to usec n)) f h0 h1 h = grind arith
begins_get_attempt_drone p began u (Some (Count to n k)) f h0 h1 h = grind arith
begins_get_attempt_drone p began u (Some (Give to i k x)) f h0 h1 h = grind arith
begins_get_attempt_drone p began u (Some (Request to i k)) f h0 h1 h = grind arith
begins_get_attempt_drone p began u (Some (Ack to c k)) f h0 h1 h = grind arith
begins_get_attempt_drone p began u (Some (Clear to k)) f h0 h1 h = grind arith
begins_get_attempt_drone p began u (Some (Listing to k)) f h0 h1 h = grind arith
begins_get_attempt_drone p began u None f h0 h1 h = grind arith

pub begins_get_facts : (p : Pair) (began : ℕ) → Facts p → p.work ≡ 0 → p.synced ≡ 1 → began ≡ p.drone_next → Facts (begins_get p began)
begins_get_facts p began f h0 h1 h2 = grind arith

pub begins_get_station : (p : Pair) (began : ℕ) (jkind kind total : ℕ) (plan : ℕ → Option Item) (jkind' kind' total' : ℕ) (plan' : ℕ → Option Item) (u : ℕ) (m : Option PlanMsg) → Facts p → p.work ≡ 0 → p.synced ≡ 1 → began ≡ p.drone_next → SentByStation p jkind kind total plan u m → SentByStation (begins_get p began) jkind' kind' total' plan' u m
begins_get_station p began jkind kind total plan jkind' kind' total' plan' u (Some (Ping to usec n)) f h0 h1 h2 h = grind arith
begins_get_station p began jkind kind total plan jkind' kind' total' plan' u (Some (Count to n k)) f h0 h1 h2 h = grind arith
begins_get_station p began jkind kind total plan jkind' kind' total' plan' u (Some (Give to i k x)) f h0 h1 h2 h = grind arith
begins_get_station p began jkind kind total plan jkind' kind' total' plan' u (Some (Request to i k)) f h0 h1 h2 h = grind arith
begins_get_station p began jkind kind total plan jkind' kind' total' plan' u (Some (Ack to c k)) f h0 h1 h2 h = grind arith
begins_get_station p began jkind kind total plan jkind' kind' total' plan' u (Some (Clear to k)) f h0 h1 h2 h = grind arith
begins_get_station p began jkind kind total plan jkind' kind' total' plan' u (Some (Listing to k)) f h0 h1 h2 h = grind arith
begins_get_station p began jkind kind total plan jkind' kind' total' plan' u None f h0 h1 h2 h = grind arith

pub begins_get_drone : (p : Pair) (began : ℕ) (u : ℕ) (m : Option PlanMsg) → Facts p → p.work ≡ 0 → p.synced ≡ 1 → began ≡ p.drone_next → SentByDrone p u m → SentByDrone (begins_get p began) u m
begins_get_drone p began u (Some (Ping to usec n)) f h0 h1 h2 h = grind arith
begins_get_drone p began u (Some (Count to n k)) f h0 h1 h2 h = grind arith
begins_get_drone p began u (Some (Give to i k x)) f h0 h1 h2 h = grind arith
begins_get_drone p began u (Some (Request to i k)) f h0 h1 h2 h = grind arith
begins_get_drone p began u (Some (Ack to c k)) f h0 h1 h2 h = grind arith
begins_get_drone p began u (Some (Clear to k)) f h0 h1 h2 h = grind arith
begins_get_drone p began u (Some (Listing to k)) f h0 h1 h2 h = grind arith
begins_get_drone p began u None f h0 h1 h2 h = grind arith

pub gets_facts : (p : Pair) → Facts p → p.phase ≡ 5 → 0 < p.now_shown → p.now_shown ≤ p.station_last → Facts (gets p)
gets_facts p f h0 h1 h2 = grind arith

pub gets_station : (p : Pair) (jkind kind total : ℕ) (plan : ℕ → Option Item) (u : ℕ) (m : Option PlanMsg) → Facts p → p.phase ≡ 5 → 0 < p.now_shown → p.now_shown ≤ p.station_last → SentByStation p jkind kind total plan u m → SentByStation (gets p) jkind kind total plan u m
gets_station p jkind kind total plan u (Some (Ping to usec n)) f h0 h1 h2 h = grind arith
gets_station p jkind kind total plan u (Some (Count to n k)) f h0 h1 h2 h = grind arith
gets_station p jkind kind total plan u (Some (Give to i k x)) f h0 h1 h2 h = grind arith
gets_station p jkind kind total plan u (Some (Request to i k)) f h0 h1 h2 h = grind arith
gets_station p jkind kind total plan u (Some (Ack to c k)) f h0 h1 h2 h = grind arith
gets_station p jkind kind total plan u (Some (Clear to k)) f h0 h1 h2 h = grind arith
gets_station p jkind kind total plan u (Some (Listing to k)) f h0 h1 h2 h = grind arith
gets_station p jkind kind total plan u None f h0 h1 h2 h = grind arith

pub gets_drone : (p : Pair) (u : ℕ) (m : Option PlanMsg) → Facts p → p.phase ≡ 5 → 0 < p.now_shown → p.now_shown ≤ p.station_last → SentByDrone p u m → SentByDrone (gets p) u m
gets_drone p u (Some (Ping to usec n)) f h0 h1 h2 h = grind arith
gets_drone p u (Some (Count to n k)) f h0 h1 h2 h = grind arith
gets_drone p u (Some (Give to i k x)) f h0 h1 h2 h = grind arith
gets_drone p u (Some (Request to i k)) f h0 h1 h2 h = grind arith
gets_drone p u (Some (Ack to c k)) f h0 h1 h2 h = grind arith
gets_drone p u (Some (Clear to k)) f h0 h1 h2 h = grind arith
gets_drone p u (Some (Listing to k)) f h0 h1 h2 h = grind arith
gets_drone p u None f h0 h1 h2 h = grind arith

pub marks_terminating_facts : (p : Pair) → Facts p → 0 < p.first_ping → Facts (marks_terminating p)
marks_terminating_facts p f h0 = grind arith

pub marks_terminating_station : (p : Pair) (jkind kind total : ℕ) (plan : ℕ → Option Item) (u : ℕ) (m : Option PlanMsg) → Facts p → 0 < p.first_ping → SentByStation p jkind kind total plan u m → SentByStation (marks_terminating p) jkind kind total plan u m
marks_terminating_station p jkind kind total plan u (Some (Ping to usec n)) f h0 h = grind arith
marks_terminating_station p jkind kind total plan u (Some (Count to n k)) f h0 h = grind arith
marks_terminating_station p jkind kind total plan u (Some (Give to i k x)) f h0 h = grind arith
marks_terminating_station p jkind kind total plan u (Some (Request to i k)) f h0 h = grind arith
marks_terminating_station p jkind kind total plan u (Some (Ack to c k)) f h0 h = grind arith
marks_terminating_station p jkind kind total plan u (Some (Clear to k)) f h0 h = grind arith
marks_terminating_station p jkind kind total plan u (Some (Listing to k)) f h0 h = grind arith
marks_terminating_station p jkind kind total plan u None f h0 h = grind arith

pub marks_terminating_drone : (p : Pair) (u : ℕ) (m : Option PlanMsg) → Facts p → 0 < p.first_ping → SentByDrone p u m → SentByDrone (marks_terminating p) u m
marks_terminating_drone p u (Some (Ping to usec n)) f h0 h = grind arith
marks_terminating_drone p u (Some (Count to n k)) f h0 h = grind arith
marks_terminating_drone p u (Some (Give to i k x)) f h0 h = grind arith
marks_terminating_drone p u (Some (Request to i k)) f h0 h = grind arith
marks_terminating_drone p u (Some (Ack to c k)) f h0 h = grind arith
marks_terminating_drone p u (Some (Clear to k)) f h0 h = grind arith
marks_terminating_drone p u (Some (Listing to k)) f h0 h = grind arith
marks_terminating_drone p u None f h0 h = grind arith

pub pings_facts : (p : Pair) → Facts p → Facts (pings p)
pings_facts p f = grind arith

pub pings_station : (p : Pair) (jkind kind total : ℕ) (plan : ℕ → Option Item) (u : ℕ) (m : Option PlanMsg) → Facts p → SentByStation p jkind kind total plan u m → SentByStation (pings p) jkind kind total plan u m
pings_station p jkind kind total plan u (Some (Ping to usec n)) f h = grind arith
pings_station p jkind kind total plan u (Some (Count to n k)) f h = grind arith
pings_station p jkind kind total plan u (Some (Give to i k x)) f h = grind arith
pings_station p jkind kind total plan u (Some (Request to i k)) f h = grind arith
pings_station p jkind kind total plan u (Some (Ack to c k)) f h = grind arith
pings_station p jkind kind total plan u (Some (Clear to k)) f h = grind arith
pings_station p jkind kind total plan u (Some (Listing to k)) f h = grind arith
pings_station p jkind kind total plan u None f h = grind arith

pub pings_drone : (p : Pair) (u : ℕ) (m : Option PlanMsg) → Facts p → SentByDrone p u m → SentByDrone (pings p) u m
pings_drone p u (Some (Ping to usec n)) f h = grind arith
pings_drone p u (Some (Count to n k)) f h = grind arith
pings_drone p u (Some (Give to i k x)) f h = grind arith
pings_drone p u (Some (Request to i k)) f h = grind arith
pings_drone p u (Some (Ack to c k)) f h = grind arith
pings_drone p u (Some (Clear to k)) f h = grind arith
pings_drone p u (Some (Listing to k)) f h = grind arith
pings_drone p u None f h = grind arith

pub later_station_facts : (p : Pair) (z : ℕ) → Facts p → p.station_next ≤ z → Facts (later_station p z)
later_station_facts p z f h0 = grind arith

pub later_station_station : (p : Pair) (z : ℕ) (jkind kind total : ℕ) (plan : ℕ → Option Item) (u : ℕ) (m : Option PlanMsg) → Facts p → p.station_next ≤ z → SentByStation p jkind kind total plan u m → SentByStation (later_station p z) jkind kind total plan u m
later_station_station p z jkind kind total plan u (Some (Ping to usec n)) f h0 h = grind arith
later_station_station p z jkind kind total plan u (Some (Count to n k)) f h0 h = grind arith
later_station_station p z jkind kind total plan u (Some (Give to i k x)) f h0 h = grind arith
later_station_station p z jkind kind total plan u (Some (Request to i k)) f h0 h = grind arith
later_station_station p z jkind kind total plan u (Some (Ack to c k)) f h0 h = grind arith
later_station_station p z jkind kind total plan u (Some (Clear to k)) f h0 h = grind arith
later_station_station p z jkind kind total plan u (Some (Listing to k)) f h0 h = grind arith
later_station_station p z jkind kind total plan u None f h0 h = grind arith

pub later_station_drone : (p : Pair) (z : ℕ) (u : ℕ) (m : Option PlanMsg) → Facts p → p.station_next ≤ z → SentByDrone p u m → SentByDrone (later_station p z) u m
later_station_drone p z u (Some (Ping to usec n)) f h0 h = grind arith
later_station_drone p z u (Some (Count to n k)) f h0 h = grind arith
later_station_drone p z u (Some (Give to i k x)) f h0 h = grind arith
later_station_drone p z u (Some (Request to i k)) f h0 h = grind arith
later_station_drone p z u (Some (Ack to c k)) f h0 h = grind arith
later_station_drone p z u (Some (Clear to k)) f h0 h = grind arith
later_station_drone p z u (Some (Listing to k)) f h0 h = grind arith
later_station_drone p z u None f h0 h = grind arith

pub elsewhere_facts : (p : Pair) (z t stage synced lost : ℕ) → Facts p → p.work ≡ 0 → p.next_ping ≤ z → p.station_next ≤ t → stage ≢ 1 → stage ≤ 2 → synced ≤ p.synced → Facts (elsewhere p z t stage synced lost)
elsewhere_facts p z t stage synced lost f h0 h1 h2 h3 h4 h5 = grind arith

pub elsewhere_station : (p : Pair) (z t stage synced lost : ℕ) (jkind kind total : ℕ) (plan : ℕ → Option Item) (jkind' kind' total' : ℕ) (plan' : ℕ → Option Item) (u : ℕ) (m : Option PlanMsg) → Facts p → p.work ≡ 0 → p.next_ping ≤ z → p.station_next ≤ t → stage ≢ 1 → stage ≤ 2 → synced ≤ p.synced → SentByStation p jkind kind total plan u m → SentByStation (elsewhere p z t stage synced lost) jkind' kind' total' plan' u m
elsewhere_station p z t stage synced lost jkind kind total plan jkind' kind' total' plan' u (Some (Ping to usec n)) f h0 h1 h2 h3 h4 h5 h = grind arith
elsewhere_station p z t stage synced lost jkind kind total plan jkind' kind' total' plan' u (Some (Count to n k)) f h0 h1 h2 h3 h4 h5 h = grind arith
elsewhere_station p z t stage synced lost jkind kind total plan jkind' kind' total' plan' u (Some (Give to i k x)) f h0 h1 h2 h3 h4 h5 h = grind arith
elsewhere_station p z t stage synced lost jkind kind total plan jkind' kind' total' plan' u (Some (Request to i k)) f h0 h1 h2 h3 h4 h5 h = grind arith
elsewhere_station p z t stage synced lost jkind kind total plan jkind' kind' total' plan' u (Some (Ack to c k)) f h0 h1 h2 h3 h4 h5 h = grind arith
elsewhere_station p z t stage synced lost jkind kind total plan jkind' kind' total' plan' u (Some (Clear to k)) f h0 h1 h2 h3 h4 h5 h = grind arith
elsewhere_station p z t stage synced lost jkind kind total plan jkind' kind' total' plan' u (Some (Listing to k)) f h0 h1 h2 h3 h4 h5 h = grind arith
elsewhere_station p z t stage synced lost jkind kind total plan jkind' kind' total' plan' u None f h0 h1 h2 h3 h4 h5 h = grind arith

pub elsewhere_drone : (p : Pair) (z t stage synced lost : ℕ) (u : ℕ) (m : Option PlanMsg) → Facts p → p.work ≡ 0 → p.next_ping ≤ z → p.station_next ≤ t → stage ≢ 1 → stage ≤ 2 → synced ≤ p.synced → SentByDrone p u m → SentByDrone (elsewhere p z t stage synced lost) u m
elsewhere_drone p z t stage synced lost u (Some (Ping to usec n)) f h0 h1 h2 h3 h4 h5 h = grind arith
elsewhere_drone p z t stage synced lost u (Some (Count to n k)) f h0 h1 h2 h3 h4 h5 h = grind arith
elsewhere_drone p z t stage synced lost u (Some (Give to i k x)) f h0 h1 h2 h3 h4 h5 h = grind arith
elsewhere_drone p z t stage synced lost u (Some (Request to i k)) f h0 h1 h2 h3 h4 h5 h = grind arith
elsewhere_drone p z t stage synced lost u (Some (Ack to c k)) f h0 h1 h2 h3 h4 h5 h = grind arith
elsewhere_drone p z t stage synced lost u (Some (Clear to k)) f h0 h1 h2 h3 h4 h5 h = grind arith
elsewhere_drone p z t stage synced lost u (Some (Listing to k)) f h0 h1 h2 h3 h4 h5 h = grind arith
elsewhere_drone p z t stage synced lost u None f h0 h1 h2 h3 h4 h5 h = grind arith

pub counts_facts : (p : Pair) → Facts p → p.phase ≡ 3 → p.asked ≡ 0 → Facts (counts p)
counts_facts p f h0 h1 = grind arith

pub counts_station : (p : Pair) (jkind kind total : ℕ) (plan : ℕ → Option Item) (u : ℕ) (m : Option PlanMsg) → Facts p → p.phase ≡ 3 → p.asked ≡ 0 → SentByStation p jkind kind total plan u m → SentByStation (counts p) jkind kind total plan u m
counts_station p jkind kind total plan u (Some (Ping to usec n)) f h0 h1 h = grind arith
counts_station p jkind kind total plan u (Some (Count to n k)) f h0 h1 h = grind arith
counts_station p jkind kind total plan u (Some (Give to i k x)) f h0 h1 h = grind arith
counts_station p jkind kind total plan u (Some (Request to i k)) f h0 h1 h = grind arith
counts_station p jkind kind total plan u (Some (Ack to c k)) f h0 h1 h = grind arith
counts_station p jkind kind total plan u (Some (Clear to k)) f h0 h1 h = grind arith
counts_station p jkind kind total plan u (Some (Listing to k)) f h0 h1 h = grind arith
counts_station p jkind kind total plan u None f h0 h1 h = grind arith

pub counts_drone : (p : Pair) (u : ℕ) (m : Option PlanMsg) → Facts p → p.phase ≡ 3 → p.asked ≡ 0 → SentByDrone p u m → SentByDrone (counts p) u m
counts_drone p u (Some (Ping to usec n)) f h0 h1 h = grind arith
counts_drone p u (Some (Count to n k)) f h0 h1 h = grind arith
counts_drone p u (Some (Give to i k x)) f h0 h1 h = grind arith
counts_drone p u (Some (Request to i k)) f h0 h1 h = grind arith
counts_drone p u (Some (Ack to c k)) f h0 h1 h = grind arith
counts_drone p u (Some (Clear to k)) f h0 h1 h = grind arith
counts_drone p u (Some (Listing to k)) f h0 h1 h = grind arith
counts_drone p u None f h0 h1 h = grind arith
