-- What each step of the drone keeps, in numbers. For a step S of the pair, under the facts before it and the step's own
-- hypotheses, there are three lemmas: S_facts, the facts hold after it; S_station and S_drone, what was true of a frame
-- of the station, or of the drone, that was sent before is true after it, one clause for each message. Each is linear
-- arithmetic over the numbers of the pair. They are written out in full, so that each can be read and changed alone.
use Rattle.std.proofs.Common.{◌≡◌, ℕ, ◌<◌, ◌≤◌, Option, Some, None, arith}
use Rattle.plan_items.specs.declared.items.Item.{Item}
use Rattle.plan_items.specs.declared.messages.PlanMsg.{PlanMsg}
use Rattle.plan_items.specs.declared.messages.PlanMsg.TheVariants.{Count, Request, Item as Give, Ack, List as Listing, Clear, Ping}
use Rattle.plan_safety.proofs.Pair.{Pair, Facts, SentByStation, SentByDrone, acks, admits, asks, closes, installs, later_drone, lists, opens, opens_first, replies, restarts, speaks}

pub admits_facts : (p : Pair) (t : ℕ) → Facts p → p.drone_last < t → t < p.station_next → Facts (admits p t)
admits_facts p t f h0 h1 = grind arith

pub admits_station : (p : Pair) (t : ℕ) (jkind kind total : ℕ) (plan : ℕ → Option Item) (u : ℕ) (m : Option PlanMsg) → Facts p → p.drone_last < t → t < p.station_next → SentByStation p jkind kind total plan u m → SentByStation (admits p t) jkind kind total plan u m
admits_station p t jkind kind total plan u (Some (Ping to usec n)) f h0 h1 h = grind arith
admits_station p t jkind kind total plan u (Some (Count to n k)) f h0 h1 h = grind arith
admits_station p t jkind kind total plan u (Some (Give to i k x)) f h0 h1 h = grind arith
admits_station p t jkind kind total plan u (Some (Request to i k)) f h0 h1 h = grind arith
admits_station p t jkind kind total plan u (Some (Ack to c k)) f h0 h1 h = grind arith
admits_station p t jkind kind total plan u (Some (Clear to k)) f h0 h1 h = grind arith
admits_station p t jkind kind total plan u (Some (Listing to k)) f h0 h1 h = grind arith
admits_station p t jkind kind total plan u None f h0 h1 h = grind arith

pub admits_drone : (p : Pair) (t : ℕ) (u : ℕ) (m : Option PlanMsg) → Facts p → p.drone_last < t → t < p.station_next → SentByDrone p u m → SentByDrone (admits p t) u m
admits_drone p t u (Some (Ping to usec n)) f h0 h1 h = grind arith
admits_drone p t u (Some (Count to n k)) f h0 h1 h = grind arith
admits_drone p t u (Some (Give to i k x)) f h0 h1 h = grind arith
admits_drone p t u (Some (Request to i k)) f h0 h1 h = grind arith
admits_drone p t u (Some (Ack to c k)) f h0 h1 h = grind arith
admits_drone p t u (Some (Clear to k)) f h0 h1 h = grind arith
admits_drone p t u (Some (Listing to k)) f h0 h1 h = grind arith
admits_drone p t u None f h0 h1 h = grind arith

pub speaks_facts : (p : Pair) → Facts p → Facts (speaks p)
speaks_facts p f = grind arith

pub speaks_station : (p : Pair) (jkind kind total : ℕ) (plan : ℕ → Option Item) (u : ℕ) (m : Option PlanMsg) → Facts p → SentByStation p jkind kind total plan u m → SentByStation (speaks p) jkind kind total plan u m
speaks_station p jkind kind total plan u (Some (Ping to usec n)) f h = grind arith
speaks_station p jkind kind total plan u (Some (Count to n k)) f h = grind arith
speaks_station p jkind kind total plan u (Some (Give to i k x)) f h = grind arith
speaks_station p jkind kind total plan u (Some (Request to i k)) f h = grind arith
speaks_station p jkind kind total plan u (Some (Ack to c k)) f h = grind arith
speaks_station p jkind kind total plan u (Some (Clear to k)) f h = grind arith
speaks_station p jkind kind total plan u (Some (Listing to k)) f h = grind arith
speaks_station p jkind kind total plan u None f h = grind arith

pub speaks_drone : (p : Pair) (u : ℕ) (m : Option PlanMsg) → Facts p → SentByDrone p u m → SentByDrone (speaks p) u m
speaks_drone p u (Some (Ping to usec n)) f h = grind arith
speaks_drone p u (Some (Count to n k)) f h = grind arith
speaks_drone p u (Some (Give to i k x)) f h = grind arith
speaks_drone p u (Some (Request to i k)) f h = grind arith
speaks_drone p u (Some (Ack to c k)) f h = grind arith
speaks_drone p u (Some (Clear to k)) f h = grind arith
speaks_drone p u (Some (Listing to k)) f h = grind arith
speaks_drone p u None f h = grind arith

pub acks_facts : (p : Pair) (z : ℕ) → Facts p → (p.phase ≡ 3 → 0 < p.first_open → p.stage < 2) → (0 < p.first_reply → p.result ≡ 2 → p.phase ≡ 2) → (0 < p.first_reply → p.result ≡ 2 → p.last_ack ≤ p.first_reply) → (0 < p.first_reply → p.result ≡ 2 → p.last_cancel ≤ p.drone_last) → p.last_verdict ≤ z → z ≤ p.drone_next → (3 < p.phase → p.station_last < z → p.last_job ≤ p.drone_last) → (3 < p.phase → p.last_verdict ≤ p.station_last) → (4 < p.phase → 0 < p.now_shown → z ≤ p.station_last) → (p.work ≡ 0 → p.synced ≡ 1 → z ≤ p.station_last) → (0 < p.first_reply → p.last_verdict ≤ p.first_reply) → (0 < p.first_reply → p.first_reply < z → p.phase ≡ 2) → (0 < p.first_reply → p.first_reply < z → p.last_cancel ≤ p.drone_last) → (0 < p.first_reply → p.first_reply < z → p.has_open ≡ 0) → (0 < p.first_reply → p.first_reply < z → p.last_ack ≤ p.first_reply) → Facts (acks p z)
acks_facts p z f h0 h1 h2 h3 h4 h5 h6 h7 h8 h9 h10 h11 h12 h13 h14 = grind arith

pub acks_station : (p : Pair) (z : ℕ) (jkind kind total : ℕ) (plan : ℕ → Option Item) (u : ℕ) (m : Option PlanMsg) → Facts p → (p.phase ≡ 3 → 0 < p.first_open → p.stage < 2) → (0 < p.first_reply → p.result ≡ 2 → p.phase ≡ 2) → (0 < p.first_reply → p.result ≡ 2 → p.last_ack ≤ p.first_reply) → (0 < p.first_reply → p.result ≡ 2 → p.last_cancel ≤ p.drone_last) → p.last_verdict ≤ z → z ≤ p.drone_next → (3 < p.phase → p.station_last < z → p.last_job ≤ p.drone_last) → (3 < p.phase → p.last_verdict ≤ p.station_last) → (4 < p.phase → 0 < p.now_shown → z ≤ p.station_last) → (p.work ≡ 0 → p.synced ≡ 1 → z ≤ p.station_last) → (0 < p.first_reply → p.last_verdict ≤ p.first_reply) → (0 < p.first_reply → p.first_reply < z → p.phase ≡ 2) → (0 < p.first_reply → p.first_reply < z → p.last_cancel ≤ p.drone_last) → (0 < p.first_reply → p.first_reply < z → p.has_open ≡ 0) → (0 < p.first_reply → p.first_reply < z → p.last_ack ≤ p.first_reply) → SentByStation p jkind kind total plan u m → SentByStation (acks p z) jkind kind total plan u m
acks_station p z jkind kind total plan u (Some (Ping to usec n)) f h0 h1 h2 h3 h4 h5 h6 h7 h8 h9 h10 h11 h12 h13 h14 h = grind arith
acks_station p z jkind kind total plan u (Some (Count to n k)) f h0 h1 h2 h3 h4 h5 h6 h7 h8 h9 h10 h11 h12 h13 h14 h = grind arith
acks_station p z jkind kind total plan u (Some (Give to i k x)) f h0 h1 h2 h3 h4 h5 h6 h7 h8 h9 h10 h11 h12 h13 h14 h = grind arith
acks_station p z jkind kind total plan u (Some (Request to i k)) f h0 h1 h2 h3 h4 h5 h6 h7 h8 h9 h10 h11 h12 h13 h14 h = grind arith
acks_station p z jkind kind total plan u (Some (Ack to c k)) f h0 h1 h2 h3 h4 h5 h6 h7 h8 h9 h10 h11 h12 h13 h14 h = grind arith
acks_station p z jkind kind total plan u (Some (Clear to k)) f h0 h1 h2 h3 h4 h5 h6 h7 h8 h9 h10 h11 h12 h13 h14 h = grind arith
acks_station p z jkind kind total plan u (Some (Listing to k)) f h0 h1 h2 h3 h4 h5 h6 h7 h8 h9 h10 h11 h12 h13 h14 h = grind arith
acks_station p z jkind kind total plan u None f h0 h1 h2 h3 h4 h5 h6 h7 h8 h9 h10 h11 h12 h13 h14 h = grind arith

pub acks_drone : (p : Pair) (z : ℕ) (u : ℕ) (m : Option PlanMsg) → Facts p → (p.phase ≡ 3 → 0 < p.first_open → p.stage < 2) → (0 < p.first_reply → p.result ≡ 2 → p.phase ≡ 2) → (0 < p.first_reply → p.result ≡ 2 → p.last_ack ≤ p.first_reply) → (0 < p.first_reply → p.result ≡ 2 → p.last_cancel ≤ p.drone_last) → p.last_verdict ≤ z → z ≤ p.drone_next → (3 < p.phase → p.station_last < z → p.last_job ≤ p.drone_last) → (3 < p.phase → p.last_verdict ≤ p.station_last) → (4 < p.phase → 0 < p.now_shown → z ≤ p.station_last) → (p.work ≡ 0 → p.synced ≡ 1 → z ≤ p.station_last) → (0 < p.first_reply → p.last_verdict ≤ p.first_reply) → (0 < p.first_reply → p.first_reply < z → p.phase ≡ 2) → (0 < p.first_reply → p.first_reply < z → p.last_cancel ≤ p.drone_last) → (0 < p.first_reply → p.first_reply < z → p.has_open ≡ 0) → (0 < p.first_reply → p.first_reply < z → p.last_ack ≤ p.first_reply) → SentByDrone p u m → SentByDrone (acks p z) u m
acks_drone p z u (Some (Ping to usec n)) f h0 h1 h2 h3 h4 h5 h6 h7 h8 h9 h10 h11 h12 h13 h14 h = grind arith
acks_drone p z u (Some (Count to n k)) f h0 h1 h2 h3 h4 h5 h6 h7 h8 h9 h10 h11 h12 h13 h14 h = grind arith
acks_drone p z u (Some (Give to i k x)) f h0 h1 h2 h3 h4 h5 h6 h7 h8 h9 h10 h11 h12 h13 h14 h = grind arith
acks_drone p z u (Some (Request to i k)) f h0 h1 h2 h3 h4 h5 h6 h7 h8 h9 h10 h11 h12 h13 h14 h = grind arith
acks_drone p z u (Some (Ack to c k)) f h0 h1 h2 h3 h4 h5 h6 h7 h8 h9 h10 h11 h12 h13 h14 h = grind arith
acks_drone p z u (Some (Clear to k)) f h0 h1 h2 h3 h4 h5 h6 h7 h8 h9 h10 h11 h12 h13 h14 h = grind arith
acks_drone p z u (Some (Listing to k)) f h0 h1 h2 h3 h4 h5 h6 h7 h8 h9 h10 h11 h12 h13 h14 h = grind arith
acks_drone p z u None f h0 h1 h2 h3 h4 h5 h6 h7 h8 h9 h10 h11 h12 h13 h14 h = grind arith

pub lists_facts : (p : Pair) → Facts p → 0 < p.first_job → p.first_job ≤ p.drone_last → p.drone_last ≤ p.last_job → p.work ≡ 3 → (3 < p.phase → p.drone_last ≡ p.last_job) → (3 < p.phase → p.last_verdict ≤ p.station_last) → (4 < p.phase → p.now_shown ≡ 0) → p.first_reply ≡ 0 → p.phase < 6 → Facts (lists p)
lists_facts p f h0 h1 h2 h3 h4 h5 h6 h7 h8 = grind arith

pub lists_station : (p : Pair) (jkind kind total : ℕ) (plan : ℕ → Option Item) (u : ℕ) (m : Option PlanMsg) → Facts p → 0 < p.first_job → p.first_job ≤ p.drone_last → p.drone_last ≤ p.last_job → p.work ≡ 3 → (3 < p.phase → p.drone_last ≡ p.last_job) → (3 < p.phase → p.last_verdict ≤ p.station_last) → (4 < p.phase → p.now_shown ≡ 0) → p.first_reply ≡ 0 → p.phase < 6 → SentByStation p jkind kind total plan u m → SentByStation (lists p) jkind kind total plan u m
lists_station p jkind kind total plan u (Some (Ping to usec n)) f h0 h1 h2 h3 h4 h5 h6 h7 h8 h = grind arith
lists_station p jkind kind total plan u (Some (Count to n k)) f h0 h1 h2 h3 h4 h5 h6 h7 h8 h = grind arith
lists_station p jkind kind total plan u (Some (Give to i k x)) f h0 h1 h2 h3 h4 h5 h6 h7 h8 h = grind arith
lists_station p jkind kind total plan u (Some (Request to i k)) f h0 h1 h2 h3 h4 h5 h6 h7 h8 h = grind arith
lists_station p jkind kind total plan u (Some (Ack to c k)) f h0 h1 h2 h3 h4 h5 h6 h7 h8 h = grind arith
lists_station p jkind kind total plan u (Some (Clear to k)) f h0 h1 h2 h3 h4 h5 h6 h7 h8 h = grind arith
lists_station p jkind kind total plan u (Some (Listing to k)) f h0 h1 h2 h3 h4 h5 h6 h7 h8 h = grind arith
lists_station p jkind kind total plan u None f h0 h1 h2 h3 h4 h5 h6 h7 h8 h = grind arith

pub lists_drone : (p : Pair) (u : ℕ) (m : Option PlanMsg) → Facts p → 0 < p.first_job → p.first_job ≤ p.drone_last → p.drone_last ≤ p.last_job → p.work ≡ 3 → (3 < p.phase → p.drone_last ≡ p.last_job) → (3 < p.phase → p.last_verdict ≤ p.station_last) → (4 < p.phase → p.now_shown ≡ 0) → p.first_reply ≡ 0 → p.phase < 6 → SentByDrone p u m → SentByDrone (lists p) u m
lists_drone p u (Some (Ping to usec n)) f h0 h1 h2 h3 h4 h5 h6 h7 h8 h = grind arith
lists_drone p u (Some (Count to n k)) f h0 h1 h2 h3 h4 h5 h6 h7 h8 h = grind arith
lists_drone p u (Some (Give to i k x)) f h0 h1 h2 h3 h4 h5 h6 h7 h8 h = grind arith
lists_drone p u (Some (Request to i k)) f h0 h1 h2 h3 h4 h5 h6 h7 h8 h = grind arith
lists_drone p u (Some (Ack to c k)) f h0 h1 h2 h3 h4 h5 h6 h7 h8 h = grind arith
lists_drone p u (Some (Clear to k)) f h0 h1 h2 h3 h4 h5 h6 h7 h8 h = grind arith
lists_drone p u (Some (Listing to k)) f h0 h1 h2 h3 h4 h5 h6 h7 h8 h = grind arith
lists_drone p u None f h0 h1 h2 h3 h4 h5 h6 h7 h8 h = grind arith

pub replies_facts : (p : Pair) → Facts p → p.first_reply ≡ 0 → 0 < p.first_ping → p.first_ping ≤ p.drone_last → Facts (replies p)
replies_facts p f h0 h1 h2 = grind arith

pub replies_station : (p : Pair) (jkind kind total : ℕ) (plan : ℕ → Option Item) (u : ℕ) (m : Option PlanMsg) → Facts p → p.first_reply ≡ 0 → 0 < p.first_ping → p.first_ping ≤ p.drone_last → SentByStation p jkind kind total plan u m → SentByStation (replies p) jkind kind total plan u m
replies_station p jkind kind total plan u (Some (Ping to usec n)) f h0 h1 h2 h = grind arith
replies_station p jkind kind total plan u (Some (Count to n k)) f h0 h1 h2 h = grind arith
replies_station p jkind kind total plan u (Some (Give to i k x)) f h0 h1 h2 h = grind arith
replies_station p jkind kind total plan u (Some (Request to i k)) f h0 h1 h2 h = grind arith
replies_station p jkind kind total plan u (Some (Ack to c k)) f h0 h1 h2 h = grind arith
replies_station p jkind kind total plan u (Some (Clear to k)) f h0 h1 h2 h = grind arith
replies_station p jkind kind total plan u (Some (Listing to k)) f h0 h1 h2 h = grind arith
replies_station p jkind kind total plan u None f h0 h1 h2 h = grind arith

pub replies_drone : (p : Pair) (u : ℕ) (m : Option PlanMsg) → Facts p → p.first_reply ≡ 0 → 0 < p.first_ping → p.first_ping ≤ p.drone_last → SentByDrone p u m → SentByDrone (replies p) u m
replies_drone p u (Some (Ping to usec n)) f h0 h1 h2 h = grind arith
replies_drone p u (Some (Count to n k)) f h0 h1 h2 h = grind arith
replies_drone p u (Some (Give to i k x)) f h0 h1 h2 h = grind arith
replies_drone p u (Some (Request to i k)) f h0 h1 h2 h = grind arith
replies_drone p u (Some (Ack to c k)) f h0 h1 h2 h = grind arith
replies_drone p u (Some (Clear to k)) f h0 h1 h2 h = grind arith
replies_drone p u (Some (Listing to k)) f h0 h1 h2 h = grind arith
replies_drone p u None f h0 h1 h2 h = grind arith

pub asks_facts : (p : Pair) → Facts p → 0 < p.has_open → Facts (asks p)
asks_facts p f h0 = grind arith

pub asks_station : (p : Pair) (jkind kind total : ℕ) (plan : ℕ → Option Item) (u : ℕ) (m : Option PlanMsg) → Facts p → 0 < p.has_open → SentByStation p jkind kind total plan u m → SentByStation (asks p) jkind kind total plan u m
asks_station p jkind kind total plan u (Some (Ping to usec n)) f h0 h = grind arith
asks_station p jkind kind total plan u (Some (Count to n k)) f h0 h = grind arith
asks_station p jkind kind total plan u (Some (Give to i k x)) f h0 h = grind arith
asks_station p jkind kind total plan u (Some (Request to i k)) f h0 h = grind arith
asks_station p jkind kind total plan u (Some (Ack to c k)) f h0 h = grind arith
asks_station p jkind kind total plan u (Some (Clear to k)) f h0 h = grind arith
asks_station p jkind kind total plan u (Some (Listing to k)) f h0 h = grind arith
asks_station p jkind kind total plan u None f h0 h = grind arith

pub asks_drone : (p : Pair) (u : ℕ) (m : Option PlanMsg) → Facts p → 0 < p.has_open → SentByDrone p u m → SentByDrone (asks p) u m
asks_drone p u (Some (Ping to usec n)) f h0 h = grind arith
asks_drone p u (Some (Count to n k)) f h0 h = grind arith
asks_drone p u (Some (Give to i k x)) f h0 h = grind arith
asks_drone p u (Some (Request to i k)) f h0 h = grind arith
asks_drone p u (Some (Ack to c k)) f h0 h = grind arith
asks_drone p u (Some (Clear to k)) f h0 h = grind arith
asks_drone p u (Some (Listing to k)) f h0 h = grind arith
asks_drone p u None f h0 h = grind arith

pub opens_facts : (p : Pair) → Facts p → p.drone_last ≤ p.last_count → p.first_count ≤ p.drone_last → 0 < p.first_open → Facts (opens p)
opens_facts p f h0 h1 h2 = grind arith

pub opens_station : (p : Pair) (jkind kind total : ℕ) (plan : ℕ → Option Item) (u : ℕ) (m : Option PlanMsg) → Facts p → p.drone_last ≤ p.last_count → p.first_count ≤ p.drone_last → 0 < p.first_open → SentByStation p jkind kind total plan u m → SentByStation (opens p) jkind kind total plan u m
opens_station p jkind kind total plan u (Some (Ping to usec n)) f h0 h1 h2 h = grind arith
opens_station p jkind kind total plan u (Some (Count to n k)) f h0 h1 h2 h = grind arith
opens_station p jkind kind total plan u (Some (Give to i k x)) f h0 h1 h2 h = grind arith
opens_station p jkind kind total plan u (Some (Request to i k)) f h0 h1 h2 h = grind arith
opens_station p jkind kind total plan u (Some (Ack to c k)) f h0 h1 h2 h = grind arith
opens_station p jkind kind total plan u (Some (Clear to k)) f h0 h1 h2 h = grind arith
opens_station p jkind kind total plan u (Some (Listing to k)) f h0 h1 h2 h = grind arith
opens_station p jkind kind total plan u None f h0 h1 h2 h = grind arith

pub opens_drone : (p : Pair) (u : ℕ) (m : Option PlanMsg) → Facts p → p.drone_last ≤ p.last_count → p.first_count ≤ p.drone_last → 0 < p.first_open → SentByDrone p u m → SentByDrone (opens p) u m
opens_drone p u (Some (Ping to usec n)) f h0 h1 h2 h = grind arith
opens_drone p u (Some (Count to n k)) f h0 h1 h2 h = grind arith
opens_drone p u (Some (Give to i k x)) f h0 h1 h2 h = grind arith
opens_drone p u (Some (Request to i k)) f h0 h1 h2 h = grind arith
opens_drone p u (Some (Ack to c k)) f h0 h1 h2 h = grind arith
opens_drone p u (Some (Clear to k)) f h0 h1 h2 h = grind arith
opens_drone p u (Some (Listing to k)) f h0 h1 h2 h = grind arith
opens_drone p u None f h0 h1 h2 h = grind arith

pub opens_first_facts : (p : Pair) → Facts p → p.drone_last ≤ p.last_count → 0 < p.first_count → p.first_count ≤ p.drone_last → p.first_open ≡ 0 → Facts (opens_first p)
opens_first_facts p f h0 h1 h2 h3 = grind arith

pub opens_first_station : (p : Pair) (jkind kind total : ℕ) (plan : ℕ → Option Item) (u : ℕ) (m : Option PlanMsg) → Facts p → p.drone_last ≤ p.last_count → 0 < p.first_count → p.first_count ≤ p.drone_last → p.first_open ≡ 0 → SentByStation p jkind kind total plan u m → SentByStation (opens_first p) jkind kind total plan u m
opens_first_station p jkind kind total plan u (Some (Ping to usec n)) f h0 h1 h2 h3 h = grind arith
opens_first_station p jkind kind total plan u (Some (Count to n k)) f h0 h1 h2 h3 h = grind arith
opens_first_station p jkind kind total plan u (Some (Give to i k x)) f h0 h1 h2 h3 h = grind arith
opens_first_station p jkind kind total plan u (Some (Request to i k)) f h0 h1 h2 h3 h = grind arith
opens_first_station p jkind kind total plan u (Some (Ack to c k)) f h0 h1 h2 h3 h = grind arith
opens_first_station p jkind kind total plan u (Some (Clear to k)) f h0 h1 h2 h3 h = grind arith
opens_first_station p jkind kind total plan u (Some (Listing to k)) f h0 h1 h2 h3 h = grind arith
opens_first_station p jkind kind total plan u None f h0 h1 h2 h3 h = grind arith

pub opens_first_drone : (p : Pair) (u : ℕ) (m : Option PlanMsg) → Facts p → p.drone_last ≤ p.last_count → 0 < p.first_count → p.first_count ≤ p.drone_last → p.first_open ≡ 0 → SentByDrone p u m → SentByDrone (opens_first p) u m
opens_first_drone p u (Some (Ping to usec n)) f h0 h1 h2 h3 h = grind arith
opens_first_drone p u (Some (Count to n k)) f h0 h1 h2 h3 h = grind arith
opens_first_drone p u (Some (Give to i k x)) f h0 h1 h2 h3 h = grind arith
opens_first_drone p u (Some (Request to i k)) f h0 h1 h2 h3 h = grind arith
opens_first_drone p u (Some (Ack to c k)) f h0 h1 h2 h3 h = grind arith
opens_first_drone p u (Some (Clear to k)) f h0 h1 h2 h3 h = grind arith
opens_first_drone p u (Some (Listing to k)) f h0 h1 h2 h3 h = grind arith
opens_first_drone p u None f h0 h1 h2 h3 h = grind arith

pub closes_facts : (p : Pair) (z : ℕ) → Facts p → 0 < p.has_open → p.last_verdict ≤ z → z ≤ p.drone_next → (0 < p.first_reply → z ≡ p.last_verdict) → Facts (closes p z)
closes_facts p z f h0 h1 h2 h3 = grind arith

pub closes_station : (p : Pair) (z : ℕ) (jkind kind total : ℕ) (plan : ℕ → Option Item) (u : ℕ) (m : Option PlanMsg) → Facts p → 0 < p.has_open → p.last_verdict ≤ z → z ≤ p.drone_next → (0 < p.first_reply → z ≡ p.last_verdict) → SentByStation p jkind kind total plan u m → SentByStation (closes p z) jkind kind total plan u m
closes_station p z jkind kind total plan u (Some (Ping to usec n)) f h0 h1 h2 h3 h = grind arith
closes_station p z jkind kind total plan u (Some (Count to n k)) f h0 h1 h2 h3 h = grind arith
closes_station p z jkind kind total plan u (Some (Give to i k x)) f h0 h1 h2 h3 h = grind arith
closes_station p z jkind kind total plan u (Some (Request to i k)) f h0 h1 h2 h3 h = grind arith
closes_station p z jkind kind total plan u (Some (Ack to c k)) f h0 h1 h2 h3 h = grind arith
closes_station p z jkind kind total plan u (Some (Clear to k)) f h0 h1 h2 h3 h = grind arith
closes_station p z jkind kind total plan u (Some (Listing to k)) f h0 h1 h2 h3 h = grind arith
closes_station p z jkind kind total plan u None f h0 h1 h2 h3 h = grind arith

pub closes_drone : (p : Pair) (z : ℕ) (u : ℕ) (m : Option PlanMsg) → Facts p → 0 < p.has_open → p.last_verdict ≤ z → z ≤ p.drone_next → (0 < p.first_reply → z ≡ p.last_verdict) → SentByDrone p u m → SentByDrone (closes p z) u m
closes_drone p z u (Some (Ping to usec n)) f h0 h1 h2 h3 h = grind arith
closes_drone p z u (Some (Count to n k)) f h0 h1 h2 h3 h = grind arith
closes_drone p z u (Some (Give to i k x)) f h0 h1 h2 h3 h = grind arith
closes_drone p z u (Some (Request to i k)) f h0 h1 h2 h3 h = grind arith
closes_drone p z u (Some (Ack to c k)) f h0 h1 h2 h3 h = grind arith
closes_drone p z u (Some (Clear to k)) f h0 h1 h2 h3 h = grind arith
closes_drone p z u (Some (Listing to k)) f h0 h1 h2 h3 h = grind arith
closes_drone p z u None f h0 h1 h2 h3 h = grind arith

pub installs_facts : (p : Pair) → Facts p → 0 < p.has_open → p.last_count < p.drone_last → p.final_sent ≡ 1 → (0 < p.first_ping → p.drone_last < p.first_ping) → Facts (installs p)
installs_facts p f h0 h1 h2 h3 = grind arith

pub installs_station : (p : Pair) (jkind kind total : ℕ) (plan : ℕ → Option Item) (u : ℕ) (m : Option PlanMsg) → Facts p → 0 < p.has_open → p.last_count < p.drone_last → p.final_sent ≡ 1 → (0 < p.first_ping → p.drone_last < p.first_ping) → SentByStation p jkind kind total plan u m → SentByStation (installs p) jkind kind total plan u m
installs_station p jkind kind total plan u (Some (Ping to usec n)) f h0 h1 h2 h3 h = grind arith
installs_station p jkind kind total plan u (Some (Count to n k)) f h0 h1 h2 h3 h = grind arith
installs_station p jkind kind total plan u (Some (Give to i k x)) f h0 h1 h2 h3 h = grind arith
installs_station p jkind kind total plan u (Some (Request to i k)) f h0 h1 h2 h3 h = grind arith
installs_station p jkind kind total plan u (Some (Ack to c k)) f h0 h1 h2 h3 h = grind arith
installs_station p jkind kind total plan u (Some (Clear to k)) f h0 h1 h2 h3 h = grind arith
installs_station p jkind kind total plan u (Some (Listing to k)) f h0 h1 h2 h3 h = grind arith
installs_station p jkind kind total plan u None f h0 h1 h2 h3 h = grind arith

pub installs_drone : (p : Pair) (u : ℕ) (m : Option PlanMsg) → Facts p → 0 < p.has_open → p.last_count < p.drone_last → p.final_sent ≡ 1 → (0 < p.first_ping → p.drone_last < p.first_ping) → SentByDrone p u m → SentByDrone (installs p) u m
installs_drone p u (Some (Ping to usec n)) f h0 h1 h2 h3 h = grind arith
installs_drone p u (Some (Count to n k)) f h0 h1 h2 h3 h = grind arith
installs_drone p u (Some (Give to i k x)) f h0 h1 h2 h3 h = grind arith
installs_drone p u (Some (Request to i k)) f h0 h1 h2 h3 h = grind arith
installs_drone p u (Some (Ack to c k)) f h0 h1 h2 h3 h = grind arith
installs_drone p u (Some (Clear to k)) f h0 h1 h2 h3 h = grind arith
installs_drone p u (Some (Listing to k)) f h0 h1 h2 h3 h = grind arith
installs_drone p u None f h0 h1 h2 h3 h = grind arith

pub restarts_facts : (p : Pair) (w z lost : ℕ) → Facts p → p.drone_last ≤ w → p.drone_next ≤ z → (0 < p.first_open → lost ≡ 1) → Facts (restarts p w z lost)
restarts_facts p w z lost f h0 h1 h2 = grind arith

pub restarts_station : (p : Pair) (w z lost : ℕ) (jkind kind total : ℕ) (plan : ℕ → Option Item) (u : ℕ) (m : Option PlanMsg) → Facts p → p.drone_last ≤ w → p.drone_next ≤ z → (0 < p.first_open → lost ≡ 1) → SentByStation p jkind kind total plan u m → SentByStation (restarts p w z lost) jkind kind total plan u m
restarts_station p w z lost jkind kind total plan u (Some (Ping to usec n)) f h0 h1 h2 h = grind arith
restarts_station p w z lost jkind kind total plan u (Some (Count to n k)) f h0 h1 h2 h = grind arith
restarts_station p w z lost jkind kind total plan u (Some (Give to i k x)) f h0 h1 h2 h = grind arith
restarts_station p w z lost jkind kind total plan u (Some (Request to i k)) f h0 h1 h2 h = grind arith
restarts_station p w z lost jkind kind total plan u (Some (Ack to c k)) f h0 h1 h2 h = grind arith
restarts_station p w z lost jkind kind total plan u (Some (Clear to k)) f h0 h1 h2 h = grind arith
restarts_station p w z lost jkind kind total plan u (Some (Listing to k)) f h0 h1 h2 h = grind arith
restarts_station p w z lost jkind kind total plan u None f h0 h1 h2 h = grind arith

pub restarts_drone : (p : Pair) (w z lost : ℕ) (u : ℕ) (m : Option PlanMsg) → Facts p → p.drone_last ≤ w → p.drone_next ≤ z → (0 < p.first_open → lost ≡ 1) → SentByDrone p u m → SentByDrone (restarts p w z lost) u m
restarts_drone p w z lost u (Some (Ping to usec n)) f h0 h1 h2 h = grind arith
restarts_drone p w z lost u (Some (Count to n k)) f h0 h1 h2 h = grind arith
restarts_drone p w z lost u (Some (Give to i k x)) f h0 h1 h2 h = grind arith
restarts_drone p w z lost u (Some (Request to i k)) f h0 h1 h2 h = grind arith
restarts_drone p w z lost u (Some (Ack to c k)) f h0 h1 h2 h = grind arith
restarts_drone p w z lost u (Some (Clear to k)) f h0 h1 h2 h = grind arith
restarts_drone p w z lost u (Some (Listing to k)) f h0 h1 h2 h = grind arith
restarts_drone p w z lost u None f h0 h1 h2 h = grind arith

pub later_drone_facts : (p : Pair) (z : ℕ) → Facts p → p.drone_next ≤ z → Facts (later_drone p z)
later_drone_facts p z f h0 = grind arith

pub later_drone_station : (p : Pair) (z : ℕ) (jkind kind total : ℕ) (plan : ℕ → Option Item) (u : ℕ) (m : Option PlanMsg) → Facts p → p.drone_next ≤ z → SentByStation p jkind kind total plan u m → SentByStation (later_drone p z) jkind kind total plan u m
later_drone_station p z jkind kind total plan u (Some (Ping to usec n)) f h0 h = grind arith
later_drone_station p z jkind kind total plan u (Some (Count to n k)) f h0 h = grind arith
later_drone_station p z jkind kind total plan u (Some (Give to i k x)) f h0 h = grind arith
later_drone_station p z jkind kind total plan u (Some (Request to i k)) f h0 h = grind arith
later_drone_station p z jkind kind total plan u (Some (Ack to c k)) f h0 h = grind arith
later_drone_station p z jkind kind total plan u (Some (Clear to k)) f h0 h = grind arith
later_drone_station p z jkind kind total plan u (Some (Listing to k)) f h0 h = grind arith
later_drone_station p z jkind kind total plan u None f h0 h = grind arith

pub later_drone_drone : (p : Pair) (z : ℕ) (u : ℕ) (m : Option PlanMsg) → Facts p → p.drone_next ≤ z → SentByDrone p u m → SentByDrone (later_drone p z) u m
later_drone_drone p z u (Some (Ping to usec n)) f h0 h = grind arith
later_drone_drone p z u (Some (Count to n k)) f h0 h = grind arith
later_drone_drone p z u (Some (Give to i k x)) f h0 h = grind arith
later_drone_drone p z u (Some (Request to i k)) f h0 h = grind arith
later_drone_drone p z u (Some (Ack to c k)) f h0 h = grind arith
later_drone_drone p z u (Some (Clear to k)) f h0 h = grind arith
later_drone_drone p z u (Some (Listing to k)) f h0 h = grind arith
later_drone_drone p z u None f h0 h = grind arith
