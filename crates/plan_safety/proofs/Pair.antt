-- A drone and a station in numbers: flags, phases and moments. A moment is the timestamp of a frame in its
-- sender's own time, and 0 is never. No state keeps the moments: that some exist is part of the invariant.
use Rattle.std.proofs.Common.{◌≡◌, ◌≢◌, ℕ, ◌+◌, ◌<◌, ◌≤◌, ◌⊎◌, Option, Some, None}
use Rattle.plan_items.specs.declared.items.Item.{Item}
use Rattle.plan_items.specs.declared.messages.PlanMsg.{PlanMsg}
use Rattle.plan_items.specs.declared.messages.PlanMsg.TheVariants.{Count, Request, Item as Give, Ack, List as Listing, Clear, Ping}
use Rattle.plan_upload.specs.Addresses.{everyone}

pub record Pair : Type 0 where
  -- The drone: 1 if an upload of the station is open there.
  pub has_open : ℕ
  -- Its last upload result for the station: 0 none, 1 not installed, 2 installed.
  pub result : ℕ
  -- The greatest timestamp of the station that it admitted, and its own next one.
  pub drone_last : ℕ
  pub drone_next : ℕ
  -- The station's operation with the drone: 0 none, 1 an upload, 2 a clear, 3 a download.
  pub work : ℕ
  -- Its phase: 1 pinging, 2 cancelling, 3 sending, 4 clearing, 5 listing, 6 getting; 0 without an operation.
  pub phase : ℕ
  -- Its marks: it ends at the next resynchronisation, a request was seen, the final item was sent.
  pub terminating : ℕ
  pub asked : ℕ
  pub final_sent : ℕ
  -- The number of this resynchronisation attempt's PING, and the next PING number.
  pub number : ℕ
  pub next_ping : ℕ
  -- 1 if the station is synchronised with the drone.
  pub synced : ℕ
  -- The greatest timestamp of the drone that the station admitted, and its own next one.
  pub station_last : ℕ
  pub station_next : ℕ
  -- The latest upload transaction: 0 closed, 1 fresh, 2 installed; 1 if the drone has started again since.
  pub stage : ℕ
  pub lost : ℕ
  -- What else is open: 0 nothing, 1 a clear, 2 a download.
  pub job : ℕ
  -- The drone's next timestamp when the operation began.
  pub began : ℕ
  -- Moments. The first and the latest Count of the upload.
  pub first_count : ℕ
  pub last_count : ℕ
  -- The drone's latest Request, and its first opening at a Count of this upload.
  pub last_request : ℕ
  pub first_open : ℕ
  -- The first Ping of this resynchronisation, and the drone's first reply to it.
  pub first_ping : ℕ
  pub first_reply : ℕ
  -- The first Clear or List of the operation, and the latest one ever.
  pub first_job : ℕ
  pub last_job : ℕ
  -- The latest cancel.
  pub last_cancel : ℕ
  -- The drone's latest Ack other than 13, and its latest Ack other than 1, 13 and 15.
  pub last_ack : ℕ
  pub last_verdict : ℕ
  -- The drone's latest Count ever, and its Count for the latest List.
  pub last_shown : ℕ
  pub now_shown : ℕ
  -- The drone's next timestamp when the first Count of the upload was sent.
  pub counted : ℕ

pub record Facts (p : Pair) : Type 0 where
  -- What was sent was sent before the next timestamp.
  pub station_last_sent : p.station_last < p.drone_next
  pub last_count_sent : p.last_count < p.station_next
  pub last_job_sent : p.last_job < p.station_next
  pub last_cancel_sent : p.last_cancel < p.station_next
  pub last_request_sent : p.last_request < p.drone_next
  pub last_ack_sent : p.last_ack < p.drone_next
  pub last_verdict_sent : p.last_verdict < p.drone_next
  pub last_verdict_ack : p.last_verdict ≤ p.last_ack
  pub first_open_sent : p.first_open < p.drone_next
  pub first_reply_sent : p.first_reply < p.drone_next
  pub first_ping_sent : p.first_ping ≤ p.station_next
  -- Ranges.
  pub stage_range : p.stage ≤ 2
  pub asked_range : p.asked ≤ 1
  pub result_range : p.result ≤ 2
  pub synced_range : p.synced ≤ 1
  pub job_range : p.job ≤ 2
  pub work_range : p.work ≤ 3
  pub phase_range : p.phase ≤ 6
  -- The operation, its phase, and what the store has open.
  pub none_phase : p.work ≡ 0 → p.phase ≡ 0
  pub none_terminating : p.work ≡ 0 → p.terminating ≡ 0
  pub work_phase : 0 < p.work → 0 < p.phase
  pub fresh_work : p.stage ≡ 1 → p.work ≡ 1
  pub work_stage : p.work ≡ 1 → 0 < p.stage
  pub clear_work : p.job ≡ 1 → p.work ≡ 2
  pub work_clear : p.work ≡ 2 → p.job ≡ 1
  pub get_work : p.job ≡ 2 → p.work ≡ 3
  pub work_get : p.work ≡ 3 → p.job ≡ 2
  pub counted_work : 0 < p.first_count → p.work ≡ 1
  pub job_work : 0 < p.first_job → 1 < p.work
  pub clearing_work : p.phase ≡ 4 → p.work ≡ 2
  pub listing_work : 4 < p.phase → p.work ≡ 3
  -- Before the first Count nothing is open and no Count is deliverable; before an opening no Request is.
  pub quiet_open : p.first_count ≡ 0 → p.has_open ≡ 0
  pub quiet_count : p.first_count ≡ 0 → p.last_count ≤ p.drone_last
  pub quiet_job : p.first_job ≡ 0 → p.last_job ≤ p.drone_last
  pub quiet_request : p.first_open ≡ 0 → p.last_request ≤ p.station_last
  pub quiet_opened : p.first_count ≡ 0 → p.first_open ≡ 0
  pub quiet_asked : p.first_open ≡ 0 → p.asked ≡ 0
  pub quiet_last : p.asked ≡ 0 → p.final_sent ≡ 0
  pub counted_last : 0 < p.first_count → p.first_count ≤ p.last_count
  pub job_last : 0 < p.first_job → p.first_job ≤ p.last_job
  pub counted_phase : 0 < p.first_count → p.terminating ≡ 0 → p.phase ≡ 3
  pub phase_counted : p.phase ≡ 3 → 0 < p.first_count
  pub phase_job : 3 < p.phase → 0 < p.first_job
  pub phase_terminating : 2 < p.phase → p.terminating ≡ 0
  -- An open upload is the latest transaction's, and the drone's result says whether that one is installed.
  pub open_opened : 0 < p.has_open → 0 < p.first_open
  pub open_later : 0 < p.first_open → p.first_count ≤ p.drone_last
  pub open_stage : 0 < p.has_open → p.stage ≡ 1
  pub result_stage : 0 < p.first_open → 0 < p.result → p.result ≡ p.stage
  pub result_lost : 0 < p.first_open → p.result ≡ 0 → p.lost ≡ 1
  pub installed_opened : p.work ≡ 1 → p.stage ≡ 2 → 0 < p.first_open
  pub installed_count : p.work ≡ 1 → p.stage ≡ 2 → p.last_count < p.drone_last
  pub installed_last : p.work ≡ 1 → p.stage ≡ 2 → p.final_sent ≡ 1
  pub asked_later : p.asked ≡ 1 → p.first_open ≤ p.station_last
  -- A resynchronisation: no older frame of the station is deliverable once its Ping was answered.
  pub attempt_work : 0 < p.first_ping → 0 < p.phase
  pub attempt_phase : 0 < p.first_ping → p.phase < 3
  pub phase_attempt : 0 < p.phase → p.phase < 3 → 0 < p.first_ping
  pub attempt_count : 0 < p.first_ping → p.last_count < p.first_ping
  pub attempt_job : 0 < p.first_ping → p.last_job < p.first_ping
  pub attempt_number : 0 < p.first_ping → p.number ≤ p.next_ping
  pub attempt_cancel : p.phase ≡ 1 → p.last_cancel < p.first_ping
  pub replied_attempt : 0 < p.first_reply → 0 < p.first_ping
  pub replied_later : 0 < p.first_reply → p.first_ping ≤ p.drone_last
  pub phase_replied : p.phase ≡ 2 → 0 < p.first_reply
  pub phase_after : p.phase ≡ 2 → p.first_reply ≤ p.station_last
  pub replied_ack : 0 < p.first_reply → p.result ≡ 2 → p.first_reply < p.last_ack → p.last_cancel ≤ p.drone_last
  pub early_ack : p.phase ≡ 1 → 0 < p.first_reply → p.result ≡ 2 → p.last_ack ≤ p.first_reply
  pub sending_cancel : p.phase ≡ 3 → p.last_cancel < p.first_count
  -- Clears and downloads.
  pub clearing_cancel : 3 < p.phase → p.last_cancel < p.last_job
  pub clearing_late : 3 < p.phase → p.drone_last < p.last_cancel → p.result < 2
  pub synced_late : p.work ≡ 0 → p.synced ≡ 1 → p.drone_last < p.last_cancel → p.result < 2
  pub synced_ack : p.work ≡ 0 → p.synced ≡ 1 → p.last_verdict ≤ p.station_last
  pub clearing_ack : 3 < p.phase → p.station_last < p.last_verdict → p.last_job ≤ p.drone_last
  pub last_shown_sent : p.last_shown < p.drone_next
  pub now_shown_last : 0 < p.now_shown → p.now_shown ≡ p.last_shown
  pub attempt_listed : 0 < p.first_reply → p.last_shown ≤ p.first_reply
  pub synced_heard : p.work ≡ 0 → p.synced ≡ 1 → p.last_shown ≤ p.station_last
  pub phase_heard : 2 < p.phase → p.phase < 5 → p.last_shown ≤ p.station_last
  pub listing_heard : p.phase ≡ 5 → p.now_shown ≡ 0 → p.last_shown ≤ p.station_last
  pub listed_late : 4 < p.phase → 0 < p.now_shown → p.last_job ≤ p.drone_last
  pub listed_ack : 4 < p.phase → 0 < p.now_shown → p.last_verdict ≤ p.station_last
  pub getting_listed : p.phase ≡ 6 → 0 < p.now_shown
  pub getting_later : p.phase ≡ 6 → p.now_shown ≤ p.station_last
  pub replied_verdict : 0 < p.first_reply → p.first_reply < p.last_verdict → p.last_cancel ≤ p.drone_last
  pub replied_shut : 0 < p.first_reply → p.first_reply < p.last_verdict → p.has_open ≡ 0
  pub early_verdict : p.phase ≡ 1 → 0 < p.first_reply → p.last_verdict ≤ p.first_reply
  -- What the drone sent since the operation began.
  pub began_sent : p.began ≤ p.drone_next
  pub began_opened : 0 < p.first_open → p.began ≤ p.first_open
  pub began_replied : 0 < p.first_reply → p.began ≤ p.first_reply
  pub began_shown : 4 < p.phase → 0 < p.now_shown → p.began ≤ p.now_shown
  pub counted_sent : p.counted ≤ p.drone_next

-- what is true of a message that the station sent to the drone at t: `kind`, `total` and `plan` are the latest
-- upload transaction's, `jkind` is the kind of the clear or download that is open
abbrev pub SentByStation : Pair → ℕ → ℕ → ℕ → (ℕ → Option Item) → ℕ → Option PlanMsg → Type 0
SentByStation p jkind kind total plan t (Some (Ping to usec n)) = (t < p.station_next) × (n < p.next_ping) × (0 < p.first_ping → n ≡ p.number → p.first_ping ≤ t)
SentByStation p jkind kind total plan t (Some (Count to n k)) = (t < p.station_next) × (t ≤ p.last_count) × (p.drone_last < t → (0 < p.first_count) × (p.first_count ≤ t)) × (0 < p.first_count → p.first_count ≤ t → k ≡ kind) × (0 < p.first_count → p.first_count ≤ t → n ≡ total)
SentByStation p jkind kind total plan t (Some (Give to i k x)) =
    (t < p.station_next) × (0 < p.first_ping → t < p.first_ping)
    × (0 < p.first_count → p.first_count ≤ t → (p.asked ≡ 1) × (p.last_count < t) × (k ≡ kind) × (i < total) × (plan i ≡ Some x) × (i + 1 ≡ total → p.final_sent ≡ 1))
SentByStation p jkind kind total plan t (Some (Request to i k)) = (t < p.station_next) × (0 < p.first_count → t < p.first_count)
SentByStation p jkind kind total plan t (Some (Ack to c k)) = (t < p.station_next) × (c ≡ 15 → t ≤ p.last_cancel) × (c ≡ 15 → 0 < p.first_ping → p.first_ping ≤ t → t ≡ p.last_cancel)
SentByStation p jkind kind total plan t (Some (Clear to k)) = (t < p.station_next) × (t ≤ p.last_job) × (p.drone_last < t → (0 < p.first_job) × (p.first_job ≤ t)) × (0 < p.first_job → p.first_job ≤ t → k ≡ jkind) × (3 < p.phase → p.drone_last < t → t ≡ p.last_job) × (0 < p.first_job → p.first_job ≤ t → p.work ≡ 2)
SentByStation p jkind kind total plan t (Some (Listing to k)) = (t < p.station_next) × (t ≤ p.last_job) × (p.drone_last < t → (0 < p.first_job) × (p.first_job ≤ t)) × (0 < p.first_job → p.first_job ≤ t → k ≡ jkind) × (3 < p.phase → p.drone_last < t → t ≡ p.last_job) × (0 < p.first_job → p.first_job ≤ t → p.work ≡ 3)
SentByStation p jkind kind total plan t None = t < p.station_next

-- the codes that answer a cancel
abbrev pub AnswersCancel : ℕ → Type 0
AnswersCancel c = (c ≡ 0) ⊎ ((c ≡ 1) ⊎ (c ≡ 15))

-- the codes that answer a Count, an Item, a Clear or a List
abbrev pub IsVerdict : ℕ → Type 0
IsVerdict c = (c ≢ 1) × (c ≢ 13) × (c ≢ 15)

-- what is true of a message that the drone sent to the station at t
abbrev pub SentByDrone : Pair → ℕ → Option PlanMsg → Type 0
SentByDrone p t (Some (Ping to usec n)) = (t < p.drone_next) × (n < p.next_ping) × (0 < p.first_ping → n ≡ p.number → (0 < p.first_reply) × (p.first_reply ≤ t))
SentByDrone p t (Some (Count to n k)) = (t < p.drone_next) × (t ≤ p.last_shown) × (4 < p.phase → 0 < p.now_shown → p.station_last < t → t ≡ p.now_shown)
SentByDrone p t (Some (Give to i k x)) = t < p.drone_next
SentByDrone p t (Some (Request to i k)) = (t < p.drone_next) × (t ≤ p.last_request) × (p.station_last < t → (0 < p.first_open) × (p.first_open ≤ t))
SentByDrone p t (Some (Ack to c k)) =
    (t < p.drone_next)
    × (c ≢ 13 → t ≤ p.last_ack)
    × (0 < p.first_reply → p.first_reply < t → c ≡ 1 → 0 < p.first_open → p.lost ≡ 1)
    × (0 < p.first_open → p.first_open ≤ t → c ≡ 0 → (p.stage ≡ 2) × (p.last_request < t))
    × (p.phase ≡ 3 → 0 < p.first_open → p.first_open ≤ t → c ≡ 0 → t ≡ p.last_ack)
    × (0 < p.first_reply → p.first_reply < t → AnswersCancel c → (p.has_open ≡ 0) × (p.last_request < t))
    × (0 < p.first_reply → p.first_reply < t → c ≡ 15 → p.work ≡ 1 → p.stage < 2)
    × (0 < p.first_reply → p.first_reply < t → AnswersCancel c → p.result ≡ 2 → (t ≡ p.last_ack) × (p.last_cancel ≤ p.drone_last))
    × (3 < p.phase → p.station_last < t → IsVerdict c → t ≡ p.last_verdict)
    × (IsVerdict c → t ≤ p.last_verdict)
    × (0 < p.first_reply → p.first_reply < t → AnswersCancel c → p.first_reply < p.last_verdict → t ≡ p.last_verdict)
    × (2 < p.phase → p.station_last < t → IsVerdict c → p.began ≤ t)
    × (p.phase ≡ 3 → p.station_last < t → IsVerdict c → p.counted ≤ t)
SentByDrone p t (Some (Clear to k)) = t < p.drone_next
SentByDrone p t (Some (Listing to k)) = t < p.drone_next
SentByDrone p t None = t < p.drone_next

-- it admits a frame of the station
abbrev pub admits : Pair → ℕ → Pair
admits p t = record p { drone_last = t }

-- it answers with neither an Ack but 13 nor a Request nor a Count
abbrev pub speaks : Pair → Pair
speaks p = record p { drone_next = p.drone_next + 1 }

-- an Ack; z is the latest verdict after it
abbrev pub acks : Pair → ℕ → Pair
acks p z = record p { drone_next = p.drone_next + 1; last_ack = p.drone_next; last_verdict = z }

-- a Count of its plan
abbrev pub lists : Pair → Pair
lists p = record p { drone_next = p.drone_next + 1; last_shown = p.drone_next; now_shown = p.drone_next }

-- the first reply to this resynchronisation's Ping
abbrev pub replies : Pair → Pair
replies p = record p { drone_next = p.drone_next + 1; first_reply = p.drone_next }

-- a Request
abbrev pub asks : Pair → Pair
asks p = record p { drone_next = p.drone_next + 1; last_request = p.drone_next }

-- an upload is opened again
abbrev pub opens : Pair → Pair
opens p = record p { has_open = 1; result = 1; drone_next = p.drone_next + 1; last_request = p.drone_next }

-- it is opened for the first time
abbrev pub opens_first : Pair → Pair
opens_first p = record p { has_open = 1; result = 1; drone_next = p.drone_next + 1; last_request = p.drone_next; first_open = p.drone_next }

-- it is closed with an Ack
abbrev pub closes : Pair → ℕ → Pair
closes p z = record p { has_open = 0; result = 1; drone_next = p.drone_next + 1; last_ack = p.drone_next; last_verdict = z }

-- it is installed
abbrev pub installs : Pair → Pair
installs p = record p { has_open = 0; result = 2; drone_next = p.drone_next + 1; last_ack = p.drone_next; last_verdict = p.drone_next; stage = 2 }

-- the drone starts again
abbrev pub restarts : Pair → ℕ → ℕ → ℕ → Pair
restarts p w z lost = record p { has_open = 0; result = 0; drone_last = w; drone_next = z; lost = lost }

-- its next timestamp rises
abbrev pub later_drone : Pair → ℕ → Pair
later_drone p n = record p { drone_next = n }

-- the station admits a frame of the drone
abbrev pub hears : Pair → ℕ → Pair
hears p t = record p { station_last = t }

-- the cancel of a resynchronisation
abbrev pub cancels : Pair → Pair
cancels p = record p { phase = 2; station_next = p.station_next + 1; last_cancel = p.station_next }

-- a synchronised upload starts
abbrev pub starts_count : Pair → Pair
starts_count p = record p { phase = 3; synced = 1; number = p.next_ping; station_next = p.station_next + 1; first_count = p.station_next; last_count = p.station_next; counted = p.drone_next; first_ping = 0; first_reply = 0 }

-- a download starts
abbrev pub starts_listing : Pair → ℕ → Pair
starts_listing p e = record p { phase = 5; synced = 1; number = p.next_ping; station_next = p.station_next + 1; first_job = e; last_job = p.station_next; first_ping = 0; first_reply = 0; now_shown = 0 }

-- a clear starts
abbrev pub starts_clear : Pair → ℕ → Pair
starts_clear p e = record p { phase = 4; synced = 1; number = p.next_ping; station_next = p.station_next + 1; first_job = e; last_job = p.station_next; first_ping = 0; first_reply = 0 }

-- the operation ends
abbrev pub ends : Pair → ℕ → ℕ → Pair
ends p stage job = record p { work = 0; phase = 0; terminating = 0; asked = 0; final_sent = 0; number = 0; synced = 1; began = 0; first_count = 0; first_open = 0; first_ping = 0; first_reply = 0; first_job = 0; stage = stage; job = job }

-- an item is sent
abbrev pub sends_item : Pair → ℕ → Pair
sends_item p last = record p { asked = 1; final_sent = last; station_next = p.station_next + 1 }

-- a resynchronisation attempt
abbrev pub attempts : Pair → ℕ → Pair
attempts p terminating = record p { phase = 1; terminating = terminating; number = p.next_ping; next_ping = p.next_ping + 1; first_ping = p.station_next; first_reply = 0; station_next = p.station_next + 1 }

-- one with no PING number left
abbrev pub attempts_spent : Pair → ℕ → Pair
attempts_spent p terminating = record p { phase = 1; terminating = terminating; number = p.next_ping; first_ping = p.station_next; first_reply = 0 }

-- an upload begins with an attempt, or with its Count
abbrev pub begins_attempt : Pair → ℕ → Pair
begins_attempt p began = record p { work = 1; stage = 1; lost = 0; phase = 1; terminating = 0; asked = 0; final_sent = 0; began = began; number = p.next_ping; next_ping = p.next_ping + 1; first_ping = p.station_next; first_reply = 0; first_count = 0; first_open = 0; station_next = p.station_next + 1 }

abbrev pub begins_count : Pair → ℕ → Pair
begins_count p began = record p { work = 1; stage = 1; lost = 0; phase = 3; terminating = 0; asked = 0; final_sent = 0; began = began; number = p.next_ping; first_ping = 0; first_reply = 0; first_count = p.station_next; last_count = p.station_next; counted = p.drone_next; first_open = 0; station_next = p.station_next + 1 }

-- a clear begins
abbrev pub begins_clear_attempt : Pair → ℕ → Pair
begins_clear_attempt p began = record p { work = 2; job = 1; phase = 1; terminating = 0; asked = 0; final_sent = 0; began = began; number = p.next_ping; next_ping = p.next_ping + 1; first_ping = p.station_next; first_reply = 0; first_job = 0; station_next = p.station_next + 1 }

abbrev pub begins_clear : Pair → ℕ → Pair
begins_clear p began = record p { work = 2; job = 1; phase = 4; terminating = 0; asked = 0; final_sent = 0; began = began; number = p.next_ping; first_ping = 0; first_reply = 0; first_job = p.station_next; last_job = p.station_next; station_next = p.station_next + 1 }

-- a download begins
abbrev pub begins_get_attempt : Pair → ℕ → Pair
begins_get_attempt p began = record p { work = 3; job = 2; phase = 1; terminating = 0; asked = 0; final_sent = 0; began = began; number = p.next_ping; next_ping = p.next_ping + 1; first_ping = p.station_next; first_reply = 0; first_job = 0; station_next = p.station_next + 1 }

abbrev pub begins_get : Pair → ℕ → Pair
begins_get p began = record p { work = 3; job = 2; phase = 5; terminating = 0; asked = 0; final_sent = 0; began = began; number = p.next_ping; first_ping = 0; first_reply = 0; first_job = p.station_next; last_job = p.station_next; now_shown = 0; station_next = p.station_next + 1 }

-- the first item is asked for
abbrev pub gets : Pair → Pair
gets p = record p { phase = 6; station_next = p.station_next + 1 }

-- a cancel of the station's own during a resynchronisation
abbrev pub marks_terminating : Pair → Pair
marks_terminating p = record p { terminating = 1 }

-- the station sends what changes nothing
abbrev pub pings : Pair → Pair
pings p = record p { station_next = p.station_next + 1 }

-- its next timestamp rises
abbrev pub later_station : Pair → ℕ → Pair
later_station p z = record p { station_next = z }

-- it does something at another drone
abbrev pub elsewhere : Pair → ℕ → ℕ → ℕ → ℕ → ℕ → Pair
elsewhere p n t stage synced lost = record p { next_ping = n; station_next = t; stage = stage; synced = synced; lost = lost }

-- the Count again
abbrev pub counts : Pair → Pair
counts p = record p { station_next = p.station_next + 1; last_count = p.station_next }

-- messages, where it doesn't matter for whom
abbrev pub a_ping : ℕ → Option PlanMsg
a_ping n = Some (Ping everyone 0 n)

abbrev pub a_count : ℕ → ℕ → Option PlanMsg
a_count n k = Some (Count everyone n k)

abbrev pub a_request : ℕ → ℕ → Option PlanMsg
a_request i k = Some (Request everyone i k)

abbrev pub an_item : ℕ → ℕ → Item → Option PlanMsg
an_item i k x = Some (Give everyone i k x)

abbrev pub an_ack : ℕ → ℕ → Option PlanMsg
an_ack c k = Some (Ack everyone c k)

abbrev pub a_list : ℕ → Option PlanMsg
a_list k = Some (Listing everyone k)

abbrev pub a_clear : ℕ → Option PlanMsg
a_clear k = Some (Clear everyone k)
