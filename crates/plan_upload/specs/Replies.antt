-- Replies to a PING.
use Rattle.std.specs.Prelude.{ℕ, ◌==◌, ◌&&◌, Bool, false, Option}
use Rattle.plan_items.specs.declared.messages.PlanMsg.{PlanMsg}
use Rattle.plan_items.specs.declared.messages.PlanMsg.TheVariants.{Count, Request, Item as Give, Ack, List as Listing}
use Rattle.plan_items.specs.declared.messages.PlanMsg.TheVariants.{Clear, Ping}
use Rattle.plan_upload.specs.Station.{is_number}

-- the reply to a PING of this boot time and number
abbrev pub is_ping_reply : ℕ → Option ℕ → PlanMsg → Bool
is_ping_reply boot number (Ping to usec seq) = (usec == boot) && is_number number seq
is_ping_reply boot number (Count to count kind) = false
is_ping_reply boot number (Request to seq kind) = false
is_ping_reply boot number (Give to seq kind item) = false
is_ping_reply boot number (Ack to code kind) = false
is_ping_reply boot number (Listing to kind) = false
is_ping_reply boot number (Clear to kind) = false
