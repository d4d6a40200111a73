-- Which plan messages a drone accepts.
use Rattle.std.specs.Prelude.{ℕ, Bool, is_some, IsTrue, List, Option, Some, None}
use Rattle.plan_items.specs.declared.messages.PlanMsg.{PlanMsg}
use Rattle.plan_items.specs.declared.messages.PlanMsg.TheVariants.{Count, Request, Item as Give, Ack, List as Listing}
use Rattle.plan_items.specs.declared.messages.PlanMsg.TheVariants.{Clear, Ping}
use Rattle.plan_upload.specs.Addresses.{same_name, everyone, is_for_drone}
use Rattle.plan_upload.specs.Drone.{Upload, UploadResult, result_of}

-- a ping is for everyone, and all others are for the drone
abbrev pub is_heard : ℕ → PlanMsg → Bool
is_heard sys (Ping to usec seq) = same_name to everyone
is_heard sys (Count to count kind) = is_for_drone sys to
is_heard sys (Request to seq kind) = is_for_drone sys to
is_heard sys (Give to seq kind item) = is_for_drone sys to
is_heard sys (Ack to code kind) = is_for_drone sys to
is_heard sys (Listing to kind) = is_for_drone sys to
is_heard sys (Clear to kind) = is_for_drone sys to

-- the stream of an open upload has a result
abbrev pub HasResult : Option Upload → List UploadResult → Type 0
HasResult None results = Unit {0}
HasResult (Some u) results = IsTrue (is_some (result_of results u.stream))
