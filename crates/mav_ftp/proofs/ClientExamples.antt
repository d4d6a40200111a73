-- One client from its start: a removal, an empty list, a store that is given up, and a fetch of no file, computed.
use Rattle.std.proofs.Common.{lit<, lit≤, ◌≡◌, ℕ, List, [], ◌∷◌, ◌++◌, length, take, replicate, ap, refl, if◌then◌else◌, Some, None, nat_le}
use Rattle.mav_ftp.specs.declared.client.faults.FtpFault.TheVariants.{Busy, BadName, TooLarge}
use Rattle.mav_ftp.specs.declared.client.ends.FtpStep.TheVariants.{Done, Refused}
use Rattle.mav_ftp.specs.declared.client.ends.FtpTick.{FtpTick}
use Rattle.mav_ftp.specs.declared.client.ends.FtpTick.TheVariants.{Again, NoAnswer}
use Rattle.mav_names.specs.declared.names.Stream.{Stream}
use Rattle.mav_ftp.specs.Server.{no_files}
use Rattle.mav_ftp.specs.ClientLaws.{FtpLink, Delivery, Both_arrive, Reply_lost, Request_lost, carried_out, IsEnough, CanStore}
use Rattle.mav_ftp.specs.Client.{TransferState, no_transfer, list_order, fetch_order, store_order, remove_order, order_fault, ordered, request_of, transfer_step, step_answer, transfer_tick, tick_answer}

-- the first bytes of a payload with zeros after them
abbrev padded : List ℕ → List ℕ
padded front = take 251 (front ++ replicate 251 0)

-- of a name of one byte
abbrev asks : ℕ → ℕ → List ℕ
asks seq opcode = padded (seq ∷ 0 ∷ 0 ∷ opcode ∷ 1 ∷ 0 ∷ 0 ∷ 0 ∷ 0 ∷ 0 ∷ 0 ∷ 0 ∷ 97 ∷ [])

abbrev acks : ℕ → ℕ → List ℕ
acks seq opcode = padded (seq ∷ 0 ∷ 0 ∷ 128 ∷ 0 ∷ opcode ∷ [])

abbrev naks : ℕ → ℕ → ℕ → List ℕ
naks seq opcode error = padded (seq ∷ 0 ∷ 0 ∷ 129 ∷ 1 ∷ opcode ∷ 0 ∷ 0 ∷ 0 ∷ 0 ∷ 0 ∷ 0 ∷ error ∷ [])

abbrev name : List ℕ
name = 97 ∷ []

abbrev removing : TransferState
removing = ordered no_transfer (remove_order name)

abbrev removed : TransferState
removed = transfer_step removing (acks 1 8)

abbrev listing : TransferState
listing = ordered removed list_order

abbrev listed : TransferState
listed = transfer_step listing (naks 3 3 6)

abbrev storing : TransferState
storing = ordered listed (store_order name (1 ∷ 2 ∷ 3 ∷ []))

-- what each of some ticks says
abbrev ticked : List ℕ → TransferState → List FtpTick
ticked [] s = []
ticked (t ∷ ts) s = tick_answer s ∷ ticked ts (transfer_tick s)

abbrev after_ticks : List ℕ → TransferState → TransferState
after_ticks [] s = s
after_ticks (t ∷ ts) s = after_ticks ts (transfer_tick s)

abbrev five : List ℕ
five = replicate 5 0

abbrev fetching : TransferState
fetching = ordered (after_ticks five storing) (fetch_order name)

pub no_name : order_fault no_transfer (fetch_order []) ≡ Some BadName
no_name = refl

pub asks_to_remove : request_of removing ≡ asks 0 8
asks_to_remove = refl

pub is_busy : order_fault removing list_order ≡ Some Busy
is_busy = refl

pub is_removed : step_answer removing (acks 1 8) ≡ Done []
is_removed = refl

pub asks_for_list : request_of listing ≡ padded (2 ∷ 0 ∷ 0 ∷ 3 ∷ [])
asks_for_list = refl

pub is_listed : step_answer listing (naks 3 3 6) ≡ Done []
is_listed = refl

pub too_large : (bytes : List ℕ) → length bytes ≡ 1048577 → order_fault listed (store_order name bytes) ≡ Some (TooLarge 1048577)
too_large bytes e = ap (λ n. if nat_le n 1048576 then None else Some (TooLarge n)) e

pub asks_to_store : request_of storing ≡ asks 4 6
asks_to_store = refl

pub is_given_up : ticked five storing ≡ Again (asks 4 6) ∷ Again (asks 4 6) ∷ Again (asks 4 6) ∷ Again (asks 4 6) ∷ NoAnswer 5 ∷ []
is_given_up = refl

pub asks_to_fetch : request_of fetching ≡ asks 4 4
asks_to_fetch = refl

pub is_refused : step_answer fetching (naks 5 4 10) ≡ Refused 10
is_refused = refl

-- ---- a put and a get over a new server, of which some requests and replies are lost

abbrev station : Stream
station = record { sys = 255; comp = 190; link = 0 }

abbrev three : List ℕ
three = 1 ∷ 2 ∷ 3 ∷ []

abbrev lossy : List Delivery
lossy = Request_lost ∷ Both_arrive ∷ Reply_lost ∷ Request_lost ∷ Both_arrive ∷ Both_arrive ∷ Reply_lost ∷ Both_arrive ∷ Both_arrive ∷ Both_arrive ∷ []

abbrev put : FtpLink
put = carried_out station lossy (store_order name three) no_transfer no_files

abbrev got : FtpLink
got = carried_out station lossy (fetch_order name) put.client put.server

pub can_store : CanStore station name three no_transfer no_files
can_store = record { opens = record { accepted = refl; session = refl; stream = refl; fresh = refl }; absent = refl; room = lit< tt }

pub is_enough : IsEnough three lossy
is_enough = record { few = (lit< tt, (lit< tt, (lit< tt, (lit< tt, tt)))); arrive = lit≤ tt }

pub is_put : put.answer ≡ Done []
is_put = refl

pub is_got : got.answer ≡ Done three
is_got = refl
