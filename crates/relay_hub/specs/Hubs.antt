-- What the ports of a relay did: the links that were ever opened, with the bytes that each gave and took.
use Rattle.std.specs.Prelude.{ℕ, ◌+◌, ◌-◌, ◌<◌, Bool, true, false, List, [], ◌∷◌, ◌++◌, length, take, drop, get_or}
use Rattle.std.specs.Prelude.{slice_set, None, Some}
use Rattle.std.specs.List.{remove}
use Rattle.std.specs.Option.{option_map, unwrap_or}
use Rattle.std.specs.declared.option.Option.{Option}
use Rattle.relay_hub.specs.declared.news.HubNews.{HubNews}
use Rattle.relay_hub.specs.declared.news.HubNews.TheVariants.{Opened, Refused, Closed, Waits}
use Rattle.relay_hub.specs.declared.news.Stranger.{Stranger}

-- a link that was opened: its port, the bytes that it gave, and those that it took
pub record Tape : Type 0 where
  pub port : ℕ
  pub given : List ℕ
  pub taken : List ℕ

-- a datagram of somebody without a link, and the port at which it came
pub record Datagram : Type 0 where
  pub port : ℕ
  pub bytes : List ℕ

pub record HubState : Type 0 where
  -- all links that were ever opened, by their numbers from 1: number n is at index n - 1
  pub tapes : List Tape
  -- the numbers of those that are open, in the order of their opening
  pub links : List ℕ
  -- the datagram that may be adopted
  pub stranger : Option Datagram

-- before the first call
abbrev pub nothing_happened : HubState
nothing_happened = record { tapes = []; links = []; stranger = None }

-- a link that has just opened
abbrev pub blank : ℕ → Tape
blank port = record { port = port; given = []; taken = [] }

-- where the tape of the open link with that index stands
abbrev pub place_of : ℕ → HubState → ℕ
place_of index s = get_or s.links index 0 - 1

abbrev pub tape_of : ℕ → HubState → Tape
tape_of index s = get_or s.tapes (place_of index s) (blank 0)

-- each link that is open was opened
abbrev pub AreOpened : HubState → Type 0
AreOpened s = (i : ℕ) → i < length s.links → place_of i s < length s.tapes

-- a link opens, the last one, with the next number
abbrev pub opens : Tape → HubState → HubState
opens tape s = record s { tapes = s.tapes ++ tape ∷ []; links = s.links ++ (length s.tapes + 1) ∷ [] }

-- the open link with that index closes
abbrev pub closes : ℕ → HubState → HubState
closes index s = record s { links = remove s.links index }

-- what happened, if something did
abbrev pub happens : Option HubNews → HubState → HubState
happens None s = s
happens (Some (Opened port)) s = opens (blank port) s
happens (Some (Refused port)) s = s
happens (Some (Closed index why)) s = closes index s
happens (Some (Waits port)) s = s

-- the open link with that index gives these bytes
abbrev pub gives : ℕ → List ℕ → HubState → HubState
gives index bytes s =
    let tape = tape_of index s in
    record s { tapes = slice_set s.tapes (place_of index s) (record tape { given = tape.given ++ bytes }) }

-- it takes these
abbrev pub takes : ℕ → List ℕ → HubState → HubState
takes index bytes s =
    let tape = tape_of index s in
    record s { tapes = slice_set s.tapes (place_of index s) (record tape { taken = tape.taken ++ bytes }) }

-- a stranger's datagram came, whose bytes are at the start of these, or none did
abbrev pub asks : Option Stranger → List ℕ → HubState → HubState
asks came buf s =
    record s { stranger = option_map (λ (c : Stranger). record { port = c.port; bytes = take c.count buf }) came }

abbrev pub no_datagram : Datagram
no_datagram = record { port = 0; bytes = [] }

-- the stranger becomes a link, which has given its datagram's bytes from that offset on; or it doesn't. Either way its
-- datagram is forgotten
abbrev pub adopts : Bool → ℕ → HubState → HubState
adopts true from s =
    let datagram = unwrap_or s.stranger no_datagram in
    let tape = record (blank datagram.port) { given = drop from datagram.bytes } in
    record (opens tape s) { stranger = None }
adopts false from s = record s { stranger = None }
