-- A hub over memory: what is to happen at it, what its next call returns, and what it holds then.
use Rattle.std.specs.Prelude.{ℕ, ◌+◌, ◌-◌, ◌==◌, ◌||◌, not, nat_lt, nat_le, ◌&&◌, min, count_by, Bool, true, false}
use Rattle.std.specs.Prelude.{if◌then◌else◌, List, [], ◌∷◌, ◌++◌, length, take, drop, get_or, slice_get, slice_set}
use Rattle.std.specs.Prelude.{None, Some}
use Rattle.std.specs.Option.{option_map_or}
use Rattle.std.specs.declared.option.Option.{Option}
use Rattle.relay_hub.specs.declared.happenings.Happening.{Happening}
use Rattle.relay_hub.specs.declared.happenings.Happening.TheVariants.{Opens, Closes, Fails, Gives, Asks}
use Rattle.relay_hub.specs.declared.news.HubNews.{HubNews}
use Rattle.relay_hub.specs.declared.news.HubNews.TheVariants.{Opened, Refused, Closed, Waits}
use Rattle.relay_hub.specs.declared.news.Stranger.{Stranger}
use Rattle.relay_hub.specs.Hubs.{HubState, adopts, asks, blank, gives, happens, nothing_happened, takes, tape_of}
use Rattle.relay_hub.specs.Seats.{has_room, port_of, ports_of}

pub record MemHubState : Type 0 where
  pub hub : HubState
  -- what is to happen, in this order, and how much of it did
  pub script : List Happening
  pub step : ℕ
  -- the bytes that links and strangers give, and how many of them were given
  pub bytes : List ℕ
  pub at : ℕ
  -- how many bytes each write takes at most, in this order, and how many of these writes there were
  pub most : List ℕ
  pub writes : ℕ

-- before the first call
abbrev pub hub_from_start : List Happening → List ℕ → List ℕ → MemHubState
hub_from_start script bytes most =
    record { hub = nothing_happened; script = script; step = 0; bytes = bytes; at = 0; most = most; writes = 0 }

-- how many open links a port has
abbrev pub links_at : ℕ → HubState → ℕ
links_at port hub = count_by (λ number. port_of hub.tapes number == port) hub.links

-- what is to happen next
abbrev pub front : MemHubState → Option Happening
front s = slice_get s.script s.step

-- a link gives or takes at most so many bytes
abbrev pub most_bytes : ℕ
most_bytes = 65536

abbrev pub is_port : ℕ → Bool
is_port port = nat_le 1 port && nat_le port 8

-- a link that opens does where there is room, and is refused where there is none
abbrev pub opening_at : ℕ → List ℕ → HubNews
opening_at port ports = if has_room port ports then Opened port else Refused port

-- the news of what is to happen, if it is news and can happen
abbrev pub news_at : Happening → List ℕ → Option HubNews
news_at (Opens port) ports = if is_port port then Some (opening_at port ports) else None
news_at (Closes index why) ports = if nat_lt index (length ports) then Some (Closed index why) else None
news_at (Fails port) ports = if is_port port then Some (Waits port) else None
news_at (Gives index count) ports = None
news_at (Asks port count) ports = None

-- it is over with the next call of `next`: what is left are bytes of an open link, and a datagram at a port
abbrev pub is_over : Happening → List ℕ → Bool
is_over (Opens port) ports = true
is_over (Closes index why) ports = true
is_over (Fails port) ports = true
is_over (Gives index count) ports = count == 0 || not (nat_lt index (length ports))
is_over (Asks port count) ports = not (is_port port)

abbrev pub next_news : MemHubState → Option HubNews
next_news s = option_map_or (λ h. news_at h (ports_of s.hub)) (front s) None

abbrev pub after_next : MemHubState → MemHubState
after_next s = record s {
  hub = happens (next_news s) s.hub;
  step = if option_map_or (λ h. is_over h (ports_of s.hub)) (front s) false then s.step + 1 else s.step;
}

-- how many bytes the open link with that index still gives before anything else happens
abbrev pub piece_at : ℕ → Option Happening → Option ℕ
piece_at index (Some (Gives link count)) = if link == index then Some count else None
piece_at index _ = None

-- the least of these, of the buffer, of the bytes that are left, and of what the link may still give
abbrev pub read_count : ℕ → ℕ → MemHubState → ℕ
read_count index room s =
    min (option_map_or (λ n. n) (piece_at index (front s)) 0)
    (min room (min (length s.bytes - s.at) (most_bytes - length (tape_of index s.hub).given)))

-- the link with the tape at that place gives so many of the next bytes
abbrev pub given_at : ℕ → ℕ → MemHubState → MemHubState
given_at place count s =
    let tape = get_or s.hub.tapes place (blank 0) in
    let longer = record tape { given = tape.given ++ take count (drop s.at s.bytes) } in
    record s { hub = record s.hub { tapes = slice_set s.hub.tapes place longer }; at = s.at + count }

abbrev pub after_read : ℕ → ℕ → MemHubState → MemHubState
after_read index count s = record s {
  hub = gives index (take count (drop s.at s.bytes)) s.hub;
  script = option_map_or (λ n. slice_set s.script s.step (Gives index (n - count)))
      (piece_at index (front s)) s.script;
  at = s.at + count;
}

-- the least of the bytes, of what this write takes at most, if anything is said of it, and of what the link may take
abbrev pub write_count : ℕ → ℕ → MemHubState → ℕ
write_count index offered s =
    min offered (min (get_or s.most s.writes offered) (most_bytes - length (tape_of index s.hub).taken))

abbrev pub after_write : ℕ → List ℕ → MemHubState → MemHubState
after_write index bytes s = record s {
  hub = takes index bytes s.hub;
  writes = if nat_lt s.writes (length s.most) then s.writes + 1 else s.writes;
}

-- the datagram that is next, as much of it as the buffer has room for
abbrev pub stranger_at : (room left : ℕ) → Option Happening → Option Stranger
stranger_at room left (Some (Asks port count)) =
    if is_port port then Some (record { port = port; count = min count (min room (min left most_bytes)) }) else None
stranger_at room left _ = None

abbrev pub next_stranger : ℕ → MemHubState → Option Stranger
next_stranger room s = stranger_at room (length s.bytes - s.at) (front s)

abbrev pub after_stranger : Option Stranger → MemHubState → MemHubState
after_stranger came s = record s {
  hub = asks came (drop s.at s.bytes) s.hub;
  step = option_map_or (λ (c : Stranger). s.step + 1) came s.step;
  at = option_map_or (λ (c : Stranger). s.at + c.count) came s.at;
}
