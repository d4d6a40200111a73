-- A link over memory: a source and a sink over memory, and where its Idle answers came.
use Rattle.std.specs.Prelude.{ℕ, ◌+◌, nat_lt, List, [], length, filter, Some, None}
use Rattle.std.specs.declared.option.Option.{Option}
use Rattle.mav_ports.specs.MemReads.{MemReads, reads_from_start}
use Rattle.mav_ports.specs.MemWrites.{MemWrites, writes_from_start}
use Rattle.mav_links.specs.Links.{LinkState, Pauses}

pub record MemLinkState : Type 0 where
  pub reads : MemReads
  pub writes : MemWrites
  pub pauses : Pauses

-- before the first call; reads and writes are numbered apart
abbrev pub link_from_start : List ℕ → ℕ → List ℕ → List ℕ → ℕ → List ℕ → MemLinkState
link_from_start bytes chunk read_fails idles room write_fails = record {
  reads = reads_from_start bytes chunk read_fails idles;
  writes = writes_from_start room chunk write_fails;
  pauses = record { given = 0; before = [] };
}

abbrev pub link_state : MemLinkState → LinkState
link_state l = record {
  left = Some l.reads.left;
  sent = Some l.writes.sent;
  faults = l.reads.faults + l.writes.faults;
  idles = l.reads.idled;
  pauses = Some l.pauses;
  ended = l.reads.ended;
}

-- how many of the listed calls were made
abbrev pub listed_before : List ℕ → Option ℕ → ℕ
listed_before numbers None = length numbers
listed_before numbers (Some call) = length (filter (λ number. nat_lt number call) numbers)
