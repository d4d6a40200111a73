-- What a switch makes of a frame, beside its entry.
use Rattle.std.specs.Prelude.{ℕ, ◌≡◌, ◌&&◌, Bool, if◌then◌else◌, List, [], ◌++◌}
use Rattle.mav_names.specs.declared.names.Name.{Name}
use Rattle.mav_frame.specs.Packet.{Packet}
use Rattle.mav_sign.specs.declared.admission.Admit.{Admit}
use Rattle.mav_sign.specs.declared.admission.Admit.TheVariants.{Admitted}
use Rattle.mav_sign.specs.History.{Entry as Tried, is_admitted}
use Rattle.mav_sign.specs.Kept.{Kept, KeptByBlock, Represents, kept_answer_to}
use Rattle.mav_sign.specs.Streams.{listed}
use Rattle.link_table.specs.Routing.{Learned, ways_of, has_port}
use Rattle.link_table.specs.Table.{Masks, Represents as StandsFor}
use Rattle.mav_router.specs.declared.entries.Entry.{Entry}
use Rattle.mav_router.specs.declared.entries.Outcome.{Outcome}
use Rattle.mav_router.specs.Journal.{Rules, IsJournal, verdict_on, tried_as, tried_in, is_unsigned, ways_by}
use Rattle.mav_router.specs.Journal.{learned_at, learned_in}
use Rattle.mav_router.specs.Found.{Keeps}

-- the entry of a frame with this outcome
abbrev pub entry_by : Packet → Outcome → Entry
entry_by packet outcome = record { port = outcome.port; frame = packet; admit = outcome.admit; ways = outcome.ways }

-- the verdict is that after any history that the verifier represents, and so are the ports after any nodes that the
-- table does; afterwards both represent one try more
pub record Judges (rules : Rules) (port : ℕ) (packet : Packet) (target : Name) (stamps later : Kept)
    (table taught : Masks) (outcome : Outcome) : Type 0 where
  pub port_is : outcome.port ≡ port
  pub verdict : (history : List Tried) → Represents stamps history
      → outcome.admit ≡ verdict_on rules.key (has_port rules.plain port) history packet
  pub history : (history : List Tried) → Represents stamps history
      → Represents later (history ++ listed (tried_as packet outcome.admit))
  pub ports : taught.ports ≡ table.ports
  pub ways : (learned : List Learned) → StandsFor table learned
      → outcome.ways ≡ ways_by (is_admitted outcome.admit) (is_unsigned packet) rules.plain
      (ways_of table.ports learned port target)
  pub learned : (learned : List Learned) → StandsFor table learned
      → StandsFor taught (learned ++ listed (learned_at (is_admitted outcome.admit) port packet.from))

-- the verdict on a frame at a port that is open or not, by what the verifier keeps
abbrev pub verdict_by : List ℕ → Bool → Kept → Packet → Admit
verdict_by key is_open kept packet = if is_open && is_unsigned packet then Admitted else kept_answer_to key kept packet

-- and what it keeps after it
pub record IsVerdictBy (key : List ℕ) (is_open : Bool) (old new : Kept) (packet : Packet)
    (answer : Admit) : Type 0 where
  pub verdict : answer ≡ verdict_by key is_open old packet
  pub kept : KeptByBlock packet.block packet answer old new

-- a verifier and a table stand for a journal, which is one by the rules
pub record IsAfter (rules : Rules) (stamps : Kept) (table : Masks) (journal : List Entry) : Type 0 where
  pub kept : Represents stamps (tried_in journal)
  pub stands : StandsFor table (learned_in journal)
  pub legal : IsJournal rules [] journal

-- entries of a port with these frames: they go on any journal that the verifier and the table stand for
pub record AdmitsThese (rules : Rules) (port : ℕ) (frames : List Packet) (stamps later : Kept) (table taught : Masks)
    (entries : List Entry) : Type 0 where
  pub keeps : Keeps port [] entries frames
  pub ports : taught.ports ≡ table.ports
  pub after : (journal : List Entry) → table.ports ≡ rules.ports → IsAfter rules stamps table journal
      → IsAfter rules later taught (journal ++ entries)
