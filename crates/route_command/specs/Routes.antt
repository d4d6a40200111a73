-- What a run of `route` has done at its ports, why it ends, and what it writes.
use Rattle.std.specs.Prelude.{ℕ, ◌≡◌, ◌⊎◌, Bool, true, false, if◌then◌else◌, List, [], ◌++◌, length, Option, Some}
use Rattle.std.specs.Prelude.{None}
use Rattle.std.specs.List.{list_any}
use Rattle.std.specs.Io.KnownBytes.{append_known}
use Rattle.mav_ports.specs.Counts.{Rose}
use Rattle.mav_ports.specs.Puts.{SentPrefix}
use Rattle.mav_links.specs.Links.{LinkState}
use Rattle.mav_router.specs.declared.entries.Entry.{Entry}
use Rattle.mav_router.specs.declared.entries.SwitchFault.{SwitchFault}
use Rattle.mav_router.specs.declared.entries.SwitchFault.TheVariants.{Full, NoMemory as NoRoom}
use Rattle.mav_router.specs.declared.ends.PortEnd.{PortEnd}
use Rattle.mav_router.specs.declared.ends.How.{How}
use Rattle.mav_router.specs.declared.ends.How.TheVariants.{Ended, Failed, Turns}
use Rattle.mav_router.specs.Journal.{Rules}
use Rattle.mav_router.specs.Routed.{HasRouted, HasStopped}
use Rattle.run_status.specs.declared.input_errors.Bound.TheVariants.{Entries}
use Rattle.run_status.specs.declared.input_errors.InputError.TheVariants.{AtLimit}
use Rattle.run_status.specs.declared.live_ends.LiveEnd.TheVariants.{PortTurns}
use Rattle.run_status.specs.declared.run_ends.RunEnd.{RunEnd}
use Rattle.run_status.specs.declared.run_ends.RunEnd.TheVariants.{Stopped, WriteFault, NoMemory, Live}
use Rattle.run_status.specs.Endings.{text_of}
use Rattle.route_command.specs.Texts.{route_text}

-- the ports before and after a run on one thread or with one for each, of which at most so many reads each may give
-- bytes or return Idle
pub record Ports : Type 1 where
  pub Port : Type 0
  pub state : Port → LinkState
  pub rules : Rules
  pub one : Bool
  pub most : ℕ
  pub before : List Port
  pub after : List Port

abbrev pub ports_of : {A : Type 0} → (A → LinkState) → Rules → (one : Bool) → ℕ → List A → List A → Ports
ports_of {A} state rules one most before after = record {
  Port = A;
  state = state;
  rules = rules;
  one = one;
  most = most;
  before = before;
  after = after;
}

-- the run came to its end at each port, with this journal
pub record Routed (p : Ports) (journal : List Entry) (ends : List PortEnd) : Type 0 where
  pub links : length p.after ≡ length p.before
  pub run : HasRouted p.state p.rules p.most p.before p.after journal ends

-- it stopped before that: the journal was full, or memory was out
pub record Halted (p : Ports) (why : SwitchFault) (journal : List Entry) : Type 0 where
  pub links : length p.after ≡ length p.before
  pub run : HasStopped p.one p.state p.rules p.most p.before p.after why journal

-- a port hadn't ended after as many reads as it may have
abbrev pub is_turns : How → Bool
is_turns Ended = false
is_turns Failed = false
is_turns (Turns turns) = true

abbrev pub has_turns : List PortEnd → Bool
has_turns ends = list_any (λ (end : PortEnd). is_turns end.how) ends

-- why a run ends after its report, and why one ends that stopped
abbrev pub end_of_ports : ℕ → List PortEnd → Option RunEnd
end_of_ports most ends = if has_turns ends then Some (Live (PortTurns most)) else None

abbrev pub end_of_fault : SwitchFault → RunEnd
end_of_fault (Full entries) = Stopped (AtLimit Entries)
end_of_fault NoRoom = NoMemory

-- the run ends so and all of its text was written; or a write of it failed, or memory ran out, and a prefix was
abbrev pub WroteAll : (wanted end : Option RunEnd) → List ℕ → ℕ → ℕ → Option (List ℕ) → Option (List ℕ) → Type 0
WroteAll wanted end text refusals_before refusals_after sent_before sent_after =
    ((end ≡ wanted) × (refusals_after ≡ refusals_before) × (sent_after ≡ append_known sent_before text))
    ⊎ (((end ≡ Some WriteFault) × Rose refusals_before refusals_after × SentPrefix sent_before sent_after text)
    ⊎ ((end ≡ Some NoMemory) × (refusals_after ≡ refusals_before) × SentPrefix sent_before sent_after text))

-- the text of a status, and none before it is written
abbrev pub status_text : Option RunEnd → List ℕ
status_text None = []
status_text (Some end) = text_of end

abbrev pub untold : Option RunEnd → List ℕ
untold end = []

-- a run that came to its end at the ports and wrote its report, with what is told of its end
pub record Reports (p : Ports) (told : Option RunEnd → List ℕ) (end : Option RunEnd)
    (refusals_before refusals_after : ℕ) (sent_before sent_after : Option (List ℕ)) : Type 0 where
  pub journal : List Entry
  pub ends : List PortEnd
  pub routed : Routed p journal ends
  pub wrote : WroteAll (end_of_ports p.most ends) end
      (route_text journal ends ++ told (end_of_ports p.most ends)) refusals_before refusals_after sent_before
      sent_after

-- one that stopped before that, which writes no report
pub record Stops (p : Ports) (told : Option RunEnd → List ℕ) (end : Option RunEnd) (refusals_before refusals_after : ℕ)
    (sent_before sent_after : Option (List ℕ)) : Type 0 where
  pub journal : List Entry
  pub why : SwitchFault
  pub halted : Halted p why journal
  pub wrote : WroteAll (Some (end_of_fault why)) end
      (told (Some (end_of_fault why))) refusals_before refusals_after sent_before sent_after

abbrev pub Routes : Ports → (Option RunEnd → List ℕ) → Option RunEnd → ℕ → ℕ → Option (List ℕ) → Option (List ℕ)
    → Type 0
Routes p told end refusals_before refusals_after sent_before sent_after =
    Reports p told end refusals_before refusals_after sent_before sent_after
    ⊎ Stops p told end refusals_before refusals_after sent_before sent_after

-- the run before the text of its status is written
abbrev pub RoutesBeforeStatus : Ports → Option RunEnd → ℕ → ℕ → Option (List ℕ) → Option (List ℕ) → Type 0
RoutesBeforeStatus p end refusals_before refusals_after sent_before sent_after =
    Routes p untold end refusals_before refusals_after sent_before sent_after
