-- What the end of a run says of its port and its output.
use Rattle.std.specs.Prelude.{ℕ, ◌≡◌, ◌⊎◌, List, Option, Some}
use Rattle.std.specs.Io.KnownBytes.{append_known}
use Rattle.mav_ports.specs.Counts.{Rose}
use Rattle.mav_ports.specs.Puts.{SentPrefix}
use Rattle.mav_links.specs.Links.{LinkState}
use Rattle.mav_nodes.specs.declared.faults.NodeFault.{NodeFault}
use Rattle.mav_nodes.specs.declared.faults.NodeFault.TheVariants.{StampsSpent as NoStamp, Store}
use Rattle.mav_nodes.specs.declared.faults.NodeFault.TheVariants.{NoMemory as NoNodeMemory}
use Rattle.run_status.specs.declared.live_ends.LiveEnd.TheVariants.{PortFault, StoreFault}
use Rattle.run_status.specs.declared.input_errors.InputError.TheVariants.{StampsSpent}
use Rattle.run_status.specs.declared.run_ends.RunEnd.{RunEnd}
use Rattle.run_status.specs.declared.run_ends.RunEnd.TheVariants.{Stopped, WriteFault, NoMemory, Live}

-- a port's frames: all of them, or a prefix if the port or the output failed, or memory ran out
abbrev pub SentBy : Option RunEnd → Option (List ℕ) → Option (List ℕ) → List ℕ → Type 0
SentBy (Some WriteFault) before after frames = SentPrefix before after frames
SentBy (Some NoMemory) before after frames = SentPrefix before after frames
SentBy (Some (Live PortFault)) before after frames = SentPrefix before after frames
SentBy other before after frames = after ≡ append_known before frames

-- the port got all frames, or failed
abbrev pub SentOrFailed : (before after : LinkState) → List ℕ → Type 0
SentOrFailed before after frames =
    (after.sent ≡ append_known before.sent frames) ⊎ Rose before.faults after.faults

-- an output that failed, and lines for which there is no memory, take no frame from the port
abbrev pub SentDespite : Option RunEnd → (before after : LinkState) → List ℕ → Type 0
SentDespite (Some WriteFault) before after frames = SentOrFailed before after frames
SentDespite (Some NoMemory) before after frames = SentOrFailed before after frames
SentDespite other before after frames = Unit {0}

-- the output's lines: all of them, or a prefix if the output failed, or memory ran out
abbrev pub PrintedBy : Option RunEnd → Option (List ℕ) → Option (List ℕ) → List ℕ → Type 0
PrintedBy (Some WriteFault) before after lines = SentPrefix before after lines
PrintedBy (Some NoMemory) before after lines = SentPrefix before after lines
PrintedBy other before after lines = after ≡ append_known before lines

-- the counts of faults of the port and of the output, before and after
abbrev pub FaultsBy : Option RunEnd → (port_before port_after out_before out_after : ℕ) → Type 0
FaultsBy (Some WriteFault) port_before port_after out_before out_after = Rose out_before out_after
FaultsBy (Some NoMemory) port_before port_after out_before out_after = out_after ≡ out_before
FaultsBy (Some (Live PortFault)) port_before port_after out_before out_after = Rose port_before port_after
    × (out_after ≡ out_before)
FaultsBy other port_before port_after out_before out_after = (port_after ≡ port_before) × (out_after ≡ out_before)

-- the count of the output alone
abbrev pub PrintFaults : Option RunEnd → (before after : ℕ) → Type 0
PrintFaults (Some WriteFault) before after = Rose before after
PrintFaults other before after = after ≡ before

-- nothing of what a port reads has changed
pub record SameRead (before after : LinkState) : Type 0 where
  pub left : after.left ≡ before.left
  pub idles : after.idles ≡ before.idles
  pub pauses : after.pauses ≡ before.pauses
  pub ended : after.ended ≡ before.ended

-- how a run ends at a fault of its node
abbrev pub end_by : NodeFault → RunEnd
end_by NoStamp = Stopped StampsSpent
end_by Store = Live StoreFault
end_by NoNodeMemory = NoMemory

-- how it ends while a call's news are written
abbrev pub IsTellingEnd : RunEnd → Type 0
IsTellingEnd end = (end ≡ WriteFault) ⊎ ((end ≡ NoMemory) ⊎ (end ≡ Live PortFault))

-- how it ends in its calls and its reads
abbrev pub IsRunEnd : RunEnd → Type 0
IsRunEnd (Stopped StampsSpent) = Unit {0}
IsRunEnd WriteFault = Unit {0}
IsRunEnd NoMemory = Unit {0}
IsRunEnd (Live StoreFault) = Unit {0}
IsRunEnd (Live PortFault) = Unit {0}
IsRunEnd other = ⊥
