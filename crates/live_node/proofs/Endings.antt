-- What was written by the end of a run.
use Rattle.std.proofs.Common.{◌≡◌, ℕ, List, [], ◌++◌, Option, Some, None, ap, ◌∙◌, append_assoc, subst, inl, inr}
use Rattle.std.specs.Io.KnownBytes.{append_known}
use Rattle.mav_ports.specs.Counts.{Rose}
use Rattle.mav_ports.specs.Puts.{SentPrefix}
use Rattle.mav_links.specs.Links.{LinkState}
use Rattle.mav_ports.proofs.Known.{append_known_twice, sent_piece}
use Rattle.run_status.specs.declared.live_ends.LiveEnd.TheVariants.{RefusedWith, NoAnswer, StoreFault, PortTurns, PortFault}
use Rattle.run_status.specs.declared.run_ends.RunEnd.{RunEnd}
use Rattle.run_status.specs.declared.run_ends.RunEnd.TheVariants.{Usage, Stopped, ReadFault, WriteFault, NoMemory, TurnsSpent, Live}
use Rattle.live_node.specs.Ports.{SentBy, SentDespite, PrintedBy}

-- all of it is a prefix of it
pub whole_prefix : (before after : Option (List ℕ)) (text : List ℕ) → after ≡ append_known before text → SentPrefix before after text
whole_prefix before after text e = ([], sent_piece before after text e)

-- a text, and then a prefix of another
pub prefix_after : (before middle after : Option (List ℕ)) (text next : List ℕ) → middle ≡ append_known before text → SentPrefix middle after next → SentPrefix before after (text ++ next)
prefix_after before middle after text next e s = (
  s.0,
  record {
    part = text ++ s.1.part;
    whole = append_assoc text s.1.part s.0 ∙ ap (λ (l : List ℕ). text ++ l) s.1.whole;
    appended = s.1.appended ∙ (ap (λ (k : Option (List ℕ)). append_known k s.1.part) e ∙ append_known_twice before text s.1.part);
  },
)

pub whole_after : (before middle after : Option (List ℕ)) (text next : List ℕ) → middle ≡ append_known before text → after ≡ append_known middle next → after ≡ append_known before (text ++ next)
whole_after before middle after text next e h = h ∙ (ap (λ (k : Option (List ℕ)). append_known k next) e ∙ append_known_twice before text next)

-- frames that were all sent were sent by any end
pub sent_by : (end : Option RunEnd) (before after : Option (List ℕ)) (text : List ℕ) → after ≡ append_known before text → SentBy end before after text
sent_by None before after text e = e
sent_by (Some Usage) before after text e = e
sent_by (Some (Stopped error)) before after text e = e
sent_by (Some ReadFault) before after text e = e
sent_by (Some WriteFault) before after text e = whole_prefix before after text e
sent_by (Some NoMemory) before after text e = whole_prefix before after text e
sent_by (Some TurnsSpent) before after text e = e
sent_by (Some (Live (RefusedWith code))) before after text e = e
sent_by (Some (Live (NoAnswer ticks))) before after text e = e
sent_by (Some (Live StoreFault)) before after text e = e
sent_by (Some (Live (PortTurns turns))) before after text e = e
sent_by (Some (Live PortFault)) before after text e = whole_prefix before after text e

pub printed_by : (end : Option RunEnd) (before after : Option (List ℕ)) (text : List ℕ) → after ≡ append_known before text → PrintedBy end before after text
printed_by None before after text e = e
printed_by (Some Usage) before after text e = e
printed_by (Some (Stopped error)) before after text e = e
printed_by (Some ReadFault) before after text e = e
printed_by (Some WriteFault) before after text e = whole_prefix before after text e
printed_by (Some NoMemory) before after text e = whole_prefix before after text e
printed_by (Some TurnsSpent) before after text e = e
printed_by (Some (Live end)) before after text e = e

-- and then what was sent of others
pub sent_after : (end : Option RunEnd) (before middle after : Option (List ℕ)) (text next : List ℕ) → middle ≡ append_known before text → SentBy end middle after next → SentBy end before after (text ++ next)
sent_after None before middle after text next e h = whole_after before middle after text next e h
sent_after (Some Usage) before middle after text next e h = whole_after before middle after text next e h
sent_after (Some (Stopped error)) before middle after text next e h = whole_after before middle after text next e h
sent_after (Some ReadFault) before middle after text next e h = whole_after before middle after text next e h
sent_after (Some WriteFault) before middle after text next e h = prefix_after before middle after text next e h
sent_after (Some NoMemory) before middle after text next e h = prefix_after before middle after text next e h
sent_after (Some TurnsSpent) before middle after text next e h = whole_after before middle after text next e h
sent_after (Some (Live (RefusedWith code))) before middle after text next e h = whole_after before middle after text next e h
sent_after (Some (Live (NoAnswer ticks))) before middle after text next e h = whole_after before middle after text next e h
sent_after (Some (Live StoreFault)) before middle after text next e h = whole_after before middle after text next e h
sent_after (Some (Live (PortTurns turns))) before middle after text next e h = whole_after before middle after text next e h
sent_after (Some (Live PortFault)) before middle after text next e h = prefix_after before middle after text next e h

pub printed_after : (end : Option RunEnd) (before middle after : Option (List ℕ)) (text next : List ℕ) → middle ≡ append_known before text → PrintedBy end middle after next → PrintedBy end before after (text ++ next)
printed_after None before middle after text next e h = whole_after before middle after text next e h
printed_after (Some Usage) before middle after text next e h = whole_after before middle after text next e h
printed_after (Some (Stopped error)) before middle after text next e h = whole_after before middle after text next e h
printed_after (Some ReadFault) before middle after text next e h = whole_after before middle after text next e h
printed_after (Some WriteFault) before middle after text next e h = prefix_after before middle after text next e h
printed_after (Some NoMemory) before middle after text next e h = prefix_after before middle after text next e h
printed_after (Some TurnsSpent) before middle after text next e h = whole_after before middle after text next e h
printed_after (Some (Live end)) before middle after text next e h = whole_after before middle after text next e h

-- all frames were sent, whatever the output does
pub despite_by : (end : Option RunEnd) (before after : LinkState) (text : List ℕ) → after.sent ≡ append_known before.sent text
    → SentDespite end before after text
despite_by None before after text e = tt
despite_by (Some Usage) before after text e = tt
despite_by (Some (Stopped error)) before after text e = tt
despite_by (Some ReadFault) before after text e = tt
despite_by (Some WriteFault) before after text e = inl e
despite_by (Some NoMemory) before after text e = inl e
despite_by (Some TurnsSpent) before after text e = tt
despite_by (Some (Live end)) before after text e = tt

pub despite_after : (end : Option RunEnd) (before middle after : LinkState) (text next : List ℕ) → middle.sent ≡ append_known before.sent text
    → middle.faults ≡ before.faults → SentDespite end middle after next → SentDespite end before after (text ++ next)
despite_after None before middle after text next e same h = tt
despite_after (Some Usage) before middle after text next e same h = tt
despite_after (Some (Stopped error)) before middle after text next e same h = tt
despite_after (Some ReadFault) before middle after text next e same h = tt
despite_after (Some WriteFault) before middle after text next e same (inl h) = inl (whole_after before.sent middle.sent after.sent text next e h)
despite_after (Some WriteFault) before middle after text next e same (inr rose) = inr (subst (λ (n : ℕ). Rose n after.faults) same rose)
despite_after (Some NoMemory) before middle after text next e same (inl h) = inl (whole_after before.sent middle.sent after.sent text next e h)
despite_after (Some NoMemory) before middle after text next e same (inr rose) = inr (subst (λ (n : ℕ). Rose n after.faults) same rose)
despite_after (Some TurnsSpent) before middle after text next e same h = tt
despite_after (Some (Live end)) before middle after text next e same h = tt
