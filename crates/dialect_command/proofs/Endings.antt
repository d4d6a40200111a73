-- How a run of `dialect` ends.
use Rattle.std.proofs.Common.{◌≡◌, ◌∙◌, ℕ, true, false, List, [], refl, sym, ap, subst, Option, Some, None, Result, Ok, Err, IsErrOf, OnOk}
use Rattle.std.specs.Result.{result_err}
use Rattle.std.specs.Io.KnownBytes.{append_known}
use Rattle.mav_ports.specs.Puts.{SentPrefix}
use Rattle.mav_ports.proofs.Known.{append_known_nil, sent_start}
use Rattle.field_layout.specs.Definition.{Definition}
use Rattle.mav_text.specs.LayoutText.{dialect_text}
use Rattle.run_status.specs.declared.run_ends.RunEnd.{RunEnd}
use Rattle.run_status.specs.declared.run_ends.RunEnd.TheVariants.{Usage, Stopped, ReadFault, WriteFault, NoMemory, TurnsSpent, Live}
use Rattle.run_status.specs.declared.input_errors.InputError.{InputError}
use Rattle.run_status.specs.Runs.{port_outcome, text_so_far, RunBeforeStatus}
use Rattle.dialect_command.specs.Spec.{refusal_of, text_of, reading, dialect_spec, telling}
use Rattle.dialect_command.specs.Reads.{of_input, Holds, Halts}
use Rattle.dialect_command.specs.Ends.{Told}
use Rattle.dialect_command.specs.Writes.{WroteText}
use Rattle.dialect_command.proofs.Stays.{goes_on}

-- nothing was sent
nothing_sent : (sb sa : Option (List ℕ)) → sa ≡ sb → sa ≡ append_known sb []
nothing_sent sb sa same = same ∙ append_known_nil sb

nothing_front : (sb sa : Option (List ℕ)) (text : List ℕ) → sa ≡ sb → SentPrefix sb sa text
nothing_front sb sa text same = subst (λ known. SentPrefix sb known text) (sym same) (text, sent_start sb text)

-- the reading halted, so nothing was written
pub untold_unread : (closing : List ℕ → List ℕ) (spent : Type 0) (fb fa ib ia rb ra : ℕ) (lb la sb sa : Option (List ℕ)) (halt : RunEnd) → sa ≡ sb → Halts (of_input spent fb fa ib ia) lb la halt → RunBeforeStatus (reading closing) (port_outcome spent fb fa ib ia rb ra) lb la sb sa (Some halt)
untold_unread closing spent fb fa ib ia rb ra lb la sb sa Usage same h = absurd h.cause
untold_unread closing spent fb fa ib ia rb ra lb la sb sa (Stopped stop) same h = record { taken = h.taken; ended = h.ended; took = h.took; at_end = h.at_end; cause = h.cause; wrote = nothing_sent sb sa same }
untold_unread closing spent fb fa ib ia rb ra lb la sb sa ReadFault same h = record { taken = h.taken; ended = h.ended; took = h.took; at_end = h.at_end; cause = h.cause; wrote = nothing_sent sb sa same }
untold_unread closing spent fb fa ib ia rb ra lb la sb sa WriteFault same h = absurd h.cause
untold_unread closing spent fb fa ib ia rb ra lb la sb sa NoMemory same h = record { taken = h.taken; ended = h.ended; took = h.took; at_end = h.at_end; cause = tt; wrote = nothing_front sb sa (text_so_far (reading closing) h.ended h.taken) same }
untold_unread closing spent fb fa ib ia rb ra lb la sb sa TurnsSpent same h = record { taken = h.taken; ended = h.ended; took = h.took; at_end = h.at_end; cause = h.cause; wrote = nothing_sent sb sa same }
untold_unread closing spent fb fa ib ia rb ra lb la sb sa (Live end) same h = absurd h.cause

-- the definitions were read, and their text was written, or a prefix of it
module _ (spent : Type 0) (fb fa ib ia rb ra : ℕ) (lb la sb sa : Option (List ℕ)) (defs : List Definition) (h : Holds spent lb la defs) where
  is_text : text_of (Ok defs) ≡ dialect_spec.closing h.taken
  is_text = ap text_of (sym h.read)

  pub untold_written : (end : Option RunEnd) → WroteText (dialect_text defs) end rb ra sb sa → RunBeforeStatus dialect_spec (port_outcome spent fb fa ib ia rb ra) lb la sb sa end
  untold_written None wrote = record { taken = h.taken; ended = true; took = h.took; at_end = λ ended. h.at_end; cause = (refl, goes_on true h.taken h.fits ∙ ap refusal_of h.read); wrote = wrote.0 ∙ ap (append_known sb) is_text }
  untold_written (Some Usage) wrote = absurd wrote
  untold_written (Some (Stopped stop)) wrote = absurd wrote
  untold_written (Some ReadFault) wrote = absurd wrote
  untold_written (Some WriteFault) wrote = record { taken = h.taken; ended = true; took = h.took; at_end = λ ended. h.at_end; cause = wrote.1; wrote = subst (SentPrefix sb sa) is_text wrote.0 }
  untold_written (Some NoMemory) wrote = record { taken = h.taken; ended = true; took = h.took; at_end = λ ended. h.at_end; cause = tt; wrote = subst (SentPrefix sb sa) is_text wrote.0 }
  untold_written (Some TurnsSpent) wrote = absurd wrote
  untold_written (Some (Live end)) wrote = absurd wrote

-- the same for definitions that are known
untold_telling : (defs : List Definition) (rb ra : ℕ) (sb sa : Option (List ℕ)) (end : Option RunEnd) → WroteText (dialect_text defs) end rb ra sb sa → RunBeforeStatus (telling defs) (port_outcome (Unit {0}) 0 0 0 0 rb ra) (Some []) (Some []) sb sa end
untold_telling defs rb ra sb sa None wrote = record { taken = []; ended = true; took = refl; at_end = λ ended. tt; cause = (refl, refl); wrote = wrote.0 }
untold_telling defs rb ra sb sa (Some Usage) wrote = absurd wrote
untold_telling defs rb ra sb sa (Some (Stopped stop)) wrote = absurd wrote
untold_telling defs rb ra sb sa (Some ReadFault) wrote = absurd wrote
untold_telling defs rb ra sb sa (Some WriteFault) wrote = record { taken = []; ended = true; took = refl; at_end = λ ended. tt; cause = wrote.1; wrote = wrote.0 }
untold_telling defs rb ra sb sa (Some NoMemory) wrote = record { taken = []; ended = true; took = refl; at_end = λ ended. tt; cause = tt; wrote = wrote.0 }
untold_telling defs rb ra sb sa (Some TurnsSpent) wrote = absurd wrote
untold_telling defs rb ra sb sa (Some (Live end)) wrote = absurd wrote

pub untold_known : (defs known : List Definition) → defs ≡ known → (rb ra : ℕ) (sb sa : Option (List ℕ)) (end : Option RunEnd) → WroteText (dialect_text defs) end rb ra sb sa → RunBeforeStatus (telling known) (port_outcome (Unit {0}) 0 0 0 0 rb ra) (Some []) (Some []) sb sa end
untold_known defs known same rb ra sb sa end wrote =
    subst (λ ds. RunBeforeStatus (telling ds) (port_outcome (Unit {0}) 0 0 0 0 rb ra) (Some []) (Some []) sb sa end) same (untold_telling defs rb ra sb sa end wrote)

-- there was no memory before anything was written
pub untold_early : (known : List Definition) (refusals : ℕ) (sb : Option (List ℕ)) → RunBeforeStatus (telling known) (port_outcome (Unit {0}) 0 0 0 0 refusals refusals) (Some []) (Some []) sb sb (Some NoMemory)
untold_early known refusals sb = record { taken = []; ended = false; took = refl; at_end = λ never. absurd (cc never); cause = tt; wrote = ([], sent_start sb []) }

-- no write failed unless the writing ends with a failed one
pub sound_written : (text : List ℕ) (rb ra : ℕ) (sb sa : Option (List ℕ)) (r : Result (Unit {0}) RunEnd) → WroteText text (result_err r) rb ra sb sa → (IsErrOf r WriteFault → ⊥) → ra ≡ rb
sound_written text rb ra sb sa (Ok done) wrote other = wrote.1
sound_written text rb ra sb sa (Err Usage) wrote other = absurd wrote
sound_written text rb ra sb sa (Err (Stopped stop)) wrote other = absurd wrote
sound_written text rb ra sb sa (Err ReadFault) wrote other = absurd wrote
sound_written text rb ra sb sa (Err WriteFault) wrote other = absurd (other refl)
sound_written text rb ra sb sa (Err NoMemory) wrote other = wrote.1
sound_written text rb ra sb sa (Err TurnsSpent) wrote other = absurd wrote
sound_written text rb ra sb sa (Err (Live end)) wrote other = absurd wrote

-- no error of an input ends the writing
pub unstopped_written : {P : Type 0} (text : List ℕ) (rb ra : ℕ) (sb sa : Option (List ℕ)) (r : Result (Unit {0}) RunEnd) (stop : InputError) → WroteText text (result_err r) rb ra sb sa → IsErrOf r (Stopped stop) → P
unstopped_written text rb ra sb sa (Ok done) stop wrote e = absurd (cc e)
unstopped_written text rb ra sb sa (Err Usage) stop wrote e = absurd wrote
unstopped_written text rb ra sb sa (Err (Stopped other)) stop wrote e = absurd wrote
unstopped_written text rb ra sb sa (Err ReadFault) stop wrote e = absurd wrote
unstopped_written text rb ra sb sa (Err WriteFault) stop wrote e = absurd (cc e)
unstopped_written text rb ra sb sa (Err NoMemory) stop wrote e = absurd (cc e)
unstopped_written text rb ra sb sa (Err TurnsSpent) stop wrote e = absurd wrote
unstopped_written text rb ra sb sa (Err (Live end)) stop wrote e = absurd wrote

-- all of it was written if the writing was done
pub told_written : (spent : Type 0) (rb ra : ℕ) (lb la sb sa : Option (List ℕ)) (defs : List Definition) (r : Result (Unit {0}) RunEnd) → Holds spent lb la defs → WroteText (dialect_text defs) (result_err r) rb ra sb sa → OnOk r (Told spent lb la sb sa)
told_written spent rb ra lb la sb sa defs (Ok done) holds wrote = record { defs = defs; holds = holds; sent = wrote.0 }
told_written spent rb ra lb la sb sa defs (Err halt) holds wrote = tt
