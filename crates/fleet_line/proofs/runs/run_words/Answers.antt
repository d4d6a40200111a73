use Rattle.std.proofs.Common.{refl}
use Rattle.command_line.specs.declared.commands.OptionName.TheVariants.{Frames, Key}
use Rattle.command_line.specs.Forms.{has_given}
use Rattle.command_inputs.proofs.NamedSame.{same_asked}
use Rattle.fleet_line.proofs.Scenarios.{fleets_unread}
use Rattle.fleet_line.proofs.runs.run_words.Goals as goal

pub returns-in-Err-NoMemory-clause-fleet : goal.returns-in-Err-NoMemory-clause-fleet
returns-in-Err-NoMemory-clause-fleet g c = λ asked asks is.
    fleets_unread g.S.Source.has_ended g.S.Source.faults g.S.Source.idles g.S.Source.left c.args.key.now c.args.main.now (g.K.Sink.faults c.args.out.now) (g.K.Sink.sent c.args.out.now) _ refl
    (has_given Key asked.settings) (has_given Frames asked.settings)

pub returns-in-Fleet-clause-fleet : goal.returns-in-Fleet-clause-fleet
returns-in-Fleet-clause-fleet g c = λ asked asks is. rw (same_asked _ asked _ asks c.in-Ok.ensures.asks) c.run_fleet.ensures.fleet

pub returns-in-Fleet-clause-unread_key : goal.returns-in-Fleet-clause-unread_key
returns-in-Fleet-clause-unread_key g c = λ asked asks. rw (same_asked _ asked _ asks c.in-Ok.ensures.asks) c.run_fleet.ensures.unread_key

pub returns-in-Fleet-clause-usage_only : goal.returns-in-Fleet-clause-usage_only
returns-in-Fleet-clause-usage_only g c = λ none. absurd (none _ c.in-Ok.ensures.asks c.in-Fleet.is)

pub returns-in-Fleet-clause-untouched : goal.returns-in-Fleet-clause-untouched
returns-in-Fleet-clause-untouched g c = λ none. absurd (none _ c.in-Ok.ensures.asks c.in-Fleet.is)

pub returns-in-Fleet-clause-unsent : goal.returns-in-Fleet-clause-unsent
returns-in-Fleet-clause-unsent g c = λ none. absurd (none _ c.in-Ok.ensures.asks c.in-Fleet.is)
