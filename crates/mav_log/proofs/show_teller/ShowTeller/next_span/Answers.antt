use Rattle.std.proofs.Common.{subst}
use Rattle.mav_profile.specs.Messages.{extras_of}
use Rattle.decode_command.proofs.Results.{if_need}
use Rattle.mav_log.specs.Tellers.{IsNextOfLog, Showing}
use Rattle.mav_log.proofs.Steps.{shown_whole}
use Rattle.mav_log.proofs.show_teller.ShowTeller.next_span.Goals as goal

pub returns-clause-begins : goal.returns-clause-begins
returns-clause-begins c = subst (λ (s : Showing). IsNextOfLog s.reader c.next_span.result) c.self.view_is c.next_span.ensures

pub returns-clause-room : goal.returns-clause-room
returns-clause-room c =
    let at = subst (λ (s : Showing). IsNextOfLog s.reader c.next_span.result) c.self.view_is c.next_span.ensures in at.room

pub returns-clause-all : goal.returns-clause-all
returns-clause-all c ended taken told h =
    let now = c.args.self.now in
    let at = subst (λ (s : Showing). IsNextOfLog s.reader c.next_span.result) c.self.view_is c.next_span.ensures in
    if_need c.next_span.result (at.whole (extras_of now.known) taken h.given h.progress) (shown_whole now ended taken told h)
