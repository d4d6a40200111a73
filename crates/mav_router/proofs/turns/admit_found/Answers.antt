use Rattle.std.proofs.Common.{◌∙◌, ◌++◌, ap, sym, subst, List, map, IfErr}
use mathlib.Core.List.{IsPrefix}
use Rattle.turnstile.specs.Participants.{Participant, entered}
use Rattle.mav_router.specs.declared.entries.Entry.{Entry}
use Rattle.mav_router.specs.declared.history.SwitchEvent.{SwitchEvent}
use Rattle.mav_router.specs.declared.history.SwitchEvent.TheVariants.{Admitted}
use Rattle.mav_router.specs.Journal.{SwitchState, frames_from}
use Rattle.mav_router.specs.History.{history_of, entries_in}
use Rattle.mav_router.specs.Faults.{IsSwitchFault}
use Rattle.mav_router.proofs.Seats.{Turned, added, tried, more_own}
use Rattle.mav_router.proofs.turns.admit_found.Given as given
use Rattle.mav_router.proofs.turns.admit_found.Goals as goal

-- the seat after the turn
after_turn : (g : given.Over) (c : goal.After-leave g)
    → Turned c.args.crew.now.turn.now c.args.crew.now.rules.now c.args.port (c.args.seat.now.own ++ map Admitted c.admit_found-admitted.ensures.admits.kept.more) c.admit_found-admitted.new.self.journal c.args.seat.now c.leave.new.seat
after_turn g c =
    let seat = c.args.seat.now in
    let v = c.value.result.now in
    let n = c.admit_found-admitted.new.self in
    let prefix = subst (λ (s : SwitchState). IsPrefix seat.seen (history_of s.rules s.journal)) (sym c.value.ensures.value) c.enter-held.ensures.begins in
    let enters = c.enter-held.ensures.entered ∙ ap (λ (s : SwitchState). entered seat (history_of s.rules s.journal)) (sym c.value.ensures.value) in
    added c.args.crew.now.turn.now c.args.crew.now.rules.now c.args.port seat c.enter-held.new.seat c.leave.new.seat v n _ c.requires.seated prefix enters c.leave.ensures.left c.leave.ensures.own c.admit_found-admitted.ensures.same.0 c.admit_found-admitted.ensures.admits.kept

pub leave-requires-clause-appended : goal.leave-requires-clause-appended
leave-requires-clause-appended g c =
    let seat = c.args.seat.now in
    let v = c.value.result.now in
    let enters = c.enter-held.ensures.entered ∙ ap (λ (s : SwitchState). entered seat (history_of s.rules s.journal)) (sym c.value.ensures.value) in
    tried v c.admit_found-admitted.new.self c.args.port _ c.enter-held.new.seat.seen (ap (λ (p : Participant SwitchEvent). p.seen) enters) c.admit_found-admitted.ensures.same.0 c.admit_found-admitted.ensures.admits.kept

pub returns-clause-seated : goal.returns-clause-seated
returns-clause-seated g c = (after_turn g c).seated

pub returns-clause-begins : goal.returns-clause-begins
returns-clause-begins g c = (after_turn g c).begins

pub returns-clause-takes : goal.returns-clause-takes
returns-clause-takes g c =
    let admits = c.admit_found-admitted.ensures.admits in
    record {
      count = admits.count;
      took = ap (λ (l : List SwitchEvent). frames_from c.args.port (entries_in l)) (after_turn g c).added ∙ more_own c.args.port c.args.seat.now.own c.value.result.now.journal c.admit_found-admitted.new.self.journal _ admits.kept;
      all = admits.all;
      some = admits.some;
    }

pub returns-clause-fault : goal.returns-clause-fault
returns-clause-fault g c = subst (λ (j : List Entry). IfErr c.admit_found-admitted.result (λ fault. IsSwitchFault fault j)) (sym (after_turn g c).entries) c.admit_found-admitted.ensures.fault
