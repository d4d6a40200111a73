use Rattle.std.proofs.Common.{◌∙◌, refl, ap, sym, subst, List}
use mathlib.Core.List.{IsPrefix}
use Rattle.turnstile.specs.Participants.{entered}
use Rattle.mav_router.specs.declared.entries.Entry.{Entry}
use Rattle.mav_router.specs.Journal.{SwitchState}
use Rattle.mav_router.specs.History.{history_of}
use Rattle.mav_router.specs.Pages.{IsWindow}
use Rattle.mav_router.proofs.Seats.{Turned, looked}
use Rattle.mav_router.proofs.turns.share_waiting.Given as given
use Rattle.mav_router.proofs.turns.share_waiting.Goals as goal

-- the seat after the turn
after_turn : (g : given.Over) (c : goal.After-leave g) → Turned c.args.crew.now.turn.now c.args.crew.now.rules.now c.args.port c.args.seat.now.own c.value.result.now.journal c.args.seat.now c.leave.new.seat
after_turn g c =
    let seat = c.args.seat.now in
    let v = c.value.result.now in
    let prefix = subst (λ (s : SwitchState). IsPrefix seat.seen (history_of s.rules s.journal)) (sym c.value.ensures.value) c.enter-held.ensures.begins in
    let enters = c.enter-held.ensures.entered ∙ ap (λ (s : SwitchState). entered seat (history_of s.rules s.journal)) (sym c.value.ensures.value) in
    looked c.args.crew.now.turn.now c.args.crew.now.rules.now c.args.port seat c.enter-held.new.seat c.leave.new.seat v v c.requires.seated prefix enters c.leave.ensures.left c.leave.ensures.own refl refl

pub returns-clause-seated : goal.returns-clause-seated
returns-clause-seated g c = (after_turn g c).seated

pub returns-clause-begins : goal.returns-clause-begins
returns-clause-begins g c = (after_turn g c).begins

pub returns-clause-own : goal.returns-clause-own
returns-clause-own g c = (after_turn g c).added

pub returns-clause-window : goal.returns-clause-window
returns-clause-window g c = subst (λ (j : List Entry). IsWindow j c.args.taken c.share-all.new.shared) (c.journal.ensures.entries ∙ sym (after_turn g c).entries) c.share-all.ensures
