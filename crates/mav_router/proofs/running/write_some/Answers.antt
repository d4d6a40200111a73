use Rattle.std.proofs.Common.{List, refl, sym, subst}
use Rattle.mav_router.specs.declared.history.SwitchEvent.{SwitchEvent}
use Rattle.mav_router.specs.History.{entries_in}
use Rattle.mav_router.specs.Runs.{Input}
use Rattle.mav_router.proofs.PartSteps.{output_longer, within_longer}
use Rattle.mav_router.proofs.running.write_some.Goals as goal

pub returns : goal.returns
returns g c =
    let part = c.args.part.now in
    let port = part.port in
    let taken = part.side.taken in
    let w = c.write_pages in
    let turn = c.share_waiting-all in
    let old = entries_in part.seat.seen in
    let seen = entries_in turn.new.seat.seen in
    let begins = turn.ensures.begins in
    let ready = c.requires.ready in
    let within = within_longer taken old seen ready.taken begins in
    let writes = w.ensures.writes seen within turn.ensures.window in
    record {
      ready = record { seated = turn.ensures.seated; from = ready.from; to = ready.to; few = ready.few; taken = writes.within };
      port = refl;
      so_far = λ first so_far.
          record {
            input = subst (λ (own : List SwitchEvent). Input c.args.crew.now.rules.now (entries_in own) port first (g.L.Link.state w.new.link) w.new.lane) (sym turn.ensures.own)
                (w.ensures.keeps.input c.args.crew.now.rules.now (entries_in part.seat.own) port first so_far.input);
            output = writes.output first (output_longer port taken old seen first (g.L.Link.state part.side.link) part.side.lane ready.taken begins so_far.output);
          };
      turned = w.ensures.keeps.turned;
    }
