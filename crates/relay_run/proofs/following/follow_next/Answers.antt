use Rattle.std.proofs.Common.{◌∙◌, List, ℕ, Option, Some, map, refl, sym, subst, ap}
use Rattle.std.specs.List.{remove}
use Rattle.std.specs.Option.{option_map}
use Rattle.std.proofs.lemmas.Result.{err_from_is_err_and}
use Rattle.relay_hub.specs.Hubs.{HubState, blank, happens, opens}
use Rattle.relay_hub.specs.Seats.{Seats, told_at}
use Rattle.relay_hub.specs.declared.news.HubNews.{HubNews}
use Rattle.relay_hub.specs.declared.news.HubNews.TheVariants.{Refused as HubRefused, Waits as HubWaits}
use Rattle.relay_rules.specs.declared.links.OpenLink.{OpenLink}
use Rattle.relay_core.specs.declared.notes.Note.TheVariants.{Refused, Waits}
use Rattle.relay_run.specs.declared.stops.Stop.{Stop}
use Rattle.relay_run.specs.Rounds.{Goes, GoesInPart}
use Rattle.relay_run.proofs.Agreeing.{remove_map}
use Rattle.relay_run.proofs.Changes.{goes_closed, goes_noted, goes_opened, stops_opening}
use Rattle.relay_run.proofs.following.follow_next.Goals as goal

pub returns-in-Refused-clause-goes : goal.returns-in-Refused-clause-goes
returns-in-Refused-clause-goes g c =
    let rules = c.args.rules.now in
    let hub = g.H.Hub.state c.args.hub.now in
    let view = c.args.relay.now in
    let port = c.in-Refused.port in
    let is = c.in-Some.ensures.state ∙ ap (λ (n : HubNews). option_map (happens (Some n)) hub) c.in-Refused.is in
    subst (λ (o : Option HubState). Goes rules g.W.Watcher.told c.args.watcher.now c.note.new.self hub o view view) (sym is)
    (goes_noted rules g.W.Watcher.told c.args.watcher.now c.note.new.self hub (happens (Some (HubRefused port))) view (Refused port) refl (λ s. (refl, refl)) c.note.ensures)

pub returns-in_ok-open_link-in-Opened-clause-goes : goal.returns-in_ok-open_link-in-Opened-clause-goes
returns-in_ok-open_link-in-Opened-clause-goes g c =
    let rules = c.args.rules.now in
    let hub = g.H.Hub.state c.args.hub.now in
    let opened = c.in_ok-open_link-in-Opened.ensures in
    let is = c.in-Some.ensures.state ∙ ap (λ (n : HubNews). option_map (happens (Some n)) hub) c.in-Opened.is in
    subst (λ (o : Option HubState). Goes rules g.W.Watcher.told c.args.watcher.now c.open_link.new.watcher hub o c.args.relay.now c.open_link.new.relay) (sym is)
    (goes_opened rules g.W.Watcher.told c.args.watcher.now c.open_link.new.watcher hub c.args.relay.now c.open_link.new.relay c.in-Opened.port opened.opens opened.told)

pub returns-in_err-open_link-in-Opened-clause-stops : goal.returns-in_err-open_link-in-Opened-clause-stops
returns-in_err-open_link-in-Opened-clause-stops g c =
    let p = err_from_is_err_and c.from_residual.result c.from_residual.ensures.1 in
    let rules = c.args.rules.now in
    let hub = g.H.Hub.state c.args.hub.now in
    let stop = c.in_err-open_link-in-Opened.field-0.0 in
    let refused = c.in_err-open_link-in-Opened.ensures in
    let is = c.in-Some.ensures.state ∙ ap (λ (n : HubNews). option_map (happens (Some n)) hub) c.in-Opened.is in
    rw p.1 (subst (λ (s : Stop). GoesInPart s rules g.W.Watcher.told c.args.watcher.now c.open_link.new.watcher hub (g.H.Hub.state c.next.new.self) c.args.relay.now) (sym p.2)
    (subst (λ (w : g.row.W.Denot). GoesInPart stop rules g.W.Watcher.told c.args.watcher.now w hub (g.H.Hub.state c.next.new.self) c.args.relay.now) (sym refused.untold)
    (subst (λ (o : Option HubState). GoesInPart stop rules g.W.Watcher.told c.args.watcher.now c.args.watcher.now hub o c.args.relay.now) (sym is)
    (stops_opening rules g.W.Watcher.told stop c.args.watcher.now hub (opens (blank c.in-Opened.port)) c.args.relay.now (blank c.in-Opened.port) (λ s. refl) refused.whole refused.spent))))

pub returns-in-Closed-clause-goes : goal.returns-in-Closed-clause-goes
returns-in-Closed-clause-goes g c =
    let rules = c.args.rules.now in
    let hub = g.H.Hub.state c.args.hub.now in
    let is = c.in-Some.ensures.state ∙ ap (λ (n : HubNews). option_map (happens (Some n)) hub) c.in-Closed.is in
    subst (λ (o : Option HubState). Goes rules g.W.Watcher.told c.args.watcher.now c.close_link.new.watcher hub o c.args.relay.now c.close_link.new.relay) (sym is)
    (goes_closed rules g.W.Watcher.told c.args.watcher.now c.close_link.new.watcher hub c.args.relay.now c.close_link.new.relay c.in-Closed.index c.in-Closed.why c.close_link.ensures.closes)

pub returns-in-Closed-clause-seated : goal.returns-in-Closed-clause-seated
returns-in-Closed-clause-seated g c =
    let index = c.in-Closed.index in
    let port : OpenLink → ℕ = λ link. link.port in
    ap (λ (s : Seats). s.ports) (c.in-Some.ensures.seats ∙ ap (λ (n : HubNews). told_at (Some n) (g.H.Hub.seats c.args.hub.now)) c.in-Closed.is)
    ∙ (ap (λ (l : List ℕ). remove l index) c.requires.seated
    ∙ (sym (remove_map port c.args.relay.now.links.links index)
    ∙ ap (map port) (sym c.close_link.ensures.links)))

pub returns-in-Waits-clause-goes : goal.returns-in-Waits-clause-goes
returns-in-Waits-clause-goes g c =
    let rules = c.args.rules.now in
    let hub = g.H.Hub.state c.args.hub.now in
    let view = c.args.relay.now in
    let port = c.in-Waits.port in
    let is = c.in-Some.ensures.state ∙ ap (λ (n : HubNews). option_map (happens (Some n)) hub) c.in-Waits.is in
    subst (λ (o : Option HubState). Goes rules g.W.Watcher.told c.args.watcher.now c.note-in-Waits.new.self hub o view view) (sym is)
    (goes_noted rules g.W.Watcher.told c.args.watcher.now c.note-in-Waits.new.self hub (happens (Some (HubWaits port))) view (Waits port) refl (λ s. (refl, refl)) c.note-in-Waits.ensures)
