use Rattle.std.proofs.Common.{◌∙◌, inl, inr, refl, ap, map}
use Rattle.std.proofs.lemmas.Result.{err_from_is_err_and}
use Rattle.mav_profile.specs.Profile.{profile_definitions}
use Rattle.dialect_command.specs.Spec.{definitions_spec}
use Rattle.dialect_command.proofs.Endings.{untold_unread}
use Rattle.command_line.specs.Lines.{asked_by}
use Rattle.command_line.specs.PortTexts.{port_text}
use Rattle.route_command.proofs.Runs.{by_plan}
use Rattle.route_command.specs.Routing.{open_ports}
use Rattle.dialect_command.proofs.Known.{after_definitions, at_definitions}
use Rattle.route_command.proofs.Routed.{unrouted, routed_as}
use Rattle.route_command.proofs.route_asked.run_route.Goals as goal

pub returns-in_err-key-clause-routed : goal.returns-in_err-key-clause-routed
returns-in_err-key-clause-routed g c =
    let e = err_from_is_err_and c.from_residual.result c.from_residual.ensures.1 in
    rw (e.1, e.2) (inl (c.in_err-key.ensures.halts _ _, refl, c.in_err-key.ensures.within, (refl, refl)))

pub returns-in_err-known-clause-routed : goal.returns-in_err-known-clause-routed
returns-in_err-known-clause-routed g c =
    let e = err_from_is_err_and c.from_residual-in_err-known.result c.from_residual-in_err-known.ensures.1 in
    rw (e.1, e.2) (inr (
      c.in_ok-key.key,
      c.in_ok-key.ensures.holds,
      at_definitions _ _ _ _ _ _
          (λ named. untold_unread definitions_spec.closing _ _ _ _ _ _ _ _ _ _ _ c.in_err-known.field-0.0 refl (c.in_err-known.ensures.halts named)) refl refl
          (λ unnamed. unrouted _ (asked_by c.args.line.now) c.args.ports.now.items c.in_ok-key.key profile_definitions c.in_err-known.field-0.0 _ _ _ (c.in_err-known.ensures.memory unnamed) refl),
    ))

pub returns-clause-routed : goal.returns-clause-routed
returns-clause-routed g c =
    inr (
      c.in_ok-key.key,
      c.in_ok-key.ensures.holds,
      after_definitions _ _ _ _ _ c.in_ok-known.known _ c.in_ok-known.ensures.is
          (routed_as _ c.in_ok-key.key c.in_ok-known.known _ c.args.ports.now.items c.route.new.ports.items _ _ _ _ _ _ _ _ _ _ _
          (c.open_ports.ensures ∙ ap open_ports (ap (map port_text) c.deref.ensures.value ∙ c.requires.ports)) c.has.ensures c.turns.ensures.asked
          (by_plan g.T.Router.alone _ _ _ _ _ _ _ _ _ _ _ c.route.ensures.routes)),
    )
