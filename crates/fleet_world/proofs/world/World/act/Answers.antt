use Rattle.std.proofs.Common.{◌≡◌, rules, w32, ap, sym, subst, ◌∙◌, Result, Ok, Err}
use Rattle.std.specs.Prelude.{FitsSigned, OnOk, IfErr}
use Rattle.std.proofs.lemmas.Int.{to_z-of_z}
use Rattle.scenario_lines.specs.declared.lines.Line.{Line}
use Rattle.scenario_lines.specs.declared.lines.Line.TheVariants.{Drone, Begin, Cancel, Clear, Get, Command, Params, Deliver, Flow, Restart, Sim, WhereIs}
use Rattle.fleet_report.specs.Reports.{ReportState}
use Rattle.fleet_world.specs.declared.faults.WorldFault.{WorldFault}
use Rattle.fleet_world.specs.declared.faults.WorldFault.TheVariants.{NoMemory}
use Rattle.fleet_world.specs.WorldState.{WorldState}
use Rattle.fleet_world.specs.WorldView.{WorldView}
use Rattle.fleet_world.specs.Steps.{after_line, Step, StepError}
use Rattle.fleet_world.specs.Promises.{Does, Fails}
use Rattle.fleet_world.proofs.QuietSteps.{quiet_outcome}
use Rattle.fleet_world.proofs.world.World.act.Goals as goal

-- what a call does, or why it doesn't, is said of its line
does_line : {T : Type 0} (r : Result T WorldFault) (old new : WorldView) (before after : ReportState) (given line : Line) → line ≡ given → OnOk r (Does (λ state. after_line state given) old new before after) → OnOk r (Does (λ state. after_line state line) old new before after)
does_line r old new before after given line is =
    subst (λ (l : Line). OnOk r (Does (λ state. after_line state l) old new before after)) (sym is)

fails_line : {T : Type 0} (r : Result T WorldFault) (old : WorldView) (given line : Line) → line ≡ given → IfErr r (Fails (λ state. after_line state given) old) → IfErr r (Fails (λ state. after_line state line) old)
fails_line r old given line is =
    subst (λ (l : Line). IfErr r (Fails (λ state. after_line state l) old)) (sym is)

fails_for_memory : {T : Type 0} (r : Result T WorldFault) (old : WorldView) (step : WorldState → Result Step StepError) → IfErr r (λ fault. fault ≡ NoMemory) → IfErr r (Fails step old)
fails_for_memory (Ok t) old step is = tt
fails_for_memory (Err fault) old step is = subst (Fails step old) (sym is) (λ state here. tt)

pub returns-in-Drone-clause-done : goal.returns-in-Drone-clause-done
returns-in-Drone-clause-done c =
    let x_fits : FitsSigned w32 c.in-Drone.x = search rules in
    let y_fits : FitsSigned w32 c.in-Drone.y = search rules in
    let x = to_z-of_z w32 c.in-Drone.x x_fits in
    let y = to_z-of_z w32 c.in-Drone.y y_fits in
    quiet_outcome c.add_drone.result c.args.self.now _ c.args.report.now _ (λ state. after_line state c.args.line)
    (λ state. ap (after_line state) ((λ i. Drone c.in-Drone.sys (x i) (y i)) ∙ sym c.in-Drone.is)) c.add_drone.ensures.done

pub returns-in-Begin-clause-done : goal.returns-in-Begin-clause-done
returns-in-Begin-clause-done c =
    does_line c.begin.result c.args.self.now c.begin.new.self c.args.report.now c.begin.new.report (Begin c.in-Begin.station c.in-Begin.drone c.in-Begin.kind) c.args.line c.in-Begin.is c.begin.ensures.done

pub returns-in-Begin-clause-error : goal.returns-in-Begin-clause-error
returns-in-Begin-clause-error c =
    fails_line c.begin.result c.args.self.now (Begin c.in-Begin.station c.in-Begin.drone c.in-Begin.kind) c.args.line c.in-Begin.is c.begin.ensures.error

pub returns-in-Cancel-clause-done : goal.returns-in-Cancel-clause-done
returns-in-Cancel-clause-done c =
    does_line c.order.result c.args.self.now c.order.new.self c.args.report.now c.order.new.report (Cancel c.in-Cancel.station) c.args.line c.in-Cancel.is c.order.ensures.done

pub returns-in-Cancel-clause-error : goal.returns-in-Cancel-clause-error
returns-in-Cancel-clause-error c =
    fails_line c.order.result c.args.self.now (Cancel c.in-Cancel.station) c.args.line c.in-Cancel.is c.order.ensures.error

pub returns-in-Clear-clause-done : goal.returns-in-Clear-clause-done
returns-in-Clear-clause-done c =
    does_line c.clear.result c.args.self.now c.clear.new.self c.args.report.now c.clear.new.report (Clear c.in-Clear.station c.in-Clear.drone c.in-Clear.kind) c.args.line c.in-Clear.is c.clear.ensures.done

pub returns-in-Clear-clause-error : goal.returns-in-Clear-clause-error
returns-in-Clear-clause-error c =
    fails_line c.clear.result c.args.self.now (Clear c.in-Clear.station c.in-Clear.drone c.in-Clear.kind) c.args.line c.in-Clear.is c.clear.ensures.error

pub returns-in-Get-clause-done : goal.returns-in-Get-clause-done
returns-in-Get-clause-done c =
    does_line c.get.result c.args.self.now c.get.new.self c.args.report.now c.get.new.report (Get c.in-Get.station c.in-Get.drone c.in-Get.kind) c.args.line c.in-Get.is c.get.ensures.done

pub returns-in-Get-clause-error : goal.returns-in-Get-clause-error
returns-in-Get-clause-error c =
    fails_line c.get.result c.args.self.now (Get c.in-Get.station c.in-Get.drone c.in-Get.kind) c.args.line c.in-Get.is c.get.ensures.error

pub returns-in-Command-clause-done : goal.returns-in-Command-clause-done
returns-in-Command-clause-done c =
    does_line c.command.result c.args.self.now c.command.new.self c.args.report.now c.command.new.report (Command c.in-Command.station c.in-Command.drone c.in-Command.number c.in-Command.word) c.args.line c.in-Command.is c.command.ensures.done

pub returns-in-Command-clause-error : goal.returns-in-Command-clause-error
returns-in-Command-clause-error c =
    fails_line c.command.result c.args.self.now (Command c.in-Command.station c.in-Command.drone c.in-Command.number c.in-Command.word) c.args.line c.in-Command.is c.command.ensures.error

pub returns-in-Params-clause-done : goal.returns-in-Params-clause-done
returns-in-Params-clause-done c =
    does_line c.list_params.result c.args.self.now c.list_params.new.self c.args.report.now c.list_params.new.report (Params c.in-Params.station c.in-Params.drone) c.args.line c.in-Params.is c.list_params.ensures.done

pub returns-in-Params-clause-error : goal.returns-in-Params-clause-error
returns-in-Params-clause-error c =
    fails_line c.list_params.result c.args.self.now (Params c.in-Params.station c.in-Params.drone) c.args.line c.in-Params.is c.list_params.ensures.error

pub returns-in-Deliver-clause-done : goal.returns-in-Deliver-clause-done
returns-in-Deliver-clause-done c =
    does_line c.deliver.result c.args.self.now c.deliver.new.self c.args.report.now c.deliver.new.report (Deliver c.in-Deliver.i c.in-Deliver.node) c.args.line c.in-Deliver.is c.deliver.ensures.done

pub returns-in-Deliver-clause-error : goal.returns-in-Deliver-clause-error
returns-in-Deliver-clause-error c =
    fails_line c.deliver.result c.args.self.now (Deliver c.in-Deliver.i c.in-Deliver.node) c.args.line c.in-Deliver.is c.deliver.ensures.error

pub returns-in-Flow-clause-done : goal.returns-in-Flow-clause-done
returns-in-Flow-clause-done c =
    does_line c.flow.result c.args.self.now c.flow.new.self c.args.report.now c.flow.new.report (Flow c.in-Flow.k) c.args.line c.in-Flow.is c.flow.ensures.done

pub returns-in-Flow-clause-error : goal.returns-in-Flow-clause-error
returns-in-Flow-clause-error c =
    fails_line c.flow.result c.args.self.now (Flow c.in-Flow.k) c.args.line c.in-Flow.is c.flow.ensures.error

pub returns-in-Restart-clause-done : goal.returns-in-Restart-clause-done
returns-in-Restart-clause-done c =
    does_line c.restart.result c.args.self.now c.restart.new.self c.args.report.now c.restart.new.report (Restart c.in-Restart.drone) c.args.line c.in-Restart.is c.restart.ensures.done

pub returns-in-Restart-clause-error : goal.returns-in-Restart-clause-error
returns-in-Restart-clause-error c =
    fails_line c.restart.result c.args.self.now (Restart c.in-Restart.drone) c.args.line c.in-Restart.is c.restart.ensures.error

pub returns-in-Sim-clause-done : goal.returns-in-Sim-clause-done
returns-in-Sim-clause-done c =
    does_line c.fly.result c.args.self.now c.fly.new.self c.args.report.now c.fly.new.report (Sim c.in-Sim.drone c.in-Sim.n) c.args.line c.in-Sim.is c.fly.ensures.done

pub returns-in-Sim-clause-error : goal.returns-in-Sim-clause-error
returns-in-Sim-clause-error c =
    fails_line c.fly.result c.args.self.now (Sim c.in-Sim.drone c.in-Sim.n) c.args.line c.in-Sim.is c.fly.ensures.error

pub returns-in-WhereIs-clause-done : goal.returns-in-WhereIs-clause-done
returns-in-WhereIs-clause-done c =
    does_line c.locate.result c.args.self.now c.locate.new.self c.args.report.now c.locate.new.report (WhereIs c.in-WhereIs.drone) c.args.line c.in-WhereIs.is c.locate.ensures.done

pub returns-in-WhereIs-clause-error : goal.returns-in-WhereIs-clause-error
returns-in-WhereIs-clause-error c = fails_for_memory c.locate.result c.args.self.now (λ state. after_line state c.args.line) c.locate.ensures.error

pub returns-in-Item-clause-done : goal.returns-in-Item-clause-done
returns-in-Item-clause-done c =
    quiet_outcome c.add_item.result c.args.self.now _ c.args.report.now _ (λ state. after_line state c.args.line) (λ state. ap (after_line state) (sym c.in-Item.is)) c.add_item.ensures.done

pub returns-in-Item-clause-error : goal.returns-in-Item-clause-error
returns-in-Item-clause-error c = fails_for_memory c.add_item.result c.args.self.now (λ state. after_line state c.args.line) c.add_item.ensures.error

pub returns-in-Items-clause-done : goal.returns-in-Items-clause-done
returns-in-Items-clause-done c =
    quiet_outcome c.add_items.result c.args.self.now _ c.args.report.now _ (λ state. after_line state c.args.line) (λ state. ap (after_line state) (sym c.in-Items.is)) c.add_items.ensures.done

pub returns-in-Items-clause-error : goal.returns-in-Items-clause-error
returns-in-Items-clause-error c = fails_for_memory c.add_items.result c.args.self.now (λ state. after_line state c.args.line) c.add_items.ensures.error

pub returns-in-Empty-clause-done : goal.returns-in-Empty-clause-done
returns-in-Empty-clause-done c =
    quiet_outcome c.empty_draft.result c.args.self.now _ c.args.report.now _ (λ state. after_line state c.args.line) (λ state. ap (after_line state) (sym c.in-Empty.is)) c.empty_draft.ensures.done

pub returns-in-Empty-clause-error : goal.returns-in-Empty-clause-error
returns-in-Empty-clause-error c = fails_for_memory c.empty_draft.result c.args.self.now (λ state. after_line state c.args.line) c.empty_draft.ensures.error

pub returns-in-Clock-clause-done : goal.returns-in-Clock-clause-done
returns-in-Clock-clause-done c =
    quiet_outcome c.advance.result c.args.self.now _ c.args.report.now _ (λ state. after_line state c.args.line) (λ state. ap (after_line state) (sym c.in-Clock.is)) c.advance.ensures.done

pub returns-in-Clock-clause-error : goal.returns-in-Clock-clause-error
returns-in-Clock-clause-error c = fails_for_memory c.advance.result c.args.self.now (λ state. after_line state c.args.line) c.advance.ensures.error
