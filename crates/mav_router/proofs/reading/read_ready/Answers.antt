use Rattle.std.proofs.Common.{◌∙◌, ◌<◌, ◌+◌, ◌^◌, arith, refl, sym, subst, Bool, true, false}
use Rattle.mav_links.specs.Links.{LinkState}
use Rattle.mav_router.specs.Runs.{Input, Output}
use Rattle.mav_router.proofs.TurnSteps.{clash, once_between, fewer_between, over_between}
use Rattle.mav_router.proofs.PortSteps.{on_ok, on_err}
use Rattle.mav_router.proofs.reading.read_ready.Goals as goal

pub returns-then-not-has_turns-clause-turned : goal.returns-then-not-has_turns-clause-turned
returns-then-not-has_turns-clause-turned g c = λ _ least under had.
    over_between least c.args.most c.args.lane.now under (c.has_turns.ensures.over c.if-not-has_turns.true) had

pub returns-then-not-may_read-clause-input : goal.returns-then-not-may_read-clause-input
returns-then-not-may_read-clause-input g c = λ rules first i.
    subst (λ (s : LinkState). Input rules c.args.switch.now.journal c.args.port first s c.args.lane.now) (sym c.may_read.ensures.kept) i

pub returns-then-not-may_read-clause-output : goal.returns-then-not-may_read-clause-output
returns-then-not-may_read-clause-output g c = λ frames first o.
    subst (λ (s : LinkState). Output frames first s c.args.lane.now) (sym c.may_read.ensures.kept) o

pub returns-then-not-may_read-clause-turned : goal.returns-then-not-may_read-clause-turned
returns-then-not-may_read-clause-turned g c = λ asked.
    clash _ (c.may_read.ensures.asked asked) c.if-not-may_read.true

pub returns-in-Ok-clause-input : goal.returns-in-Ok-clause-input
returns-in-Ok-clause-input g c = λ rules first i.
    c.in-Ok.ensures.input rules first (subst (λ (s : LinkState). Input rules c.args.switch.now.journal c.args.port first s c.args.lane.now) (sym c.may_read.ensures.kept) i)

pub returns-in-Err-clause-stopped : goal.returns-in-Err-clause-stopped
returns-in-Err-clause-stopped g c = λ rules first i.
    c.in-Err.ensures.stopped rules first (subst (λ (s : LinkState). Input rules c.args.switch.now.journal c.args.port first s c.args.lane.now) (sym c.may_read.ensures.kept) i)

pub returns-in-Ok-clause-output : goal.returns-in-Ok-clause-output
returns-in-Ok-clause-output g c = λ frames first o.
    c.read_port.ensures.output frames first (subst (λ (s : LinkState). Output frames first s c.args.lane.now) (sym c.may_read.ensures.kept) o)

pub returns-in-Err-clause-output : goal.returns-in-Err-clause-output
returns-in-Err-clause-output g c = λ frames first o.
    c.read_port.ensures.output frames first (subst (λ (s : LinkState). Output frames first s c.args.lane.now) (sym c.may_read.ensures.kept) o)

pub returns-in-Ok-clause-turned : goal.returns-in-Ok-clause-turned
returns-in-Ok-clause-turned g c = λ _ least under had.
    let live = c.has_turns.ensures.live c.if-not-has_turns.false in
    once_between least c.args.most c.args.lane.now c.read_port.new.lane live.0 live.1 live.2 c.ranges.most.fits c.read_port.ensures.turned had

pub returns-in-Err-clause-turned : goal.returns-in-Err-clause-turned
returns-in-Err-clause-turned g c = λ _ least under had.
    let live = c.has_turns.ensures.live c.if-not-has_turns.false in
    once_between least c.args.most c.args.lane.now c.read_port.new.lane live.0 live.1 live.2 c.ranges.most.fits c.read_port.ensures.turned had

pub returns-in-Ok-clause-turns : goal.returns-in-Ok-clause-turns
returns-in-Ok-clause-turns g c = λ least within had.
    let live = c.has_turns.ensures.live c.if-not-has_turns.false in
    fewer_between least c.args.most c.read_port.new.lane (once_between least c.args.most c.args.lane.now c.read_port.new.lane live.0 live.1 live.2 c.ranges.most.fits c.read_port.ensures.turned had)

pub returns-in-Err-clause-turns : goal.returns-in-Err-clause-turns
returns-in-Err-clause-turns g c = λ least within had.
    let live = c.has_turns.ensures.live c.if-not-has_turns.false in
    fewer_between least c.args.most c.read_port.new.lane (once_between least c.args.most c.args.lane.now c.read_port.new.lane live.0 live.1 live.2 c.ranges.most.fits c.read_port.ensures.turned had)
