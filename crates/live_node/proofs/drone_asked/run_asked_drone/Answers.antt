use Rattle.std.proofs.Common.{◌≡◌, ◌∙◌, inl, inr, refl, sym, true, false, None}
use Rattle.std.proofs.lemmas.Result.{err_from_is_err_and}
use Rattle.run_status.specs.declared.run_ends.RunEnd.TheVariants.{Usage}
use Rattle.command_line.specs.declared.commands.OptionName.TheVariants.{Store}
use Rattle.command_line.specs.Forms.{has_given}
use Rattle.command_line.specs.Lines.{asked_by}
use Rattle.live_node.proofs.DroneAsked.{flown_at, stored_at, no_words, why_ended}
use Rattle.live_node.proofs.drone_asked.run_asked_drone.Goals as goal

pub returns-in_err-key-clause-flown : goal.returns-in_err-key-clause-flown
returns-in_err-key-clause-flown g c =
    let e = err_from_is_err_and c.from_residual.result c.from_residual.ensures.1 in
    rw (e.1, e.2) (inl (c.in_err-key.ensures.halts _ _, refl, c.in_err-key.ensures.within, (refl, refl, refl)))

pub returns-in_err-key-clause-not_usage : goal.returns-in_err-key-clause-not_usage
returns-in_err-key-clause-not_usage g c = λ usage.
    let e = err_from_is_err_and c.from_residual.result c.from_residual.ensures.1 in
    let is : c.in_err-key.field-0.0 ≡ Usage = cc (usage, e.1, e.2) in
    no_words _ _ _ _ _ _ c.in_err-key.field-0.0 (c.in_err-key.ensures.halts 0 None) is

pub returns-then-has-clause-flown : goal.returns-then-has-clause-flown
returns-then-has-clause-flown g c =
    let run = c.run_drone in
    let says = c.requires.says in
    let named : has_given Store (asked_by c.args.line.now).settings ≡ true = sym c.has.ensures ∙ c.if-has.true in
    inr (
      c.in_ok-key.key,
      c.in_ok-key.ensures.holds,
      flown_at _ _ (asked_by c.args.line.now) c.args.ports.now.items c.index_mut.result.now run.new.link c.args.keepers.now.items _ _ _ _ _ _ (record { sys = c.args.line.now.system; turns = c.turns.result }) says.port true c.requires.link c.index_mut.ensures.value
          says.plain_is says.least c.turns.ensures.asked named
          (stored_at _ c.in_ok-key.key (record { sys = c.args.line.now.system; turns = c.turns.result }) c.args.keepers.now.items c.index_mut-then-has.result.now run.new.keeper _ _ _ (c.requires.store named) c.index_mut-then-has.ensures.value run.ensures.runs)
          (why_ended run.result _ run.ensures.end) run.ensures.faults,
    )

pub returns-else-has-clause-flown : goal.returns-else-has-clause-flown
returns-else-has-clause-flown g c =
    let run = c.run_new_drone in
    let says = c.requires.says in
    let named : has_given Store (asked_by c.args.line.now).settings ≡ false = sym c.has.ensures ∙ c.if-has.false in
    inr (
      c.in_ok-key.key,
      c.in_ok-key.ensures.holds,
      flown_at _ _ (asked_by c.args.line.now) c.args.ports.now.items c.index_mut-else-has.result.now run.new.link c.args.keepers.now.items _ _ _ _ _ _ (record { sys = c.args.line.now.system; turns = c.turns.result }) says.port false c.requires.link c.index_mut-else-has.ensures.value
          says.plain_is says.least c.turns.ensures.asked named
          (run.ensures.runs, refl)
          (why_ended run.result _ run.ensures.end) run.ensures.faults,
    )
