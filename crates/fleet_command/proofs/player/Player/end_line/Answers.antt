use Rattle.std.proofs.Common.{◌≡◌, refl, ap, subst, ◌∙◌, arith, ℕ, List, ◌≤◌, ◌<◌, length}
use Rattle.std.proofs.lemmas.Bool.{lt-ltb, le-ltb}
use Rattle.std.proofs.lemmas.Result.{err_from_is_err_and}
use Rattle.scenario_lines.specs.Reasons.{reason_against}
use Rattle.fleet_world.specs.WorldState.{context_of}
use Rattle.fleet_world.specs.Scenario.{Played, Too_many_lines, stopped, judged, report_of, line_played}
use Rattle.scenario_lines.specs.FileLines.{without_cr}
use Rattle.fleet_command.specs.Plays.{Holds, HaltedAt}
use Rattle.fleet_command.proofs.player.Player.end_line.Goals as goal

too_many : (p : Played) (number : ℕ) (raw : List ℕ) → 100000 < number → line_played p number raw ≡ stopped p Too_many_lines
too_many p number raw many = rw (lt-ltb 100000 number many) refl

-- what a line leads to that isn't too long, if there are not too many
in_bounds : (p : Played) (number : ℕ) (raw text : List ℕ) → number ≤ 100000 → length raw ≤ 4096 → text ≡ without_cr raw → judged p number text (reason_against (context_of p.state) text) ≡ line_played p number raw
in_bounds p number raw text few short is = rw (is, le-ltb 100000 number few, le-ltb 4096 (length raw) short) refl

pub returns-then-self-gt-MOST_LINES-clause-played : goal.returns-then-self-gt-MOST_LINES-clause-played
returns-then-self-gt-MOST_LINES-clause-played g c = λ frames p before holds.
    rw (too_many p c.args.self.now.number c.args.self.now.line.items c.if-self-gt-MOST_LINES.true) (refl, holds.sent)

pub returns-in_err-play_line-clause-played : goal.returns-in_err-play_line-clause-played
returns-in_err-play_line-clause-played g c =
    let e = err_from_is_err_and c.from_residual.result c.from_residual.ensures.1 in
    let old = c.args.self.now in
    let short : length old.line.items ≤ 4096 = omega (arith, old.short) in
    rw (e.1, e.2) (λ frames p before holds.
    subst (λ q. HaltedAt frames c.in_err-play_line.field-0.0 q (report_of frames q) before (g.K.Sink.sent c.play_line.new.out))
    (in_bounds p old.number old.line.items c.without_cr.result.now c.if-self-gt-MOST_LINES.false short (c.without_cr.ensures ∙ ap without_cr c.deref.ensures.value))
    (c.in_err-play_line.ensures.played frames p before holds))

pub returns-in_err-play_line-clause-rose : goal.returns-in_err-play_line-clause-rose
returns-in_err-play_line-clause-rose g c =
    let e = err_from_is_err_and c.from_residual.result c.from_residual.ensures.1 in
    rw (e.1, e.2) c.in_err-play_line.ensures.rose

pub returns-in_err-play_line-clause-sound : goal.returns-in_err-play_line-clause-sound
returns-in_err-play_line-clause-sound g c =
    let e = err_from_is_err_and c.from_residual.result c.from_residual.ensures.1 in
    rw (e.1, e.2) c.in_err-play_line.ensures.sound

pub returns-clause-played : goal.returns-clause-played
returns-clause-played g c =
    let old = c.args.self.now in
    let short : length old.line.items ≤ 4096 = omega (arith, old.short) in
    λ frames p before holds.
    subst (λ q. Holds frames q c.play_line.new.world before (g.K.Sink.sent c.play_line.new.out))
    (in_bounds p old.number old.line.items c.without_cr.result.now c.if-self-gt-MOST_LINES.false short (c.without_cr.ensures ∙ ap without_cr c.deref.ensures.value))
    (c.in_ok-play_line.ensures.played frames p before holds)

pub returns-clause-sound : goal.returns-clause-sound
returns-clause-sound g c = c.in_ok-play_line.ensures.sound

pub returns-clause-next : goal.returns-clause-next
returns-clause-next g c = (refl, c.clear.ensures.items, c.if-self-gt-MOST_LINES.false)
