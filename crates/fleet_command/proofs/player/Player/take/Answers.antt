use Rattle.std.proofs.Common.{◌≡◌, ◌≤◌, ◌+◌, ◌∷◌, ◌++◌, [], ℕ, List, Bool, Option, Result, Ok, Err, OnOk, refl, arith, length, length-append, ◌<◌}
use Rattle.std.proofs.lemmas.Result.{err_from_is_err_and}
use Rattle.fleet_world.specs.WorldView.{WorldView}
use Rattle.fleet_world.specs.Scenario.{line_played}
use Rattle.run_status.specs.declared.run_ends.RunEnd.{RunEnd}
use Rattle.fleet_command.specs.Plays.{Reading, Leads, budget}
use Rattle.fleet_command.proofs.Steps.{HaltedBy, if_err_leads, halted_next, reading_front, reading_next, reading_held, reading_long}
use Rattle.fleet_command.proofs.player.Player.take.Goals as goal

-- what a line that is done leaves to read
next_on : {T : Type 0} (key : List ℕ) (frames : Bool) (result : Result T RunEnd) (taken : List ℕ) (old_world world : WorldView) (number next b : ℕ) (part line : List ℕ) (before old now : Option (List ℕ)) (r : Reading key frames taken old_world number part before old) → b ≡ 10 → Leads frames result (line_played r.soFar number part) world before now → OnOk result ((next ≡ number + 1) × (line ≡ []) × (number ≤ 100000)) → OnOk result (Reading key frames (taken ++ b ∷ []) world next line before now)
next_on key frames (Ok x) taken old_world world number next b part line before old now r at_end leads (e, f, _) = rw (e, f) (reading_next key frames taken old_world world number b part before old now r at_end leads)
next_on key frames (Err run_end) taken old_world world number next b part line before old now r at_end leads moved = tt

-- a line that is done spends a byte
next_spends : {T : Type 0} (result : Result T RunEnd) (number next : ℕ) (part line : List ℕ) → length part ≤ 4096 → OnOk result ((next ≡ number + 1) × (line ≡ []) × (number ≤ 100000)) → OnOk result (budget next line + 1 ≤ budget number part)
next_spends (Ok x) number next part line short (e, f, few) = rw (e, f) (omega arith)
next_spends (Err run_end) number next part line short moved = tt

held_spends : (number b : ℕ) (part now : List ℕ) → number ≤ 100001 → length part + 1 ≤ 4096 → now ≡ part ++ b ∷ [] → budget number now + 1 ≤ budget number part
held_spends number b part now few short is = rw is (omega (arith, length-append part (b ∷ [])))

pub returns-then-byte-eq10-clause-taken : goal.returns-then-byte-eq10-clause-taken
returns-then-byte-eq10-clause-taken g c = λ key frames taken before r.
    let old = c.args.self.now in
    let new = c.end_line.new.self in
    next_on key frames c.end_line.result taken old.world new.world old.number new.number c.args.byte old.line.items new.line.items before (g.K.Sink.sent c.args.out.now) (g.K.Sink.sent c.end_line.new.out) r c.if-byte-eq10.true
    (c.end_line.ensures.played frames r.soFar before r.holds) c.end_line.ensures.next

pub returns-then-byte-eq10-clause-halted : goal.returns-then-byte-eq10-clause-halted
returns-then-byte-eq10-clause-halted g c = λ key frames taken before r ended rest.
    let old = c.args.self.now in
    let now = g.K.Sink.sent c.end_line.new.out in
    if_err_leads key frames c.end_line.result (line_played r.soFar old.number old.line.items) c.end_line.new.self.world before now
    (λ run_end. HaltedBy key frames run_end ended (taken ++ c.args.byte ∷ rest) before now)
    (c.end_line.ensures.played frames r.soFar before r.holds)
    (λ run_end halted. halted_next key frames run_end taken old.world old.number c.args.byte old.line.items before (g.K.Sink.sent c.args.out.now) now r c.if-byte-eq10.true ended rest halted)

pub returns-then-byte-eq10-clause-spends : goal.returns-then-byte-eq10-clause-spends
returns-then-byte-eq10-clause-spends g c =
    let old = c.args.self.now in
    let short : length old.line.items ≤ 4096 = omega (arith, old.short) in
    next_spends c.end_line.result old.number c.end_line.new.self.number old.line.items c.end_line.new.self.line.items short c.end_line.ensures.next

pub returns-then-byte-eq10-clause-rose : goal.returns-then-byte-eq10-clause-rose
returns-then-byte-eq10-clause-rose g c = c.end_line.ensures.rose

pub returns-then-byte-eq10-clause-sound : goal.returns-then-byte-eq10-clause-sound
returns-then-byte-eq10-clause-sound g c = c.end_line.ensures.sound

pub returns-then-len-eq-MOST_LINE_BYTES-clause-halted : goal.returns-then-len-eq-MOST_LINE_BYTES-clause-halted
returns-then-len-eq-MOST_LINE_BYTES-clause-halted g c =
    let old = c.args.self.now in
    let long : 4096 < length old.line.items + 1 = omega (arith, c.len.ensures, c.if-len-eq-MOST_LINE_BYTES.true) in
    rw c.too_long.ensures (λ key frames taken before r ended rest.
    reading_long key frames taken old.world old.number c.args.byte old.line.items before (g.K.Sink.sent c.args.out.now) r c.if-byte-eq10.false long ended rest)

pub returns-in_err-push-clause-taken : goal.returns-in_err-push-clause-taken
returns-in_err-push-clause-taken g c =
    let e = err_from_is_err_and c.from_residual.result c.from_residual.ensures.1 in
    rw e.1 (λ key frames taken before r. tt)

pub returns-in_err-push-clause-halted : goal.returns-in_err-push-clause-halted
returns-in_err-push-clause-halted g c =
    let e = err_from_is_err_and c.from_residual.result c.from_residual.ensures.1 in
    rw (e.1, e.2) (λ key frames taken before r ended rest.
    reading_front key frames taken c.args.self.now.world c.args.self.now.number c.args.self.now.line.items before (g.K.Sink.sent c.args.out.now) r ended (c.args.byte ∷ rest))

pub returns-in_err-push-clause-spends : goal.returns-in_err-push-clause-spends
returns-in_err-push-clause-spends g c =
    let e = err_from_is_err_and c.from_residual.result c.from_residual.ensures.1 in
    rw e.1 tt

pub returns-in_err-push-clause-rose : goal.returns-in_err-push-clause-rose
returns-in_err-push-clause-rose g c =
    let e = err_from_is_err_and c.from_residual.result c.from_residual.ensures.1 in
    rw (e.1, e.2) (λ never. absurd (cc never))

pub returns-in_err-push-clause-sound : goal.returns-in_err-push-clause-sound
returns-in_err-push-clause-sound g c = λ other. refl

pub returns-clause-taken : goal.returns-clause-taken
returns-clause-taken g c =
    let old = c.args.self.now in
    let fits : length old.line.items + 1 ≤ 4096 = omega (arith, c.len.ensures, c.if-len-eq-MOST_LINE_BYTES.false, old.short) in
    rw c.in_ok-push.ensures.items (λ key frames taken before r.
    reading_held key frames taken old.world old.number c.args.byte old.line.items before (g.K.Sink.sent c.args.out.now) r c.if-byte-eq10.false fits)

pub returns-clause-spends : goal.returns-clause-spends
returns-clause-spends g c =
    let old = c.args.self.now in
    let fits : length old.line.items + 1 ≤ 4096 = omega (arith, c.len.ensures, c.if-len-eq-MOST_LINE_BYTES.false, old.short) in
    held_spends old.number c.args.byte old.line.items c.push.new.self.items old.few fits c.in_ok-push.ensures.items
