use Rattle.std.proofs.Common.{◌≡◌, ◌≤◌, ◌<◌, ◌+◌, ◌∷◌, ◌++◌, [], ℕ, List, length, get_or, subst, sym, ap, ◌∙◌, take, drop, suc, refl, arith, append_assoc, append-nil, Ok, Err}
use Rattle.run_status.specs.declared.run_ends.RunEnd.{RunEnd}
use Rattle.run_status.specs.declared.run_ends.RunEnd.TheVariants.{WriteFault}
use Rattle.std.proofs.lemmas.List.{take_more, take_all}
use Rattle.mav_ports.specs.Counts.{Rose}
use Rattle.std.proofs.lemmas.Result.{err_from_is_err_and}
use Rattle.fleet_command.specs.Plays.{Reading, budget}
use Rattle.command_inputs.proofs.LineSteps.{piece_after}
use Rattle.fleet_command.proofs.Steps.{HaltedBy}
use Rattle.fleet_command.proofs.player.Player.feed.Goals as goal

piece_next : (taken piece : List ℕ) (i : ℕ) → i < length piece → (taken ++ take i piece) ++ get_or piece i 0 ∷ [] ≡ taken ++ take (i + 1) piece
piece_next taken piece i below =
    append_assoc taken (take i piece) (get_or piece i 0 ∷ []) ∙ ap (λ bytes. taken ++ bytes) (sym (take_more piece i 0 below))

-- how the budget falls
starts : (n : ℕ) → n + 0 ≤ n
starts n = omega arith

not_ok : {T : Type 0} (x : T) (run_end : RunEnd) → Ok x ≡ Err run_end → ⊥
not_ok x run_end e = cc

falls : (new at start i : ℕ) → new + 1 ≤ at → at + i ≤ start → new + (i + 1) ≤ start
falls new at start i one before = omega arith

fell : (at start i most : ℕ) → most ≤ i → at + i ≤ start → at + most ≤ start
fell at start i most all before = omega arith

pub returns-in_err-take-clause-halted : goal.returns-in_err-take-clause-halted
returns-in_err-take-clause-halted g c =
    let e = err_from_is_err_and c.from_residual.result c.from_residual.ensures.1 in
    let i = c.loop-byte.byte-index in
    let piece = c.args.piece.now in
    let run_end = c.in_err-take.field-0.0 in
    let now = g.K.Sink.sent c.take.new.out in
    rw (e.1, e.2) (λ key frames taken before r ended.
    subst (λ bytes. HaltedBy key frames run_end ended bytes before now) (piece_after taken piece i c.loop-byte-test.true)
    (c.in_err-take.ensures.halted key frames (taken ++ take i piece) before (c.loop-byte.invariant.reading key frames taken before r) ended (drop (suc i) piece)))

pub loop-byte-init : goal.loop-byte-init
loop-byte-init g c = record {
  reading = λ key frames taken before r. rw (append-nil taken) r;
  spends = starts (budget c.args.self.now.number c.args.self.now.line.items);
  faults = refl;
}

pub loop-byte-preserved : goal.loop-byte-preserved
loop-byte-preserved g c =
    let inv = c.loop-byte.invariant in
    let i = c.loop-byte.byte-index in
    let piece = c.args.piece.now in
    let old = c.loop-byte.self in
    let new = c.take.new.self in
    record {
      reading = λ key frames taken before r.
          subst (λ bytes. Reading key frames bytes new.world new.number new.line.items before (g.K.Sink.sent c.take.new.out)) (piece_next taken piece i c.loop-byte-test.true)
          (c.in_ok-take.ensures.taken key frames (taken ++ take i piece) before (inv.reading key frames taken before r));
      spends = falls (budget new.number new.line.items) (budget old.number old.line.items) (budget c.args.self.now.number c.args.self.now.line.items) i c.in_ok-take.ensures.spends inv.spends;
      faults = c.in_ok-take.ensures.sound (not_ok tt WriteFault) ∙ inv.faults;
    }

pub returns-in_err-take-clause-taken : goal.returns-in_err-take-clause-taken
returns-in_err-take-clause-taken g c =
    let e = err_from_is_err_and c.from_residual.result c.from_residual.ensures.1 in
    rw e.1 (λ key frames taken before r. tt)

pub returns-in_err-take-clause-spends : goal.returns-in_err-take-clause-spends
returns-in_err-take-clause-spends g c =
    let e = err_from_is_err_and c.from_residual.result c.from_residual.ensures.1 in
    rw e.1 tt

pub returns-in_err-take-clause-rose : goal.returns-in_err-take-clause-rose
returns-in_err-take-clause-rose g c =
    let e = err_from_is_err_and c.from_residual.result c.from_residual.ensures.1 in
    rw (e.1, e.2) (λ refused. subst (λ n. Rose n (g.K.Sink.faults c.take.new.out)) c.loop-byte.invariant.faults (c.in_err-take.ensures.rose refused))

pub returns-in_err-take-clause-sound : goal.returns-in_err-take-clause-sound
returns-in_err-take-clause-sound g c =
    let e = err_from_is_err_and c.from_residual.result c.from_residual.ensures.1 in
    rw (e.1, e.2) (λ other. c.in_err-take.ensures.sound other ∙ c.loop-byte.invariant.faults)

pub returns-clause-taken : goal.returns-clause-taken
returns-clause-taken g c = λ key frames taken before r.
    let end = c.loop-byte.self in
    subst (λ bytes. Reading key frames (taken ++ bytes) end.world end.number end.line.items before (g.K.Sink.sent c.loop-byte.out)) (take_all c.loop-byte.byte-index c.args.piece.now c.loop-byte-test.false)
    (c.loop-byte.invariant.reading key frames taken before r)

pub returns-clause-halted : goal.returns-clause-halted
returns-clause-halted g c = λ key frames taken before r ended. tt

pub returns-clause-spends : goal.returns-clause-spends
returns-clause-spends g c =
    let end = c.loop-byte.self in
    fell (budget end.number end.line.items) (budget c.args.self.now.number c.args.self.now.line.items) c.loop-byte.byte-index (length c.args.piece.now) c.loop-byte-test.false c.loop-byte.invariant.spends
