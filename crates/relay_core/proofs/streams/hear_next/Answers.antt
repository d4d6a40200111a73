use Rattle.std.proofs.Common.{◌∙◌, ◌<◌, List, ℕ, length, arith, ap, subst, sym}
use Rattle.mav_frame.specs.Packet.{Packet}
use Rattle.mav_frame.specs.Encoding.{encoding}
use Rattle.mav_stream.specs.Held.{Held}
use Rattle.link_table.specs.OpenLinks.{has_link}
use Rattle.relay_rules.specs.Kept.{Represents}
use Rattle.relay_rules.specs.States.{RelayState}
use Rattle.relay_core.specs.RelayRuns.{RelayKept}
use Rattle.relay_core.specs.Waitings.{WaitsAt}
use Rattle.relay_core.specs.Moves.{IsTried, Moved, Stops, held_at}
use Rattle.relay_core.proofs.Fewer.{fewer_held, held_there, others_kept}
use Rattle.relay_core.proofs.FrameSteps.{frame_moves, skip_moves}
use Rattle.relay_core.proofs.Halves.{needs_rest}
use Rattle.relay_core.proofs.Results.{on_err}
use Rattle.relay_core.proofs.Stopping.{stops_before, stops_waiting}
use Rattle.relay_core.proofs.Telling.{moves_none}
use Rattle.relay_core.proofs.streams.hear_next.Goals as goal

pub returns-in-Need-clause-moves : goal.returns-in-Need-clause-moves
returns-in-Need-clause-moves g c =
    moves_none c.args.rules.now (record { links = c.args.links.now; scanners = c.args.scanners.now; queues = c.args.queues.now }) g.W.Watcher.told c.args.watcher.now

pub returns-in-Need-clause-rests : goal.returns-in-Need-clause-rests
returns-in-Need-clause-rests g c = λ e live.
    let scanners = c.args.scanners.now in
    let there = held_there scanners c.args.index (omega (arith, c.requires.within, c.requires.scanners)) in
    needs_rest (held_at scanners c.args.index) (c.in-Need.ensures (held_at scanners c.args.index) there) live

pub returns-in-Skipped-clause-moves : goal.returns-in-Skipped-clause-moves
returns-in-Skipped-clause-moves g c = λ start run is h.
    let scanners = c.args.scanners.now in
    let index = c.args.index in
    let held = held_at scanners index in
    let told = g.W.Watcher.told in
    let watcher = c.args.watcher.now in
    let there = held_there scanners index (omega (arith, c.requires.within, c.requires.scanners)) in
    subst (λ (l : List Held). Moved c.args.rules.now start run (record { links = c.args.links.now; scanners = l; queues = c.args.queues.now }) told watcher watcher) (sym (c.consume.ensures.held held there))
    (skip_moves c.args.rules.now start run index c.in-Skipped.count c.in-Skipped.field-0 c.args.links.now scanners c.args.queues.now told watcher held there (c.in-Skipped.ensures held there) is h)

pub returns-in-Skipped-clause-others : goal.returns-in-Skipped-clause-others
returns-in-Skipped-clause-others g c =
    let scanners = c.args.scanners.now in
    let index = c.args.index in
    let there = held_there scanners index (omega (arith, c.requires.within, c.requires.scanners)) in
    others_kept scanners c.consume.new.self index c.in-Skipped.count c.consume.ensures.count (c.consume.ensures.held (held_at scanners index) there)

pub returns-in-Skipped-clause-fewer : goal.returns-in-Skipped-clause-fewer
returns-in-Skipped-clause-fewer g c = λ e.
    let scanners = c.args.scanners.now in
    let index = c.args.index in
    let held = held_at scanners index in
    let within : index < length scanners = omega (arith, c.requires.within, c.requires.scanners) in
    let there = held_there scanners index within in
    let next = c.in-Skipped.ensures held there in
    fewer_held scanners c.consume.new.self index c.in-Skipped.count within (c.consume.ensures.held held there) next.some next.within

pub returns-in_ok-pass_on-in-Frame-clause-moves : goal.returns-in_ok-pass_on-in-Frame-clause-moves
returns-in_ok-pass_on-in-Frame-clause-moves g c = λ start run is h.
    let scanners = c.args.scanners.now in
    let index = c.args.index in
    let held = held_at scanners index in
    let rules = c.args.rules.now in
    let links = c.args.links.now in
    let queues = c.args.queues.now in
    let later = c.try_frame.new.links in
    let waiting = c.pass_on.new.self in
    let bits = c.in_ok-ways-in-Frame.ways.bits in
    let told = g.W.Watcher.told in
    let watcher = c.args.watcher.now in
    let telling = c.try_frame.new.watcher in
    let there = held_there scanners index (omega (arith, c.requires.within, c.requires.scanners)) in
    let packet = c.raw_frame-frame.ensures held there in
    let tried = subst (λ (p : Packet). (state : RelayState) → Represents links state → IsTried rules index bits p state later told watcher telling) packet c.in_ok-ways-in-Frame.ensures.tries in
    let waits = subst (λ (b : List ℕ). WaitsAt (length queues) (has_link bits) b queues waiting) (c.bytes.ensures.bytes ∙ ap encoding packet) c.in_ok-pass_on-in-Frame.ensures.queues in
    subst (λ (l : List Held). Moved rules start run (record { links = later; scanners = l; queues = waiting }) told watcher telling) (sym (c.consume-in-Frame.ensures.held held there))
    (frame_moves rules start run index c.in-Frame.size bits links later scanners queues waiting told watcher telling held c.requires.within there (c.in-Frame.ensures held there) tried waits is h)

pub returns-in_err-ways-in-Frame-clause-stops : goal.returns-in_err-ways-in-Frame-clause-stops
returns-in_err-ways-in-Frame-clause-stops g c =
    let view : RelayKept = record { links = c.args.links.now; scanners = c.args.scanners.now; queues = c.args.queues.now } in
    let told = g.W.Watcher.told in
    let watcher = c.args.watcher.now in
    let telling = c.try_frame.new.watcher in
    on_err c.from_residual.result (Stops c.args.rules.now view told watcher telling)
    (stops_before c.args.rules.now view told watcher telling c.requires.scanners c.requires.queues c.in_err-ways-in-Frame.ensures.untold)

pub returns-in_err-pass_on-in-Frame-clause-stops : goal.returns-in_err-pass_on-in-Frame-clause-stops
returns-in_err-pass_on-in-Frame-clause-stops g c =
    let scanners = c.args.scanners.now in
    let index = c.args.index in
    let held = held_at scanners index in
    let rules = c.args.rules.now in
    let links = c.args.links.now in
    let queues = c.args.queues.now in
    let later = c.try_frame.new.links in
    let bits = c.in_ok-ways-in-Frame.ways.bits in
    let told = g.W.Watcher.told in
    let watcher = c.args.watcher.now in
    let telling = c.try_frame.new.watcher in
    let there = held_there scanners index (omega (arith, c.requires.within, c.requires.scanners)) in
    let tried = subst (λ (p : Packet). (state : RelayState) → Represents links state → IsTried rules index bits p state later told watcher telling) (c.raw_frame-frame.ensures held there) c.in_ok-ways-in-Frame.ensures.tries in
    on_err c.from_residual-in_err-pass_on-in-Frame.result (Stops rules (record { links = links; scanners = scanners; queues = queues }) told watcher telling)
    (stops_waiting rules index c.in-Frame.size bits links later scanners queues told watcher telling held c.requires.within c.requires.scanners c.requires.queues c.in_ok-ways-in-Frame.ensures.links there (c.in-Frame.ensures held there) tried)

pub returns-in_ok-pass_on-in-Frame-clause-others : goal.returns-in_ok-pass_on-in-Frame-clause-others
returns-in_ok-pass_on-in-Frame-clause-others g c =
    let scanners = c.args.scanners.now in
    let index = c.args.index in
    let there = held_there scanners index (omega (arith, c.requires.within, c.requires.scanners)) in
    others_kept scanners c.consume-in-Frame.new.self index c.in-Frame.size c.consume-in-Frame.ensures.count (c.consume-in-Frame.ensures.held (held_at scanners index) there)

pub returns-in_ok-pass_on-in-Frame-clause-fewer : goal.returns-in_ok-pass_on-in-Frame-clause-fewer
returns-in_ok-pass_on-in-Frame-clause-fewer g c = λ e.
    let scanners = c.args.scanners.now in
    let index = c.args.index in
    let held = held_at scanners index in
    let within : index < length scanners = omega (arith, c.requires.within, c.requires.scanners) in
    let there = held_there scanners index within in
    let next = c.in-Frame.ensures held there in
    fewer_held scanners c.consume-in-Frame.new.self index c.in-Frame.size within (c.consume-in-Frame.ensures.held held there) next.some next.within
