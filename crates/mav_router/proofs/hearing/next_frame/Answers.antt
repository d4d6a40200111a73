use Rattle.std.proofs.Common.{◌≡◌, ◌-◌, ◌++◌, ℕ, List, arith, sym, ap, subst, take, drop, length, map, length-take, length-drop}
use Rattle.mav_profile.specs.Messages.{extras_of}
use Rattle.mav_stream.specs.Held.{Held}
use Rattle.mav_stream.specs.Spans.{first_packet, held_after, skipped_for}
use Rattle.mav_stream.specs.declared.spans.NextSpan.TheVariants.{Frame as NextFrame}
use Rattle.link_table.specs.Routing.{has_port}
use Rattle.mav_router.specs.Runs.{PortProgress}
use Rattle.mav_router.proofs.Readings.{frame_read, bytes_skipped, all_read, stopped_at, only_bytes}
use Rattle.mav_router.proofs.Buffers.{rest_dropped, rest_then}
use Rattle.mav_router.proofs.hearing.next_frame.Goals as goal

pub returns-in-Frame-clause-found : goal.returns-in-Frame-clause-found
returns-in-Frame-clause-found c = λ rules port bytes journal after first own.
    let r = c.reading in
    let to = r.invariant.read rules port bytes journal first in
    let progress = c.in-Frame.ensures.progress (extras_of rules.known) (has_port rules.plain port) bytes to.events to.progress in
    frame_read rules port bytes r.scan (held_after r.scan (NextFrame c.in-Frame.size)) r.skipped journal after (first_packet r.scan) to progress own

pub returns-in-Frame-clause-untaken : goal.returns-in-Frame-clause-untaken
returns-in-Frame-clause-untaken c = λ rules port bytes journal after first kept.
    let r = c.reading in
    let to = r.invariant.read rules port bytes journal first in
    let progress = c.in-Frame.ensures.progress (extras_of rules.known) (has_port rules.plain port) bytes to.events to.progress in
    stopped_at c.args.scan.now.ended rules port bytes r.scan (held_after r.scan (NextFrame c.in-Frame.size)) r.skipped journal after (first_packet r.scan) (ap (λ (h : Held). h.ended) r.invariant.same) kept to progress

pub returns-in-Need-clause-all : goal.returns-in-Need-clause-all
returns-in-Need-clause-all c = λ rules port bytes journal first.
    let r = c.reading in
    let to = r.invariant.read rules port bytes journal first in
    all_read rules port bytes r.scan r.skipped journal to (c.in-Need.ensures.whole (extras_of rules.known) (has_port rules.plain port) bytes to.events to.progress)

pub reading-preserved : goal.reading-preserved
reading-preserved c =
    let r = c.reading in
    let count = c.in-Skipped.count in
    let run = take count r.scan.bytes in
    record {
      same = only_bytes c.args.scan.now r.scan c.consume.new.self (drop count r.scan.bytes) r.invariant.same c.consume.ensures;
      fewer = (let short = ap (λ (h : Held). length h.bytes) c.consume.ensures in omega (arith, short, length-drop count r.scan.bytes, r.invariant.fewer));
      rest = (let bytes = ap (λ (h : Held). h.bytes) c.consume.ensures in
          subst (λ (l : List ℕ). l ≡ drop (length c.args.scan.now.bytes - length l) c.args.scan.now.bytes) (sym bytes)
          (rest_then c.args.scan.now.bytes r.scan.bytes (drop count r.scan.bytes) r.invariant.fewer (omega (arith, length-drop count r.scan.bytes)) r.invariant.rest (rest_dropped r.scan.bytes count c.in-Skipped.ensures.within)));
      read = λ rules port bytes journal first.
          let to = r.invariant.read rules port bytes journal first in
          let found = c.in-Skipped.ensures.progress (extras_of rules.known) (has_port rules.plain port) bytes to.events to.progress in
          let progress = subst (λ (h : Held). PortProgress rules port bytes (to.events ++ map (skipped_for c.in-Skipped.field-0) run) h) (sym c.consume.ensures) found in
          bytes_skipped rules port bytes run r.scan c.consume.new.self r.skipped c.saturating_add.result count journal c.in-Skipped.field-0 to progress (omega (arith, length-take count r.scan.bytes, c.in-Skipped.ensures.within)) (omega (arith, c.saturating_add.ensures));
    }
