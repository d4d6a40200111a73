use Rattle.std.proofs.Common.{◌≡◌, ◌++◌, ◌-◌, ◌≤◌, List, false, length, take, drop, slice_range, ap, ◌∙◌, refl, subst, arith, length-take, length-drop}
use Rattle.std.proofs.lemmas.List.{append-nil}
use Rattle.mav_frame.specs.declared.events.Event.{Event}
use Rattle.mav_stream.specs.Held.{Held}
use Rattle.mav_stream.specs.Progress.{Progress}
use Rattle.mav_sign.proofs.Streaming.{skipped_start, skipped_more, skipped_fed, frame_read, all_read}
use Rattle.mav_sign.proofs.reading.read_frame.Goals as goal

pub reading-init : goal.reading-init
reading-init c = record {
  within = omega arith;
  extras = refl;
  still = c.requires.0;
  version = c.requires.1;
  skipped = λ extras taken given progress. skipped_start extras taken c.args.piece.now given c.args.reader.now progress;
}

pub returns-in-Frame-clause-read : goal.returns-in-Frame-clause-read
returns-in-Frame-clause-read c =
    λ extras taken given progress.
    let r = c.reading in
    let to = r.invariant.skipped extras taken given progress in
    let bytes = taken ++ take r.taken c.args.piece.now in
    frame_read extras bytes given r.reader c.next.new.self c.in-Frame.frame to (c.in-Frame.ensures.progress extras false bytes (given ++ to.events) to.progress)

pub reading-preserved-in-Skipped : goal.reading-preserved-in-Skipped
reading-preserved-in-Skipped c =
    let r = c.reading in
    record {
      within = r.invariant.within;
      extras = ap (λ (h : Held). h.extras) c.in-Skipped.ensures.next.same ∙ r.invariant.extras;
      still = ap (λ (h : Held). h.ended) c.in-Skipped.ensures.next.same ∙ r.invariant.still;
      version = ap (λ (h : Held). h.reads_old) c.in-Skipped.ensures.next.same ∙ r.invariant.version;
      skipped = λ extras taken given progress.
          let to = r.invariant.skipped extras taken given progress in
          let bytes = taken ++ take r.taken c.args.piece.now in
          skipped_more extras bytes given r.reader c.next.new.self c.in-Skipped.field-0 c.in-Skipped.field-1 to (c.in-Skipped.ensures.progress extras false bytes (given ++ to.events) to.progress);
    }

pub returns-then-taken-piece-clause-read : goal.returns-then-taken-piece-clause-read
returns-then-taken-piece-clause-read c =
    λ extras taken given progress.
    let r = c.reading in
    let to = r.invariant.skipped extras taken given progress in
    let bytes = taken ++ take r.taken c.args.piece.now in
    let still : c.next.new.self.ended ≡ false = ap (λ (h : Held). h.ended) c.in-Need.ensures.next.same ∙ r.invariant.still in
    let on = subst (λ (g : List Event). Progress extras false bytes g c.next.new.self) (append-nil (given ++ to.events)) (c.in-Need.ensures.progress extras false bytes (given ++ to.events) to.progress) in
    all_read extras bytes given r.reader c.next.new.self still to on (c.in-Need.ensures.whole extras false bytes (given ++ to.events) to.progress)

pub reading-preserved : goal.reading-preserved
reading-preserved c =
    let r = c.reading in
    let piece = c.args.piece.now in
    let count = c.feed-taken.result in
    let left : length (slice_range piece r.taken (length piece)) ≡ length piece - r.taken = omega (arith, length-take (length piece - r.taken) (drop r.taken piece), length-drop r.taken piece) in
    let few : count ≤ length piece - r.taken = omega (arith, left, c.feed-taken.ensures.count) in
    let still : c.next.new.self.ended ≡ false = ap (λ (h : Held). h.ended) c.in-Need.ensures.next.same ∙ r.invariant.still in
    record {
      within = omega (arith, few, r.invariant.within);
      extras = ap (λ (h : Held). h.extras) (c.feed-taken.ensures.held) ∙ (ap (λ (h : Held). h.extras) c.in-Need.ensures.next.same ∙ r.invariant.extras);
      still = ap (λ (h : Held). h.ended) (c.feed-taken.ensures.held) ∙ still;
      version = ap (λ (h : Held). h.reads_old) (c.feed-taken.ensures.held) ∙ (ap (λ (h : Held). h.reads_old) c.in-Need.ensures.next.same ∙ r.invariant.version);
      skipped = λ extras taken given progress.
          let to = r.invariant.skipped extras taken given progress in
          let bytes = taken ++ take r.taken piece in
          let on = subst (λ (g : List Event). Progress extras false bytes g c.next.new.self) (append-nil (given ++ to.events)) (c.in-Need.ensures.progress extras false bytes (given ++ to.events) to.progress) in
          skipped_fed extras taken piece given r.reader c.feed-taken.new.self r.taken count few to (c.feed-taken.ensures.progress extras false bytes (given ++ to.events) still on);
    }
