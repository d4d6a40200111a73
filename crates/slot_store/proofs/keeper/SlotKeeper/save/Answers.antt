use Rattle.std.proofs.Common.{◌∙◌, inl, inr, ⊎_elim, refl, sym, ap, arith}
use Rattle.slot_store.specs.Layout.{contents}
use Rattle.slot_store.proofs.Moments.{one_after_another}
use Rattle.slot_store.proofs.Options.{nothing, same_value}
use Rattle.slot_store.proofs.keeper.SlotKeeper.save.Goals as goal

pub invariant_of-self : goal.invariant_of-self
invariant_of-self g c =
    let old = c.args.self.now.disk in
    let mid = c.settle.new.self.disk in
    let now = c.write_slot.new.disk in
    record {
      room = omega (arith, c.write_slot.ensures.extent, c.settle.new.self.room);
      sound = λ observable.
          let read = c.in_ok-headers.ensures.read observable in
          let run = c.write_slot.ensures.any_moment observable read in
          record {
            never_foreign = λ image left. (run.each image (g.met.D.Disk.counts_now now (g.D.Disk.moment mid) image run.later left)).0;
            durable = λ headers is. absurd (nothing headers is);
          };
    }

pub returns-in_err-after-clause-any_moment : goal.returns-in_err-after-clause-any_moment
returns-in_err-after-clause-any_moment g c = λ observable.
    let old = c.args.self.now.disk in
    let mid = c.settle.new.self.disk in
    let now = c.write_slot.new.disk in
    let s = g.D.Disk.seen mid in
    let sound = c.args.self.now.sound observable in
    let run = c.write_slot.ensures.any_moment observable (c.in_ok-headers.ensures.read observable) in
    one_after_another g.D.Disk.moment g.D.Disk.left_since old mid now _ _ _ c.settle.ensures.any_moment run
    (λ image left. (sound.never_foreign image left, inl (image, left, refl)))
    (λ image held. (held.0, ⊎_elim (λ is. inl (s, c.settle.ensures.crash s (g.met.D.Disk.seen_may_be_left mid observable), sym is)) (λ is. inr is) held.1))

pub invariant_of-self-2 : goal.invariant_of-self-2
invariant_of-self-2 g c =
    let old = c.args.self.now.disk in
    let mid = c.settle.new.self.disk in
    let now = c.write_slot.new.disk in
    record {
      room = omega (arith, c.write_slot.ensures.extent, c.settle.new.self.room);
      sound = λ observable.
          let read = c.in_ok-headers.ensures.read observable in
          let run = c.write_slot.ensures.any_moment observable read in
          let after = (c.in_ok-after.ensures.saved observable read).0 in
          record {
            never_foreign = λ image left. (run.each image (g.met.D.Disk.counts_now now (g.D.Disk.moment mid) image run.later left)).0;
            durable = λ headers is. (after.alone, sym (same_value c.in_ok-after.after headers is) ∙ after.read);
          };
    }

pub returns-clause-saved : goal.returns-clause-saved
returns-clause-saved g c = λ observable image left.
    let saved = c.in_ok-after.ensures.saved observable (c.in_ok-headers.ensures.read observable) in
    ap contents (saved.0.alone image left) ∙ saved.1

pub returns-clause-any_moment : goal.returns-clause-any_moment
returns-clause-any_moment g c = λ observable.
    let old = c.args.self.now.disk in
    let mid = c.settle.new.self.disk in
    let now = c.write_slot.new.disk in
    let s = g.D.Disk.seen mid in
    let sound = c.args.self.now.sound observable in
    let run = c.write_slot.ensures.any_moment observable (c.in_ok-headers.ensures.read observable) in
    one_after_another g.D.Disk.moment g.D.Disk.left_since old mid now _ _ _ c.settle.ensures.any_moment run
    (λ image left. (sound.never_foreign image left, inl (image, left, refl)))
    (λ image held. (held.0, ⊎_elim (λ is. inl (s, c.settle.ensures.crash s (g.met.D.Disk.seen_may_be_left mid observable), sym is)) (λ is. inr is) held.1))
