use Rattle.std.proofs.Common.{◌≡◌, ◌≤◌, ℕ, ◌+◌, ◌-◌, true, List, ◌++◌, length, take, drop, sym, ap, ◌∙◌, subst, arith, length-take, take-add}
use Rattle.std.proofs.lemmas.List.{take-take}
use Rattle.mav_stream.specs.Held.{Held}
use Rattle.mav_stream.specs.Progress.{Progress}
use Rattle.test_wire.proofs.streams.read_in_pieces.Goals as goal

-- the bytes taken, and those of the next piece
one_more : (place count size : ℕ) (bytes : List ℕ) → count ≤ size → take place bytes ++ take count (take size (drop place bytes)) ≡ take (place + count) bytes
one_more place count size bytes h =
    ap (λ (piece : List ℕ). take place bytes ++ piece) (take-take count size (drop place bytes) h) ∙ sym (take-add place count bytes)

pub loop-place-preserved : goal.loop-place-preserved
loop-place-preserved c =
    let l = c.loop-place in let b = c.args.bytes.now in let place = l.place in let n = c.feed-place.result in
    let inv = l.invariant in let test = c.loop-place-test.true in let size = c.min.result in
    let count = c.feed-place.ensures.count in
    let long : length (take (place + size - place) (drop place b)) ≤ size = omega (arith, length-take (place + size - place) (drop place b)) in
    let short : n ≤ size = omega arith in
    let fits : size ≤ length b - place = (let m = c.min.ensures in omega arith) in
    record {
      within = omega arith;
      room = c.in_ok-drain.ensures.room;
      still = c.in_ok-drain.ensures.ended ∙ (ap (λ (h : Held). h.ended) c.feed-place.ensures.held ∙ inv.still);
      progress =
          let fed = c.feed-place.ensures.progress c.args.extras true (take place b) l.events.items inv.still inv.progress in
          let same = one_more place n (place + size - place) b (omega arith) in
          (c.in_ok-drain.ensures.progress c.args.extras true (take (place + n) b) (subst (λ (z : List ℕ). Progress c.args.extras true z l.events.items c.feed-place.new.self) same fed)).0;
    }
