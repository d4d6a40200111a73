use Rattle.std.proofs.Common.{◌≡◌, ◌-◌, ◌++◌, ◌∙◌, ℕ, List, length, take, drop, sym, ap, arith, length-take, length-drop}
use Rattle.log_rows.proofs.LeftFrames.{part_written, handed_on}
use borrow.Rule.Slice.PartMut.{put_mid, same_len_mid}
use Rattle.log_rows.proofs.replay_rows.Rows.give.Goals as goal

pub loop-count-preserved : goal.loop-count-preserved
loop-count-preserved c =
    let l = c.loop-count in let count : ℕ = l.count in let more : ℕ = c.hand_out-count.result in
    let buffer : List ℕ = l.buf in let part : List ℕ = c.hand_out-count.new.buf in
    let room : ℕ = length buffer - count in
    let e = c.hand_out-count.ensures in
    let same : length (put_mid count room buffer part) ≡ length buffer = same_len_mid count room buffer part e.length in
    let long = e.length ∙ length-take room (drop count buffer) in let behind = length-drop count buffer in
    let fits = e.within in
    let within = l.invariant.within in
    record {
      within = omega (arith, same, long, behind, fits, within);
      room = same ∙ l.invariant.room;
      ended = e.ended ∙ c.if-find.ensures.ended ∙ l.invariant.ended;
      left = λ rest over.
          l.invariant.left rest over
          ∙ ap (λ (z : List ℕ). take count buffer ++ z) (c.if-find.ensures.left rest (λ t. over (sym l.invariant.ended ∙ t)))
          ∙ handed_on count more buffer part _ c.find.new.self c.hand_out-count.new.self rest e.frame e.bytes e.extras (part_written buffer part count room more l.invariant.within e.within);
    }
