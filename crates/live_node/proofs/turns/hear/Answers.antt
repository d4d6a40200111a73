use Rattle.std.proofs.Common.{ℕ, List, ◌++◌, ◌∙◌, subst}
use Rattle.mav_sign.specs.Endpoints.{frames_of}
use Rattle.mav_nodes.specs.Streams.{GrowsBy}
use Rattle.live_node.specs.Calls.{Hears}
use Rattle.live_node.proofs.Calls.{told_by, output_later, on_time}
use Rattle.live_node.proofs.Pieces.{piece_stopped, piece_broken, node_extras}
use Rattle.live_node.proofs.turns.hear.Goals as goal

pub returns-in-Ok-clause-did : goal.returns-in-Ok-clause-did
returns-in-Ok-clause-did g c = λ before start made first extras taken given o known heard.
    let at = c.now-now.result in
    let p = c.in-Ok.ensures.done o.node taken given o.is heard in
    let grows : GrowsBy extras (taken ++ c.args.piece.now) given p.events = subst (λ (e : List (ℕ × ℕ)). GrowsBy e (taken ++ c.args.piece.now) given p.events) (node_extras o.node _ o.is ∙ known) p.grows in
    told_by (Hears (frames_of p.events) p.keeps at) c.tell.result _ _ _ _
    (record { output = o; stays = c.now-now.ensures.stays; did = p.did; serves = c.part.ensures.serves; kept = p.is_kept; stored = c.in-Ok.ensures.stored; values_are = c.params.ensures; said = rw c.deref.ensures.value at c.tell.ensures.said })
    c.tell.ensures.end c.tell.ensures.faults
    (λ told output. record {
      clock = at;
      timed = on_time _ _ at o.time c.now-now.ensures.answer;
      events = p.events;
      keeps = p.keeps;
      grows = grows;
      heard = p.heard;
      same = p.same ∙ (node_extras o.node _ o.is ∙ known);
      output = output;
    })
    (λ end telling stopped. piece_stopped at p.events p.keeps (on_time _ _ at o.time c.now-now.ensures.answer) grows stopped)

pub returns-in-Err-clause-did : goal.returns-in-Err-clause-did
returns-in-Err-clause-did g c = λ before start made first extras taken given o known heard.
    let at = c.now-now.result in
    rw c.end_by.ensures (piece_broken at c.in-Err.fault (on_time _ _ at o.time c.now-now.ensures.answer) (output_later _ _ c.now-now.ensures.stays o) known heard c.part.ensures.serves c.in-Err.ensures.fault (c.in-Err.ensures.given o.stored))
