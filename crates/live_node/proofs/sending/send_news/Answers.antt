use Rattle.std.proofs.Common.{◌≡◌, ◌∙◌, ◌++◌, ◌+◌, ◌<◌, length, drop, drop-cons, add-one, arith}
use Rattle.mav_ports.proofs.Known.{sent_in, sent_step}
use Rattle.mav_nodes.specs.News.{said_by, events_of}
use Rattle.live_node.specs.Texts.{frames_text, frame_bytes}
use Rattle.live_node.proofs.Ports.{same_twice}
use Rattle.live_node.proofs.sending.send_news.Goals as goal

pub returns-in-Err-clause-prefix : goal.returns-in-Err-clause-prefix
returns-in-Err-clause-prefix g c =
    let i = c.loop-one.one-index in
    let news = c.args.news.now in
    let one = c.one-item.result in
    let within : i < length news = omega arith in
    let here : frames_text (events_of (drop i news)) ≡ frame_bytes (said_by one) ++ frames_text (events_of (drop (i + 1) news)) = rw (add-one, drop-cons news i one within, ← c.one-item.is) in
    (_, sent_in _ _ _ (frames_text (events_of news)) (frame_bytes (said_by one)) (frames_text (events_of (drop (i + 1) news))) c.in-Err.ensures.prefix.0 (rw here at c.loop-one.invariant.sent) c.in-Err.ensures.prefix.1)

pub loop-one-preserved : goal.loop-one-preserved
loop-one-preserved g c =
    let i = c.loop-one.one-index in
    let news = c.args.news.now in
    let one = c.one-item.result in
    let within : i < length news = omega arith in
    let here : frames_text (events_of (drop i news)) ≡ frame_bytes (said_by one) ++ frames_text (events_of (drop (i + 1) news)) = rw (add-one, drop-cons news i one within, ← c.one-item.is) in
    record {
      sent = sent_step _ _ _ (frames_text (events_of news)) (frame_bytes (said_by one)) (frames_text (events_of (drop (i + 1) news))) (rw here at c.loop-one.invariant.sent) c.in-Ok.ensures.sent;
      faults = c.in-Ok.ensures.same ∙ c.loop-one.invariant.faults;
      unread = same_twice _ _ _ c.loop-one.invariant.unread c.send_one.ensures.unread;
    }
