use Rattle.std.proofs.Common.{◌≡◌, drop}
use Rattle.mav_ports.specs.Puts.{Sent}
use Rattle.mav_nodes.specs.News.{events_of}
use Rattle.live_node.specs.Ports.{SameRead}
use Rattle.live_node.specs.Texts.{frames_text}
use Rattle.live_node.proofs.sending.send_news.Given as goal

abbrev pub invariant-loop-one : goal.invariant-loop-one
invariant-loop-one g l = record {
  sent : Sent (g.L.Link.state l.initial.link).sent (g.L.Link.state l.link).sent (frames_text (events_of l.news)) (frames_text (events_of (drop l.one-index l.news)));
  faults : (g.L.Link.state l.link).faults ≡ (g.L.Link.state l.initial.link).faults;
  unread : SameRead (g.L.Link.state l.initial.link) (g.L.Link.state l.link);
}
