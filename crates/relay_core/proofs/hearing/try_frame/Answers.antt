use Rattle.relay_core.proofs.FrameTried.{frame_tried}
use Rattle.relay_core.proofs.hearing.try_frame.Goals as goal

pub returns-clause-tries : goal.returns-clause-tries
returns-clause-tries g c =
    let room = c.make_room.ensures.links in
    let h = c.hear-heard.ensures in
    frame_tried c.args.rules.now c.args.index c.hear-heard.result.ways.bits c.args.frame.now c.hear-heard.result.admit c.args.links.now c.make_room.new.self c.hear-heard.new.self g.W.Watcher.told c.args.watcher.now c.tell.new.watcher c.requires.within c.in_ok-make_room.ensures.kept room.0 room.1 room.2 h.links h.verdict h.ways h.state c.tell.ensures
