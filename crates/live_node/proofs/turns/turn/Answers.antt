use Rattle.std.proofs.Common.{[], inl, inr, refl, arith}
use Rattle.std.specs.List.{flat_map}
use Rattle.live_node.specs.Calls.{extras_at}
use Rattle.live_node.specs.Turns.{turn_bytes, turn_events, calls_of}
use Rattle.live_node.specs.Runs.{outside}
use Rattle.live_node.proofs.Turning.{output_read}
use Rattle.live_node.proofs.Runs.{run_over, still_failed, port_no_stamps, port_no_store}
use Rattle.live_node.proofs.TurnEnds.{piece_done, piece_cut, wait_done, wait_cut}
use Rattle.live_node.proofs.turns.turn.Goals as goal

pub returns-in-Ok-clause-did : goal.returns-in-Ok-clause-did
returns-in-Ok-clause-did g c =
    let e = c.in-Bytes.ensures in
    λ before start opening turns first b.
    let o = output_read _ before _ start (calls_of opening turns []) _ _ first _ (outside (g.L.Link.state c.read.new.self) (g.K.Sink.sent c.args.out.now) (g.C.Clock.always c.args.clock.now)) e.faults e.sent refl refl b.output in
    piece_done c.in-Bytes.count c.read.new.buf b e.within.0 e.within.1 (omega (arith, c.requires.most, c.read.auto.buf)) e.bytes e.idles e.pauses c.hear.ensures.unread
    (c.in-Ok.ensures.did before start (calls_of opening turns []) first (extras_at start) (flat_map turn_bytes turns) (flat_map turn_events turns) o b.input.same b.input.heard)

pub returns-in-Err-clause-did : goal.returns-in-Err-clause-did
returns-in-Err-clause-did g c =
    let e = c.in-Bytes.ensures in
    λ before start opening turns first b.
    let o = output_read _ before _ start (calls_of opening turns []) _ _ first _ (outside (g.L.Link.state c.read.new.self) (g.K.Sink.sent c.args.out.now) (g.C.Clock.always c.args.clock.now)) e.faults e.sent refl refl b.output in
    inl (piece_cut c.in-Bytes.count c.read.new.buf b e.within.0 e.within.1 (omega (arith, c.requires.most, c.read.auto.buf)) e.bytes e.idles e.pauses c.hear.ensures.unread
    (c.in-Err.ensures.did before start (calls_of opening turns []) first (extras_at start) (flat_map turn_bytes turns) (flat_map turn_events turns) o b.input.same b.input.heard))

pub returns-in-Ok-wait-clause-did : goal.returns-in-Ok-wait-clause-did
returns-in-Ok-wait-clause-did g c =
    let e = c.in-Idle.ensures in
    λ before start opening turns first b.
    let o = output_read _ before _ start (calls_of opening turns []) _ _ first _ (outside (g.L.Link.state c.read.new.self) (g.K.Sink.sent c.args.out.now) (g.C.Clock.always c.args.clock.now)) e.faults e.sent refl refl b.output in
    wait_done b e.bytes e.idles e.pauses c.wait.ensures.unread c.wait.ensures.reader (c.in-Ok-wait.ensures.did before start (calls_of opening turns []) first o)

pub returns-in-Err-wait-clause-did : goal.returns-in-Err-wait-clause-did
returns-in-Err-wait-clause-did g c =
    let e = c.in-Idle.ensures in
    λ before start opening turns first b.
    let o = output_read _ before _ start (calls_of opening turns []) _ _ first _ (outside (g.L.Link.state c.read.new.self) (g.K.Sink.sent c.args.out.now) (g.C.Clock.always c.args.clock.now)) e.faults e.sent refl refl b.output in
    inl (wait_cut b e.bytes e.idles e.pauses c.wait.ensures.unread (c.in-Err-wait.ensures.did before start (calls_of opening turns []) first o))

pub returns-in-Failed-clause-did : goal.returns-in-Failed-clause-did
returns-in-Failed-clause-did g c =
    let e = c.in-Failed.ensures in
    λ before start opening turns first b.
    inr (run_over _ before _ start _ opening turns [] _ _ first _ (outside (g.L.Link.state c.read.new.self) (g.K.Sink.sent c.args.out.now) (g.C.Clock.always c.args.clock.now)) port_no_stamps port_no_store (still_failed _ _ e.bytes e.idles e.pauses e.sent refl refl) b)
