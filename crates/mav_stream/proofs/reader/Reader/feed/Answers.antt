use Rattle.std.proofs.Common.{subst}
use Rattle.mav_stream.specs.Held.{Held}
use Rattle.mav_stream.specs.Progress.{Feeds}
use Rattle.mav_stream.proofs.Steps.{fed}
use Rattle.mav_stream.proofs.reader.Reader.feed.Goals as goal

pub returns : goal.returns
returns c =
    let i = c.self.inside in
    let held : Held = record { extras = i.extras; reads_old = i.reads_old; bytes = i.window; ended = i.ended } in
    subst (λ (old : Held). Feeds 280 old c.args.piece.now c.append.result (record held { bytes = c.append.new.self })) c.self.view_is
    (fed 280 held c.args.piece.now c.append.result c.append.new.self c.append.ensures.count c.append.ensures.bytes)
