use Rattle.std.proofs.lemmas.Result.{err_from_is_err_and}
use Rattle.mav_text.specs.LayoutText.{layout_text}
use Rattle.dialect_command.proofs.Writings.{wrote_nothing}
use Rattle.dialect_command.proofs.layouts.write_message.Goals as goal

pub returns-in_err-put_layout : goal.returns-in_err-put_layout
returns-in_err-put_layout g c =
    let e = err_from_is_err_and c.from_residual.result c.from_residual.ensures.1 in
    rw (e.1, e.2) (wrote_nothing (layout_text c.args.layout.now) (g.K.Sink.faults c.args.out.now) (g.K.Sink.sent c.args.out.now))
