use Rattle.std.proofs.Common.{List, ℕ, subst, ◌∙◌}
use Rattle.mav_ports.specs.Puts.{SentPrefix}
use Rattle.fence_command.proofs.commands.write_report.Goals as goal

pub returns-in_err-write_all-clause-refused : goal.returns-in_err-write_all-clause-refused
returns-in_err-write_all-clause-refused g c = λ refused. (
  c.in_err-write_all.ensures.rose,
  subst (λ (text : List ℕ). SentPrefix (g.K.Sink.sent c.args.out.now) (g.K.Sink.sent c.write_all.new.sink) text) (c.as_bytes.ensures.value ∙ c.in_ok-text.ensures) c.in_err-write_all.ensures.front,
)
