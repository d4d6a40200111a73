use Rattle.std.proofs.Common.{◌∙◌}
use Rattle.fence_command.specs.Files.{state_of}
use Rattle.fence_command.proofs.WholeText.{whole_text}
use Rattle.fence_command.proofs.reports.report_of.Goals as goal

pub returns : goal.returns
returns c =
    whole_text (state_of c.args.file.now) c.in_ok-watch.watch _ c.in_ok-breaches.breaches.items _ _ _ _ _ _ _ _ _ c.in_ok-watch.ensures c.as_slice-items.ensures c.in_ok-breaches.ensures c.deref.ensures.value c.new-text.ensures.bytes c.in_ok-outside.ensures.text c.in_ok-outside.ensures.outside c.in_ok-legs.ensures.text c.in_ok-legs.ensures.count c.in_ok-put_breaches.ensures (c.len.ensures ∙ c.in_ok-breaches.breaches.ok.0) c.in_ok-put_counts.ensures
