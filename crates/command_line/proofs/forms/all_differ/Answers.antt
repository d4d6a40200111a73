use Rattle.std.proofs.Common.{◌∙◌, ◌-◌, ◌&&◌, not, sym, ap, map, take, drop, length}
use Rattle.command_line.specs.Forms.{all_differ}
use Rattle.command_line.specs.Lines.{given_of}
use Rattle.command_line.proofs.FormsAgree.{differ_first}
use Rattle.command_line.proofs.forms.all_differ.Goals as goal

pub returns-then-is_any_named : goal.returns-then-is_any_named
returns-then-is_any_named c =
    let held = c.loop-settings.settings.now in
    let rest = take (length held - 1) (drop 1 held) in
    sym (sym c.loop-settings.invariant ∙ differ_first held c.first-item.result c.in-len1-up.len_at_least c.first-item.is
    ∙ ap (λ b. not b && all_differ (map given_of rest)) (sym c.is_any_named.ensures ∙ c.if-is_any_named.true))

pub loop-settings-preserved : goal.loop-settings-preserved
loop-settings-preserved c =
    let held = c.loop-settings.settings.now in
    let rest = take (length held - 1) (drop 1 held) in
    sym (differ_first held c.first-item.result c.in-len1-up.len_at_least c.first-item.is
    ∙ ap (λ b. not b && all_differ (map given_of rest)) (sym c.is_any_named.ensures ∙ c.if-is_any_named.false)) ∙ c.loop-settings.invariant
