use Rattle.std.proofs.Common.{ℕ, ◌-◌, ◌++◌, List, length, take, min, ap, ◌∙◌, subst}
use Rattle.mav_stream.specs.Held.{Held}
use Rattle.mav_stream.specs.Progress.{Feeds}
use Rattle.mav_stream.proofs.Steps.{fed}
use Rattle.mav_stream.proofs.scanner.Scanner.feed.Goals as goal

pub returns : goal.returns
returns c =
    let i = c.self.inside in
    let piece = c.args.piece.now in
    let held : Held = record { extras = i.table; reads_old = i.reads_old; bytes = i.window.value; ended = i.ended } in
    let is = c.deref_mut.ensures.value in
    subst (λ (old : Held). Feeds 65824 old piece c.append.result (record held { bytes = c.append.new.self })) c.self.view_is
    (fed 65824 held piece c.append.result _ (c.append.ensures.count ∙ ap (λ (b : List ℕ). min (length piece) (65824 - length b)) is) (c.append.ensures.bytes ∙ ap (λ (b : List ℕ). b ++ take c.append.result piece) is))
