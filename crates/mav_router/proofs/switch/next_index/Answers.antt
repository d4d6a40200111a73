use Rattle.std.proofs.Common.{arith, ◌≡◌, ◌<◌, ◌∙◌, ap, sym, length, get_or, false, Option, Some, None}
use Rattle.std.proofs.lemmas.Option.{slice_get_past, get_or_from_slice_get}
use Rattle.link_table.specs.Routing.{has_port}
use Rattle.mav_router.specs.declared.entries.Entry.{Entry}
use Rattle.mav_router.specs.declared.entries.Outcome.{Outcome}
use Rattle.mav_router.proofs.Journals.{element, passed_over}
use Rattle.mav_router.proofs.switch.next_index.Goals as goal

pub loop-index-preserved : goal.loop-index-preserved
loop-index-preserved c =
    let journal = c.args.journal.now in
    let index = c.loop-index.index in
    let port = c.args.port in
    let within : index < length journal = omega (arith, c.loop-index-test.true, c.len.ensures) in
    let entry = element journal index within in
    let is = get_or_from_slice_get journal index entry.0 entry.0 entry.1 in
    let no : has_port (get_or journal index entry.0).ways port ≡ false =
    ap (λ (e : Entry). has_port e.ways port) is ∙ (sym (ap (λ (o : Outcome). has_port o.ways port) (c.outcome.ensures entry.0 entry.1)) ∙ (sym c.has.ensures ∙ c.if-has.false)) in
    record {
      from = omega (arith, c.loop-index.invariant.from);
      within = omega (arith, within);
      none = passed_over port index journal entry.0 within no ∙ c.loop-index.invariant.none;
    }

pub returns-clause-goes : goal.returns-clause-goes
returns-clause-goes c = λ entry is.
    let wrong : ◌≡◌ {A = Option Entry} (Some entry) None = sym is ∙ slice_get_past c.args.journal.now c.loop-index.index (omega (arith, c.loop-index-test.false, c.len.ensures)) in
    absurd cc
