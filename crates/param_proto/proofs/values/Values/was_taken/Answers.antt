use Rattle.std.proofs.Common.{◌<◌, ◌≤◌, ◌≡◌, ap, ◌∙◌, length, false, nat_lt, arith}
use Rattle.std.proofs.lemmas.List.{get_or_read}
use Rattle.std.proofs.lemmas.Bool.Decides.{nat_tests}
use Rattle.param_proto.specs.Client.{was_taken}
use Rattle.param_proto.proofs.ValueLists.{taken_is, seen_past}
use Rattle.param_proto.proofs.values.Values.was_taken.Goals as goal

pub returns-then-index-len : goal.returns-then-index-len
returns-then-index-len c =
    let s = c.self.inside in
    let within : c.from-index.result < length s.taken.items = omega (arith, s.taken.ok.0, c.len.ensures) in
    get_or_read s.taken.items _ _ within c.index.ensures false
    ∙ (taken_is s.taken.items s.params.items c.from-index.result c.self.invariant.0 ∙ (ap (λ vs. was_taken vs c.from-index.result) c.self.view_is ∙ ap (was_taken c.args.self.now) c.from-index.ensures))

pub returns-else-index-len : goal.returns-else-index-len
returns-else-index-len c =
    let s = c.self.inside in
    let past : length s.taken.items ≤ c.from-index.result = omega (arith, s.taken.ok.0, c.len.ensures) in
    let none : nat_lt c.from-index.result c.len.result ≡ false = grind (arith, nat_tests) in
    none ∙ (seen_past s.taken.items s.params.items c.args.self.now c.from-index.result c.self.view_is past ∙ ap (was_taken c.args.self.now) c.from-index.ensures)
