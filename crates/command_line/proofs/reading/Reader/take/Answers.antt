-- A word is taken by the place where it comes.
use Rattle.std.proofs.Common.{◌∙◌, sym, ap}
use Rattle.command_line.proofs.Taken.{on_ok_more, given_taken, behind_taken, value_at, no_value}
use Rattle.command_line.proofs.reading.Reader.take.Goals as goal

pub returns-in-Anything-clause-taken : goal.returns-in-Anything-clause-taken
returns-in-Anything-clause-taken c rest = c.sort.ensures.taken rest

pub returns-in-Anything-clause-refused : goal.returns-in-Anything-clause-refused
returns-in-Anything-clause-refused c rest usage = c.sort.ensures.refused rest usage

pub returns-then-is_dashed-clause-taken : goal.returns-then-is_dashed-clause-taken
returns-then-is_dashed-clause-taken c rest = tt

pub returns-then-is_dashed-clause-refused : goal.returns-then-is_dashed-clause-refused
returns-then-is_dashed-clause-refused c rest usage = no_value c.args.self.now.place c.in-Value.name c.args.word.now rest c.in-Value.is (sym c.is_dashed.ensures ∙ c.if-is_dashed.true)

pub returns-else-is_dashed-clause-taken : goal.returns-else-is_dashed-clause-taken
returns-else-is_dashed-clause-taken c rest =
    on_ok_more c.set.result c.set.ensures.ok (λ ok.
    given_taken c.args.self.now.place c.set.new.self.place c.args.self.now.settings.items c.set.new.self.settings.items c.args.self.now.words.items c.set.new.self.words.items c.args.word.now rest _ _
    (value_at c.args.self.now.place c.in-Value.name c.args.word.now rest c.in-Value.is (sym c.is_dashed.ensures ∙ c.if-is_dashed.false))
    ok.0 (ap (λ words. words.items) ok.1) ok.2)

pub returns-else-is_dashed-clause-refused : goal.returns-else-is_dashed-clause-refused
returns-else-is_dashed-clause-refused c rest usage = absurd (c.set.ensures.not_usage usage)

pub returns-in-Behind-clause-taken : goal.returns-in-Behind-clause-taken
returns-in-Behind-clause-taken c rest =
    on_ok_more c.keep.result c.keep.ensures.ok (λ ok.
    behind_taken c.args.self.now.place c.keep.new.self.place c.args.self.now.settings.items c.keep.new.self.settings.items c.args.self.now.words.items c.keep.new.self.words.items c.args.word.now rest
    c.in-Behind.is ok.0 (ap (λ settings. settings.items) ok.1) ok.2)

pub returns-in-Behind-clause-refused : goal.returns-in-Behind-clause-refused
returns-in-Behind-clause-refused c rest usage = absurd (c.keep.ensures.not_usage usage)
