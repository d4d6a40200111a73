-- What a word gives by its sort is what the reader adds for it.
use Rattle.std.proofs.Common.{◌∙◌, sym, ap, map, string_bytes}
use Rattle.command_line.specs.declared.pieces.Place.TheVariants.{Anything}
use Rattle.command_line.specs.declared.pieces.Sort.TheVariants.{Dashes, Alone, Joined, Apart, Unknown}
use Rattle.command_line.specs.Lines.{given_of}
use Rattle.command_line.specs.Pieces.{given, joined, parts_at}
use Rattle.command_line.proofs.Taken.{on_ok_more, sorted_at, plain_taken, given_taken}
use Rattle.command_line.proofs.reading.Reader.sort.Goals as goal

pub returns-in-Plain-clause-taken : goal.returns-in-Plain-clause-taken
returns-in-Plain-clause-taken c rest =
    on_ok_more c.keep.result c.keep.ensures.ok (λ ok.
    plain_taken c.args.self.now.place c.keep.new.self.place c.args.self.now.settings.items c.keep.new.self.settings.items c.args.self.now.words.items c.keep.new.self.words.items c.args.word.now rest
    c.requires c.in-Plain.ensures ok.0 (ap (λ settings. settings.items) ok.1) ok.2)

pub returns-in-Plain-clause-refused : goal.returns-in-Plain-clause-refused
returns-in-Plain-clause-refused c rest usage = absurd (c.keep.ensures.not_usage usage)

pub returns-in-Alone-clause-taken : goal.returns-in-Alone-clause-taken
returns-in-Alone-clause-taken c rest =
    on_ok_more c.set.result c.set.ensures.ok (λ ok.
    given_taken c.args.self.now.place c.set.new.self.place c.args.self.now.settings.items c.set.new.self.settings.items c.args.self.now.words.items c.set.new.self.words.items c.args.word.now rest _ _
    (sorted_at c.args.self.now.place (Alone c.in-Alone.name) c.args.word.now rest c.requires c.in-Alone.ensures)
    ok.0 (ap (λ words. words.items) ok.1) ok.2)

pub returns-in-Alone-clause-refused : goal.returns-in-Alone-clause-refused
returns-in-Alone-clause-refused c rest usage = absurd (c.set.ensures.not_usage usage)

pub returns-in-Joined-clause-taken : goal.returns-in-Joined-clause-taken
returns-in-Joined-clause-taken c rest =
    on_ok_more c.set-in-Joined.result c.set-in-Joined.ensures.ok (λ ok.
    given_taken c.args.self.now.place c.set-in-Joined.new.self.place c.args.self.now.settings.items c.set-in-Joined.new.self.settings.items c.args.self.now.words.items c.set-in-Joined.new.self.words.items c.args.word.now rest _ _
    (sorted_at c.args.self.now.place (Joined c.in-Joined.name) c.args.word.now rest c.requires c.in-Joined.ensures
    ∙ ap (λ value. given c.in-Joined.name value (parts_at Anything rest)) (sym c.joined_value.ensures))
    ok.0 (ap (λ words. words.items) ok.1) ok.2)

pub returns-in-Joined-clause-refused : goal.returns-in-Joined-clause-refused
returns-in-Joined-clause-refused c rest usage = absurd (c.set-in-Joined.ensures.not_usage usage)

pub returns-in-Dashes-clause-taken : goal.returns-in-Dashes-clause-taken
returns-in-Dashes-clause-taken c rest =
    ap (joined (map given_of c.args.self.now.settings.items) (map string_bytes c.args.self.now.words.items))
    (sorted_at c.args.self.now.place Dashes c.args.word.now rest c.requires c.in-Dashes.ensures)

pub returns-in-Dashes-clause-refused : goal.returns-in-Dashes-clause-refused
returns-in-Dashes-clause-refused c rest usage = absurd (cc usage)

pub returns-in-Apart-clause-taken : goal.returns-in-Apart-clause-taken
returns-in-Apart-clause-taken c rest =
    ap (joined (map given_of c.args.self.now.settings.items) (map string_bytes c.args.self.now.words.items))
    (sorted_at c.args.self.now.place (Apart c.in-Apart.name) c.args.word.now rest c.requires c.in-Apart.ensures)

pub returns-in-Apart-clause-refused : goal.returns-in-Apart-clause-refused
returns-in-Apart-clause-refused c rest usage = absurd (cc usage)

pub returns-in-Unknown-clause-refused : goal.returns-in-Unknown-clause-refused
returns-in-Unknown-clause-refused c rest usage = sorted_at c.args.self.now.place Unknown c.args.word.now rest c.requires c.in-Unknown.ensures
