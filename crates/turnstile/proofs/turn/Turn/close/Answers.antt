use Rattle.std.proofs.Common.{◌≡◌, length, ap, sym, ◌∙◌, arith}
use Rattle.turnstile.specs.Participants.{Lock}
use Rattle.turnstile.proofs.Merged.{first_merged, last_ready, more_merged, all_merged}
use Rattle.turnstile.proofs.turn.Turn.close.Goals as goal

pub loop-other-init : goal.loop-other-init
loop-other-init g c =
    first_merged c.args.self c.first.inside.seat.table_id c.first.inside.seat.me c.in-Some.first c.pop.new.self.items c.args.seats.items c.in-Some.ensures.items c.requires.outside c.first.view_is c.first.invariant

pub merge-requires-clause-of : goal.merge-requires-clause-of
merge-requires-clause-of g c =
    let i = c.loop-other.invariant in
    let here = sym (ap (λ (l : Lock g.row.V-Entry.Denot). l.id) c.self.view_is) in
    let r = last_ready c.args.self c.other.inside.seat.table_id c.other.inside.seat.me c.in-Some-pop.other c.pop-in-loop-other.new.self.items c.loop-other.left.items c.in-Some-pop.ensures.items i.others c.other.view_is c.other.invariant in
    (i.of ∙ here, r.of ∙ here)

pub merge-requires-clause-outside : goal.merge-requires-clause-outside
merge-requires-clause-outside g c =
    let i = c.loop-other.invariant in
    (i.outside, (last_ready c.args.self c.other.inside.seat.table_id c.other.inside.seat.me c.in-Some-pop.other c.pop-in-loop-other.new.self.items c.loop-other.left.items c.in-Some-pop.ensures.items i.others c.other.view_is c.other.invariant).outside)

pub loop-other-preserved : goal.loop-other-preserved
loop-other-preserved g c =
    more_merged c.args.self c.loop-other.merged.table_id c.merge.new.seat.table_id c.loop-other.merged.me c.merge.new.seat.me c.other.inside.seat.table_id c.other.inside.seat.me c.in-Some-pop.other
    c.pop-in-loop-other.new.self.items c.loop-other.left.items c.args.seats.items c.in-Some-pop.ensures.items c.loop-other.invariant c.other.view_is c.other.invariant c.merge.ensures.of c.merge.ensures.both

pub finish-requires-clause-of : goal.finish-requires-clause-of
finish-requires-clause-of g c = c.loop-other.invariant.of ∙ sym (ap (λ (l : Lock g.row.V-Entry.Denot). l.id) c.self.view_is)

pub finish-requires-clause-outside : goal.finish-requires-clause-outside
finish-requires-clause-outside g c = c.loop-other.invariant.outside

pub finish-requires-clause-all : goal.finish-requires-clause-all
finish-requires-clause-all g c =
    let none : length c.loop-other.left.items ≡ 0 = (let z = c.in_default-pop.ensures.cases.0 in let k = c.loop-other.left.ok.0 in omega arith) in
    let w = all_merged c.args.self c.loop-other.merged.table_id c.loop-other.merged.me c.loop-other.left.items c.args.seats.items c.loop-other.invariant none in
    let handles = ap (λ (l : Lock g.row.V-Entry.Denot). l.handles) c.self.view_is in
    let n = w.counts in let a = c.requires.all in let k = c.args.seats.ok.0 in omega arith

pub returns-clause-begins : goal.returns-clause-begins
returns-clause-begins g c =
    let none : length c.loop-other.left.items ≡ 0 = (let z = c.in_default-pop.ensures.cases.0 in let k = c.loop-other.left.ok.0 in omega arith) in
    (all_merged c.args.self c.loop-other.merged.table_id c.loop-other.merged.me c.loop-other.left.items c.args.seats.items c.loop-other.invariant none).began (g.V.Journaled.journal c.finish.result)
    record { seen = c.finish.ensures.begins; merged = c.finish.ensures.merged }

pub returns-clause-whole : goal.returns-clause-whole
returns-clause-whole g c =
    let none : length c.loop-other.left.items ≡ 0 = (let z = c.in_default-pop.ensures.cases.0 in let k = c.loop-other.left.ok.0 in omega arith) in
    let w = all_merged c.args.self c.loop-other.merged.table_id c.loop-other.merged.me c.loop-other.left.items c.args.seats.items c.loop-other.invariant none in
    let opening = ap (λ (l : Lock g.row.V-Entry.Denot). length l.opening) c.self.view_is in
    let a = c.finish.ensures.added in let o = w.owns in omega arith
