use Rattle.std.proofs.Common.{◌<◌, length, sym, ◌∙◌, arith}
use Rattle.plan_upload.proofs.ResultLists.{write_result, write_new, room_for_new}
use Rattle.plan_upload.proofs.results.Results.set.Goals as goal

pub push_reserved-requires : goal.push_reserved-requires
push_reserved-requires c =
    let room : length c.self.inside.entries.items < 256 =
    room_for_new c.self.inside.entries.items c.deref.result.now c.args.self.now c.args.stream c.deref.ensures.value c.self.view_is (sym c.place.ensures ∙ c.in-None.is) c.requires in
    omega (arith, room, c.self.inside.entries.ok.0, c.self.invariant)

pub returns-in-Some : goal.returns-in-Some
returns-in-Some c =
    write_result c.self.inside.entries.items c.deref.result.now c.args.self.now c.args.stream c.args.installed c.in-Some.at c.index_mut.result.now c.deref.ensures.value c.self.view_is
    (sym c.place.ensures ∙ c.in-Some.is) c.index_mut.ensures.value

pub returns-in-None : goal.returns-in-None
returns-in-None c =
    write_new c.self.inside.entries.items c.deref.result.now c.push_reserved.new.self.items c.args.self.now c.args.stream c.args.installed c.deref.ensures.value c.self.view_is
    (sym c.place.ensures ∙ c.in-None.is) c.push_reserved.ensures.items
