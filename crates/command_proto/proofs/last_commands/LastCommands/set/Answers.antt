use Rattle.std.proofs.Common.{◌<◌, length, sym, ◌∙◌, arith}
use Rattle.command_proto.proofs.LastLists.{replaced, added, room_for_new}
use Rattle.command_proto.proofs.last_commands.LastCommands.set.Goals as goal

pub push_reserved-requires : goal.push_reserved-requires
push_reserved-requires c =
    let room : length c.self.inside.entries.items < 256 =
    room_for_new c.self.inside.entries.items c.deref.result.now c.args.last c.deref.ensures.value (sym c.place.ensures ∙ c.in-None.is) (rw c.self.view_is c.requires) in
    omega (arith, room, c.self.inside.entries.ok.0, c.self.invariant)

pub returns-in-Some : goal.returns-in-Some
returns-in-Some c =
    rw (← c.self.view_is)
    (replaced c.self.inside.entries.items c.deref.result.now c.args.last c.in-Some.at c.deref.ensures.value (sym c.place.ensures ∙ c.in-Some.is))

pub returns-in-None : goal.returns-in-None
returns-in-None c =
    rw (← c.self.view_is)
    (added c.self.inside.entries.items c.deref.result.now c.push_reserved.new.self.items c.args.last c.deref.ensures.value (sym c.place.ensures ∙ c.in-None.is) c.push_reserved.ensures.items)
