use Rattle.std.proofs.Common.{◌≡◌, ◌∙◌, ◌⊎◌, ◌+◌, ◌≤◌, List, Some, slice_get, map, length, refl, sym, subst, ap, arith}
use Rattle.std.proofs.lemmas.List.{length-map}
use Rattle.mav_router.specs.declared.entries.Entry.{Entry}
use Rattle.mav_router.specs.declared.entries.SwitchFault.TheVariants.{NoMemory}
use Rattle.mav_router.specs.declared.parts.Side.{Side}
use Rattle.mav_router.specs.Crews.{HasFault}
use Rattle.mav_router.specs.Ends.{end_by}
use Rattle.mav_router.specs.Threads.{HasClosed, HasWrittenLeft}
use Rattle.mav_router.proofs.Moving.{written_over}
use Rattle.mav_router.proofs.Served.{closed_long, routed, stopped}
use Rattle.mav_router.proofs.threads.finish.Goals as goal

pub returns-in-Some : goal.returns-in-Some
returns-in-Some g c = λ before closed.
    let j = c.into_journal.ensures in
    let why = c.in-Some.why in
    let old = c.args.sides.now.items in
    record {
      links = ap length c.give_links.ensures ∙ (length-map old (λ (side : Side g.row.L.Denot). side.link) ∙ closed_long g.L.Link.state c.args.switch.rules c.args.turns _ before old closed);
      routed = tt;
      stopped = stopped g.L.Link.state c.args.switch.rules c.args.turns why c.into_journal.result before c.give_links.new.links.items old c.requires.turns j.within j.legal
          (subst (λ (l : List (Side g.row.L.Denot)). (why ≡ NoMemory) ⊎ HasFault l why) c.as_slice.ensures.value c.in-Some.ensures.some)
          c.give_links.ensures
          (subst (λ (l : List Entry). HasClosed g.L.Link.state c.args.switch.rules c.args.turns l before old) (sym j.journal) closed);
    }

pub returns-in-None : goal.returns-in-None
returns-in-None g c = λ before closed.
    let j = c.into_journal-in-None.ensures in
    let w = c.write_each_left.ensures in
    let old = c.args.sides.now.items in
    let link = λ (side : Side g.row.L.Denot). side.link in
    let written : List (Side g.row.L.Denot) = c.write_each_left.new.sides in
    let long = w.length ∙ ap length c.as_mut_slice.ensures.value in
    let over = written_over written old c.args.sides.now.len c.args.sides.now.ok.0 long in
    let links = c.give_links-in-None.ensures ∙ ap (λ (l : List (Side g.row.L.Denot)). map link l) over in
    record {
      links = ap length links ∙ (length-map written link ∙ (long ∙ closed_long g.L.Link.state c.args.switch.rules c.args.turns _ before old closed));
      routed = routed g.L.Link.state c.args.switch.rules c.args.turns c.into_journal-in-None.result before c.give_links-in-None.new.links.items old written c.put_ends.new.ends.items c.requires.turns j.within j.legal
          (λ k side is. c.in-None.ensures.none refl k side (subst (λ (l : List (Side g.row.L.Denot)). slice_get l k ≡ Some side) (sym c.as_slice.ensures.value) is))
          long
          (λ k b d is_b is_d.
          subst (λ (l : List Entry). HasWrittenLeft g.L.Link.state l (k + 1) b d) (c.journal.ensures.entries ∙ sym j.journal)
          (w.each k b d (subst (λ (l : List (Side g.row.L.Denot)). slice_get l k ≡ Some b) (sym c.as_mut_slice.ensures.value) is_b) is_d))
          (c.put_ends.ensures ∙ ap (λ (l : List (Side g.row.L.Denot)). map (λ (s : Side g.row.L.Denot). end_by s.lane c.args.turns) l) (c.as_slice-in-None.ensures.value ∙ over))
          links
          (subst (λ (l : List Entry). HasClosed g.L.Link.state c.args.switch.rules c.args.turns l before old) (sym j.journal) closed);
      stopped = tt;
    }

pub give_links-requires-clause-new : goal.give_links-requires-clause-new
give_links-requires-clause-new g c = c.requires.new.1

pub give_links-requires-clause-room : goal.give_links-requires-clause-room
give_links-requires-clause-room g c = c.requires.room

pub put_ends-requires-clause-new : goal.put_ends-requires-clause-new
put_ends-requires-clause-new g c = c.requires.new.0

pub put_ends-requires-clause-room : goal.put_ends-requires-clause-room
put_ends-requires-clause-room g c =
    let written : List (Side g.row.L.Denot) = c.write_each_left.new.sides in
    let long = c.write_each_left.ensures.length ∙ ap length c.as_mut_slice.ensures.value in
    let over = written_over written c.args.sides.now.items c.args.sides.now.len c.args.sides.now.ok.0 long in
    let same = ap length (c.as_slice-in-None.ensures.value ∙ over) in
    omega (arith, same, long, c.args.sides.now.ok.0, c.requires.end_room)

pub give_links-requires-in-None-clause-new : goal.give_links-requires-in-None-clause-new
give_links-requires-in-None-clause-new g c = c.requires.new.1

pub give_links-requires-in-None-clause-room : goal.give_links-requires-in-None-clause-room
give_links-requires-in-None-clause-room g c = c.requires.room

pub write_each_left-requires-clause-few : goal.write_each_left-requires-clause-few
write_each_left-requires-clause-few g c =
    let same = ap length c.as_mut_slice.ensures.value in
    omega (arith, same, c.args.sides.now.ok.0, c.requires.few)

pub write_each_left-requires-clause-within : goal.write_each_left-requires-clause-within
write_each_left-requires-clause-within g c = λ κs lives k side is.
    subst (λ (l : List Entry). side.taken ≤ length l) (sym c.journal.ensures.entries)
    (c.requires.within k side (subst (λ (l : List (Side g.row.L.Denot)). slice_get l k ≡ Some side) c.as_mut_slice.ensures.value is))
