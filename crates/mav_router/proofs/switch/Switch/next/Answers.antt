use Rattle.std.proofs.Common.{rules, ◌≡◌, ◌<◌, ◌-◌, length, ◌++◌, sym, ap, ◌∙◌, subst, List, Some, take, slice_index, slice_set, ◌+◌}
use Rattle.std.proofs.lemmas.Option.{get_or_from_slice_get}
use Rattle.mav_frame.specs.Packet.{Packet}
use Rattle.mav_router.specs.Journal.{SwitchState, given_to, frames_to, frames_at}
use Rattle.mav_router.proofs.Journals.{element, given_next, frames_are}
use Rattle.mav_router.proofs.switch.Switch.next.Goals as goal

pub returns-clause-given : goal.returns-clause-given
returns-clause-given c =
    let s = c.self.inside in
    let journal = s.journal in
    let index = c.next_index-index.result in
    let at : c.from-at.result ≡ c.args.port - 1 = search rules in
    let small : c.from-at.result < length s.seen = search rules in
    let within : index < length journal = search rules in
    let entry = element journal index within in
    let none = c.next_index-index.ensures.none in
    let goes = c.next_index-index.ensures.goes entry.0 entry.1 in
    subst (λ (v : SwitchState). frames_to c.args.port (take (slice_index (slice_set s.seen c.from-at.result (index + 1)) (c.args.port - 1)) journal) ≡ given_to v c.args.port ++ frames_at v.journal (Some index)) c.self.view_is
    (given_next s.seen journal c.args.port c.from-at.result index entry.0 at small within (sym (get_or_from_slice_get journal index entry.0 entry.0 entry.1)) goes none
    ∙ ap (λ (f : List Packet). frames_to c.args.port (take (slice_index s.seen (c.args.port - 1)) journal) ++ f) (sym (frames_are journal index entry.0 entry.1)))
