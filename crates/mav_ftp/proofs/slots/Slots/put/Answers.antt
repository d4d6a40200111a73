use Rattle.std.proofs.Common.{◌≡◌, ◌∙◌, ◌<◌, sym, ap, length, Some, None, arith}
use Rattle.mav_ftp.specs.Sessions.{Session, overwritten, session_of}
use Rattle.mav_ftp.specs.Steps.{with_bytes}
use Rattle.mav_ftp.proofs.SlotLists.{session_in, session_found, session_of_other, put_found, put_nothing}
use Rattle.mav_ftp.proofs.slots.Slots.put.Goals.{in-Some, in_default-2, in_default}
use Rattle.mav_ftp.proofs.slots.Slots.put.Goals as goal

pub put-requires-clause-right : goal.put-requires-clause-right
put-requires-clause-right c =
    let four = c.self.invariant in
    let inside : c.args.request.now.session < length c.self.inside.slots = omega (arith, four, c.requires.within) in
    let found : session_of c.args.self.now c.args.stream c.args.request.now.session ≡ Some c.in-Some.session =
    rw (← c.self.view_is)
    (session_found c.self.inside.slots c.args.stream c.args.request.now.session c.index-self-from.result c.in-Some.session inside (rw (← c.from.ensures) c.in-Some.is)
    (sym c.is_of.ensures ∙ c.if-is_of.true)) in
    rw found at c.requires.right

pub returns-clause-ok : goal.returns-clause-ok
returns-clause-ok c =
    let k = c.args.request.now.session in
    let four = c.self.invariant in
    let inside : k < length c.self.inside.slots = omega (arith, four, c.requires.within) in
    rw (← c.self.view_is)
    (elim c.match-self-from.branch [
      | in-Some w ↦
          put_found c.match-self-from.result w.put.result (session_of c.self.inside.slots c.args.stream k) w.in-Some.session w.put.new.self c.self.inside.slots
          c.match-self-from.self-inside.slots k (λ (s : Session). with_bytes s (overwritten s.bytes c.args.request.now.offset c.args.bytes.now)) w.result-is
          (session_found c.self.inside.slots c.args.stream k c.index-self-from.result w.in-Some.session inside (rw (← c.from.ensures) w.in-Some.is)
          (sym w.is_of.ensures ∙ w.if-is_of.true))
          (rw (← c.from.ensures) (ap (λ x. x.slots) w.self-inside-is)) w.put.ensures.ok
      | in_default-2 w ↦
          put_nothing c.match-self-from.result (session_of c.self.inside.slots c.args.stream k) _
          (session_of_other c.self.inside.slots c.args.stream k c.index-self-from.result w.in-Some.session inside (rw (← c.from.ensures) w.in-Some.is)
          (sym w.is_of.ensures ∙ w.if-is_of.false))
      | in_default w ↦
          put_nothing c.match-self-from.result (session_of c.self.inside.slots c.args.stream k) _
          (session_in c.self.inside.slots c.args.stream k c.index-self-from.result None inside (rw (← c.from.ensures) w.in_default.is))
    ])
