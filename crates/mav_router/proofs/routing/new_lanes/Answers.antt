use Rattle.std.proofs.Common.{◌≡◌, ◌∙◌, ap, sym, subst, List, ℕ, Bool, length, length-append, ◌+◌, ◌∷◌, [], slice_get, Some}
use Rattle.mav_profile.specs.Messages.{extras_of}
use Rattle.link_table.specs.Routing.{has_port}
use Rattle.mav_router.specs.declared.lane.Lane.{Lane}
use Rattle.mav_router.specs.Runs.{IsNew}
use Rattle.mav_router.proofs.PortEnds.{each_pushed, new_turned}
use Rattle.mav_router.proofs.routing.new_lanes.Goals as goal

pub loop-at-preserved : goal.loop-at-preserved
loop-at-preserved c =
    let l = c.loop-at in
    let items = c.in_ok-push.ensures.items in
    let new = c.in_ok-new_lane.field-0 in
    let extras = extras_of c.args.known.now in
    record {
      length = ap length items ∙ (length-append l.lanes.items (new ∷ []) ∙ ap (λ (n : ℕ). n + 1) l.invariant.length);
      fresh = λ key ports k lane is.
          each_pushed (λ (j : ℕ) (x : Lane). IsNew extras (has_port c.args.plain (j + 1)) x) l.lanes.items new (l.invariant.fresh key ports)
          (subst (λ (n : ℕ). IsNew extras (has_port c.args.plain (n + 1)) new) (sym l.invariant.length)
          (subst (λ (b : Bool). IsNew extras b new) c.has.ensures c.in_ok-new_lane.ensures))
          k lane (subst (λ (xs : List Lane). slice_get xs k ≡ Some lane) items is);
    }

pub returns-clause-turned : goal.returns-clause-turned
returns-clause-turned c = λ k lane is.
    new_turned (extras_of c.args.known.now) (has_port c.args.plain (k + 1)) lane (c.loop-at.invariant.fresh [] 0 k lane is)
