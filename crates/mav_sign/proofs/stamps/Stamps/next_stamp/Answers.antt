use Rattle.std.proofs.Common.{◌<◌, ◌++◌, ◌∷◌, [], ap, sym, subst}
use Rattle.mav_sign.specs.History.{sent}
use Rattle.mav_sign.specs.Kept.{Kept, Represents}
use Rattle.mav_sign.proofs.Keeping.{after_sent}
use Rattle.mav_sign.proofs.stamps.Stamps.next_stamp.Goals as goal

pub returns-clause-history : goal.returns-clause-history
returns-clause-history c =
    λ history of.
    let next = c.in_ok-next.next in
    let above : c.args.self.now.previous < next = c.in_ok-next.ensures.later in
    subst (λ (k : Kept). Represents k (history ++ sent next ∷ [])) (sym (ap (λ (k : Kept). record k { previous = next }) c.self.view_is)) (after_sent c.args.self.now history next above of)
