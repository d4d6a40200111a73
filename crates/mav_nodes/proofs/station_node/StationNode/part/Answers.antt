use Rattle.std.proofs.Common.{◌≡◌, None, sym, ap, subst}
use Rattle.mav_nodes.specs.Steps.{hears_all, hears_keeping, IsNode}
use Rattle.mav_nodes.specs.Stores.{AllKept}
use Rattle.mav_nodes.specs.Nodes.{StationSide, StationView, IsStation, station_rules}
use Rattle.mav_nodes.specs.Promises.{SpentKeeping}
use Rattle.mav_nodes.specs.Streams.{HasRead}
use Rattle.mav_nodes.proofs.Cores.{if_ok, if_err}
use Rattle.mav_nodes.proofs.Parts.{part_fails_so, sure_rules, station_part, station_spent}
use Rattle.mav_nodes.proofs.station_node.StationNode.part.Goals as goal

pub returns-clause-done : goal.returns-clause-done
returns-clause-done c =
    if_ok c.part.result (λ part did node taken given is read.
    station_part c.args.clock node _ given _ _ part.1.items (λ failed. failed.fallible tt)
    (did node taken given (subst (IsStation node) (sym c.self.view_is) is) (subst (λ (v : StationView). HasRead taken given v.link) (sym c.self.view_is) read))) c.part.ensures.done

pub returns-clause-fault : goal.returns-clause-fault
returns-clause-fault c =
    if_err c.part.result (λ fault h.
    part_fails_so fault (λ (node : StationSide). IsNode node c.self.inside.link c.self.inside.station c.self.inside.services) c.self.inside.link
    (λ packets (node : StationSide). SpentKeeping (AllKept _) (λ keeps. hears_keeping sure_rules c.args.clock keeps packets node)) (λ (node : StationSide). IsStation node c.args.self.now) c.args.self.now.link
    (λ packets (node : StationSide). hears_all station_rules c.args.clock packets node ≡ None) c.args.piece.now _ ⊥ (λ failed. failed.fallible tt) (ap (λ (v : StationView). v.link) c.self.view_is)
    (λ node is. (node, subst (IsStation node) (sym c.self.view_is) is, λ packets spent. station_spent c.args.clock packets node _ (λ failed. failed.fallible tt) spent)) h) c.part.ensures.fault
