use Rattle.std.proofs.Common.{Bool, false, List, ◌∙◌, sym, subst}
use Rattle.mav_frame.specs.FinalParse.{final_parse}
use Rattle.mav_sign.specs.Endpoints.{frames_of}
use Rattle.mav_nodes.specs.Steps.{receives_keeping, IsNode}
use Rattle.mav_nodes.specs.Nodes.{StationSide, IsStation, station_rules, station_receives}
use Rattle.mav_nodes.proofs.Cores.{if_ok, if_err}
use Rattle.mav_nodes.proofs.Keeping.{keeps_all}
use Rattle.mav_nodes.proofs.Ends.{sure_did, sure_fails}
use Rattle.mav_nodes.proofs.station_node.StationNode.receive.Goals as goal

pub returns-clause-done : goal.returns-clause-done
returns-clause-done c =
    rw (sym c.bytes.ensures) (if_ok c.receive.result (λ news did node is.
    let bytes = c.bytes.result.now in
    let total = station_receives c.args.clock bytes node in
    sure_did (λ (keeps : List Bool). receives_keeping (λ (kept : Bool). station_rules) c.args.clock keeps bytes node) total _ c.receive.new.link c.receive.new.core c.receive.new.services news.items (λ failed. failed.fallible tt)
    (λ keeps all. keeps_all (λ (kept : Bool). station_rules) c.args.clock keeps (frames_of (final_parse node.link.extras false bytes)) node all)
    (did node (subst (IsStation node) (sym c.self.view_is) is))) c.receive.ensures.done)

pub returns-clause-fault : goal.returns-clause-fault
returns-clause-fault c =
    rw (sym c.bytes.ensures) (if_err c.receive.result (λ fault.
    let bytes = c.bytes.result.now in
    sure_fails fault (λ (node : StationSide). IsNode node c.self.inside.link c.self.inside.station c.self.inside.services) (λ (keeps : List Bool) (node : StationSide). receives_keeping (λ (kept : Bool). station_rules) c.args.clock keeps bytes node) _ (λ (node : StationSide). IsStation node c.args.self.now) (λ (node : StationSide). station_receives c.args.clock bytes node) (λ failed. failed.fallible tt)
    (λ node is. (node, subst (IsStation node) (sym c.self.view_is) is, λ keeps all none. sym (keeps_all (λ (kept : Bool). station_rules) c.args.clock keeps (frames_of (final_parse node.link.extras false bytes)) node all) ∙ none))) c.receive.ensures.fault)
