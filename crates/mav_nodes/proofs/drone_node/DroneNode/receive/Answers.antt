use Rattle.std.proofs.Common.{Bool, false, List, ◌∙◌, sym, ap, subst}
use Rattle.mav_frame.specs.FinalParse.{final_parse}
use Rattle.mav_sign.specs.Endpoints.{frames_of}
use Rattle.mav_sign.specs.Streams.{reader_of}
use Rattle.mav_nodes.specs.Stores.{AllKept, HasFailed}
use Rattle.mav_nodes.specs.Images.{StoreHolds}
use Rattle.mav_nodes.specs.Nodes.{DroneSide, DroneView, IsDrone, drone_rules_keeping, drone_receives, drone_receives_keeping}
use Rattle.mav_nodes.specs.Steps.{IsNode}
use Rattle.mav_nodes.proofs.Cores.{if_ok, if_err}
use Rattle.mav_nodes.proofs.Keeping.{keeps_all}
use Rattle.mav_nodes.proofs.Ends.{sure_did, sure_fails, fails_keeping_so, on_ok}
use Rattle.mav_nodes.proofs.StoreCalls.{kept_ok, given_up}
use Rattle.mav_nodes.proofs.drone_node.DroneNode.receive.Goals as goal

pub returns-clause-done : goal.returns-clause-done
returns-clause-done g c =
    rw (sym c.bytes.ensures) (if_ok c.receive.result (λ news did node is. did node (subst (IsDrone node) (sym c.self.view_is) is)) c.receive.ensures.done)

pub returns-clause-stored : goal.returns-clause-stored
returns-clause-stored g c =
    on_ok c.receive.result (λ keeps held. keeps (subst (StoreHolds (g.K.Keeper.contents c.args.keeper.now)) (sym c.self.view_is) held)) (kept_ok c.receive.result c.receive.ensures.keeps)

pub returns-clause-reader : goal.returns-clause-reader
returns-clause-reader g c =
    c.receive.ensures.keeps.reader ∙ ap (λ (v : DroneView). reader_of v.link.endpoint) c.self.view_is

pub returns-clause-serves : goal.returns-clause-serves
returns-clause-serves g c = c.receive.ensures.keeps.serves

pub returns-clause-fault : goal.returns-clause-fault
returns-clause-fault g c =
    let failed = HasFailed g.K.Keeper.faults g.K.Keeper.is_infallible c.args.keeper.now c.receive.new.keeper in
    rw (sym c.bytes.ensures) (if_err c.receive.result (λ fault.
    let does : List Bool → DroneSide → _ = λ keeps node. drone_receives_keeping c.args.clock keeps c.bytes.result.now node in
    fails_keeping_so fault (λ (node : DroneSide). IsNode node c.self.inside.link c.self.inside.drone c.self.inside.services) does (AllKept failed) failed (λ (node : DroneSide). IsDrone node c.args.self.now) does
    (λ node is. (node, subst (IsDrone node) (sym c.self.view_is) is, λ keeps none. none))) c.receive.ensures.fault)

pub returns-clause-infallible : goal.returns-clause-infallible
returns-clause-infallible g c =
    rw (sym c.bytes.ensures) (if_ok c.receive.result (λ news did node is sure.
    let bytes = c.bytes.result.now in
    let total = drone_receives c.args.clock bytes node in
    sure_did (λ (keeps : List Bool). drone_receives_keeping c.args.clock keeps bytes node) total _ c.receive.new.link c.receive.new.core c.receive.new.services news.items (λ failed. failed.fallible sure)
    (λ keeps all. keeps_all drone_rules_keeping c.args.clock keeps (frames_of (final_parse node.link.extras false bytes)) node all)
    (did node (subst (IsDrone node) (sym c.self.view_is) is))) c.receive.ensures.done)

pub returns-clause-infallible_fault : goal.returns-clause-infallible_fault
returns-clause-infallible_fault g c =
    rw (sym c.bytes.ensures) (if_err c.receive.result (λ fault h sure.
    let bytes = c.bytes.result.now in
    sure_fails fault (λ (node : DroneSide). IsNode node c.self.inside.link c.self.inside.drone c.self.inside.services) (λ (keeps : List Bool) (node : DroneSide). drone_receives_keeping c.args.clock keeps bytes node) _ (λ (node : DroneSide). IsDrone node c.args.self.now) (λ (node : DroneSide). drone_receives c.args.clock bytes node) (λ failed. failed.fallible sure)
    (λ node is. (node, subst (IsDrone node) (sym c.self.view_is) is, λ keeps all none. sym (keeps_all drone_rules_keeping c.args.clock keeps (frames_of (final_parse node.link.extras false bytes)) node all) ∙ none)) h) c.receive.ensures.fault)

pub returns-clause-given : goal.returns-clause-given
returns-clause-given g c =
    rw (sym c.bytes.ensures) (if_err c.receive.result (λ fault left held node is. left (subst (StoreHolds (g.K.Keeper.contents c.args.keeper.now)) (sym c.self.view_is) held) node (subst (IsDrone node) (sym c.self.view_is) is)) (given_up c.receive.result c.receive.ensures.keeps))
