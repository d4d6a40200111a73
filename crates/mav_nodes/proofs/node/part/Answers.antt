use Rattle.std.proofs.Common.{◌≡◌, ℕ, ◌+◌, ◌-◌, ◌≤◌, ◌++◌, Bool, List, Option, length, take, drop, sym, ◌∙◌, arith, subst}
use Rattle.std.proofs.lemmas.List.{take_all}
use Rattle.std.proofs.lemmas.Result.{err_from_is_err_and}
use Rattle.mav_frame.specs.Packet.{Packet}
use Rattle.mav_nodes.specs.declared.faults.NodeFault.{NodeFault}
use Rattle.mav_nodes.specs.Stores.{Holds, GivenUp, IsKept, AllKept, HasFailed}
use Rattle.mav_nodes.specs.Steps.{Side, hears, hears_keeping, IsNode}
use Rattle.mav_nodes.specs.Cores.{rules_of}
use Rattle.mav_nodes.specs.Promises.{NodeDid, SpentKeeping, FailsKeeping, AtFrame}
use Rattle.mav_nodes.specs.Streams.{NodePart, GrowsBy}
use Rattle.mav_nodes.proofs.StoreCalls.{serves_same, serves_both, failed_then, then_failed}
use Rattle.mav_nodes.proofs.Keeping.{kept_so}
use Rattle.mav_nodes.proofs.Leads.{part_length}
use Rattle.mav_nodes.proofs.Parts.{read_at, fewer_left, node_read, part_at_first, part_on, part_to_none, part_given, part_whole, part_fails, cut_at}
use Rattle.mav_nodes.proofs.node.part.Goals as goal

pub reading-init : goal.reading-init
reading-init g c = record {
  within = omega arith;
  serves = serves_same g.K.Keeper.faults g.K.Keeper.is_infallible c.args.keeper.now;
  stored = λ held. held;
  heard = λ node taken given is read. part_at_first (rules_of g.C.Core.taken g.V.Services.noted g.V.Services.served) c.args.clock node taken given (HasFailed g.K.Keeper.faults g.K.Keeper.is_infallible c.args.keeper.now c.args.keeper.now) c.args.link.now c.args.core.now c.args.services.now c.new-news.result.items c.new-news.ensures.items is read;
}

pub reading-preserved : goal.reading-preserved
reading-preserved g c =
    let r = c.reading in
    let faults = g.K.Keeper.faults in
    let sure = g.K.Keeper.is_infallible in
    let old = c.args.keeper.now in
    let then = r.keeper in
    let now = c.hear.new.keeper in
    let piece = c.args.piece.now in
    let place = r.place in
    let size = c.read-size.result.0 in
    let mid = c.read-size.new.self in
    let frame = c.in-Some.frame in
    let kept = c.in_ok-hear.field-0 in
    let few : size ≤ length piece - place = omega (arith, c.read-size.ensures.count, part_length piece place) in
    record {
      within = omega (arith, few, r.invariant.within);
      serves = serves_both faults sure old then now r.invariant.serves c.hear.ensures.keeps.serves;
      stored = λ held. c.in_ok-hear.ensures.keeps.stored (subst (λ low. Holds (g.K.Keeper.contents then) (g.C.Core.stored r.core) low) (sym c.read-size.ensures.low) (r.invariant.stored held));
      heard = λ node taken given is read.
          let so = r.invariant.heard node taken given is read in
          let to = read_at taken piece place size (given ++ so.events) r.link mid c.read-size.result.1 _ few c.in-Some.is (c.read-size.ensures.read (taken ++ take place piece) (given ++ so.events) so.read) in
          part_on (rules_of g.C.Core.taken g.V.Services.noted g.V.Services.served) c.args.clock c.args.link.now.endpoint.extras node (taken ++ take place piece) (taken ++ take (place + size) piece) given (HasFailed faults sure old then) r.link mid r.core r.services r.news.items so c.hear.new.link c.hear.new.core c.hear.new.services (HasFailed faults sure old now) c.hear.new.news.items frame kept to c.hear.ensures.keeps.reader
          (λ failed. failed_then faults sure old then now failed c.hear.ensures.keeps.serves)
          (kept_so kept (then_failed faults sure old then now r.invariant.serves) c.in_ok-hear.ensures.unkept)
          (subst (λ (p : Packet). NodeDid (hears (rules_of g.C.Core.taken g.V.Services.noted g.V.Services.served kept) c.args.clock p so.heard.node) c.hear.new.link c.hear.new.core c.hear.new.services r.news.items c.hear.new.news.items) (c.raw-raw.ensures ∙ c.of-bytes.ensures) (c.in_ok-hear.ensures.done so.heard.node (node_read so.heard.node r.link mid r.core r.services c.read-size.ensures.link so.heard.is)));
    }

pub returns-in_default-clause-count : goal.returns-in_default-clause-count
returns-in_default-clause-count g c =
    omega (arith, c.read-size.ensures.none c.in_default.is, part_length c.args.piece.now c.reading.place, c.reading.invariant.within)

pub returns-in_default-clause-done : goal.returns-in_default-clause-done
returns-in_default-clause-done g c =
    λ node taken given is read.
    let r = c.reading in
    let piece = c.args.piece.now in
    let place = r.place in
    let size = c.read-size.result.0 in
    let mid = c.read-size.new.self in
    let failed = HasFailed g.K.Keeper.faults g.K.Keeper.is_infallible c.args.keeper.now r.keeper in
    let rules = rules_of g.C.Core.taken g.V.Services.noted g.V.Services.served in
    let few : size ≤ length piece - place = omega (arith, c.read-size.ensures.count, part_length piece place) in
    let all : take (place + size) piece ≡ piece = take_all (place + size) piece (omega (arith, c.read-size.ensures.none c.in_default.is, part_length piece place, r.invariant.within)) in
    let so = r.invariant.heard node taken given is read in
    let to = read_at taken piece place size (given ++ so.events) r.link mid c.read-size.result.1 _ few c.in_default.is (c.read-size.ensures.read (taken ++ take place piece) (given ++ so.events) so.read) in
    subst (λ (bytes : List ℕ). NodePart rules c.args.clock node (taken ++ bytes) given (AllKept failed) mid r.core r.services r.news.items) all
    (part_whole rules c.args.clock c.args.link.now.endpoint.extras node (taken ++ take place piece) (taken ++ take (place + size) piece) given failed r.link mid r.core r.services r.news.items so is.link.end.extras to c.read-size.ensures.link)

pub returns-in_err-hear-clause-fault : goal.returns-in_err-hear-clause-fault
returns-in_err-hear-clause-fault g c =
    let p = err_from_is_err_and c.from_residual.result c.from_residual.ensures.1 in
    let r = c.reading in
    let faults = g.K.Keeper.faults in
    let sure = g.K.Keeper.is_infallible in
    let old = c.args.keeper.now in
    let then = r.keeper in
    let now = c.hear.new.keeper in
    let piece = c.args.piece.now in
    let place = r.place in
    let size = c.read-size.result.0 in
    let mid = c.read-size.new.self in
    let frame = c.in-Some.frame in
    let F = HasFailed faults sure then now in
    let G = HasFailed faults sure old now in
    let f = then_failed faults sure old then now r.invariant.serves in
    let few : size ≤ length piece - place = omega (arith, c.read-size.ensures.count, part_length piece place) in
    let rules = rules_of g.C.Core.taken g.V.Services.noted g.V.Services.served in
    let whole : List Packet → Side g.row.C.Denot g.row.V.Denot → Type 0 = λ packets node. SpentKeeping (AllKept G) (λ keeps. hears_keeping rules c.args.clock keeps packets node) in
    rw p.1 (part_fails (λ (kept : Bool) (node : Side g.row.C.Denot g.row.V.Denot). hears (rules_of g.C.Core.taken g.V.Services.noted g.V.Services.served kept) c.args.clock frame node)
    (λ node. IsNode node c.args.link.now c.args.core.now c.args.services.now) (λ node. IsNode node mid r.core r.services) c.args.link.now piece whole F G p.0 f
    (λ node taken given events is read grows.
    let so = r.invariant.heard node taken given is read in
    let to = read_at taken piece place size (given ++ so.events) r.link mid c.read-size.result.1 _ few c.in-Some.is (c.read-size.ensures.read (taken ++ take place piece) (given ++ so.events) so.read) in
    let rest = drop (place + size) piece in
    let more = subst (λ (bytes : List ℕ). GrowsBy c.args.link.now.endpoint.extras bytes given events) (cut_at taken piece (place + size)) grows in
    (so.heard.node, node_read so.heard.node r.link mid r.core r.services c.read-size.ensures.link so.heard.is, part_to_none rules c.args.clock c.args.link.now.endpoint.extras node (taken ++ take place piece) (taken ++ take (place + size) piece) given (HasFailed faults sure old then) r.link mid r.core r.services r.news.items so F G rest frame events to more (λ failed. failed_then faults sure old then now failed c.hear.ensures.keeps.serves) f))
    (subst (λ (packet : Packet). FailsKeeping p.0 (λ (node : Side g.row.C.Denot g.row.V.Denot). IsNode node mid r.core r.services) (λ (kept : Bool) (node : Side g.row.C.Denot g.row.V.Denot). hears (rules_of g.C.Core.taken g.V.Services.noted g.V.Services.served kept) c.args.clock packet node) (λ kept. IsKept kept F) F) (c.raw-raw.ensures ∙ c.of-bytes.ensures)
    (subst (λ (fault : NodeFault). FailsKeeping fault (λ (node : Side g.row.C.Denot g.row.V.Denot). IsNode node mid r.core r.services) (λ (kept : Bool) (node : Side g.row.C.Denot g.row.V.Denot). hears (rules_of g.C.Core.taken g.V.Services.noted g.V.Services.served kept) c.args.clock c.raw-raw.result node) (λ kept. IsKept kept F) F) (sym p.2) c.in_err-hear.ensures.fault)))

pub reading-smaller : goal.reading-smaller
reading-smaller g c =
    let r = c.reading in
    let piece = c.args.piece.now in
    fewer_left piece r.place c.read-size.result.0 r.link c.read-size.new.self c.hear.new.link c.read-size.result.1 c.in-Some.frame (omega (arith, c.read-size.ensures.count, part_length piece r.place)) r.invariant.within c.in-Some.is c.read-size.ensures.read c.hear.ensures.keeps.reader

pub returns-in_err-hear-clause-given : goal.returns-in_err-hear-clause-given
returns-in_err-hear-clause-given g c =
    let p = err_from_is_err_and c.from_residual.result c.from_residual.ensures.1 in
    let r = c.reading in
    let faults = g.K.Keeper.faults in
    let sure = g.K.Keeper.is_infallible in
    let old = c.args.keeper.now in
    let then = r.keeper in
    let now = c.hear.new.keeper in
    let piece = c.args.piece.now in
    let place = r.place in
    let size = c.read-size.result.0 in
    let mid = c.read-size.new.self in
    let frame = c.in-Some.frame in
    let contents = g.K.Keeper.contents now in
    let stored = g.C.Core.stored in
    let few : size ≤ length piece - place = omega (arith, c.read-size.ensures.count, part_length piece place) in
    let rules = rules_of g.C.Core.taken g.V.Services.noted g.V.Services.served in
    rw p.1 (λ held node taken given events is read grows.
    let so = r.invariant.heard node taken given is read in
    let to = read_at taken piece place size (given ++ so.events) r.link mid c.read-size.result.1 _ few c.in-Some.is (c.read-size.ensures.read (taken ++ take place piece) (given ++ so.events) so.read) in
    let rest = drop (place + size) piece in
    let more = subst (λ (bytes : List ℕ). GrowsBy c.args.link.now.endpoint.extras bytes given events) (cut_at taken piece (place + size)) grows in
    let at_mid = subst (λ low. Holds (g.K.Keeper.contents then) (g.C.Core.stored r.core) low) (sym c.read-size.ensures.low) (r.invariant.stored held) in
    let left = c.in_err-hear.ensures.keeps.given at_mid so.heard.node (node_read so.heard.node r.link mid r.core r.services c.read-size.ensures.link so.heard.is) in
    part_given rules c.args.clock c.args.link.now.endpoint.extras node (taken ++ take place piece) (taken ++ take (place + size) piece) given (HasFailed faults sure old then) r.link mid r.core r.services r.news.items so g.C.Core.taken stored contents (HasFailed faults sure old now) rest frame events to more (λ failed. failed_then faults sure old then now failed c.hear.ensures.keeps.serves)
    (subst (λ (packet : Packet). GivenUp contents stored r.link.low (AtFrame g.C.Core.taken so.heard.node.link packet r.core)) (c.raw-raw.ensures ∙ c.of-bytes.ensures)
    (subst (λ (low : Option ℕ). GivenUp contents stored low (AtFrame g.C.Core.taken so.heard.node.link c.raw-raw.result r.core)) c.read-size.ensures.low left)))
