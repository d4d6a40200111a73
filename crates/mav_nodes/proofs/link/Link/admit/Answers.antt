use Rattle.std.proofs.Common.{◌≡◌, ℕ, List, Option, None, sym, ap, ◌∙◌, subst}
use Rattle.std.proofs.lemmas.List.Sums.{fold_push}
use Rattle.std.proofs.lemmas.Result.{err_from_is_err_and}
use Rattle.mav_frame.specs.Packet.{Packet}
use Rattle.mav_sign.specs.declared.admission.Admit.{Admit}
use Rattle.mav_sign.specs.History.{Entry, tried, answer_to}
use Rattle.mav_sign.specs.Kept.{Represents, kept_answer_to}
use Rattle.mav_sign.specs.Endpoints.{EndpointState, after_frame}
use Rattle.mav_sign.specs.Streams.{reader_of}
use Rattle.mav_nodes.specs.Links.{Link, LinkView, IsEnd, IsLink, tries}
use Rattle.mav_nodes.specs.LowBounds.{raised_if, raised_at}
use Rattle.mav_nodes.specs.Stores.{Holds, IsRaised}
use Rattle.mav_nodes.proofs.SendsAll.{held_nearly}
use Rattle.mav_nodes.proofs.link.Link.admit.Goals as goal

-- the verdict of an endpoint
verdict_so : (link : Link) (frame : Packet) (old : LinkView) (inside : EndpointState) (answer : Admit) → IsLink link old → inside ≡ old.endpoint → ((history : List Entry) → Represents inside.stamps history → answer ≡ answer_to inside.key history frame) → answer ≡ answer_to link.key link.history frame
verdict_so link frame old inside answer is view verdict =
    let end : IsEnd link inside = subst (IsEnd link) (sym view) is.end in
    verdict link.history end.history ∙ ap (λ (key : List ℕ). answer_to key link.history frame) end.key

-- the endpoint, once the store has a bound
end_then : (link : Link) (old : LinkView) (low : Option ℕ) (raised : LinkView) (inside : EndpointState) → IsLink link old → inside ≡ raised.endpoint → raised ≡ record old { low = low } → IsEnd link inside
end_then link old low raised inside is view same = subst (IsEnd link) (sym (view ∙ ap (λ (v : LinkView). v.endpoint) same)) is.end

tried_so : (link : Link) (frame : Packet) (old raised : LinkView) (inside after : EndpointState) (low : Option ℕ) → IsLink link old → inside ≡ raised.endpoint → low ≡ raised.low → raised ≡ record old { low = raised_if old.low (answer_to link.key link.history frame) frame.block }
    → after ≡ record inside { stamps = after.stamps } → ((history : List Entry) → Represents inside.stamps history → Represents after.stamps (after_frame inside.key history frame)) → IsLink (tries frame link) (record { endpoint = after; low = low })
tried_so link frame old raised inside after low is view view_low bound same history =
    let end = end_then link old (raised_if old.low (answer_to link.key link.history frame) frame.block) raised inside is view bound in
    record {
      end = record {
        key = ap (λ (e : EndpointState). e.key) same ∙ end.key;
        me = ap (λ (e : EndpointState). e.me) same ∙ end.me;
        extras = ap (λ (e : EndpointState). e.extras) same ∙ end.extras;
        seq = ap (λ (e : EndpointState). e.seq) same ∙ end.seq;
        history = subst (λ (key : List ℕ). Represents after.stamps (after_frame key link.history frame)) end.key (history link.history end.history);
      };
      low =
          view_low ∙ (ap (λ (v : LinkView). v.low) bound
          ∙ (ap (λ (n : Option ℕ). raised_if n (answer_to link.key link.history frame) frame.block) is.low
          ∙ sym (fold_push raised_at None link.history (tried frame (answer_to link.key link.history frame)))));
    }

pub returns-in_err-raise_for : goal.returns-in_err-raise_for
returns-in_err-raise_for g c =
    let p = err_from_is_err_and c.from_residual.result c.from_residual.ensures.1 in
    rw (p.1, p.2) (record {
      answer = tt;
      link = tt;
      keeps = record {
        stored = tt;
        given = λ held. c.in_err-raise_for.ensures.given (held_nearly (g.K.Keeper.contents c.args.keeper.now) (g.C.Core.stored c.args.core.now) c.args.self.now.low held);
        raised = c.raise_for.ensures.raised;
        reader = ap reader_of c.raise_for.ensures.endpoint;
        serves = c.raise_for.ensures.serves;
      };
      fault = c.in_err-raise_for.ensures.fault;
    })

pub keep_verdict-requires : goal.keep_verdict-requires
keep_verdict-requires g c =
    let first = ap (λ (v : LinkView). v.endpoint) c.self.view_is in
    let view = ap (λ (v : LinkView). v.endpoint) c.self-2.view_is in
    c.test_judged-answer.ensures.by_kept ∙ ap (λ (e : EndpointState). kept_answer_to e.key e.stamps c.args.frame.now) (first ∙ (sym c.raise_for.ensures.endpoint ∙ sym view))

pub returns : goal.returns
returns g c =
    let old = c.args.self.now in
    let raised = c.raise_for.new.self in
    let frame = c.args.frame.now in
    let first = ap (λ (v : LinkView). v.endpoint) c.self.view_is in
    let view = ap (λ (v : LinkView). v.endpoint) c.self-2.view_is in
    let low = ap (λ (v : LinkView). v.low) c.self-2.view_is in
    let answer : (link : Link) → IsLink link old → c.test_judged-answer.result ≡ answer_to link.key link.history frame = λ link is. verdict_so link frame old c.self.inside.endpoint c.test_judged-answer.result is first c.test_judged-answer.ensures.by_history in
    record {
      answer = answer;
      link = λ link is. tried_so link frame old raised c.self-2.inside.endpoint c.keep_verdict.new.self c.self-2.inside.low is view low (c.in_ok-raise_for.ensures.low ∙ ap (λ (a : Admit). record old { low = raised_if old.low a frame.block }) (answer link is)) c.keep_verdict.ensures.same c.keep_verdict.ensures.history;
      keeps = record {
        stored = λ held. subst (Holds (g.K.Keeper.contents c.raise_for.new.keeper) (g.C.Core.stored c.args.core.now)) (sym low) (c.in_ok-raise_for.ensures.stored held);
        given = tt;
        raised = subst (IsRaised old.low) (sym low) c.raise_for.ensures.raised;
        reader = ap reader_of c.keep_verdict.ensures.same ∙ (ap reader_of view ∙ ap reader_of c.raise_for.ensures.endpoint);
        serves = c.raise_for.ensures.serves;
      };
      fault = tt;
    }
