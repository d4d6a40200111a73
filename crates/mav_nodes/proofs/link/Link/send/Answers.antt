use Rattle.std.proofs.Common.{◌≡◌, ℕ, Bool, true, false, if◌then◌else◌, List, Option, None, Result, Ok, Err, inl, refl, sym, ap, ◌∙◌, subst}
use Rattle.std.specs.Prelude.{nat_lt}
use Rattle.std.proofs.lemmas.List.Sums.{fold_push}
use Rattle.std.proofs.lemmas.Result.{err_from_is_err_and}
use Rattle.mav_messages.specs.declared.messages.Message.{Message}
use Rattle.mav_sign.specs.declared.admission.StampsSpent.{StampsSpent as SpentStamps}
use Rattle.mav_sign.specs.History.{sent, next_in, greatest_stamp, stamp_given}
use Rattle.mav_sign.specs.Kept.{Represents}
use Rattle.mav_sign.specs.Endpoints.{EndpointState}
use Rattle.mav_sign.specs.Streams.{reader_of}
use Rattle.mav_nodes.specs.declared.faults.NodeFault.{NodeFault}
use Rattle.mav_nodes.specs.declared.faults.NodeFault.TheVariants.{StampsSpent, Store, NoMemory}
use Rattle.mav_nodes.specs.declared.news.News.{News}
use Rattle.mav_nodes.specs.News.{NodeEvent}
use Rattle.mav_nodes.specs.Links.{Link, LinkView, IsEnd, IsLink, Outcome, done, sent_at, sends}
use Rattle.mav_nodes.specs.LowBounds.{raised, raised_at, stored_low}
use Rattle.mav_nodes.specs.Stores.{Holds, IsRaised, HasFailed, HasFailedAt}
use Rattle.mav_nodes.specs.Promises.{Fails, Did, LinkDid}
use Rattle.mav_nodes.proofs.Cores.{if_err}
use Rattle.mav_nodes.proofs.Ends.{on_ok, fails_so}
use Rattle.mav_nodes.proofs.StoreCalls.{serves_same, nearly_from, raised_same, keeps_on}
use Rattle.mav_nodes.proofs.link.Link.send.Goals as goal

-- no timestamp is left
none_left : (clock : ℕ) (message : Message) (link : Link) (fault : SpentStamps) → ◌≡◌ {A = Result ℕ SpentStamps} (Err fault) (stamp_given (next_in link.history clock)) → sends clock message link ≡ None
none_left clock message link fault e = by_test (nat_lt greatest_stamp (next_in link.history clock)) _ e
  where
    by_test : (t : Bool) (x : Outcome Link) → ◌≡◌ {A = Result ℕ SpentStamps} (Err fault) (if t then Err (record {}) else Ok (next_in link.history clock)) → (if t then None else x) ≡ None
    by_test true x e = refl
    by_test false x e = absurd (cc)

-- one is, and the store has a bound for it
link_sent : (clock : ℕ) (message : Message) (link : Link) (old bound now : LinkView) (stamp : ℕ) (before after : List News) → IsLink link old → ◌≡◌ {A = Result ℕ SpentStamps} (Ok stamp) (stamp_given (next_in link.history clock)) → bound ≡ record old { low = raised old.low stamp } → now.low ≡ bound.low → Did (sends clock message link) (λ end. IsEnd end now.endpoint) before after → LinkDid (sends clock message link) now before after
link_sent clock message link old bound now stamp before after is e same low did =
    by_test (nat_lt greatest_stamp (next_in link.history clock)) _ e did
  where
    by_test : (t : Bool) (events : List NodeEvent) → ◌≡◌ {A = Result ℕ SpentStamps} (Ok stamp) (if t then Err (record {}) else Ok (next_in link.history clock)) → Did (if t then None else done (sent_at (next_in link.history clock) link) events) (λ end. IsEnd end now.endpoint) before after → LinkDid (if t then None else done (sent_at (next_in link.history clock) link) events) now before after
    by_test true events e d = absurd d
    by_test false events e d =
        let next : stamp ≡ next_in link.history clock = cc in (
          record {
            end = d.0;
            low =
                low ∙ (ap (λ (v : LinkView). v.low) same ∙ (ap (λ (n : Option ℕ). raised n stamp) is.low
                ∙ (ap (λ (n : ℕ). raised (stored_low link.history) n) next ∙ sym (fold_push raised_at None link.history (sent (next_in link.history clock))))));
          },
          d.1,
        )

-- a fault of the bound is one of what is sent
fails_at : {Store A B : Type 0} (faults : Store → ℕ) (sure : Store → Type 0) (old now : Store) (Is : A → Type 0) (does : A → Outcome B) (fault : NodeFault) → HasFailedAt fault faults sure old now → Fails fault Is does (HasFailed faults sure old now)
fails_at faults sure old now Is does StampsSpent h = absurd h
fails_at faults sure old now Is does Store h = h
fails_at faults sure old now Is does NoMemory h = tt

pub returns-in_err-stamp : goal.returns-in_err-stamp
returns-in_err-stamp g c =
    let p = err_from_is_err_and c.from_residual.result c.from_residual.ensures.1 in
    rw (p.1, p.2) (record {
      sent = tt;
      keeps = record {
        stored = tt;
        given = nearly_from (g.K.Keeper.contents c.args.keeper.now) (g.C.Core.stored c.args.core.now) c.args.self.now.low;
        raised = raised_same c.args.self.now.low;
        reader = refl;
        serves = serves_same g.K.Keeper.faults g.K.Keeper.is_infallible c.args.keeper.now;
      };
      fault = λ link is. none_left c.args.clock c.args.message.now link _ (c.in_err-stamp.ensures.answer link.history (subst (λ (e : EndpointState). Represents e.stamps link.history) (sym (ap (λ (v : LinkView). v.endpoint) c.self.view_is)) is.end.history));
    })

pub returns-in_err-raise : goal.returns-in_err-raise
returns-in_err-raise g c =
    let p = err_from_is_err_and c.from_residual-in_err-raise.result c.from_residual-in_err-raise.ensures.1 in
    rw (p.1, p.2) (record {
      sent = tt;
      keeps = record { stored = tt; given = c.in_err-raise.ensures.given; raised = c.raise.ensures.raised; reader = ap reader_of c.raise.ensures.endpoint; serves = c.raise.ensures.serves };
      fault = fails_at g.K.Keeper.faults g.K.Keeper.is_infallible c.args.keeper.now c.raise.new.keeper (λ (link : Link). IsLink link c.args.self.now) (λ (link : Link). sends c.args.clock c.args.message.now link) _ c.in_err-raise.ensures.fault;
    })

pub returns : goal.returns
returns g c =
    let old = c.args.self.now in
    let bound = c.raise.new.self in
    let faults = g.K.Keeper.faults in
    let sure = g.K.Keeper.is_infallible in
    let end = ap (λ (v : LinkView). v.endpoint) c.in_ok-raise.ensures.low in
    let view = ap (λ (v : LinkView). v.endpoint) c.self.view_is in
    record {
      sent = on_ok c.transmit.result (λ did link is.
          link_sent c.args.clock c.args.message.now link old bound c.transmit.new.self c.in_ok-stamp.stamp c.args.news.now.items c.transmit.new.news.items is (c.in_ok-stamp.ensures.answer link.history (subst (λ (e : EndpointState). Represents e.stamps link.history) (sym view) is.end.history)) c.in_ok-raise.ensures.low c.transmit.ensures.low (did link (subst (IsEnd link) (sym end) is.end))) c.transmit.ensures.sent;
      keeps = keeps_on {K = Unit {0}} (record {
        stored = λ held. subst (Holds (g.K.Keeper.contents c.raise.new.keeper) (g.C.Core.stored c.args.core.now)) (sym c.transmit.ensures.low) (c.in_ok-raise.ensures.settled c.in_ok-stamp.ensures.some held);
        given = tt;
        raised = subst (IsRaised old.low) (sym c.transmit.ensures.low) c.raise.ensures.raised;
        reader = c.transmit.ensures.reader ∙ ap reader_of c.raise.ensures.endpoint;
        serves = c.raise.ensures.serves;
      }) inl;
      fault = if_err c.transmit.result (λ fault. fails_so fault (λ (link : Link). IsEnd link bound.endpoint) (λ (link : Link). sends c.args.clock c.args.message.now link) ⊥ (λ (link : Link). IsLink link old) (λ (link : Link). sends c.args.clock c.args.message.now link) (HasFailed faults sure c.args.keeper.now c.raise.new.keeper) (λ never. absurd never) (λ link is. (link, subst (IsEnd link) (sym end) is.end, λ none. none))) c.transmit.ensures.fault;
    }
