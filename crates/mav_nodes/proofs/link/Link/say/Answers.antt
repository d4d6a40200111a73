use Rattle.std.proofs.Common.{◌++◌, List, inl, ap, ◌∙◌, refl}
use Rattle.std.proofs.lemmas.Result.{err_from_is_err_and}
use Rattle.mav_nodes.specs.Links.{Link, Outcome, IsLink, after_events}
use Rattle.mav_nodes.specs.News.{Shown, events_of}
use Rattle.mav_nodes.specs.Steps.{answers}
use Rattle.mav_nodes.specs.Stores.{HasFailed}
use Rattle.mav_nodes.specs.Cores.{ends, says}
use Rattle.mav_nodes.proofs.Cores.{if_err, fails_for_memory, said_in_turn}
use Rattle.mav_nodes.proofs.Ends.{on_ok, fails_so}
use Rattle.mav_nodes.proofs.StoreCalls.{serves_same, before_from, raised_same, keeps_on}
use Rattle.mav_nodes.proofs.link.Link.say.Goals as goal

pub returns-in_err-tell_plans : goal.returns-in_err-tell_plans
returns-in_err-tell_plans g c =
    let p = err_from_is_err_and c.from_residual.result c.from_residual.ensures.1 in
    rw (p.1, p.2, c.in_err-tell_plans.ensures.fault) (record {
      said = tt;
      keeps = record {
        stored = tt;
        given = before_from (g.K.Keeper.contents c.args.keeper.now) (g.C.Core.stored c.args.core.now) c.args.self.now.low c.args.step.answer;
        raised = raised_same c.args.self.now.low;
        reader = refl;
        serves = serves_same g.K.Keeper.faults g.K.Keeper.is_infallible c.args.keeper.now;
      };
      fault = λ first last. tt;
    })

pub returns-in_err-answer : goal.returns-in_err-answer
returns-in_err-answer g c =
    let p = err_from_is_err_and c.from_residual-in_err-answer.result c.from_residual-in_err-answer.ensures.1 in
    let failed = HasFailed g.K.Keeper.faults g.K.Keeper.is_infallible c.args.keeper.now c.answer.new.keeper in
    rw (p.1, p.2) (record {
      said = tt;
      keeps = c.in_err-answer.ensures.keeps;
      fault = λ first last.
          fails_so _ (λ (link : Link). IsLink link c.args.self.now) (λ (link : Link). answers c.args.clock c.args.step.answer link) failed (λ (link : Link). IsLink link c.args.self.now) (λ (link : Link). says c.args.clock first c.args.step.answer last link) failed (λ h. h)
          (λ link is. (link, is, λ none. ap (λ (o : Outcome Link). after_events first (ends last o)) none)) c.in_err-answer.ensures.fault;
    })

pub returns : goal.returns
returns g c =
    let one = c.args.news.now.items in
    let two = c.tell_plans.new.news.items in
    let three = c.answer.new.news.items in
    let four = c.tell_outcome.new.news.items in
    record {
      said = on_ok c.tell_outcome.result (λ told link first last is plans outcome.
          said_in_turn c.args.clock link first last c.args.step.answer c.answer.new.self one two three four (c.in_ok-tell_plans.ensures.told ∙ ap (λ (l : List Shown). events_of one ++ l) plans) (c.in_ok-answer.ensures.sent link is) (told ∙ ap (λ (l : List Shown). events_of three ++ l) outcome)) c.tell_outcome.ensures.told;
      keeps = keeps_on c.in_ok-answer.ensures.keeps inl;
      fault = if_err c.tell_outcome.result (λ fault is first last. fails_for_memory fault _ _ _ is) c.tell_outcome.ensures.fault;
    }
