-- What holds of a thread's part still holds after each step of the thread.
use Rattle.std.proofs.Common.{◌≡◌, ◌∙◌, refl, subst, sym, take}
use Rattle.mav_links.specs.Links.{LinkState}
use Rattle.turnstile.specs.Participants.{Lock}
use Rattle.mav_router.specs.declared.history.SwitchEvent.{SwitchEvent}
use Rattle.mav_router.specs.declared.parts.Part.{Part}
use Rattle.mav_router.specs.Journal.{Rules, frames_to}
use Rattle.mav_router.specs.History.{entries_in}
use Rattle.mav_router.specs.Runs.{Input, Output}
use Rattle.mav_router.specs.Parts.{IsReady, KeepsOn}

module _ {A : Type 0} (state : A → LinkState) (lock : Lock SwitchEvent) (rules : Rules) where
  pub keeps_still : (part : Part A) → IsReady lock rules part → KeepsOn state lock rules part part
  keeps_still part ready = record { ready = ready; port = refl; so_far = λ first s. s; turned = λ turns had. had }

  -- by one step after another
  pub keeps_on : (old next new : Part A) → KeepsOn state lock rules old next → KeepsOn state lock rules next new → KeepsOn state lock rules old new
  keeps_on old next new f s = record {
    ready = s.ready;
    port = s.port ∙ f.port;
    so_far = λ first p. s.so_far first (f.so_far first p);
    turned = λ turns had. s.turned turns (f.turned turns had);
  }

  -- a link of which nothing changed that is told
  pub keeps_link : (part : Part A) (link : A) → state link ≡ state part.side.link → IsReady lock rules part → KeepsOn state lock rules part (record part { side = record part.side { link = link } })
  keeps_link part link same ready = record {
    ready = record { seated = ready.seated; from = ready.from; to = ready.to; few = ready.few; taken = ready.taken };
    port = refl;
    so_far = λ first s. record {
      input = subst (λ (now : LinkState). Input rules (entries_in part.seat.own) part.port first now part.side.lane) (sym same) s.input;
      output = subst (λ (now : LinkState). Output (frames_to part.port (take part.side.taken (entries_in part.seat.seen))) first now part.side.lane) (sym same) s.output;
    };
    turned = λ turns had. had;
  }
