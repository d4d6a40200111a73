-- How a run over a generated scenario comes to its end.
use Rattle.std.proofs.Common.{◌≡◌, ◌∙◌, ℕ, Bool, true, false, List, [], ◌++◌, refl, sym, ap, subst, append-nil, Option, Some, None, option_map, IsTrue}
use Rattle.std.specs.Io.KnownBytes.{append_known, prepend_known}
use Rattle.mav_ports.specs.Counts.{Rose}
use Rattle.mav_ports.specs.Gets.{IsSpent}
use Rattle.mav_ports.specs.Puts.{SentPrefix}
use Rattle.command_inputs.specs.KeyText.{default_key}
use Rattle.run_status.specs.declared.input_errors.InputError.{InputError}
use Rattle.run_status.specs.declared.live_ends.LiveEnd.{LiveEnd}
use Rattle.run_status.specs.declared.run_ends.RunEnd.{RunEnd}
use Rattle.run_status.specs.declared.run_ends.RunEnd.TheVariants.{Stopped, WriteFault, Live}
use Rattle.run_status.specs.Runs.{port_outcome, RunBeforeStatus}
use Rattle.fleet_world.specs.Scenario.{whole_report, played}
use Rattle.fleet_command.specs.Spec.{fleet_spec, reported_error}
use Rattle.fleet_command.proofs.Stays.{fleet_steady}
use Rattle.scenario_maker.specs.Generator.{scenario_text}
use Rattle.scenario_maker.specs.Generated.{generated}
use Rattle.make_command.specs.Spec.{make_text, make_spec}
use Rattle.scenario_maker.proofs.Generated.{generated_done}

-- all bytes were taken, if nothing is left
taken_whole : (bytes taken : List ℕ) (left : Option (List ℕ)) → Some bytes ≡ prepend_known taken left → IsSpent left → taken ≡ bytes
taken_whole bytes taken None took spent = absurd (let wrong : ◌≡◌ {A = Option (List ℕ)} (Some bytes) None = took in cc)
taken_whole bytes taken (Some rest) took spent =
    let same : ◌≡◌ {A = Option (List ℕ)} (Some bytes) (Some (taken ++ rest)) = took in
    let whole : bytes ≡ taken ++ rest = cc in
    sym (whole ∙ ap (λ (xs : List ℕ). taken ++ xs) spent ∙ append-nil taken)

-- they begin with those that were taken
pub record Begins (bytes taken : List ℕ) : Type 0 where
  pub rest : List ℕ
  pub is : bytes ≡ taken ++ rest

taken_first : (bytes taken : List ℕ) (left : Option (List ℕ)) → Some bytes ≡ prepend_known taken left → Begins bytes taken
taken_first bytes taken None took = absurd (let wrong : ◌≡◌ {A = Option (List ℕ)} (Some bytes) None = took in cc)
taken_first bytes taken (Some rest) took = let same : ◌≡◌ {A = Option (List ℕ)} (Some bytes) (Some (taken ++ rest)) = took in record { rest = rest; is = cc }

module _ (number : ℕ) where
  -- nothing stops it, whether its input ended or not
  never_at : (ended : Bool) (taken : List ℕ) (left : Option (List ℕ)) (stop : InputError) → Some (scenario_text number) ≡ prepend_known taken left → (IsTrue ended → IsSpent left) → (fleet_spec default_key false).stop ended taken ≡ Some stop → ⊥
  never_at true taken left stop took spent e =
      let all = taken_whole (scenario_text number) taken left took (spent refl) in
      let none : (fleet_spec default_key false).stop true taken ≡ None = ap (λ bytes. option_map reported_error (played default_key true bytes).stop) all ∙ ap (option_map reported_error) (generated_done number) in
      let wrong : ◌≡◌ {A = Option InputError} None (Some stop) = sym none ∙ e in
      absurd (cc)
  never_at false taken left stop took spent e =
      let front = taken_first (scenario_text number) taken left took in
      let stays = (fleet_steady default_key false).stays true taken front.rest stop e in
      let none : (fleet_spec default_key false).stop true (taken ++ front.rest) ≡ None = ap (λ bytes. option_map reported_error (played default_key true bytes).stop) (sym front.is) ∙ ap (option_map reported_error) (generated_done number) in
      let wrong : ◌≡◌ {A = Option InputError} None (Some stop) = sym none ∙ stays.0 in
      absurd (cc)

  module _ (spent : Type 0) (fb fa : ℕ) (left sb sa : Option (List ℕ)) (left_is : spent → IsSpent left) where
    abbrev Ran : List ℕ → List ℕ → Option RunEnd → Type 0
    Ran key bytes end = RunBeforeStatus (fleet_spec key false) (port_outcome spent 0 0 0 0 fb fa) (Some bytes) left sb sa end

    never : (stop : InputError) → Ran default_key (scenario_text number) (Some (Stopped stop)) → ⊥
    never stop r = never_at r.ended r.taken left stop r.took (λ e. left_is (r.at_end e)) r.cause

    pub never_stops : (key bytes : List ℕ) (end : Option RunEnd) (stop : InputError) → key ≡ default_key → bytes ≡ scenario_text number → end ≡ Some (Stopped stop) → Ran key bytes end → ⊥
    never_stops key bytes end stop k b e r =
        never stop (subst (λ x. Ran x (scenario_text number) (Some (Stopped stop))) k (subst (λ x. Ran key x (Some (Stopped stop))) b (subst (Ran key bytes) e r)))

    -- and it has no port
    pub never_live : (key bytes : List ℕ) (end : Option RunEnd) (live : LiveEnd) → end ≡ Some (Live live) → Ran key bytes end → ⊥
    never_live key bytes end live e r =
        let at : Ran key bytes (Some (Live live)) = subst (Ran key bytes) e r in
        at.cause

    whole : Ran default_key (scenario_text number) None → sa ≡ append_known sb (whole_report false (generated number))
    whole r =
        let ended = r.cause.0 in
        let all = taken_whole (scenario_text number) r.taken left r.took (left_is (r.at_end ended)) in
        r.wrote
        ∙ ap (λ e. append_known sb ((fleet_spec default_key false).report e r.taken ++ (fleet_spec default_key false).closing r.taken)) ended
        ∙ ap (λ bytes. append_known sb (whole_report false (played default_key true bytes))) all

    -- the whole report was written
    pub reports_all : (key bytes : List ℕ) (end : Option RunEnd) → key ≡ default_key → bytes ≡ scenario_text number → end ≡ None → Ran key bytes end → sa ≡ append_known sb (whole_report false (generated number))
    reports_all key bytes end k b e r =
        whole (subst (λ x. Ran x (scenario_text number) None) k (subst (λ x. Ran key x None) b (subst (Ran key bytes) e r)))

  pub report_is : (now : List ℕ) (sb sa : Option (List ℕ)) → sb ≡ Some [] → sa ≡ append_known sb (whole_report false (generated number)) → sa ≡ Some now → now ≡ whole_report false (generated number)
  report_is now sb sa b e f =
      let same : ◌≡◌ {A = Option (List ℕ)} (Some now) (Some (whole_report false (generated number))) = sym f ∙ e ∙ ap (λ known. append_known known (whole_report false (generated number))) b in
      cc

  -- ---- the sums

  -- they were written
  pub made : (refusals_before refusals_after : ℕ) (text : List ℕ) (before after : Option (List ℕ)) → text ≡ make_text number → after ≡ append_known before text → RunBeforeStatus (make_spec number) (port_outcome (Unit {0}) 0 0 0 0 refusals_before refusals_after) (Some []) (Some []) before after None
  made rb ra text before after is wrote = record { taken = []; ended = true; took = refl; at_end = λ e. tt; cause = (refl, refl); wrote = wrote ∙ ap (append_known before) is }

  -- or a prefix of them
  pub unmade : (refusals_before refusals_after : ℕ) (text : List ℕ) (before after : Option (List ℕ)) → text ≡ make_text number → SentPrefix before after text → Rose refusals_before refusals_after
      → RunBeforeStatus (make_spec number) (port_outcome (Unit {0}) 0 0 0 0 refusals_before refusals_after) (Some []) (Some []) before after (Some WriteFault)
  unmade rb ra text before after is wrote rose = record { taken = []; ended = true; took = refl; at_end = λ e. tt; cause = rose; wrote = subst (SentPrefix before after) is wrote }
