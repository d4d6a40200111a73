-- The turns of ports on one thread.
use Rattle.std.proofs.Common.{◌≡◌, ◌∙◌, ◌<◌, ◌≤◌, ◌+◌, ◌^◌, ◌==◌, ℕ, arith, inl, inr, Bool, true, false, List, Option, Some, length, set, slice_get, refl, sym, subst}
use Rattle.std.proofs.lemmas.Grind.{common_steps}
use Rattle.mav_links.specs.Links.{LinkState}
use Rattle.mav_router.specs.declared.lane.Lane.{Lane}
use Rattle.mav_router.specs.Journal.{Rules, SwitchState}
use Rattle.mav_router.specs.Runs.{HadTurns, HadBetween, AllTurned, DidBetween, KeepsTurns, TurnsOnce, PortSoFar, RunGoesOn}
use Rattle.mav_router.proofs.RunSteps.{AllWithin, get_set_at, get_set_other, index_within, same_or}

pub clash : {P : Type 0} (b : Bool) → b ≡ true → b ≡ false → P
clash b is other = absurd (let wrong : ◌≡◌ {A = Bool} true false = sym is ∙ other in cc)

-- a port that is still read had as many turns as it had
had_own : (lane : Lane) → lane.ended ≡ false → lane.failed ≡ false → HadTurns lane lane.turns
had_own lane live fine = record {
  most = omega arith;
  fewer = λ ended. clash lane.ended ended live;
  live = λ _ _. refl;
}

-- a turn of a port that may be read
pub once_between : (least most : ℕ) (old new : Lane) → old.ended ≡ false → old.failed ≡ false → old.turns < most → most < 2 ^ 64 → ((n : ℕ) → n + 1 < 2 ^ 64 → HadTurns old n → HadTurns new (n + 1)) → HadBetween least most old → HadBetween (least + 1) most new
once_between least most old new live fine under small turn before =
    let had = turn old.turns (omega (arith, under, small)) (had_own old live fine) in
    record {
      most = (let m = had.most in omega (arith, m, under));
      fewer = λ ended. (let f = had.fewer ended in omega (arith, f, under));
      least = λ is_live is_fine. (let now = had.live is_live is_fine in let then_ = before.least live fine in omega (arith, now, then_));
    }

pub fewer_between : (least most : ℕ) (lane : Lane) → HadBetween (least + 1) most lane → HadBetween least most lane
fewer_between least most lane had = record {
  most = had.most;
  fewer = had.fewer;
  least = λ live fine. (let l = had.least live fine in omega (arith, l));
}

-- a port that isn't read again needs no turn more
pub over_between : (least most : ℕ) (lane : Lane) → least < most → (lane.ended ≡ false → lane.failed ≡ false → most ≤ lane.turns) → HadBetween least most lane → HadBetween (least + 1) most lane
over_between least most lane under over had = record {
  most = had.most;
  fewer = had.fewer;
  least = λ live fine. (let l = over live fine in omega (arith, l, under));
}

-- what keeps the count of turns keeps these bounds
pub kept_between : (least most : ℕ) (old new : Lane) → least ≤ most → ((n : ℕ) → HadTurns old n → HadTurns new n) → HadBetween least most old → HadBetween least most new
kept_between least most old new under kept had = by_end old.ended old.failed refl refl
  where
    over : (old.ended ≡ false → old.failed ≡ false → ⊥) → HadBetween least most new
    over stopped =
        let then_ = kept most (record { most = had.most; fewer = had.fewer; live = λ live fine. absurd (stopped live fine) }) in
        record {
          most = then_.most;
          fewer = then_.fewer;
          least = λ live fine. (let now = then_.live live fine in omega (arith, now, under));
        }

    by_end : (ended failed : Bool) → old.ended ≡ ended → old.failed ≡ failed → HadBetween least most new
    by_end true failed is_ended is_failed = over (λ live fine. clash old.ended is_ended live)
    by_end false true is_ended is_failed = over (λ live fine. clash old.failed is_failed fine)
    by_end false false live fine =
        let then_ = kept old.turns (had_own old live fine) in
        record {
          most = (let m = then_.most in let before = had.most in omega (arith, m, before));
          fewer = λ ended. (let f = then_.fewer ended in let before = had.most in omega (arith, f, before));
          least = λ is_live is_fine. (let now = then_.live is_live is_fine in let before = had.least live fine in omega (arith, now, before));
        }

-- a step at one port
pub turns_step : (most at : ℕ) (first lanes : List Lane) (new old : Lane) → slice_get lanes at ≡ Some old → ((least : ℕ) → least ≤ most → HadBetween least most old → HadBetween least most new) → KeepsTurns most first lanes → KeepsTurns most first (set lanes at new)
turns_step most at first lanes new old is_old step before least k under had lane is =
    elim (same_or k at) [
      | inl e ↦
          let to_lane = get_set_at lanes at new lane (subst (λ (j : ℕ). slice_get (set lanes at new) j ≡ Some lane) e is) in
          subst (HadBetween least most) to_lane (step least under (before least k under had old (subst (λ (j : ℕ). slice_get lanes j ≡ Some old) (sym e) is_old)))
      | inr apart ↦ before least k under had lane (sym (get_set_other lanes at k new apart) ∙ is)
    ]

pub turns_kept : (most : ℕ) (lanes : List Lane) → KeepsTurns most lanes lanes
turns_kept most lanes least k under had = had

-- a step at the port that is asked, and then at others
pub once_at : (most at k : ℕ) (first lanes : List Lane) (new old : Lane) → k ≡ at → slice_get lanes at ≡ Some old → ((least : ℕ) → least < most → HadBetween least most old → HadBetween (least + 1) most new) → KeepsTurns most first lanes → TurnsOnce most k first (set lanes at new)
once_at most at k first lanes new old e is_old step before = subst (λ (j : ℕ). TurnsOnce most j first (set lanes at new)) (sym e) own
  where
    own : TurnsOnce most at first (set lanes at new)
    own least under had lane is =
        let to_lane = get_set_at lanes at new lane is in
        subst (HadBetween (least + 1) most) to_lane (step least under (before least at (omega (arith, under)) had old is_old))

pub once_then : (most at k : ℕ) (first lanes : List Lane) (new old : Lane) → slice_get lanes at ≡ Some old → (k ≡ at → ⊥) → TurnsOnce most k first lanes → TurnsOnce most k first (set lanes at new)
once_then most at k first lanes new old is_old apart before least under had lane is =
    before least under had lane (sym (get_set_other lanes at k new apart) ∙ is)

-- no port is past the last
pub once_past : (most k : ℕ) (first lanes : List Lane) → length lanes ≤ k → TurnsOnce most k first lanes
once_past most k first lanes past least under had lane is = absurd (let w = index_within lanes k lane is in omega (arith, w, past))

-- what keeps all turns keeps one turn more
pub once_kept : (most k : ℕ) (first middle last : List Lane) → TurnsOnce most k first middle → KeepsTurns most middle last → TurnsOnce most k first last
once_kept most k first middle last once kept least under had = kept (least + 1) k (omega (arith, under)) (once least under had)

pub all_within : (most : ℕ) (first lanes : List Lane) → ((k : ℕ) → DidBetween 0 most first k) → KeepsTurns most first lanes → AllWithin lanes most
all_within most first lanes start kept k lane is = (kept 0 k (omega arith) (start k) lane is).most

-- the turns of all ports at the start and at the end
pub turns_at_start : (most : ℕ) (lanes : List Lane) → AllTurned lanes 0 → (k : ℕ) → DidBetween 0 most lanes k
turns_at_start most lanes start k lane is =
    let had = start k lane is in
    record {
      most = (let m = had.most in omega (arith, m));
      fewer = λ ended. absurd (let f = had.fewer ended in omega (arith, f));
      least = λ _ _. omega arith;
    }

pub turns_at_end : (most : ℕ) (lanes : List Lane) → ((k : ℕ) → k < length lanes → DidBetween most most lanes k) → AllTurned lanes most
turns_at_end most lanes each k lane is =
    let had = each k (index_within lanes k lane is) lane is in
    record {
      most = had.most;
      fewer = had.fewer;
      live = λ live fine. (let l = had.least live fine in let m = had.most in omega (arith, l, m));
    }

-- a link is in another place of memory, or waited: nothing is told of it
pub link_kept : {A : Type 0} (state : A → LinkState) (switch : SwitchState) (links : List A) (lanes : List Lane) (at : ℕ) (new old : A) → slice_get links at ≡ Some old → state new ≡ state old → RunGoesOn state switch switch links (set links at new) lanes lanes
link_kept {A} state switch links lanes at new old is_old same rules first run k link lane is_link is_lane =
    elim (same_or k at) [
      | inl e ↦
          let to_link = get_set_at links at new link (subst (λ (j : ℕ). slice_get (set links at new) j ≡ Some link) e is_link) in
          let so_far = run k old lane (subst (λ (j : ℕ). slice_get links j ≡ Some old) (sym e) is_old) is_lane in
          subst (λ (x : A). PortSoFar rules switch (k + 1) (first k) (state x) lane) to_link
          (subst (λ (s : LinkState). PortSoFar rules switch (k + 1) (first k) s lane) (sym same) so_far)
      | inr apart ↦ run k link lane (sym (get_set_other links at k new apart) ∙ is_link) is_lane
    ]

-- a run goes on twice
pub goes_then : {A : Type 0} (state : A → LinkState) (old middle new : SwitchState) (before between after : List A) (lanes later last : List Lane) → RunGoesOn state old middle before between lanes later → RunGoesOn state middle new between after later last → RunGoesOn state old new before after lanes last
goes_then state old middle new before between after lanes later last first_goes then_goes rules first run = then_goes rules first (first_goes rules first run)

pub same_number : (n m : ℕ) → n ≡ m → (n == m) ≡ true
same_number n m e = grind (arith, common_steps, e)

pub all_starts : (most : ℕ) (first lanes : List Lane) → KeepsTurns most first lanes → ((k : ℕ) → DidBetween 0 most first k) → (k : ℕ) → DidBetween 0 most lanes k
all_starts most first lanes kept start k = kept 0 k (omega arith) (start k)

-- a port that isn't read again had as many turns as it may have
pub over_at : (low most at : ℕ) (lanes : List Lane) (lane : Lane) → slice_get lanes at ≡ Some lane → (lane.ended ≡ false → lane.failed ≡ false → most ≤ lane.turns) → DidBetween low most lanes at → DidBetween most most lanes at
over_at low most at lanes lane there over did other is =
    let same = some_same lane other (sym there ∙ is) in
    let had = did lane there in
    subst (HadBetween most most) same (record { most = had.most; fewer = had.fewer; least = over })
  where
    some_same : (x y : Lane) → ◌≡◌ {A = Option Lane} (Some x) (Some y) → x ≡ y
    some_same x y e = cc
