-- The bytes that an operation gave, behind the lines of its run.
use Rattle.std.proofs.Common.{◌≡◌, ◌∙◌, ℕ, List, Option, Some, None, Result, Ok, Err, refl, sym, subst}
use Rattle.std.specs.Prelude.{IfErr}
use Rattle.std.specs.Result.{result_err}
use Rattle.mav_ports.specs.Counts.{Rose}
use Rattle.mav_links.specs.Links.{LinkState}
use Rattle.run_status.specs.declared.run_ends.RunEnd.{RunEnd}
use Rattle.run_status.specs.declared.run_ends.RunEnd.TheVariants.{WriteFault}
use Rattle.live_node.specs.Ports.{PrintedBy, PrintFaults, FaultsBy}
use Rattle.live_node.specs.Runs.{outside}
use Rattle.live_node.specs.Stations.{IsGivingEnd, IsStationEnd, Gives}

-- they were written, or a write of them failed
given_by : (r : Result (Unit {0}) RunEnd) (bytes : List ℕ) (link : LinkState) (before after : Option (List ℕ)) (time : Option ℕ) → IfErr r (λ end. end ≡ WriteFault) → PrintedBy (result_err r) before after bytes → Gives (Ok bytes) (result_err r) (outside link before time) (outside link after time)
given_by (Ok done) bytes link before after time h printed = record { is_end = tt; printed = printed; link = refl; time = refl }
given_by (Err end) bytes link before after time h printed = record { is_end = subst (λ (e : RunEnd). IsGivingEnd (Some e)) (sym h) tt; printed = printed; link = refl; time = refl }

pub given : (ended : Result (List ℕ) RunEnd) (r : Result (Unit {0}) RunEnd) (bytes : List ℕ) (link : LinkState) (before after : Option (List ℕ)) (time : Option ℕ) → ended ≡ Ok bytes → IfErr r (λ end. end ≡ WriteFault) → PrintedBy (result_err r) before after bytes → Gives ended (result_err r) (outside link before time) (outside link after time)
given ended r bytes link before after time is h printed =
    subst (λ (e : Result (List ℕ) RunEnd). Gives e (result_err r) (outside link before time) (outside link after time)) (sym is) (given_by r bytes link before after time h printed)

pub given_end : (r : Result (Unit {0}) RunEnd) → IfErr r (λ end. end ≡ WriteFault) → IfErr r IsStationEnd
given_end (Ok done) h = tt
given_end (Err end) h = subst IsStationEnd (sym h) tt

counted_by : (r : Result (Unit {0}) RunEnd) (pb pa ob om oa : ℕ) → IfErr r (λ end. end ≡ WriteFault) → PrintFaults (result_err r) om oa → FaultsBy None pb pa ob om → FaultsBy (result_err r) pb pa ob oa
counted_by (Ok done) pb pa ob om oa h counts (port, out) = (port, counts ∙ out)
counted_by (Err end) pb pa ob om oa h counts (port, out) =
    let rose = subst (λ (e : RunEnd). PrintFaults (Some e) om oa) h counts in
    subst (λ (e : RunEnd). FaultsBy (Some e) pb pa ob oa) (sym h) (subst (λ (n : ℕ). Rose n oa) out rose)

pub given_counts : (ended : Result (List ℕ) RunEnd) (r : Result (Unit {0}) RunEnd) (bytes : List ℕ) (pb pa ob om oa : ℕ) → ended ≡ Ok bytes → IfErr r (λ end. end ≡ WriteFault) → PrintFaults (result_err r) om oa → FaultsBy (result_err ended) pb pa ob om → FaultsBy (result_err r) pb pa ob oa
given_counts ended r bytes pb pa ob om oa is h counts f =
    counted_by r pb pa ob om oa h counts (subst (λ (e : Result (List ℕ) RunEnd). FaultsBy (result_err e) pb pa ob om) is f)

-- the run has ended otherwise
pub not_given : (ended : Result (List ℕ) RunEnd) (end : RunEnd) (link : LinkState) (text : Option (List ℕ)) (time : Option ℕ) → ended ≡ Err end → Gives ended (Some end) (outside link text time) (outside link text time)
not_given ended end link text time is =
    subst (λ (e : Result (List ℕ) RunEnd). Gives e (Some end) (outside link text time) (outside link text time)) (sym is) (refl, refl)

pub other_end : (ended : Result (List ℕ) RunEnd) (end : RunEnd) → ended ≡ Err end → IfErr ended IsStationEnd → IsStationEnd end
other_end ended end is h = subst (λ (e : Result (List ℕ) RunEnd). IfErr e IsStationEnd) is h

pub other_counts : (ended : Result (List ℕ) RunEnd) (end : RunEnd) (pb pa ob oa : ℕ) → ended ≡ Err end → FaultsBy (result_err ended) pb pa ob oa → FaultsBy (Some end) pb pa ob oa
other_counts ended end pb pa ob oa is f = subst (λ (e : Result (List ℕ) RunEnd). FaultsBy (result_err e) pb pa ob oa) is f
