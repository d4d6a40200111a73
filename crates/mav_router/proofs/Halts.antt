-- A run that stopped, on one thread or on several.
use Rattle.std.proofs.Common.{◌≡◌, ℕ, ◌==◌, Bool, true, false, List, [], ◌∷◌, Option, Some, None, IsSome, ◌+◌, if◌then◌else◌, refl, subst}
use Rattle.std.proofs.lemmas.Grind.{common_steps}
use Rattle.std.proofs.Common.{arith}
use Rattle.mav_frame.specs.Packet.{Packet}
use Rattle.mav_links.specs.Links.{LinkState}
use Rattle.mav_sign.specs.Streams.{listed}
use Rattle.mav_router.specs.declared.entries.Entry.{Entry}
use Rattle.mav_router.specs.declared.entries.SwitchFault.{SwitchFault}
use Rattle.mav_router.specs.declared.entries.SwitchFault.TheVariants.{Full, NoMemory}
use Rattle.mav_router.specs.Journal.{Rules}
use Rattle.mav_router.specs.Faults.{Untaken, PartRun, RouteStopped, RouteHalted, StopsBy, CausedBy, HaltedBy, beyond_at}

-- the frame that the switch didn't take at a port, if it was there
abbrev untaken_at : Option Untaken → ℕ → Option Packet
untaken_at None port = None
untaken_at (Some untaken) port = if untaken.port == port then Some untaken.frame else None

listed_at : (untaken : Option Untaken) (port : ℕ) → beyond_at untaken port ≡ listed (untaken_at untaken port)
listed_at None port = refl
listed_at (Some untaken) port = by (untaken.port == port)
  where
    by : (own : Bool) → ◌≡◌ {A = List Packet} (if own then untaken.frame ∷ [] else []) (listed (if own then Some untaken.frame else None))
    by true = refl
    by false = refl

halted_by : (why : SwitchFault) (untaken : Option Untaken) (ports : ℕ) (journal : List Entry) → CausedBy why untaken ports journal → HaltedBy why (untaken_at untaken) ports journal
halted_by NoMemory untaken ports journal c = tt
halted_by (Full entries) None ports journal c = absurd c
halted_by (Full entries) (Some untaken) ports journal c = (c.0, c.1, (untaken.port, c.2, c.3, own (untaken.port == untaken.port) (same untaken.port)))
  where
    same : (n : ℕ) → (n == n) ≡ true
    same n = grind (arith, common_steps)

    own : (b : Bool) → b ≡ true → IsSome (if b then Some untaken.frame else None)
    own true e = refl
    own false e = absurd cc

-- one thread's run is one of any number of threads
pub halted : {A : Type 0} (state : A → LinkState) (rules : Rules) (most : ℕ) (why : SwitchFault) (journal : List Entry) (before after : List A) → RouteStopped state rules most why journal before after → RouteHalted state rules most why journal before after
halted state rules most why journal before after s = record {
  untaken = untaken_at s.untaken;
  cause = halted_by why s.untaken _ journal s.cause;
  ports = λ k b c is_b is_c. subst (λ (f : List Packet). PartRun rules journal most (k + 1) f (state b) (state c)) (listed_at s.untaken (k + 1)) (s.ports k b c is_b is_c);
}

-- a run on one thread stops as one with threads may
pub stops_as : {A : Type 0} (one : Bool) (state : A → LinkState) (rules : Rules) (most : ℕ) (why : SwitchFault) (journal : List Entry) (before after : List A) → RouteStopped state rules most why journal before after → StopsBy one state rules most why journal before after
stops_as true state rules most why journal before after s = s
stops_as false state rules most why journal before after s = halted state rules most why journal before after s
