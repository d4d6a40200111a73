-- What is written as long as that needn't wait.
use Rattle.std.proofs.Common.{◌≡◌, ◌≤◌, ℕ, List, [], length, sym, subst}
use Rattle.mav_frame.specs.Packet.{Packet}
use Rattle.mav_links.specs.Links.{LinkState}
use Rattle.mav_router.specs.declared.entries.Entry.{Entry}
use Rattle.mav_router.specs.declared.lane.Lane.{Lane}
use Rattle.mav_router.specs.Outgoing.{GivenBut, KeepsInput, LooksOn}
use Rattle.mav_router.specs.Runs.{Output}
use Rattle.mav_router.proofs.Outgoing.{given_all, looks_not, keeps_same}

-- a port was asked for its room
pub keeps_asked : (now new : LinkState) (lane : Lane) → new ≡ now → KeepsInput now new lane lane
keeps_asked now new lane same = subst (λ (s : LinkState). KeepsInput now s lane lane) (sym same) (keeps_same now lane)

pub looks_asked : (port : ℕ) (journal : List Entry) (from : ℕ) (now new : LinkState) (lane : Lane) (text : List ℕ) → from ≤ length journal → new ≡ now → text ≡ [] → LooksOn port journal from from now new lane lane [] text
looks_asked port journal from now new lane text within same none =
    subst (λ (s : LinkState). LooksOn port journal from from now s lane lane [] text) (sym same)
    (subst (λ (t : List ℕ). LooksOn port journal from from now now lane lane [] t) (sym none) (looks_not port journal from now lane [] within))

-- what waited was written, and then it was asked
pub given_asked : (frames : List Packet) (first now new : LinkState) (lane : Lane) (text : List ℕ) → new ≡ now → text ≡ [] → Output frames first now lane → GivenBut frames first new lane text
given_asked frames first now new lane text same none o =
    subst (λ (s : LinkState). GivenBut frames first s lane text) (sym same)
    (subst (λ (t : List ℕ). GivenBut frames first now lane t) (sym none) (given_all frames first now lane o))

-- after entries were looked through more may be written
pub looks_on : (port : ℕ) (journal : List Entry) (from to : ℕ) (before now after : LinkState) (lane middle new : Lane) (text waits longer : List ℕ) → ((frames : List Packet) (first : LinkState) → GivenBut frames first now middle waits → GivenBut frames first after new longer) → LooksOn port journal from to before now lane middle text waits → LooksOn port journal from to before after lane new text longer
looks_on port journal from to before now after lane middle new text waits longer step looks = record {
  within = looks.within;
  given = λ first g. step _ first (looks.given first g);
}
