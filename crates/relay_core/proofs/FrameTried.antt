-- A frame that was tried, and was told.
use Rattle.std.proofs.Common.{◌≡◌, ◌∙◌, ◌<◌, ℕ, zero, suc, ◌+◌, ◌&&◌, List, [], ◌∷◌, length, map, slice_get, Some, refl, sym, ap, subst, arith}
use Rattle.mav_frame.specs.Packet.{Packet}
use Rattle.mav_sign.specs.declared.admission.Admit.{Admit}
use Rattle.mav_sign.specs.History.{is_admitted}
use Rattle.mav_sign.specs.Kept.{HasRoom, Kept}
use Rattle.link_table.specs.OpenLinks.{StandsFor, Words, has_link}
use Rattle.link_table.specs.Routing.{has_port}
use Rattle.mav_router.specs.Admitting.{IsVerdictBy}
use Rattle.mav_router.specs.Journal.{Rules}
use Rattle.relay_rules.specs.Kept.{LinksKept, Represents, head_of, names_of}
use Rattle.relay_rules.specs.States.{LinkState, RelayState, goes_to, heard, link_at}
use Rattle.relay_rules.specs.declared.links.OpenLink.{OpenLink}
use Rattle.relay_core.specs.Flows.{one_told, passes}
use Rattle.relay_core.specs.Moves.{IsTried, numbers_of}
use Rattle.relay_core.proofs.FrameSteps.{as_many, there_is}
use Rattle.relay_core.proofs.Places.{nothing_there, same_some}
use Rattle.relay_core.proofs.Telling.{numbers_passing}
use Rattle.relay_core.specs.Said.{Said, Tells}

mapped_at : (links : List LinkState) (k : ℕ) (link : LinkState) → slice_get links k ≡ Some link → slice_get (map head_of links) k ≡ Some (head_of link)
mapped_at [] k link e = absurd (nothing_there k e)
mapped_at (l ∷ links) zero link e = ap (λ (o : LinkState). Some (head_of o)) (same_some e)
mapped_at (l ∷ links) (suc k) link e = mapped_at links k link e

pub frame_tried : (rules : Rules) (index bits : ℕ) (packet : Packet) (answer : Admit) (view room later : LinksKept) {Watcher : Type 0} (told : Watcher → List Said → Type 0) (watcher telling : Watcher) → index < length view.links → HasRoom view.kept room.kept → room.given ≡ view.given → room.links ≡ view.links → room.words ≡ view.words → later.links ≡ room.links → ((state : RelayState) → Represents room state → IsVerdictBy rules.key (has_port rules.plain (link_at state.links index).port) room.kept later.kept packet answer) → ((state : RelayState) → Represents room state → (k : ℕ) → k < length state.links → has_link bits k ≡ (is_admitted answer && goes_to rules packet (link_at state.links index) (link_at state.links k))) → ((state : RelayState) → Represents room state → Represents later (heard index (is_admitted answer) packet.from later.kept state)) → ((link : OpenLink) → slice_get later.links index ≡ Some link → Tells told watcher telling (one_told link.number packet answer (numbers_of (has_link bits) 0 later.links))) → (state : RelayState) → Represents view state → IsTried rules index bits packet state later told watcher telling
frame_tried rules index bits packet answer view room later told watcher telling within made given links words same verdict ways hears tell state r =
    let now : RelayState = record { given = state.given; links = state.links; kept = room.kept } in
    let stands : Represents room now = record {
      given = given ∙ r.given;
      links = links ∙ r.links;
      words = subst (λ (w : Words). StandsFor w (map names_of state.links)) (sym words) r.words;
      kept = refl;
    } in
    let count = as_many view state r in
    let own = link_at state.links index in
    let here = there_is state.links index (omega (arith, within, count)) in
    let heads : later.links ≡ map head_of state.links = same ∙ (links ∙ r.links) in
    let head = ap (λ (l : List OpenLink). slice_get l index) heads ∙ mapped_at state.links index own here in
    let passing = numbers_passing (has_link bits) (passes rules packet answer own) 0 state.links (λ j less. (let same_index : 0 + j ≡ j = omega arith in ap (has_link bits) same_index ∙ ways now stands j less)) in
    record {
      answer = answer;
      after = heard index (is_admitted answer) packet.from later.kept state;
      step = record {
        index = index;
        link = own;
        there = here;
        same = refl;
        room = room.kept;
        made = subst (λ (k : Kept). HasRoom k room.kept) r.kept made;
        verdict = verdict now stands;
        state = refl;
      };
      links_are = hears now stands;
      ways = ways now stands;
      tells_it = subst (λ (to : List ℕ). Tells told watcher telling (one_told own.number packet answer to)) (ap (numbers_of (has_link bits) 0) heads ∙ passing) (tell (head_of own) head);
    }
