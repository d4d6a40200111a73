-- The ports of the open links, after what a hub does.
use Rattle.std.proofs.Common.{◌≡◌, ◌∙◌, ◌<◌, ◌≤◌, ℕ, zero, suc, Bool, true, false, ◌+◌, ◌-◌, List, [], ◌∷◌, ◌++◌, length, map, take, drop, set, get_or, Some, None, refl, sym, ap, arith, length-append}
use Rattle.std.proofs.lemmas.List.{get_or_append_left, take-map}
use Rattle.std.specs.List.{remove}
use Rattle.std.specs.Option.{option_map, unwrap_or}
use Rattle.std.specs.declared.option.Option.{Option}
use Rattle.relay_hub.specs.declared.news.HubNews.{HubNews}
use Rattle.relay_hub.specs.declared.news.HubNews.TheVariants.{Opened, Refused, Closed, Waits}
use Rattle.relay_hub.specs.declared.news.Stranger.{Stranger}
use Rattle.relay_hub.specs.Hubs.{AreOpened, Datagram, HubState, Tape, adopts, asks, blank, closes, gives, happens, no_datagram, opens, place_of, takes, tape_of}
use Rattle.relay_hub.specs.Seats.{Seats, adopted_at, asked_at, port_of, ports_of, ports_told, seats_of}

-- two functions that agree on a list
map_same : (f g : ℕ → ℕ) (xs : List ℕ) → ((i : ℕ) → i < length xs → f (get_or xs i 0) ≡ g (get_or xs i 0)) → map f xs ≡ map g xs
map_same f g [] same = refl
map_same f g (x ∷ xs) same =
    ap (λ (y : ℕ). y ∷ map f xs) (same 0 (omega arith))
    ∙ ap (λ (ys : List ℕ). g x ∷ ys) (map_same f g xs (λ i l. same (suc i) (omega (arith, l))))

map_append : (f : ℕ → ℕ) (xs ys : List ℕ) → map f (xs ++ ys) ≡ map f xs ++ map f ys
map_append f [] ys = refl
map_append f (x ∷ xs) ys = ap (λ (zs : List ℕ). f x ∷ zs) (map_append f xs ys)

map_remove : (f : ℕ → ℕ) (xs : List ℕ) (k : ℕ) → map f (remove xs k) ≡ remove (map f xs) k
map_remove f [] zero = refl
map_remove f [] (suc k) = refl
map_remove f (x ∷ xs) zero = refl
map_remove f (x ∷ xs) (suc k) = ap (λ (zs : List ℕ). f x ∷ zs) (map_remove f xs k)

-- a tape of the same port in the place of another one
same_port : (tapes : List Tape) (place : ℕ) (tape : Tape) → tape.port ≡ (get_or tapes place (blank 0)).port → (n : ℕ) → (get_or (set tapes place tape) n (blank 0)).port ≡ (get_or tapes n (blank 0)).port
same_port [] zero tape e n = refl
same_port [] (suc place) tape e n = refl
same_port (t ∷ tapes) zero tape e zero = e
same_port (t ∷ tapes) zero tape e (suc n) = refl
same_port (t ∷ tapes) (suc place) tape e zero = refl
same_port (t ∷ tapes) (suc place) tape e (suc n) = same_port tapes place tape e n

same_ports : (tapes : List Tape) (place : ℕ) (tape : Tape) → tape.port ≡ (get_or tapes place (blank 0)).port → (links : List ℕ) → map (port_of (set tapes place tape)) links ≡ map (port_of tapes) links
same_ports tapes place tape e links =
    map_same (port_of (set tapes place tape)) (port_of tapes) links (λ i l. same_port tapes place tape e (get_or links i 0 - 1))

pub seats_gives : (index : ℕ) (bytes : List ℕ) (s : HubState) → seats_of (gives index bytes s) ≡ seats_of s
seats_gives index bytes s =
    ap (λ (ports : List ℕ). record (seats_of s) { ports = ports })
    (same_ports s.tapes (place_of index s) (record (tape_of index s) { given = (tape_of index s).given ++ bytes }) refl s.links)

pub seats_takes : (index : ℕ) (bytes : List ℕ) (s : HubState) → seats_of (takes index bytes s) ≡ seats_of s
seats_takes index bytes s =
    ap (λ (ports : List ℕ). record (seats_of s) { ports = ports })
    (same_ports s.tapes (place_of index s) (record (tape_of index s) { taken = (tape_of index s).taken ++ bytes }) refl s.links)

pub ports_opens : (tape : Tape) (s : HubState) → AreOpened s → ports_of (opens tape s) ≡ ports_of s ++ tape.port ∷ []
ports_opens tape s opened =
    map_append (port_of (s.tapes ++ tape ∷ [])) s.links ((length s.tapes + 1) ∷ [])
    ∙ (ap (λ (ports : List ℕ). ports ++ port_of (s.tapes ++ tape ∷ []) (length s.tapes + 1) ∷ [])
    (map_same (port_of (s.tapes ++ tape ∷ [])) (port_of s.tapes) s.links (λ i l. ap (λ (t : Tape). t.port) (get_or_append_left s.tapes (tape ∷ []) (blank 0) (get_or s.links i 0 - 1) (opened i l))))
    ∙ ap (λ (port : ℕ). ports_of s ++ port ∷ []) (ap (λ (t : Tape). t.port) (newest s.tapes tape)))
  where
    last : (tapes : List Tape) (tape : Tape) → get_or (tapes ++ tape ∷ []) (length tapes) (blank 0) ≡ tape
    last [] tape = refl
    last (t ∷ tapes) tape = last tapes tape

    less : (n : ℕ) → n + 1 - 1 ≡ n
    less n = omega arith

    newest : (tapes : List Tape) (tape : Tape) → get_or (tapes ++ tape ∷ []) (length tapes + 1 - 1) (blank 0) ≡ tape
    newest tapes tape = ap (λ (n : ℕ). get_or (tapes ++ tape ∷ []) n (blank 0)) (less (length tapes)) ∙ last tapes tape

pub ports_closes : (index : ℕ) (s : HubState) → ports_of (closes index s) ≡ remove (ports_of s) index
ports_closes index s = map_remove (port_of s.tapes) s.links index

-- after what happened
pub ports_happens : (news : HubNews) (s : HubState) → AreOpened s → ports_of (happens (Some news) s) ≡ ports_told (Some news) (ports_of s)
ports_happens (Opened port) s opened = ports_opens (blank port) s opened
ports_happens (Refused port) s opened = refl
ports_happens (Closed index why) s opened = ports_closes index s
ports_happens (Waits port) s opened = refl

pub seats_asks : (came : Option Stranger) (buf : List ℕ) (s : HubState) → seats_of (asks came buf s) ≡ asked_at came (seats_of s)
seats_asks None buf s = refl
seats_asks (Some c) buf s = refl

asker_port : (stranger : Option Datagram) → (unwrap_or stranger no_datagram).port ≡ unwrap_or (option_map (λ (d : Datagram). d.port) stranger) 0
asker_port None = refl
asker_port (Some d) = refl

pub seats_adopts : (is : Bool) (from : ℕ) (s : HubState) → AreOpened s → seats_of (adopts is from s) ≡ adopted_at is (seats_of s)
seats_adopts false from s opened = refl
seats_adopts true from s opened =
    let datagram = unwrap_or s.stranger no_datagram in
    let tape : Tape = record (blank datagram.port) { given = drop from datagram.bytes } in
    let seated : List ℕ → Seats = λ ports. record { ports = ports; stranger = None } in
    ap seated (ports_opens tape s opened)
    ∙ ap (λ (port : ℕ). seated (ports_of s ++ port ∷ [])) (asker_port s.stranger)
