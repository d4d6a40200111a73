-- The clauses of `route`, from those of its parts.
use Rattle.std.proofs.Common.{◌≡◌, ◌∙◌, ◌<◌, ◌≤◌, ◌+◌, if◌then◌else◌, get_or, take, inl, inr, ℕ, zero, suc, Bool, true, false, List, [], ◌∷◌, ◌++◌, refl, sym, ap, subst, arith, length, map, Option, Some}
use Rattle.std.specs.Prelude.{slice_set}
use Rattle.std.proofs.lemmas.List.{length-map, map-append, length-take-le, take_more}
use Rattle.mav_ports.specs.Gets.{IsSpent}
use Rattle.mav_ports.proofs.Known.{append_known_nil}
use Rattle.field_layout.specs.Definition.{Definition}
use Rattle.mav_profile.specs.Profile.{profile_definitions}
use Rattle.mav_links.specs.Links.{LinkState}
use Rattle.mav_router.specs.declared.entries.SwitchFault.TheVariants.{NoMemory as NoRoom}
use Rattle.mav_router.proofs.PortEnds.{nothing_routed}
use Rattle.run_status.specs.declared.run_ends.RunEnd.{RunEnd}
use Rattle.run_status.specs.declared.run_ends.RunEnd.TheVariants.{NoMemory}
use Rattle.run_status.specs.Runs.{CommandSpec, Steady}
use Rattle.command_inputs.specs.KeyText.{key_of}
use Rattle.command_inputs.specs.KeyInputs.{given_key_spec, TookAtMost}
use Rattle.command_inputs.proofs.KeyStays.{key_steady}
use Rattle.dialect_command.specs.Spec.{definitions_spec}
use Rattle.dialect_command.proofs.Stays.{reading_steady}
use Rattle.command_line.specs.declared.commands.Command.{Command}
use Rattle.command_line.specs.declared.commands.Command.TheVariants.{Route}
use Rattle.command_line.specs.declared.commands.OptionName.TheVariants.{Defs}
use Rattle.command_line.specs.declared.ports.Port.{Port}
use Rattle.command_line.specs.Built.{built}
use Rattle.command_line.specs.Forms.{Given, has_given, ArePlain, Fits}
use Rattle.command_line.specs.Lines.{Says}
use Rattle.command_line.specs.Names.{port_words}
use Rattle.command_line.specs.Grammar.{Asked}
use Rattle.command_line.specs.PortTexts.{is_marked, port_text}
use Rattle.command_line.proofs.PortWords.{mark_of}
use Rattle.mav_router.specs.Journal.{rules_of}
use Rattle.route_command.specs.Routes.{ports_of, RoutesBeforeStatus}
use Rattle.mav_router.proofs.Halts.{stops_as}
use Rattle.run_status.specs.Seen.{Input, input_of, before_status_over}
use Rattle.dialect_command.specs.Known.{WithDefinitions}
use Rattle.route_command.specs.Routing.{Routing, pad, router_of, AllEnded}
use Rattle.command_inputs.proofs.KeyNames.{took_nothing}
use Rattle.command_inputs.proofs.NamedRuns.{unmade}

-- which ports are open
abbrev pub flags : List Port → List Bool
flags ports = map (λ (p : Port). p.is_open) ports

pad_none : (n : ℕ) (fs : List Bool) → pad n (fs ++ false ∷ []) ≡ pad n fs
pad_none zero fs = refl
pad_none (suc zero) [] = refl
pad_none (suc (suc n)) [] = refl
pad_none (suc n) (f ∷ fs) = ap (λ more. f ∷ more) (pad_none n fs)

pad_some : (n : ℕ) (fs : List Bool) → length fs < n → slice_set (pad n fs) (length fs) true ≡ pad n (fs ++ true ∷ [])
pad_some zero fs few = absurd (omega (arith, few))
pad_some (suc n) [] few = refl
pad_some (suc n) (f ∷ fs) few = ap (λ more. f ∷ more) (pad_some n fs (omega (arith, few)))

pad_more : (n : ℕ) (f : Bool) (fs : List Bool) → length fs < n → (if f then slice_set (pad n fs) (length fs) true else pad n fs) ≡ pad n (fs ++ f ∷ [])
pad_more n true fs few = pad_some n fs few
pad_more n false fs few = sym (pad_none n fs)

one_more : (ports : List Port) (at : ℕ) (d : Port) → at < length ports → length ports ≤ 8 → (if (get_or ports at d).is_open then slice_set (pad 8 (flags (take at ports))) at true else pad 8 (flags (take at ports))) ≡ pad 8 (flags (take (at + 1) ports))
one_more ports at d within few =
    let fs = flags (take at ports) in
    let f = (get_or ports at d).is_open in
    let count : length fs ≡ at = length-map (take at ports) (λ (p : Port). p.is_open) ∙ length-take-le at ports (omega (arith, within)) in
    let there : fs ++ f ∷ [] ≡ flags (take (at + 1) ports) = sym (map-append (λ (p : Port). p.is_open) (take at ports) (get_or ports at d ∷ [])) ∙ ap flags (sym (take_more ports at d within)) in
    subst (λ k. (if f then slice_set (pad 8 fs) k true else pad 8 fs) ≡ pad 8 (flags (take (at + 1) ports))) count
    (pad_more 8 f fs (omega (arith, count, within, few)) ∙ ap (pad 8) there)

pub next_port : (ports : List Port) (at k : ℕ) (d : Port) (ways next : List Bool) → ways ≡ pad 8 (flags (take at ports)) → k ≡ at → next ≡ (if (get_or ports at d).is_open then slice_set ways k true else ways) → at < length ports → length ports ≤ 8 → next ≡ pad 8 (flags (take (at + 1) ports))
next_port ports at k d ways next held same set within few =
    set ∙ ap (λ n. if (get_or ports at d).is_open then slice_set ways n true else ways) same
    ∙ ap (λ w. if (get_or ports at d).is_open then slice_set w at true else w) held ∙ one_more ports at d within few

pub open_marks : (ports : List Port) → map is_marked (map port_text ports) ≡ map (λ (p : Port). p.is_open) ports
open_marks [] = refl
open_marks (p ∷ ps) = rw (mark_of p, open_marks ps) refl

-- there was no memory before the router ran
pub unrouted : {A : Type 0} (state : A → LinkState) (asked : Asked) (ports : List A) (key : List ℕ) (known : List Definition) (end : RunEnd) (refusals : ℕ) (before after : Option (List ℕ)) → end ≡ NoMemory → after ≡ before → RoutesBeforeStatus (router_of state asked ports ports key known) (Some end) refusals refusals before after
unrouted state asked ports key known end refusals before after is same = inr (record {
  journal = [];
  why = NoRoom;
  halted = record { links = refl; run = record { legal = tt; stopped = stops_as _ state _ _ NoRoom [] ports ports (nothing_routed state _ _ ports) } };
  wrote = inl (ap Some is, refl, same ∙ append_known_nil before);
})

-- the same run by other names
pub routed_as : {A : Type 0} (state : A → LinkState) (key : List ℕ) (known : List Definition) (count : ℕ) (before after : List A) (end : Option RunEnd) (rb ra : ℕ) (sb sa : Option (List ℕ)) (plain other : List Bool) (one alone : Bool) (turns most : ℕ) → plain ≡ other → one ≡ alone → turns ≡ most
    → RoutesBeforeStatus (ports_of state (rules_of key known plain count) one turns before after) end rb ra sb sa
    → RoutesBeforeStatus (ports_of state (rules_of key known other count) alone most before after) end rb ra sb sa
routed_as state key known count before after end rb ra sb sa plain other one alone turns most same way too run =
    subst (λ t. RoutesBeforeStatus (ports_of state (rules_of key known other count) alone t before after) end rb ra sb sa) too
    (subst (λ o. RoutesBeforeStatus (ports_of state (rules_of key known other count) o turns before after) end rb ra sb sa) way
    (subst (λ p. RoutesBeforeStatus (ports_of state (rules_of key known p count) one turns before after) end rb ra sb sa) same run))

pub routing_as : (one other : Bool) (runs : CommandSpec → Input → Type 0) (halted unmoved : Type 0) (first second : List ℕ → List Definition → Type 0) (key defs : Input) → one ≡ other → first ≡ second → Routing one runs halted unmoved first key defs → Routing other runs halted unmoved second key defs
routing_as one other runs halted unmoved first second key defs same too d =
    subst (λ f. Routing other runs halted unmoved f key defs) too (subst (λ b. Routing b runs halted unmoved first key defs) same d)

-- each run's status is written
module _ (first second : CommandSpec → Input → Type 0) (halted stopped unmoved : Type 0) (on : (s : CommandSpec) → Steady s → (i : Input) → (i.spent → IsSpent i.left_after) → first s i → second s i) (ends : halted → stopped) (one two : List ℕ → List Definition → Type 0) (routed : (key : List ℕ) (known : List Definition) → one key known → two key known) where
  definitions_reported : (named : Bool) (key : List ℕ) (defs : Input) → (defs.spent → IsSpent defs.left_after) → WithDefinitions named first halted unmoved defs (one key) → WithDefinitions named second stopped unmoved defs (two key)
  definitions_reported false key defs ds d = routed key profile_definitions d
  definitions_reported true key defs ds (inl (run, h, u)) = inl (on definitions_spec (reading_steady definitions_spec.closing) defs ds run, ends h, u)
  definitions_reported true key defs ds (inr (known, holds, d)) = inr (known, holds, routed key known d)

  pub routing_reported : (named : Bool) (key defs : Input) → (key.spent → IsSpent key.left_after) → (defs.spent → IsSpent defs.left_after) → Routing named first halted unmoved one key defs → Routing named second stopped unmoved two key defs
  routing_reported named key defs ks ds (inl (run, h, within, others)) = inl (on given_key_spec (key_steady key_of) key ks run, ends h, within, others)
  routing_reported named key defs ks ds (inr (bytes, holds, d)) = inr (bytes, holds, definitions_reported named bytes defs ds d)

-- the ports are as they were unless each input that is named ended
module _ (runs : CommandSpec → Input → Type 0) (halted unmoved : Type 0) (routed : List ℕ → List Definition → Type 0) where
  definitions_wait : (named : Bool) (defs : Input) (next : List Definition → Type 0) → WithDefinitions named runs halted unmoved defs next → ((named ≡ true → defs.spent) → ⊥) → unmoved
  definitions_wait false defs next d never = absurd (never (λ e. absurd (cc e)))
  definitions_wait true defs next (inl (run, h, u)) never = u
  definitions_wait true defs next (inr (ds, holds, d)) never = absurd (never (λ e. holds.at_end))

  pub ports_wait : (named : Bool) (key defs : Input) → Routing named runs halted unmoved routed key defs → (AllEnded named key defs → ⊥) → unmoved
  ports_wait named key defs (inl (run, h, within, others)) never = others.1
  ports_wait named key defs (inr (bytes, holds, d)) never = definitions_wait named defs (routed bytes) d (λ all. never (holds.at_end, all))

-- what its words ask for
pub route_words : (c : Command) (plain : List (List ℕ)) (ports : List Port) (number : ℕ) → c ≡ Route → Says c plain ports number → map port_text ports ≡ plain
route_words c plain ports number is says = says.ports_are ∙ ap (λ d. port_words d plain) is

pub route_count : (c : Command) (gs : List Given) (plain : List (List ℕ)) → c ≡ Route → Fits built c gs plain → (1 ≤ length plain) × (length plain ≤ 8)
route_count c gs plain is fits =
    let (least, most, each) = subst (λ d. ArePlain built d gs plain) is fits.plain_words in
    (least, most)

pub route_links : (c : Command) (plain : List (List ℕ)) (links : ℕ) → c ≡ Route → links ≡ length (port_words c plain) → links ≡ length plain
route_links c plain links is asked = asked ∙ ap (λ d. length (port_words d plain)) is

-- the same line
pub routing_asked : {A : Type 0} (state : A → LinkState) (asked other : Asked) (runs : CommandSpec → Input → Type 0) (halted unmoved : Type 0) (before after : List A) (end : Option RunEnd) (rb ra : ℕ) (sb sa : Option (List ℕ)) (key defs : Input) → asked ≡ other
    → Routing (has_given Defs asked.settings) runs halted unmoved (λ k known. RoutesBeforeStatus (router_of state asked before after k known) end rb ra sb sa) key defs
    → Routing (has_given Defs other.settings) runs halted unmoved (λ k known. RoutesBeforeStatus (router_of state other before after k known) end rb ra sb sa) key defs
routing_asked state asked other runs halted unmoved before after end rb ra sb sa key defs same d =
    subst (λ (a : Asked). Routing (has_given Defs a.settings) runs halted unmoved (λ k known. RoutesBeforeStatus (router_of state a before after k known) end rb ra sb sa) key defs) same d

-- there was no memory before anything was read
module _ {A : Type 0} (has_ended : A → Type 0) (faults idles : A → ℕ) (left : A → Option (List ℕ)) (key : A) (refusals : ℕ) (sent : Option (List ℕ)) where
  pub key_unread : (halted others : Type 0) → halted → others → before_status_over (record { refusals_before = refusals; refusals_after = refusals; sent_before = sent; sent_after = sent }) (Some NoMemory) given_key_spec (input_of has_ended faults idles left key key) × halted × TookAtMost 67 (left key) (left key) × others
  key_unread halted others h o = (unmade has_ended faults idles left refusals sent given_key_spec key, h, took_nothing (left key), o)
