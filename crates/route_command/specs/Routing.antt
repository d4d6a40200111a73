-- What is read of the inputs that a line of `route` names, and in which order, and what its router does after that.
use Rattle.std.specs.Prelude.{◌≡◌, ◌⊎◌, ℕ, zero, suc, Bool, true, false, List, [], ◌∷◌, length, map}
use Rattle.field_layout.specs.Definition.{Definition}
use Rattle.mav_links.specs.Links.{LinkState}
use Rattle.run_status.specs.Runs.{CommandSpec}
use Rattle.command_inputs.specs.NamedKeys.{WithGivenKey}
use Rattle.command_line.specs.declared.commands.OptionName.TheVariants.{One}
use Rattle.command_line.specs.Forms.{has_given}
use Rattle.command_line.specs.Grammar.{Asked}
use Rattle.command_line.specs.Names.{port_words, turns_asked}
use Rattle.command_line.specs.PortTexts.{is_marked}
use Rattle.mav_router.specs.Journal.{rules_of}
use Rattle.route_command.specs.Routes.{Ports, ports_of}
use Rattle.run_status.specs.Seen.{Input}
use Rattle.dialect_command.specs.Known.{WithDefinitions}

-- the key is read, then the definitions, if they are named; a run that halts at either leaves the ports as they were;
-- and then the router runs
abbrev pub Routing : (named_defs : Bool) → (CommandSpec → Input → Type 0) → (halted unmoved : Type 0)
    → (List ℕ → List Definition → Type 0) → (key defs : Input) → Type 0
Routing named_defs runs halted unmoved routed key defs =
    WithGivenKey runs halted (defs.unread × unmoved) key
    (λ bytes. WithDefinitions named_defs runs halted unmoved defs (λ ds. routed bytes ds))

-- so many flags: those given, and then none
abbrev pub pad : ℕ → List Bool → List Bool
pad zero flags = []
pad (suc n) [] = false ∷ pad n []
pad (suc n) (flag ∷ flags) = flag ∷ pad n flags

-- which of eight ports are open: those whose words begin with `open:`
abbrev pub open_ports : List (List ℕ) → List Bool
open_ports words = pad 8 (map is_marked words)

-- the router that a line asks for, by a key and definitions, before and after its run
abbrev pub router_of : {A : Type 0} → (A → LinkState) → Asked → (before after : List A) → List ℕ → List Definition
    → Ports
router_of state asked before after key known =
    ports_of state (rules_of key known (open_ports asked.plain) (length before)) (has_given One asked.settings)
    (turns_asked asked.settings) before after

-- each input that a line of `route` names was read to its end
abbrev pub AllEnded : Bool → (key defs : Input) → Type 0
AllEnded named_defs key defs = key.spent × (named_defs ≡ true → defs.spent)
