-- The clause of `make`, from that of its command.
use Rattle.std.proofs.Common.{◌≡◌, ◌∙◌, ℕ, List, [], ◌∷◌, subst, ap}
use Rattle.command_line.specs.declared.commands.Command.TheVariants.{Make}
use Rattle.command_line.specs.Built.{built}
use Rattle.command_line.specs.Forms.{ArePlain}
use Rattle.command_line.specs.Grammar.{Asked, Asks}
use Rattle.run_status.specs.Runs.{Steady}
use Rattle.make_command.specs.Spec.{make_spec}
use Rattle.station_cli.specs.Making.{Makes}

-- nothing stops a run
pub make_steady : (number : ℕ) → Steady (make_spec number)
make_steady number = record { stays = λ ended taken more stop e. absurd (cc e) }

-- the same line
pub makes_asked : (asked other : Asked) (runs : ℕ → Type 0) → asked ≡ other → Makes asked.plain runs → Makes other.plain runs
makes_asked asked other runs same m = subst (λ (a : Asked). Makes a.plain runs) same m

-- a run by another account
pub makes_on : (plain : List (List ℕ)) (first second : ℕ → Type 0) → ((number : ℕ) → first number → second number) → Makes plain first → Makes plain second
makes_on plain first second on (number, is, most, run) = (number, is, most, on number run)

-- before its number was read
pub unmade_number : {words : List (List ℕ)} (asked : Asked) (runs : ℕ → Type 0) → Asks built words asked → asked.command ≡ Make → ((number : ℕ) → runs number) → Makes asked.plain runs
unmade_number asked runs asks is run =
    let (word, plain, (number, written, least, most)) = subst (λ c. ArePlain built c asked.settings asked.plain) is asks.fits.plain_words in
    (number, plain ∙ ap (λ w. w ∷ []) written, most, run number)
