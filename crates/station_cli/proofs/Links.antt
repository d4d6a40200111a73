-- As many links as ports were wanted, and as many stores as were, are as many as the words ask for.
use Rattle.std.proofs.Common.{◌≡◌, ◌∙◌, ℕ, Bool, true, false, if◌then◌else◌, List, [], ◌∷◌, Option, Some, None, refl, sym, ap, length}
use Rattle.std.specs.Prelude.{is_some, option_map, string_bytes}
use Rattle.std.proofs.lemmas.List.{length-map}
use Rattle.command_line.specs.declared.commands.OptionName.{OptionName}
use Rattle.command_line.specs.declared.commands.OptionName.TheVariants.{Store}
use Rattle.command_line.specs.Built.{built}
use Rattle.command_line.specs.Forms.{Given, has_given, is_named}
use Rattle.command_line.specs.Grammar.{Asked, Asks}
use Rattle.command_line.specs.Names.{port_words, value_given}
use Rattle.command_line.specs.PortTexts.{port_text}
use Rattle.station_cli.specs.declared.wants.Wanted.{Wanted}
use Rattle.station_cli.specs.Wants.{AreAsked, Wants, keepers_asked}
use Rattle.command_inputs.proofs.NamedSame.{same_asked}

pub links_asked : (words : List (List ℕ)) (w : Wanted) (links : ℕ) → Wants words w → links ≡ length w.ports.items → (asked : Asked) → Asks built words asked → AreAsked links asked
links_asked words w links wants same asked asks =
    same ∙ sym (length-map w.ports.items port_text) ∙ ap length wants.ports
    ∙ ap (λ (a : Asked). length (port_words a.command a.plain)) (same_asked words wants.asked asked wants.asks asks)

-- an option has a value if it is given
given_first : (name : OptionName) (g : Given) (gs : List Given) (is : Bool) → is_named name g ≡ is → is_some (value_given name gs) ≡ has_given name gs → is_some (value_given name (g ∷ gs)) ≡ has_given name (g ∷ gs)
given_first name g gs true e more = rw e refl
given_first name g gs false e more = rw e more

value_is_given : (name : OptionName) (gs : List Given) → is_some (value_given name gs) ≡ has_given name gs
value_is_given name [] = refl
value_is_given name (g ∷ gs) = given_first name g gs (is_named name g) refl (value_is_given name gs)

same_some : {A B : Type 0} (f : A → B) (x : Option A) → is_some x ≡ is_some (option_map f x)
same_some f None = refl
same_some f (Some a) = refl

pub stores_asked : (words : List (List ℕ)) (w : Wanted) (stores : ℕ) → Wants words w → stores ≡ (if is_some w.store then 1 else 0) → (asked : Asked) → Asks built words asked → stores ≡ keepers_asked asked
stores_asked words w stores wants count asked asks =
    let named : is_some w.store ≡ has_given Store wants.asked.settings = same_some string_bytes w.store ∙ ap is_some wants.store ∙ value_is_given Store wants.asked.settings in
    count ∙ ap (λ (b : Bool). if b then 1 else 0) named ∙ ap keepers_asked (same_asked words wants.asked asked wants.asks asks)
