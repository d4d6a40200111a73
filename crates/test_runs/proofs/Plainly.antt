-- What the promises of a run say of a command without options, if the ports are in memory and don't fail.
use Rattle.std.proofs.Common.{◌≡◌, ◌≢◌, ◌+◌, ◌-◌, ◌^◌, ◌<◌, ◌≤◌, ◌⊎◌, inl, inr, ◌∙◌, ℕ, true, false, List, [], ◌∷◌, ◌++◌, codes, length, refl, sym, ap, arith, lit≤, Option, Some, None, IsTrue}
use Rattle.std.specs.Io.KnownBytes.{append_known}
use Rattle.mav_ports.specs.Counts.{Rose}
use Rattle.mav_ports.specs.SureReads.{SureReads}
use Rattle.mav_ports.specs.SureWrites.{SureWrites}
use Rattle.command_line.specs.declared.commands.Command.{Command}
use Rattle.command_line.specs.declared.commands.Command.TheVariants.{Fleet, Dialect, Decode}
use Rattle.command_line.specs.Built.{built, is_built}
use Rattle.command_line.specs.Commands.{command_words, needs_key}
use Rattle.command_line.specs.Forms.{stdin_files, ArePlain, IsFile}
use Rattle.command_line.specs.Grammar.{Asked, Asks, Bare}
use Rattle.run_status.specs.Runs.{CommandSpec, end_of, output_of as output_by}
use Rattle.run_status.specs.Endings.{code_of}
use Rattle.command_inputs.specs.KeyText.{default_key}
use Rattle.test_fleet.specs.OneItem.{one_item, the_key, IsInstalledOnce}
use Rattle.fleet_theorem.proofs.Theorem.{theorem_of}
use Rattle.test_fleet.proofs.OneItem.{one_item_authentic, installed_once}
use Rattle.test_fleet.proofs.Playable.{one_item_playable}
use Rattle.command_line.specs.Names.{port_words}
use Rattle.station_cli.specs.Wants.{AreAsked, keepers_asked}
use Rattle.command_inputs.proofs.NamedSame.{same_asked}
use Rattle.run_status.specs.Seen.{Input, Output, input_of, output_of, around, promised_over}
use Rattle.fleet_line.specs.Fleets.{CarriesOver, FleetsComplete}

never : false ≡ true → ⊥
never same = cc

some_byte : (byte : ℕ) (bytes : List ℕ) → byte ∷ bytes ≢ []
some_byte byte bytes same = cc

abbrev the_file : List (List ℕ)
the_file = codes "file" ∷ []

-- a command and a file are a line of the grammar
abbrev pub asked : Command → Asked
asked command = record { command = command; settings = []; plain = the_file }

is_file : IsFile the_file
is_file = (codes "file", refl, some_byte 102 (codes "ile"))

asks : (command : Command) (words : List (List ℕ)) → words ≡ command_words command ++ the_file → is_built command ≡ true → (IsTrue (needs_key command) → ⊥) → ArePlain built command [] the_file → stdin_files command [] the_file ≤ 1 → Asks built words (asked command)
asks command words same is_built no_key plain one = record {
  written = record { pieces = Bare (codes "file") ∷ []; behind = None; are_pieces = (refl, tt); words_are = same; settings_are = refl; plain_are = refl };
  fits = record {
    command_built = is_built;
    options_taken = tt;
    once = refl;
    key_given = λ needed. absurd (no_key needed);
    plain_words = plain;
    one_stdin = one;
  };
}

pub asks_fleet : (words : List (List ℕ)) → words ≡ codes "fleet" ∷ the_file → Asks built words (asked Fleet)
asks_fleet words same = asks Fleet words same refl never is_file (lit≤ tt)

pub asks_decode : (words : List (List ℕ)) → words ≡ codes "decode" ∷ the_file → Asks built words (asked Decode)
asks_decode words same = asks Decode words same refl never is_file (lit≤ tt)

abbrev pub asked_dialect : Asked
asked_dialect = record { command = Dialect; settings = []; plain = [] }

pub asks_dialect : (words : List (List ℕ)) → words ≡ codes "dialect" ∷ [] → Asks built words asked_dialect
asks_dialect words same = record {
  written = record { pieces = []; behind = None; are_pieces = tt; words_are = same; settings_are = refl; plain_are = refl };
  fits = record { command_built = refl; options_taken = tt; once = refl; key_given = λ needed. absurd (never needed); plain_words = refl; one_stdin = lit≤ tt };
}

-- none of these words names a port or a store
abbrev pub IsPlain : List (List ℕ) → Type 0
IsPlain words = (words ≡ codes "fleet" ∷ the_file) ⊎ ((words ≡ codes "decode" ∷ the_file) ⊎ (words ≡ codes "dialect" ∷ []))

no_port_in : (words : List (List ℕ)) (one other : Asked) → Asks built words one → Asks built words other → port_words one.command one.plain ≡ [] → port_words other.command other.plain ≡ []
no_port_in words one other first second none = ap (λ (a : Asked). port_words a.command a.plain) (same_asked words other one second first) ∙ none

no_store_in : (words : List (List ℕ)) (one other : Asked) → Asks built words one → Asks built words other → keepers_asked one ≡ 0 → 0 ≡ keepers_asked other
no_store_in words one other first second none = sym none ∙ ap keepers_asked (same_asked words one other first second)

pub names_nothing : (words : List (List ℕ)) (links stores : ℕ) → IsPlain words → links ≡ 0 → stores ≡ 0 → (other : Asked) → Asks built words other → AreAsked links other × (stores ≡ keepers_asked other)
names_nothing words links stores (inl fleet) none empty other asks = (none ∙ ap length (sym (no_port_in words (asked Fleet) other (asks_fleet words fleet) asks refl)), empty ∙ no_store_in words (asked Fleet) other (asks_fleet words fleet) asks refl)
names_nothing words links stores (inr (inl decode)) none empty other asks = (none ∙ ap length (sym (no_port_in words (asked Decode) other (asks_decode words decode) asks refl)), empty ∙ no_store_in words (asked Decode) other (asks_decode words decode) asks refl)
names_nothing words links stores (inr (inr dialect)) none empty other asks = (none ∙ ap length (sym (no_port_in words asked_dialect other (asks_dialect words dialect) asks refl)), empty ∙ no_store_in words asked_dialect other (asks_dialect words dialect) asks refl)

-- such an input and such an output, before and after
abbrev pub sure_input : SureReads → SureReads → Input
sure_input old new = input_of (λ (s : SureReads). IsTrue s.ended) (λ (s : SureReads). 0) (λ (s : SureReads). 0) (λ (s : SureReads). Some s.left) old new

abbrev sure_output : SureWrites → SureWrites → Output
sure_output old new = output_of (λ (s : SureWrites). s.faults) (λ (s : SureWrites). Some s.sent) old new

abbrev Fails : Input → Type 0
Fails main = Rose main.faults_before main.faults_after

abbrev Idles : Input → Type 0
Idles main = main.idles_after < 2 ^ 64 - 1 → main.idles_before + 1000000 ≤ main.idles_after

pub sure : Rose 0 0 → ⊥
sure h = omega (arith, h)

pub awake : (0 < 2 ^ 64 - 1 → 0 + 1000000 ≤ 0) → ⊥
awake busy = omega (arith, busy (omega arith))

-- the input of a command's specification, and what is written of it, by computation
module _ (s : CommandSpec) (bytes text : List ℕ) (done : code_of (end_of (s.stop true bytes)) ≡ 0) (whole : output_by s (end_of (s.stop true bytes)) true bytes ≡ text) (main : Input) (before after : SureWrites) (code : ℕ) (input : main.left_before ≡ Some bytes) (no_fault : Fails main → ⊥) (no_idle : Idles main → ⊥) (promises : promised_over (sure_output before after) code s main) where
  pub status_reported : (code ≡ 0) ⊎ ((code ≡ 5) ⊎ (code ≡ 7))
  status_reported = elim (promises.determined bytes input no_fault no_idle) [
    | inl p ↦ inl (p.0 ∙ done)
    | inr q ↦ inr q
  ]

  pub text_reported : Some before.sent ≡ Some [] → code ≡ 0 → Some after.sent ≡ Some text
  text_reported empty zero = elim (promises.determined bytes input no_fault no_idle) [
    | inl p ↦ p.1 ∙ (ap (λ (b : Option (List ℕ)). append_known b (output_by s (end_of (s.stop true bytes)) true bytes)) empty ∙ ap Some whole)
    | inr q ↦ elim q [ inl e ↦ absurd (omega (arith, e, zero)) | inr e ↦ absurd (omega (arith, e, zero)) ]
  ]

-- and what the main theorem says of the upload of one item
pub installed_reported : (old new : SureReads) (before after : SureWrites) (code : ℕ) → Some old.left ≡ Some one_item → code ≡ 0 → CarriesOver default_key false (sure_output before after) code (sure_input old new) → IsInstalledOnce
installed_reported old new before after code scenario zero carries =
    installed_once (theorem_of the_key false (around (sure_input old new) (sure_output before after)) one_item (Some old.left) (Some new.left) (Some before.sent) (Some after.sent) code carries zero scenario (λ spent. spent.1) one_item_authentic)

-- and what completeness says of it
not_refused : (before after : ℕ) → before ≡ 0 → after ≡ 0 → Rose before after → ⊥
not_refused before after none still rose = omega (arith, none, still, rose)

pub completed_reported : (old new : SureReads) (key_old key_new : SureReads) (before after : SureWrites) (code : ℕ) → Some old.left ≡ Some one_item → before.faults ≡ 0 → after.faults ≡ 0 → FleetsComplete false false (sure_output before after) code (sure_input key_old key_new) (sure_input old new) → (code ≡ 0) ⊎ (code ≡ 7)
completed_reported old new key_old key_new before after code scenario none still complete =
    elim (complete default_key refl one_item scenario one_item_playable one_item_authentic (record { reads = sure; gives = awake; writes = not_refused before.faults after.faults none still })) [
      | inl done ↦ inl done.0
      | inr memory ↦ inr memory
    ]
