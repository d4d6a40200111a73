use Rattle.std.proofs.Common.{inl, inr, [], refl, ap, length}
use Rattle.std.specs.Prelude.{map, string_bytes}
use Rattle.command_line.specs.declared.commands.Command.TheVariants.{Fleet, Decode}
use Rattle.decode_command.specs.Examples.{one_heartbeat, one_heartbeat_text}
use Rattle.decode_command.proofs.Worked.{script as decoding, one_heartbeat_code, one_heartbeat_output}
use Rattle.dialect_command.specs.Spec.{profile_spec}
use Rattle.dialect_command.specs.Examples.{profile_layouts}
use Rattle.dialect_command.proofs.Worked.{profile_output}
use Rattle.test_fleet.specs.OneItem.{one_item, one_item_installed}
use Rattle.test_fleet.proofs.OneItem.{spec as playing, one_item_code, one_item_output}
use Rattle.run_status.specs.Seen.{no_input}
use Rattle.test_runs.specs.Restarts.{restart_between, restart_between_report}
use Rattle.test_runs.proofs.Restarted.{restart_code, restart_output}
use Rattle.test_runs.proofs.Plainly.{names_nothing, asked, asked_dialect, asks_fleet, asks_decode, asks_dialect, sure_input, sure, awake, status_reported, text_reported, installed_reported, completed_reported}
use Rattle.test_runs.proofs.worked.run_one.Goals as goal

pub run_alone-requires : goal.run_alone-requires
run_alone-requires c = names_nothing (map string_bytes c.args.words.now) _ _ (elim c.requires.one [
  | inl fleet ↦ inl fleet.0
  | inr others ↦ elim others [
    | inl decode ↦ inr (inl decode.0)
    | inr words ↦ inr (inr words)
  ]
]) (ap length c.new-2.ensures.items) (ap length c.new-3.ensures.items)

pub returns-clause-status : goal.returns-clause-status
returns-clause-status c = elim c.requires.one [
  | inl fleet ↦ elim fleet.1 [
    | inl item ↦ status_reported playing one_item one_item_installed one_item_code one_item_output (sure_input c.args.inputs.now.main c.run_alone.new.inputs.main) c.args.out.now c.run_alone.new.out c.run_alone.result item sure awake (c.run_alone.ensures.promises.does (asked Fleet) (asks_fleet (map string_bytes c.args.words.now) fleet.0))
    | inr restart ↦ status_reported playing restart_between restart_between_report restart_code restart_output (sure_input c.args.inputs.now.main c.run_alone.new.inputs.main) c.args.out.now c.run_alone.new.out c.run_alone.result restart sure awake (c.run_alone.ensures.promises.does (asked Fleet) (asks_fleet (map string_bytes c.args.words.now) fleet.0))
  ]
  | inr others ↦ elim others [
    | inl decode ↦ status_reported decoding one_heartbeat one_heartbeat_text one_heartbeat_code one_heartbeat_output (sure_input c.args.inputs.now.main c.run_alone.new.inputs.main) c.args.out.now c.run_alone.new.out c.run_alone.result decode.1 sure awake (c.run_alone.ensures.promises.does (asked Decode) (asks_decode (map string_bytes c.args.words.now) decode.0))
    | inr words ↦ status_reported profile_spec [] profile_layouts refl profile_output no_input c.args.out.now c.run_alone.new.out c.run_alone.result refl sure awake (c.run_alone.ensures.promises.does asked_dialect (asks_dialect (map string_bytes c.args.words.now) words))
  ]
]

pub returns-clause-report : goal.returns-clause-report
returns-clause-report c = λ words scenario.
    text_reported playing one_item one_item_installed one_item_code one_item_output (sure_input c.args.inputs.now.main c.run_alone.new.inputs.main) c.args.out.now c.run_alone.new.out c.run_alone.result scenario sure awake (c.run_alone.ensures.promises.does (asked Fleet) (asks_fleet (map string_bytes c.args.words.now) words)) c.requires.empty

pub returns-clause-restarted : goal.returns-clause-restarted
returns-clause-restarted c = λ words scenario.
    text_reported playing restart_between restart_between_report restart_code restart_output (sure_input c.args.inputs.now.main c.run_alone.new.inputs.main) c.args.out.now c.run_alone.new.out c.run_alone.result scenario sure awake (c.run_alone.ensures.promises.does (asked Fleet) (asks_fleet (map string_bytes c.args.words.now) words)) c.requires.empty

pub returns-clause-installed : goal.returns-clause-installed
returns-clause-installed c = λ words scenario zero.
    installed_reported c.args.inputs.now.main c.run_alone.new.inputs.main c.args.out.now c.run_alone.new.out c.run_alone.result scenario zero (c.run_alone.ensures.promises.main_theorem (asked Fleet) (asks_fleet (map string_bytes c.args.words.now) words) refl)

pub returns-clause-completed : goal.returns-clause-completed
returns-clause-completed c = λ words scenario none still.
    completed_reported c.args.inputs.now.main c.run_alone.new.inputs.main c.args.inputs.now.key c.run_alone.new.inputs.key c.args.out.now c.run_alone.new.out c.run_alone.result scenario none still (c.run_alone.ensures.promises.completeness (asked Fleet) (asks_fleet (map string_bytes c.args.words.now) words) refl)

pub returns-clause-decoded : goal.returns-clause-decoded
returns-clause-decoded c = λ words stream.
    text_reported decoding one_heartbeat one_heartbeat_text one_heartbeat_code one_heartbeat_output (sure_input c.args.inputs.now.main c.run_alone.new.inputs.main) c.args.out.now c.run_alone.new.out c.run_alone.result stream sure awake (c.run_alone.ensures.promises.does (asked Decode) (asks_decode (map string_bytes c.args.words.now) words)) c.requires.empty

pub returns-clause-reported : goal.returns-clause-reported
returns-clause-reported c = λ words.
    text_reported profile_spec [] profile_layouts refl profile_output no_input c.args.out.now c.run_alone.new.out c.run_alone.result refl sure awake (c.run_alone.ensures.promises.does asked_dialect (asks_dialect (map string_bytes c.args.words.now) words)) c.requires.empty
