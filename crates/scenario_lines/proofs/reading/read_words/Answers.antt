-- Each form, read word by word, is what the grammar says of its first word.
use Rattle.std.proofs.Common.{sym, ◌∙◌}
use Rattle.scenario_lines.specs.LineContext.{context_of}
use Rattle.scenario_lines.proofs.Forms.{drone_reads, station_reads, item_reads, items_reads, empty_reads, begin_reads, cancel_reads, clear_reads, get_reads, command_reads, params_reads, heartbeat_reads, deliver_reads, flow_reads, tick_reads, clock_reads, restart_reads, sim_reads, where_reads}
use Rattle.scenario_lines.proofs.FirstWords.{spelled}
use Rattle.scenario_lines.proofs.reading.read_words.Goals as goal

pub returns-then-is_word : goal.returns-then-is_word
returns-then-is_word g c =
    c.read_drone.ensures
    ∙ sym (drone_reads (context_of (g.N.Names.known c.args.nodes.now) c.args.drafted c.args.clock) c.args.words.now (sym c.at-first.ensures ∙ spelled _ _ c.if-is_word.ensures))

pub returns-then-is_word-2 : goal.returns-then-is_word-2
returns-then-is_word-2 g c =
    c.read_station.ensures
    ∙ sym (station_reads (context_of (g.N.Names.known c.args.nodes.now) c.args.drafted c.args.clock) c.args.words.now (sym c.at-first.ensures ∙ spelled _ _ c.if-is_word-2.ensures))

pub returns-then-is_word-3 : goal.returns-then-is_word-3
returns-then-is_word-3 g c =
    c.read_item.ensures
    ∙ sym (item_reads (context_of (g.N.Names.known c.args.nodes.now) c.args.drafted c.args.clock) c.args.words.now (sym c.at-first.ensures ∙ spelled _ _ c.if-is_word-3.ensures))

pub returns-then-is_word-4 : goal.returns-then-is_word-4
returns-then-is_word-4 g c =
    c.read_items.ensures
    ∙ sym (items_reads (context_of (g.N.Names.known c.args.nodes.now) c.args.drafted c.args.clock) c.args.words.now (sym c.at-first.ensures ∙ spelled _ _ c.if-is_word-4.ensures))

pub returns-then-is_word-5 : goal.returns-then-is_word-5
returns-then-is_word-5 g c =
    c.read_empty.ensures
    ∙ sym (empty_reads (context_of (g.N.Names.known c.args.nodes.now) c.args.drafted c.args.clock) c.args.words.now (sym c.at-first.ensures ∙ spelled _ _ c.if-is_word-5.ensures))

pub returns-then-is_word-6 : goal.returns-then-is_word-6
returns-then-is_word-6 g c =
    c.read_begin.ensures
    ∙ sym (begin_reads (context_of (g.N.Names.known c.args.nodes.now) c.args.drafted c.args.clock) c.args.words.now (sym c.at-first.ensures ∙ spelled _ _ c.if-is_word-6.ensures))

pub returns-then-is_word-7 : goal.returns-then-is_word-7
returns-then-is_word-7 g c =
    c.read_cancel.ensures
    ∙ sym (cancel_reads (context_of (g.N.Names.known c.args.nodes.now) c.args.drafted c.args.clock) c.args.words.now (sym c.at-first.ensures ∙ spelled _ _ c.if-is_word-7.ensures))

pub returns-then-is_word-8 : goal.returns-then-is_word-8
returns-then-is_word-8 g c =
    c.read_clear.ensures
    ∙ sym (clear_reads (context_of (g.N.Names.known c.args.nodes.now) c.args.drafted c.args.clock) c.args.words.now (sym c.at-first.ensures ∙ spelled _ _ c.if-is_word-8.ensures))

pub returns-then-is_word-9 : goal.returns-then-is_word-9
returns-then-is_word-9 g c =
    c.read_get.ensures
    ∙ sym (get_reads (context_of (g.N.Names.known c.args.nodes.now) c.args.drafted c.args.clock) c.args.words.now (sym c.at-first.ensures ∙ spelled _ _ c.if-is_word-9.ensures))

pub returns-then-is_word-10 : goal.returns-then-is_word-10
returns-then-is_word-10 g c =
    c.read_command.ensures
    ∙ sym (command_reads (context_of (g.N.Names.known c.args.nodes.now) c.args.drafted c.args.clock) c.args.words.now (sym c.at-first.ensures ∙ spelled _ _ c.if-is_word-10.ensures))

pub returns-then-is_word-11 : goal.returns-then-is_word-11
returns-then-is_word-11 g c =
    c.read_params.ensures
    ∙ sym (params_reads (context_of (g.N.Names.known c.args.nodes.now) c.args.drafted c.args.clock) c.args.words.now (sym c.at-first.ensures ∙ spelled _ _ c.if-is_word-11.ensures))

pub returns-then-is_word-12 : goal.returns-then-is_word-12
returns-then-is_word-12 g c =
    c.read_heartbeat.ensures
    ∙ sym (heartbeat_reads (context_of (g.N.Names.known c.args.nodes.now) c.args.drafted c.args.clock) c.args.words.now (sym c.at-first.ensures ∙ spelled _ _ c.if-is_word-12.ensures))

pub returns-then-is_word-13 : goal.returns-then-is_word-13
returns-then-is_word-13 g c =
    c.read_deliver.ensures
    ∙ sym (deliver_reads (context_of (g.N.Names.known c.args.nodes.now) c.args.drafted c.args.clock) c.args.words.now (sym c.at-first.ensures ∙ spelled _ _ c.if-is_word-13.ensures))

pub returns-then-is_word-14 : goal.returns-then-is_word-14
returns-then-is_word-14 g c =
    c.read_flow.ensures
    ∙ sym (flow_reads (context_of (g.N.Names.known c.args.nodes.now) c.args.drafted c.args.clock) c.args.words.now (sym c.at-first.ensures ∙ spelled _ _ c.if-is_word-14.ensures))

pub returns-then-is_word-15 : goal.returns-then-is_word-15
returns-then-is_word-15 g c =
    c.read_tick.ensures
    ∙ sym (tick_reads (context_of (g.N.Names.known c.args.nodes.now) c.args.drafted c.args.clock) c.args.words.now (sym c.at-first.ensures ∙ spelled _ _ c.if-is_word-15.ensures))

pub returns-then-is_word-16 : goal.returns-then-is_word-16
returns-then-is_word-16 g c =
    c.read_clock.ensures
    ∙ sym (clock_reads (context_of (g.N.Names.known c.args.nodes.now) c.args.drafted c.args.clock) c.args.words.now (sym c.at-first.ensures ∙ spelled _ _ c.if-is_word-16.ensures))

pub returns-then-is_word-17 : goal.returns-then-is_word-17
returns-then-is_word-17 g c =
    c.read_restart.ensures
    ∙ sym (restart_reads (context_of (g.N.Names.known c.args.nodes.now) c.args.drafted c.args.clock) c.args.words.now (sym c.at-first.ensures ∙ spelled _ _ c.if-is_word-17.ensures))

pub returns-then-is_word-18 : goal.returns-then-is_word-18
returns-then-is_word-18 g c =
    c.read_sim.ensures
    ∙ sym (sim_reads (context_of (g.N.Names.known c.args.nodes.now) c.args.drafted c.args.clock) c.args.words.now (sym c.at-first.ensures ∙ spelled _ _ c.if-is_word-18.ensures))

pub returns-then-is_word-19 : goal.returns-then-is_word-19
returns-then-is_word-19 g c =
    c.read_where.ensures
    ∙ sym (where_reads (context_of (g.N.Names.known c.args.nodes.now) c.args.drafted c.args.clock) c.args.words.now (sym c.at-first.ensures ∙ spelled _ _ c.if-is_word-19.ensures))
