-- The clause of `station`, from those of its parts.
use Rattle.std.proofs.Common.{◌≡◌, ◌∙◌, ◌≤◌, ℕ, Bool, List, [], ◌∷◌, inl, inr, sym, ap, subst, length, get_or, codes, slice_index_or, slice_set, Option, Some, None, Result, Ok, Err}
use Rattle.std.specs.Fmt.{decimal}
use Rattle.std.specs.Prelude.{IfSome, IfErr}
use Rattle.std.specs.Result.{result_err}
use Rattle.mav_names.specs.Addresses.{drone_stream}
use Rattle.mav_ports.specs.Gets.{IsSpent}
use Rattle.mav_links.specs.Links.{LinkState}
use Rattle.std.specs.Str.{bytes_eq}
use Rattle.command_inputs.specs.ItemFiles.{plan_spec}
use Rattle.command_inputs.proofs.ItemEndings.{plan_steady}
use Rattle.command_inputs.specs.PutFiles.{put_spec}
use Rattle.command_inputs.proofs.PutStays.{put_steady}
use Rattle.mav_nodes.specs.declared.orders.Order.{Order}
use Rattle.run_status.specs.declared.run_ends.RunEnd.{RunEnd}
use Rattle.run_status.specs.declared.run_ends.RunEnd.TheVariants.{Usage}
use Rattle.run_status.specs.Runs.{CommandSpec, Steady}
use Rattle.command_inputs.specs.KeyText.{key_of}
use Rattle.command_inputs.specs.KeyInputs.{given_key_spec}
use Rattle.command_inputs.proofs.KeyStays.{key_steady}
use Rattle.command_line.specs.declared.commands.Command.{Command as CommandName}
use Rattle.command_line.specs.declared.commands.Command.TheVariants.{Station}
use Rattle.command_line.specs.declared.commands.OptionName.TheVariants.{File}
use Rattle.command_line.specs.declared.operations.Operation.{Operation}
use Rattle.command_line.specs.declared.operations.Operation.TheVariants.{Upload, Get, Clear, Command, ParamList, ParamRead, ParamSet, FileList, FileGet, FilePut, FileRemove}
use Rattle.command_line.specs.declared.operations.Task.{Task}
use Rattle.command_line.specs.declared.ports.Port.{Port}
use Rattle.command_line.specs.Forms.{has_given}
use Rattle.command_line.specs.Grammar.{Asked}
use Rattle.command_line.specs.Names.{port_words, ticks_asked}
use Rattle.command_line.specs.Nodes.{StationSays, NodeSays}
use Rattle.command_line.specs.OperationTexts.{is_on_files, OperationSays}
use Rattle.live_node.specs.declared.stations.StationPlan.{StationPlan}
use Rattle.live_node.specs.Ports.{FaultsBy}
use Rattle.live_node.specs.Runs.{outside, Stores}
use Rattle.live_node.specs.Stations.{IsStationEnd, StationRuns}
use Rattle.run_status.specs.Seen.{Input, Output}
use Rattle.live_node.specs.DroneAsked.{Devices}
use Rattle.live_node.specs.OrderWords.{Contents, OrdersFor}
use Rattle.live_node.specs.StationAsked.{Stationed, Stationing, FileSort, No_file, Of_items, Of_bytes, sort_of, asks_files, file_asked, HaltsAt, ContentsAre, WithFile}
use Rattle.live_node.proofs.DroneAsked.{only_one, changed_one}

-- a station ran at the only port
pub stationed_at : {A B : Type 0} (state : A → LinkState) (stores : Stores B) (asked : Asked) (before : List A) (first last : A) (keepers : List B) (time time_after : Option ℕ) (out : Output) (end : Option RunEnd) (key : List ℕ) (contents : Contents) (plan : StationPlan) (task : Task) (order : Order) (system : ℕ) (ports : List Port)
    → length before ≡ 1 → first ≡ slice_index_or before 0 first
    → StationSays asked.plain ports plan.sys task → plan.comp ≡ task.component → plan.ticks ≡ ticks_asked asked.settings → plan.turns ≡ 1000000
    → OrdersFor task.operation (drone_stream task.drone) contents order
    → StationRuns key plan order end (outside (state first) out.sent_before time) (outside (state last) out.sent_after time_after)
    → IfSome end IsStationEnd
    → FaultsBy end (state first).faults (state last).faults out.refusals_before out.refusals_after
    → Stationed (record { state = state; stores = stores; ports_before = before; ports_after = slice_set before 0 last; keepers_before = keepers; keepers_after = keepers; time_before = time; time_after = time_after }) asked out end key contents
stationed_at state stores asked before first last keepers time time_after out end key contents plan task order system ports one is says comp ticks turns orders run why faults = record {
  plan = plan;
  task = task;
  is = record {
    port = says.port;
    words = says.words;
    plain = says.plain_is ∙ ap (λ (n : ℕ). decimal plan.sys ∷ decimal n ∷ decimal task.drone ∷ says.port ∷ says.words) (sym comp);
    sys_least = says.system_least;
    comp_least = subst (λ (n : ℕ). 1 ≤ n) (sym comp) says.component_least;
    drone_least = says.drone_least;
    operation = says.operation_is;
    ticks = ticks;
    turns = turns;
  };
  order = order;
  orders = orders;
  first = first;
  last = last;
  alone = record { was = only_one before first one is; now = changed_one before last one };
  run = run;
  why = why;
  faults = faults;
}

-- its words say whether the operation is one on files
abbrev begins_file : List (List ℕ) → Bool
begins_file words = bytes_eq (get_or words 0 []) (codes "file")

files_said : (operation : Operation) (words : List (List ℕ)) → OperationSays operation words → begins_file words ≡ is_on_files operation
files_said (Upload kind) words e = ap begins_file e
files_said (Get kind) words e = ap begins_file e
files_said (Clear kind) words e = ap begins_file e
files_said (Command number word) words s = ap begins_file s.words_are
files_said ParamList words e = ap begins_file e
files_said (ParamRead id) words s = ap begins_file s.words_are
files_said (ParamSet id kind word) words s = ap begins_file s.words_are
files_said FileList words e = ap begins_file e
files_said (FileGet name) words e = ap begins_file e
files_said (FilePut name) words e = ap begins_file e
files_said (FileRemove name) words e = ap begins_file e

-- so the line's file is of that sort
pub sort_said : (asked : Asked) (ports : List Port) (system : ℕ) (task : Task) → StationSays asked.plain ports system task → sort_of (has_given File asked.settings) (is_on_files task.operation) ≡ file_asked asked
sort_said asked ports system task says =
    ap (sort_of (has_given File asked.settings))
    (sym (files_said task.operation says.words says.operation_is) ∙ ap asks_files (sym says.plain_is))

-- the file was read, or none is named, and then the run goes on
pub after_file : (sort asked : FileSort) (runs : CommandSpec → Input → Type 0) (halted unmoved : Type 0) (file : Input) (contents : Contents) (next : Contents → Type 0) → sort ≡ asked → ContentsAre sort file contents → next contents → WithFile asked runs halted unmoved file next
after_file sort asked runs halted unmoved file contents next same are n = inr (contents, subst (λ (s : FileSort). ContentsAre s file contents) same are, n)

-- it halted there
pub at_file : (sort asked : FileSort) (runs : CommandSpec → Input → Type 0) (halted unmoved : Type 0) (file : Input) (next : Contents → Type 0) → sort ≡ asked → HaltsAt sort runs file → halted → unmoved → WithFile asked runs halted unmoved file next
at_file sort asked runs halted unmoved file next same halts h u = inl (subst (λ (s : FileSort). HaltsAt s runs file) same halts, h, u)

pub station_why : (ended : Result (Unit {0}) RunEnd) → IfErr ended IsStationEnd → IfSome (result_err ended) IsStationEnd
station_why (Ok done) h = tt
station_why (Err end) h = h

pub not_of_station_words : (ended : Result (Unit {0}) RunEnd) → IfErr ended IsStationEnd → ended ≡ Err Usage → ⊥
not_of_station_words ended why e = subst (λ (r : Result (Unit {0}) RunEnd). IfErr r IsStationEnd) e why

-- what its words ask for, and how many ports
pub station_words : (c : CommandName) (plain : List (List ℕ)) (ports : List Port) (system : ℕ) (task : Task) → c ≡ Station → NodeSays c plain ports system (Some task) → StationSays plain ports system task
station_words c plain ports system task is says = subst (λ (d : CommandName). NodeSays d plain ports system (Some task)) is says

pub station_link : (c : CommandName) (plain : List (List ℕ)) (ports : List Port) (system links : ℕ) (task : Task) → c ≡ Station → StationSays plain ports system task → links ≡ length (port_words c plain) → links ≡ 1
station_link c plain ports system links task is says asked =
    asked ∙ ap (λ (d : CommandName). length (port_words d plain)) is ∙ ap (λ (p : List (List ℕ)). length (port_words Station p)) says.plain_is

-- a station has a task
pub station_task : (c : CommandName) (plain : List (List ℕ)) (ports : List Port) (system : ℕ) (task : Option Task) → c ≡ Station → NodeSays c plain ports system task → task ≡ None → ⊥
station_task c plain ports system task is says none =
    subst (λ (t : Option Task). NodeSays Station plain ports system t) none (subst (λ (d : CommandName). NodeSays d plain ports system task) is says)

-- the same line
pub stationed_asked : {A B : Type 0} (d : Devices A B) (asked other : Asked) (runs : CommandSpec → Input → Type 0) (halted unmoved : Type 0) (out : Output) (end : Option RunEnd) (key file : Input) → asked ≡ other
    → Stationing runs halted unmoved (file_asked asked) key file (λ bytes contents. Stationed d asked out end bytes contents)
    → Stationing runs halted unmoved (file_asked other) key file (λ bytes contents. Stationed d other out end bytes contents)
stationed_asked d asked other runs halted unmoved out end key file same run =
    subst (λ (a : Asked). Stationing runs halted unmoved (file_asked a) key file (λ bytes contents. Stationed d a out end bytes contents)) same run

-- the run's status is written
halts_reported : (first second : CommandSpec → Input → Type 0) → ((s : CommandSpec) → Steady s → (i : Input) → (i.spent → IsSpent i.left_after) → first s i → second s i) → (sort : FileSort) (file : Input) → (file.spent → IsSpent file.left_after) → HaltsAt sort first file → HaltsAt sort second file
halts_reported first second on No_file file spent halts = halts
halts_reported first second on Of_items file spent halts = on plan_spec plan_steady file spent halts
halts_reported first second on Of_bytes file spent (halts, within) = (on put_spec put_steady file spent halts, within)

file_reported : (first second : CommandSpec → Input → Type 0) (halted stopped unmoved : Type 0) → ((s : CommandSpec) → Steady s → (i : Input) → (i.spent → IsSpent i.left_after) → first s i → second s i) → (halted → stopped) → (one two : Contents → Type 0) → ((contents : Contents) → one contents → two contents) → (sort : FileSort) (file : Input) → (file.spent → IsSpent file.left_after) → WithFile sort first halted unmoved file one → WithFile sort second stopped unmoved file two
file_reported first second halted stopped unmoved on ends one two ran sort file spent (inl (halts, h, same)) = inl (halts_reported first second on sort file spent halts, ends h, same)
file_reported first second halted stopped unmoved on ends one two ran sort file spent (inr (contents, are, run)) = inr (contents, are, ran contents run)

pub station_reported : (first second : CommandSpec → Input → Type 0) (halted stopped unmoved : Type 0) → ((s : CommandSpec) → Steady s → (i : Input) → (i.spent → IsSpent i.left_after) → first s i → second s i) → (halted → stopped) → (one two : List ℕ → Contents → Type 0) → ((key : List ℕ) (contents : Contents) → one key contents → two key contents) → (sort : FileSort) (key file : Input) → (key.spent → IsSpent key.left_after) → (file.spent → IsSpent file.left_after) → Stationing first halted unmoved sort key file one → Stationing second stopped unmoved sort key file two
station_reported first second halted stopped unmoved on ends one two ran sort key file ks fs (inl (run, h, within, same)) = inl (on given_key_spec (key_steady key_of) key ks run, ends h, within, same)
station_reported first second halted stopped unmoved on ends one two ran sort key file ks fs (inr (bytes, holds, run)) =
    inr (bytes, holds, file_reported first second halted stopped unmoved on ends (one bytes) (two bytes) (ran bytes) sort file fs run)
