use Rattle.std.proofs.Common.{◌≡◌, [], ◌∷◌, map, Result, Ok, Err, refl, sym, ap, ◌∙◌, subst}
use Rattle.std.specs.Prelude.{IfOk, OnOk, IfErr, is_some}
use Rattle.mav_messages.specs.declared.messages.Message.{Message}
use Rattle.command_proto.specs.Commander.{CommanderState, open_command}
use Rattle.param_proto.specs.Client.{ClientState}
use Rattle.mav_ftp.specs.Client.{order_fault}
use Rattle.mav_nodes.specs.declared.services.Served.{Served}
use Rattle.mav_nodes.specs.declared.orders.Order.{Order}
use Rattle.mav_nodes.specs.declared.orders.Order.TheVariants.{Command, ParamRead, ParamSet, ParamList, File}
use Rattle.mav_nodes.specs.declared.faults.OrderFault.{OrderFault}
use Rattle.mav_nodes.specs.declared.faults.OrderFault.TheVariants.{Node}
use Rattle.mav_nodes.specs.declared.faults.NodeFault.TheVariants.{NoMemory}
use Rattle.mav_nodes.specs.News.{shown, events_of}
use Rattle.mav_nodes.specs.FileServices.{StationFiles, file_order}
use Rattle.mav_nodes.specs.Services.{StationServices, sent_of}
use Rattle.mav_nodes.specs.Cores.{IsServed}
use Rattle.mav_nodes.specs.Nodes.{service_step, command_refusal, params_refusal, file_refusal}
use Rattle.mav_nodes.specs.Promises.{AcceptsService, RefusesService, OrderKeeps}
use Rattle.mav_nodes.proofs.station_services.StationServices.ask.Goals as goal

record Asked (r : Result Served OrderFault) (order : Order) (v new : StationServices) : Type 0 where
  done : IfOk r (IsServed (service_step v order) new)
  accepted : OnOk r (AcceptsService v order)
  refused : IfErr r (RefusesService v order)
  unchanged : IfErr r (OrderKeeps v new)

-- an order that is followed by one message
asked_so : (r : Result Served OrderFault) (given order : Order) (inside v new : StationServices) (message : Message) → order ≡ given → inside ≡ v → new ≡ (service_step inside given).services → (service_step inside given).answers ≡ message ∷ [] → map shown (service_step inside given).last ≡ [] → AcceptsService inside given
    → IfOk r (λ served. served.answers.items ≡ message ∷ []) → IfOk r (λ served. served.last.items ≡ []) → IfErr r (λ fault. fault ≡ Node NoMemory) → Asked r order v new
asked_so r given order inside v new message is view services answers last accepts sent ended memory =
    subst (λ (o : Order). Asked r o v new) (sym is) (subst (λ (w : StationServices). Asked r given w new) view (by_result r sent ended memory))
  where
    by_result : (r : Result Served OrderFault) → IfOk r (λ served. served.answers.items ≡ message ∷ []) → IfOk r (λ served. served.last.items ≡ []) → IfErr r (λ fault. fault ≡ Node NoMemory) → Asked r given inside new
    by_result (Ok served) sent ended memory = record {
      done = record { services = services; answers = sent ∙ sym answers; last = ap events_of ended ∙ sym last };
      accepted = accepts;
      refused = tt;
      unchanged = tt;
    }
    by_result (Err fault) sent ended memory = record {
      done = tt;
      accepted = tt;
      refused = subst (RefusesService inside given) (sym memory) (accepts, refl);
      unchanged = subst (OrderKeeps inside new) (sym memory) tt;
    }

pub returns-in-Ok : goal.returns-in-Ok
returns-in-Ok c =
    let inside : StationServices = record { commander = c.self.inside.commander; client = c.self.inside.client; files = c.self.inside.files } in
    let a = asked_so c.asked.result (Command c.in-Command.drone c.in-Command.command c.in-Command.word) c.args.order inside c.args.self.now (record inside { commander = c.issue.new.self }) c.in-Ok.message c.in-Command.is c.self.view_is (ap (λ (x : CommanderState). record inside { commander = x }) c.in-Ok.ensures.ok) (ap sent_of (sym c.in-Ok.ensures.message)) refl (record { command = c.in-Ok.ensures.accepted; params = refl; file = refl }) c.asked.ensures.answers c.asked.ensures.last c.asked.ensures.fault in
    record { done = a.done; accepted = a.accepted; refused = a.refused; unchanged = a.unchanged }

pub returns-in-Command : goal.returns-in-Command
returns-in-Command c =
    let inside : StationServices = record { commander = c.self.inside.commander; client = c.self.inside.client; files = c.self.inside.files } in
    record {
      done = tt;
      accepted = tt;
      refused = ap (command_refusal c.args.self.now) c.in-Command.is ∙ (ap (λ (v : StationServices). open_command v.commander) (sym c.self.view_is) ∙ c.in-Err.ensures.refused);
      unchanged = ap (λ (x : CommanderState). record inside { commander = x }) c.in-Err.ensures.err ∙ c.self.view_is;
    }

pub returns-in-Ok-read : goal.returns-in-Ok-read
returns-in-Ok-read c =
    let inside : StationServices = record { commander = c.self.inside.commander; client = c.self.inside.client; files = c.self.inside.files } in
    let a = asked_so c.asked-in-Ok-read.result (ParamRead c.in-ParamRead.drone c.in-ParamRead.id) c.args.order inside c.args.self.now (record inside { client = c.read.new.self }) c.in-Ok-read.message c.in-ParamRead.is c.self.view_is (ap (λ (x : ClientState). record inside { client = x }) c.in-Ok-read.ensures.client) (ap sent_of (sym c.in-Ok-read.ensures.message)) refl (record { command = refl; params = ap is_some c.in-Ok-read.ensures.free; file = refl }) c.asked-in-Ok-read.ensures.answers c.asked-in-Ok-read.ensures.last c.asked-in-Ok-read.ensures.fault in
    record { done = a.done; accepted = a.accepted; refused = a.refused; unchanged = a.unchanged }

pub returns-in-ParamRead : goal.returns-in-ParamRead
returns-in-ParamRead c =
    let inside : StationServices = record { commander = c.self.inside.commander; client = c.self.inside.client; files = c.self.inside.files } in
    record {
      done = tt;
      accepted = tt;
      refused = ap (params_refusal c.args.self.now) c.in-ParamRead.is ∙ (ap (λ (v : StationServices). is_some v.client.operation) (sym c.self.view_is) ∙ c.in-Err-read.ensures.busy);
      unchanged = ap (λ (x : ClientState). record inside { client = x }) c.in-Err-read.ensures.err ∙ c.self.view_is;
    }

pub returns-in-Ok-set : goal.returns-in-Ok-set
returns-in-Ok-set c =
    let inside : StationServices = record { commander = c.self.inside.commander; client = c.self.inside.client; files = c.self.inside.files } in
    let a = asked_so c.asked-in-Ok-set.result (ParamSet c.in-ParamSet.drone c.in-ParamSet.param) c.args.order inside c.args.self.now (record inside { client = c.set.new.self }) c.in-Ok-set.message c.in-ParamSet.is c.self.view_is (ap (λ (x : ClientState). record inside { client = x }) c.in-Ok-set.ensures.client) (ap sent_of (sym c.in-Ok-set.ensures.message)) refl (record { command = refl; params = ap is_some c.in-Ok-set.ensures.free; file = refl }) c.asked-in-Ok-set.ensures.answers c.asked-in-Ok-set.ensures.last c.asked-in-Ok-set.ensures.fault in
    record { done = a.done; accepted = a.accepted; refused = a.refused; unchanged = a.unchanged }

pub returns-in-ParamSet : goal.returns-in-ParamSet
returns-in-ParamSet c =
    let inside : StationServices = record { commander = c.self.inside.commander; client = c.self.inside.client; files = c.self.inside.files } in
    record {
      done = tt;
      accepted = tt;
      refused = ap (params_refusal c.args.self.now) c.in-ParamSet.is ∙ (ap (λ (v : StationServices). is_some v.client.operation) (sym c.self.view_is) ∙ c.in-Err-set.ensures.busy);
      unchanged = ap (λ (x : ClientState). record inside { client = x }) c.in-Err-set.ensures.err ∙ c.self.view_is;
    }

pub returns-in-Ok-list : goal.returns-in-Ok-list
returns-in-Ok-list c =
    let inside : StationServices = record { commander = c.self.inside.commander; client = c.self.inside.client; files = c.self.inside.files } in
    let a = asked_so c.asked-in-Ok-list.result (ParamList c.in-ParamList.drone) c.args.order inside c.args.self.now (record inside { client = c.list.new.self }) c.in-Ok-list.message c.in-ParamList.is c.self.view_is (ap (λ (x : ClientState). record inside { client = x }) c.in-Ok-list.ensures.client) (ap sent_of (sym c.in-Ok-list.ensures.message)) refl (record { command = refl; params = ap is_some c.in-Ok-list.ensures.free; file = refl }) c.asked-in-Ok-list.ensures.answers c.asked-in-Ok-list.ensures.last c.asked-in-Ok-list.ensures.fault in
    record { done = a.done; accepted = a.accepted; refused = a.refused; unchanged = a.unchanged }

pub returns-in-ParamList : goal.returns-in-ParamList
returns-in-ParamList c =
    let inside : StationServices = record { commander = c.self.inside.commander; client = c.self.inside.client; files = c.self.inside.files } in
    record {
      done = tt;
      accepted = tt;
      refused = ap (params_refusal c.args.self.now) c.in-ParamList.is ∙ (ap (λ (v : StationServices). is_some v.client.operation) (sym c.self.view_is) ∙ c.in-Err-list.ensures.busy);
      unchanged = ap (λ (x : ClientState). record inside { client = x }) c.in-Err-list.ensures.err ∙ c.self.view_is;
    }

pub returns-in-Ok-begin : goal.returns-in-Ok-begin
returns-in-Ok-begin c =
    let inside : StationServices = record { commander = c.self.inside.commander; client = c.self.inside.client; files = c.self.inside.files } in
    let a = asked_so c.asked-in-Ok-begin.result (File c.in-File.drone c.in-File.op) c.args.order inside c.args.self.now (record inside { files = c.begin.new.self }) c.in-Ok-begin.message c.in-File.is c.self.view_is (ap (λ (x : StationFiles). record inside { files = x }) c.in-Ok-begin.ensures.files) (sym c.in-Ok-begin.ensures.message) refl (record { command = refl; params = refl; file = c.in-Ok-begin.ensures.accepted }) c.asked-in-Ok-begin.ensures.answers c.asked-in-Ok-begin.ensures.last c.asked-in-Ok-begin.ensures.fault in
    record { done = a.done; accepted = a.accepted; refused = a.refused; unchanged = a.unchanged }

pub returns-in-File : goal.returns-in-File
returns-in-File c =
    let inside : StationServices = record { commander = c.self.inside.commander; client = c.self.inside.client; files = c.self.inside.files } in
    record {
      done = tt;
      accepted = tt;
      refused = ap (file_refusal c.args.self.now) c.in-File.is ∙ (ap (λ (v : StationServices). order_fault v.files.transfer (file_order c.in-File.op)) (sym c.self.view_is) ∙ c.in-Err-begin.ensures.refused);
      unchanged = ap (λ (x : StationFiles). record inside { files = x }) c.in-Err-begin.ensures.unchanged ∙ c.self.view_is;
    }
