-- The order that an operation of a station's words gives.
use Rattle.std.specs.Prelude.{◌≡◌, ℕ, List, option_map}
use Rattle.std.specs.Int.{w32, from_le_bytes}
use Rattle.std.specs.Global.{Vec}
use Rattle.mav_names.specs.declared.names.Stream.{Stream}
use Rattle.plan_items.specs.declared.items.Item.{Item}
use Rattle.plan_items.specs.declared.kinds.PlanKind.{PlanKind}
use Rattle.plan_items.specs.declared.kinds.PlanKind.TheVariants.{Mission, Fence, Rally}
use Rattle.plan_items.specs.declared.plans.Plan.{Plan}
use Rattle.plan_items.specs.Plans.{items_of}
use Rattle.mav_nodes.specs.declared.orders.Order.{Order}
use Rattle.mav_nodes.specs.declared.orders.Order.TheVariants.{Begin, Clear as ClearOrder, Get as GetOrder}
use Rattle.mav_nodes.specs.declared.orders.Order.TheVariants.{Command as CommandOrder, ParamRead as ReadOrder}
use Rattle.mav_nodes.specs.declared.orders.Order.TheVariants.{ParamSet as SetOrder, ParamList as ListOrder}
use Rattle.mav_nodes.specs.declared.orders.Order.TheVariants.{File as FileOrder}
use Rattle.mav_nodes.specs.declared.orders.FileOp.TheVariants.{List as List_files, Fetch, Store, Remove}
use Rattle.live_node.specs.declared.order_words.Contents.{Contents as FileContents}
use Rattle.command_line.specs.declared.operations.PlanWord.{PlanWord}
use Rattle.command_line.specs.declared.operations.PlanWord.TheVariants.{Mission as MissionWord, Fence as FenceWord}
use Rattle.command_line.specs.declared.operations.PlanWord.TheVariants.{Rally as RallyWord}
use Rattle.command_line.specs.declared.operations.Operation.{Operation}
use Rattle.command_line.specs.declared.operations.Operation.TheVariants.{Upload, Get, Clear, Command, ParamList}
use Rattle.command_line.specs.declared.operations.Operation.TheVariants.{ParamRead, ParamSet, FileList, FileGet}
use Rattle.command_line.specs.declared.operations.Operation.TheVariants.{FilePut, FileRemove}

abbrev pub kind_of : PlanWord → PlanKind
kind_of MissionWord = Mission
kind_of FenceWord = Fence
kind_of RallyWord = Rally

-- an upload's plan has the items of its file
pub record Uploads (drone : Stream) (kind : PlanKind) (items : List Item) (order : Order) : Type 0 where
  pub plan : Plan
  pub order_is : order ≡ Begin drone kind plan
  pub has : items_of plan ≡ items

-- a file to store has the bytes of its file
pub record Stores (drone : Stream) (name bytes : List ℕ) (order : Order) : Type 0 where
  pub file : Vec ℕ
  pub order_is : order ≡ FileOrder drone (Store name file)
  pub has : file.items ≡ bytes

-- the contents of the file that an operation takes: the items of an upload's plan, or the bytes of a file to store
pub record Contents : Type 0 where
  pub items : List Item
  pub bytes : List ℕ

abbrev pub contents_of : FileContents → Contents
contents_of c = record { items = items_of c.plan; bytes = c.bytes.items }

-- the order of an operation with this drone; a parameter's word is its four bytes, the lowest first
abbrev pub OrdersFor : Operation → Stream → Contents → Order → Type 0
OrdersFor (Upload kind) drone contents order = Uploads drone (kind_of kind) contents.items order
OrdersFor (Get kind) drone contents order = order ≡ GetOrder drone (kind_of kind)
OrdersFor (Clear kind) drone contents order = order ≡ ClearOrder drone (option_map kind_of kind)
OrdersFor (Command number word) drone contents order = order ≡ CommandOrder drone number word
OrdersFor ParamList drone contents order = order ≡ ListOrder drone
OrdersFor (ParamRead id) drone contents order = order ≡ ReadOrder drone id
OrdersFor (ParamSet id kind word) drone contents order =
    order ≡ SetOrder drone (record { id = id; ty = kind; word = from_le_bytes w32 word })
OrdersFor FileList drone contents order = order ≡ FileOrder drone List_files
OrdersFor (FileGet name) drone contents order = order ≡ FileOrder drone (Fetch name)
OrdersFor (FilePut name) drone contents order = Stores drone name contents.bytes order
OrdersFor (FileRemove name) drone contents order = order ≡ FileOrder drone (Remove name)
