-- The parts in which the code writes longer texts.
use Rattle.std.specs.Prelude.{ℕ, List, ◌++◌, codes}
use Rattle.std.specs.Fmt.{decimal, signed_decimal}
use Rattle.plan_items.specs.declared.items.Item.{Item}
use Rattle.plan_items.specs.declared.messages.PlanMsg.{PlanMsg}
use Rattle.plan_items.specs.declared.messages.PlanMsg.TheVariants.{Count, Request, Item as Give, Ack, List as Listing}
use Rattle.plan_items.specs.declared.messages.PlanMsg.TheVariants.{Clear, Ping}
use Rattle.fleet_report.specs.Texts.{space, newline, kind_text, word_text, words_text}

-- the name that a message of the mission protocol is printed by
abbrev pub word : PlanMsg → List ℕ
word (Ping to usec seq) = codes "PING"
word (Count to count kind) = codes "COUNT"
word (Request to seq kind) = codes "REQUEST"
word (Give to seq kind item) = codes "ITEM"
word (Ack to code kind) = codes "ACK"
word (Listing to kind) = codes "LIST"
word (Clear to kind) = codes "CLEAR"

-- the numbers after its name
abbrev pub numbers_text : PlanMsg → List ℕ
numbers_text (Ping to usec seq) = decimal seq
numbers_text (Count to count kind) = kind_text kind ++ space ++ decimal count
numbers_text (Request to seq kind) = kind_text kind ++ space ++ decimal seq
numbers_text (Give to seq kind item) = kind_text kind ++ space ++ decimal seq
numbers_text (Ack to code kind) = decimal code ++ space ++ kind_text kind
numbers_text (Listing to kind) = kind_text kind
numbers_text (Clear to kind) = kind_text kind

-- the end of an item's line: P1 P2 P3 P4 X Y Z
abbrev pub place_text : Item → List ℕ
place_text item =
    words_text item.p ++ signed_decimal item.x ++ space ++ signed_decimal item.y ++ space ++ word_text item.z
    ++ newline
