-- What the code's types show of an item.
use Rattle.std.specs.Prelude.{Result, Ok, Err}
use Rattle.key_orders.specs.Separators.{separator_of}
use Rattle.bt_tuples.specs.declared.items.ItemFault.{ItemFault}
use Rattle.bt_tuples.specs.declared.items.TreeItem.{TreeItem}
use Rattle.bt_tuples.specs.declared.items.TreeItem.TheVariants as shown
use Rattle.bt_tuples.specs.Items.{Item, ItemOutcome, Pivot, Plain, Posting}

-- an item that lies on a page
abbrev pub item_shown : TreeItem → Item
item_shown (shown.Pivot sep down) = Pivot (separator_of sep) down
item_shown (shown.Plain key more tid killed) = Plain key more tid killed
item_shown (shown.Posting key tids killed) = Posting key tids killed

abbrev pub outcome_shown : Result TreeItem ItemFault → ItemOutcome
outcome_shown (Ok item) = Ok (item_shown item)
outcome_shown (Err e) = Err e

-- a tuple with this meaning, where its head could be told
abbrev pub outcome_with : {A : Type 0} → Result A ItemFault → Item → ItemOutcome
outcome_with (Ok a) meaning = Ok meaning
outcome_with (Err e) meaning = Err e
