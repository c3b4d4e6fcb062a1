-- What is found of a line pointer of a heap page and of the tuple that it points to: the order in which rules are
-- asked.
use Rattle.std.specs.Prelude.{ℕ, List, length, if◌then◌else◌, Option, Some, None}
use Rattle.key_orders.specs.declared.columns.ColType.{ColType}
use Rattle.page_layout.specs.Items.{is_misplaced_heap_item}
use Rattle.page_layout.specs.Page.{item_of, upper_of}
use Rattle.page_layout.specs.declared.page.LineFlag.{LineFlag}
use Rattle.page_layout.specs.declared.page.LineFlag.TheVariants as flag
use Rattle.page_layout.specs.declared.rules.Rule.{Rule}
use Rattle.page_layout.specs.declared.rules.Rule.TheVariants.{H1, H2}
use Rattle.tuple_head.specs.Head.{head_rule_of, is_old_form, tuple_head_of}
use Rattle.tuple_head.specs.declared.HeapHead.{HeapHead}
use Rattle.heap_tuples.specs.Places.{tuple_at}
use Rattle.heap_tuples.specs.Tuples.{attributes_in}
use Rattle.liveness.specs.Life.{judged_of}
use Rattle.liveness.specs.declared.states.Doubt.{Doubt}
use Rattle.liveness.specs.declared.states.Doubt.TheVariants as doubt
use Rattle.liveness.specs.declared.states.ItemState.TheVariants.{Unused, Dead, Redirect, Tuple}
use Rattle.liveness.specs.declared.states.Judged.{Judged}
use Rattle.liveness.specs.declared.states.Life.{Life}
use Rattle.liveness.specs.declared.states.Life.TheVariants as life
use Rattle.reports.specs.declared.places.Reason.{Reason}
use Rattle.reports.specs.declared.places.Reason.TheVariants as reason
use Rattle.heap_page_check.specs.declared.table.TableRules.{TableRules}
use Rattle.heap_page_check.specs.declared.verdict.ItemVerdict.{ItemVerdict}
use Rattle.heap_page_check.specs.declared.verdict.ItemVerdict.TheVariants.{Passes, Breaks, InDoubt}
use Rattle.heap_page_check.specs.declared.verdict.TupleVerdict.{TupleVerdict}
use Rattle.heap_page_check.specs.declared.verdict.TupleVerdict.TheVariants as bare
use Rattle.heap_page_check.specs.Storage.{overlaps_lower_item}
use Rattle.heap_page_check.specs.Table.{Table, logs_in, toast_oid_seen}
use Rattle.heap_page_check.specs.Values.{values_rule}

abbrev pub reason_of : Doubt → Reason
reason_of doubt.U1 = reason.U1
reason_of doubt.U2 = reason.U2
reason_of doubt.U3 = reason.U3

-- a verdict without the state of what passes
abbrev pub without_state : ItemVerdict → TupleVerdict
without_state (Passes state) = bare.Passes
without_state (Breaks rule) = bare.Breaks rule
without_state (InDoubt reason) = bare.InDoubt reason

-- what the values of a live tuple say
abbrev pub values_verdict : HeapHead → Judged → Option Rule → ItemVerdict
values_verdict head judged (Some rule) = Breaks rule
values_verdict head judged None = Passes (Tuple head judged)

-- what the life of a tuple says: the values of a live one are asked too
abbrev pub life_verdict : Option ℕ → List ColType → List ℕ → HeapHead → Judged → Life → ItemVerdict
life_verdict oid columns tuple head judged life.Live =
    values_verdict head judged (values_rule oid head (attributes_in columns tuple))
life_verdict oid columns tuple head judged life.Dead = Passes (Tuple head judged)
life_verdict oid columns tuple head judged (life.Unjudged u) = InDoubt (reason_of u)
life_verdict oid columns tuple head judged (life.Broken rule) = Breaks rule

-- the same by the rules of a table, as the code has them
abbrev pub verdict_by_life : TableRules → List ℕ → HeapHead → Judged → ItemVerdict
verdict_by_life table tuple head judged =
    life_verdict (toast_oid_seen table.toast) table.columns.now tuple head judged judged.life

abbrev pub header_verdict : Table → List ℕ → HeapHead → Option Rule → ItemVerdict
header_verdict table tuple head (Some rule) = Breaks rule
header_verdict table tuple head None =
    life_verdict table.toast table.columns tuple head (judged_of (logs_in table) head)
    (judged_of (logs_in table) head).life

-- a tuple of so many bytes: nothing more is asked of a header of old form; else its rules come first, then its life,
-- and then, where it is live, its values
unfoldable pub tuple_verdict : Table → ℕ → List ℕ → ItemVerdict
tuple_verdict table len tuple =
    if is_old_form (tuple_head_of tuple) then InDoubt reason.U1
    else header_verdict table tuple (tuple_head_of tuple)
    (head_rule_of (length table.columns) len (tuple_head_of tuple))

-- the header of the tuple of an item
abbrev pub head_at : List ℕ → ℕ → HeapHead
head_at page i = tuple_head_of (tuple_at page i)

-- a normal item: where it lies, and then its tuple
unfoldable pub normal_verdict : Table → List ℕ → ℕ → ItemVerdict
normal_verdict table page i =
    if is_misplaced_heap_item (upper_of page) (item_of page i) then Breaks H1
    else if overlaps_lower_item page i then Breaks H2
    else tuple_verdict table (item_of page i).len (tuple_at page i)

abbrev pub flag_verdict : Table → List ℕ → ℕ → LineFlag → ItemVerdict
flag_verdict table page i flag.Unused = Passes Unused
flag_verdict table page i flag.Normal = normal_verdict table page i
flag_verdict table page i flag.Redirect = Passes (Redirect (item_of page i).off)
flag_verdict table page i flag.Dead = Passes Dead

unfoldable pub item_verdict : Table → List ℕ → ℕ → ItemVerdict
item_verdict table page i = flag_verdict table page i (item_of page i).flag
