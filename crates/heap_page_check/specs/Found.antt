-- What is found of a table: what a report gets; what it gets besides where nothing else is found; and the chunks of
-- a TOAST table. All of it in one record, made by one function for each level: an item, a page, a relation.
use Rattle.std.specs.Prelude.{◌+◌, ℕ, Bool, false, List, [], ◌∷◌, ◌++◌, length, slice_get, if◌then◌else◌}
use Rattle.std.specs.Prelude.{Option, Some, None, Ok, Err}
use Rattle.std.proofs.Common.{append-nil, append_assoc}
use Rattle.outside.specs.Adds.{Joins, each_below, one_list}
use Rattle.page_layout.specs.Page.{count_of}
use Rattle.page_layout.specs.declared.rules.Rule.{Rule}
use Rattle.page_layout.specs.declared.rules.Rule.TheVariants.{H21}
use Rattle.heap_tuples.specs.Places.{tuple_at}
use Rattle.heap_tuples.specs.Tuples.{attributes_in}
use Rattle.liveness.specs.declared.states.ItemState.{ItemState}
use Rattle.liveness.specs.declared.states.ItemState.TheVariants.{Unused, Dead, Redirect, Tuple}
use Rattle.liveness.specs.declared.states.Life.{Life}
use Rattle.liveness.specs.declared.states.Life.TheVariants as life
use Rattle.varlena_attrs.specs.Forms.{Attribute, Null, Missing, Plain, Packed, External}
use Rattle.varlena_attrs.specs.Inline.{are_inline}
use Rattle.varlena_attrs.specs.Reading.{Outcome}
use Rattle.varlena_attrs.specs.declared.places.ToastPointer.{ToastPointer}
use Rattle.toast_chunks.specs.Chunks.{is_whole}
use Rattle.toast_chunks.specs.Rows.{row_of}
use Rattle.toast_chunks.specs.declared.map.Chunk.{Chunk}
use Rattle.toast_chunks.specs.declared.rows.ChunkRow.{ChunkRow}
use Rattle.reports.specs.Added.{doubt_at, each_upto, finding_at, joined, nothing, report_lists}
use Rattle.reports.specs.Lists.{Lists}
use Rattle.reports.specs.declared.places.Place.{Place}
use Rattle.reports.specs.declared.places.Place.TheVariants.{Column, Item}
use Rattle.heap_page_check.specs.Table.{Table, rel_of}
use Rattle.heap_page_check.specs.Verdicts.{item_verdict, without_state}
use Rattle.heap_page_check.specs.declared.table.TableKind.{TableKind}
use Rattle.heap_page_check.specs.declared.table.TableKind.TheVariants as kind
use Rattle.heap_page_check.specs.declared.verdict.ItemVerdict.{ItemVerdict}
use Rattle.heap_page_check.specs.declared.verdict.ItemVerdict.TheVariants.{Passes, Breaks, InDoubt}
use Rattle.heap_page_check.specs.declared.verdict.TupleVerdict.{TupleVerdict}
use Rattle.heap_page_check.specs.declared.verdict.TupleVerdict.TheVariants as bare

pub record FoundLists : Type 0 where
  pub listed : Lists
  pub late : Lists
  pub chunks : List Chunk

abbrev pub nothing_found : FoundLists
nothing_found = record { listed = nothing; late = nothing; chunks = [] }

abbrev pub both_found : FoundLists → FoundLists → FoundLists
both_found a b =
    record { listed = joined a.listed b.listed; late = joined a.late b.late; chunks = a.chunks ++ b.chunks }

-- what is found of one part, and then of another
abbrev pub found_parts : Joins FoundLists
found_parts = record {
  none = nothing_found;
  join = both_found;
  with_none = λ a i. record {
    listed = report_lists.with_none a.listed i;
    late = report_lists.with_none a.late i;
    chunks = append-nil a.chunks i;
  };
  none_with = λ a i. a;
  in_turn = λ a b c i. record {
    listed = report_lists.in_turn a.listed b.listed c.listed i;
    late = report_lists.in_turn a.late b.late c.late i;
    chunks = append_assoc a.chunks b.chunks c.chunks i;
  };
}

-- what a report gets in any case, and nothing else
abbrev pub only_listed : Lists → FoundLists
only_listed lists = record { listed = lists; late = nothing; chunks = [] }

-- The attributes of live tuples

abbrev pub attributes_read : Outcome → List Attribute
attributes_read (Ok list) = list
attributes_read (Err e) = []

-- those of a live tuple, unless its values break a rule
abbrev pub kept_by_values : Option Rule → Outcome → List Attribute
kept_by_values (Some rule) outcome = []
kept_by_values None outcome = attributes_read outcome

abbrev pub attributes_by_life : Outcome → Life → List Attribute
attributes_by_life outcome life.Live = attributes_read outcome
attributes_by_life outcome life.Dead = []
attributes_by_life outcome (life.Unjudged doubt) = []
attributes_by_life outcome (life.Broken rule) = []

abbrev pub attributes_by : Outcome → ItemVerdict → List Attribute
attributes_by outcome (Passes (Tuple head judged)) = attributes_by_life outcome judged.life
attributes_by outcome (Passes Unused) = []
attributes_by outcome (Passes Dead) = []
attributes_by outcome (Passes (Redirect target)) = []
attributes_by outcome (Breaks rule) = []
attributes_by outcome (InDoubt reason) = []

-- those of an item that is a live tuple and breaks no rule; none of any other
unfoldable pub live_attributes : Table → List ℕ → ℕ → List Attribute
live_attributes table page i = attributes_by (attributes_in table.columns (tuple_at page i)) (item_verdict table page i)

-- Values that stand in a TOAST table

-- H21: the chunks of a value aren't those that it should have
abbrev pub value_rule_late : List Chunk → ToastPointer → Option Rule
value_rule_late chunks pointer = if is_whole chunks pointer then None else Some H21

-- asked of a value where there is a TOAST table; where there is none, the value breaks H19
abbrev pub late_by : Option ℕ → List Chunk → Place → ToastPointer → Lists
late_by None chunks place pointer = nothing
late_by (Some oid) chunks place pointer = finding_at place (value_rule_late chunks pointer)

-- what the value at a place gives
abbrev pub late_in : Option ℕ → List Chunk → Place → Option Attribute → Lists
late_in toast chunks place (Some (External pointer)) = late_by toast chunks place pointer
late_in toast chunks place (Some Null) = nothing
late_in toast chunks place (Some Missing) = nothing
late_in toast chunks place (Some (Plain content)) = nothing
late_in toast chunks place (Some (Packed piece)) = nothing
late_in toast chunks place None = nothing

-- what column k of a tuple gives, counted from 0; places count columns from 1
unfoldable pub late_at : Option ℕ → List Chunk → ℕ → ℕ → List Attribute → ℕ → Lists
late_at toast chunks block item list k = late_in toast chunks (Column block item (k + 1)) (slice_get list k)

-- what those of a tuple with these attributes give
unfoldable pub late_of : Option ℕ → List Chunk → ℕ → ℕ → List Attribute → Lists
late_of toast chunks block item list = each_below report_lists (late_at toast chunks block item list) (length list)

-- Chunks

-- the chunk that a row is, unless it belongs to no value
abbrev pub chunk_by : ℕ → ℕ → Option ChunkRow → List Chunk
chunk_by block item None = []
chunk_by block item (Some row) =
    record { id = row.id; seq = row.seq; tid = record { block = block; item = item }; size = row.size } ∷ []

-- What is found of an item

-- a live tuple of a heap has values that may not be whole, one of a TOAST table is a chunk
abbrev pub late_left : TableKind → Option ℕ → List Chunk → ℕ → ℕ → List Attribute → Lists
late_left kind.Heap toast chunks block item list = late_of toast chunks block item list
late_left kind.Toast toast chunks block item list = nothing

abbrev pub chunks_left : TableKind → ℕ → ℕ → List Attribute → List Chunk
chunks_left kind.Heap block item list = []
chunks_left kind.Toast block item list = chunk_by block item (row_of list)

-- what the attributes of a live tuple leave
abbrev pub left_by : TableKind → Option ℕ → List Chunk → ℕ → ℕ → List Attribute → FoundLists
left_by what toast chunks block item list = record {
  listed = nothing;
  late = late_left what toast chunks block item list;
  chunks = chunks_left what block item list;
}

-- what the verdict on a place says, which is nothing of a state
abbrev pub bare_lists : Place → TupleVerdict → Lists
bare_lists place bare.Passes = nothing
bare_lists place (bare.Breaks rule) = finding_at place (Some rule)
bare_lists place (bare.InDoubt reason) = doubt_at place (Some reason)

abbrev pub verdict_lists : Place → ItemVerdict → Lists
verdict_lists place verdict = bare_lists place (without_state verdict)

-- these chunks stand in its TOAST table
unfoldable pub item_found : Table → List Chunk → ℕ → List ℕ → ℕ → FoundLists
item_found table chunks block page i =
    both_found (left_by table.kind table.toast chunks block i (live_attributes table page i))
    (only_listed (verdict_lists (Item (rel_of table.kind) block i) (item_verdict table page i)))

-- what all items of a page give, each by itself
unfoldable pub items_found : Table → List Chunk → ℕ → List ℕ → FoundLists
items_found table chunks block page = each_upto found_parts (item_found table chunks block page) (count_of page)

-- The states of the items, for what is asked of all of them together

abbrev pub state_in : ItemVerdict → List ItemState
state_in (Passes state) = state ∷ []
state_in (Breaks rule) = []
state_in (InDoubt reason) = []

unfoldable pub item_state : Table → List ℕ → ℕ → List ItemState
item_state table page i = state_in (item_verdict table page i)

-- the states of all items of a page, where all pass
unfoldable pub states_of : Table → List ℕ → List ItemState
states_of table page = each_upto one_list (item_state table page) (count_of page)

-- a tuple of which nothing is found and nothing kept, whatever else is asked: its values are all stored in line,
-- and it is no chunk
abbrev pub leaves_nothing : TableKind → Outcome → Bool
leaves_nothing kind.Heap outcome = are_inline outcome
leaves_nothing kind.Toast outcome = false
