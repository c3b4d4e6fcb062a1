-- What stands in a TOAST table, by the bytes of the pages: the values of a heap's live tuples, and the rows of the
-- TOAST table.
use Rattle.std.specs.Prelude.{◌≡◌, ◌-◌, ℕ, ◌≤◌, List, Some, Ok, slice_get}
use Rattle.varlena_attrs.specs.Forms.{Attribute, External}
use Rattle.varlena_attrs.specs.declared.places.ToastPointer.{ToastPointer}
use Rattle.heap_tuples.specs.Places.{tuple_at}
use Rattle.heap_tuples.specs.Tuples.{attributes_in}
use Rattle.toast_chunks.specs.Chunks.{IsWhole}
use Rattle.toast_chunks.specs.Rows.{row_of}
use Rattle.toast_chunks.specs.declared.map.Chunk.{Chunk}
use Rattle.page_layout.specs.declared.rules.Rule.{Rule}
use Rattle.page_layout.specs.declared.rules.Rule.TheVariants.{H21}
use Rattle.reports.specs.declared.places.Place.{Place}
use Rattle.reports.specs.declared.places.Place.TheVariants.{Column}
use Rattle.heap_page_check.specs.Broken.{HoldsLiveTuple}
use Rattle.heap_page_check.specs.Table.{Table}

-- a value of the live tuple at item i, whose attributes can be read, stands in a TOAST table, where this pointer
-- finds it; columns are counted from 1
pub record HasValue (table : Table) (page : List ℕ) (i column : ℕ) (pointer : ToastPointer) : Type 0 where
  pub live : HoldsLiveTuple table page i
  pub list : List Attribute
  pub read : attributes_in table.columns (tuple_at page i) ≡ Ok list
  pub first : 1 ≤ column
  pub value : slice_get list (column - 1) ≡ Some (External pointer)

-- H21: where these chunks stand in the table's TOAST table, those of such a value aren't what they should be
pub data BreaksValue (chunks : List Chunk) (table : Table) (block : ℕ) (page : List ℕ) : Rule → Place → Type 0 where
  not_whole : (oid i column : ℕ) (pointer : ToastPointer) → table.toast ≡ Some oid
      → HasValue table page i column pointer → ¬ IsWhole chunks pointer
      → BreaksValue chunks table block page H21 (Column block i column)

-- the live tuple at item i, whose attributes can be read, is the row of this chunk of a TOAST table
pub record IsRowOn (table : Table) (block : ℕ) (page : List ℕ) (i : ℕ) (c : Chunk) : Type 0 where
  pub live : HoldsLiveTuple table page i
  pub list : List Attribute
  pub read : attributes_in table.columns (tuple_at page i) ≡ Ok list
  pub row : row_of list ≡ Some (record { id = c.id; seq = c.seq; size = c.size })
  pub place : c.tid ≡ record { block = block; item = i }

-- it is a row of this chunk at some item of the page
abbrev pub IsRowOnPage : Table → ℕ → List ℕ → Chunk → Type 0
IsRowOnPage table block page c = (i : ℕ) × IsRowOn table block page i c
