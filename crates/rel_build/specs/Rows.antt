-- The rows of the generated table, by their numbers, and its pages.
use Rattle.std.specs.Prelude.{◌<◌, ℕ, zero, suc, ◌+◌, ◌-◌, ◌*◌, ◌/◌, ◌%◌, ◌^◌, List, [], ◌∷◌, ◌++◌, length}
use Rattle.std.specs.Prelude.{map, take, drop}
use Rattle.byteorder.specs.Endian.{little_bytes}
use Rattle.key_orders.specs.declared.Tid.{Tid}
use Rattle.tuple_head.specs.declared.HeapHead.{HeapHead}
use Rattle.outside.specs.Adds.{each_below, one_list}
use Rattle.rel_build.specs.declared.rows.Row.{Row}
use Rattle.page_write.specs.Pages.{heap_page}
use Rattle.page_write.specs.Tuples.{heap_tuple}

-- the number after x in the sequence of pseudo-random numbers
unfoldable pub next_number : ℕ → ℕ
next_number x = (x * 6364136223846793005 + 1442695040888963407) % 2 ^ 64

-- the number after so many steps from a seed
unfoldable pub number_after : (seed steps : ℕ) → ℕ
number_after seed zero = seed
number_after seed (suc k) = next_number (number_after seed k)

-- row k, counted from 0: its `id` is its number, its `grp` is made of the upper bits of a pseudo-random number
unfoldable pub row_number : (seed k : ℕ) → Row
row_number seed k = record { id = k; group = number_after seed (suc k) / 2 ^ 33 % 100 }

-- the rows in the order of their numbers
unfoldable pub rows_below : (seed count : ℕ) → List Row
rows_below seed zero = []
rows_below seed (suc k) = rows_below seed k ++ row_number seed k ∷ []

-- A list that is cut into pages, so many on each

-- how many pages there are
abbrev pub pages_for : (each count : ℕ) → ℕ
pages_for each count = (count + (each - 1)) / each

-- what stands on page k, counted from 0
abbrev pub part_of : (each : ℕ) → List Row → ℕ → List Row
part_of each rows k = take each (drop (each * k) rows)

-- The table

-- 185 rows stand on a page
abbrev pub tid_of : Row → Tid
tid_of row = record { block = row.id / 185; item = row.id % 185 + 1 }

-- `id` in 8 bytes and `grp` in 4; none is below 0
unfoldable pub row_body : Row → List ℕ
row_body row = little_bytes 8 row.id ++ little_bytes 4 row.group

-- transaction 3 inserted the tuple, nothing deleted it (0x0800), and it has two attributes
unfoldable pub row_head : Row → HeapHead
row_head row = record {
  xmin = 3;
  xmax = 0;
  field3 = 0;
  ctid = tid_of row;
  infomask2 = 2;
  infomask = 0x0800;
  hoff = 24;
}

unfoldable pub row_tuple : Row → List ℕ
row_tuple row = heap_tuple (row_head row) [] (row_body row)

-- page k, and all pages
abbrev pub table_page : List Row → ℕ → List ℕ
table_page rows k = heap_page (map row_tuple (part_of 185 rows k))

unfoldable pub table_file : List Row → List ℕ
table_file rows = each_below one_list (table_page rows) (pages_for 185 (length rows))

-- the numbers of a row can stand in its columns, and its place in a table
pub record IsRow (row : Row) : Type 0 where
  pub id : row.id < 4294967296
  pub group : row.group < 2147483648
