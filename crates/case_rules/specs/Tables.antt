-- What a table of the document holds at a key.
use Rattle.std.specs.Prelude.{ℕ, List, [], ◌∷◌, ℤ, pos, negsuc, nat_lt, Bool, if◌then◌else◌, Option, Some, None}
use Rattle.std.specs.Prelude.{is_some, option_and_then, unwrap_or}
use Rattle.std.specs.Option.{option_map_or}
use Rattle.std.specs.List.{list_all}
use Rattle.toml.specs.Data.{Data, Items, no_items, item, Members, get_member, as_array, as_bool, as_integer, as_str}
use Rattle.toml.specs.Data.{as_table}

-- a key is there
unfoldable pub has : List ℕ → Members → Bool
has key t = is_some (get_member key t)

-- the text at a key
unfoldable pub text_at : List ℕ → Members → Option (List ℕ)
text_at key t = option_and_then as_str (get_member key t)

-- a number below 2 ^ 32, and 0 for any other
abbrev pub below_2_32 : ℤ → ℕ
below_2_32 (pos n) = if nat_lt n 4294967296 then n else 0
below_2_32 (negsuc n) = 0

-- the number at a key; 0 where there is none below 2 ^ 32
unfoldable pub number_at : List ℕ → Members → ℕ
number_at key t = option_map_or below_2_32 (option_and_then as_integer (get_member key t)) 0

-- the table at a key
unfoldable pub table_at : List ℕ → Members → Option Members
table_at key t = option_and_then as_table (get_member key t)

-- the values of an array
abbrev pub values_of : Items → List Data
values_of no_items = []
values_of (item d ds) = d ∷ values_of ds

abbrev pub is_table : Data → Bool
is_table d = is_some (as_table d)

-- the values, where all of them are tables
abbrev pub if_tables : List Data → Option (List Data)
if_tables ds = if list_all is_table ds then Some ds else None

-- the tables of an array of tables
unfoldable pub as_tables : Data → Option (List Data)
as_tables d = option_and_then (λ ds. if_tables (values_of ds)) (as_array d)

-- the tables of a value that is an array of tables, and of any other none
abbrev pub tables_in : Option Data → List Data
tables_in o = unwrap_or (option_and_then as_tables o) []

-- the tables of the array of tables at a key
unfoldable pub tables_at : List ℕ → Members → List Data
tables_at key t = tables_in (get_member key t)

-- the values of the array at a key; none where there is no array
abbrev pub values_in : Option Data → List Data
values_in o = option_map_or values_of (option_and_then as_array o) []

unfoldable pub values_at : List ℕ → Members → List Data
values_at key t = values_in (get_member key t)

-- what a table holds at a key, with a value for where the table or the key isn't there
unfoldable pub number_in : Option Members → List ℕ → ℕ
number_in t key = option_map_or (number_at key) t 0

unfoldable pub text_in : Option Members → List ℕ → List ℕ
text_in t key = unwrap_or (option_and_then (text_at key) t) []

unfoldable pub flag_in : Option Members → List ℕ → Bool → Bool
flag_in t key default = unwrap_or (option_and_then (λ m. option_and_then as_bool (get_member key m)) t) default
