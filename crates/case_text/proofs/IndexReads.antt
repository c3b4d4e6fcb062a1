-- What is read of an index that is written.
use Rattle.std.proofs.Common.{◌≡◌, ℕ, ◌<◌, ◌≤◌, List, [], ◌∷◌, length, map, Bool, true, false, cond, Option, Some, None, option_map, option_and_then}
use Rattle.std.proofs.Common.{unwrap_or, refl, sym, ap, ◌∙◌, arith, string_bytes}
use Rattle.std.proofs.lemmas.Bool.{and_parts, false≢true, lt-ltb}
use Rattle.std.proofs.lemmas.Option.{slice_get-map}
use Rattle.std.specs.List.{list_all, slice_get}
use Rattle.std.specs.Option.{option_map_or}
use Rattle.key_orders.specs.declared.columns.ColType.TheVariants.{Text}
use Rattle.toml.specs.Data.{Data, as_table}
use Rattle.toml.specs.View.{items_of}
use Rattle.case_rules.specs.Rules.{has_name, is_key_column}
use Rattle.case_rules.specs.Tables.{as_tables, flag_in, if_tables, is_table, tables_at, tables_in, text_at, text_in, values_at, values_of}
use Rattle.case_file.specs.declared.case.Column.{Column}
use Rattle.case_file.specs.declared.case.Unique.{Unique}
use Rattle.case_file.specs.declared.case.Unique.TheVariants.{No, NullsDistinct, NullsEqual}
use Rattle.case_file.specs.Columns.{below_or_zero, column_of, told_type}
use Rattle.case_file.specs.Indexes.{any_column_named, column_named, index_of, key_of, more_of, table_of, unique_in}
use Rattle.case_text.specs.declared.parts.ColumnPart.{ColumnPart}
use Rattle.case_text.specs.declared.parts.IndexPart.{IndexPart}
use Rattle.case_text.specs.declared.parts.KeyPart.{KeyPart}
use Rattle.case_text.specs.Told.{column_told, index_is_found, index_told, is_key_named, is_named, key_is_found, key_told, more_is_found, more_told}
use Rattle.case_text.specs.Told.{name_at, type_at}
use Rattle.case_text.specs.Written.{column_data, index_data, index_pairs, is_unique, key_data, key_pairs, more_data, takes_nulls_as_equal}
use Rattle.case_text.specs.Written.{values, with_member}
use Rattle.case_text.proofs.ColumnReads.{key_named_back, named_back}
use Rattle.case_text.proofs.Places.{below_length, is_there, same_place}

pub values_back : (ds : List Data) → values_of (items_of ds) ≡ ds
values_back [] = refl
values_back (d ∷ ds) = ap (λ rest. d ∷ rest) (values_back ds)

-- the tables of an array that is written
pub tables_back : (ds : List Data) → list_all is_table ds ≡ true → tables_in (Some (values ds)) ≡ ds
unfolding as_tables
tables_back ds all = ap if_or_none (values_back ds) ∙ taken (list_all is_table ds) all
  where
    if_or_none : List Data → List Data
    if_or_none ds = unwrap_or (if_tables ds) []

    taken : (all : Bool) → all ≡ true → unwrap_or (cond all (Some ds) None) [] ≡ ds
    taken true h = refl
    taken false h = absurd (false≢true h)

pub are_tables : {A : Type 0} (f : A → Data) (xs : List A) → ((x : A) → is_table (f x) ≡ true) → list_all is_table (map f xs) ≡ true
are_tables f [] each = refl
are_tables f (x ∷ xs) each = rw (each x, are_tables f xs each) refl

-- the type of a column by its number, of the columns that are read
type_read : (ds : List Data) (k : ℕ) → told_type (table_of ds k) ≡ option_map_or (λ c. c.ctype) (slice_get (map column_of ds) k) Text
unfolding column_of told_type
type_read ds k = read_at (slice_get ds k) ∙ ap (λ (o : Option Column). option_map_or (λ c. c.ctype) o Text) (sym (slice_get-map column_of ds k))
  where
    read_at : (o : Option Data) → told_type (option_and_then as_table o) ≡ option_map_or (λ c. c.ctype) (option_map column_of o) Text
    read_at None = refl
    read_at (Some d) = refl

type_of_told : (cs : List ColumnPart) (k : ℕ) → option_map_or (λ c. c.ctype) (slice_get (map column_told cs) k) Text ≡ type_at cs k
unfolding column_told
type_of_told cs k = ap (λ (o : Option Column). option_map_or (λ c. c.ctype) o Text) (slice_get-map column_told cs k) ∙ told_at (slice_get cs k)
  where
    told_at : (o : Option ColumnPart) → option_map_or (λ c. c.ctype) (option_map column_told o) Text ≡ option_map_or (λ c. c.ctype) o Text
    told_at None = refl
    told_at (Some c) = refl

-- columns that read back, and are few
pub record AreBack (cs : List ColumnPart) : Type 0 where
  pub columns : map column_of (map column_data cs) ≡ map column_told cs
  pub few : length cs ≤ 64

type_back : (cs : List ColumnPart) (k : ℕ) → AreBack cs → told_type (table_of (map column_data cs) k) ≡ type_at cs k
type_back cs k back =
    type_read (map column_data cs) k ∙ ap (λ (columns : List Column). option_map_or (λ c. c.ctype) (slice_get columns k) Text) back.columns ∙ type_of_told cs k

small : (k : ℕ) → k < 65536 → below_or_zero 65536 k ≡ k
small k l = rw (lt-ltb k 65536 l) refl

-- what a key or an included column becomes, of the place of its column
pub key_back : (cs : List ColumnPart) → AreBack cs → (key : KeyPart) → key_is_found cs key ≡ true → key_of (map column_data cs) (key_data cs key) ≡ key_told cs key
unfolding key_is_found key_of key_data key_pairs key_told text_in text_at flag_in with_member column_named
key_back cs back key found =
    let name : List ℕ = name_at cs key.column in
    let at = is_there _ key.column found in
    let place : column_named (map column_data cs) name ≡ key.column =
    ap (λ (o : Option ℕ). unwrap_or o 0) (same_place column_data (is_key_column (Some name)) (is_key_named name) cs (key_named_back name) ∙ at) in
    let below = below_length (is_key_named name) cs key.column at in
    let few = back.few in
    let told = ap (λ (k : ℕ). told_type (table_of (map column_data cs) k)) place ∙ type_back cs key.column back in
    let column = ap (below_or_zero 65536) place ∙ small key.column (omega arith) in
    λ i. record { column = column i; ctype = told i; desc = key.desc; nulls_first = key.nulls_first }

pub keys_back : (cs : List ColumnPart) → AreBack cs → (keys : List KeyPart) → list_all (key_is_found cs) keys ≡ true
    → map (key_of (map column_data cs)) (map (key_data cs) keys) ≡ map (key_told cs) keys
keys_back cs back [] found = refl
keys_back cs back (key ∷ keys) found =
    let parts = and_parts (key_is_found cs key) (list_all (key_is_found cs) keys) found in
    λ i. key_back cs back key parts.0 i ∷ keys_back cs back keys parts.1 i

pub more_back : (cs : List ColumnPart) → AreBack cs → (k : ℕ) → more_is_found cs k ≡ true → more_of (map column_data cs) (more_data cs k) ≡ more_told cs k
unfolding more_is_found more_of more_data more_told any_column_named
more_back cs back k found =
    let name : List ℕ = name_at cs k in
    let at = is_there _ k found in
    let place : any_column_named (map column_data cs) (Some name) ≡ k =
    ap (λ (o : Option ℕ). unwrap_or o 0) (same_place column_data (has_name (Some name)) (is_named name) cs (named_back name) ∙ at) in
    let below = below_length (is_named name) cs k at in
    let few = back.few in
    let told = ap (λ (k : ℕ). told_type (table_of (map column_data cs) k)) place ∙ type_back cs k back in
    let column = ap (below_or_zero 65536) place ∙ small k (omega arith) in
    λ i. record { column = column i; ctype = told i }

pub all_more_back : (cs : List ColumnPart) → AreBack cs → (ks : List ℕ) → list_all (more_is_found cs) ks ≡ true
    → map (more_of (map column_data cs)) (map (more_data cs) ks) ≡ map (more_told cs) ks
all_more_back cs back [] found = refl
all_more_back cs back (k ∷ ks) found =
    let parts = and_parts (more_is_found cs k) (list_all (more_is_found cs) ks) found in
    λ i. more_back cs back k parts.0 i ∷ all_more_back cs back ks parts.1 i

unique_back : (u : Unique) → cond (is_unique u) (cond (takes_nulls_as_equal u) NullsEqual NullsDistinct) No ≡ u
unique_back No = refl
unique_back NullsDistinct = refl
unique_back NullsEqual = refl

key_is_table : (cs : List ColumnPart) (key : KeyPart) → is_table (key_data cs key) ≡ true
unfolding key_data
key_is_table cs key = refl

pub index_back : (cs : List ColumnPart) → AreBack cs → (i : IndexPart) → index_is_found cs i ≡ true → index_of (map column_data cs) (index_data cs i) ≡ index_told cs i
unfolding index_is_found index_of index_data index_pairs index_told text_in text_at tables_at values_at unique_in flag_in with_member
index_back cs back index found =
    let parts = and_parts (list_all (key_is_found cs) index.keys.items) (list_all (more_is_found cs) index.more.items) found in
    let written : List Data = map (key_data cs) index.keys.items in
    let keys = ap (map (key_of (map column_data cs))) (tables_back written (are_tables (key_data cs) index.keys.items (key_is_table cs)))
    ∙ keys_back cs back index.keys.items parts.0 in
    let more = ap (map (more_of (map column_data cs))) (values_back (map (more_data cs) index.more.items)) ∙ all_more_back cs back index.more.items parts.1 in
    λ i. record {
      name = string_bytes index.name;
      file = string_bytes index.file;
      keys = keys i;
      more = more i;
      unique = unique_back index.unique i;
    }

pub indexes_back : (cs : List ColumnPart) → AreBack cs → (is : List IndexPart) → list_all (index_is_found cs) is ≡ true
    → map (index_of (map column_data cs)) (map (index_data cs) is) ≡ map (index_told cs) is
indexes_back cs back [] found = refl
indexes_back cs back (i ∷ is) found =
    let parts = and_parts (index_is_found cs i) (list_all (index_is_found cs) is) found in
    λ p. index_back cs back i parts.0 p ∷ indexes_back cs back is parts.1 p
