-- The indexes of a document that breaks no rule are sound.
use Rattle.std.proofs.Common.{◌≡◌, ℕ, suc, ◌≤◌, ◌<◌, ◌+◌, List, [], ◌∷◌, ◌++◌, length, map, Bool, true, false, Option, Some, None, is_some, unwrap_or, refl}
use Rattle.std.proofs.Common.{codes, arith, inl, inr, sym, ◌∙◌}
use Rattle.std.proofs.lemmas.Bool.{and_parts, cases_Bool, false≢true, lt-ltb, not-false}
use Rattle.std.proofs.lemmas.List.{length-map}
use Rattle.std.proofs.lemmas.Option.{slice_get-map}
use Rattle.std.specs.List.{AllByRecursion, list_all, list_any, position, position_or_len, slice_get}
use Rattle.std.specs.Option.{option_map_or}
use Rattle.key_orders.specs.Types.{may_be_key}
use Rattle.toml.specs.Data.{Data, Members, get_member, as_str, as_table}
use Rattle.case_rules.specs.declared.keys.Place.{Place}
use Rattle.case_rules.specs.declared.keys.Place.TheVariants.{Index, IndexKey}
use Rattle.case_rules.specs.declared.keys.Key.{Key}
use Rattle.case_rules.specs.declared.keys.Key.TheVariants.{IndexName, IndexFile, IndexKeys, IndexInclude, KeyColumn}
use Rattle.case_file.specs.Columns.{column_of, stored_type, told_type}
use Rattle.case_file.specs.Indexes.{any_column_named, column_named, index_of, key_of, more_of}
use Rattle.case_rules.specs.Keys.{keys_of, row_of}
use Rattle.case_rules.specs.Rules.{applies, breaks, has_name, is_fit, is_key_column, is_needed, is_out_of_range, is_told, is_unknown, key_type}
use Rattle.case_rules.specs.Rules.{key_types, has_key_type, names_no_column}
use Rattle.case_file.specs.Sound.{IsSoundIndex, IsSoundKey, IsSoundMore}
use Rattle.case_rules.specs.Spots.{element, element_spots, flat_map_from, in_table, include_spots, index_keys_spots, index_spots, key_spots, listed, unique_spots}
use Rattle.case_rules.specs.Tables.{is_table, tables_at, text_at, text_in, values_at}
use Rattle.case_file.proofs.Passing.{EachPasses, Passes, passes_after, passes_before}
use Rattle.case_file.proofs.Rows.{few_values, needed_key, needed_tables, text_found, text_in_range}
use Rattle.case_file.proofs.SoundColumns.{below-kept, found_or}

-- the first element that passes a test
record Found (test : Data → Bool) (ds : List Data) (n : ℕ) : Type 0 where
  value : Data
  at : slice_get ds n ≡ Some value
  passes : test value ≡ true
  below : n < length ds

found_next : (test : Data → Bool) (d : Data) (ds : List Data) (n : ℕ) → Found test ds n → Found test (d ∷ ds) (1 + n)
found_next test d ds n found =
    let next : 1 + n ≡ suc n = omega arith in
    record { value = found.value; at = rw next found.at; passes = found.passes; below = omega (arith, found.below) }

first_found : (test : Data → Bool) (ds : List Data) → list_any test ds ≡ true → Found test ds (position_or_len test ds)
first_found test [] any = absurd (false≢true any)
first_found test (d ∷ ds) any =
    elim (cases_Bool (test d)) [
      | inl holds ↦ rw holds (let here : Found test (d ∷ ds) 0 = record { value = d; at = refl; passes = holds; below = omega arith } in here)
      | inr fails ↦ rw fails (found_next test d ds (position_or_len test ds) (first_found test ds (rw fails at any)))
    ]

at_position : (test : Data → Bool) (ds : List Data) → position_or_len test ds < length ds → unwrap_or (position test ds) 0 ≡ position_or_len test ds
at_position test ds l = rw (lt-ltb (position_or_len test ds) (length ds) l) refl

-- a column that may be a key has a type that may be one
has_key_type-sound : (o : Option Members) → option_map_or has_key_type o false ≡ true → may_be_key (told_type o) ≡ true
unfolding key_type told_type
has_key_type-sound None may = absurd (false≢true may)
has_key_type-sound (Some t) may =
    found_or (is_told t) may_be_key key_types (stored_type t) refl (λ none. absurd (false≢true (sym none ∙ may)))

sound_key : (top : Members) (k j : ℕ) (d : Data) (t : Members) → as_table d ≡ Some t → length (tables_at (codes "column") top) ≤ 64
    → Passes top (listed (IndexKey k j) KeyColumn t)
    → IsSoundKey (map column_of (tables_at (codes "column") top)) (key_of (tables_at (codes "column") top) d)
unfolding breaks is_unknown is_needed row_of text_at text_in key_of column_named column_of
sound_key top k j d t is few passes =
    let columns : List Data = tables_at (codes "column") top in
    let name : List ℕ = text_in (Some t) (codes "column") in
    let test : Data → Bool = is_key_column (Some name) in
    let good = needed_key top (IndexKey k j) KeyColumn t passes refl in
    let told : text_at (codes "column") t ≡ Some name = text_found (get_member (codes "column") t) good.is_there good.kind in
    let any : list_any test columns ≡ true = rw told at (not-false (list_any (is_key_column (text_at (codes "column") t)) columns) passes.c5) in
    let found = first_found test columns any in
    let place : column_named columns name ≡ position_or_len test columns = at_position test columns found.below in
    let kept = below-kept 65536 (position_or_len test columns) (omega (arith, found.below)) in
    let at = slice_get-map column_of columns (position_or_len test columns) in
    record {
      is_there = rw (is, place, kept, at, found.at) refl;
      may_be_key = rw (is, place, found.at) (has_key_type-sound (as_table found.value) (and_parts (has_name (Some name) found.value) _ found.passes).1);
    }

key_at : (top : Members) (k j : ℕ) (d : Data) (o : Option Members) → as_table d ≡ o → is_some o ≡ true → length (tables_at (codes "column") top) ≤ 64
    → EachPasses top (in_table (IndexKey k j) o)
    → IsSoundKey (map column_of (tables_at (codes "column") top)) (key_of (tables_at (codes "column") top) d)
unfolding in_table keys_of
key_at top k j d None is there few all = absurd (false≢true there)
key_at top k j d (Some t) is there few all = sound_key top k j d t is few all.1.0

sound_keys : (top : Members) (k j : ℕ) (ds : List Data) → length (tables_at (codes "column") top) ≤ 64 → list_all is_table ds ≡ true
    → EachPasses top (flat_map_from (key_spots k) j ds)
    → AllByRecursion (IsSoundKey (map column_of (tables_at (codes "column") top))) (map (key_of (tables_at (codes "column") top)) ds)
sound_keys top k j [] few tables all = tt
sound_keys top k j (d ∷ ds) few tables all =
    let parts = and_parts (is_table d) (list_all is_table ds) tables in (
      key_at top k j d (as_table d) refl parts.0 few (passes_before top (key_spots k j d) _ all),
      sound_keys top k (j + 1) ds few parts.1 (passes_after top (key_spots k j d) _ all),
    )

-- an included column
sound_more : (top : Members) (p : Place) (key : Key) (j : ℕ) (d : Data) → length (tables_at (codes "column") top) ≤ 64
    → Passes top (element p key j d)
    → IsSoundMore (map column_of (tables_at (codes "column") top)) (more_of (tables_at (codes "column") top) d)
unfolding breaks names_no_column more_of any_column_named column_of
sound_more top p key j d few passes =
    let columns : List Data = tables_at (codes "column") top in
    let test : Data → Bool = has_name (as_str d) in
    let found = first_found test columns (not-false (list_any test columns) passes.c5) in
    let place : any_column_named columns (as_str d) ≡ position_or_len test columns = at_position test columns found.below in
    let kept = below-kept 65536 (position_or_len test columns) (omega (arith, found.below)) in
    let at = slice_get-map column_of columns (position_or_len test columns) in
    record { is_there = rw (place, kept, at, found.at) refl }

all_sound_more : (top : Members) (p : Place) (key : Key) (j : ℕ) (ds : List Data) → length (tables_at (codes "column") top) ≤ 64
    → EachPasses top (flat_map_from (element_spots p key) j ds)
    → AllByRecursion (IsSoundMore (map column_of (tables_at (codes "column") top))) (map (more_of (tables_at (codes "column") top)) ds)
all_sound_more top p key j [] few all = tt
all_sound_more top p key j (d ∷ ds) few all = (sound_more top p key j d few all.0, all_sound_more top p key (j + 1) ds few all.1)

few_included : (top : Members) (k : ℕ) (t : Members) → Passes top (listed (Index k) IndexInclude t) → length (values_at (codes "include") t) ≤ 24
unfolding breaks is_out_of_range applies row_of is_fit values_at
few_included top k t passes = few_values 24 (get_member (codes "include") t) passes.c4

sound_index : (top : Members) (k : ℕ) (d : Data) (o : Option Members) → as_table d ≡ o → is_some o ≡ true → length (tables_at (codes "column") top) ≤ 64
    → EachPasses top (in_table (Index k) o ++ index_keys_spots k o ++ include_spots k o ++ unique_spots k o)
    → IsSoundIndex (map column_of (tables_at (codes "column") top)) (index_of (tables_at (codes "column") top) d)
unfolding in_table keys_of index_of row_of is_needed is_fit tables_at
sound_index top k d None is there few all = absurd (false≢true there)
sound_index top k d (Some t) is there few all =
    let up_to_included = passes_before top (in_table (Index k) (Some t) ++ index_keys_spots k (Some t) ++ include_spots k (Some t)) (unique_spots k (Some t)) all in
    let up_to_keys = passes_before top (in_table (Index k) (Some t) ++ index_keys_spots k (Some t)) (include_spots k (Some t)) up_to_included in
    let included = passes_after top (in_table (Index k) (Some t) ++ index_keys_spots k (Some t)) (include_spots k (Some t)) up_to_included in
    let name = needed_key top (Index k) IndexName t up_to_keys.1.0 refl in
    let file = needed_key top (Index k) IndexFile t up_to_keys.1.1.0 refl in
    let keys = needed_key top (Index k) IndexKeys t up_to_keys.1.1.1.0 refl in
    let tables = needed_tables 1 8 (get_member (codes "key") t) keys.is_there keys.kind keys.range in
    rw is (record {
      name = text_in_range IndexName t 1 63 name refl refl;
      file = text_in_range IndexFile t 1 200 file refl refl;
      count = rw (length-map (tables_at (codes "key") t) (key_of (tables_at (codes "column") top))) tables.count;
      keys = sound_keys top k 0 (tables_at (codes "key") t) few tables.are_tables up_to_keys.1.1.1.1;
      few_more = rw (length-map (values_at (codes "include") t) (more_of (tables_at (codes "column") top))) (few_included top k t included.0);
      more = all_sound_more top (Index k) IndexInclude 0 (values_at (codes "include") t) few included.1;
    })

pub sound_indexes : (top : Members) (k : ℕ) (ds : List Data) → length (tables_at (codes "column") top) ≤ 64 → list_all is_table ds ≡ true
    → EachPasses top (flat_map_from index_spots k ds)
    → AllByRecursion (IsSoundIndex (map column_of (tables_at (codes "column") top))) (map (index_of (tables_at (codes "column") top)) ds)
sound_indexes top k [] few tables all = tt
sound_indexes top k (d ∷ ds) few tables all =
    let parts = and_parts (is_table d) (list_all is_table ds) tables in (
      sound_index top k d (as_table d) refl parts.0 few (passes_before top (index_spots k d) _ all),
      sound_indexes top (k + 1) ds few parts.1 (passes_after top (index_spots k d) _ all),
    )
