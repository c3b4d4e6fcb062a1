-- What the code reads of a value or a table, beside the document's words.
use Rattle.std.proofs.Common.{◌≡◌, List, [], ◌∷◌, Bool, ◌||◌, ℕ, ◌+◌, cond, Vec, Global, length, suc, take, map, String, string_bytes, BTreeMap, not, Option}
use Rattle.std.proofs.Common.{Some, None, is_some, option_map, refl, ap}
use Rattle.std.proofs.lemmas.List.{take-map, take_all, length-map}
use Rattle.std.proofs.lemmas.Option.{slice_get-map}
use Rattle.std.proofs.lemmas.List.Folds.{list_all-map}
use Rattle.std.specs.BTreeMap.{keys}
use Rattle.std.specs.Int.{is_in_range}
use Rattle.std.specs.List.{list_all, list_any, position, position_or_len, slice_get}
use Rattle.std.specs.Map.{keys_of}
use Rattle.toml.specs.declared.value.Value.{Value, Array}
use Rattle.toml.specs.Data.{Data}
use Rattle.toml.specs.View.{view, items_view, members_view, table_view}
use Rattle.toml.proofs.Views.{view-Array}
use Rattle.case_rules.specs.declared.keys.Place.{Place}
use Rattle.case_rules.specs.Rules.{has_name, has_unlisted, is_between, is_key_column, is_listed, member_names}
use Rattle.case_rules.specs.Tables.{is_table, values_of}

pub values_of-view : (vs : List Value) → values_of (items_view vs) ≡ map view vs
values_of-view [] = refl
values_of-view (v ∷ vs) = ap (λ ds. view v ∷ ds) (values_of-view vs)

length-view : (vs : List Value) → length (values_of (items_view vs)) ≡ length vs
length-view [] = refl
length-view (v ∷ vs) = ap suc (length-view vs)

pub is_some-map : {A B : Type 0} (f : A → B) (o : Option A) → is_some (option_map f o) ≡ is_some o
is_some-map f None = refl
is_some-map f (Some x) = refl

pub list_all-view : (vs : List Value) → list_all is_table (map view vs) ≡ list_all (λ v. is_table (view v)) vs
list_all-view vs = list_all-map is_table view vs

pub is_between-view : (low high : ℕ) (v : Vec Value Global) → is_between low high (view (Array v)) ≡ is_in_range low high (length v.items)
unfolding is_between
is_between-view low high v = rw (view-Array v, length-view v.items)

pub take-view : (n : ℕ) (vs : List Value) → take n (map view vs) ≡ map view (take n vs)
take-view n vs = take-map view n vs

list_any-view : (test : Data → Bool) (vs : List Value) → list_any test (map view vs) ≡ list_any (λ v. test (view v)) vs
list_any-view test [] = refl
list_any-view test (v ∷ vs) = ap (λ b. test (view v) || b) (list_any-view test vs)

pub has_name-view : (name : Option (List ℕ)) (vs : List Value) → list_any (has_name name) (map view vs) ≡ list_any (λ v. has_name name (view v)) vs
has_name-view name vs = list_any-view (has_name name) vs

pub is_key_column-view : (name : Option (List ℕ)) (vs : List Value)
    → list_any (is_key_column name) (map view vs) ≡ list_any (λ v. is_key_column name (view v)) vs
is_key_column-view name vs = list_any-view (is_key_column name) vs

list_any-names : (test : List ℕ → Bool) (es : List (String Global × Value))
    → list_any test (member_names (members_view es)) ≡ list_any (λ k. test (string_bytes k)) (keys_of es)
list_any-names test [] = refl
list_any-names test (e ∷ es) = ap (λ b. test (string_bytes e.0) || b) (list_any-names test es)

pub has_unlisted-view : (p : Place) (m : BTreeMap (String Global) Value)
    → has_unlisted p (table_view m) ≡ list_any (λ k. not (is_listed p (table_view m) (string_bytes k))) (keys m)
unfolding has_unlisted
has_unlisted-view p m = list_any-names (λ name. not (is_listed p (table_view m) name)) m.entries

position_or_len-view : (test : Data → Bool) (vs : List Value) → position_or_len test (map view vs) ≡ position_or_len (λ v. test (view v)) vs
position_or_len-view test [] = refl
position_or_len-view test (v ∷ vs) = ap (λ n. cond (not (test (view v))) (1 + n) 0) (position_or_len-view test vs)

position-any : (test : Data → Bool) (vs : List Value) → position test (map view vs) ≡ position (λ v. test (view v)) vs
position-any test vs = rw (position_or_len-view test vs, length-map vs view) refl

pub position-view : (name : List ℕ) (vs : List Value)
    → position (is_key_column (Some name)) (map view vs) ≡ position (λ v. is_key_column (Some name) (view v)) vs
position-view name vs = position-any (is_key_column (Some name)) vs

pub position-named : (name : Option (List ℕ)) (vs : List Value) → position (has_name name) (map view vs) ≡ position (λ v. has_name name (view v)) vs
position-named name vs = position-any (has_name name) vs

pub slice_get-view : (vs : List Value) (k : ℕ) → slice_get (map view vs) k ≡ option_map view (slice_get vs k)
slice_get-view vs k = slice_get-map view vs k

pub ruleset view_laws = (values_of-view, list_all-view)

pub ruleset range_laws = (is_between-view)

pub ruleset found_laws = (is_some-map)

pub ruleset take_laws = (take-view, take_all)

pub ruleset any_laws = (has_name-view, is_key_column-view)

pub ruleset names_laws = (has_unlisted-view)

pub ruleset position_laws = (position-view, position-named)

pub ruleset gets_laws = (slice_get-view)
