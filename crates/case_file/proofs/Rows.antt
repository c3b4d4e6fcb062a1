-- What a key has whose spot passes the rules: if it is needed it is there, of its kind and in its range.
use Rattle.std.proofs.Common.{◌≡◌, ℕ, ℤ, pos, negsuc, ◌<◌, ◌≤◌, List, [], length, Bool, true, false, not, cond, nat_lt, Option, Some, None, is_some, option_and_then}
use Rattle.std.proofs.Common.{unwrap_or, refl, sym, arith}
use Rattle.std.proofs.lemmas.Bool.{false≢true, not-false}
use Rattle.std.proofs.lemmas.Bool.Decides.{nat_tests}
use Rattle.std.specs.Int.{is_in_range, IsInRange}
use Rattle.std.specs.List.{list_all}
use Rattle.std.specs.Option.{option_map_or}
use Rattle.toml.specs.Data.{Data, string, integer, float, boolean, datetime, array, table, Members, get_member, as_integer, as_str, as_table}
use Rattle.case_rules.specs.declared.keys.Place.{Place}
use Rattle.case_rules.specs.declared.keys.Key.{Key}
use Rattle.case_rules.specs.declared.keys.Kind.TheVariants.{Integer, Text, Table, Tables}
use Rattle.case_rules.specs.declared.keys.Need.{Need}
use Rattle.case_rules.specs.declared.keys.Need.TheVariants.{Always, Optional, WithToastFile, WithToastOid, OfFixed, OfStored}
use Rattle.case_rules.specs.declared.keys.Range.TheVariants.{Between, Alignment}
use Rattle.case_rules.specs.Keys.{row_of}
use Rattle.case_rules.specs.Rules.{applies, breaks, fails, has_other_kind, is_absent, is_align, is_between, is_fit, is_needed, is_of, is_out_of_range}
use Rattle.case_rules.specs.Rules.{number_is_in_range}
use Rattle.case_rules.specs.Spots.{listed}
use Rattle.case_rules.specs.Tables.{as_tables, below_2_32, has, is_table, number_at, tables_in, text_at, text_in, values_in, values_of}
use Rattle.case_file.proofs.Passing.{Passes}

pub in_range : (low high n : ℕ) → is_in_range low high n ≡ true → IsInRange low high n
in_range low high n h = (grind (arith, nat_tests), grind (arith, nat_tests))

-- a needed key is there, of its kind and in its range
pub record IsGood (key : Key) (t : Members) : Type 0 where
  pub is_there : not (is_some (get_member (row_of key).word t)) ≡ false
  pub kind : fails (is_of (row_of key).kind) (get_member (row_of key).word t) ≡ false
  pub range : fails (is_fit (row_of key).range t) (get_member (row_of key).word t) ≡ false

applies-needed : (need : Need) (t : Members) → is_needed need t ≡ true → applies need t ≡ true
unfolding is_needed applies
applies-needed Always t h = refl
applies-needed Optional t h = refl
applies-needed WithToastFile t h = refl
applies-needed WithToastOid t h = refl
applies-needed OfFixed t h = h
applies-needed OfStored t h = h

pub needed_key : (top : Members) (p : Place) (key : Key) (t : Members) → Passes top (listed p key t) → is_needed (row_of key).need t ≡ true → IsGood key t
unfolding breaks is_absent has_other_kind is_out_of_range has
needed_key top p key t passes needed = record {
  is_there = rw needed at passes.c2;
  kind = passes.c3;
  range = rw (applies-needed (row_of key).need t needed) at passes.c4;
}

-- a number
abbrev number : Option Data → ℕ
number o = option_map_or below_2_32 (option_and_then as_integer o) 0

small : (low high : ℕ) (z : ℤ) → high < 4294967296 → number_is_in_range low high z ≡ true → IsInRange low high (below_2_32 z)
small low high (pos n) l h =
    let within = in_range low high n h in
    let fits : nat_lt n 4294967296 ≡ true = grind (arith, nat_tests) in
    rw fits within
small low high (negsuc n) l h = absurd (false≢true h)

number_found : (low high : ℕ) (o : Option Data) → high < 4294967296 → not (is_some o) ≡ false → fails (is_of Integer) o ≡ false
    → fails (is_between low high) o ≡ false
    → IsInRange low high (number o)
unfolding is_of is_between
number_found low high None l there kind range = absurd (false≢true (sym there))
number_found low high (Some (integer z)) l there kind range = small low high z l (not-false (number_is_in_range low high z) range)
number_found low high (Some (string s)) l there kind range = absurd (false≢true (sym kind))
number_found low high (Some (float x)) l there kind range = absurd (false≢true (sym kind))
number_found low high (Some (boolean b)) l there kind range = absurd (false≢true (sym kind))
number_found low high (Some (datetime dt)) l there kind range = absurd (false≢true (sym kind))
number_found low high (Some (array ds)) l there kind range = absurd (false≢true (sym kind))
number_found low high (Some (table ms)) l there kind range = absurd (false≢true (sym kind))

pub number_in_range : (key : Key) (t : Members) (low high : ℕ) → IsGood key t → (row_of key).kind ≡ Integer → (row_of key).range ≡ Between low high
    → high < 4294967296
    → IsInRange low high (number_at (row_of key).word t)
unfolding number_at is_fit
number_in_range key t low high good kind range l =
    number_found low high (get_member (row_of key).word t) l good.is_there (rw kind at good.kind) (rw range at good.range)

-- a number that may be left out
pub optional_number : (low high default : ℕ) (o : Option Data) → high < 4294967296 → IsInRange low high default → fails (is_of Integer) o ≡ false
    → fails (is_between low high) o ≡ false
    → IsInRange low high (cond (is_some o) (number o) default)
optional_number low high default None l d kind range = d
optional_number low high default (Some d) l within kind range = number_found low high (Some d) l refl kind range

-- an alignment
pub align_found : (t : Members) (o : Option Data) → not (is_some o) ≡ false → fails (is_of Integer) o ≡ false → fails (is_fit Alignment t) o ≡ false
    → is_align t (number o) ≡ true
unfolding is_of is_fit
align_found t None there kind range = absurd (false≢true (sym there))
align_found t (Some (integer z)) there kind range = not-false (is_align t (below_2_32 z)) range
align_found t (Some (string s)) there kind range = absurd (false≢true (sym kind))
align_found t (Some (float x)) there kind range = absurd (false≢true (sym kind))
align_found t (Some (boolean b)) there kind range = absurd (false≢true (sym kind))
align_found t (Some (datetime dt)) there kind range = absurd (false≢true (sym kind))
align_found t (Some (array ds)) there kind range = absurd (false≢true (sym kind))
align_found t (Some (table ms)) there kind range = absurd (false≢true (sym kind))

-- a text
pub text_found : (o : Option Data) → not (is_some o) ≡ false → fails (is_of Text) o ≡ false
    → option_and_then as_str o ≡ Some (unwrap_or (option_and_then as_str o) [])
unfolding is_of
text_found None there kind = absurd (false≢true (sym there))
text_found (Some (string s)) there kind = refl
text_found (Some (integer z)) there kind = absurd (false≢true (sym kind))
text_found (Some (float x)) there kind = absurd (false≢true (sym kind))
text_found (Some (boolean b)) there kind = absurd (false≢true (sym kind))
text_found (Some (datetime dt)) there kind = absurd (false≢true (sym kind))
text_found (Some (array ds)) there kind = absurd (false≢true (sym kind))
text_found (Some (table ms)) there kind = absurd (false≢true (sym kind))

pub text_fits : (low high : ℕ) (o : Option Data) → not (is_some o) ≡ false → fails (is_of Text) o ≡ false → fails (is_between low high) o ≡ false
    → IsInRange low high (length (unwrap_or (option_and_then as_str o) []))
unfolding is_of is_between
text_fits low high None there kind range = absurd (false≢true (sym there))
text_fits low high (Some (string s)) there kind range = in_range low high (length s) (not-false (is_in_range low high (length s)) range)
text_fits low high (Some (integer z)) there kind range = absurd (false≢true (sym kind))
text_fits low high (Some (float x)) there kind range = absurd (false≢true (sym kind))
text_fits low high (Some (boolean b)) there kind range = absurd (false≢true (sym kind))
text_fits low high (Some (datetime dt)) there kind range = absurd (false≢true (sym kind))
text_fits low high (Some (array ds)) there kind range = absurd (false≢true (sym kind))
text_fits low high (Some (table ms)) there kind range = absurd (false≢true (sym kind))

pub text_in_range : (key : Key) (t : Members) (low high : ℕ) → IsGood key t → (row_of key).kind ≡ Text → (row_of key).range ≡ Between low high
    → IsInRange low high (length (text_in (Some t) (row_of key).word))
unfolding text_in text_at is_fit
text_in_range key t low high good kind range = text_fits low high (get_member (row_of key).word t) good.is_there (rw kind at good.kind) (rw range at good.range)

-- a table
pub table_found : (o : Option Data) → not (is_some o) ≡ false → fails (is_of Table) o ≡ false → is_some (option_and_then as_table o) ≡ true
unfolding is_of
table_found None there kind = absurd (false≢true (sym there))
table_found (Some d) there kind = not-false (is_some (as_table d)) kind

-- an array of tables
all_tables : (ds : List Data) (b : Bool) → list_all is_table ds ≡ b → is_some (cond b (Some ds) None) ≡ true
    → (list_all is_table ds ≡ true) × (cond b (Some ds) None ≡ Some ds)
all_tables ds true h some = (h, refl)
all_tables ds false h some = absurd (false≢true some)

pub record HasTables (low high : ℕ) (o : Option Data) : Type 0 where
  pub are_tables : list_all is_table (tables_in o) ≡ true
  pub count : IsInRange low high (length (tables_in o))

pub tables_found : (low high : ℕ) (d : Data) → fails (is_of Tables) (Some d) ≡ false → fails (is_between low high) (Some d) ≡ false
    → HasTables low high (Some d)
unfolding is_of is_between as_tables
tables_found low high (array ds) kind range =
    let all = all_tables (values_of ds) (list_all is_table (values_of ds)) refl (not-false _ kind) in
    record { are_tables = rw all.1 all.0; count = rw all.1 (in_range low high (length (values_of ds)) (not-false _ range)) }
tables_found low high (string s) kind range = absurd (false≢true (sym kind))
tables_found low high (integer z) kind range = absurd (false≢true (sym kind))
tables_found low high (float x) kind range = absurd (false≢true (sym kind))
tables_found low high (boolean b) kind range = absurd (false≢true (sym kind))
tables_found low high (datetime dt) kind range = absurd (false≢true (sym kind))
tables_found low high (table ms) kind range = absurd (false≢true (sym kind))

pub needed_tables : (low high : ℕ) (o : Option Data) → not (is_some o) ≡ false → fails (is_of Tables) o ≡ false → fails (is_between low high) o ≡ false
    → HasTables low high o
needed_tables low high None there kind range = absurd (false≢true (sym there))
needed_tables low high (Some d) there kind range = tables_found low high d kind range

pub optional_tables : (high : ℕ) (o : Option Data) → fails (is_of Tables) o ≡ false → fails (is_between 0 high) o ≡ false → HasTables 0 high o
optional_tables high None kind range = record { are_tables = refl; count = (omega arith, omega arith) }
optional_tables high (Some d) kind range = tables_found 0 high d kind range

-- the values of an array that may be left out
pub few_values : (high : ℕ) (o : Option Data) → fails (is_between 0 high) o ≡ false → length (values_in o) ≤ high
unfolding is_between
few_values high None range = omega arith
few_values high (Some (array ds)) range = (in_range 0 high (length (values_of ds)) (not-false _ range)).1
few_values high (Some (string s)) range = omega arith
few_values high (Some (integer z)) range = omega arith
few_values high (Some (float x)) range = omega arith
few_values high (Some (boolean b)) range = omega arith
few_values high (Some (datetime dt)) range = omega arith
few_values high (Some (table ms)) range = omega arith
