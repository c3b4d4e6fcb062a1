-- The columns of a document that breaks no rule. Each definition gives something for any document, so that building
-- needs no
-- premise.
use Rattle.std.specs.Prelude.{ℕ, List, [], if◌then◌else◌, Option, Some, None, option_and_then, unwrap_or, nat_lt, codes}
use Rattle.std.specs.Result.{result_unwrap_or}
use Rattle.hex.specs.Hex.{decode_of}
use Rattle.key_orders.specs.declared.columns.ColType.{ColType}
use Rattle.key_orders.specs.declared.columns.ColType.TheVariants.{Text, Fixed, Varlena}
use Rattle.key_orders.specs.declared.columns.Value.{Value}
use Rattle.key_orders.specs.declared.columns.Value.TheVariants.{Null}
use Rattle.key_orders.specs.Values.{value_in}
use Rattle.toml.specs.Data.{Data, Members, as_table}
use Rattle.case_file.specs.declared.case.Column.{Column}
use Rattle.case_rules.specs.Rules.{has_type, key_type}
use Rattle.case_rules.specs.Tables.{number_at, text_at}

-- a number below a limit, and 0 for any other
abbrev pub below_or_zero : ℕ → ℕ → ℕ
below_or_zero limit n = if nat_lt n limit then n else 0

-- the type of a column that tells its storage
unfoldable pub stored_type : Members → ColType
stored_type t =
    let align = below_or_zero 256 (number_at (codes "align") t) in
    if has_type (codes "fixed") t then Fixed (below_or_zero 65536 (number_at (codes "len") t)) align else Varlena align

unfoldable pub told_type : Option Members → ColType
told_type (Some t) = unwrap_or (key_type t) (stored_type t)
told_type None = Text

-- the bytes that hexadecimal digits write
unfoldable pub decoded : List ℕ → List ℕ
decoded text = result_unwrap_or (decode_of text) []

-- the value that stands for a column in tuples that were written before it was added
unfoldable pub missing_of : ColType → Option (List ℕ) → Value
missing_of ctype (Some text) = value_in ctype (decoded text)
missing_of ctype None = Null

unfoldable pub column_of : Data → Column
column_of d =
    let ctype = told_type (as_table d) in
    record { ctype = ctype; missing = missing_of ctype (option_and_then (text_at (codes "missing")) (as_table d)) }
