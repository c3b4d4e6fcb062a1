-- The rows of a TOAST table.
use Rattle.std.specs.Prelude.{ℕ, pos, ◌==◌, if◌then◌else◌, List, [], ◌∷◌, length, Option, Some, None}
use Rattle.std.specs.Int.{cast_signed, w32}
use Rattle.std.specs.Option.{option_and_then, option_map}
use Rattle.page_layout.specs.Page.{u32_at}
use Rattle.key_orders.specs.declared.columns.ColType.{ColType}
use Rattle.key_orders.specs.declared.columns.ColType.TheVariants.{Bytea, Fixed, Int4}
use Rattle.varlena_attrs.specs.Forms.{Attribute, External, Missing, Null, Packed, Plain}
use Rattle.toast_chunks.specs.declared.rows.ChunkRow.{ChunkRow}

-- chunk_id, chunk_seq and chunk_data
abbrev pub toast_columns : List ColType
toast_columns = Fixed 4 4 ∷ Int4 ∷ Bytea ∷ []

-- the bytes of a value, where they are plain
abbrev pub content_in : Attribute → Option (List ℕ)
content_in (Plain bytes) = Some bytes
content_in Null = None
content_in Missing = None
content_in (Packed piece) = None
content_in (External pointer) = None

-- the number in four bytes
abbrev number_of : List ℕ → Option ℕ
number_of bytes = if length bytes == 4 then Some (u32_at bytes 0) else None

unfoldable pub number_in : Attribute → Option ℕ
number_in a = option_and_then number_of (content_in a)

-- a chunk without a number has no size
abbrev row_by : ℕ → Option ℕ → Option (List ℕ) → ChunkRow
row_by id None content = record { id = id; seq = pos 0; size = None }
row_by id (Some seq) content = record { id = id; seq = cast_signed w32 seq; size = option_map length content }

-- what a row says of its chunk; a row without chunk_id belongs to no value
unfoldable pub row_of : List Attribute → Option ChunkRow
row_of (id ∷ seq ∷ content ∷ []) = option_map (λ n. row_by n (number_in seq) (content_in content)) (number_in id)
row_of [] = None
row_of (id ∷ []) = None
row_of (id ∷ seq ∷ []) = None
row_of (id ∷ seq ∷ content ∷ a ∷ list) = None
