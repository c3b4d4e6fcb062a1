-- The document that tells the parts of a case.
use Rattle.std.specs.Prelude.{ℕ, pos, List, [], ◌∷◌, ◌++◌, map, Bool, true, false, Option, Some, None, option_map}
use Rattle.std.specs.Prelude.{codes, String, string_bytes, Vec}
use Rattle.std.specs.declared.alloc.Global.{Global}
use Rattle.std.specs.Cmp.Lexicographic.{slice_cmp}
use Rattle.std.specs.Ordering.{match_ordering, nat_cmp}
use Rattle.hex.specs.Hex.{encode_lower}
use Rattle.toml.specs.Data.{Data, string, integer, boolean, array, table, Members, no_members, member}
use Rattle.toml.specs.View.{items_of}
use Rattle.key_orders.specs.declared.columns.ColType.{ColType}
use Rattle.key_orders.specs.declared.columns.ColType.TheVariants.{Fixed, Varlena}
use Rattle.case_rules.specs.Rules.{word_of}
use Rattle.case_file.specs.declared.case.Unique.{Unique}
use Rattle.case_file.specs.declared.case.Unique.TheVariants.{No, NullsDistinct, NullsEqual}
use Rattle.case_text.specs.declared.parts.ClusterPart.{ClusterPart}
use Rattle.case_text.specs.declared.parts.ColumnPart.{ColumnPart}
use Rattle.case_text.specs.declared.parts.IndexPart.{IndexPart}
use Rattle.case_text.specs.declared.parts.KeyPart.{KeyPart}
use Rattle.case_text.specs.declared.parts.TablePart.{TablePart}
use Rattle.case_text.specs.declared.parts.ToastPart.{ToastPart}
use Rattle.case_text.specs.Told.{name_at}

-- the members with this value at a key, in the order of the keys
unfoldable pub with_member : List ℕ → Data → Members → Members
with_member k d no_members = member k d no_members
with_member k d (member l e ms) =
    match_ordering (slice_cmp nat_cmp k l) (member k d (member l e ms)) (member l d ms)
    (member l e (with_member k d ms))

abbrev pub Pair : Type 0
Pair = List ℕ × Data

-- the members with each of some pairs
abbrev pub with_pairs : List Pair → Members → Members
with_pairs [] ms = ms
with_pairs (pair ∷ pairs) ms = with_pairs pairs (with_member pair.0 pair.1 ms)

abbrev pub members_with : List Pair → Members
members_with pairs = with_pairs pairs no_members

abbrev pub number : ℕ → Data
number n = integer (pos n)

abbrev pub text : String Global → Data
text s = string (string_bytes s)

abbrev pub values : List Data → Data
values ds = array (items_of ds)

unfoldable pub cluster_pairs : ClusterPart → List Pair
cluster_pairs c =
    (codes "next_xid", number c.counters.next_xid)
    ∷ (codes "oldest_xid", number c.counters.oldest_xid)
    ∷ (codes "next_multi", number c.counters.next_multi)
    ∷ (codes "oldest_multi", number c.counters.oldest_multi)
    ∷ (codes "next_member", number c.counters.next_member)
    ∷ (codes "xact", text c.xact)
    ∷ (codes "offsets", text c.offsets)
    ∷ (codes "members", text c.members)
    ∷ []

-- the TOAST table, where there is one
unfoldable pub toast_pairs : Option ToastPart → List Pair
toast_pairs (Some t) = (codes "toast_file", text t.file) ∷ (codes "toast_oid", number t.oid) ∷ []
toast_pairs None = []

unfoldable pub heap_pairs : TablePart → List Pair
heap_pairs t = (codes "file", text t.file) ∷ toast_pairs t.toast

-- a pair for a value that is there
abbrev pub number_pairs : List ℕ → Option ℕ → List Pair
number_pairs k (Some n) = (k, number n) ∷ []
number_pairs k None = []

abbrev pub text_pairs : List ℕ → Option (List ℕ) → List Pair
text_pairs k (Some s) = (k, string s) ∷ []
text_pairs k None = []

-- the length of a type that is told by it, and the alignment
abbrev pub told_len : ColType → Option ℕ
told_len (Fixed len align) = Some len
told_len _ = None

abbrev pub told_align : ColType → Option ℕ
told_align (Fixed len align) = Some align
told_align (Varlena align) = Some align
told_align _ = None

-- the bytes of a missing value, in hexadecimal
abbrev pub missing_digits : Option (Vec ℕ Global) → Option (List ℕ)
missing_digits missing = option_map (λ bytes. encode_lower bytes.items) missing

unfoldable pub column_pairs : ColumnPart → List Pair
column_pairs c =
    ((codes "name", text c.name) ∷ (codes "type", string (word_of c.ctype)) ∷ [])
    ++ number_pairs (codes "len") (told_len c.ctype)
    ++ number_pairs (codes "align") (told_align c.ctype)
    ++ text_pairs (codes "missing") (missing_digits c.missing)

unfoldable pub column_data : ColumnPart → Data
column_data c = table (members_with (column_pairs c))

unfoldable pub key_pairs : List ColumnPart → KeyPart → List Pair
key_pairs columns key =
    (codes "column", string (name_at columns key.column))
    ∷ (codes "desc", boolean key.desc)
    ∷ (codes "nulls_first", boolean key.nulls_first)
    ∷ []

unfoldable pub key_data : List ColumnPart → KeyPart → Data
key_data columns key = table (members_with (key_pairs columns key))

unfoldable pub more_data : List ColumnPart → ℕ → Data
more_data columns k = string (name_at columns k)

abbrev pub is_unique : Unique → Bool
is_unique No = false
is_unique NullsDistinct = true
is_unique NullsEqual = true

abbrev pub takes_nulls_as_equal : Unique → Bool
takes_nulls_as_equal No = false
takes_nulls_as_equal NullsDistinct = false
takes_nulls_as_equal NullsEqual = true

unfoldable pub index_pairs : List ColumnPart → IndexPart → List Pair
index_pairs columns i =
    (codes "name", text i.name)
    ∷ (codes "file", text i.file)
    ∷ (codes "key", values (map (key_data columns) i.keys.items))
    ∷ (codes "include", values (map (more_data columns) i.more.items))
    ∷ (codes "unique", boolean (is_unique i.unique))
    ∷ (codes "nulls_not_distinct", boolean (takes_nulls_as_equal i.unique))
    ∷ []

unfoldable pub index_data : List ColumnPart → IndexPart → Data
index_data columns i = table (members_with (index_pairs columns i))

unfoldable pub top_pairs : ClusterPart → TablePart → List Pair
top_pairs c t =
    (codes "segment_blocks", number c.segment_blocks)
    ∷ (codes "cluster", table (members_with (cluster_pairs c)))
    ∷ (codes "heap", table (members_with (heap_pairs t)))
    ∷ (codes "column", values (map column_data t.columns.items))
    ∷ (codes "index", values (map (index_data t.columns.items) t.indexes.items))
    ∷ []

-- the document
unfoldable pub document_told : ClusterPart → TablePart → Members
document_told c t = members_with (top_pairs c t)
