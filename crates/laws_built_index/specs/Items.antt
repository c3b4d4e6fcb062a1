-- The items of an index that is built: their bytes, and what may be laid as one.
use Rattle.std.specs.Prelude.{◌≡◌, ◌≢◌, ◌≤◌, ℕ, false, List, [], ◌∷◌, ◌++◌, length, map, take, None, Ok}
use Rattle.std.specs.List.{All}
use Rattle.laws_search.specs.Keys.{Entry, Separator}
use Rattle.key_orders.specs.declared.columns.ColType.{ColType}
use Rattle.key_orders.specs.declared.columns.KeySpec.{KeySpec}
use Rattle.key_orders.specs.declared.columns.Value.{Value}
use Rattle.key_orders.specs.declared.more.MoreSpec.{MoreSpec}
use Rattle.key_orders.specs.declared.Tid.{Tid}
use Rattle.key_attrs.specs.Keyed.{key_types, more_types}
use Rattle.bt_tuples.specs.declared.items.Spot3.TheVariants.{LeafItem}
use Rattle.bt_tuples.specs.Items.{Item, meaning_of, tuple_outcome}
use Rattle.bt_tuples.specs.Rules.{are_not_rising, includes_some}
use Rattle.bt_image.specs.Image.{LeafEntry, entries_in}
use Rattle.page_write.specs.Bodies.{MayAllStand, body_flags, index_body}
use Rattle.page_write.specs.Fields.{IsTid, MayKeep}
use Rattle.page_write.specs.Posting.{posting_tuple}
use Rattle.page_write.specs.Tuples.{pivot_tuple, plain_tuple}

-- The bytes

-- the types of an entry's values: those of the key, and the included ones
abbrev pub entry_types : List KeySpec → List MoreSpec → List ColType
entry_types specs more = key_types specs ++ more_types more

-- an entry with its included values, as an item of its own
abbrev pub plain_item : List KeySpec → List MoreSpec → Entry Value Tid → (included : List Value) → List ℕ
plain_item specs more e included =
    plain_tuple e.tid (body_flags (entry_types specs more) (e.values ++ included))
    (index_body (entry_types specs more) (e.values ++ included))

abbrev pub tids_of : List LeafEntry → List Tid
tids_of es = map (λ e. e.entry.tid) es

-- an item of a leaf: one entry is a plain item, more are a posting tuple with the values of the first
abbrev pub leaf_item : List KeySpec → List MoreSpec → List LeafEntry → List ℕ
leaf_item specs more [] = []
leaf_item specs more (e ∷ []) = plain_item specs more e.entry e.more
leaf_item specs more (e ∷ d ∷ es) =
    posting_tuple (tids_of (e ∷ d ∷ es)) (body_flags (entry_types specs more) (e.entry.values ++ e.more))
    (index_body (entry_types specs more) (e.entry.values ++ e.more))

-- the types of the values that a separator keeps
abbrev pub kept_types : List KeySpec → Separator Value Tid → List ColType
kept_types specs s = key_types (take (length s.kept) specs)

-- a separator with its downlink, 0 in a high key
abbrev pub pivot_item : List KeySpec → (down : ℕ) → Separator Value Tid → List ℕ
pivot_item specs down s =
    pivot_tuple down (length s.kept) s.tid (body_flags (kept_types specs s) s.kept)
    (index_body (kept_types specs s) s.kept)

-- What may be laid

-- an entry whose values may stand in their columns, and whose TID fits its fields
pub record MayBeLaid (specs : List KeySpec) (more : List MoreSpec) (e : LeafEntry) : Type 0 where
  pub whole : length e.entry.values ≡ length specs
  pub stand : MayAllStand (entry_types specs more) (e.entry.values ++ e.more)
  pub few : length (e.entry.values ++ e.more) ≤ 32
  pub tid : IsTid e.entry.tid
  pub some_item : e.entry.tid.item ≢ 0
  pub alive : e.entry.killed ≡ false

-- the entry has the values of another and nothing more, and isn't killed
pub record IsLike (e d : LeafEntry) : Type 0 where
  pub values : e.entry.values ≡ d.entry.values
  pub alone : d.more ≡ []
  pub alive : d.entry.killed ≡ false

-- several entries of one key, whose TIDs rise
pub record IsRun (more : List MoreSpec) (e : LeafEntry) (es : List LeafEntry) : Type 0 where
  pub includes : includes_some more ≡ false
  pub like : All (IsLike e) es
  pub fit : All IsTid (tids_of es)
  pub rise : are_not_rising None (tids_of es) ≡ false

abbrev pub MayBeItem : List KeySpec → List MoreSpec → List LeafEntry → Type 0
MayBeItem specs more [] = ⊥
MayBeItem specs more (e ∷ []) = MayBeLaid specs more e × (length (leaf_item specs more (e ∷ [])) ≤ 8160)
MayBeItem specs more (e ∷ d ∷ es) =
    MayBeLaid specs more e × IsRun more e (e ∷ d ∷ es) × (length (leaf_item specs more (e ∷ d ∷ es)) ≤ 8160)

-- a separator that keeps values which may stand in the first columns
pub record MaySplit (specs : List KeySpec) (s : Separator Value Tid) : Type 0 where
  pub keeps : MayKeep (length specs) (length s.kept) s.tid
  pub stand : MayAllStand (kept_types specs s) s.kept
  pub few : length s.kept ≤ 32
  pub short : length (index_body (kept_types specs s) s.kept) ≤ 8160

-- What they mean

-- an item that breaks none of B6 to B9, is not compressed, and has these entries
pub record IsRead (specs : List KeySpec) (more : List MoreSpec) (tuple : List ℕ)
    (es : List LeafEntry) : Type 0 where
  pub item : Item
  pub outcome : tuple_outcome specs more LeafItem tuple false ≡ Ok item
  pub meaning : meaning_of specs more tuple false ≡ item
  pub entries : entries_in item ≡ es
