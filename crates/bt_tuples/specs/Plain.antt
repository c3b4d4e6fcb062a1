-- A plain tuple of a leaf without null bits, as nearly all are.
use Rattle.std.specs.Prelude.{◌≡◌, ◌≢◌, ◌<◌, ℕ, Bool, true, false, List, [], ◌∷◌, ◌++◌, length, None, Ok}
use Rattle.std.specs.declared.cmp.Ordering.TheVariants.{Less}
use Rattle.page_layout.specs.Page.{item_of}
use Rattle.key_orders.specs.declared.columns.KeySpec.{KeySpec}
use Rattle.key_orders.specs.declared.columns.Value.{Value}
use Rattle.key_orders.specs.declared.more.MoreSpec.{MoreSpec}
use Rattle.key_orders.specs.declared.Tid.{Tid}
use Rattle.key_orders.specs.Keys.{columns_of, fits_columns}
use Rattle.key_orders.specs.Prefixes.{IsPrefix}
use Rattle.key_attrs.specs.Keyed.{key_types, key_values, more_types}
use Rattle.bt_meta.specs.declared.records.HeadKind.TheVariants as kinds
use Rattle.bt_meta.specs.declared.records.TreeHead.{TreeHead}
use Rattle.bt_meta.specs.Heads.{tree_head_of}
use Rattle.bt_tuples.specs.declared.items.Spot3.TheVariants.{LeafItem}
use Rattle.bt_tuples.specs.Items.{ItemOutcome, Plain, is_dead, item_outcome, tuple_outcome}
use Rattle.bt_tuples.specs.Rules.{breaks_place, tuple_of}
use Rattle.bt_tuples.specs.Tuples.{has_null_bits, plain_tid, size_of, values_in}

-- this is its head: its size is that of its bytes, and its TID has an item number
pub record IsPlainHead (tuple : List ℕ) (head : TreeHead) : Type 0 where
  pub is : head ≡ tree_head_of tuple
  pub kind : head.kind ≡ kinds.Plain
  pub no_nulls : has_null_bits head ≡ false
  pub some : head.item ≢ 0
  pub size : size_of head ≡ length tuple

-- The tuple is a plain one with this TID, whose values are those that its body tells without null bits. Where the body
-- tells a value for each column of the key, and others behind them, these are its key and its included values.
pub record IsPlainTuple (tuple : List ℕ) (tid : Tid) (body : List ℕ) : Type 0 where
  pub kind : (tree_head_of tuple).kind ≡ kinds.Plain
  pub tid_is : tid ≡ plain_tid (tree_head_of tuple)
  pub values : (specs : List KeySpec) (more : List MoreSpec)
      → values_in specs more tuple ≡ key_values (key_types specs ++ more_types more) body None
  pub told : (specs : List KeySpec) (more : List MoreSpec) (key rest : List Value) (killed : Bool)
      → key_values (key_types specs ++ more_types more) body None ≡ Ok (key ++ rest) → length key ≡ length specs
      → tuple_outcome specs more LeafItem tuple killed ≡ Ok (Plain key rest tid killed)

-- so it is of item i of a page
pub record LiesPlain (page : List ℕ) (i : ℕ) (tid : Tid) (body : List ℕ) : Type 0 where
  pub tuple : IsPlainTuple (tuple_of page i) tid body
  pub placed : breaks_place page i ≡ false

-- What is read is one entry, and this is the number of its key by its first value, which fits its column. In the order
-- of that column the value is below each that has a greater number.
pub record HasPrefix (specs : List KeySpec) (outcome : ItemOutcome) (killed : Bool) (number : ℕ) : Type 0 where
  pub first : Value
  pub rest : List Value
  pub included : List Value
  pub tid : Tid
  pub is : outcome ≡ Ok (Plain (first ∷ rest) included tid killed)
  pub fits : fits_columns specs (first ∷ []) ≡ true
  pub prefix : IsPrefix specs (first ∷ []) number
  pub below : (other : Value) (greater : ℕ) → IsPrefix specs (other ∷ []) greater → number < greater
      → fits_columns specs (other ∷ []) ≡ true → columns_of specs 0 first other ≡ Less

-- so it is of item i of a leaf
abbrev pub IsPlainEntry : List KeySpec → List MoreSpec → List ℕ → (i number : ℕ) → Type 0
IsPlainEntry specs more page i number =
    HasPrefix specs (item_outcome specs more LeafItem page i) (is_dead (item_of page i).flag) number
