-- The first eight bytes of an index tuple.
use Rattle.std.specs.Prelude.{ℕ, if◌then◌else◌, List}
use Rattle.page_layout.specs.Page.{block_at, has_bit, u16_at}
use Rattle.bt_meta.specs.declared.records.HeadKind.{HeadKind}
use Rattle.bt_meta.specs.declared.records.HeadKind.TheVariants.{Pivot, Plain, Posting}
use Rattle.bt_meta.specs.declared.records.TreeHead.{TreeHead}

-- the form of a tuple, by the item number of its TID and its info word: INDEX_ALT_TID_MASK in the info word says that
-- the TID is none, and then BT_IS_POSTING in the item number says what it is
unfoldable pub kind_of : ℕ → ℕ → HeadKind
kind_of item info = if has_bit info 0x2000 then (if has_bit item 0x2000 then Posting else Pivot) else Plain

-- the head of the index tuple in these bytes
unfoldable pub tree_head_of : List ℕ → TreeHead
tree_head_of bytes = record {
  block = block_at bytes 0;
  item = u16_at bytes 4;
  info = u16_at bytes 6;
  kind = kind_of (u16_at bytes 4) (u16_at bytes 6);
}
