-- What the types of the parts' fields say: each number and each byte is in its range.
use Rattle.std.specs.Prelude.{ℕ, ◌<◌, Option, Some, None, Vec}
use Rattle.std.specs.declared.alloc.Global.{Global}
use Rattle.std.specs.List.{AllByRecursion}
use Rattle.hex.specs.Hex.{IsBytes}
use Rattle.key_orders.specs.declared.columns.ColType.{ColType}
use Rattle.key_orders.specs.declared.columns.ColType.TheVariants.{Fixed, Varlena}
use Rattle.case_text.specs.declared.parts.ClusterPart.{ClusterPart}
use Rattle.case_text.specs.declared.parts.ColumnPart.{ColumnPart}
use Rattle.case_text.specs.declared.parts.TablePart.{TablePart}
use Rattle.case_text.specs.declared.parts.ToastPart.{ToastPart}

-- the length and the alignment of a type that is told by them
abbrev pub IsStorable : ColType → Type 0
IsStorable (Fixed len align) = (len < 65536) × (align < 256)
IsStorable (Varlena align) = align < 256
IsStorable _ = Unit {0}

abbrev pub AreBytes : Option (Vec ℕ Global) → Type 0
AreBytes (Some bytes) = IsBytes bytes.items
AreBytes None = Unit {0}

pub record IsPlainColumn (c : ColumnPart) : Type 0 where
  pub fits : IsStorable c.ctype
  pub bytes : AreBytes c.missing

abbrev pub IsPlainToast : Option ToastPart → Type 0
IsPlainToast (Some t) = t.oid < 4294967296
IsPlainToast None = Unit {0}

pub record IsPlainTable (t : TablePart) : Type 0 where
  pub toast : IsPlainToast t.toast
  pub columns : AllByRecursion IsPlainColumn t.columns.items

pub record IsPlainCluster (c : ClusterPart) : Type 0 where
  pub segment_blocks : c.segment_blocks < 4294967296
  pub next_xid : c.counters.next_xid < 4294967296
  pub oldest_xid : c.counters.oldest_xid < 4294967296
  pub next_multi : c.counters.next_multi < 4294967296
  pub oldest_multi : c.counters.oldest_multi < 4294967296
  pub next_member : c.counters.next_member < 4294967296
