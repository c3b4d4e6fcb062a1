-- Numbers that fit the widths of their fields.
use Rattle.std.specs.Prelude.{◌≡◌, ◌≢◌, ◌<◌, ◌≤◌, ◌+◌, ℕ, List, length, true, if◌then◌else◌, Option, is_some}
use Rattle.std.specs.Option.{ForSome}
use Rattle.key_orders.specs.declared.Tid.{Tid}
use Rattle.tuple_head.specs.declared.HeapHead.{HeapHead}
use Rattle.bt_meta.specs.declared.records.Meta.{Meta}
use Rattle.bt_meta.specs.declared.records.Opaque.{Opaque}
use Rattle.page_write.specs.declared.index_tuples.BodyFlags.{BodyFlags}

pub record IsTid (tid : Tid) : Type 0 where
  pub block : tid.block < 4294967296
  pub item : tid.item < 65536

pub record IsHeapHead (head : HeapHead) : Type 0 where
  pub xmin : head.xmin < 4294967296
  pub xmax : head.xmax < 4294967296
  pub field3 : head.field3 < 4294967296
  pub ctid : IsTid head.ctid
  pub infomask2 : head.infomask2 < 65536
  pub infomask : head.infomask < 65536
  pub hoff : head.hoff < 256

pub record IsOpaque (special : Opaque) : Type 0 where
  pub prev : special.prev < 4294967296
  pub next : special.next < 4294967296
  pub level : special.level < 4294967296
  pub flags : special.flags < 65536
  pub cycle : special.cycle < 65536

pub record IsMeta (meta : Meta) : Type 0 where
  pub magic : meta.magic < 4294967296
  pub version : meta.version < 4294967296
  pub root : meta.root < 4294967296
  pub level : meta.level < 4294967296
  pub fastroot : meta.fastroot < 4294967296
  pub fastlevel : meta.fastlevel < 4294967296

-- a body is short enough for a page, and has its null bits, if there are any
pub record IsBody (flags : BodyFlags) (body : List ℕ) : Type 0 where
  pub short : length body ≤ 8160
  pub bits : (if flags.nulls then 16 else 8) ≤ 8 + length body

-- a separator of an index of so many key columns keeps a value at least and no more than there are columns, and a TID
-- only beside all of them
pub record MayKeep (columns kept : ℕ) (tid : Option Tid) : Type 0 where
  pub some : kept ≢ 0
  pub most : kept ≤ columns
  pub few : kept < 4096
  pub whole : is_some tid ≡ true → kept ≡ columns
  pub fits : ForSome tid IsTid
