-- The entries of an index that is to be built.
use Rattle.std.specs.Prelude.{◌≡◌, ◌≢◌, ◌≤◌, ◌<◌, true, List, [], ◌∷◌, ◌++◌, length, All}
use Rattle.key_orders.specs.declared.columns.KeySpec.{KeySpec}
use Rattle.key_orders.specs.declared.columns.Value.{Value}
use Rattle.key_orders.specs.declared.more.MoreSpec.{MoreSpec}
use Rattle.key_orders.specs.declared.Tid.{Tid}
use Rattle.key_orders.specs.Keys.{IsKey}
use Rattle.key_orders.specs.Types.{HasAlignment}
use Rattle.key_attrs.specs.Keyed.{fits_more}
use Rattle.bt_image.specs.Image.{LeafEntry}
use Rattle.laws_built_index.specs.Items.{MayBeLaid, entry_types}

-- the columns of the index, and its entries as they were added
pub record Listed : Type 0 where
  pub specs : List KeySpec
  pub more : List MoreSpec
  pub entries : List LeafEntry

-- columns that an index may have
pub record AreColumns (specs : List KeySpec) (more : List MoreSpec) : Type 0 where
  pub some : 0 < length specs
  pub few : length specs ≤ 8
  pub few_more : length more ≤ 24
  pub aligned : All HasAlignment (entry_types specs more)

-- values of an entry: one for each column, which fits it
pub record AreValues (l : Listed) (key more : List Value) : Type 0 where
  pub key_fits : IsKey l.specs key
  pub more_fits : fits_more l.more more ≡ true
  pub more_whole : length more ≡ length l.more

-- an entry more
abbrev pub with_entry : Listed → LeafEntry → Listed
with_entry l e = record { specs = l.specs; more = l.more; entries = l.entries ++ e ∷ [] }

-- no entry has this TID
abbrev pub IsNewTid : Listed → Tid → Type 0
IsNewTid l tid = All (λ e. e.entry.tid ≢ tid) l.entries

-- each entry may be laid, and no two have one TID
pub data AreApart : List LeafEntry → Type 0 where
  none : AreApart []
  more : (es : List LeafEntry) (e : LeafEntry) → AreApart es → All (λ d. d.entry.tid ≢ e.entry.tid) es
      → AreApart (es ++ e ∷ [])

pub record IsListed (l : Listed) : Type 0 where
  pub columns : AreColumns l.specs l.more
  pub each : All (MayBeLaid l.specs l.more) l.entries
  pub apart : AreApart l.entries
