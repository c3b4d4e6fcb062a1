-- Rows of a heap and entries of an index, each by its TID and its key: which rows were met after some entries.
use Rattle.std.specs.Prelude.{◌≡◌, Bool, false, not, ◌==◌, ◌&&◌, ◌||◌, List, [], ◌∷◌, Option, Some, None, filter}
use Rattle.std.specs.List.{list_any}
use Rattle.key_orders.specs.declared.Tid.{Tid}
use Rattle.key_orders.specs.declared.columns.Value.{Value}
use Rattle.key_storage.specs.Same.{same_key}

abbrev pub same_tid : Tid → Tid → Bool
same_tid a b = (a.block == b.block) && (a.item == b.item)

-- An entry, and a row by its root

pub record Keyed : Type 0 where
  pub tid : Tid
  pub key : List Value

abbrev pub keyed : Tid → List Value → Keyed
keyed tid key = record { tid = tid; key = key }

-- for each line pointer the key of the row that is rooted there, and whether it was met

abbrev pub Keys : Type 0
Keys = Tid → Option (List Value)

abbrev pub Mets : Type 0
Mets = Tid → Bool

abbrev pub none_met : Mets
none_met tid = false

abbrev pub no_keys : Keys
no_keys tid = None

-- there is a key, and it is this one
abbrev pub is_key : List Value → Option (List Value) → Bool
is_key key None = false
is_key key (Some held) = same_key held key

-- an entry meets the row that is rooted where it points, if the keys are the same
abbrev pub meets : Keys → Keyed → Tid → Bool
meets keys e tid = same_tid tid e.tid && is_key e.key (keys tid)

unfoldable pub met_by : Keys → Mets → Keyed → Mets
met_by keys met e tid = met tid || meets keys e tid

-- entries, one after another
abbrev pub met_after : Keys → List Keyed → Mets → Mets
met_after keys [] met = met
met_after keys (e ∷ es) met = met_after keys es (met_by keys met e)

-- some entry has the row's TID and its key
abbrev pub is_entry_of : Keyed → Keyed → Bool
is_entry_of row e = same_tid row.tid e.tid && same_key row.key e.key

abbrev pub has_entry : List Keyed → Keyed → Bool
has_entry es row = list_any (is_entry_of row) es

abbrev pub has_none : List Keyed → Keyed → Bool
has_none es row = not (has_entry es row)

abbrev pub is_unmet : Mets → Keyed → Bool
is_unmet met row = not (met row.tid)

-- the row is kept where it is rooted
abbrev pub IsKept : Keys → Keyed → Type 0
IsKept keys row = keys row.tid ≡ Some row.key

-- The laws

-- what is met after entries: what was met, and what some entry meets
abbrev pub MetAfter : Keys → List Keyed → Mets → Tid → Type 0
MetAfter keys es met tid = met_after keys es met tid ≡ (met tid || list_any (λ e. meets keys e tid) es)

-- a row that is kept was met exactly if some entry has its TID and its key
abbrev pub MetIfEntry : Keys → List Keyed → Keyed → Type 0
MetIfEntry keys es row = met_after keys es none_met row.tid ≡ has_entry es row

-- the rows that weren't met are those without such an entry, in their order
abbrev pub UnmetAreMissing : Keys → List Keyed → List Keyed → Type 0
UnmetAreMissing keys es rows = filter (is_unmet (met_after keys es none_met)) rows ≡ filter (has_none es) rows
