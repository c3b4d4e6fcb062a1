-- What entries are laid from.
use Rattle.std.specs.Prelude.{◌≡◌, All, List, false}
use Rattle.laws_built_index.specs.Items.{entry_types}
use Rattle.laws_built_index.specs.Sizes.{AreIndexable}
use Rattle.bt_build.specs.declared.source.Sorted.{Sorted}
use Rattle.bt_build.specs.declared.source.Source.{Source}
use Rattle.bt_build.specs.Kept.{IsKept, entries_at, entry_at}
use Rattle.bt_build.specs.Listed.{AreColumns}
use Rattle.bt_build.specs.Outcome.{is_too_large}
use Rattle.bt_build.specs.declared.entries.Place.{Place}
use Rattle.bt_image.specs.Image.{LeafEntry}

-- the types are those of the columns
pub record IsSource (s : Source) : Type 0 where
  pub columns : AreColumns s.specs.now s.more.now
  pub types_are : s.types.now ≡ entry_types s.specs.now s.more.now

-- the entry of a place lies there and may be laid
abbrev pub IsPlaceOf : Source → Place → Type 0
IsPlaceOf s p = IsKept s.specs.now s.more.now s.arena.now p

abbrev pub entry_of : Source → Place → LeafEntry
entry_of s p = entry_at s.specs.now s.arena.now p

abbrev pub entries_of : Source → List Place → List LeafEntry
entries_of s places = entries_at s.specs.now s.arena.now places

-- its plain item isn't too large
abbrev pub IsSmallOf : Source → Place → Type 0
IsSmallOf s p = is_too_large s.specs.now s.more.now (entry_of s p) ≡ false

-- the entries at sorted places
abbrev pub entries_sorted : Sorted → List LeafEntry
entries_sorted s = entries_of s.source s.places.now

-- each lies there, and they may be indexed in this order
pub record AreSorted (s : Sorted) : Type 0 where
  pub source : IsSource s.source
  pub each : All (IsPlaceOf s.source) s.places.now
  pub indexable : AreIndexable s.source.specs.now s.source.more.now (entries_sorted s)
