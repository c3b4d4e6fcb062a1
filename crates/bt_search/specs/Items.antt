-- What a scan does with the entries of an item of a leaf, how many these are, and their TIDs.
use Rattle.std.specs.Prelude.{◌≡◌, ℕ, ◌+◌, ◌*◌, Bool, true, false, List}
use Rattle.laws_search.specs.Back.{Back}
use Rattle.laws_search.specs.Keys.{Entry, Separator}
use Rattle.laws_search.specs.Search.{is_wanted}
use Rattle.key_orders.specs.declared.columns.Value.{Value}
use Rattle.key_orders.specs.declared.Tid.{Tid}
use Rattle.key_orders.specs.Scans.{Bounds, back_of}
use Rattle.bt_meta.specs.Heads.{tree_head_of}
use Rattle.bt_meta.specs.declared.records.HeadKind.{HeadKind}
use Rattle.bt_meta.specs.declared.records.HeadKind.TheVariants.{Pivot, Plain, Posting}
use Rattle.bt_meta.specs.declared.records.TreeHead.{TreeHead}
use Rattle.bt_tuples.specs.Tuples.{number_of, plain_tid, tid_at}
use Rattle.bt_levels.specs.Sound.{specs_of}
use Rattle.bt_levels.specs.declared.sound.SoundTree.{SoundTree}
use Rattle.bt_steps.specs.Pages.{KeyScan, is_killed}
use Rattle.bt_search.specs.declared.item.Fate.{Fate}
use Rattle.bt_search.specs.declared.item.Fate.TheVariants.{Past, Wanted, Other}
use Rattle.bt_search.specs.declared.item.ScanEnd.{ScanEnd}
use Rattle.bt_search.specs.declared.item.ScanEnd.TheVariants.{High, Low}

-- a scan, as the backward searcher sees it
abbrev pub KeyBack : Type 0
KeyBack = Back (Separator Value Tid) (Entry Value Tid)

abbrev pub back_on : SoundTree → Bounds → KeyBack
back_on sound bounds = back_of (specs_of sound) bounds

-- an entry is past the bound at which a scan ends
abbrev pub is_past : KeyScan → KeyBack → ScanEnd → Entry Value Tid → Bool
is_past scan back High e = scan.past_high e
is_past scan back Low e = back.before_low e

-- what a scan does with an entry: it ends there, yields it, or passes over it
abbrev pub HasFate : KeyScan → KeyBack → ScanEnd → Fate → Entry Value Tid → Type 0
HasFate scan back end Past e = is_past scan back end e ≡ true
HasFate scan back end Wanted e = (is_past scan back end e ≡ false) × (is_wanted is_killed scan e ≡ true)
HasFate scan back end Other e = (is_past scan back end e ≡ false) × (is_wanted is_killed scan e ≡ false)

-- how many entries a tuple of a leaf with this head has
abbrev pub entries_by : HeadKind → TreeHead → ℕ
entries_by Pivot head = 0
entries_by Plain head = 1
entries_by Posting head = number_of head

-- the TID of the entry with a number: that of the head, or the one in the list, which stands at the place that the
-- block field names
abbrev pub tid_by : HeadKind → (tuple : List ℕ) → (nth : ℕ) → Tid
tid_by Pivot tuple nth = plain_tid (tree_head_of tuple)
tid_by Plain tuple nth = plain_tid (tree_head_of tuple)
tid_by Posting tuple nth = tid_at tuple ((tree_head_of tuple).block + 6 * nth)
