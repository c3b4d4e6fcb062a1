-- What was seen of the pages of an index.
use Rattle.std.specs.Prelude.{◌≡◌, ℕ, List, Option, All, IfSome}
use Rattle.outside.specs.Outside.{IfTold, Names, Seen}
use Rattle.bt_pages.specs.declared.glances.Glances.{Glances}
use Rattle.bt_pages.specs.declared.glances.SeenBlock.{SeenBlock}
use Rattle.bt_pages.specs.declared.seen.SeenTree.{SeenTree}
use Rattle.bt_pages.specs.Trees.{glance_of, tree_seen}

-- what is kept of a block is what it shows
abbrev pub IsOf : (ℕ → List ℕ) → SeenBlock → Type 0
IsOf block seen = seen.glance ≡ glance_of (block seen.b)

-- the same of a place, where it has a block
abbrev pub PlaceIsOf : (ℕ → List ℕ) → Option SeenBlock → Type 0
PlaceIsOf block place = IfSome place (IsOf block)

-- each of them is
unfoldable pub AreOf : (ℕ → List ℕ) → Glances → Type 0
AreOf block glances = All (PlaceIsOf block) glances.places.items

-- so it is of the tree's own, by what these names hold
abbrev pub HasSeen : Names → SeenTree → Type 0
HasSeen names tree = AreOf (tree_seen names tree.rules).block tree.glances

-- its rules stay, and what is kept is still what the files hold, where they tell it
pub record StaysSeen {S : Type 0} (seen : S → Seen) (files : S) (old new : SeenTree) : Type 0 where
  pub rules : new.rules ≡ old.rules
  pub kept : IfTold seen files (λ names. HasSeen names new)
