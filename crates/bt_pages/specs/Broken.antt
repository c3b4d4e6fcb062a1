-- The rules of one block of a tree, each with the place where it is broken; and what can't be judged.
use Rattle.std.specs.Prelude.{◌≡◌, ℕ, ◌≤◌, true, false, List, [], None, Contains}
use Rattle.page_layout.specs.Page.{count_of}
use Rattle.page_layout.specs.declared.rules.Rule.{Rule}
use Rattle.page_layout.specs.declared.rules.Rule.TheVariants.{B12}
use Rattle.bt_meta.specs.Flags.{is_half_dead}
use Rattle.bt_meta.specs.Pages.{is_idle, opaque_of}
use Rattle.bt_tuples.specs.Rules.{has_packed, tuple_of}
use Rattle.bt_image.specs.Pages.{breaks_siblings}
use Rattle.reports.specs.Lists.{Lists}
use Rattle.reports.specs.declared.places.Place.{Place}
use Rattle.reports.specs.declared.places.Reason.{Reason}
use Rattle.reports.specs.declared.places.Reason.TheVariants.{U5}
use Rattle.bt_pages.specs.Trees.{Tree}
use Rattle.bt_pages.specs.Questions.{breaks_item, breaks_lone_rule, item_rules, lone_rule, lone_rules, own_rule}
use Rattle.bt_pages.specs.Found.{block_place, item_place}

-- the page breaks none of its own rules, and is part of the tree: its siblings and its items are judged
pub record IsJudged (page : List ℕ) : Type 0 where
  pub keeps : lone_rule page ≡ None
  pub used : is_idle page ≡ false

-- its items are, and this is the number of one
pub record IsJudgedItem (page : List ℕ) (i : ℕ) : Type 0 where
  pub judged : IsJudged page
  pub first : 1 ≤ i
  pub last : i ≤ count_of page

-- a rule that is asked of the page, of its siblings or of an item is broken there
pub data BreaksBlock (tree : Tree) (b : ℕ) : Rule → Place → Type 0 where
  alone : (rule : Rule) → Contains (lone_rules (is_idle (tree.block b))) rule
      → breaks_lone_rule (tree.block b) rule ≡ true → BreaksBlock tree b rule (block_place tree b)
  siblings : IsJudged (tree.block b) → breaks_siblings tree.blocks tree.block b ≡ true
      → BreaksBlock tree b B12 (block_place tree b)
  item : (i : ℕ) (rule : Rule) → IsJudgedItem (tree.block b) i
      → Contains (item_rules tree.specs tree.more (tree.block b) i) rule → breaks_item tree (tree.block b) i rule ≡ true
      → BreaksBlock tree b rule (item_place tree b i)

-- an item breaks none of its own rules, and has a compressed value
pub data DoubtsBlock (tree : Tree) (b : ℕ) : Reason → Place → Type 0 where
  packed : (i : ℕ) → IsJudgedItem (tree.block b) i → is_half_dead (opaque_of (tree.block b)) ≡ false
      → own_rule tree.specs tree.more (tree.block b) i ≡ None
      → has_packed tree.specs tree.more (tuple_of (tree.block b) i) ≡ true → DoubtsBlock tree b U5 (item_place tree b i)

-- nothing is listed
pub record AreEmpty (lists : Lists) : Type 0 where
  pub findings : lists.findings ≡ []
  pub unjudged : lists.unjudged ≡ []

-- the place is among those of the findings
pub data IsFoundAt (lists : Lists) (place : Place) : Type 0 where
  found : (rule : Rule) → Contains lists.findings (record { rule = rule; place = place }) → IsFoundAt lists place

-- the place is among those that can't be judged
pub data IsDoubtedAt (lists : Lists) (place : Place) : Type 0 where
  doubted : (reason : Reason) → Contains lists.unjudged (record { reason = reason; place = place })
      → IsDoubtedAt lists place
