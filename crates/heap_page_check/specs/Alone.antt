-- What is judged of a heap page alone: its header and where its items lie.
use Rattle.std.specs.Prelude.{◌≡◌, ℕ, ◌≤◌, true, if◌then◌else◌, List, Option, Some, None}
use Rattle.page_layout.specs.Items.{is_misplaced_heap_item}
use Rattle.page_layout.specs.Page.{has_other_version, has_unknown_page_flag, has_bad_places, is_new_but_written}
use Rattle.page_layout.specs.Page.{count_of, item_of, page_rule_of, upper_of}
use Rattle.page_layout.specs.declared.rules.Rule.{Rule}
use Rattle.page_layout.specs.declared.rules.Rule.TheVariants.{P1, P2, P3, P4, H1}
use Rattle.page_layout.specs.declared.page.PageKind.{PageKind}
use Rattle.page_layout.specs.declared.page.PageKind.TheVariants.{Heap}
use Rattle.reports.specs.Added.{each_upto, finding_at, report_lists}
use Rattle.reports.specs.Lists.{Lists}
use Rattle.reports.specs.declared.places.Place.{Place}
use Rattle.reports.specs.declared.places.Place.TheVariants.{Block, Item}
use Rattle.reports.specs.declared.places.Rel.{Rel}
use Rattle.reports.specs.declared.places.Rel.TheVariants.{Heap as heap}

-- The rules, each by its sentence, with the place where it is broken

-- what the header of a page of this kind may break
pub data BreaksHeader (kind : PageKind) (rel : Rel) (block : ℕ) (page : List ℕ) : Rule → Place → Type 0 where
  other_version : has_other_version page ≡ true → BreaksHeader kind rel block page P1 (Block rel block)
  unknown_flag : has_unknown_page_flag page ≡ true → BreaksHeader kind rel block page P2 (Block rel block)
  bad_places : has_bad_places kind page ≡ true → BreaksHeader kind rel block page P3 (Block rel block)
  stray_byte : is_new_but_written page ≡ true → BreaksHeader kind rel block page P4 (Block rel block)

-- what a page of the heap may break without a look at its tuples; its items are asked where its header breaks no rule
pub data BreaksAlone (block : ℕ) (page : List ℕ) : Rule → Place → Type 0 where
  header : (rule : Rule) (place : Place) → BreaksHeader Heap heap block page rule place
      → BreaksAlone block page rule place
  misplaced : (i : ℕ) → page_rule_of Heap page ≡ None → 1 ≤ i → i ≤ count_of page
      → is_misplaced_heap_item (upper_of page) (item_of page i) ≡ true
      → BreaksAlone block page H1 (Item heap block i)

-- The lists, in the order in which a report has them

unfoldable pub lone_item_rule : List ℕ → ℕ → Option Rule
lone_item_rule page i = if is_misplaced_heap_item (upper_of page) (item_of page i) then Some H1 else None

unfoldable pub lone_item_found : ℕ → List ℕ → ℕ → Lists
lone_item_found block page i = finding_at (Item heap block i) (lone_item_rule page i)

-- the page's own rule, or else the rules of its items
unfoldable pub lone_page_found : ℕ → List ℕ → Lists
lone_page_found block page = by_rule (page_rule_of Heap page)
  where
    by_rule : Option Rule → Lists
    by_rule (Some rule) = finding_at (Block heap block) (Some rule)
    by_rule None = each_upto report_lists (lone_item_found block page) (count_of page)
