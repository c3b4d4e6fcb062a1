-- Where a heap tuple lies on its page.
use Rattle.std.specs.Prelude.{◌≡◌, ℕ, ◌≤◌, true, false, List, None}
use Rattle.page_layout.specs.declared.page.PageKind.TheVariants.{Heap}
use Rattle.page_layout.specs.Items.{is_misplaced_heap_item, is_normal}
use Rattle.page_layout.specs.Page.{count_of, item_of, page_rule_of, piece_of, upper_of}

-- the bytes of an item
abbrev pub tuple_at : List ℕ → ℕ → List ℕ
tuple_at page item = piece_of page (item_of page item).off (item_of page item).len

-- item i of the page is a tuple that lies where it may
pub record IsTupleAt (page : List ℕ) (i : ℕ) : Type 0 where
  pub rules : page_rule_of Heap page ≡ None
  pub first : 1 ≤ i
  pub last : i ≤ count_of page
  pub normal : is_normal (item_of page i).flag ≡ true
  pub placed : is_misplaced_heap_item (upper_of page) (item_of page i) ≡ false
