-- Where a search goes from a page: to the right, down, or nowhere, since it reads the page.
use Rattle.std.specs.Prelude.{◌≡◌, ℕ, Bool, true, false, ◌||◌, cond, List, [], ◌∷◌, length, Option, Some, None}
use Rattle.laws_search.specs.Keys.{IsSeparatorOf, Separator}
use Rattle.laws_search.specs.Probe.{child_for}
use Rattle.laws_search.specs.Search.{right_of}
use Rattle.key_orders.specs.declared.columns.KeySpec.{KeySpec}
use Rattle.key_orders.specs.declared.columns.Value.{Value}
use Rattle.key_orders.specs.declared.Tid.{Tid}
use Rattle.key_orders.specs.Scans.{order_of}
use Rattle.key_attrs.specs.Columns.{TreeColumns}
use Rattle.bt_meta.specs.Flags.{is_half_dead, is_leaf}
use Rattle.bt_meta.specs.Pages.{opaque_of}
use Rattle.bt_tuples.specs.Keys.{first_key}
use Rattle.bt_image.specs.Image.{TreePage, item_at, page_image}
use Rattle.bt_steps.specs.declared.inner.Step.{Step}
use Rattle.bt_steps.specs.declared.inner.Step.TheVariants.{To, Read, Lost}

-- a key, as an internal page keeps it, and of which of them a search goes right
abbrev pub Key : Type 0
Key = Separator Value Tid

abbrev pub Goes : Type 0
Goes = Key → Bool

-- what is below a key that it goes right of, it goes right of too
pub record GoesLower (specs : List KeySpec) (goes : Goes) : Type 0 where
  pub lower : (s t : Key) → IsSeparatorOf (length specs) s → IsSeparatorOf (length specs) t
      → (order_of specs).under s t ≡ true → goes t ≡ true → goes s ≡ true

-- it goes right of the first key of item i
abbrev pub is_passed : TreeColumns → Goes → List ℕ → ℕ → Bool
is_passed columns goes page i = goes (first_key (item_at columns.specs columns.more page i))

-- it leaves the page for its right sibling: it goes right of the high key, or the page is half-dead
abbrev pub is_left_behind : TreeColumns → Goes → List ℕ → Bool
is_left_behind columns goes page =
    right_of goes (page_image columns.specs columns.more page).high_key || is_half_dead (opaque_of page)

-- the child that it goes down to, if the page has one
abbrev pub down_to : Goes → List (Key × ℕ) → Option ℕ
down_to goes [] = None
down_to goes (c ∷ cs) = Some (child_for goes c cs)

-- the block that it goes to from a page, if it doesn't read it
abbrev pub next_of : Goes → TreePage → Option ℕ
next_of goes p =
    cond (right_of goes p.high_key || p.half_dead) (Some p.next) (cond p.leaf None (down_to goes p.children))

-- a visit to the page leads to another block, or the page is a leaf that is read
abbrev pub Leads : TreeColumns → Goes → List ℕ → Step → Type 0
Leads columns goes page (To next) = next_of goes (page_image columns.specs columns.more page) ≡ Some next
Leads columns goes page Read = (is_left_behind columns goes page ≡ false) × (is_leaf (opaque_of page) ≡ true)
Leads columns goes page Lost = ⊥
