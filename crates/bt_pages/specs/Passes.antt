-- What one pass over the items of a page tells of them together.
use Rattle.std.specs.Prelude.{◌≡◌, ◌≤◌, ℕ, zero, suc, Bool, true, false, ◌||◌, if◌then◌else◌, List}
use Rattle.page_layout.specs.Page.{count_of}
use Rattle.key_orders.specs.declared.columns.KeySpec.{KeySpec}
use Rattle.key_orders.specs.declared.more.MoreSpec.{MoreSpec}
use Rattle.key_orders.specs.declared.separators.SepRef.{SepRef}
use Rattle.key_orders.specs.Keys.{IsKeySeparator}
use Rattle.key_orders.specs.Separators.{separator_of}
use Rattle.bt_meta.specs.Flags.{is_half_dead}
use Rattle.bt_meta.specs.Pages.{opaque_of}
use Rattle.bt_image.specs.Image.{item_at}
use Rattle.bt_tuples.specs.Keys.{last_key}
use Rattle.bt_image.specs.Pages.{breaks_high_key, breaks_order}
use Rattle.bt_pages.specs.declared.pass.Pass.{Pass}
use Rattle.bt_pages.specs.declared.pass.Pass.TheVariants.{HalfDead, NotPlain, Disordered, Ordered}
use Rattle.bt_pages.specs.declared.turns.Turns.{Turns}
use Rattle.bt_pages.specs.Questions.{are_plain}

-- one of the items 1 to n isn't above the one before it (B10)
unfoldable pub are_disordered : List KeySpec → List MoreSpec → List ℕ → ℕ → Bool
are_disordered specs more page zero = false
are_disordered specs more page (suc n) = are_disordered specs more page n || breaks_order specs more page (suc n)

-- so it is of the items of a page, or the last is past the high key (B11)
abbrev pub is_disordered : List KeySpec → List MoreSpec → List ℕ → Bool
is_disordered specs more page = are_disordered specs more page (count_of page) || breaks_high_key specs more page

abbrev pub pass_by : (half_dead plain disordered : Bool) → Pass
pass_by true plain disordered = HalfDead
pass_by false false disordered = NotPlain
pass_by false true true = Disordered
pass_by false true false = Ordered

unfoldable pub pass_of : List KeySpec → List MoreSpec → List ℕ → Pass
pass_of specs more page =
    pass_by (is_half_dead (opaque_of page)) (are_plain specs more page (count_of page)) (is_disordered specs more page)

-- the items 1 to n are plain, and each is above the one before it
pub record RiseTo (specs : List KeySpec) (more : List MoreSpec) (page : List ℕ) (n : ℕ) : Type 0 where
  pub plain : are_plain specs more page n ≡ true
  pub order : are_disordered specs more page n ≡ false

-- the key that is carried past item i: that of its last entry, from item 1 on
pub record IsCarried (specs : List KeySpec) (more : List MoreSpec) (page : List ℕ) (i : ℕ) (key : SepRef) : Type 0 where
  pub fits : IsKeySeparator specs (separator_of key)
  pub key_is : 1 ≤ i → separator_of key ≡ last_key (item_at specs more page i)

-- the key of the item that was read last
abbrev pub held : Turns → SepRef
held turns = if turns.is_right then turns.right.first else turns.left.first
