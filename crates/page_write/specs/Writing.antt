-- A page that is being laid out.
use Rattle.std.specs.Prelude.{◌≡◌, ℕ, ◌+◌, ◌-◌, ◌≤◌, List, ◌++◌}
use Rattle.page_layout.specs.Page.{max_align}
use Rattle.page_write.specs.Pages.{lower_for, pointers_below, room_for, storages, zeros}
use Rattle.page_write.specs.declared.page.PageWriter.{PageWriter}

-- the bytes between the line pointers and the storage
abbrev pub free_bytes : PageWriter → ℕ
free_bytes page = page.upper - page.lower

-- there is room for a line pointer and an item of so many bytes
abbrev pub HasRoom : PageWriter → ℕ → Type 0
HasRoom page len = 4 + max_align len ≤ free_bytes page

-- the page has these items and no others, and its special space begins at a place: all of the page but its header and
-- the special space is as it will be
pub record HoldsItems (page : PageWriter) (place : ℕ) (items : List (List ℕ)) : Type 0 where
  pub bytes : page.bytes ≡ zeros 24 ++ pointers_below place items ++ zeros (free_bytes page) ++ storages items
      ++ zeros (8192 - place)
  pub lower : page.lower ≡ lower_for items
  pub upper : page.upper + room_for items ≡ place
  pub special : page.special ≡ place
