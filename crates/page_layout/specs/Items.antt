-- Line pointers that point to no place where a tuple can be.
use Rattle.std.specs.Prelude.{◌≡◌, ℕ, ◌+◌, ◌%◌, ◌≤◌, Bool, true, false, not, ◌==◌, ◌&&◌, ◌||◌, nat_lt}
use Rattle.page_layout.specs.declared.page.LineFlag.{LineFlag}
use Rattle.page_layout.specs.declared.page.LineFlag.TheVariants.{Unused, Normal, Redirect, Dead}
use Rattle.page_layout.specs.declared.page.LinePtr.{LinePtr}

abbrev pub is_normal : LineFlag → Bool
is_normal Normal = true
is_normal Unused = false
is_normal Redirect = false
is_normal Dead = false

-- the pointer says where storage is; on a tree page a dead one still does
abbrev pub is_normal_or_dead : LineFlag → Bool
is_normal_or_dead Normal = true
is_normal_or_dead Unused = false
is_normal_or_dead Redirect = false
is_normal_or_dead Dead = true

-- the storage doesn't begin at a multiple of 8, begins below `upper`, ends past `end`, or is shorter than `least` bytes
abbrev pub has_bad_storage : ℕ → ℕ → ℕ → LinePtr → Bool
has_bad_storage upper end least p =
    not (p.off % 8 == 0) || nat_lt p.off upper || nat_lt end (p.off + p.len) || nat_lt p.len least

-- H1: a normal pointer of a heap page with this upper place, to no place where a tuple with its header of 23 bytes and
-- a byte more can be
unfoldable pub is_misplaced_heap_item : ℕ → LinePtr → Bool
is_misplaced_heap_item upper p = is_normal p.flag && has_bad_storage upper 8192 24 p

-- B5: a pointer of a tree page with this upper place that points to nothing, or to no place where an index tuple with
-- its header of 8 bytes can be
unfoldable pub is_misplaced_tree_item : ℕ → LinePtr → Bool
is_misplaced_tree_item upper p = not (is_normal_or_dead p.flag) || has_bad_storage upper 8176 8 p

-- the storage begins at a multiple of 8, not below `upper`, ends at most at `end`, and has at least `least` bytes
pub record HasStorage (upper end least : ℕ) (p : LinePtr) : Type 0 where
  pub aligned : p.off % 8 ≡ 0
  pub above : upper ≤ p.off
  pub within : p.off + p.len ≤ end
  pub long : least ≤ p.len
