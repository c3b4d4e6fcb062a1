-- The special space of a tree page, and the metapage.
use Rattle.std.specs.Prelude.{◌≡◌, ℕ, Bool, false, not, ◌==◌, ◌&&◌, ◌||◌, nat_lt, if◌then◌else◌, List, Option, Some}
use Rattle.std.specs.Prelude.{None}
use Rattle.page_layout.specs.Page.{is_new, lower_of, u16_at, u32_at}
use Rattle.page_layout.specs.declared.rules.Rule.{Rule}
use Rattle.page_layout.specs.declared.rules.Rule.TheVariants.{M1, M2}
use Rattle.bt_meta.specs.Flags.{is_deleted, is_meta}
use Rattle.bt_meta.specs.declared.records.Meta.{Meta}
use Rattle.bt_meta.specs.declared.records.Opaque.{Opaque}

-- the fields of the special space, the page's last 16 bytes
unfoldable pub opaque_of : List ℕ → Opaque
opaque_of page = record {
  prev = u32_at page 8176;
  next = u32_at page 8180;
  level = u32_at page 8184;
  flags = u16_at page 8188;
  cycle = u16_at page 8190;
}

-- the numbers of the tree, after the header of block 0
unfoldable pub meta_of : List ℕ → Meta
meta_of page = record {
  magic = u32_at page 24;
  version = u32_at page 28;
  root = u32_at page 32;
  level = u32_at page 36;
  fastroot = u32_at page 40;
  fastlevel = u32_at page 44;
}

-- a leaf that was laid out and never used: no flags, level 0, no line pointers
abbrev pub is_blank : ℕ → Opaque → Bool
is_blank lower special = (special.flags == 0) && (special.level == 0) && (lower == 24)

-- a page that is no part of the tree: new, deleted, or laid out and never used
unfoldable pub is_idle : List ℕ → Bool
is_idle page = is_new page || is_deleted (opaque_of page) || is_blank (lower_of page) (opaque_of page)

-- the magic number isn't that of a B-tree, or the version is none that there is
abbrev pub is_foreign : Meta → Bool
is_foreign meta = not (meta.magic == 0x00053162) || nat_lt meta.version 2 || nat_lt 4 meta.version

-- M1: block 0 is new, isn't marked as a metapage, or isn't one that PostgreSQL writes
unfoldable pub is_no_metapage : List ℕ → Bool
is_no_metapage page = is_new page || not (is_meta (opaque_of page)) || is_foreign (meta_of page)

-- one of two numbers is 0, and the other isn't
abbrev pub is_just_one_zero : ℕ → ℕ → Bool
is_just_one_zero m n = ((m == 0) && not (n == 0)) || ((n == 0) && not (m == 0))

-- M2: the root or the fast root isn't below the number of blocks, or there is only one of the two
unfoldable pub has_bad_root : ℕ → Meta → Bool
has_bad_root blocks meta =
    not (nat_lt meta.root blocks) || not (nat_lt meta.fastroot blocks) || is_just_one_zero meta.root meta.fastroot

-- the metapage is of version 4 and breaks M2
abbrev pub has_bad_root_in_version_4 : ℕ → Meta → Bool
has_bad_root_in_version_4 blocks meta = (meta.version == 4) && has_bad_root blocks meta

-- block 0 of a tree of so many blocks breaks neither M1 nor, in version 4, M2
pub record KeepsMetaRules (blocks : ℕ) (page : List ℕ) : Type 0 where
  pub metapage : is_no_metapage page ≡ false
  pub roots : (meta_of page).version ≡ 4 → has_bad_root blocks (meta_of page) ≡ false

-- the first of M1 and, in version 4, M2 that block 0 breaks
unfoldable pub meta_rule_of : List ℕ → ℕ → Option Rule
meta_rule_of page blocks =
    if is_no_metapage page then Some M1 else if has_bad_root_in_version_4 blocks (meta_of page) then Some M2 else None
