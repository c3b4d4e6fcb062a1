-- The text of one page, of a heap and of a tree.
use Rattle.std.specs.Prelude.{ℕ, zero, suc, ◌+◌, Bool, true, false, ◌==◌, if◌then◌else◌, List, [], ◌++◌, Option, Some}
use Rattle.std.specs.Prelude.{None, codes, refl}
use Rattle.std.proofs.Common.{◌≡◌, add-one, append-nil, append_assoc}
use Rattle.page_layout.specs.Page.{count_of, header_of, is_new, item_of, page_rule_of, piece_of, upper_of}
use Rattle.page_layout.specs.Items.{is_misplaced_heap_item, is_misplaced_tree_item}
use Rattle.page_layout.specs.Rules.{code_of}
use Rattle.page_layout.specs.declared.page.LineFlag.{LineFlag}
use Rattle.page_layout.specs.declared.page.LineFlag.TheVariants.{Unused, Normal, Redirect, Dead}
use Rattle.page_layout.specs.declared.page.LinePtr.{LinePtr}
use Rattle.page_layout.specs.declared.page.PageHeader.{PageHeader}
use Rattle.page_layout.specs.declared.page.PageKind.TheVariants.{Heap, Tree, Meta as MetaKind}
use Rattle.page_layout.specs.declared.rules.Rule.{Rule}
use Rattle.page_layout.specs.declared.rules.Rule.TheVariants.{H1, B5}
use Rattle.tuple_head.specs.Head.{tuple_head_of}
use Rattle.tuple_head.specs.declared.HeapHead.{HeapHead}
use Rattle.bt_meta.specs.Heads.{tree_head_of}
use Rattle.bt_meta.specs.Pages.{is_idle, meta_of, opaque_of}
use Rattle.bt_meta.specs.declared.records.HeadKind.{HeadKind}
use Rattle.bt_meta.specs.declared.records.HeadKind.TheVariants.{Pivot, Plain, Posting}
use Rattle.bt_meta.specs.declared.records.Meta.{Meta}
use Rattle.bt_meta.specs.declared.records.Opaque.{Opaque}
use Rattle.bt_meta.specs.declared.records.TreeHead.{TreeHead}
use Rattle.reports.specs.Fields.{decimal_field, hex_field, long_hex_field, tid_text}

-- what is printed of a page, by the first page rule that it breaks, whether it is new, and the lines that show what it
-- holds, which are printed only of a page that keeps the page rules and was laid out
unfoldable pub page_text : Option Rule → Bool → List ℕ → List ℕ
page_text (Some rule) new lines = codes "page rule " ++ code_of rule ++ codes "\n"
page_text None true lines = codes "page new\n"
page_text None false lines = lines

-- the places in a page's header
unfoldable pub places_text : PageHeader → List ℕ
places_text header =
    decimal_field (codes " lower ") header.lower ++ decimal_field (codes " upper ") header.upper
    ++ decimal_field (codes " special ") header.special

-- where a line pointer's storage is
unfoldable pub storage_text : LinePtr → List ℕ
storage_text p = decimal_field (codes " off ") p.off ++ decimal_field (codes " len ") p.len

-- The heap: the header of a page, and of a tuple.

unfoldable pub heap_header_line : PageHeader → List ℕ
heap_header_line header =
    decimal_field (codes "page lsn ") header.lsn_high ++ decimal_field (codes " ") header.lsn_low
    ++ decimal_field (codes " checksum ") header.checksum ++ hex_field (codes " flags ") header.flags
    ++ places_text header ++ hex_field (codes " version ") header.version
    ++ decimal_field (codes " prune ") header.prune_xid ++ codes "\n"

unfoldable pub tuple_text : HeapHead → List ℕ
tuple_text head =
    decimal_field (codes " xmin ") head.xmin ++ decimal_field (codes " xmax ") head.xmax
    ++ decimal_field (codes " field3 ") head.field3 ++ codes " ctid " ++ tid_text head.ctid
    ++ hex_field (codes " infomask2 ") head.infomask2 ++ hex_field (codes " infomask ") head.infomask
    ++ decimal_field (codes " hoff ") head.hoff

-- the tuple that a normal line pointer points to, or that it points to none
unfoldable pub heap_storage_text : List ℕ → LinePtr → List ℕ
heap_storage_text page p =
    if is_misplaced_heap_item (upper_of page) p then codes " rule " ++ code_of H1
    else tuple_text (tuple_head_of (piece_of page p.off p.len))

-- what a line pointer is, by its flag, and the text of its storage
unfoldable pub heap_pointer_text : LineFlag → List ℕ → LinePtr → List ℕ
heap_pointer_text Unused page p = codes " unused"
heap_pointer_text Normal page p = codes " normal" ++ storage_text p ++ heap_storage_text page p
heap_pointer_text Redirect page p = decimal_field (codes " redirect ") p.off
heap_pointer_text Dead page p = codes " dead"

unfoldable pub heap_item_line : List ℕ → ℕ → LinePtr → List ℕ
heap_item_line page i p = decimal_field (codes "item ") i ++ heap_pointer_text p.flag page p ++ codes "\n"

-- the lines of the first n items, which are counted from 1
pub heap_items_text : List ℕ → ℕ → List ℕ
heap_items_text page zero = []
heap_items_text page (suc n) = heap_items_text page n ++ heap_item_line page (suc n) (item_of page (suc n))

-- a heap page that is laid out: its header, and each item
unfoldable pub heap_lines : List ℕ → List ℕ
heap_lines page = heap_header_line (header_of page) ++ heap_items_text page (count_of page)

unfoldable pub heap_page_text : List ℕ → List ℕ
heap_page_text page = page_text (page_rule_of Heap page) (is_new page) (heap_lines page)

-- The tree: the special space of a page with the places in its header, and the metapage.

unfoldable pub tree_header_line : Opaque → PageHeader → List ℕ
tree_header_line special header =
    decimal_field (codes "page prev ") special.prev ++ decimal_field (codes " next ") special.next
    ++ decimal_field (codes " level ") special.level ++ hex_field (codes " flags ") special.flags
    ++ places_text header ++ codes "\n"

abbrev pub kind_word : HeadKind → List ℕ
kind_word Pivot = codes "pivot"
kind_word Plain = codes "plain"
kind_word Posting = codes "posting"

unfoldable pub tree_head_text : TreeHead → List ℕ
tree_head_text head =
    codes " tid " ++ tid_text (record { block = head.block; item = head.item }) ++ hex_field (codes " info ") head.info
    ++ codes " " ++ kind_word head.kind

-- a killed item has a dead line pointer
abbrev pub flag_word : LineFlag → List ℕ
flag_word Unused = codes " unused"
flag_word Normal = codes " normal"
flag_word Redirect = codes " redirect"
flag_word Dead = codes " dead"

-- the index tuple that a line pointer points to, or that it points to none
unfoldable pub tree_pointer_text : List ℕ → LinePtr → List ℕ
tree_pointer_text page p =
    if is_misplaced_tree_item (upper_of page) p then codes " rule " ++ code_of B5
    else flag_word p.flag ++ storage_text p ++ tree_head_text (tree_head_of (piece_of page p.off p.len))

unfoldable pub tree_item_line : List ℕ → ℕ → LinePtr → List ℕ
tree_item_line page i p = decimal_field (codes "item ") i ++ tree_pointer_text page p ++ codes "\n"

-- the lines of the first n items, which are counted from 1
pub tree_items_text : List ℕ → ℕ → List ℕ
tree_items_text page zero = []
tree_items_text page (suc n) = tree_items_text page n ++ tree_item_line page (suc n) (item_of page (suc n))

-- a tree page that is laid out: its special space, and, where it is part of the tree, each item
unfoldable pub tree_lines : List ℕ → List ℕ
tree_lines page =
    tree_header_line (opaque_of page) (header_of page)
    ++ (if is_idle page then [] else tree_items_text page (count_of page))

unfoldable pub meta_line : Meta → List ℕ
meta_line meta =
    long_hex_field (codes "meta magic ") meta.magic ++ decimal_field (codes " version ") meta.version
    ++ decimal_field (codes " root ") meta.root ++ decimal_field (codes " level ") meta.level
    ++ decimal_field (codes " fastroot ") meta.fastroot ++ decimal_field (codes " fastlevel ") meta.fastlevel
    ++ codes "\n"

-- block 0
unfoldable pub metapage_text : List ℕ → List ℕ
metapage_text page = page_text (page_rule_of MetaKind page) (is_new page) (meta_line (meta_of page))

-- any other block
unfoldable pub node_text : List ℕ → List ℕ
node_text page = page_text (page_rule_of Tree page) (is_new page) (tree_lines page)

-- the page of a tree with this block number
unfoldable pub tree_page_text : ℕ → List ℕ → List ℕ
tree_page_text block page = if block == 0 then metapage_text page else node_text page

-- Laws of the items so far, for the proofs of loops.

pub heap_items_text-none : (page : List ℕ) → heap_items_text page 0 ≡ []
unfolding heap_items_text
heap_items_text-none page = refl

pub heap_items_text-next : (page : List ℕ) (n : ℕ)
    → heap_items_text page (n + 1) ≡ heap_items_text page n ++ heap_item_line page (n + 1) (item_of page (n + 1))
unfolding heap_items_text
heap_items_text-next page n = rw add-one refl

pub tree_items_text-none : (page : List ℕ) → tree_items_text page 0 ≡ []
unfolding tree_items_text
tree_items_text-none page = refl

pub tree_items_text-next : (page : List ℕ) (n : ℕ)
    → tree_items_text page (n + 1) ≡ tree_items_text page n ++ tree_item_line page (n + 1) (item_of page (n + 1))
unfolding tree_items_text
tree_items_text-next page n = rw add-one refl

pub ruleset items_laws =
    (heap_items_text-none, heap_items_text-next, tree_items_text-none, tree_items_text-next, append-nil, append_assoc)
