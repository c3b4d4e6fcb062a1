-- What the visibility map says of a heap block, by the page in hand, and what is found of its pages.
use Rattle.std.proofs.Common.{◌≡◌, ℕ, ◌<◌, ◌≤◌, Bool, true, false, List, refl, ap, ◌∙◌, arith}
use Rattle.std.specs.Prelude.{Option, nat_lt, if◌then◌else◌}
use Rattle.std.proofs.lemmas.Grind.{common_steps}
use Rattle.outside.specs.Outside.{Names}
use Rattle.page_layout.specs.Page.{page_rule_of}
use Rattle.page_layout.specs.declared.page.PageKind.TheVariants.{Map}
use Rattle.page_layout.specs.declared.rules.Rule.{Rule}
use Rattle.rel_files.specs.Blocks.{block_of}
use Rattle.reports.specs.declared.places.Place.TheVariants.{Block}
use Rattle.reports.specs.declared.places.Rel.TheVariants.{Map as map}
use Rattle.vis_map.specs.Bits.{map_page_of, no_bits}
use Rattle.vis_map.specs.declared.bits.MapBits.{MapBits}
use Rattle.heap_table_check.specs.Map.{map_bits, map_block_found, map_page_found, page_bits}
use Rattle.reports.specs.Added.{finding_at}

by_false : (t : Bool) (a b : MapBits) → t ≡ false → b ≡ (if t then a else b)
by_false t a b e = rw e refl

by_true : (t : Bool) (a b : MapBits) → t ≡ true → a ≡ (if t then a else b)
by_true t a b e = rw e refl

-- a map without a page for the block says nothing of it
pub no_page : (names : Names) (base : List ℕ) (size count block : ℕ) → count ≤ map_page_of block → no_bits ≡ map_bits names base size count block
unfolding map_bits
no_page names base size count block le =
    let none : nat_lt (map_page_of block) count ≡ false = grind (arith, common_steps) in
    by_false (nat_lt (map_page_of block) count) (page_bits (block_of names base size (map_page_of block)) block) no_bits none

-- the page in hand says what the map says
pub page_says : (names : Names) (base : List ℕ) (size count block page : ℕ) (bytes : List ℕ) → page ≡ map_page_of block → page < count → bytes ≡ block_of names base size page → page_bits bytes block ≡ map_bits names base size count block
unfolding map_bits
page_says names base size count block page bytes e lt is =
    let inside : nat_lt (map_page_of block) count ≡ true = grind (arith, common_steps) in
    ap (λ (b : List ℕ). page_bits b block) (is ∙ ap (block_of names base size) e)
    ∙ by_true (nat_lt (map_page_of block) count) (page_bits (block_of names base size (map_page_of block)) block) no_bits inside

-- what is found of a page that was read
pub page_found : (names : Names) (base : List ℕ) (size block : ℕ) (bytes : List ℕ) (rule : Option Rule) → bytes ≡ block_of names base size block → rule ≡ page_rule_of Map bytes → finding_at (Block map block) rule ≡ map_block_found names base size block
unfolding map_block_found map_page_found
page_found names base size block bytes rule e is = ap (finding_at (Block map block)) (is ∙ ap (page_rule_of Map) e)
