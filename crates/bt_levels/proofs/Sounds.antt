-- Whether two separators are the same, and the image of an index whose pages keep their rules.
use Rattle.std.proofs.Common.{◌≡◌, true, ◌↔◌, Ordering, Less, Equal, Greater, refl}
use Rattle.std.specs.Ordering.{is_eq}
use Rattle.laws_search.specs.Keys.{Separator, compare_keys}
use Rattle.laws_levels.specs.Same.{same_keys}
use Rattle.laws_levels.specs.Sound.{HasSoundPages, IsSame}
use Rattle.laws_levels.proofs.Broken.{silent}
use Rattle.key_orders.specs.declared.columns.KeySpec.{KeySpec}
use Rattle.key_orders.specs.declared.columns.Value.{Value}
use Rattle.key_orders.specs.declared.Tid.{Tid}
use Rattle.key_orders.specs.Keys.{columns_of, tid_order}
use Rattle.std.proofs.Common.{List, sym, subst}
use Rattle.std.specs.Prelude.{None}
use Rattle.outside.specs.Outside.{Names}
use Rattle.rel_files.specs.Blocks.{block_of}
use Rattle.case_file.specs.Record.{CaseRecord}
use Rattle.bt_pages.specs.Trees.{Tree}
use Rattle.bt_level_check.specs.Shape.{IsShapeOf}
use Rattle.bt_level_check.specs.Trees.{first_broken_in, image_of, order_in, same_in}
use Rattle.bt_levels.specs.declared.sound.SoundTree.{SoundTree}
use Rattle.bt_levels.specs.Broken.{IsTrueTree}
use Rattle.bt_levels.specs.Files.{BelongsTo, IsFileOf, number_of}
use Rattle.bt_levels.specs.Index.{case_columns, tree_of}
use Rattle.bt_levels.specs.Sound.{HoldsTree, block_count, file_of, held_block, index_columns, more_of, specs_of}

eq_equal : (a : Ordering) → is_eq a ≡ true → a ≡ Equal
eq_equal Less h = absurd cc
eq_equal Equal h = refl
eq_equal Greater h = absurd cc

equal_eq : (a : Ordering) → a ≡ Equal → is_eq a ≡ true
equal_eq Less h = absurd cc
equal_eq Equal h = refl
equal_eq Greater h = absurd cc

pub same_law : (specs : List KeySpec) → ((s t : Separator Value Tid) → (compare_keys (columns_of specs) tid_order s t ≡ Equal) ↔ (s ≡ t)) → IsSame (same_keys (columns_of specs) tid_order)
same_law specs same_key s t = (λ e. (same_key s t).0 (eq_equal _ e), λ e. equal_eq _ ((same_key s t).1 e))

-- an index of a case in which nothing was found is what a search of it asks for
pub holds-from : (case : CaseRecord) (names : Names) (sound : SoundTree) → index_columns sound ≡ case_columns case (number_of (file_of sound)) → IsFileOf case names (file_of sound) → BelongsTo case (file_of sound)
    → IsTrueTree (tree_of case names (number_of (file_of sound))) → first_broken_in (tree_of case names (number_of (file_of sound))) ≡ None → IsShapeOf (tree_of case names (number_of (file_of sound))) sound.shape → HoldsTree names sound
holds-from case names sound columns file belongs true_tree none shape =
    let n = number_of (file_of sound) in
    let own : Tree = record { number = n; specs = specs_of sound; more = more_of sound; blocks = block_count sound; block = held_block names sound } in
    let same : tree_of case names n ≡ own = λ i. record {
      number = n;
      specs = (sym columns i).specs;
      more = (sym columns i).more;
      blocks = sym file.count i;
      block = block_of names (sym belongs.named.named i) (sym belongs.named.sized i);
    } in
    let held : IsTrueTree own = subst IsTrueTree same true_tree in
    let formed : IsShapeOf own sound.shape = subst (λ (t : Tree). IsShapeOf t sound.shape) same shape in
    let unbroken : first_broken_in own ≡ None = subst (λ (t : Tree). first_broken_in t ≡ None) same none in
    record {
      attached = file.attached;
      pages = held.pages;
      levels = held.levels;
      fastroot = formed.fastroot;
      fastlevel = formed.fastlevel;
      right_halves = formed.right_halves unbroken;
      half_dead = formed.half_dead unbroken;
    }

-- where its levels break no rule, none is found
pub none-found : (tree : Tree) → IsSame (same_in tree) → HasSoundPages (order_in tree) (image_of tree) → IsTrueTree tree → first_broken_in tree ≡ None
none-found tree same local kept = silent (same_in tree) (order_in tree) (image_of tree) same local kept.levels
