-- What is known of a page that is taken in hand, and how many were.
use Rattle.std.proofs.Common.{◌≡◌, ◌≢◌, ◌+◌, ◌<◌, ℕ, List, true, subst, sym, arith}
use Rattle.std.specs.Prelude.{Ok, Some}
use Rattle.std.proofs.lemmas.Grind.{common_steps}
use Rattle.outside.specs.declared.files.Failed.{Failed}
use Rattle.outside.specs.Outside.{AskedWithin, Names, Seen, failed}
use Rattle.key_attrs.specs.Columns.{TreeColumns}
use Rattle.bt_levels.specs.declared.sound.SoundTree.{SoundTree}
use Rattle.bt_levels.specs.Sound.{HoldsTree, block_count, held_block, index_columns}
use Rattle.bt_steps.specs.Pages.{IsReadable, is_live_leaf}
use Rattle.bt_steps.proofs.OnLeaf.{live-parts, page-readable}

-- a leaf of the index can be read
pub block-readable : (names : Names) (sound : SoundTree) → HoldsTree names sound → (b : ℕ) → b ≢ 0 → b < block_count sound → is_live_leaf (held_block names sound b) ≡ true → IsReadable (index_columns sound) (held_block names sound b)
block-readable names sound holds b some inside live =
    page-readable (index_columns sound) (block_count sound) (held_block names sound) b (holds.pages.pages b some inside (live-parts (held_block names sound b) live).1)

-- what is known of a page is known of it by another name
pub readable-by : (s t : TreeColumns) (p q : List ℕ) → s ≡ t → p ≡ q → (is_live_leaf q ≡ true → IsReadable t q) → is_live_leaf p ≡ true → IsReadable s p
readable-by s t p q same-specs same-page h =
    subst (λ (x : TreeColumns). is_live_leaf p ≡ true → IsReadable x p) (sym same-specs)
    (subst (λ (x : List ℕ). is_live_leaf x ≡ true → IsReadable t x) (sym same-page) h)

-- one read more
pub passed-more : {D E U : Type 0} {n : ℕ} {a b d : Seen} {y : U} {e : D} {f : E} → AskedWithin {T = Failed} {E = D} (Some n) a b (Ok failed) e → AskedWithin {T = U} {E = E} (Some 1) b d (Ok y) f
    → AskedWithin {T = Failed} {E = Failed} (Some (n + 1)) a d (Ok failed) failed
passed-more g h = grind (arith, common_steps)
