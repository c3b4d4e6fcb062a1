-- The left sibling of a page in use.
use Rattle.std.proofs.Common.{◌≡◌, ◌≢◌, ◌<◌, ℕ, false, ◌∙◌, sym, subst}
use Rattle.laws_search.specs.Searchable.{IsInUse}
use Rattle.bt_meta.specs.Pages.{opaque_of}
use Rattle.bt_image.proofs.PageFields.{left_good}
use Rattle.bt_pages.specs.Trees.{Tree}
use Rattle.bt_level_check.specs.Trees.{KeepsPages, image_of}

pub left_used : (tree : Tree) → KeepsPages tree → (b left : ℕ) → IsInUse (image_of tree) b → left ≡ (opaque_of (tree.block b)).prev → left ≢ 0 → IsInUse (image_of tree) left
left_used tree keeps b left used is some =
    let kept = keeps.pages b used.not_meta used.inside used.used in
    let good = left_good tree.blocks tree.block b kept.siblings (λ z. some (is ∙ z)) in
    record { not_meta = some; inside = subst (λ (q : ℕ). q < tree.blocks) (sym is) good.0; used = subst (λ (q : ℕ). ((image_of tree).page q).idle ≡ false) (sym is) good.1 }
