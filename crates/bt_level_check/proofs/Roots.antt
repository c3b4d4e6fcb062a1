-- The root and the fast root.
use Rattle.std.proofs.Common.{◌≡◌, ℕ, ◌<◌, inl, inr, Bool, true, false, sym, ap, subst, ◌∙◌}
use Rattle.std.specs.Prelude.{not, ◌||◌, nat_le, nat_lt}
use Rattle.std.proofs.lemmas.Bool.{cases_Bool, le-leb, lt-leb, ltb-false, ltb-true}
use Rattle.laws_levels.specs.Tests.{are_roots_misplaced, is_misplaced}
use Rattle.bt_meta.specs.declared.records.Meta.{Meta}
use Rattle.bt_meta.specs.Pages.{meta_of}
use Rattle.bt_image.proofs.Sound.{roots}
use Rattle.bt_pages.specs.Trees.{Tree}
use Rattle.bt_level_check.specs.Trees.{KeepsPages, image_of}

above : (a b : ℕ) → nat_lt a b ≡ not (nat_le b a)
above a b = elim (cases_Bool (nat_lt a b)) [
  | inl t ↦ t ∙ sym (ap not (lt-leb b a (ltb-true a b t)))
  | inr f ↦ f ∙ sym (ap not (le-leb b a (ltb-false a b f)))
]

module _ (tree : Tree) (keeps : KeepsPages tree) (meta : Meta) (is : meta ≡ meta_of (tree.block 0)) (a b : Bool)
    (root : meta.root < tree.blocks → a ≡ is_misplaced (image_of tree) meta.root meta.level) (fast : meta.fastroot < tree.blocks → b ≡ is_misplaced (image_of tree) meta.fastroot meta.fastlevel) where
  whole : (a || (b || nat_lt meta.level meta.fastlevel)) ≡ are_roots_misplaced (image_of tree)
  whole =
      let inside = roots tree.specs tree.blocks tree.block (keeps.metapage.roots keeps.version) in
      let at_root = root (subst (λ (m : Meta). m.root < tree.blocks) (sym is) inside.0) ∙ ap (λ (m : Meta). is_misplaced (image_of tree) m.root m.level) is in
      let at_fast = fast (subst (λ (m : Meta). m.fastroot < tree.blocks) (sym is) inside.1) ∙ ap (λ (m : Meta). is_misplaced (image_of tree) m.fastroot m.fastlevel) is in
      let over : nat_lt meta.level meta.fastlevel ≡ not (nat_le (meta_of (tree.block 0)).fastlevel (meta_of (tree.block 0)).level) = ap (λ (m : Meta). nat_lt m.level m.fastlevel) is ∙ above _ _ in
      λ i. at_root i || (at_fast i || over i)

  pub by_root : a ≡ true → a ≡ are_roots_misplaced (image_of tree)
  by_root t = t ∙ (λ i. sym t i || (b || nat_lt meta.level meta.fastlevel)) ∙ whole

  pub by_fast : a ≡ false → b ≡ true → b ≡ are_roots_misplaced (image_of tree)
  by_fast f t = t ∙ (λ i. sym f i || (sym t i || nat_lt meta.level meta.fastlevel)) ∙ whole

  pub by_levels : a ≡ false → b ≡ false → nat_lt meta.level meta.fastlevel ≡ are_roots_misplaced (image_of tree)
  by_levels f g = (λ i. sym f i || (sym g i || nat_lt meta.level meta.fastlevel)) ∙ whole
