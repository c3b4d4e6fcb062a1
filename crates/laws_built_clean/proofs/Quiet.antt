-- Blocks that keep the rules break none of them.
use Rattle.std.proofs.Common.{◌≡◌, ◌≢◌, ◌≤◌, ◌<◌, inl, inr, ℕ, Bool, true, false, not, ◌&&◌, ◌==◌, nat_le, cond, List, [], ◌∷◌, ◌++◌, refl, sym, ◌∙◌, subst, arith}
use Rattle.std.specs.Prelude.{Option, Some, None, Contains}
use Rattle.std.specs.List.{All, AllByRecursion}
use Rattle.std.proofs.lemmas.Bool.{and_right, both_ways, cases_Bool, leb-false, leb-true}
use Rattle.std.proofs.lemmas.List.Elements.{recursion_from_All}
use Rattle.page_layout.specs.Page.{KeepsPageRules, count_of, has_bad_places, has_other_version, has_unknown_page_flag, is_new_but_written, page_rule_of}
use Rattle.page_layout.specs.declared.page.PageKind.{PageKind}
use Rattle.page_layout.specs.declared.page.PageKind.TheVariants.{Meta, Tree as tree_kind}
use Rattle.page_layout.specs.declared.rules.Rule.{Rule}
use Rattle.page_layout.specs.declared.rules.Rule.TheVariants.{P1, P2, P3, P4}
use Rattle.laws_search.proofs.Gather.{In-from_Contains}
use Rattle.laws_search.proofs.Lists.{Each-append, Each-in}
use Rattle.laws_levels.specs.Rules.{KeepsLevelRules}
use Rattle.bt_meta.specs.Flags.{is_half_dead, is_leaf}
use Rattle.bt_meta.specs.Pages.{is_idle, opaque_of}
use Rattle.bt_image.specs.Image.{first_data}
use Rattle.bt_image.specs.Pages.{KeepsPage, KeepsTreeRules, breaks_high_key, breaks_order}
use Rattle.reports.specs.Lists.{Lists}
use Rattle.reports.specs.declared.places.Place.{Place}
use Rattle.reports.specs.declared.places.Reason.{Reason}
use Rattle.bt_pages.specs.Broken.{AreEmpty, BreaksBlock, DoubtsBlock, alone, item, packed, siblings}
use Rattle.bt_pages.specs.Questions.{are_plain, breaks_item, breaks_lone_rule, downlink_rules, has_downlink, item_rules, lone_rules, order_rules, own_rules}
use Rattle.bt_pages.specs.Trees.{Tree}
use Rattle.bt_pages.proofs.Orders.{order-first}
use Rattle.bt_level_check.specs.Trees.{image_of, order_in}
use Rattle.bt_levels.specs.Broken.{BreaksPages, BreaksTree, DoubtsTree, bad_places, bad_root, in_block, in_pages, long_segment, no_blocks, no_metapage, of_block, old_version, on_levels, other_layout, stray_byte, unknown_flag}

-- a test that isn't passed
passed : (b : Bool) (r : Rule) (rest : Option Rule) → cond b (Some r) rest ≡ None → (b ≡ false) × (rest ≡ None)
passed true r rest h = absurd cc
passed false r rest h = (refl, h)

page_rules : (kind : PageKind) (page : List ℕ) → page_rule_of kind page ≡ None → KeepsPageRules kind page
unfolding page_rule_of
page_rules kind page h =
    let a = passed (has_other_version page) P1 _ h in
    let b = passed (has_unknown_page_flag page) P2 _ a.1 in
    let c = passed (has_bad_places kind page) P3 _ b.1 in
    let d = passed (is_new_but_written page) P4 _ c.1 in
    record { version = a.0; flags = b.0; places = c.0; written = d.0 }

none_of : {X : Type 0} (P : X → Type 0) (xs : List X) → ((x : X) → P x → ⊥) → All P xs → xs ≡ []
none_of P xs no_one all = by_each xs (recursion_from_All P xs all)
  where
    by_each : (xs : List _) → AllByRecursion P xs → xs ≡ []
    by_each [] h = refl
    by_each (x ∷ xs) h = absurd (no_one x h.0)

module _ (tree : Tree) (keeps : KeepsTreeRules tree.specs tree.more tree.blocks tree.block) (levels : KeepsLevelRules (order_in tree) (image_of tree))
    (first : page_rule_of Meta (tree.block 0) ≡ None) (used : (b : ℕ) → b ≢ 0 → b < tree.blocks → (is_idle (tree.block b) ≡ false) × (is_half_dead (opaque_of (tree.block b)) ≡ false)) where
  module _ (b : ℕ) (some : b ≢ 0) (inside : b < tree.blocks) where
    abbrev page : List ℕ
    page = tree.block b

    kept : KeepsPage tree.specs tree.more tree.blocks tree.block b
    kept = keeps.pages b some inside (used b some inside).0

    -- the rules of the page by itself
    lone_kept : AllByRecursion (λ (r : Rule). breaks_lone_rule page r ≡ false) (lone_rules (is_idle page))
    lone_kept =
        let p = page_rules tree_kind page kept.laid_out in
        subst (λ (t : Bool). AllByRecursion (λ (r : Rule). breaks_lone_rule page r ≡ false) (lone_rules t)) (sym (used b some inside).0)
        (p.version, (p.flags, (p.places, (p.written, (kept.flags, (kept.level, (kept.half_dead, (kept.some_items, tt))))))))

    -- the rules of an item
    order_kept : (i : ℕ) → i ≤ count_of page → breaks_order tree.specs tree.more page i ≡ false
    order_kept i to = elim (cases_Bool (nat_le (first_data page) i)) [
      | inl e ↦ kept.order (used b some inside).1 i (record { from = leb-true (first_data page) i e; to = to })
      | inr e ↦ let low = leb-false (first_data page) i e in order-first tree.specs tree.more page i (omega (arith, low))
    ]

    own_kept : (i : ℕ) → 1 ≤ i → i ≤ count_of page → AllByRecursion (λ (r : Rule). breaks_item tree page i r ≡ false) (own_rules (is_half_dead (opaque_of page)))
    own_kept i from to =
        let alive = (used b some inside).1 in
        let k = (kept.items alive i from to).rules in
        subst (λ (t : Bool). AllByRecursion (λ (r : Rule). breaks_item tree page i r ≡ false) (own_rules t)) (sym alive) (k.place, (k.size, (k.form, (k.values, (k.tids, tt)))))

    ordered : (i : ℕ) (dead plain : Bool) → i ≤ count_of page → AllByRecursion (λ (r : Rule). breaks_item tree page i r ≡ false) (order_rules dead plain)
    ordered i true plain to = tt
    ordered i false false to = tt
    ordered i false true to = (order_kept i to, (and_right (i == 1) (breaks_high_key tree.specs tree.more page) (kept.high_key (used b some inside).1), tt))

    leads : (i : ℕ) (t : Bool) → t ≡ has_downlink page i → i ≤ count_of page → AllByRecursion (λ (r : Rule). breaks_item tree page i r ≡ false) (downlink_rules t)
    leads i false e to = tt
    leads i true e to = elim (cases_Bool (is_leaf (opaque_of page))) [
      | inl leaf ↦ absurd (let h : true ≡ false = e ∙ (λ k. not (leaf k) && nat_le (first_data page) i) in cc)
      | inr inner ↦
          let h : true ≡ nat_le (first_data page) i = e ∙ (λ k. not (inner k) && nat_le (first_data page) i) in
          (kept.downlinks inner i (record { from = leb-true (first_data page) i (sym h); to = to }), tt)
    ]

    item_kept : (i : ℕ) → 1 ≤ i → i ≤ count_of page → AllByRecursion (λ (r : Rule). breaks_item tree page i r ≡ false) (item_rules tree.specs tree.more page i)
    item_kept i from to =
        let P : Rule → Type 0 = λ (r : Rule). breaks_item tree page i r ≡ false in
        let dead = is_half_dead (opaque_of page) in
        let plain = are_plain tree.specs tree.more page (count_of page) in
        Each-append P (own_rules dead ++ order_rules dead plain) (downlink_rules (has_downlink page i))
        (Each-append P (own_rules dead) (order_rules dead plain) (own_kept i from to) (ordered i dead plain to)) (leads i (has_downlink page i) refl to)

    none_broken : (rule : Rule) (rules : List Rule) (test : Rule → Bool) → AllByRecursion (λ (r : Rule). test r ≡ false) rules → Contains rules rule → test rule ≡ true → ⊥
    none_broken rule rules test each among h = both_ways (test rule) (Each-in (λ (r : Rule). test r ≡ false) rule rules each (In-from_Contains rules rule among)) h

    block_kept : (rule : Rule) (place : Place) → BreaksBlock tree b rule place → ⊥
    block_kept _ _ (alone rule among h) = none_broken rule (lone_rules (is_idle page)) (breaks_lone_rule page) lone_kept among h
    block_kept _ _ (siblings judged h) = both_ways _ kept.siblings h
    block_kept _ _ (item i rule judged among h) = none_broken rule (item_rules tree.specs tree.more page i) (breaks_item tree page i) (item_kept i judged.first judged.last) among h

    block_sure : (reason : Reason) (place : Place) → DoubtsBlock tree b reason place → ⊥
    block_sure _ _ (packed i judged alive own h) = both_ways _ (kept.items alive i judged.first judged.last).read h

  pages_kept : (rule : Rule) (place : Place) → BreaksPages tree None rule place → ⊥
  pages_kept _ _ (long_segment k is) = absurd cc
  pages_kept _ _ (no_blocks e) = let some = keeps.some in absurd (omega (arith, e, some))
  pages_kept _ _ (other_layout some h) = both_ways _ (page_rules Meta (tree.block 0) first).version h
  pages_kept _ _ (unknown_flag some h) = both_ways _ (page_rules Meta (tree.block 0) first).flags h
  pages_kept _ _ (bad_places some h) = both_ways _ (page_rules Meta (tree.block 0) first).places h
  pages_kept _ _ (stray_byte some h) = both_ways _ (page_rules Meta (tree.block 0) first).written h
  pages_kept _ _ (no_metapage some h) = both_ways _ keeps.metapage.metapage h
  pages_kept _ _ (bad_root some version h) = both_ways _ (keeps.metapage.roots version) h
  pages_kept _ _ (in_block b rule place other h) = block_kept b (λ z. let f = other.first in omega (arith, z, f)) other.inside rule place h

  pub tree_kept : (rule : Rule) (place : Place) → BreaksTree tree None rule place → ⊥
  tree_kept _ _ (in_pages rule place h) = pages_kept rule place h
  tree_kept _ _ (on_levels rule b _ h) = levels rule b h

  pub tree_sure : (reason : Reason) (place : Place) → DoubtsTree tree reason place → ⊥
  tree_sure _ _ (old_version keeps_it version) = version keeps.version
  tree_sure _ _ (of_block b reason place other h) = block_sure b (λ z. let f = other.first in omega (arith, z, f)) other.inside reason place h

  pub quiet : (lists : Lists) → All (λ f. BreaksTree tree None f.rule f.place) lists.findings → All (λ u. DoubtsTree tree u.reason u.place) lists.unjudged → AreEmpty lists
  quiet lists found unsure = record {
    findings = none_of (λ f. BreaksTree tree None f.rule f.place) lists.findings (λ f h. tree_kept f.rule f.place h) found;
    unjudged = none_of (λ u. DoubtsTree tree u.reason u.place) lists.unjudged (λ u h. tree_sure u.reason u.place h) unsure;
  }
