-- The lists of an item and of a page, by what is found of them.
use Rattle.std.proofs.Common.{◌≡◌, ℕ, zero, suc, ◌≤◌, ◌∙◌, Bool, true, false, List, refl, sym, ap, arith}
use Rattle.std.specs.Prelude.{◌&&◌, find, nat_le, not, Option, Some, None}
use Rattle.std.specs.Option.{option_or}
use Rattle.std.proofs.lemmas.List.Folds.{find-append}
use Rattle.page_layout.specs.Page.{count_of}
use Rattle.page_layout.specs.declared.rules.Rule.{Rule}
use Rattle.bt_meta.specs.Flags.{is_half_dead, is_leaf}
use Rattle.bt_meta.specs.Pages.{is_idle, opaque_of}
use Rattle.bt_image.specs.Image.{first_data}
use Rattle.reports.specs.Added.{doubt_at, each_upto, finding_at, joined, nothing, report_lists}
use Rattle.reports.specs.Lists.{Lists}
use Rattle.reports.specs.declared.places.Reason.{Reason}
use Rattle.bt_pages.specs.declared.pass.Pass.TheVariants.{Ordered}
use Rattle.bt_pages.specs.Found.{block_place, item_lists, item_place, items_lists, lists_by, page_lists}
use Rattle.bt_pages.specs.Passes.{pass_of}
use Rattle.bt_pages.specs.Questions.{are_plain, breaks_item, breaks_on_page, downlink_rules, has_downlink, item_rule, lone_rule, own_doubt, rule_on_page, rules_by, sibling_rule}
use Rattle.bt_pages.specs.Trees.{Tree}
use Rattle.bt_pages.proofs.Among.{ordered_by, own_doubt-plain, rule-ordered}
use Rattle.bt_pages.proofs.Passing.{plain-each}

module _ (tree : Tree) (page : List ℕ) (i : ℕ) where
  same_test : (h p : Bool) → find (breaks_item tree page i) (rules_by h p) ≡ find (breaks_on_page tree.specs tree.more page i) (rules_by h p)
  same_test true p = refl
  same_test false true = refl
  same_test false false = refl

  -- what is found before the downlink is followed, and else there
  pub item_rule-parts : item_rule tree page i ≡ option_or (rule_on_page tree.specs tree.more page i) (find (breaks_item tree page i) (downlink_rules (has_downlink page i)))
  unfolding item_rule rule_on_page
  item_rule-parts =
      find-append (breaks_item tree page i) (rules_by (is_half_dead (opaque_of page)) (are_plain tree.specs tree.more page (count_of page))) (downlink_rules (has_downlink page i))
      ∙ ap (λ (o : Option Rule). option_or o (find (breaks_item tree page i) (downlink_rules (has_downlink page i))))
      (same_test (is_half_dead (opaque_of page)) (are_plain tree.specs tree.more page (count_of page)))

  pub item_rule-some : (rule : Rule) → Some rule ≡ rule_on_page tree.specs tree.more page i → Some rule ≡ item_rule tree page i
  item_rule-some rule is = sym (item_rule-parts ∙ ap (λ (o : Option Rule). option_or o (find (breaks_item tree page i) (downlink_rules (has_downlink page i)))) (sym is))

  pub item_rule-none : (rule : Option Rule) → None ≡ rule_on_page tree.specs tree.more page i → rule ≡ find (breaks_item tree page i) (downlink_rules (has_downlink page i)) → rule ≡ item_rule tree page i
  item_rule-none rule is found = found ∙ sym (item_rule-parts ∙ ap (λ (o : Option Rule). option_or o (find (breaks_item tree page i) (downlink_rules (has_downlink page i)))) (sym is))

  no_downlink : is_leaf (opaque_of page) ≡ true → has_downlink page i ≡ false
  no_downlink leaf = ap (λ (l : Bool). not l && nat_le (first_data page) i) leaf

  -- an item of a leaf whose items rise
  pub item_rule-ordered : 1 ≤ i → i ≤ count_of page → Ordered ≡ pass_of tree.specs tree.more page → is_leaf (opaque_of page) ≡ true → item_rule tree page i ≡ None
  item_rule-ordered first last ordered leaf =
      item_rule-parts ∙ ap (λ (o : Option Rule). option_or o (find (breaks_item tree page i) (downlink_rules (has_downlink page i)))) (rule-ordered tree.specs tree.more page i first last ordered)
      ∙ ap (λ (l : Bool). find (breaks_item tree page i) (downlink_rules l)) (no_downlink leaf)

  pub lists-item : (b : ℕ) (rule : Option Rule) (doubt : Option Reason) → rule ≡ item_rule tree page i → doubt ≡ own_doubt tree.specs tree.more page i
      → joined (finding_at (item_place tree b i) rule) (doubt_at (item_place tree b i) doubt) ≡ item_lists tree b page i
  unfolding item_lists
  lists-item b rule doubt r d = λ k. joined (finding_at (item_place tree b i) (r k)) (doubt_at (item_place tree b i) (d k))

module _ (tree : Tree) (b : ℕ) (page : List ℕ) where
  item-ordered : (i : ℕ) → 1 ≤ i → i ≤ count_of page → Ordered ≡ pass_of tree.specs tree.more page → is_leaf (opaque_of page) ≡ true → item_lists tree b page i ≡ nothing
  item-ordered i first last ordered leaf =
      let says = ordered_by tree.specs tree.more page ordered in
      sym (lists-item tree page i b None None (sym (item_rule-ordered tree page i first last ordered leaf))
      (sym (own_doubt-plain tree.specs tree.more page i (plain-each tree.specs tree.more page i (count_of page) first last says.all))))

  none_upto : (f : ℕ → Lists) (n : ℕ) → ((i : ℕ) → 1 ≤ i → i ≤ n → f i ≡ nothing) → each_upto report_lists f n ≡ nothing
  unfolding each_upto
  none_upto f zero each = refl
  none_upto f (suc n) each = λ k. joined (none_upto f n (λ i first last. each i first (omega arith)) k) (each (suc n) (omega arith) (omega arith) k)

  -- the items of such a leaf
  pub items-ordered : Ordered ≡ pass_of tree.specs tree.more page → is_leaf (opaque_of page) ≡ true → items_lists tree b page ≡ nothing
  unfolding items_lists
  items-ordered ordered leaf = none_upto (item_lists tree b page) (count_of page) (λ i first last. item-ordered i first last ordered leaf)

  pub page-broken : (rule : Rule) → Some rule ≡ lone_rule page → finding_at (block_place tree b) (Some rule) ≡ page_lists tree b page
  unfolding page_lists
  page-broken rule is = ap (λ (r : Option Rule). lists_by tree b page r (is_idle page)) is

  pub page-idle : None ≡ lone_rule page → is_idle page ≡ true → page_lists tree b page ≡ nothing
  unfolding page_lists
  page-idle is idle = λ k. lists_by tree b page (sym is k) (idle k)

  pub page-live : (rule : Option Rule) → None ≡ lone_rule page → is_idle page ≡ false → rule ≡ sibling_rule tree b
      → joined (finding_at (block_place tree b) rule) (items_lists tree b page) ≡ page_lists tree b page
  unfolding page_lists
  page-live rule is idle found =
      ap (λ (r : Option Rule). joined (finding_at (block_place tree b) r) (items_lists tree b page)) found ∙ (λ k. lists_by tree b page (is k) (sym idle k))
