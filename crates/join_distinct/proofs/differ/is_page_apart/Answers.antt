use Rattle.std.proofs.Common.{◌≡◌, ◌∙◌, ℕ, List, ap, false, refl, subst, sym, true}
use Rattle.std.specs.Prelude.{None, Option, Some, is_some}
use Rattle.std.specs.Bool.{OnTrue}
use Rattle.std.proofs.lemmas.Bool.{OnTrue_at, OnTrue_from, both_ways}
use Rattle.page_layout.specs.Page.{count_of, page_rule_of}
use Rattle.page_layout.specs.declared.page.PageKind.TheVariants.{Tree}
use Rattle.page_layout.specs.declared.rules.Rule.{Rule}
use Rattle.key_attrs.specs.Columns.{TreeColumns, tree_columns}
use Rattle.bt_steps.specs.Pages.{is_live_leaf}
use Rattle.join_distinct.specs.Apart.{IsApart}
use Rattle.join_distinct.specs.Items.{RisesTo}
use Rattle.join_distinct.proofs.differ.is_page_apart.Goals as goal

none-is : (o : Option Rule) → is_some o ≡ false → o ≡ None
none-is None e = refl
none-is (Some r) e = absurd cc

pub returns-then-not-is_live_leaf : goal.returns-then-not-is_live_leaf
returns-then-not-is_live_leaf c live =
    absurd (both_ways (is_live_leaf c.args.page.now) (sym (c.is_live_leaf.ensures ∙ ap is_live_leaf c.new-page.ensures) ∙ c.if-not-is_live_leaf.true) live)

pub is_leaf_apart-requires-clause-rise : goal.is_leaf_apart-requires-clause-rise
is_leaf_apart-requires-clause-rise c =
    let columns : TreeColumns = tree_columns c.args.columns.now in
    let live = sym (c.is_live_leaf.ensures ∙ ap is_live_leaf c.new-page.ensures) ∙ c.if-not-is_live_leaf.false in
    let rule = none-is c.page_rule.result (sym c.is_some.ensures ∙ c.if-is_some.false) in
    let laid_out = sym (c.page_rule.ensures.value ∙ ap (page_rule_of Tree) c.new-page.ensures) ∙ rule in
    subst (λ (p : List ℕ). RisesTo columns p (count_of p) c.args.rise) (sym c.new-page.ensures) (c.requires.rise live laid_out)

pub returns : goal.returns
returns c =
    let columns : TreeColumns = tree_columns c.args.columns.now in
    let apart = subst (λ (p : List ℕ). OnTrue c.is_leaf_apart.result (IsApart columns p)) c.new-page.ensures c.is_leaf_apart.ensures in
    OnTrue_from c.is_leaf_apart.result (is_live_leaf c.args.page.now ≡ true → IsApart columns c.args.page.now) (λ e live. OnTrue_at e apart)
