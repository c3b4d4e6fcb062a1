use Rattle.std.proofs.Common.{◌≡◌, ◌∙◌, ◌+◌, ℕ, List, ap, length, refl, subst, sym}
use Rattle.std.specs.Prelude.{None}
use Rattle.std.proofs.lemmas.List.{length-map}
use Rattle.bt_build.specs.declared.groups.Item.{Item}
use Rattle.bt_build.specs.Levels.{ArePages, at_firsts, sizes_in}
use Rattle.bt_build.specs.Pages.{page_counts}
use Rattle.bt_build.proofs.PageLaws.{pages_whole}
use Rattle.bt_build.proofs.levels.leaf_level.Goals as goal

pub at_firsts-requires : goal.at_firsts-requires
at_firsts-requires c =
    let sizes = c.deref.ensures.value ∙ c.in_ok-sizes.ensures in
    let counts = c.deref-2.ensures.value ∙ c.in_ok-counts.ensures ∙ ap (page_counts None 5436) sizes in
    let many : length (sizes_in c.args.items.now) ≡ length c.deref-3.result.now =
    length-map c.args.items.now (λ (item : Item). item.size + 4) ∙ sym (length-map c.args.items.now (λ (item : Item). item.first)) ∙ ap length (sym (c.deref-3.ensures.value ∙ c.in_ok-firsts.ensures)) in
    subst (ArePages c.deref-2.result.now) many (subst (λ (w : List ℕ). ArePages w (length (sizes_in c.args.items.now))) (sym counts) (pages_whole None 5436 (sizes_in c.args.items.now)))

pub returns : goal.returns
returns c =
    let sizes = c.deref.ensures.value ∙ c.in_ok-sizes.ensures in
    let counts = c.in_ok-counts.ensures ∙ ap (page_counts None 5436) sizes in
    let firsts = c.deref-3.ensures.value ∙ c.in_ok-firsts.ensures in
    let many : length (sizes_in c.args.items.now) ≡ length c.args.items.now = length-map c.args.items.now (λ (item : Item). item.size + 4) in
    record {
      number = refl;
      first = refl;
      counts = counts;
      bounds = c.in_ok-bounds.ensures ∙ (λ i. at_firsts (c.deref-2.ensures.value i) (firsts i));
      pages = subst (ArePages c.in_ok-counts.counts.items) many (subst (λ (w : List ℕ). ArePages w (length (sizes_in c.args.items.now))) (sym counts) (pages_whole None 5436 (sizes_in c.args.items.now)));
    }
