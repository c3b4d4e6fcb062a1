use Rattle.std.proofs.Common.{◌≡◌, ◌≤◌, ◌+◌, ◌∙◌, ℕ, List, [], ◌∷◌, add-one, ap, arith, length, subst, sym}
use Rattle.std.specs.Prelude.{Some}
use Rattle.std.specs.List.{AllByRecursion}
use Rattle.std.proofs.lemmas.List.{length-map}
use Rattle.std.proofs.lemmas.List.Elements.{recursion_from_All}
use Rattle.bt_build.specs.Levels.{ArePages, at_firsts, split_sizes}
use Rattle.bt_build.specs.Pages.{page_counts}
use Rattle.bt_build.specs.Separators.{split_item}
use Rattle.bt_build.specs.Source.{entries_sorted}
use Rattle.bt_build.proofs.PageLaws.{half_as_many, one_each, pages_whole}
use Rattle.bt_build.proofs.levels.level_above.Goals as goal

pub at_firsts-requires : goal.at_firsts-requires
at_firsts-requires c =
    let specs = c.args.sorted.source.specs.now in
    let es = entries_sorted c.args.sorted in
    let bounds = c.args.below.now.bounds.items in
    let sizes = c.deref-2.ensures.value ∙ c.in_ok-sizes.ensures.sizes ∙ ap (split_sizes specs es) c.deref.ensures.value in
    let counts = c.deref-3.ensures.value ∙ c.in_ok-counts.ensures ∙ ap (page_counts (Some 12) 5436) sizes in
    let many : length (split_sizes specs es bounds) ≡ length c.deref-4.result.now =
    length-map bounds (λ (j : ℕ). length (split_item specs es j 0) + 4) ∙ ap length (sym c.deref-4.ensures.value) in
    subst (ArePages c.deref-3.result.now) many (subst (λ (w : List ℕ). ArePages w (length (split_sizes specs es bounds))) (sym counts) (pages_whole (Some 12) 5436 (split_sizes specs es bounds)))

pub returns : goal.returns
returns c =
    let specs = c.args.sorted.source.specs.now in
    let es = entries_sorted c.args.sorted in
    let bounds = c.args.below.now.bounds.items in
    let sizes = c.deref-2.ensures.value ∙ c.in_ok-sizes.ensures.sizes ∙ ap (split_sizes specs es) c.deref.ensures.value in
    let counts = c.in_ok-counts.ensures ∙ ap (page_counts (Some 12) 5436) sizes in
    let many : length (split_sizes specs es bounds) ≡ length bounds = length-map bounds (λ (j : ℕ). length (split_item specs es j 0) + 4) in
    let firsts = c.in_ok-bounds.ensures ∙ (λ i. at_firsts (c.deref-3.ensures.value i) (c.deref-4.ensures.value i)) in
    let small = each_small (split_sizes specs es bounds) (subst (AllByRecursion (λ size. size ≤ 2716)) (c.in_ok-sizes.ensures.sizes ∙ ap (split_sizes specs es) c.deref.ensures.value) (recursion_from_All (λ size. size ≤ 2716) c.in_ok-sizes.sizes.items c.in_ok-sizes.ensures.small)) in
    let half = half_as_many 12 5436 (split_sizes specs es bounds) small in
    let some = ap length counts in
    let each = ap length firsts ∙ one_each c.in_ok-counts.counts.items bounds in
    record {
      number = add-one c.args.below.now.number;
      first = omega (arith, c.len.ensures, c.args.below.now.bounds.ok);
      counts = counts;
      bounds = firsts;
      pages = subst (ArePages c.in_ok-counts.counts.items) many (subst (λ (w : List ℕ). ArePages w (length (split_sizes specs es bounds))) (sym counts) (pages_whole (Some 12) 5436 (split_sizes specs es bounds)));
      half = omega (arith, half, some, each, many);
    }
  where
    each_small : (sizes : List ℕ) → AllByRecursion (λ size. size ≤ 2716) sizes → AllByRecursion (λ size. 12 + size ≤ 5436) sizes
    each_small [] small = tt
    each_small (s ∷ sizes) small = (omega (arith, small.0), each_small sizes small.1)
