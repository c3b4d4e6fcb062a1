use Rattle.std.proofs.Common.{◌≡◌, ◌≤◌, ◌∙◌, ◌++◌, ℕ, List, ap, arith, length, subst, sym}
use Rattle.std.specs.List.{AllByRecursion}
use Rattle.std.proofs.lemmas.List.Elements.{All-from_recursion, recursion_from_All}
use Rattle.bt_image.specs.Image.{LeafEntry}
use Rattle.laws_building.specs.Built.{lay_levels}
use Rattle.laws_built_index.specs.Items.{plain_item}
use Rattle.laws_built_index.specs.Trees.{IsPageFit}
use Rattle.page_write.specs.Pages.{meta_page}
use Rattle.bt_build.specs.declared.groups.Item.{Item}
use Rattle.bt_build.specs.Laid.{levels_bytes}
use Rattle.bt_build.specs.Levels.{AreLevels, sheets_of}
use Rattle.bt_build.specs.Outcome.{meta_for}
use Rattle.bt_build.specs.Source.{IsSmallOf, entries_sorted}
use Rattle.bt_build.proofs.EndLaws.{levels_few, small_places}
use Rattle.bt_build.proofs.TreeLaws.{bytes_are, end_is, levels_fit}
use Rattle.bt_build.proofs.build.build_sorted.Goals as goal

pub cut_items-requires-clause-small : goal.cut_items-requires-clause-small
cut_items-requires-clause-small c =
    let s = c.args.sorted.source in
    let es = entries_sorted c.args.sorted in
    All-from_recursion (IsSmallOf s) c.args.sorted.places.now
    (small_places s.specs.now s.more.now s.arena.now c.args.sorted.places.now
    (recursion_from_All (λ (e : LeafEntry). length (plain_item s.specs.now s.more.now e.entry e.more) ≤ 2704) es c.requires.indexable.small))

pub returns-then-from-all : goal.returns-then-from-all
returns-then-from-all c =
    let s = c.args.sorted.source in
    let es = entries_sorted c.args.sorted in
    let items = c.in_ok-items.items.items in
    let are = c.in_ok-items.ensures in
    let all = c.in_ok-all.all in
    let levels : AreLevels s.specs.now es items all.levels.items all.end = subst (λ (w : List Item). AreLevels s.specs.now es w all.levels.items all.end) c.deref.ensures.value c.in_ok-all.ensures in
    let end = end_is s.specs.now s.more.now es items are all.levels.items all.end levels in
    (end, omega (arith, c.if-from-all.true))

pub overflow_cast-len : goal.overflow_cast-len
overflow_cast-len c =
    let s = c.args.sorted.source in
    let es = entries_sorted c.args.sorted in
    let items = c.in_ok-items.items.items in
    let are = c.in_ok-items.ensures in
    let all = c.in_ok-all.all in
    let levels : AreLevels s.specs.now es items all.levels.items all.end = subst (λ (w : List Item). AreLevels s.specs.now es w all.levels.items all.end) c.deref.ensures.value c.in_ok-all.ensures in
    let end = end_is s.specs.now s.more.now es items are all.levels.items all.end levels in
    let few = levels_few s.specs.now es items all.levels.items all.end levels in
    omega (arith, few.1, c.if-from-all.false, c.len-2.ensures, all.levels.ok)

pub begin_file-requires-clause-blocks : goal.begin_file-requires-clause-blocks
begin_file-requires-clause-blocks c =
    let s = c.args.sorted.source in
    let es = entries_sorted c.args.sorted in
    let items = c.in_ok-items.items.items in
    let are = c.in_ok-items.ensures in
    let all = c.in_ok-all.all in
    let levels : AreLevels s.specs.now es items all.levels.items all.end = subst (λ (w : List Item). AreLevels s.specs.now es w all.levels.items all.end) c.deref.ensures.value c.in_ok-all.ensures in
    let end = end_is s.specs.now s.more.now es items are all.levels.items all.end levels in
    omega (arith, end)

pub begin_file-requires-clause-levels : goal.begin_file-requires-clause-levels
begin_file-requires-clause-levels c =
    let s = c.args.sorted.source in
    let es = entries_sorted c.args.sorted in
    let items = c.in_ok-items.items.items in
    let are = c.in_ok-items.ensures in
    let all = c.in_ok-all.all in
    let levels : AreLevels s.specs.now es items all.levels.items all.end = subst (λ (w : List Item). AreLevels s.specs.now es w all.levels.items all.end) c.deref.ensures.value c.in_ok-all.ensures in
    let end = end_is s.specs.now s.more.now es items are all.levels.items all.end levels in
    let few = levels_few s.specs.now es items all.levels.items all.end levels in
    omega (arith, few.0, c.len-2.ensures, all.levels.ok)

pub lay_levels-requires-clause-fit : goal.lay_levels-requires-clause-fit
lay_levels-requires-clause-fit c =
    let s = c.args.sorted.source in
    let es = entries_sorted c.args.sorted in
    let items = c.in_ok-items.items.items in
    let are = c.in_ok-items.ensures in
    let all = c.in_ok-all.all in
    let levels : AreLevels s.specs.now es items all.levels.items all.end = subst (λ (w : List Item). AreLevels s.specs.now es w all.levels.items all.end) c.deref.ensures.value c.in_ok-all.ensures in
    let end = end_is s.specs.now s.more.now es items are all.levels.items all.end levels in
    let fit = c.index_trees_may_be_laid.ensures s.specs.now s.more.now es c.requires.indexable (omega (arith, end, c.if-from-all.false)) in
    subst (λ (w : List Item). AllByRecursion (IsPageFit s.specs.now s.more.now) (lay_levels (sheets_of s.specs.now es w all.levels.items) 0 1)) (sym c.deref-2.ensures.value)
    (levels_fit s.specs.now s.more.now es items are all.levels.items all.end levels fit)

pub returns : goal.returns
returns c =
    let s = c.args.sorted.source in
    let es = entries_sorted c.args.sorted in
    let items = c.in_ok-items.items.items in
    let are = c.in_ok-items.ensures in
    let all = c.in_ok-all.all in
    let levels : AreLevels s.specs.now es items all.levels.items all.end = subst (λ (w : List Item). AreLevels s.specs.now es w all.levels.items all.end) c.deref.ensures.value c.in_ok-all.ensures in
    let end = end_is s.specs.now s.more.now es items are all.levels.items all.end levels in
    let count : c.len-2.result ≡ length all.levels.items = omega (arith, c.len-2.ensures, all.levels.ok) in
    record {
      few = omega (arith, end, c.if-from-all.false);
      blocks = end;
      bytes =
          c.in_ok-lay_levels.ensures
          ∙ (λ i. (c.in_ok-bytes.ensures ∙ ap (λ (n : ℕ). meta_page (meta_for all.end n)) count) i ++ levels_bytes s.specs.now s.more.now (sheets_of s.specs.now es (c.deref-2.ensures.value i) all.levels.items) 0 1)
          ∙ bytes_are s.specs.now s.more.now es items are all.levels.items all.end levels;
    }
