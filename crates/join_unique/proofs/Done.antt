-- The end of the walk over the entries.
use Rattle.std.proofs.Common.{◌≡◌, ◌≤◌, ◌∙◌, ℕ, List, ap, length, subst, sym, true}
use Rattle.std.specs.Prelude.{All}
use Rattle.outside.specs.Outside.{Names}
use Rattle.laws_search.specs.Keys.{Entry}
use Rattle.laws_search.specs.Search.{IsWanted}
use Rattle.key_orders.specs.declared.columns.Value.{Value}
use Rattle.key_orders.specs.declared.Tid.{Tid}
use Rattle.key_orders.specs.Scans.{Bounds, order_of}
use Rattle.bt_levels.specs.Sound.{image_of, specs_of}
use Rattle.bt_steps.specs.Pages.{is_killed}
use Rattle.bt_search.specs.Spots.{scan_on}
use Rattle.case_file.specs.declared.case.Unique.{Unique}
use Rattle.heap_rows.specs.Rows.{rows_of}
use Rattle.join_row_keys.specs.declared.joined.IndexedHeap.{IndexedHeap}
use Rattle.join_unique.specs.declared.roots.Roots.{Roots}
use Rattle.join_unique.specs.Groups.{Group, closed, entries_met, first_group, later_rows}
use Rattle.join_unique.specs.Roots.{is_root_in}
use Rattle.join_unique.specs.Tables.{AreFewLooks, AreLooks, IsDone, IsWalked, no_bounds, table_for}
use Rattle.join_unique.proofs.Looks.{few-looks}
use denote.Bor.{Bor}

pub done : (names : Names) (at : IndexedHeap) (unique : Unique) (roots : Bor Roots) (scan : Bor Bounds) → scan.now ≡ no_bounds → (first walked ended : Group) → first ≡ first_group unique
    → IsWalked names (record { index = record { at = at; first = 0 }; unique = unique; roots = roots; scan = scan }) scan.now first walked
    → ended ≡ closed (table_for names at unique roots.now) walked
    → IsDone names at unique roots.now ended
done names at unique roots scan free first walked ended start walk close =
    let t = table_for names at unique roots.now in
    record {
      entries = walk.entries;
      wanted = subst (λ (b : Bounds). IsWanted (order_of (specs_of at.tree.now)) is_killed (image_of names at.tree.now) (scan_on at.tree.now b) walk.entries) free walk.wanted;
      is = close ∙ ap (closed t) (walk.walked ∙ ap (entries_met t walk.entries) start);
    }

pub later-is : (names : Names) (at : IndexedHeap) (unique : Unique) (roots : Roots) (es : List (Entry Value Tid)) (group : Group) → group ≡ closed (table_for names at unique roots) (entries_met (table_for names at unique roots) es (first_group unique))
    → group.met.later ≡ later_rows (table_for names at unique roots) es
unfolding later_rows table_for
later-is names at unique roots es group is = ap (λ (g : Group). g.met.later) is

module _ (names : Names) (at : IndexedHeap) (unique : Unique) (roots : Roots) (group : Group) (looks : ℕ) (are : looks ≡ group.looks) where
  pub few-looks-done : IsDone names at unique roots group → AreFewLooks names at looks
  few-looks-done done =
      let t = table_for names at unique roots in
      record {
        entries = done.entries;
        wanted = done.wanted;
        few = subst (λ (n : ℕ). n ≤ length done.entries) (sym (are ∙ ap (λ (g : Group). g.looks) done.is)) (few-looks t unique done.entries);
      }

  pub looks-done : All (λ row. is_root_in roots row.root ≡ true) (rows_of at.case.now names) → IsDone names at unique roots group → AreLooks names at unique looks
  unfolding table_for
  looks-done all done = record {
    may_root = is_root_in roots;
    roots = all;
    entries = done.entries;
    wanted = done.wanted;
    are = are ∙ ap (λ (g : Group). g.looks) done.is;
  }
