use Rattle.std.proofs.Common.{ℕ, zero, suc, ◌≤◌, Bool, List, sym, subst, arith}
use Rattle.laws_search.specs.Order.{Scan}
use Rattle.laws_search.specs.Search.{Answers, At, Ended, IsWanted, State, Stuck, search_start, visit}
use Rattle.laws_search.specs.Spots.{left_of, visits_made}
use Rattle.laws_search.specs.Tree.{Index}
use Rattle.laws_search.specs.Keys.{Entry}
use Rattle.laws_search.proofs.Spots.{reads_in_steps}
use Rattle.laws_search.proofs.Whole.{finds}
use Rattle.key_orders.specs.declared.columns.Value.{Value}
use Rattle.key_orders.specs.declared.Tid.{Tid}
use Rattle.key_orders.specs.Scans.{order_of}
use Rattle.bt_levels.specs.Sound.{block_count, image_of, specs_of}
use Rattle.bt_steps.specs.Pages.{is_killed}
use Rattle.bt_search.specs.Spots.{scan_on}
use Rattle.bt_search.proofs.laws.searches_go_in_steps.Goals as goal

made-most : {S E : Type 0} (killed : E → Bool) (x : Index S E) (scan : Scan S E) (n : ℕ) (s : State E) → visits_made killed x scan n s ≤ n
made-most killed x scan zero s = omega arith
made-most killed x scan (suc n) (At b ys) = let rest = made-most killed x scan n (visit killed x scan b ys) in omega (arith, rest)
made-most killed x scan (suc n) (Ended ys) = omega arith
made-most killed x scan (suc n) Stuck = omega arith

left-most : {S E : Type 0} (killed : E → Bool) (x : Index S E) (scan : Scan S E) (s : State E) → left_of killed x scan s ≤ x.blocks
unfolding left_of
left-most killed x scan s = made-most killed x scan x.blocks s

pub returns : goal.returns
returns c names sound bounds holds =
    let x = image_of names sound in
    let scan = scan_on sound bounds in
    let order = order_of (specs_of sound) in
    let found = finds order x (c.keys_are_searchable.ensures.order (specs_of sound)) (c.sound_trees_are_searchable.ensures names sound holds) is_killed scan (c.keys_are_searchable.ensures.scan (specs_of sound) bounds) in
    let steps = reads_in_steps x is_killed scan found.0 found.2 in
    record {
      wanted = subst (λ (es : List (Entry Value Tid)). IsWanted order is_killed x scan es) (sym steps.0) found.1;
      answer = subst (λ (es : List (Entry Value Tid)). Answers is_killed x scan (block_count sound) es) (sym steps.0) found.2;
      most = left-most is_killed x scan (search_start x);
      visits = steps.1;
      reads = steps.2;
    }
