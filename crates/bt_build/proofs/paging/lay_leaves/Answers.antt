use Rattle.std.proofs.Common.{◌≡◌, ◌<◌, ◌+◌, ◌-◌, ◌∙◌, ℕ, List, add-one, ap, arith, drop, get_or, length, length-drop, subst, sym}
use Rattle.std.specs.Prelude.{All}
use Rattle.std.proofs.lemmas.List.Elements.{All-from_recursion, recursion_from_All}
use Rattle.bt_build.specs.Groups.{IsItem}
use Rattle.bt_build.specs.Laid.{high_bound}
use Rattle.bt_build.specs.Levels.{ArePages}
use Rattle.bt_build.specs.Source.{entries_sorted}
use Rattle.bt_build.proofs.LevelLaws.{all_after}
use Rattle.bt_build.proofs.PageLaws.{pages_here, within_list}
use Rattle.bt_build.proofs.PagingLaws.{leaf_turn, page_laid, room_behind}
use Rattle.bt_build.proofs.paging.lay_leaves.Goals as goal

pub add_items-requires-clause-room : goal.add_items-requires-clause-room
add_items-requires-clause-room c =
    let s = c.args.sorted.source in
    let es = entries_sorted c.args.sorted in
    let counts = c.args.level.now.counts.items in
    let bounds = c.args.level.now.bounds.items in
    let lt : c.loop-p.p < length counts = omega (arith, c.loop-p-test.true, c.len-p-end.ensures, c.args.level.now.counts.ok) in
    let count = c.index.ensures ∙ within_list counts c.loop-p.p c.index.result.now 0 lt in
    let turn = leaf_turn s.specs.now s.more.now es counts bounds c.loop-p.p c.loop-p.prev c.loop-p.block c.index.result.now c.loop-p.left.now c.split_at.result.0.now c.split_at.result.1.now c.loop-p.out.items _ lt
    count c.split_at.ensures.front c.split_at.ensures.back c.loop-p.invariant.0 in
    let high : c.high_after-high.result ≡ high_bound (drop (c.loop-p.p + 1) bounds) = c.high_after-high.ensures ∙ ap (λ (w : List ℕ). high_bound (drop (c.loop-p.p + 1) w)) c.deref.ensures.value in
    room_behind s.specs.now s.more.now es _ _ 0 c.loop-p.prev c.loop-p.block c.loop-p.out.items _ _ c.high_after-high.result _ turn high c.in_ok-page.ensures.room

pub loop-p-preserved : goal.loop-p-preserved
loop-p-preserved c =
    let s = c.args.sorted.source in
    let es = entries_sorted c.args.sorted in
    let counts = c.args.level.now.counts.items in
    let bounds = c.args.level.now.bounds.items in
    let lt : c.loop-p.p < length counts = omega (arith, c.loop-p-test.true, c.len-p-end.ensures, c.args.level.now.counts.ok) in
    let count = c.index.ensures ∙ within_list counts c.loop-p.p c.index.result.now 0 lt in
    let turn = leaf_turn s.specs.now s.more.now es counts bounds c.loop-p.p c.loop-p.prev c.loop-p.block c.index.result.now c.loop-p.left.now c.split_at.result.0.now c.split_at.result.1.now c.loop-p.out.items _ lt
    count c.split_at.ensures.front c.split_at.ensures.back c.loop-p.invariant.0 in
    let high : c.high_after-high.result ≡ high_bound (drop (c.loop-p.p + 1) bounds) = c.high_after-high.ensures ∙ ap (λ (w : List ℕ). high_bound (drop (c.loop-p.p + 1) w)) c.deref.ensures.value in
    let laid = c.in_ok-push_page.ensures _ (c.in_ok-add_items.ensures _ c.in_ok-page.ensures.items) in
    let h = pages_here counts c.loop-p.p 0 (length c.loop-p.left.now) lt c.loop-p.invariant.1 in
    let long : length c.loop-p.left.now - get_or counts c.loop-p.p 0 ≡ length c.split_at.result.1.now =
    (let l = length-drop c.index.result.now c.loop-p.left.now in let b = ap length c.split_at.ensures.back in omega (arith, l, b, count)) in
    let pages : ArePages (drop (c.loop-p.p + 1) counts) (length c.split_at.result.1.now) =
    subst (λ (w : ℕ × ℕ). ArePages (drop w.0 counts) w.1) (λ i. (sym (add-one c.loop-p.p) i, long i)) h.2 in
    let each : All (IsItem s.specs.now s.more.now es) c.split_at.result.1.now =
    subst (All (IsItem s.specs.now s.more.now es)) (sym c.split_at.ensures.back)
    (All-from_recursion (IsItem s.specs.now s.more.now es) (drop c.index.result.now c.loop-p.left.now)
    (all_after (IsItem s.specs.now s.more.now es) c.index.result.now c.loop-p.left.now (recursion_from_All (IsItem s.specs.now s.more.now es) c.loop-p.left.now c.loop-p.invariant.2))) in (
      page_laid s.specs.now s.more.now es _ _ 0 c.loop-p.prev c.loop-p.block c.loop-p.out.items c.push_page.new.out.items _ _ c.high_after-high.result c.special_between-special.result c.next_block.result c.is_some.result
          turn high c.is_some.ensures c.next_block.ensures c.special_between-special.ensures laid,
      pages,
      each,
      omega (arith, c.loop-p.invariant.3),
    )
