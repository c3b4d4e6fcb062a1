use Rattle.std.proofs.Common.{◌≡◌, ◌<◌, ◌+◌, ◌-◌, ◌∙◌, ℕ, List, add-one, ap, arith, drop, get_or, length, length-drop, subst, suc, sym}
use Rattle.bt_build.specs.Laid.{high_bound, special_at}
use Rattle.bt_build.specs.Levels.{ArePages}
use Rattle.bt_build.specs.Source.{entries_sorted}
use Rattle.bt_build.proofs.PageLaws.{pages_here, within_list}
use Rattle.bt_build.proofs.PagingLaws.{inner_turn, page_laid, room_behind}
use Rattle.bt_build.proofs.paging.lay_above.Goals as goal

pub add_downlinks-requires-clause-room : goal.add_downlinks-requires-clause-room
add_downlinks-requires-clause-room c =
    let s = c.args.sorted.source in
    let es = entries_sorted c.args.sorted in
    let counts = c.args.level.now.counts.items in
    let bounds = c.args.level.now.bounds.items in
    let lt : c.loop-p.p < length counts = omega (arith, c.loop-p-test.true, c.len-p-end.ensures, c.args.level.now.counts.ok) in
    let count = c.index-count.ensures ∙ within_list counts c.loop-p.p c.index-count.result.now 0 lt in
    let turn = inner_turn s.specs.now s.more.now es counts bounds c.loop-p.p c.args.below.now.number c.loop-p.prev c.loop-p.block c.index-count.result.now c.loop-p.down c.loop-p.left.now c.split_at.result.0.now c.split_at.result.1.now c.loop-p.out.items _ lt
    count c.split_at.ensures.front c.split_at.ensures.back c.loop-p.invariant.0 in
    let high : c.high_after-high.result ≡ high_bound (drop (c.loop-p.p + 1) bounds) = c.high_after-high.ensures ∙ ap (λ (w : List ℕ). high_bound (drop (c.loop-p.p + 1) w)) c.deref.ensures.value in
    room_behind s.specs.now s.more.now es _ _ (suc c.args.below.now.number) c.loop-p.prev c.loop-p.block c.loop-p.out.items _ _ c.high_after-high.result _ turn high c.in_ok-page.ensures.room

pub loop-p-preserved : goal.loop-p-preserved
loop-p-preserved c =
    let s = c.args.sorted.source in
    let es = entries_sorted c.args.sorted in
    let counts = c.args.level.now.counts.items in
    let bounds = c.args.level.now.bounds.items in
    let lt : c.loop-p.p < length counts = omega (arith, c.loop-p-test.true, c.len-p-end.ensures, c.args.level.now.counts.ok) in
    let count = c.index-count.ensures ∙ within_list counts c.loop-p.p c.index-count.result.now 0 lt in
    let turn = inner_turn s.specs.now s.more.now es counts bounds c.loop-p.p c.args.below.now.number c.loop-p.prev c.loop-p.block c.index-count.result.now c.loop-p.down c.loop-p.left.now c.split_at.result.0.now c.split_at.result.1.now c.loop-p.out.items _ lt
    count c.split_at.ensures.front c.split_at.ensures.back c.loop-p.invariant.0 in
    let high : c.high_after-high.result ≡ high_bound (drop (c.loop-p.p + 1) bounds) = c.high_after-high.ensures ∙ ap (λ (w : List ℕ). high_bound (drop (c.loop-p.p + 1) w)) c.deref.ensures.value in
    let laid = c.in_ok-push_page.ensures _ (c.in_ok-add_downlinks.ensures _ c.in_ok-page.ensures.items) in
    let h = pages_here counts c.loop-p.p 0 (length c.loop-p.left.now) lt c.loop-p.invariant.1 in
    let long : length c.loop-p.left.now - get_or counts c.loop-p.p 0 ≡ length c.split_at.result.1.now =
    (let l = length-drop c.index-count.result.now c.loop-p.left.now in let b = ap length c.split_at.ensures.back in omega (arith, l, b, count)) in
    let pages : ArePages (drop (c.loop-p.p + 1) counts) (length c.split_at.result.1.now) =
    subst (λ (w : ℕ × ℕ). ArePages (drop w.0 counts) w.1) (λ i. (sym (add-one c.loop-p.p) i, long i)) h.2 in
    let special = c.special_between-special.ensures ∙ ap (λ (k : ℕ). special_at k c.loop-p.prev c.next_block.result) (add-one c.args.below.now.number) in (
      page_laid s.specs.now s.more.now es _ _ (suc c.args.below.now.number) c.loop-p.prev c.loop-p.block c.loop-p.out.items c.push_page.new.out.items _ _ c.high_after-high.result c.special_between-special.result c.next_block.result c.is_some.result
          turn high c.is_some.ensures c.next_block.ensures special laid,
      pages,
      omega (arith, c.loop-p.invariant.2),
      omega (arith, c.loop-p.invariant.3, h.1, long, count),
    )
