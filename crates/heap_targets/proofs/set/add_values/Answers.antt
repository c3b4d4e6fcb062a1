use Rattle.std.proofs.Common.{◌≡◌, ◌∙◌, ◌+◌, length, ap, arith, sym}
use Rattle.std.proofs.lemmas.List.{with_items_is}
use Rattle.std.proofs.lemmas.Result.{err_from_is_err_and}
use Rattle.page_layout.specs.Page.{count_of}
use Rattle.page_layout.specs.View.{page_bytes}
use Rattle.page_layout.specs.Bits.{is_set}
use Rattle.heap_targets.specs.Packed.{end_of}
use Rattle.heap_targets.proofs.Blocks.{HasTargets, block_by_page, packed_by_page, same_blocks}
use Rattle.heap_targets.proofs.set.add_values.Goals as goal

pub returns-in_err-make_room-clause-err : goal.returns-in_err-make_room-clause-err
returns-in_err-make_room-clause-err c =
    let p = err_from_is_err_and c.from_residual.result c.from_residual.ensures.1 in
    let bits = c.args.bits.now.items in
    rw p.1 (same_blocks c.args.starts.now.items bits c.make_room.new.bits.items c.requires.packed.ordered (λ place _. c.in_err-make_room.ensures.same place))

pub returns-in_err-push-clause-err : goal.returns-in_err-push-clause-err
returns-in_err-push-clause-err c =
    let p = err_from_is_err_and c.from_residual-in_err-push.result c.from_residual-in_err-push.ensures.1 in
    let bits = c.args.bits.now.items in
    rw (p.1, c.in_err-push.ensures.items) (same_blocks c.args.starts.now.items bits c.make_room.new.bits.items c.requires.packed.ordered (λ place _. c.in_ok-make_room.ensures.same place))

pub returns : goal.returns
returns c =
    let starts = c.args.starts.now.items in
    let bits = c.args.bits.now.items in
    let page = page_bytes c.args.page in
    let new = c.set_targets.new.bits in
    let long : length new ≡ c.make_room.new.bits.len = omega (arith, c.set_targets.auto.bits, c.deref_mut.ensures.len) in
    let start : c.end_of-start.result ≡ end_of starts = c.end_of-start.ensures ∙ ap end_of c.deref.ensures.value in
    let count : c.from.result ≡ count_of page = c.from.ensures ∙ c.item_count.ensures.value in
    let has : HasTargets (end_of starts) bits new page = record {
      room = omega (arith, start, count, long, c.in_ok-make_room.ensures.room);
      before = λ p below.
          c.set_targets.ensures.before p (omega (arith, start, below))
          ∙ ap (λ b. is_set b p) c.deref_mut.ensures.value
          ∙ c.in_ok-make_room.ensures.same p;
      items = λ j below. ap (λ s. is_set new (s + j)) (sym start) ∙ c.set_targets.ensures.items j below;
      behind = λ p past. c.set_targets.ensures.behind p (omega (arith, start, past));
    } in
    rw (c.in_ok-push.ensures.items, with_items_is c.make_room.new.bits new long, start, count)
    record {
      packed = packed_by_page starts bits new page c.requires.begun c.requires.few c.requires.packed (omega (arith, c.item_count.ensures.limit, c.item_count.ensures.value)) has;
      ok = block_by_page starts bits new page c.requires.begun c.requires.packed has;
      err = tt;
    }
