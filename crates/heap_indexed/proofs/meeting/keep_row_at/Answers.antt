use Rattle.std.proofs.Common.{◌≡◌, ◌∙◌, ◌∷◌, ◌++◌, ◌+◌, ◌≤◌, [], length, length-append, refl, sym, ap, subst, arith}
use Rattle.std.specs.Prelude.{IfSome, None, Option}
use Rattle.std.proofs.Math.ListN.{drop_of_length-le}
use Rattle.key_orders.specs.declared.columns.Value.{Value}
use Rattle.key_orders.specs.Values.{value_shown}
use Rattle.bt_levels.specs.Sound.{index_columns}
use Rattle.join_slots.specs.declared.slots.BegunRow.{BegunRow}
use Rattle.join_slots.specs.Slots.{IsBegunRow, keys_in, keys_with}
use Rattle.join_row_keys.specs.Rows.{columns_in}
use Rattle.join_row_keys.proofs.KeyLaws.{both-parts, so-far-all, so-far-next, so-far-none}
use Rattle.heap_indexed.proofs.meeting.keep_row_at.Goals as goal

pub loop-k-init : goal.loop-k-init
loop-k-init c = record {
  values = [];
  written = subst (λ (o : Option BegunRow). IfSome o (λ row. IsBegunRow c.begin_row.new.self row c.args.root c.in-Ok.number [])) c.in-Some.is c.in_ok-begun.ensures.begun;
  many = refl;
  so_far = λ names row rows are is. so-far-none (columns_in (index_columns c.args.index.at.tree.now)) row.cells;
  keys = refl;
  met = refl;
}

pub value-requires-clause-inside : goal.value-requires-clause-inside
value-requires-clause-inside c = omega (arith, c.value_count-count.ensures)

pub loop-k-preserved : goal.loop-k-preserved
loop-k-preserved c =
    let k = c.loop-k.k in
    let was = c.loop-k.invariant in
    let v : Value = value_shown c.in-Held.v in
    let columns = columns_in (index_columns c.args.index.at.tree.now) in
    record {
      values = was.values ++ v ∷ [];
      written = c.in_ok-added-in-Held.ensures.added c.if-not-added.false c.in-Some.row c.args.root c.in-Ok.number was.values was.written;
      many = length-append was.values (v ∷ []) ∙ ap (λ n. n + 1) was.many;
      so_far = λ names row rows are is. so-far-next columns row.cells k was.values v (omega (arith, c.value_count-count.ensures)) (c.in-Held.ensures names row rows are is) (was.so_far names row rows are is);
      keys = c.add_value.ensures.keys ∙ was.keys;
      met = c.add_value.ensures.met ∙ was.met;
    }

pub keep_row-requires : goal.keep_row-requires
keep_row-requires c =
    let was = c.loop-k.invariant in
    let many : length was.values ≡ c.in-Ok.number = omega (arith, was.many, c.loop-k-test.false) in
    record {
      tid = c.args.root;
      values = was.values;
      is = subst (λ n. IsBegunRow c.loop-k.slots c.in-Some.row c.args.root n was.values) (sym many) was.written;
    }

pub returns-clause-kept : goal.returns-clause-kept
returns-clause-kept c = λ kept names row rows are is.
    let was = c.loop-k.invariant in
    let columns = index_columns c.args.index.at.tree.now in
    let many : length was.values ≡ c.in-Ok.number = omega (arith, was.many, c.loop-k-test.false) in
    let end : length (columns_in columns) ≤ c.loop-k.k = omega (arith, c.value_count-count.ensures, c.loop-k-test.false) in
    let all = so-far-all (columns_in columns) row.cells c.loop-k.k was.values (drop_of_length-le (columns_in columns) end) (was.so_far names row rows are is) in
    let both = both-parts _ _ row.cells was.values all in
    record {
      key = both.key;
      more = both.more;
      values = record { of_key = both.of_key; included = both.included };
      put =
          c.keep_row.ensures.kept c.args.root was.values (subst (λ n. IsBegunRow c.loop-k.slots c.in-Some.row c.args.root n was.values) (sym many) was.written)
          ∙ (λ i. keys_with ((was.keys ∙ c.begin_row.ensures.keys) i) c.args.root (both.are i));
      fresh = subst (λ (o : Option BegunRow). IfSome o (λ row. keys_in c.args.slots.now c.args.root ≡ None)) c.in-Some.is c.in_ok-begun.ensures.fresh;
    }
