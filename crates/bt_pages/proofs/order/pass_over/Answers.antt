use Rattle.std.proofs.Common.{◌≡◌, ◌∙◌, refl, sym, subst, arith}
use Rattle.std.specs.Prelude.{◌||◌}
use Rattle.key_orders.specs.Keys.{IsKeySeparator}
use Rattle.page_layout.specs.Page.{count_of}
use Rattle.page_layout.specs.View.{page_bytes}
use Rattle.bt_pages.proofs.Passing.{disordered-next, disordered-none, kept_flag, new_flag, pass-empty, pass-not_plain, plain-at, plain-next, plain-none}
use Rattle.bt_pages.proofs.Plain.{nothing-fits}
use Rattle.bt_pages.proofs.order.pass_over.Goals as goal
use Rattle.bt_pages.proofs.order.pass_over.Goals.{then-is_disordered, else-is_disordered}

pub loop-k-init : goal.loop-k-init
loop-k-init c = record {
  places = c.new-turns.ensures.places;
  plain = plain-none c.args.columns.now.specs.now c.args.columns.now.more.now (page_bytes c.args.page);
  carried = record {
    fits = subst (IsKeySeparator c.args.columns.now.specs.now) (sym c.new-turns.ensures.held) (nothing-fits c.args.columns.now.specs.now);
    key_is = λ from. absurd (omega (arith, from));
  };
  disordered = sym (disordered-none c.args.columns.now.specs.now c.args.columns.now.more.now (page_bytes c.args.page));
}

pub returns-in-None : goal.returns-in-None
returns-in-None c =
    pass-not_plain c.args.columns.now.specs.now c.args.columns.now.more.now (page_bytes c.args.page) c.loop-k.k (count_of (page_bytes c.args.page)) _ (omega arith) c.in-None.ensures.plain

pub loop-k-preserved : goal.loop-k-preserved
loop-k-preserved c =
    let flag : c.if-is_disordered.is_disordered ≡ (c.loop-k.is_disordered || c.in-Some.is_low) =
    elim c.if-is_disordered.branch [
      | then-is_disordered w ↦ kept_flag _ c.in-Some.is_low _ w.if-is_disordered.true (w.is_disordered-is ∙ w.if-is_disordered.true)
      | else-is_disordered w ↦ new_flag _ c.in-Some.is_low _ w.if-is_disordered.false w.is_disordered-is
    ] in
    record {
      places = c.read.ensures.places ∙ c.loop-k.invariant.places;
      plain = plain-next c.args.columns.now.specs.now c.args.columns.now.more.now (page_bytes c.args.page) c.loop-k.k c.loop-k.invariant.plain c.in-Some.ensures.plain;
      carried = c.in-Some.ensures.last;
      disordered =
          flag
          ∙ disordered-next c.args.columns.now.specs.now c.args.columns.now.more.now (page_bytes c.args.page) c.loop-k.k c.loop-k.is_disordered c.in-Some.is_low c.loop-k.invariant.disordered c.in-Some.ensures.low;
    }

pub returns-then-item_count-eq0 : goal.returns-then-item_count-eq0
returns-then-item_count-eq0 c =
    pass-empty c.args.columns.now.specs.now c.args.columns.now.more.now (page_bytes c.args.page) 0 refl (omega (arith, c.if-item_count-eq0.true, c.item_count.ensures.value))

pub is_past_high_key-requires-clause-plain : goal.is_past_high_key-requires-clause-plain
is_past_high_key-requires-clause-plain c =
    plain-at c.args.columns.now.specs.now c.args.columns.now.more.now (page_bytes c.args.page) 0 c.loop-k.k (omega arith) c.loop-k.invariant.plain
