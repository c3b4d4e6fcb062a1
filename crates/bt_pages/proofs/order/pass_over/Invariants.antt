use Rattle.std.proofs.Common.{◌≡◌, true}
use Rattle.page_layout.specs.View.{page_bytes}
use Rattle.bt_image.specs.Places.{places_of}
use Rattle.bt_pages.specs.Passes.{IsCarried, are_disordered, held}
use Rattle.bt_pages.specs.Questions.{are_plain}
use Rattle.bt_pages.proofs.order.pass_over.Given as goal

-- the items so far are plain, the key of the last is carried, and whether they rise is known
abbrev pub invariant-loop-k : goal.invariant-loop-k
invariant-loop-k l = record {
  places : l.turns.places ≡ places_of (page_bytes l.page);
  plain : are_plain l.columns.specs.now l.columns.more.now (page_bytes l.page) l.k ≡ true;
  carried : IsCarried l.columns.specs.now l.columns.more.now (page_bytes l.page) l.k (held l.turns);
  disordered : l.is_disordered ≡ are_disordered l.columns.specs.now l.columns.more.now (page_bytes l.page) l.k;
}
