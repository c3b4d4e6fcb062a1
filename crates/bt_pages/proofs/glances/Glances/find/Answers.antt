use Rattle.std.proofs.Common.{◌≡◌, ◌%◌, ◌∙◌, List, get_or, sym, ap, subst}
use Rattle.std.specs.Prelude.{Option, Some, None}
use Rattle.bt_pages.specs.declared.glances.SeenBlock.{SeenBlock}
use Rattle.bt_pages.specs.Seen.{AreOf, PlaceIsOf}
use Rattle.bt_pages.specs.Trees.{glance_of}
use Rattle.bt_pages.proofs.glances.Glances.find.Goals as goal

pub returns-in-Some-Some : goal.returns-in-Some-Some
unfolding AreOf
returns-in-Some-Some c block held =
    let self = c.args.self.now in
    let place = c.args.b % 16384 in
    let here = c.in-Some-Some.ensures.lookup.3 in
    let lists = c.deref.ensures.value in
    let found : get_or self.places.items place None ≡ Some c.in-Some-Some.seen =
    ap (λ (xs : List (Option SeenBlock)). get_or xs place None) (sym lists) ∙ sym (here.1 None) ∙ c.in-Some-Some.field-0-is in
    subst (PlaceIsOf block) found (held place None (rw lists at here.0)) ∙ ap (λ b. glance_of (block b)) c.if-seen-b.true
