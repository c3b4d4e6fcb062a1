use Rattle.std.proofs.Common.{◌≡◌, ◌%◌, ◌∙◌, List, get_or, sym, ap, subst}
use Rattle.std.specs.Prelude.{Option, Some, None}
use Rattle.rel_files.specs.Slru.{dir_of}
use Rattle.multi_members.specs.declared.answers.Answer.{Answer}
use Rattle.multi_members.specs.Answers.{AreTrue, PlaceIsTrue}
use Rattle.multi_members.specs.Updater.{updater_of}
use Rattle.multi_members.proofs.answers.Answers.find.Goals as goal

pub returns-in-Some-Some : goal.returns-in-Some-Some
unfolding AreTrue
returns-in-Some-Some c names held =
    let self = c.args.self.now in
    let place = c.args.multi % 256 in
    let here = c.in-Some-Some.ensures.lookup.3 in
    let lists = c.deref.ensures.value in
    let found : get_or self.places.items place None ≡ Some c.in-Some-Some.answer =
    ap (λ (xs : List (Option Answer)). get_or xs place None) (sym lists) ∙ sym (here.1 None) ∙ c.in-Some-Some.field-0-is in
    let P : Option Answer → Type 0 = PlaceIsTrue names (dir_of self.offsets) (dir_of self.members) self.cluster in
    subst P found (held place None (rw lists at here.0))
    ∙ ap (λ multi. updater_of names (dir_of self.offsets) (dir_of self.members) self.cluster multi) c.if-answer-multi.true
