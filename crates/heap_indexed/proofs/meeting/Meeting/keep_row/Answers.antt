use Rattle.std.proofs.Common.{◌≡◌, ◌≢◌, ◌∙◌, ◌∷◌, ◌++◌, [], Bool, true, ap, subst, sym}
use Rattle.std.specs.Prelude.{All, None, cond}
use Rattle.key_orders.specs.declared.Tid.{Tid}
use Rattle.join_slots.specs.Slots.{keys_in}
use Rattle.std.proofs.lemmas.Bool.{false≢true}
use Rattle.bt_levels.specs.Sound.{index_columns}
use Rattle.heap_indexed.specs.Meetings.{IsKeptRow, IsRootIn}
use Rattle.heap_indexed.proofs.KeptLaws.{kept-more, rooted-more}
use Rattle.heap_indexed.proofs.meeting.Meeting.keep_row.Goals as goal
use Rattle.heap_indexed.proofs.meeting.Meeting.keep_row.Goals.{then-self-2, else-self-2}

pub returns : goal.returns
returns c = λ names done strays all passed row found work. record {
  pages = work.pages;
  done_is = work.done_is;
  strays_are = work.strays_are;
  apart = work.apart;
  unmet = λ tid. ap (λ m. m tid) c.keep_row_at.ensures.met ∙ work.unmet tid;
  kept = λ whole. elim c.if-self-2.branch [
    | then-self-2 w ↦
        let columns = index_columns c.args.index.at.tree.now in
        let kept : c.in_ok-kept.kept ≡ true = sym w.self-is ∙ whole in
        let before = subst (λ (b : Bool). All (IsKeptRow columns c.args.self.now.slots) (cond b all passed)) c.if-self.false (work.kept w.if-self-2.true) in
        subst (λ (b : Bool). All (IsKeptRow columns c.keep_row_at.new.slots) (cond b all (passed ++ row ∷ []))) (sym c.if-self.false)
        (kept-more columns c.args.self.now.slots c.keep_row_at.new.slots passed row c.args.place.root found.root
        (c.in_ok-kept.ensures.kept kept names row found.rows found.cursor_of found.here) before)
    | else-self-2 w ↦ absurd (false≢true (sym w.if-self-2.false ∙ sym w.self-is ∙ whole))
  ];
  rooted =
      let columns = index_columns c.args.index.at.tree.now in
      subst (λ (b : Bool). (tid : Tid) → keys_in c.keep_row_at.new.slots tid ≢ None → IsRootIn (cond b all (passed ++ row ∷ [])) tid) (sym c.if-self.false)
      (rooted-more columns c.args.self.now.slots c.keep_row_at.new.slots passed row c.args.place.root c.in_ok-kept.kept found.root
      (λ kept. c.in_ok-kept.ensures.kept kept names row found.rows found.cursor_of found.here) c.in_ok-kept.ensures.same
      (subst (λ (b : Bool). (tid : Tid) → keys_in c.args.self.now.slots tid ≢ None → IsRootIn (cond b all passed) tid) c.if-self.false work.rooted));
}
