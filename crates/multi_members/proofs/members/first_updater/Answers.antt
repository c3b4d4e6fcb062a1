use Rattle.std.proofs.Common.{◌≡◌, ◌+◌, ◌-◌, ◌%◌, ◌∙◌, sym, ap, arith}
use Rattle.outside.proofs.Asking.{PassedAtMost-next}
use Rattle.rel_files.specs.Slru.{dir_of}
use Rattle.multi_members.specs.Members.{member_of}
use Rattle.multi_members.proofs.Search.{searched, searched-none, searched-missing, searched-found, searched-on}
use Rattle.multi_members.proofs.members.first_updater.Goals as goal

pub returns-in-None-clause-told : goal.returns-in-None-clause-told
returns-in-None-clause-told g c names told =
    let here = sym (c.member.ensures names (dir_of c.args.members.now) (c.in_ok-groups.ensures.told names (c.loop-done.invariant.asked.same ∙ told)))
    ∙ c.in-None.is in
    sym (c.loop-done.invariant.left names told
    ∙ searched-missing (member_of names (dir_of c.args.members.now)) c.loop-done.number (c.args.count - c.loop-done.done) (omega arith) here)

pub returns-in-Some-clause-told : goal.returns-in-Some-clause-told
returns-in-Some-clause-told g c names told =
    let here = sym (c.member.ensures names (dir_of c.args.members.now) (c.in_ok-groups.ensures.told names (c.loop-done.invariant.asked.same ∙ told)))
    ∙ c.in-Some.is in
    sym (c.loop-done.invariant.left names told
    ∙ searched-found (member_of names (dir_of c.args.members.now)) c.loop-done.number (c.args.count - c.loop-done.done) c.in-Some.member (omega arith) here
    (sym c.if-updates.ensures))

pub loop-done-preserved : goal.loop-done-preserved
loop-done-preserved g c = record {
  left = λ names told.
      let f = member_of names (dir_of c.args.members.now) in
      let here = sym (c.member.ensures names (dir_of c.args.members.now) (c.in_ok-groups.ensures.told names (c.loop-done.invariant.asked.same ∙ told)))
      ∙ c.in-Some.is in
      let less : c.args.count - c.loop-done.done - 1 ≡ c.args.count - (c.loop-done.done + 1) = omega arith in
      c.loop-done.invariant.left names told
      ∙ searched-on f c.loop-done.number (c.args.count - c.loop-done.done) c.in-Some.member (omega arith) here (sym c.if-updates.ensures)
      ∙ ap (searched f ((c.loop-done.number + 1) % 4294967296)) less;
  read = λ names told. c.in_ok-groups.ensures.told names (c.loop-done.invariant.asked.same ∙ told);
  asked = PassedAtMost-next 1 c.loop-done.done c.loop-done.invariant.asked c.in_ok-groups.ensures.asked;
}

pub returns-clause-told : goal.returns-clause-told
returns-clause-told g c names told =
    sym (c.loop-done.invariant.left names told
    ∙ searched-none (member_of names (dir_of c.args.members.now)) c.loop-done.number (c.args.count - c.loop-done.done) (omega arith))
