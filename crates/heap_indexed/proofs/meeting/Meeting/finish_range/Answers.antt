use Rattle.std.proofs.Common.{◌∙◌, ◌-◌, List, ap, subst, sym, arith}
use Rattle.std.specs.Option.{option_copied}
use Rattle.std.proofs.lemmas.List.Elements.{All-nil}
use Rattle.std.specs.Prelude.{Bool, Option}
use Rattle.reports.specs.Added.{joined, report_lists}
use Rattle.reports.specs.Lists.{Lists}
use Rattle.bt_levels.specs.Sound.{index_columns}
use Rattle.heap_rows.specs.RowCursor.{next_in, heap_at}
use Rattle.heap_rows.specs.declared.rows.LiveRow.{LiveRow}
use Rattle.join_leaf_pass.specs.Passes.{AreTargets, strays_of}
use Rattle.join_look_ups.specs.declared.joined.LookUps.{LookUps}
use Rattle.heap_indexed.specs.declared.meeting.Meeting.{Meeting}
use Rattle.join_look_ups.specs.Looking.{AreOf}
use Rattle.heap_indexed.specs.Meetings.{IsKeptRow}
use Rattle.join_look_ups.specs.Rows.{owed_for, rows_from}
use Rattle.heap_indexed.proofs.Cases.{no-strays}
use Rattle.heap_indexed.proofs.KeptLaws.{kept-same, roots-named, rows-met}
use Rattle.heap_indexed.proofs.MetLaws.{sound-of, tells-of}
use Rattle.heap_rows.specs.Reads.{columns_at}
use Rattle.heap_indexed.proofs.Rounds.{rounds-one}
use Rattle.heap_indexed.proofs.meeting.Meeting.finish_range.Goals as goal
use Rattle.heap_indexed.proofs.meeting.Meeting.finish_range.Goals.{then-self, else-self}

pub check_entries-requires : goal.check_entries-requires
check_entries-requires g c = record { holds = λ names told. (c.requires.told names (sym c.meet_near.ensures.asked.same ∙ told)).hold.tree }

pub meet_near-requires : goal.meet_near-requires
meet_near-requires g c = record { holds = λ names told. (c.requires.told names told).hold.tree }

pub judge_rows-requires-clause-told : goal.judge_rows-requires-clause-told
judge_rows-requires-clause-told g c = λ names told.
    let later = sym c.check_entries.ensures.asked.same ∙ told in
    let held = sym c.meet_near.ensures.asked.same ∙ later in
    let before = c.requires.told names held in
    let tree = c.args.index.at.tree.now in
    record {
      tree = before.hold.tree;
      kept = tells-of names tree before.hold.tree c.args.self.now.slots before.work.unmet c.meet_near.new.self.slots c.check_entries.new.slots (c.in_ok-all_met.ensures.met names held) (c.in_ok-apart.ensures.met names later);
      pages = subst (λ (l : LookUps). AreOf names tree l) (sym (ap (λ (m : Meeting). m.look_ups) c.meet_near.ensures.same)) before.work.pages;
      behind = before.behind;
    }

pub returns-then-all_met-clause-work : goal.returns-then-all_met-clause-work
returns-then-all_met-clause-work g c = λ names told done strays work.
    let tree = c.args.index.at.tree.now in
    let rows : List LiveRow = rows_from c.args.index.at.case.now names c.args.first (next_in c.args.cursor.now - c.args.first) in
    let old = c.args.self.now.slots in
    let new = c.meet_near.new.self.slots in
    let same = c.meet_near.ensures.same in
    let all = c.in_ok-all_met.ensures.all c.if-all_met.true in
    let met = c.in_ok-all_met.ensures.met names told in
    let have = sound-of names tree (c.requires.told names told).hold.tree old work.unmet new met in
    let kept = kept-same (index_columns tree) old new rows (λ tid. ap (λ k. k tid) met.keys) (work.kept (sym (ap (λ (m : Meeting). m.is_whole) same) ∙ all.0)) in
    let none = rows-met names tree new have all.1 rows kept in
    record {
      pages = subst (λ (l : LookUps). AreOf names tree l) (sym (c.begin.ensures.look_ups ∙ ap (λ (m : Meeting). m.look_ups) same)) work.pages;
      done_is =
          c.begin.ensures.rows
          ∙ ap (λ (m : Meeting). m.rows) same
          ∙ work.done_is
          ∙ sym (ap (joined done) none ∙ report_lists.with_none done);
      strays_are =
          c.begin.ensures.entries
          ∙ ap (λ (m : Meeting). m.entries) same
          ∙ work.strays_are
          ∙ sym (ap (λ (o : Option (List (List Bool))). joined strays (strays_of names o tree)) (c.in_ok-all_met.ensures.later c.if-all_met.true)
          ∙ ap (joined strays) (no-strays names tree)
          ∙ report_lists.with_none strays);
      apart = λ known. work.apart (sym (c.begin.ensures.apart ∙ ap (λ (m : Meeting). m.apart) same) ∙ known);
      unmet = c.begin.ensures.slots.met;
      rooted = λ tid some. absurd (some (c.begin.ensures.slots.keys tid));
      kept = λ whole. All-nil (IsKeptRow (index_columns tree) c.begin.new.self.slots);
    }

pub returns-then-all_met-clause-behind : goal.returns-then-all_met-clause-behind
returns-then-all_met-clause-behind g c = λ names told. (c.requires.told names told).behind

pub returns-clause-work : goal.returns-clause-work
returns-clause-work g c = λ names told done strays work.
    let later = c.meet_near.ensures.asked.same ∙ told in
    let held = c.check_entries.ensures.asked.same ∙ later in
    let tree = c.args.index.at.tree.now in
    let rows : List LiveRow = rows_from c.args.index.at.case.now names c.args.first (next_in c.args.cursor.now - c.args.first) in
    let same = c.meet_near.ensures.same in
    let keys = (c.in_ok-apart.ensures.met names later).keys ∙ (c.in_ok-all_met.ensures.met names told).keys in
    let near = (c.in_ok-all_met.ensures.met names told).keys in
    let targets : AreTargets (option_copied c.args.targets) c.meet_near.new.self.slots =
    roots-named (option_copied c.args.targets) c.meet_near.new.self.slots rows (λ tid some. work.rooted tid (λ none. some (ap (λ k. k tid) near ∙ none))) (c.requires.told names told).roots in
    let found =
    c.in_ok-judge_rows.ensures.rows names held
    (λ whole. kept-same (index_columns tree) c.args.self.now.slots c.check_entries.new.slots rows (λ tid. ap (λ k. k tid) keys) (work.kept (sym (ap (λ (m : Meeting). m.is_whole) same) ∙ whole))) in
    record {
      pages = subst (λ (l : LookUps). AreOf names tree l) (sym c.begin-2.ensures.look_ups) (c.judge_rows.ensures.pages names held);
      done_is = c.begin-2.ensures.rows ∙ found ∙ ap (λ (l : Lists). joined l (owed_for names tree rows)) (ap (λ (m : Meeting). m.rows) same ∙ work.done_is);
      strays_are =
          c.begin-2.ensures.entries
          ∙ c.judge_rows.ensures.entries
          ∙ c.in_ok-apart.ensures.lists names later targets
          ∙ ap (λ (l : Lists). joined l (strays_of names (option_copied c.args.targets) tree)) (ap (λ (m : Meeting). m.entries) same ∙ work.strays_are);
      apart = λ known. elim c.if-self.branch [
        | then-self w ↦ work.apart (sym (c.begin-2.ensures.apart ∙ c.judge_rows.ensures.apart ∙ ap (λ (m : Meeting). m.apart) same) ∙ w.if-self.true)
        | else-self w ↦ c.in_ok-apart.ensures.apart names later (sym w.self-is ∙ known)
      ];
      unmet = c.begin-2.ensures.slots.met;
      rooted = λ tid some. absurd (some (c.begin-2.ensures.slots.keys tid));
      kept = λ whole. All-nil (IsKeptRow (index_columns tree) c.begin-2.new.self.slots);
    }

pub returns-clause-behind : goal.returns-clause-behind
returns-clause-behind g c = λ names told. c.in_ok-judge_rows.ensures.behind names (c.check_entries.ensures.asked.same ∙ c.meet_near.ensures.asked.same ∙ told)

-- How often files are read

pub returns-in_err-all_met-clause-reads : goal.returns-in_err-all_met-clause-reads
returns-in_err-all_met-clause-reads g c = λ names told.
    let one = rounds-one names c.args.index.at.case.now (heap_at c.args.cursor.now) (columns_at c.args.cursor.now) c.args.first (next_in c.args.cursor.now - c.args.first) c.args.index.at.tree.now in
    omega (arith, one, c.meet_near.ensures.asked.most)

pub returns-then-all_met-clause-reads : goal.returns-then-all_met-clause-reads
returns-then-all_met-clause-reads g c = λ names told.
    let one = rounds-one names c.args.index.at.case.now (heap_at c.args.cursor.now) (columns_at c.args.cursor.now) c.args.first (next_in c.args.cursor.now - c.args.first) c.args.index.at.tree.now in
    omega (arith, one, c.meet_near.ensures.asked.most)

pub returns-in_err-apart-clause-reads : goal.returns-in_err-apart-clause-reads
returns-in_err-apart-clause-reads g c = λ names told.
    let one = rounds-one names c.args.index.at.case.now (heap_at c.args.cursor.now) (columns_at c.args.cursor.now) c.args.first (next_in c.args.cursor.now - c.args.first) c.args.index.at.tree.now in
    omega (arith, one, c.meet_near.ensures.asked.most, c.check_entries.ensures.asked.most)

pub returns-in_err-judge_rows-clause-reads : goal.returns-in_err-judge_rows-clause-reads
returns-in_err-judge_rows-clause-reads g c = λ names told.
    let one = rounds-one names c.args.index.at.case.now (heap_at c.args.cursor.now) (columns_at c.args.cursor.now) c.args.first (next_in c.args.cursor.now - c.args.first) c.args.index.at.tree.now in
    omega (arith, one, c.meet_near.ensures.asked.most, c.check_entries.ensures.asked.most, c.judge_rows.ensures.reads names (c.check_entries.ensures.asked.same ∙ c.meet_near.ensures.asked.same ∙ told))

pub returns-clause-reads : goal.returns-clause-reads
returns-clause-reads g c = λ names told.
    let one = rounds-one names c.args.index.at.case.now (heap_at c.args.cursor.now) (columns_at c.args.cursor.now) c.args.first (next_in c.args.cursor.now - c.args.first) c.args.index.at.tree.now in
    omega (arith, one, c.meet_near.ensures.asked.most, c.check_entries.ensures.asked.most, c.judge_rows.ensures.reads names (c.check_entries.ensures.asked.same ∙ c.meet_near.ensures.asked.same ∙ told))
