use Rattle.std.proofs.Common.{◌≡◌, ◌≢◌, ◌∙◌, ◌+◌, ◌*◌, [], List, ℕ, length, ap, arith, refl, subst, sym}
use Rattle.outside.proofs.Asking.{Passed-next, Passed-none, PassedAtMost-next}
use Rattle.laws_search.specs.Keys.{Entry}
use Rattle.key_orders.specs.declared.columns.Value.{Value}
use Rattle.key_orders.specs.declared.Tid.{Tid}
use Rattle.bt_levels.specs.Sound.{index_columns}
use Rattle.bt_search.specs.Spots.{StandsAt, rest_at}
use Rattle.heap_rows.specs.Reads.{columns_at, page_reads}
use Rattle.heap_rows.specs.RowCursor.{heap_at}
use Rattle.join_row_keys.proofs.Places.{same-index, same-then}
use Rattle.join_unique.specs.Groups.{entries_met}
use Rattle.join_unique.specs.Tables.{table_seen}
use Rattle.heap_rows.proofs.ReadLaws.{page-same}
use Rattle.join_unique.proofs.Reading.{as-many, doubled, none-read, one-more, taken-most}
use Rattle.join_unique.proofs.grouping.Grouping.take_leaf.Goals as goal

pub loop-k-init : goal.loop-k-init
loop-k-init g c = record {
  index = c.requires.index;
  told = c.requires.told;
  block = refl;
  stands = c.requires.stands;
  met = λ names told. refl;
  left = λ names told. refl;
  same = record { case = refl; heap = refl; asked = refl };
  asked = Passed-none;
  count = λ names told. omega arith;
  reads = none-read (page_reads (heap_at c.args.cursor.now) (columns_at c.args.cursor.now) * 2);
}

pub tid_on-requires-clause-page : goal.tid_on-requires-clause-page
tid_on-requires-clause-page g c = (c.in-Entry.ensures.entry c.in-Entry.at refl).1.laid_out

pub tid_on-requires-clause-first : goal.tid_on-requires-clause-first
tid_on-requires-clause-first g c = (c.in-Entry.ensures.entry c.in-Entry.at refl).1.first

pub tid_on-requires-clause-last : goal.tid_on-requires-clause-last
tid_on-requires-clause-last g c = (c.in-Entry.ensures.entry c.in-Entry.at refl).1.last

pub take_entry-requires-clause-told : goal.take_entry-requires-clause-told
take_entry-requires-clause-told g c = λ names told. c.loop-k.invariant.told names (sym c.loop-k.invariant.asked.same ∙ told)

pub loop-k-preserved : goal.loop-k-preserved
loop-k-preserved g c =
    let inv = c.loop-k.invariant in
    let tree = c.args.self.index.at.tree.now in
    let scan = c.args.self.scan.now in
    let at = c.in-Entry.at in
    let some : c.loop-k.spot.block ≢ 0 = λ none. c.requires.there (sym inv.block ∙ none) in
    record {
      index = same-index c.args.self.index c.loop-k.cursor c.take_entry.new.cursor c.take_entry.ensures.same inv.index;
      told = λ names told. c.take_entry.ensures.told names (inv.asked.same ∙ told);
      block = c.in-Entry.ensures.block ∙ inv.block;
      stands = λ names told.
          let stands = subst (λ (p : List ℕ). StandsAt names tree scan c.loop-k.spot p) (sym c.new-view.ensures) (inv.stands names told) in
          subst (λ (p : List ℕ). StandsAt names tree scan c.read_leaf.new.spot p) c.new-view.ensures
          (c.in-Entry.ensures.told names (c.requires.holds names told) some stands).stands;
      met = λ names told.
          let t = table_seen names c.args.self in
          let stands = subst (λ (p : List ℕ). StandsAt names tree scan c.loop-k.spot p) (sym c.new-view.ensures) (inv.stands names told) in
          let yields = c.in-Entry.ensures.told names (c.requires.holds names told) some stands in
          let there = (c.in-Entry.ensures.entry at refl).1 in
          let step = c.in_ok-take_entry-in-Entry.ensures.met names (inv.asked.same ∙ told) yields.entry
          (c.in-Entry.ensures.key at yields.entry refl yields.is) (c.tid_on.ensures (index_columns tree) yields.entry there.read yields.is) in
          ap (entries_met t (rest_at names tree scan c.read_leaf.new.spot)) step
          ∙ (ap (λ (es : List (Entry Value Tid)). entries_met t es c.loop-k.group) (sym yields.rest) ∙ inv.met names told);
      left = λ names told.
          let stands = subst (λ (p : List ℕ). StandsAt names tree scan c.loop-k.spot p) (sym c.new-view.ensures) (inv.stands names told) in
          inv.left names told ∙ (c.in-Entry.ensures.told names (c.requires.holds names told) some stands).left;
      same = same-then c.args.cursor.now c.loop-k.cursor c.take_entry.new.cursor inv.same c.take_entry.ensures.same;
      asked = Passed-next inv.asked c.in_ok-take_entry-in-Entry.ensures.asked;
      count = λ names told.
          let stands = subst (λ (p : List ℕ). StandsAt names tree scan c.loop-k.spot p) (sym c.new-view.ensures) (inv.stands names told) in
          let one = ap length (c.in-Entry.ensures.told names (c.requires.holds names told) some stands).rest in
          let before = inv.count names told in
          omega (arith, one, before);
      reads = PassedAtMost-next (page_reads (heap_at c.args.cursor.now) (columns_at c.args.cursor.now) * 2) c.loop-k.k inv.reads
          (as-many (ap (λ (n : ℕ). n * 2) (page-same c.args.cursor.now c.loop-k.cursor inv.same)) c.in_ok-take_entry-in-Entry.ensures.asked);
    }

pub returns-in-End-clause-met : goal.returns-in-End-clause-met
returns-in-End-clause-met g c = λ names told.
    let inv = c.loop-k.invariant in
    let tree = c.args.self.index.at.tree.now in
    let scan = c.args.self.scan.now in
    let t = table_seen names c.args.self in
    let some : c.loop-k.spot.block ≢ 0 = λ none. c.requires.there (sym inv.block ∙ none) in
    let stands = subst (λ (p : List ℕ). StandsAt names tree scan c.loop-k.spot p) (sym c.new-view.ensures) (inv.stands names told) in
    let none : rest_at names tree scan c.loop-k.spot ≡ [] = (c.in-End.ensures.told names (c.requires.holds names told) some stands).rest in
    ap (λ (es : List (Entry Value Tid)). entries_met t es c.loop-k.group) (sym none) ∙ inv.met names told

pub returns-in-Right-clause-met : goal.returns-in-Right-clause-met
returns-in-Right-clause-met g c = λ names told.
    let inv = c.loop-k.invariant in
    let tree = c.args.self.index.at.tree.now in
    let scan = c.args.self.scan.now in
    let t = table_seen names c.args.self in
    let some : c.loop-k.spot.block ≢ 0 = λ none. c.requires.there (sym inv.block ∙ none) in
    let stands = subst (λ (p : List ℕ). StandsAt names tree scan c.loop-k.spot p) (sym c.new-view.ensures) (inv.stands names told) in
    let right = c.in-Right.ensures.told names (c.requires.holds names told) some stands in
    record {
      comes = right.comes;
      left = inv.left names told ∙ right.left;
      met = ap (λ (es : List (Entry Value Tid)). entries_met t es c.loop-k.group) (sym right.rest) ∙ inv.met names told;
    }

pub returns-in_err-take_entry-in-Entry-clause-told : goal.returns-in_err-take_entry-in-Entry-clause-told
returns-in_err-take_entry-in-Entry-clause-told g c = λ names told. c.take_entry.ensures.told names (c.loop-k.invariant.asked.same ∙ told)

-- How often files are read

pub returns-in-End-clause-reads : goal.returns-in-End-clause-reads
returns-in-End-clause-reads g c = λ names told.
    let inv = c.loop-k.invariant in
    let count = inv.count names told in
    let few = taken-most (page_reads (heap_at c.args.cursor.now) (columns_at c.args.cursor.now)) c.loop-k.k (length (rest_at names c.args.self.index.at.tree.now c.args.self.scan.now c.args.spot.now)) (omega (arith, count)) in
    omega (arith, inv.reads.most, few)

pub returns-in-End-clause-taken : goal.returns-in-End-clause-taken
returns-in-End-clause-taken g c = λ names told.
    let inv = c.loop-k.invariant in
    let count = inv.count names told in
    let same = doubled (page_reads (heap_at c.args.cursor.now) (columns_at c.args.cursor.now)) c.loop-k.k in
    (c.loop-k.k, omega (arith, count), omega (arith, inv.reads.most, same))

pub returns-in-Right-clause-reads : goal.returns-in-Right-clause-reads
returns-in-Right-clause-reads g c = λ names told.
    let inv = c.loop-k.invariant in
    let count = inv.count names told in
    let few = taken-most (page_reads (heap_at c.args.cursor.now) (columns_at c.args.cursor.now)) c.loop-k.k (length (rest_at names c.args.self.index.at.tree.now c.args.self.scan.now c.args.spot.now)) (omega (arith, count)) in
    omega (arith, inv.reads.most, few)

pub returns-in-Right-clause-taken : goal.returns-in-Right-clause-taken
returns-in-Right-clause-taken g c = λ names told.
    let inv = c.loop-k.invariant in
    let tree = c.args.self.index.at.tree.now in
    let scan = c.args.self.scan.now in
    let some : c.loop-k.spot.block ≢ 0 = λ none. c.requires.there (sym inv.block ∙ none) in
    let stands = subst (λ (p : List ℕ). StandsAt names tree scan c.loop-k.spot p) (sym c.new-view.ensures) (inv.stands names told) in
    let right = ap length (c.in-Right.ensures.told names (c.requires.holds names told) some stands).rest in
    let count = inv.count names told in
    let same = doubled (page_reads (heap_at c.args.cursor.now) (columns_at c.args.cursor.now)) c.loop-k.k in
    (c.loop-k.k, omega (arith, right, count), omega (arith, inv.reads.most, same))

pub returns-in_err-take_entry-in-Entry-clause-reads : goal.returns-in_err-take_entry-in-Entry-clause-reads
returns-in_err-take_entry-in-Entry-clause-reads g c = λ names told.
    let inv = c.loop-k.invariant in
    let tree = c.args.self.index.at.tree.now in
    let scan = c.args.self.scan.now in
    let some : c.loop-k.spot.block ≢ 0 = λ none. c.requires.there (sym inv.block ∙ none) in
    let stands = subst (λ (p : List ℕ). StandsAt names tree scan c.loop-k.spot p) (sym c.new-view.ensures) (inv.stands names told) in
    let one = ap length (c.in-Entry.ensures.told names (c.requires.holds names told) some stands).rest in
    let count = inv.count names told in
    let p = page_reads (heap_at c.args.cursor.now) (columns_at c.args.cursor.now) in
    let page = ap (λ (n : ℕ). n * 2) (page-same c.args.cursor.now c.loop-k.cursor inv.same) in
    let more = one-more p c.loop-k.k in
    let same = doubled p (c.loop-k.k + 1) in
    let few = taken-most p (c.loop-k.k + 1) (length (rest_at names tree scan c.args.spot.now)) (omega (arith, one, count)) in
    omega (arith, inv.reads.most, c.take_entry.ensures.asked.most, page, more, same, few)

pub returns-clause-reads : goal.returns-clause-reads
returns-clause-reads g c = λ names told.
    let inv = c.loop-k.invariant in
    let count = inv.count names told in
    let few = taken-most (page_reads (heap_at c.args.cursor.now) (columns_at c.args.cursor.now)) c.loop-k.k (length (rest_at names c.args.self.index.at.tree.now c.args.self.scan.now c.args.spot.now)) (omega (arith, count)) in
    omega (arith, inv.reads.most, few)
