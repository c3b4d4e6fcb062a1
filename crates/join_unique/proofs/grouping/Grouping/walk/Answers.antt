use Rattle.std.proofs.Common.{◌≡◌, ◌∙◌, ◌+◌, ◌*◌, [], List, ℕ, length, ap, arith, refl, subst, sym, mul-zero}
use Rattle.std.specs.Prelude.{Option}
use Rattle.outside.proofs.Asking.{Passed-next, Passed-none}
use Rattle.laws_search.specs.Keys.{Entry}
use Rattle.key_orders.specs.declared.columns.Value.{Value}
use Rattle.key_orders.specs.declared.Tid.{Tid}
use Rattle.bt_levels.specs.Sound.{block_count}
use Rattle.bt_search.specs.Spots.{rest_at}
use Rattle.bt_search.proofs.Arriving.{nowhere-rest}
use Rattle.heap_rows.specs.Reads.{columns_at, page_reads}
use Rattle.heap_rows.specs.RowCursor.{heap_at}
use Rattle.join_row_keys.proofs.Places.{same-index, same-then}
use Rattle.join_unique.specs.Groups.{entries_met}
use Rattle.join_unique.specs.Tables.{TakesLeaf, table_seen}
use Rattle.join_unique.specs.Reads.{AreTaken, yielded}
use Rattle.heap_rows.proofs.ReadLaws.{page-same}
use Rattle.join_unique.proofs.Reading.{walk-most, walk-twice, yields-all}
use Rattle.join_unique.proofs.grouping.Grouping.walk.Goals as goal

pub loop-spot-init : goal.loop-spot-init
loop-spot-init g c =
    let limit = c.blocks-2.ensures in
    record {
      index = c.requires.index;
      told = c.requires.told;
      limit = omega (arith, limit, c.from-limit.ensures, c.descend.ensures.limit);
      stands = λ names told. c.in_ok-spot.ensures.stands names told;
      few = λ names told.
          let made = c.in_ok-spot.ensures.visits names told in
          let most = c.descend.ensures.most names told in
          omega (arith, made, most, limit, c.from-limit.ensures);
      met = λ names told. refl;
      same = record { case = refl; heap = refl; asked = refl };
      asked = Passed-next Passed-none c.in_ok-spot.ensures.asked;
      reads = λ names told.
          let zero = mul-zero (page_reads (heap_at c.args.cursor.now) (columns_at c.args.cursor.now)) in
          (0, omega arith, omega (arith, zero, c.descend.ensures.asked.most));
    }

pub take_leaf-requires-clause-told : goal.take_leaf-requires-clause-told
take_leaf-requires-clause-told g c = λ names told. c.loop-spot.invariant.told names (sym c.loop-spot.invariant.asked.same ∙ told)

pub take_leaf-requires-clause-holds : goal.take_leaf-requires-clause-holds
take_leaf-requires-clause-holds g c = λ names told. c.requires.holds names (sym c.loop-spot.invariant.asked.same ∙ told)

pub take_leaf-requires-clause-stands : goal.take_leaf-requires-clause-stands
take_leaf-requires-clause-stands g c = λ names told. c.loop-spot.invariant.stands names (sym c.loop-spot.invariant.asked.same ∙ told)

pub arrive-requires-clause-holds : goal.arrive-requires-clause-holds
arrive-requires-clause-holds g c = λ names told. c.requires.holds names (sym c.loop-spot.invariant.asked.same ∙ (sym c.take_leaf.ensures.asked.same ∙ told))

pub arrive-requires-clause-comes : goal.arrive-requires-clause-comes
arrive-requires-clause-comes g c = λ names there.
    (subst (λ (o : Option ℕ). TakesLeaf names c.args.self c.loop-spot.spot o c.loop-spot.group c.take_leaf.new.group) c.in-Some.is
    (c.in_ok-take_leaf.ensures.met names (sym c.take_leaf.ensures.asked.same ∙ there))).comes

pub arrive-requires-clause-enough : goal.arrive-requires-clause-enough
arrive-requires-clause-enough g c = λ names there.
    let inv = c.loop-spot.invariant in
    let before = sym c.take_leaf.ensures.asked.same ∙ there in
    let took = subst (λ (o : Option ℕ). TakesLeaf names c.args.self c.loop-spot.spot o c.loop-spot.group c.take_leaf.new.group) c.in-Some.is
    (c.in_ok-take_leaf.ensures.met names before) in
    let few = inv.few names (sym inv.asked.same ∙ before) in
    let on = took.left in
    omega (arith, few, on)

pub loop-spot-preserved : goal.loop-spot-preserved
loop-spot-preserved g c =
    let inv = c.loop-spot.invariant in
    let tree = c.args.self.index.at.tree.now in
    let scan = c.args.self.scan.now in
    let next = c.in-Some.next in
    let came = c.in_ok-spot-in-Some.ensures in
    record {
      index = same-index c.args.self.index c.loop-spot.cursor c.take_leaf.new.cursor c.take_leaf.ensures.same inv.index;
      told = λ names told. c.take_leaf.ensures.told names (inv.asked.same ∙ told);
      limit = c.arrive.ensures.limit;
      stands = λ names told. came.stands names (c.take_leaf.ensures.asked.same ∙ (inv.asked.same ∙ told));
      few = λ names told.
          let took = subst (λ (o : Option ℕ). TakesLeaf names c.args.self c.loop-spot.spot o c.loop-spot.group c.take_leaf.new.group) c.in-Some.is
          (c.in_ok-take_leaf.ensures.met names (inv.asked.same ∙ told)) in
          let few = inv.few names told in
          let on = took.left in
          let went = (came.goes names (c.take_leaf.ensures.asked.same ∙ (inv.asked.same ∙ told))).left in
          omega (arith, few, on, went);
      met = λ names told.
          let t = table_seen names c.args.self in
          let took = subst (λ (o : Option ℕ). TakesLeaf names c.args.self c.loop-spot.spot o c.loop-spot.group c.take_leaf.new.group) c.in-Some.is
          (c.in_ok-take_leaf.ensures.met names (inv.asked.same ∙ told)) in
          let went = (came.goes names (c.take_leaf.ensures.asked.same ∙ (inv.asked.same ∙ told))).rest in
          ap (λ (es : List (Entry Value Tid)). entries_met t es c.take_leaf.new.group) (sym went)
          ∙ (took.met ∙ inv.met names told);
      same = same-then c.args.cursor.now c.loop-spot.cursor c.take_leaf.new.cursor inv.same c.take_leaf.ensures.same;
      asked = Passed-next (Passed-next inv.asked c.in_ok-take_leaf.ensures.asked) came.asked;
      reads = λ names told.
          let at = inv.asked.same ∙ told in
          let before = inv.reads names told in
          let took = c.in_ok-take_leaf.ensures.taken names at in
          let taken = subst (λ (o : Option ℕ). AreTaken names c.args.self c.loop-spot.spot o took.0) c.in-Some.is took.1 in
          let went = ap length (came.goes names (c.take_leaf.ensures.asked.same ∙ at)).rest in
          let pages = ap (λ (p : ℕ). p * (2 * took.0)) (page-same c.args.cursor.now c.loop-spot.cursor inv.same) in
          let next = walk-twice (page_reads (heap_at c.args.cursor.now) (columns_at c.args.cursor.now)) before.0 took.0 in
          (before.0 + took.0, omega (arith, before.1, taken, went), omega (arith, before.2, took.2, pages, next, came.asked.most, c.arrive.ensures.onward));
    }

pub returns-in-None-clause-met : goal.returns-in-None-clause-met
returns-in-None-clause-met g c = λ names told.
    let inv = c.loop-spot.invariant in
    let took = subst (λ (o : Option ℕ). TakesLeaf names c.args.self c.loop-spot.spot o c.loop-spot.group c.take_leaf.new.group) c.in-None.is
    (c.in_ok-take_leaf.ensures.met names (inv.asked.same ∙ told)) in
    record {
      entries = rest_at names c.args.self.index.at.tree.now c.args.self.scan.now c.in_ok-spot.spot;
      wanted = c.in_ok-spot.ensures.wanted names told;
      walked = took ∙ inv.met names told;
    }

pub returns-clause-met : goal.returns-clause-met
returns-clause-met g c = λ names told.
    let inv = c.loop-spot.invariant in
    let tree = c.args.self.index.at.tree.now in
    let scan = c.args.self.scan.now in
    let t = table_seen names c.args.self in
    let none : rest_at names tree scan c.loop-spot.spot ≡ [] = nowhere-rest names tree scan c.loop-spot.spot c.loop-spot-test.false in
    record {
      entries = rest_at names tree scan c.in_ok-spot.spot;
      wanted = c.in_ok-spot.ensures.wanted names told;
      walked = ap (λ (es : List (Entry Value Tid)). entries_met t es c.loop-spot.group) (sym none) ∙ inv.met names told;
    }

pub returns-in_err-take_leaf-clause-told : goal.returns-in_err-take_leaf-clause-told
returns-in_err-take_leaf-clause-told g c = λ names told. c.take_leaf.ensures.told names (c.loop-spot.invariant.asked.same ∙ told)

pub returns-in_err-spot-in-Some-clause-told : goal.returns-in_err-spot-in-Some-clause-told
returns-in_err-spot-in-Some-clause-told g c = λ names told. c.take_leaf.ensures.told names (c.loop-spot.invariant.asked.same ∙ told)

pub returns-in-None-clause-told : goal.returns-in-None-clause-told
returns-in-None-clause-told g c = λ names told. c.take_leaf.ensures.told names (c.loop-spot.invariant.asked.same ∙ told)

-- How often files are read

pub returns-in_err-spot-clause-reads : goal.returns-in_err-spot-clause-reads
returns-in_err-spot-clause-reads g c = λ names told. omega (arith, c.descend.ensures.limit, c.descend.ensures.asked.most)

pub returns-in_err-take_leaf-clause-reads : goal.returns-in_err-take_leaf-clause-reads
returns-in_err-take_leaf-clause-reads g c = λ names told.
    let inv = c.loop-spot.invariant in
    let tree = c.args.self.index.at.tree.now in
    let scan = c.args.self.scan.now in
    let before = inv.reads names told in
    let left = length (rest_at names tree scan c.loop-spot.spot) in
    let took = c.take_leaf.ensures.reads names (inv.asked.same ∙ told) in
    let pages = ap (λ (p : ℕ). p * (2 * left)) (page-same c.args.cursor.now c.loop-spot.cursor inv.same) in
    let all = ap length (yields-all names tree scan _ (c.in_ok-spot.ensures.answer names told)) in
    let limit = c.blocks-2.ensures in
    let most = walk-most c.loop-spot.visits.count (block_count tree) (page_reads (heap_at c.args.cursor.now) (columns_at c.args.cursor.now)) before.0 left (yielded names tree scan)
    (omega (arith, inv.limit, limit, c.from-limit.ensures)) (omega (arith, before.1, all)) in
    omega (arith, before.2, took, pages, most)

pub returns-in-None-clause-reads : goal.returns-in-None-clause-reads
returns-in-None-clause-reads g c = λ names told.
    let inv = c.loop-spot.invariant in
    let tree = c.args.self.index.at.tree.now in
    let scan = c.args.self.scan.now in
    let before = inv.reads names told in
    let left = length (rest_at names tree scan c.loop-spot.spot) in
    let took = c.take_leaf.ensures.reads names (inv.asked.same ∙ told) in
    let pages = ap (λ (p : ℕ). p * (2 * left)) (page-same c.args.cursor.now c.loop-spot.cursor inv.same) in
    let all = ap length (yields-all names tree scan _ (c.in_ok-spot.ensures.answer names told)) in
    let limit = c.blocks-2.ensures in
    let most = walk-most c.loop-spot.visits.count (block_count tree) (page_reads (heap_at c.args.cursor.now) (columns_at c.args.cursor.now)) before.0 left (yielded names tree scan)
    (omega (arith, inv.limit, limit, c.from-limit.ensures)) (omega (arith, before.1, all)) in
    omega (arith, before.2, took, pages, most)

pub returns-in_err-spot-in-Some-clause-reads : goal.returns-in_err-spot-in-Some-clause-reads
returns-in_err-spot-in-Some-clause-reads g c = λ names told.
    let inv = c.loop-spot.invariant in
    let tree = c.args.self.index.at.tree.now in
    let scan = c.args.self.scan.now in
    let before = inv.reads names told in
    let took = c.in_ok-take_leaf.ensures.taken names (inv.asked.same ∙ told) in
    let taken = subst (λ (o : Option ℕ). AreTaken names c.args.self c.loop-spot.spot o took.0) c.in-Some.is took.1 in
    let pages = ap (λ (p : ℕ). p * (2 * took.0)) (page-same c.args.cursor.now c.loop-spot.cursor inv.same) in
    let all = ap length (yields-all names tree scan _ (c.in_ok-spot.ensures.answer names told)) in
    let limit = c.blocks-2.ensures in
    let most = walk-most c.arrive.new.visits.count (block_count tree) (page_reads (heap_at c.args.cursor.now) (columns_at c.args.cursor.now)) before.0 took.0 (yielded names tree scan)
    (omega (arith, c.arrive.ensures.limit, limit, c.from-limit.ensures)) (omega (arith, before.1, taken, all)) in
    omega (arith, before.2, took.2, pages, most, c.arrive.ensures.asked.most, c.arrive.ensures.onward)

pub returns-clause-reads : goal.returns-clause-reads
returns-clause-reads g c = λ names told.
    let inv = c.loop-spot.invariant in
    let tree = c.args.self.index.at.tree.now in
    let scan = c.args.self.scan.now in
    let before = inv.reads names told in
    let all = ap length (yields-all names tree scan _ (c.in_ok-spot.ensures.answer names told)) in
    let limit = c.blocks-2.ensures in
    let most = walk-most c.loop-spot.visits.count (block_count tree) (page_reads (heap_at c.args.cursor.now) (columns_at c.args.cursor.now)) before.0 0 (yielded names tree scan)
    (omega (arith, inv.limit, limit, c.from-limit.ensures)) (omega (arith, before.1, all)) in
    omega (arith, before.2, most)
