use Rattle.std.proofs.Common.{rules, ◌≡◌, ◌+◌, ◌-◌, ◌*◌, ◌<◌, ◌≤◌, ℕ, refl, sym, ap, ◌∙◌, arith}
use Rattle.rel_files.specs.Relation.{count_of}
use Rattle.std.proofs.Math.Nat.{mul-le-mul_left}
use Rattle.outside.proofs.Asking.{AskedAtMost-more, AskedAtMost-then, PassedAtMost-next, PassedAtMost-none}
use Rattle.heap_table_check.specs.Files.{heap_in}
use Rattle.heap_table_check.specs.declared.files.SoundHeap.{SoundHeap}
use Rattle.heap_rows.specs.declared.row_cursor.RowCursor.{RowCursor}
use Rattle.heap_rows.specs.RowCursor.{IsSameCursor, heap_at}
use Rattle.heap_rows.specs.Reads.{most_block_reads, value_reads}
use Rattle.heap_rows.proofs.QuietHeap.{rows_end}
use Rattle.heap_rows.proofs.ReadLaws.{asked-ok, read-most, turn-most, way-all, way-here, way-more, way-next}
use Rattle.heap_rows.proofs.row_cursor.RowCursor.seek.Goals as goal

pub loop-init : goal.loop-init
loop-init g c = record {
  told = λ names told. c.find_in_hand.ensures.told names (sym c.find_in_hand.ensures.asked.same ∙ told);
  left = λ names told. refl;
  done = λ names told. c.in_ok-find_in_hand.ensures.done names (sym c.find_in_hand.ensures.asked.same ∙ told) c.if-branch.false;
  same = record { case = refl; heap = refl; asked = refl };
  next = refl;
  from = c.find_in_hand.ensures.same;
  onward = omega (arith, c.find_in_hand.ensures.next);
  within = λ few. omega (arith, few, c.find_in_hand.ensures.next);
  asked = AskedAtMost-more (omega arith) PassedAtMost-none;
}

pub find_in_next-requires-clause-told : goal.find_in_next-requires-clause-told
find_in_next-requires-clause-told g c = λ names told. c.loop.invariant.told names (sym c.loop.invariant.asked.same ∙ told)

pub returns-in_err-find_in_next-clause-told : goal.returns-in_err-find_in_next-clause-told
returns-in_err-find_in_next-clause-told g c = λ names told. c.find_in_next.ensures.told names (c.loop.invariant.asked.same ∙ c.find_in_hand.ensures.asked.same ∙ told)

pub returns-then-branch-2-clause-told : goal.returns-then-branch-2-clause-told
returns-then-branch-2-clause-told g c = λ names told. c.find_in_next.ensures.told names (c.loop.invariant.asked.same ∙ c.find_in_hand.ensures.asked.same ∙ told)

-- the block that a turn takes is one of the heap
inside : (blocks counter next : ℕ) (old now : RowCursor) → blocks ≡ count_of (heap_in (heap_at old)) → IsSameCursor old now → counter < blocks → next ≡ counter → next < count_of (heap_in (heap_at now))
inside blocks counter next old now count same lt is =
    let whole : blocks ≡ count_of (heap_in (heap_at now)) = count ∙ ap (λ (h : SoundHeap). count_of (heap_in h)) (sym same.heap) in
    omega (arith, whole, lt, is)

pub loop-preserved : goal.loop-preserved
loop-preserved g c =
    let from = c.loop.invariant.from in
    let next = c.in_ok-find_in_next.ensures in
    let old = c.args.self.now in
    let each : ℕ = most_block_reads (heap_at old) + value_reads old in
    let n : ℕ = c.loop.self.next - old.next in
    let here = inside c.blocks-end.result c.loop.counter c.loop.self.next c.find_in_hand.new.self c.loop.self (c.blocks-end.ensures ∙ ap count_of c.heap.ensures) c.loop.invariant.same c.loop-test.true c.loop.invariant.next in
    let most = turn-most old c.loop.self c.loop.self.next from here in
    let turns : each * (n + 1) ≤ each * (c.find_in_next.new.self.next - old.next) = mul-le-mul_left each (omega (arith, c.loop.invariant.onward, next.next)) in
    record {
      told = λ names told. c.find_in_next.ensures.told names (c.loop.invariant.asked.same ∙ told);
      left = λ names told. c.find_in_next.ensures.left names (c.loop.invariant.asked.same ∙ told) ∙ c.loop.invariant.left names told;
      done = λ names told. c.in_ok-find_in_next.ensures.done names (c.loop.invariant.asked.same ∙ told) c.if-branch-2.false;
      same = record { case = c.find_in_next.ensures.same.case ∙ c.loop.invariant.same.case; heap = c.find_in_next.ensures.same.heap ∙ c.loop.invariant.same.heap; asked = c.find_in_next.ensures.same.asked ∙ c.loop.invariant.same.asked };
      next = c.in_ok-find_in_next.ensures.next ∙ ap (λ (k : ℕ). k + 1) c.loop.invariant.next;
      from = record { case = next.same.case ∙ from.case; heap = next.same.heap ∙ from.heap; asked = next.same.asked ∙ from.asked };
      onward = omega (arith, c.loop.invariant.onward, next.next);
      within = λ few.
          let whole = c.blocks-end.ensures ∙ ap count_of c.heap.ensures ∙ ap (λ (h : SoundHeap). count_of (heap_in h)) c.find_in_hand.ensures.same.heap in
          omega (arith, whole, c.loop-test.true, c.loop.invariant.next, next.next);
      asked = AskedAtMost-more turns (PassedAtMost-next each n c.loop.invariant.asked (AskedAtMost-more most next.asked));
    }

pub returns-clause-end : goal.returns-clause-end
returns-clause-end g c = λ names told not.
    let now = c.find_in_hand.ensures.asked.same ∙ told in
    let are = c.loop.invariant.told names now in
    let count = c.blocks-end.ensures ∙ ap count_of c.heap.ensures ∙ ap (λ (h : SoundHeap). count_of (heap_in h)) (sym c.loop.invariant.same.heap) in
    let end : c.blocks-end.result ≤ c.loop.self.next = omega (arith, c.loop-test.false, c.loop.invariant.next) in
    rows_end names c.loop.self c.blocks-end.result are (c.loop.invariant.done names now) count end

pub returns-clause-told : goal.returns-clause-told
returns-clause-told g c = λ names told. c.loop.invariant.told names (c.find_in_hand.ensures.asked.same ∙ told)

pub returns-in_err-find_in_hand-clause-asked : goal.returns-in_err-find_in_hand-clause-asked
returns-in_err-find_in_hand-clause-asked g c =
    let all = AskedAtMost-more (way-here c.args.self.now (c.find_in_hand.new.self.next - c.args.self.now.next + 1)) c.in_err-find_in_hand.ensures.asked in
    search rules

pub returns-then-branch-clause-asked : goal.returns-then-branch-clause-asked
returns-then-branch-clause-asked g c = asked-ok (way-here c.args.self.now (c.find_in_hand.new.self.next - c.args.self.now.next + 1)) c.in_ok-find_in_hand.ensures.asked

pub returns-then-branch-clause-most : goal.returns-then-branch-clause-most
returns-then-branch-clause-most g c = read-most (way-here c.args.self.now (c.find_in_hand.new.self.next - c.args.self.now.next)) c.in_ok-find_in_hand.ensures.asked

pub returns-in_err-find_in_next-clause-asked : goal.returns-in_err-find_in_next-clause-asked
returns-in_err-find_in_next-clause-asked g c =
    let old = c.args.self.now in
    let n : ℕ = c.loop.self.next - old.next in
    let here = inside c.blocks-end.result c.loop.counter c.loop.self.next c.find_in_hand.new.self c.loop.self (c.blocks-end.ensures ∙ ap count_of c.heap.ensures) c.loop.invariant.same c.loop-test.true c.loop.invariant.next in
    let few = way-next old c.loop.self c.loop.self.next n (c.find_in_next.new.self.next - old.next + 1) c.loop.invariant.from here (omega (arith, c.find_in_next.ensures.onward.0)) in
    let all = AskedAtMost-more few (AskedAtMost-then (AskedAtMost-then c.in_ok-find_in_hand.ensures.asked c.loop.invariant.asked) c.in_err-find_in_next.ensures.asked) in
    search rules

pub returns-then-branch-2-clause-asked : goal.returns-then-branch-2-clause-asked
returns-then-branch-2-clause-asked g c =
    let old = c.args.self.now in
    let n : ℕ = c.loop.self.next - old.next in
    let here = inside c.blocks-end.result c.loop.counter c.loop.self.next c.find_in_hand.new.self c.loop.self (c.blocks-end.ensures ∙ ap count_of c.heap.ensures) c.loop.invariant.same c.loop-test.true c.loop.invariant.next in
    let few = way-next old c.loop.self c.loop.self.next n (c.find_in_next.new.self.next - old.next + 1) c.loop.invariant.from here (omega (arith, c.find_in_next.ensures.onward.0)) in
    asked-ok few (AskedAtMost-then (AskedAtMost-then c.in_ok-find_in_hand.ensures.asked c.loop.invariant.asked) c.in_ok-find_in_next.ensures.asked)

pub returns-then-branch-2-clause-most : goal.returns-then-branch-2-clause-most
returns-then-branch-2-clause-most g c =
    let old = c.args.self.now in
    let n : ℕ = c.loop.self.next - old.next in
    let here = inside c.blocks-end.result c.loop.counter c.loop.self.next c.find_in_hand.new.self c.loop.self (c.blocks-end.ensures ∙ ap count_of c.heap.ensures) c.loop.invariant.same c.loop-test.true c.loop.invariant.next in
    let few = way-next old c.loop.self c.loop.self.next n (c.find_in_next.new.self.next - old.next) c.loop.invariant.from here (omega (arith, c.in_ok-find_in_next.ensures.next, c.loop.invariant.onward)) in
    read-most few (AskedAtMost-then (AskedAtMost-then c.in_ok-find_in_hand.ensures.asked c.loop.invariant.asked) c.in_ok-find_in_next.ensures.asked)

pub returns-clause-asked : goal.returns-clause-asked
returns-clause-asked g c =
    let old = c.args.self.now in
    let n : ℕ = c.loop.self.next - old.next in
    let few = way-all old n in
    let more = way-more old n (n + 1) (omega arith) in
    asked-ok (omega (arith, few, more)) (AskedAtMost-then c.in_ok-find_in_hand.ensures.asked c.loop.invariant.asked)

pub returns-clause-most : goal.returns-clause-most
returns-clause-most g c =
    let old = c.args.self.now in
    read-most (way-all old (c.loop.self.next - old.next)) (AskedAtMost-then c.in_ok-find_in_hand.ensures.asked c.loop.invariant.asked)

pub returns-then-branch-clause-within : goal.returns-then-branch-clause-within
returns-then-branch-clause-within g c = λ few. omega (arith, few, c.find_in_hand.ensures.next)

pub returns-in_err-find_in_hand-clause-within : goal.returns-in_err-find_in_hand-clause-within
returns-in_err-find_in_hand-clause-within g c = λ few. omega (arith, few, c.find_in_hand.ensures.next)

pub returns-in_err-find_in_next-clause-within : goal.returns-in_err-find_in_next-clause-within
returns-in_err-find_in_next-clause-within g c = λ few.
    let whole = c.blocks-end.ensures ∙ ap count_of c.heap.ensures ∙ ap (λ (h : SoundHeap). count_of (heap_in h)) c.find_in_hand.ensures.same.heap in
    omega (arith, whole, c.loop-test.true, c.loop.invariant.next, c.find_in_next.ensures.onward.1)

pub returns-then-branch-2-clause-within : goal.returns-then-branch-2-clause-within
returns-then-branch-2-clause-within g c = λ few.
    let whole = c.blocks-end.ensures ∙ ap count_of c.heap.ensures ∙ ap (λ (h : SoundHeap). count_of (heap_in h)) c.find_in_hand.ensures.same.heap in
    omega (arith, whole, c.loop-test.true, c.loop.invariant.next, c.find_in_next.ensures.onward.1)

pub returns-clause-within : goal.returns-clause-within
returns-clause-within g c = λ few. c.loop.invariant.within few
