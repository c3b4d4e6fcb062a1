use Rattle.std.proofs.Common.{rules, ◌≡◌, ℕ, ◌+◌, ◌-◌, ◌*◌, ◌≤◌, [], length, refl, sym, ap, subst, ◌∙◌, arith}
use Rattle.std.proofs.Math.Nat.{mul-le-mul_left}
use Rattle.heap_rows.specs.RowPages.{IsRowFound}
use Rattle.heap_rows.specs.Reads.{row_reads}
use Rattle.heap_rows.specs.RowValues.{count_asked}
use Rattle.std.specs.Option.{option_copied}
use Rattle.outside.proofs.Asking.{AskedAtMost-more, AskedAtMost-then, PassedAtMost-next}
use Rattle.heap_rows.specs.Rows.{item_rows}
use Rattle.heap_rows.proofs.ReadLaws.{asked-ok, turn-after, turns-most}
use Rattle.heap_rows.proofs.RowSteps.{in_hand_done, in_hand_next, in_hand_same, known_same, same_as}
use Rattle.heap_rows.proofs.row_page.RowPage.find.Goals as goal

pub returns-in_err-find_at-clause-left : goal.returns-in_err-find_at-clause-left
returns-in_err-find_at-clause-left g c = λ names told case known are.
    in_hand_same case names c.loop-k.self c.find_at.new.self c.in_err-find_at.ensures.page c.in_err-find_at.ensures.done
    ∙ c.loop-k.invariant.left names told case known are

pub returns-then-branch-clause-left : goal.returns-then-branch-clause-left
returns-then-branch-clause-left g c = λ names told case known are.
    in_hand_same case names c.loop-k.self c.find_at.new.self c.in_ok-find_at.ensures.page c.in_ok-find_at.ensures.done
    ∙ c.loop-k.invariant.left names told case known are

pub returns-then-branch-clause-next : goal.returns-then-branch-clause-next
returns-then-branch-clause-next g c = λ names told case yes known are.
    let same = c.loop-k.invariant.page.count in
    let count = c.in_ok-find_at.ensures.page.count in
    let last : c.loop-k.k + 1 ≤ c.loop-k.self.count = omega (arith, same, c.loop-k-test.true, c.loop-k.auto.k-end, c.min-count.ensures) in
    let done : c.find_at.new.self.done ≡ c.loop-k.k = c.in_ok-find_at.ensures.done ∙ c.loop-k.invariant.done in
    let before = known_same case names (option_copied c.args.from.now.toast) c.args.from.now.chunks.now c.args.self.now c.loop-k.self c.loop-k.invariant.page known in
    record {
      inside = omega (arith, last, count, done);
      row = subst (λ (n : ℕ). IsRowFound case names c.args.from.now.asked.now c.find_at.new.self (n + 1)) (sym done)
          (c.in_ok-find_at.ensures.row names (c.loop-k.invariant.asked.same ∙ told) case c.if-branch.true (before (c.loop-k.k + 1) (omega arith) last) are);
    }

pub loop-k-preserved : goal.loop-k-preserved
loop-k-preserved g c =
    let same = c.loop-k.invariant.page.count in
    let last : c.loop-k.k + 1 ≤ c.loop-k.self.count = omega (arith, same, c.loop-k-test.true, c.loop-k.auto.k-end, c.min-count.ensures) in
    let page = c.in_ok-find_at.ensures.page in
    let each = row_reads (option_copied c.args.from.now.toast) (count_asked (length c.args.from.now.columns.now) c.args.from.now.asked.now) in
    let turns : ℕ = c.loop-k.k - c.args.self.now.done in
    let more : each * (turns + 1) ≤ each * (c.loop-k.k + 1 - c.args.self.now.done) = mul-le-mul_left each (omega (arith, c.loop-k.invariant.from)) in
    record {
      left = λ names told case known are.
          let before = known_same case names (option_copied c.args.from.now.toast) c.args.from.now.chunks.now c.args.self.now c.loop-k.self c.loop-k.invariant.page known in
          let none = c.in_ok-find_at.ensures.none names (c.loop-k.invariant.asked.same ∙ told) case c.if-branch.false (before (c.loop-k.k + 1) (omega arith) last) are in
          let at : item_rows case names c.loop-k.self.block c.loop-k.self.bytes (c.loop-k.self.done + 1) ≡ [] = ap (λ k. item_rows case names c.loop-k.self.block c.loop-k.self.bytes (k + 1)) c.loop-k.invariant.done ∙ none in
          sym (in_hand_next case names c.loop-k.self _ [] (record { block = page.block; bytes = page.bytes; count = page.count; plain = page.plain; states = page.states; roots = page.roots }) (ap (λ k. k + 1) (sym c.loop-k.invariant.done)) (omega (arith, last, c.loop-k.invariant.done)) at)
          ∙ c.loop-k.invariant.left names told case known are;
      page = same_as c.args.self.now c.loop-k.self _ c.loop-k.invariant.page (record { block = page.block; bytes = page.bytes; count = page.count; plain = page.plain; states = page.states; roots = page.roots });
      done = refl;
      from = omega (arith, c.loop-k.invariant.from);
      few = omega (arith, c.loop-k-test.true, c.loop-k.auto.k-end, c.min-count.ensures);
      asked = AskedAtMost-more more (PassedAtMost-next each turns c.loop-k.invariant.asked c.in_ok-find_at.ensures.asked);
    }

pub returns-clause-left : goal.returns-clause-left
returns-clause-left g c = λ names told case known are.
    in_hand_same case names c.loop-k.self _ (record { block = refl; bytes = refl; count = refl; plain = refl; states = refl; roots = refl }) refl
    ∙ c.loop-k.invariant.left names told case known are

pub returns-clause-none : goal.returns-clause-none
returns-clause-none g c = λ names told case not few.
    let same = c.loop-k.invariant.page.count in
    let most : c.loop-k.self.count ≤ c.loop-k.self.done = omega (arith, few, same, c.loop-k-test.false, c.loop-k.auto.k-end, c.min-count.ensures, c.loop-k.invariant.done) in
    in_hand_done case names _ most

pub returns-in_err-find_at-clause-asked : goal.returns-in_err-find_at-clause-asked
returns-in_err-find_at-clause-asked g c =
    let each = row_reads (option_copied c.args.from.now.toast) (count_asked (length c.args.from.now.columns.now) c.args.from.now.asked.now) in
    let few = turn-after each (c.loop-k.k - c.args.self.now.done) (omega (arith, c.loop-k-test.true, c.loop-k.auto.k-end, c.min-count.ensures)) in
    let all = AskedAtMost-more few (AskedAtMost-then c.loop-k.invariant.asked c.in_err-find_at.ensures.asked) in
    search rules

pub returns-then-branch-clause-asked : goal.returns-then-branch-clause-asked
returns-then-branch-clause-asked g c =
    let each = row_reads (option_copied c.args.from.now.toast) (count_asked (length c.args.from.now.columns.now) c.args.from.now.asked.now) in
    let few = turn-after each (c.loop-k.k - c.args.self.now.done) (omega (arith, c.loop-k-test.true, c.loop-k.auto.k-end, c.min-count.ensures)) in
    asked-ok few (AskedAtMost-then c.loop-k.invariant.asked c.in_ok-find_at.ensures.asked)

pub returns-clause-asked : goal.returns-clause-asked
returns-clause-asked g c =
    let each = row_reads (option_copied c.args.from.now.toast) (count_asked (length c.args.from.now.columns.now) c.args.from.now.asked.now) in
    asked-ok (turns-most each (c.loop-k.k - c.args.self.now.done) c.loop-k.invariant.few) c.loop-k.invariant.asked
