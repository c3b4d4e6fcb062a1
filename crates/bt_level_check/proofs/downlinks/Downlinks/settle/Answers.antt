use Rattle.std.proofs.Common.{◌≡◌, suc, sym, subst, ◌∙◌, arith}
use Rattle.outside.proofs.Asking.{Passed-next, Passed-none}
use Rattle.bt_pages.specs.Trees.{tree_seen}
use Rattle.bt_level_check.specs.Downlinks.{Reads, turns_of}
use Rattle.bt_level_check.specs.Sets.{is_in}
use Rattle.bt_level_check.proofs.Hands.{at_end, not_settled}
use Rattle.bt_level_check.proofs.downlinks.Downlinks.settle.Goals as goal

pub loop-self-init : goal.loop-self-init
loop-self-init g c = record {
  readable = c.requires.readable;
  reads = λ names told holds level left reads. reads;
  fewer = omega arith;
  taken = omega arith;
  asked = Passed-none;
}

pub loop-self-preserved : goal.loop-self-preserved
loop-self-preserved g c =
    let open_hand = not_settled c.loop-self.self (sym c.is_settled.ensures ∙ c.if-is_settled.false) in
    let t = c.in_ok-turn.ensures in
    let turned : turns_of c.loop-self.self ≡ suc (turns_of c.turn.new.self) = let turns = t.turns in omega (arith, turns) in
    let fewer = c.loop-self.invariant.fewer in
    let taken = c.loop-self.invariant.taken in
    let most = t.asked.most in
    record {
      readable = t.readable;
      reads = λ names told holds level left reads.
          t.reads names (c.loop-self.invariant.asked.same ∙ told) holds level (turns_of c.turn.new.self) left open_hand.1
          (subst (λ m. Reads (tree_seen names c.args.tree.now) (is_in c.args.dead.now) (suc level) m c.loop-self.self left) turned (c.loop-self.invariant.reads names told holds level left reads));
      fewer = omega (arith, fewer, turned);
      taken = omega (arith, taken, most, turned);
      asked = Passed-next c.loop-self.invariant.asked t.asked;
    }

pub returns-then-is_settled-clause-reads : goal.returns-then-is_settled-clause-reads
returns-then-is_settled-clause-reads g c names told holds level left reads = (c.loop-self.invariant.reads names told holds level left reads, sym c.is_settled.ensures ∙ c.if-is_settled.true)

pub turn-requires-clause-nothing : goal.turn-requires-clause-nothing
turn-requires-clause-nothing g c = (not_settled c.loop-self.self (sym c.is_settled.ensures ∙ c.if-is_settled.false)).0

pub returns-clause-reads : goal.returns-clause-reads
returns-clause-reads g c names told holds level left reads =
    let none : turns_of c.loop-self.self ≡ 0 = let f = c.loop-self-test.false in omega (arith, f) in
    let now = c.loop-self.invariant.reads names told holds level left reads in
    (now, at_end (tree_seen names c.args.tree.now) (is_in c.args.dead.now) (suc level) (turns_of c.loop-self.self) c.loop-self.self left none now)

pub turn-requires-clause-attached : goal.turn-requires-clause-attached
turn-requires-clause-attached g c names told = c.requires.attached names (sym c.loop-self.invariant.asked.same ∙ told)
