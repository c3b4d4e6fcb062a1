use Rattle.std.proofs.Common.{ℕ, ◌+◌, ◌*◌, ◌≤◌, List, [], ◌∷◌, length, arith}
use Rattle.std.proofs.Math.Nat.{mul-le-mul_left}
use Rattle.key_orders.specs.declared.more.MoreSpec.{MoreSpec}
use Rattle.bt_search.specs.Lookups.{most_visits}
use Rattle.bt_levels.specs.Sound.{more_of}
use Rattle.heap_rows.specs.Rows.{rows_of}
use Rattle.join_look_ups.specs.Looking.{look_length, looks_beside}
use Rattle.join_look_ups.proofs.probe.probe_rows.Goals as goal

-- as many rows, each with no more visits
count-most : (count old rows one most : ℕ) → one ≤ most → count ≤ old + rows * one → count ≤ old + rows * most
count-most count old rows one most le h = let more = mul-le-mul_left rows le in omega (arith, more, h)

one-beside : (more : List MoreSpec) → looks_beside more ≤ 1
one-beside [] = omega arith
one-beside (m ∷ more) = omega arith

pub returns-clause-most : goal.returns-clause-most
returns-clause-most g c names told =
    let tree = c.args.at.tree.now in
    let short = c.ways_are_short.ensures names tree (c.requires.hold names told).tree in
    let beside = one-beside (more_of tree) in
    let most : look_length names tree ≤ most_visits tree = omega (arith, short, beside) in
    count-most c.probe_in_turn.new.look_ups.visits.count c.args.look_ups.now.visits.count (length (rows_of c.args.at.case.now names)) (look_length names tree) (most_visits tree) most
    (c.in_ok-probe_in_turn.ensures.visits names told)
