use Rattle.std.proofs.Common.{◌≢◌, ◌∙◌, ◌++◌, [], List, ℕ, ap, refl, subst, sym}
use Rattle.bt_levels.specs.Sound.{index_columns}
use Rattle.bt_search.specs.Spots.{StandsAt, rest_at, rest_from}
use Rattle.laws_search.specs.Search.{At}
use Rattle.bt_scan_lines.proofs.Going.{leaves-all, leaves-as, leaves-next}
use Rattle.bt_scan_lines.proofs.OnLeaf.{line-is}
use Rattle.bt_scan_lines.proofs.forward.add_leaf.Goals as goal

pub tid_on-requires-clause-page : goal.tid_on-requires-clause-page
tid_on-requires-clause-page c = (c.in-Entry.ensures.entry c.in-Entry.at refl).1.laid_out

pub tid_on-requires-clause-first : goal.tid_on-requires-clause-first
tid_on-requires-clause-first c = (c.in-Entry.ensures.entry c.in-Entry.at refl).1.first

pub tid_on-requires-clause-last : goal.tid_on-requires-clause-last
tid_on-requires-clause-last c = (c.in-Entry.ensures.entry c.in-Entry.at refl).1.last

pub loop-lines-init : goal.loop-lines-init
loop-lines-init c =
    let tree = c.args.search.now.tree.now in
    let bounds = c.args.search.now.scan.now in
    record {
      block = refl;
      went = λ names holds some at. record {
        stands = at;
        lines = leaves-all (rest_at names tree bounds c.args.spot.now) (rest_at names tree bounds c.args.spot.now) c.args.lines.now refl;
        left = refl;
      };
    }

pub loop-lines-preserved : goal.loop-lines-preserved
loop-lines-preserved c =
    let tree = c.args.search.now.tree.now in
    let bounds = c.args.search.now.scan.now in
    let inv = c.loop-lines.invariant in
    let at = c.in-Entry.at in
    record {
      block = c.in-Entry.ensures.block ∙ inv.block;
      went = λ names holds some standing.
          let now = inv.went names holds some standing in
          let some_still : c.loop-lines.spot.block ≢ 0 = λ e. some (sym inv.block ∙ e) in
          let stands = subst (λ (p : List ℕ). StandsAt names tree bounds c.loop-lines.spot p) (sym c.new-view.ensures) now.stands in
          let yields = c.in-Entry.ensures.told names holds some_still stands in
          let there = (c.in-Entry.ensures.entry at refl).1 in
          let line = line-is _ c.tid_on.result yields.entry (c.in-Entry.ensures.key at yields.entry refl yields.is) (c.tid_on.ensures (index_columns tree) yields.entry there.read yields.is) in
          record {
            stands = subst (λ (p : List ℕ). StandsAt names tree bounds c.read_leaf.new.spot p) c.new-view.ensures yields.stands;
            lines = leaves-next (rest_at names tree bounds c.args.spot.now) (rest_at names tree bounds c.loop-lines.spot) (rest_at names tree bounds c.read_leaf.new.spot) yields.entry c.args.lines.now c.loop-lines.lines c.push.new.self
                now.lines yields.rest (c.in_ok-push-in-Entry.ensures.text ∙ ap (λ (l : List ℕ). c.loop-lines.lines.text ++ l) line) c.in_ok-push-in-Entry.ensures.count;
            left = now.left ∙ yields.left;
          };
    }

pub returns-in-End : goal.returns-in-End
returns-in-End c = λ names holds some standing.
    let tree = c.args.search.now.tree.now in
    let bounds = c.args.search.now.scan.now in
    let inv = c.loop-lines.invariant in
    let now = inv.went names holds some standing in
    let some_still : c.loop-lines.spot.block ≢ 0 = λ e. some (sym inv.block ∙ e) in
    let stands = subst (λ (p : List ℕ). StandsAt names tree bounds c.loop-lines.spot p) (sym c.new-view.ensures) now.stands in
    leaves-as (rest_at names tree bounds c.args.spot.now) (rest_at names tree bounds c.loop-lines.spot) [] c.args.lines.now c.loop-lines.lines (c.in-End.ensures.told names holds some_still stands).rest now.lines

pub returns-in-Right : goal.returns-in-Right
returns-in-Right c = λ names holds some standing.
    let tree = c.args.search.now.tree.now in
    let bounds = c.args.search.now.scan.now in
    let inv = c.loop-lines.invariant in
    let now = inv.went names holds some standing in
    let some_still : c.loop-lines.spot.block ≢ 0 = λ e. some (sym inv.block ∙ e) in
    let stands = subst (λ (p : List ℕ). StandsAt names tree bounds c.loop-lines.spot p) (sym c.new-view.ensures) now.stands in
    let right = c.in-Right.ensures.told names holds some_still stands in
    record {
      comes = right.comes;
      left = now.left ∙ right.left;
      lines = leaves-as (rest_at names tree bounds c.args.spot.now) (rest_at names tree bounds c.loop-lines.spot) (rest_from names tree bounds (At c.in-Right.next [])) c.args.lines.now c.loop-lines.lines right.rest now.lines;
    }
