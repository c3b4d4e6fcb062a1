use Rattle.std.proofs.Common.{List, [], refl, subst}
use Rattle.std.specs.Prelude.{All, true, ◌≡◌}
use Rattle.heap_rows.specs.declared.rows.LiveRow.{LiveRow}
use Rattle.join_unique.specs.Roots.{is_root_in}
use Rattle.join_unique.proofs.Reading.{no-values}
use Rattle.join_unique.proofs.check.roots_of.Goals as goal

pub add_roots-requires-clause-none : goal.add_roots-requires-clause-none
add_roots-requires-clause-none g c = no-values c.in_ok-cursor.cursor [] c.in_ok-cursor.ensures.asked refl

pub add_roots-requires-clause-told : goal.add_roots-requires-clause-told
add_roots-requires-clause-told g c = λ names told. let hold = c.requires.hold names told in c.in_ok-cursor.ensures.told names hold.heap hold.quiet

pub returns-clause-roots : goal.returns-clause-roots
returns-clause-roots g c = λ names told.
    subst (λ (rows : List LiveRow). All (λ row. is_root_in c.add_roots.new.roots row.root ≡ true) rows) (c.in_ok-cursor.ensures.all names) (c.in_ok-add_roots.ensures.roots names told)
