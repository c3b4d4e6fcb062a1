use Rattle.std.proofs.Common.{◌≤◌}
use Rattle.heap_rows.specs.Rows.{rows_of}
use Rattle.join_row_entries.specs.Entries.{entries_of_rows}
use Rattle.join_row_entries.proofs.ListedLaws.{quiet_listed}
use Rattle.laws_built_clean.proofs.Entries.{certain, clean, equal, joined}
use Rattle.join_row_keys.proofs.HeapRoots.{root-named}
use Rattle.laws_built_clean.proofs.remade_indexes_are_clean.Goals as goal

pub returns : goal.returns
returns c case names n is =
    let some : 1 ≤ case.segment_blocks = is.sound.segment_blocks.0 in
    let es = entries_of_rows case n (rows_of case names) in
    let are = (quiet_listed case names n is.read).entries in
    let held = (c.written_indexes_are_sound.ensures.file case names n es some is.written).entries in
    let whole = c.rows_are_live_tuples.ensures.exact case names is.sound is.quiet in
    let roots = root-named case names is.quiet whole in
    let judged = c.heaps_and_indexes_are_judged.ensures case names n in
    record {
      alone = c.written_indexes_are_sound.ensures.quiet case names n es some is.written;
      joined = joined case names n are held roots;
      certain = certain case names n are held roots judged;
      equal = equal case names n are held roots judged;
      clean = clean case names n are held roots judged;
    }
