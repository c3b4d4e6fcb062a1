use Rattle.std.proofs.Common.{◌≡◌, ℕ, List, codes, refl, Bool, true, false, ◌&&◌, ◌==◌, ◌+◌, ◌∙◌, arith}
use Rattle.std.proofs.lemmas.Bool.{cond-false, ne_eqb}
use Rattle.outside.specs.declared.files.Part.TheVariants.{Segment, Slru}
use Rattle.std.specs.Str.{bytes_eq}
use Rattle.memory_files.specs.Held.{no_names, with_file}
use Rattle.outside.specs.Outside.{Names}
use Rattle.rel_build.specs.declared.trees.Key.TheVariants.{Group, Id}
use Rattle.rel_build.specs.Files.{built_files, commit_log, held_with}
use Rattle.rel_build.specs.Rows.{rows_below, table_file}
use Rattle.rel_build.specs.Trees.{index_file}
use Rattle.rel_build.proofs.Lengths.{length_index, length_table}
use Rattle.rel_build.proofs.laws.built_files_are_held.Goals as goal

both_false : (a b : Bool) → b ≡ false → a && b ≡ false
both_false true b e = e
both_false false b e = refl

other_part : (k : ℕ) → (0 == k + 1) ≡ false
other_part k = ne_eqb 0 (k + 1) (λ e. omega (arith, e))

-- a first segment is no other one, nor is a file of the commit log
passed : (names : Names) (base bytes of : List ℕ) (k : ℕ) → with_file names base (Segment 0) bytes of (Segment (k + 1)) ≡ names of (Segment (k + 1))
passed names base bytes of k = cond-false _ _ _ (both_false (bytes_eq base of) (0 == k + 1) (other_part k))

passed_log : (names : Names) (base bytes of : List ℕ) (k : ℕ) → with_file names base (Slru 0) bytes of (Segment (k + 1)) ≡ names of (Segment (k + 1))
passed_log names base bytes of k = cond-false _ _ _ (both_false (bytes_eq base of) false refl)

pub returns : goal.returns
unfolding built_files held_with
returns c = record {
  table = λ seed count. refl;
  by_id = λ seed count. refl;
  by_group = λ seed count. refl;
  log = λ seed count. refl;
  others = λ seed count k base.
      let rows = rows_below seed count in
      let one : Names = with_file no_names (codes "t") (Segment 0) (table_file rows) in
      let two : Names = with_file one (codes "i1") (Segment 0) (index_file Id rows) in
      let three : Names = with_file two (codes "i2") (Segment 0) (index_file Group rows) in
      passed_log three (codes "xact") commit_log base k ∙ passed two (codes "i2") (index_file Group rows) base k
      ∙ passed one (codes "i1") (index_file Id rows) base k ∙ passed no_names (codes "t") (table_file rows) base k;
  table_blocks = λ seed count few. length_table seed count few;
  index_blocks = λ key seed count few. length_index key seed count few;
}
