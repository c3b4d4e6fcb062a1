-- The columns of indexes, one index after another.
use Rattle.std.proofs.Common.{◌≡◌, ◌∙◌, ℕ, ◌+◌, ◌<◌, List, [], ◌∷◌, ◌++◌, length, drop, get_or, sym, ap, arith, add-one, append-nil, drop-cons, length-append}
use Rattle.std.specs.Prelude.{All, take}
use Rattle.std.proofs.Math.Seq.{drop-append_seam, take-append_seam}
use Rattle.std.proofs.lemmas.Grind.{flat_map-append}
use Rattle.std.proofs.lemmas.List.{take-append-drop, take_more}
use Rattle.std.proofs.lemmas.List.Elements.{All-append, All-head, All-nil, All-tail}
use Rattle.case_file.specs.Record.{CaseRecord}
use Rattle.case_file.specs.Sound.{IsSound}
use Rattle.heap_rows.specs.declared.row_values.AskedColumns.{AskedColumns}
use Rattle.heap_rows.specs.declared.row_values.AskedColumns.TheVariants.{All as Every, Only}
use Rattle.heap_rows.specs.RowCursor.{AreAsked}
use Rattle.heap_table_check.specs.declared.files.SoundHeap.{SoundHeap}
use Rattle.bt_levels.specs.declared.sound.SoundTree.{SoundTree}
use Rattle.bt_levels.specs.Files.{number_of}
use Rattle.bt_levels.specs.Sound.{file_of, index_columns}
use Rattle.join_row_keys.specs.Joined.{BelongTogether}
use Rattle.heap_indexed.specs.Meetings.{columns_of_all}
use Rattle.join_row_keys.specs.Rows.{AreAskedFrom, columns_in}
use Rattle.join_row_keys.proofs.KeyLaws.{columns-many, columns-there}

key : SoundTree → List ℕ
key tree = columns_in (index_columns tree)

-- those of one index more
pub columns-next : (trees : List SoundTree) (j : ℕ) (tree : SoundTree) → tree ≡ get_or trees j tree → j < length trees → columns_of_all (take (j + 1) trees) ≡ columns_of_all (take j trees) ++ columns_in (index_columns tree)
unfolding key
columns-next trees j tree is lt =
    ap columns_of_all (take_more trees j tree lt)
    ∙ flat_map-append key (take j trees) (get_or trees j tree ∷ [])
    ∙ ap (λ (ks : List ℕ). columns_of_all (take j trees) ++ ks) (append-nil (key (get_or trees j tree)) ∙ ap key (sym is))

pub columns-count : (trees : List SoundTree) (j : ℕ) (tree : SoundTree) → tree ≡ get_or trees j tree → j < length trees → length (columns_of_all (take (j + 1) trees)) ≡ length (columns_of_all (take j trees)) + length (index_columns tree).specs + length (index_columns tree).more
columns-count trees j tree is lt =
    ap length (columns-next trees j tree is lt)
    ∙ length-append (columns_of_all (take j trees)) (columns_in (index_columns tree))
    ∙ omega (arith, columns-many (index_columns tree))

-- all are those before an index, its own, and those behind it
split : (trees : List SoundTree) (j : ℕ) (tree : SoundTree) → tree ≡ get_or trees j tree → j < length trees → columns_of_all trees ≡ columns_of_all (take j trees) ++ (columns_in (index_columns tree) ++ columns_of_all (drop (j + 1) trees))
unfolding key
split trees j tree is lt =
    ap columns_of_all (sym (take-append-drop j trees))
    ∙ flat_map-append key (take j trees) (drop j trees)
    ∙ ap (λ (ts : List SoundTree). columns_of_all (take j trees) ++ columns_of_all ts) (drop-cons trees j tree lt ∙ ap (λ (k : ℕ). get_or trees j tree ∷ drop k trees) (sym (add-one j)))
    ∙ ap (λ (t : SoundTree). columns_of_all (take j trees) ++ (key t ++ columns_of_all (drop (j + 1) trees))) (sym is)

seam : (a b c all : List ℕ) → all ≡ a ++ (b ++ c) → take (length b) (drop (length a) all) ≡ b
seam a b c all is =
    ap (λ (ns : List ℕ). take (length b) (drop (length a) ns)) is ∙ ap (λ (ns : List ℕ). take (length b) ns) (drop-append_seam a (b ++ c)) ∙ take-append_seam b c

-- a cursor that is asked for all is asked for those of the index from there on
pub asked-here : (trees : List SoundTree) (j : ℕ) (tree : SoundTree) (asked : AskedColumns) (first : ℕ) → tree ≡ get_or trees j tree → j < length trees → first ≡ length (columns_of_all (take j trees)) → AreAsked (columns_of_all trees) asked → AreAskedFrom first (columns_in (index_columns tree)) asked
asked-here trees j tree Every first is lt at are = are
asked-here trees j tree (Only numbers) first is lt at are =
    ap (λ (n : ℕ). take (length (columns_in (index_columns tree))) (drop n numbers.items)) at
    ∙ seam (columns_of_all (take j trees)) (columns_in (index_columns tree)) (columns_of_all (drop (j + 1) trees)) numbers.items (are ∙ split trees j tree is lt)

-- all are columns of the case
pub all-there : (case : CaseRecord) (heap : SoundHeap) (trees : List SoundTree) → IsSound case → All (λ (tree : SoundTree). BelongTogether case heap tree) trees → All (λ k. k < length case.columns) (columns_of_all trees)
all-there case heap [] sound belong = All-nil (λ k. k < length case.columns)
all-there case heap (t ∷ trees) sound belong =
    let index = (All-head (λ (tree : SoundTree). BelongTogether case heap tree) t trees belong).index in
    All-append (λ k. k < length case.columns) (columns_in (index_columns t)) (columns_of_all trees) (columns-there case (number_of (file_of t)) t sound index)
    (all-there case heap trees sound (All-tail (λ (tree : SoundTree). BelongTogether case heap tree) t trees belong))
