-- How deep the document that is written nests.
use Rattle.std.proofs.Common.{◌≡◌, ℕ, ◌≤◌, max, List, [], ◌∷◌, map, Option, Some, None, codes, string_bytes, refl, arith}
use Rattle.toml.specs.Data.{Data, depth, items_depth, members_depth, string}
use Rattle.toml.specs.View.{items_of}
use Rattle.case_text.specs.declared.parts.ClusterPart.{ClusterPart}
use Rattle.case_text.specs.declared.parts.ColumnPart.{ColumnPart}
use Rattle.case_text.specs.declared.parts.IndexPart.{IndexPart}
use Rattle.case_text.specs.declared.parts.KeyPart.{KeyPart}
use Rattle.case_text.specs.declared.parts.TablePart.{TablePart}
use Rattle.case_text.specs.declared.parts.ToastPart.{ToastPart}
use Rattle.case_text.specs.Written.{cluster_pairs, column_data, column_pairs, document_told, heap_pairs, index_data, index_pairs, key_data, key_pairs}
use Rattle.case_text.specs.Written.{members_with, more_data, toast_pairs, top_pairs, with_member}
use Rattle.case_text.proofs.ColumnReads.{column_written}

max_below : (a b n : ℕ) → a ≤ n → b ≤ n → max a b ≤ n
max_below a b n p q = omega arith

pub items_below : {A : Type 0} (f : A → Data) (n : ℕ) (xs : List A) → ((x : A) → depth (f x) ≤ n) → items_depth (items_of (map f xs)) ≤ n
items_below f n [] each = omega arith
items_below f n (x ∷ xs) each = max_below (depth (f x)) (items_depth (items_of (map f xs))) n (each x) (items_below f n xs each)

column_depth : (c : ColumnPart) → depth (column_data c) ≤ 1
unfolding column_data column_pairs
column_depth c = let flat = (column_written c).flat in omega (arith, flat)

key_depth : (cs : List ColumnPart) (key : KeyPart) → depth (key_data cs key) ≤ 1
unfolding key_data key_pairs with_member
key_depth cs key = omega arith

more_depth : (cs : List ColumnPart) (k : ℕ) → depth (more_data cs k) ≤ 0
unfolding more_data
more_depth cs k = omega arith

-- an index with its keys and the columns that it includes
index_depth : (cs : List ColumnPart) (i : IndexPart) → depth (index_data cs i) ≤ 3
unfolding index_data index_pairs with_member
index_depth cs i =
    let keys = items_below (key_data cs) 1 i.keys.items (key_depth cs) in
    let more = items_below (more_data cs) 0 i.more.items (more_depth cs) in
    omega (arith, keys, more)

cluster_depth : (c : ClusterPart) → members_depth (members_with (cluster_pairs c)) ≡ 0
unfolding cluster_pairs with_member
cluster_depth c = refl

heap_depth_by : (file : List ℕ) (toast : Option ToastPart) → members_depth (members_with ((codes "file", string file) ∷ toast_pairs toast)) ≡ 0
unfolding toast_pairs with_member
heap_depth_by file None = refl
heap_depth_by file (Some t) = refl

heap_depth : (t : TablePart) → members_depth (members_with (heap_pairs t)) ≡ 0
unfolding heap_pairs
heap_depth t = heap_depth_by (string_bytes t.file) t.toast

pub document_depth : (c : ClusterPart) (t : TablePart) → members_depth (document_told c t) ≤ 80
unfolding document_told top_pairs with_member
document_depth c t =
    let columns = items_below column_data 1 t.columns.items column_depth in
    let indexes = items_below (index_data t.columns.items) 3 t.indexes.items (index_depth t.columns.items) in
    let cluster = cluster_depth c in
    let heap = heap_depth t in
    omega (arith, columns, indexes, cluster, heap)
