-- The bytes of tuples are read again.
use Rattle.std.proofs.Common.{◌≡◌, ◌≢◌, ◌≤◌, ◌<◌, ◌+◌, ◌-◌, ◌*◌, ◌/◌, ◌%◌, ◌^◌, ℕ, List, [], ◌++◌, length, take, drop, Bool, true, false, not, ◌&&◌, ◌||◌, ◌==◌, nat_lt, cond, Option, Some, None, is_some, Ok, add-zero, refl, ap, sym, ◌∙◌, arith, append_assoc, subst}
use Rattle.std.proofs.Math.Seq.{drop-append_seam, drop-append-add, take-append_seam}
use Rattle.std.specs.Option.{ForSome}
use Rattle.std.proofs.lemmas.Bool.{cond-false, cond-true, eq-eqb, le-ltb, ne_eqb}
use Rattle.std.proofs.lemmas.Bool.Decides.{nat_tests}
use Rattle.std.proofs.lemmas.List.{append-nil, drop-append-le, drop-drop, length-append, length-drop, take-append-le}
use Rattle.std.proofs.lemmas.Nat.Bits.{and_pow}
use Rattle.byteorder.specs.Endian.{little_bytes, little_number}
use Rattle.byteorder.specs.Numbers.{little_number-reads_back}
use Rattle.page_layout.specs.Page.{block_at, has_bit, u16_at, u32_at}
use Rattle.page_layout.specs.Writes.{block_bytes, u16_bytes, u32_bytes}
use Rattle.key_orders.specs.declared.columns.KeySpec.{KeySpec}
use Rattle.key_orders.specs.declared.columns.Value.{Value}
use Rattle.key_orders.specs.declared.more.MoreSpec.{MoreSpec}
use Rattle.key_orders.specs.declared.Tid.{Tid}
use Rattle.tuple_head.specs.declared.HeapHead.{HeapHead}
use Rattle.tuple_head.specs.Head.{tuple_head_of}
use Rattle.bt_meta.specs.declared.records.HeadKind.{HeadKind}
use Rattle.bt_meta.specs.declared.records.HeadKind.TheVariants.{Pivot, Plain}
use Rattle.bt_meta.specs.declared.records.TreeHead.{TreeHead}
use Rattle.bt_meta.specs.Heads.{kind_of, tree_head_of}
use Rattle.bt_tuples.specs.declared.items.Spot3.{Spot3}
use Rattle.bt_tuples.specs.declared.items.Spot3.TheVariants.{HighKey, FirstInner, LeafItem}
use Rattle.bt_tuples.specs.Items.{Item, meaning_by, meaning_of, outcome_by, tuple_outcome, values_or_none}
use Rattle.bt_tuples.specs.Items as item
use Rattle.bt_tuples.specs.Rules.{breaks_form, breaks_tids_by, includes_some}
use Rattle.bt_tuples.specs.Tuples.{body_begin, body_end, columns_by, has_null_bits, keeps_tid, kept_tid, number_of, size_of, tid_at, values_in}
use Rattle.varlena_attrs.specs.Forms.{bytes_between}
use Rattle.key_attrs.specs.Keyed.{key_types, key_values, more_types}
use Rattle.page_write.specs.declared.index_tuples.BodyFlags.{BodyFlags}
use Rattle.page_write.specs.Fields.{IsHeapHead, IsTid}
use Rattle.page_write.specs.Pages.{zeros}
use Rattle.page_write.specs.Tuples.{before_tid, heap_head_bytes, heap_tuple, index_head_bytes, index_size, kept_tid_bytes, masks_of, nulls_part, padded_body, pivot_tuple, plain_tuple, tid_bytes, tid_mask, tid_room, values_part}
use Rattle.page_write.proofs.Zeros.{length_zeros}

-- a block number from its halves
block_back : (n : ℕ) → n < 4294967296
    → little_number 2 (little_bytes 2 (n / 65536)) * 65536 + little_number 2 (little_bytes 2 (n % 65536)) ≡ n
block_back n small =
    let high = little_number-reads_back 2 (n / 65536) [] (omega (arith, small)) in
    let low = little_number-reads_back 2 (n % 65536) [] (omega arith) in
    omega (arith, high, low)

-- Tuples of a table

pub reads_heap_head : (head : HeapHead) (rest : List ℕ) → IsHeapHead head → tuple_head_of (heap_head_bytes head ++ rest) ≡ head
unfolding tuple_head_of heap_head_bytes block_bytes u16_bytes u32_bytes u16_at u32_at block_at
reads_heap_head head rest is = λ i. record {
  xmin = little_number-reads_back 4 head.xmin [] is.xmin i;
  xmax = little_number-reads_back 4 head.xmax [] is.xmax i;
  field3 = little_number-reads_back 4 head.field3 [] is.field3 i;
  ctid = record {
    block = block_back head.ctid.block is.ctid.block i;
    item = little_number-reads_back 2 head.ctid.item [] is.ctid.item i;
  };
  infomask2 = little_number-reads_back 2 head.infomask2 [] is.infomask2 i;
  infomask = little_number-reads_back 2 head.infomask [] is.infomask i;
  hoff = head.hoff;
}

from_head : (a b c d : List ℕ) → a ++ b ++ c ++ d ≡ a ++ (b ++ (c ++ d))
from_head a b c d = simp append_assoc

length_heap_head : (head : HeapHead) → length (heap_head_bytes head) ≡ 23
unfolding heap_head_bytes block_bytes u16_bytes u32_bytes
length_heap_head head = refl

pub heap_tuple_head : (head : HeapHead) (nulls body : List ℕ) → IsHeapHead head → tuple_head_of (heap_tuple head nulls body) ≡ head
unfolding heap_tuple
heap_tuple_head head nulls body is =
    ap tuple_head_of (from_head (heap_head_bytes head) nulls (zeros (head.hoff - 23 - length nulls)) body)
    ∙ reads_heap_head head (nulls ++ (zeros (head.hoff - 23 - length nulls) ++ body)) is

pub heap_tuple_nulls : (head : HeapHead) (nulls body : List ℕ) → take (length nulls) (drop 23 (heap_tuple head nulls body)) ≡ nulls
unfolding heap_tuple
heap_tuple_nulls head nulls body =
    let h : List ℕ = heap_head_bytes head in
    let pad : List ℕ = zeros (head.hoff - 23 - length nulls) in
    ap (λ (z : List ℕ). take (length nulls) (drop 23 z)) (from_head h nulls pad body)
    ∙ ap (λ (n : ℕ). take (length nulls) (drop n (h ++ (nulls ++ (pad ++ body))))) (sym (length_heap_head head))
    ∙ ap (take (length nulls)) (drop-append_seam h (nulls ++ (pad ++ body)))
    ∙ take-append_seam nulls (pad ++ body)

pub heap_tuple_body : (head : HeapHead) (nulls body : List ℕ) → 23 + length nulls ≤ head.hoff
    → drop head.hoff (heap_tuple head nulls body) ≡ body
unfolding heap_tuple
heap_tuple_body head nulls body fits =
    let h : List ℕ = heap_head_bytes head in
    let pad : List ℕ = zeros (head.hoff - 23 - length nulls) in
    let long : head.hoff ≡ length (h ++ nulls ++ pad) =
    let a = length-append h nulls in
    let b = length-append (h ++ nulls) pad in
    let c = length_heap_head head in
    let d = length_zeros (head.hoff - 23 - length nulls) in
    omega (arith, a, b, c, d, fits) in
    ap (λ (n : ℕ). drop n (h ++ nulls ++ pad ++ body)) long ∙ drop-append_seam (h ++ nulls ++ pad) body

-- Tuples of an index

-- a bit that is a power of 2
pub bit_set : (word k : ℕ) → word / 2 ^ k % 2 ≡ 1 → 0 < 2 ^ k → has_bit word (2 ^ k) ≡ true
unfolding has_bit
bit_set word k e some = ap (λ (n : ℕ). not (n == 0)) (and_pow word k ∙ ap (λ (n : ℕ). n * 2 ^ k) e) ∙ ap not (ne_eqb (1 * 2 ^ k) 0 (λ none. omega (arith, none, some)))

bit_clear : (word k : ℕ) → word / 2 ^ k % 2 ≡ 0 → has_bit word (2 ^ k) ≡ false
unfolding has_bit
bit_clear word k e = ap (λ (n : ℕ). not (n == 0)) (and_pow word k ∙ ap (λ (n : ℕ). n * 2 ^ k) e) ∙ ap not (eq-eqb (0 * 2 ^ k) 0 (omega arith))

pub reads_index_head : (block item info : ℕ) (rest : List ℕ) → block < 4294967296 → item < 65536 → info < 65536
    → tree_head_of (index_head_bytes block item info ++ rest)
    ≡ record { block = block; item = item; info = info; kind = kind_of item info }
unfolding tree_head_of index_head_bytes block_bytes u16_bytes u16_at block_at
reads_index_head block item info rest a b d = λ i. record {
  block = block_back block a i;
  item = little_number-reads_back 2 item [] b i;
  info = little_number-reads_back 2 info [] d i;
  kind = kind_of (little_number-reads_back 2 item [] b i) (little_number-reads_back 2 info [] d i);
}

pub length_index_head : (block item info : ℕ) → length (index_head_bytes block item info) ≡ 8
unfolding index_head_bytes block_bytes u16_bytes
length_index_head block item info = refl

pub length_padded : (body : List ℕ) → length (padded_body body) ≡ index_size (length body) - 8
unfolding padded_body
length_padded body =
    let a = length-append body (zeros (index_size (length body) - (8 + length body))) in
    let b = length_zeros (index_size (length body) - (8 + length body)) in
    omega (arith, a, b)

-- the masks by their bits
masks_by : Bool → Bool → ℕ
masks_by nulls varwidth = masks_of (record { nulls = nulls; varwidth = varwidth })

-- a word of masks and a size below 0x2000 has no INDEX_ALT_TID_MASK, and states the size
plain_word : (nulls varwidth : Bool) (size : ℕ) → size < 8192
    → (has_bit (masks_of (record { nulls = nulls; varwidth = varwidth }) + size) 0x2000 ≡ false)
    × ((masks_of (record { nulls = nulls; varwidth = varwidth }) + size) % 8192 ≡ size)
    × (has_bit (masks_of (record { nulls = nulls; varwidth = varwidth }) + size) 0x8000 ≡ nulls)
    × (masks_of (record { nulls = nulls; varwidth = varwidth }) + size < 65536)
plain_word true true size small = (bit_clear (49152 + size) 13 (omega (arith, small)), omega (arith, small), bit_set (49152 + size) 15 (omega (arith, small)) (omega arith), omega (arith, small))
plain_word true false size small = (bit_clear (32768 + 0 + size) 13 (omega (arith, small)), omega (arith, small), bit_set (32768 + 0 + size) 15 (omega (arith, small)) (omega arith), omega (arith, small))
plain_word false true size small = (bit_clear (0 + 16384 + size) 13 (omega (arith, small)), omega (arith, small), bit_clear (0 + 16384 + size) 15 (omega (arith, small)), omega (arith, small))
plain_word false false size small = (bit_clear (0 + 0 + size) 13 (omega (arith, small)), omega (arith, small), bit_clear (0 + 0 + size) 15 (omega (arith, small)), omega (arith, small))

-- what is asked of a tuple by its head and its values
pub outcome_from : (specs : List KeySpec) (more : List MoreSpec) (spot : Spot3) (tuple : List ℕ) (killed : Bool) (head : TreeHead) (values : List Value) (is : Item)
    → tree_head_of tuple ≡ head → size_of head ≡ length tuple → breaks_form spot (length specs) (includes_some more) head ≡ false
    → body_begin head ≤ body_end head (length tuple) → values_in specs more tuple ≡ Ok values → breaks_tids_by head.kind tuple ≡ false
    → meaning_by head.kind (length specs) tuple killed values ≡ is → tuple_outcome specs more spot tuple killed ≡ Ok is
unfolding tuple_outcome meaning_of
outcome_from specs more spot tuple killed head values is h size form begins told tids means =
    cond-false _ _ _ (ap (λ (x : TreeHead). not (size_of x == length tuple)) h ∙ ap not (eq-eqb (size_of head) (length tuple) size))
    ∙ cond-false _ _ _ (ap (λ (x : TreeHead). breaks_form spot (length specs) (includes_some more) x) h ∙ form)
    ∙ cond-false _ _ _ (ap (λ (x : TreeHead). nat_lt (body_end x (length tuple)) (body_begin x)) h ∙ le-ltb (body_end head (length tuple)) (body_begin head) begins)
    ∙ (λ i. outcome_by (told i) (breaks_tids_by (h i).kind tuple) (meaning_by (h i).kind (length specs) tuple killed (values_or_none (told i))))
    ∙ (λ i. outcome_by (Ok values) (tids i) (means i))

-- the values by the head
pub values_from : (specs : List KeySpec) (more : List MoreSpec) (tuple : List ℕ) (head : TreeHead) → tree_head_of tuple ≡ head
    → values_in specs more tuple
    ≡ key_values (columns_by head.kind head specs more) (bytes_between tuple (body_begin head) (body_end head (length tuple)))
    (cond (has_null_bits head) (Some (take 4 (drop 8 tuple))) None)
unfolding values_in
values_from specs more tuple head h =
    ap (λ (x : TreeHead). key_values (columns_by x.kind x specs more) (bytes_between tuple (body_begin x) (body_end x (length tuple)))
    (cond (has_null_bits x) (Some (take 4 (drop 8 tuple))) None)) h

after_head : (front back : List ℕ) → length front ≡ 8 → drop 8 (front ++ back) ≡ back
after_head front back e = ap (λ (n : ℕ). drop n (front ++ back)) (sym e) ∙ drop-append_seam front back

-- the bytes after the head up to an end, without the null bits
pub part_between : (nulls : Bool) (front bytes rest : List ℕ) (end : ℕ) → length front ≡ 8 → end ≡ 8 + length bytes
    → cond nulls 16 8 ≤ end
    → bytes_between (front ++ (bytes ++ rest)) (cond nulls 16 8) end ≡ cond nulls (drop 8 bytes) bytes
part_between true front bytes rest end e is fits =
    let long : 8 ≤ length bytes = omega (arith, is, fits) in
    let left : end - 16 ≡ length (drop 8 bytes) = let a = length-drop 8 bytes in omega (arith, a, is) in
    ap (take (end - 16)) (sym (drop-drop 8 8 (front ++ (bytes ++ rest))) ∙ ap (drop 8) (after_head front (bytes ++ rest) e) ∙ drop-append-le 8 bytes rest long)
    ∙ ap (λ (n : ℕ). take n (drop 8 bytes ++ rest)) left ∙ take-append_seam (drop 8 bytes) rest
part_between false front bytes rest end e is fits =
    ap (take (end - 8)) (after_head front (bytes ++ rest) e)
    ∙ ap (λ (n : ℕ). take n (bytes ++ rest)) (omega (arith, is)) ∙ take-append_seam bytes rest

pub nulls_between : (nulls : Bool) (front bytes rest : List ℕ) → length front ≡ 8 → cond nulls 16 8 ≤ 8 + length bytes
    → cond nulls (Some (take 4 (drop 8 (front ++ (bytes ++ rest))))) None ≡ cond nulls (Some (take 4 bytes)) None
nulls_between true front bytes rest e fits =
    ap Some (ap (take 4) (after_head front (bytes ++ rest) e) ∙ take-append-le 4 bytes rest (omega (arith, fits)))
nulls_between false front bytes rest e fits = refl

-- Entries of leaves

pub plain_head : (tid : Tid) (flags : BodyFlags) (body : List ℕ) → IsTid tid → length body ≤ 8160
    → tree_head_of (plain_tuple tid flags body)
    ≡ record { block = tid.block; item = tid.item; info = masks_of flags + index_size (length body); kind = Plain }
unfolding plain_tuple kind_of
plain_head tid flags body is short =
    let size = index_size (length body) in
    let word = plain_word flags.nulls flags.varwidth size (omega (arith, short)) in
    reads_index_head tid.block tid.item (masks_of flags + size) (padded_body body) is.block is.item word.3
    ∙ ap (λ (k : HeadKind). record { block = tid.block; item = tid.item; info = masks_of flags + size; kind = k }) (cond-false _ _ _ word.0)

pub length_plain : (tid : Tid) (flags : BodyFlags) (body : List ℕ) → length (plain_tuple tid flags body) ≡ index_size (length body)
unfolding plain_tuple
length_plain tid flags body =
    let head : List ℕ = index_head_bytes tid.block tid.item (masks_of flags + index_size (length body)) in
    let a = length-append head (padded_body body) in
    let b = length_index_head tid.block tid.item (masks_of flags + index_size (length body)) in
    let c = length_padded body in
    omega (arith, a, b, c)

no_list : (b : Bool) → false || (b && false) ≡ false
no_list true = refl
no_list false = refl

pub plain_means : (specs : List KeySpec) (more : List MoreSpec) (tid : Tid) (flags : BodyFlags) (body : List ℕ) (killed : Bool) (values : List Value)
    → IsTid tid → tid.item ≢ 0 → length body ≤ 8160 → cond flags.nulls 16 8 ≤ 8 + length body
    → key_values (key_types specs ++ more_types more) (values_part flags (padded_body body)) (nulls_part flags (padded_body body)) ≡ Ok values
    → tuple_outcome specs more LeafItem (plain_tuple tid flags body) killed ≡ Ok (item.Plain (take (length specs) values) (drop (length specs) values) tid killed)
unfolding plain_tuple has_null_bits
plain_means specs more tid flags body killed values is some short begins told =
    let size = index_size (length body) in
    let tuple : List ℕ = plain_tuple tid flags body in
    let front : List ℕ = index_head_bytes tid.block tid.item (masks_of flags + size) in
    let head : TreeHead = record { block = tid.block; item = tid.item; info = masks_of flags + size; kind = Plain } in
    let h = plain_head tid flags body is short in
    let word = plain_word flags.nulls flags.varwidth size (omega (arith, short)) in
    let front_long = length_index_head tid.block tid.item (masks_of flags + size) in
    let long = length_plain tid flags body in
    let padded = length_padded body in
    let bits : has_null_bits head ≡ flags.nulls = word.2 in
    let end : length tuple ≡ 8 + length (padded_body body) = omega (arith, long, padded) in
    let begins_here : cond flags.nulls 16 8 ≤ length tuple = omega (arith, begins, long) in
    let values_are : values_in specs more tuple ≡ Ok values =
    values_from specs more tuple head h
    ∙ ap (λ (b : Bool). key_values (key_types specs ++ more_types more) (bytes_between tuple (cond b 16 8) (length tuple)) (cond b (Some (take 4 (drop 8 tuple))) None)) bits
    ∙ (λ i. key_values (key_types specs ++ more_types more)
    ((ap (λ (z : List ℕ). bytes_between (front ++ z) (cond flags.nulls 16 8) (length tuple)) (sym (append-nil (padded_body body)))
    ∙ part_between flags.nulls front (padded_body body) [] (length tuple) front_long end begins_here) i)
    ((ap (λ (z : List ℕ). cond flags.nulls (Some (take 4 (drop 8 (front ++ z)))) None) (sym (append-nil (padded_body body)))
    ∙ nulls_between flags.nulls front (padded_body body) [] front_long (omega (arith, begins_here, end))) i))
    ∙ told in
    outcome_from specs more LeafItem tuple killed head values (item.Plain (take (length specs) values) (drop (length specs) values) tid killed) h
    (word.1 ∙ sym long) (no_list (includes_some more))
    (subst (λ (b : Bool). cond b 16 8 ≤ length tuple) (sym bits) begins_here)
    values_are (ap (λ (x : TreeHead). x.item == 0) h ∙ ne_eqb tid.item 0 some)
    (ap (λ (x : TreeHead). item.Plain (take (length specs) values) (drop (length specs) values) (record { block = x.block; item = x.item }) killed) h)

-- Separators

-- a word of INDEX_ALT_TID_MASK, masks and a size below 0x2000
pub pivot_word : (nulls varwidth : Bool) (n size : ℕ) → n ≡ 8192 + masks_of (record { nulls = nulls; varwidth = varwidth }) + size → size < 8192
    → (has_bit n 0x2000 ≡ true) × (n % 8192 ≡ size) × (has_bit n 0x8000 ≡ nulls) × (n < 65536)
pivot_word true true n size e small = (bit_set n 13 (omega (arith, e, small)) (omega arith), omega (arith, e, small), bit_set n 15 (omega (arith, e, small)) (omega arith), omega (arith, e, small))
pivot_word true false n size e small = (bit_set n 13 (omega (arith, e, small)) (omega arith), omega (arith, e, small), bit_set n 15 (omega (arith, e, small)) (omega arith), omega (arith, e, small))
pivot_word false true n size e small = (bit_set n 13 (omega (arith, e, small)) (omega arith), omega (arith, e, small), bit_clear n 15 (omega (arith, e, small)), omega (arith, e, small))
pivot_word false false n size e small = (bit_set n 13 (omega (arith, e, small)) (omega arith), omega (arith, e, small), bit_clear n 15 (omega (arith, e, small)), omega (arith, e, small))

-- an item number with a count, and the bit of a TID
item_word : (tid : Option Tid) (kept : ℕ) → kept < 4096
    → (has_bit (kept + tid_mask tid) 0x2000 ≡ false) × ((kept + tid_mask tid) % 4096 ≡ kept)
    × (has_bit (kept + tid_mask tid) 0x1000 ≡ is_some tid) × (kept + tid_mask tid < 65536)
item_word None kept few = (bit_clear (kept + 0) 13 (omega (arith, few)), omega (arith, few), bit_clear (kept + 0) 12 (omega (arith, few)), omega (arith, few))
item_word (Some tid) kept few = (bit_clear (kept + 4096) 13 (omega (arith, few)), omega (arith, few), bit_set (kept + 4096) 12 (omega (arith, few)) (omega arith), omega (arith, few))

few_more : (tid : Option Tid) → tid_room tid ≤ 8
few_more None = omega arith
few_more (Some tid) = omega arith

-- what stands after the values
after_values : Option Tid → List ℕ
after_values None = []
after_values (Some tid) = tid_bytes tid

pub length_tid : (tid : Tid) → length (tid_bytes tid) ≡ 6
unfolding tid_bytes block_bytes u16_bytes
length_tid tid = refl

length_before : (tid : Option Tid) (body : List ℕ) → length (before_tid tid body) + 8 + cond (is_some tid) 6 0 ≡ index_size (length body) + tid_room tid
unfolding before_tid
length_before None body = let a = length_padded body in omega (arith, a)
length_before (Some tid) body =
    let a = length_padded body in
    let b = length-append (padded_body body) (zeros 2) in
    let c = length_zeros 2 in
    omega (arith, a, b, c)

length_after : (tid : Option Tid) → length (after_values tid) ≡ cond (is_some tid) 6 0
unfolding after_values
length_after None = refl
length_after (Some tid) = length_tid tid

pivot_split : (front : List ℕ) (tid : Option Tid) (body : List ℕ)
    → front ++ padded_body body ++ kept_tid_bytes tid ≡ front ++ (before_tid tid body ++ after_values tid)
unfolding before_tid kept_tid_bytes after_values
pivot_split front None body = append_assoc front (padded_body body) []
pivot_split front (Some tid) body =
    append_assoc front (padded_body body) (zeros 2 ++ tid_bytes tid) ∙ ap (λ (z : List ℕ). front ++ z) (sym (append_assoc (padded_body body) (zeros 2) (tid_bytes tid)))

-- numbers of the bytes at the end
u16_after : (front back : List ℕ) (at k : ℕ) → at ≡ length front → u16_at (front ++ back) (at + k) ≡ u16_at back k
unfolding u16_at
u16_after front back at k e =
    ap (λ (n : ℕ). little_number 2 (drop (n + k) (front ++ back))) e ∙ ap (little_number 2) (drop-append-add front back k)

-- a TID with bytes after it
block_with : (tid : Tid) (rest : List ℕ) → IsTid tid → u16_at (tid_bytes tid ++ rest) 0 * 65536 + u16_at (tid_bytes tid ++ rest) 2 ≡ tid.block
unfolding u16_at tid_bytes block_bytes u16_bytes
block_with tid rest is = block_back tid.block is.block

item_with : (tid : Tid) (rest : List ℕ) → IsTid tid → u16_at (tid_bytes tid ++ rest) 4 ≡ tid.item
unfolding u16_at tid_bytes block_bytes u16_bytes
item_with tid rest is = little_number-reads_back 2 tid.item [] is.item

pub tid_with : (front rest : List ℕ) (tid : Tid) (at : ℕ) → at ≡ length front → IsTid tid → tid_at (front ++ (tid_bytes tid ++ rest)) at ≡ tid
unfolding tid_at block_at
tid_with front rest tid at e is =
    let back : List ℕ = tid_bytes tid ++ rest in
    let high : u16_at (front ++ back) at ≡ u16_at back 0 =
    ap (u16_at (front ++ back)) (sym (add-zero at)) ∙ u16_after front back at 0 e in
    let low = u16_after front back at 2 e in
    let item_is = u16_after front back at 4 e ∙ item_with tid rest is in
    let block_is : u16_at (front ++ back) at * 65536 + u16_at (front ++ back) (at + 2) ≡ tid.block =
    (λ i. high i * 65536 + low i) ∙ block_with tid rest is in
    λ i. record { block = block_is i; item = item_is i }

-- the TID that a pivot keeps
kept_is : (front : List ℕ) (tid : Option Tid) (body : List ℕ) (t : Bool) → t ≡ is_some tid → ForSome tid IsTid
    → cond t (Some (tid_at (front ++ (before_tid tid body ++ after_values tid)) (length (front ++ (before_tid tid body ++ after_values tid)) - 6))) None ≡ tid
unfolding after_values
kept_is front None body t e fit = cond-false _ _ _ e
kept_is front (Some tid) body t e fit =
    let front_all : List ℕ = front ++ before_tid (Some tid) body in
    let whole : front ++ (before_tid (Some tid) body ++ tid_bytes tid) ≡ front_all ++ tid_bytes tid = sym (append_assoc front (before_tid (Some tid) body) (tid_bytes tid)) in
    let at : length (front ++ (before_tid (Some tid) body ++ tid_bytes tid)) - 6 ≡ length front_all =
    let a = ap (λ (z : List ℕ). length z) whole in
    let b = length-append front_all (tid_bytes tid) in
    let c = length_tid tid in omega (arith, a, b, c) in
    cond-true _ _ _ e
    ∙ ap Some (ap (λ (n : ℕ). tid_at (front ++ (before_tid (Some tid) body ++ tid_bytes tid)) n) at
    ∙ ap (λ (z : List ℕ). tid_at z (length front_all)) whole
    ∙ ap (λ (z : List ℕ). tid_at (front_all ++ z) (length front_all)) (sym (append-nil (tid_bytes tid)))
    ∙ tid_with front_all [] tid (length front_all) refl (fit tid refl))

-- the end of a pivot's values
end_is : (t : Bool) (size before six : ℕ) → six ≡ cond t 6 0 → size ≡ 8 + before + six → cond t (size - 6) size ≡ 8 + before
end_is true size before six e f = omega (arith, e, f)
end_is false size before six e f = omega (arith, e, f)

six_or_none : (tid : Option Tid) → cond (is_some tid) 6 0 ≤ tid_room tid
six_or_none None = omega arith
six_or_none (Some tid) = omega arith

subst2_le : (P : Bool → Bool → Type 0) (a b c d : Bool) → a ≡ b → c ≡ d → P a c → P b d
subst2_le P a b c d e f h = subst (λ (x : Bool). P x d) e (subst (P a) f h)

abbrev pub pivot_record : (down kept : ℕ) → Option Tid → BodyFlags → (body : List ℕ) → TreeHead
pivot_record down kept tid flags body = record {
  block = down;
  item = kept + tid_mask tid;
  info = 0x2000 + masks_of flags + index_size (length body) + tid_room tid;
  kind = Pivot;
}

pub pivot_head : (down kept : ℕ) (tid : Option Tid) (flags : BodyFlags) (body : List ℕ) → down < 4294967296 → kept < 4096 → length body ≤ 8160
    → tree_head_of (pivot_tuple down kept tid flags body) ≡ pivot_record down kept tid flags body
unfolding pivot_tuple kind_of
pivot_head down kept tid flags body small few short =
    let size = index_size (length body) + tid_room tid in
    let info = 0x2000 + masks_of flags + index_size (length body) + tid_room tid in
    let more = few_more tid in
    let word = pivot_word flags.nulls flags.varwidth info size (omega arith) (omega (arith, short, more)) in
    let number = item_word tid kept few in
    ap tree_head_of (append_assoc (index_head_bytes down (kept + tid_mask tid) info) (padded_body body) (kept_tid_bytes tid))
    ∙ reads_index_head down (kept + tid_mask tid) info (padded_body body ++ kept_tid_bytes tid) small number.3 word.3
    ∙ ap (λ (k : HeadKind). record { block = down; item = kept + tid_mask tid; info = info; kind = k }) (cond-true _ _ _ word.0 ∙ cond-false _ _ _ number.0)

pub pivot_means : (specs : List KeySpec) (more : List MoreSpec) (spot : Spot3) (down kept : ℕ) (tid : Option Tid) (flags : BodyFlags) (body : List ℕ) (killed : Bool) (values : List Value)
    → down < 4294967296 → kept < 4096 → ForSome tid IsTid → length body ≤ 8160 → cond flags.nulls 16 8 ≤ 8 + length body
    → breaks_form spot (length specs) (includes_some more) (pivot_record down kept tid flags body) ≡ false
    → key_values (key_types (take kept specs)) (values_part flags (before_tid tid body)) (nulls_part flags (before_tid tid body)) ≡ Ok values
    → tuple_outcome specs more spot (pivot_tuple down kept tid flags body) killed ≡ Ok (item.Pivot (record { kept = values; tid = tid }) down)
unfolding pivot_tuple has_null_bits keeps_tid
pivot_means specs more spot down kept tid flags body killed values small few fit short begins form told =
    let info = 0x2000 + masks_of flags + index_size (length body) + tid_room tid in
    let size = index_size (length body) + tid_room tid in
    let tuple : List ℕ = pivot_tuple down kept tid flags body in
    let front : List ℕ = index_head_bytes down (kept + tid_mask tid) info in
    let head : TreeHead = pivot_record down kept tid flags body in
    let h = pivot_head down kept tid flags body small few short in
    let extra = few_more tid in
    let word = pivot_word flags.nulls flags.varwidth info size (omega arith) (omega (arith, short, extra)) in
    let number = item_word tid kept few in
    let front_long = length_index_head down (kept + tid_mask tid) info in
    let whole : tuple ≡ front ++ (before_tid tid body ++ after_values tid) = pivot_split front tid body in
    let before_long = length_before tid body in
    let after_long = length_after tid in
    let long : length tuple ≡ 8 + length (before_tid tid body) + length (after_values tid) =
    let a = ap (λ (z : List ℕ). length z) whole in
    let b = length-append front (before_tid tid body ++ after_values tid) in
    let c = length-append (before_tid tid body) (after_values tid) in
    omega (arith, a, b, c, front_long) in
    let bits : has_null_bits head ≡ flags.nulls = word.2 in
    let keeps : keeps_tid head ≡ is_some tid = number.2 in
    let end : cond (is_some tid) (length tuple - 6) (length tuple) ≡ 8 + length (before_tid tid body) =
    end_is (is_some tid) (length tuple) (length (before_tid tid body)) (length (after_values tid)) after_long long in
    let begins_here : cond flags.nulls 16 8 ≤ cond (is_some tid) (length tuple - 6) (length tuple) =
    let least = six_or_none tid in omega (arith, begins, end, before_long, extra, least) in
    let kept_count : number_of head ≡ kept = number.1 in
    let values_are : values_in specs more tuple ≡ Ok values =
    values_from specs more tuple head h
    ∙ (λ i. key_values (key_types (take (kept_count i) specs)) (bytes_between tuple (cond (bits i) 16 8) (cond (keeps i) (length tuple - 6) (length tuple))) (cond (bits i) (Some (take 4 (drop 8 tuple))) None))
    ∙ (λ i. key_values (key_types (take kept specs))
    ((ap (λ (z : List ℕ). bytes_between z (cond flags.nulls 16 8) (cond (is_some tid) (length tuple - 6) (length tuple))) whole
    ∙ part_between flags.nulls front (before_tid tid body) (after_values tid) (cond (is_some tid) (length tuple - 6) (length tuple)) front_long end begins_here) i)
    ((ap (λ (z : List ℕ). cond flags.nulls (Some (take 4 (drop 8 z))) None) whole
    ∙ nulls_between flags.nulls front (before_tid tid body) (after_values tid) front_long (omega (arith, begins_here, end))) i))
    ∙ told in
    let tid_is : kept_tid tuple ≡ tid =
    ap (λ (x : TreeHead). cond (keeps_tid x) (Some (tid_at tuple (length tuple - 6))) None) h
    ∙ ap (λ (z : List ℕ). cond (keeps_tid head) (Some (tid_at z (length z - 6))) None) whole
    ∙ kept_is front tid body (keeps_tid head) keeps fit in
    let size_is : size_of head ≡ length tuple = let w = word.1 in omega (arith, w, long, before_long, after_long) in
    outcome_from specs more spot tuple killed head values (item.Pivot (record { kept = values; tid = tid }) down) h
    size_is form
    (subst2_le (λ (b t : Bool). cond b 16 8 ≤ cond t (length tuple - 6) (length tuple)) flags.nulls (has_null_bits head) (is_some tid) (keeps_tid head) (sym bits) (sym keeps) begins_here)
    values_are refl
    (λ i. item.Pivot (record { kept = values; tid = tid_is i }) (h i).block)

-- Where separators stand

keeps_right : (kept columns : ℕ) (t : Bool) → kept ≢ 0 → kept ≤ columns → (t ≡ true → kept ≡ columns)
    → kept == 0 || nat_lt columns kept || (t && nat_lt kept columns) ≡ false
keeps_right kept columns true some most whole = let e = whole refl in grind (arith, nat_tests)
keeps_right kept columns false some most whole = grind (arith, nat_tests)

pub high_key_form : (columns : ℕ) (includes : Bool) (down kept : ℕ) (tid : Option Tid) (flags : BodyFlags) (body : List ℕ)
    → kept < 4096 → kept ≢ 0 → kept ≤ columns → (is_some tid ≡ true → kept ≡ columns)
    → breaks_form HighKey columns includes (pivot_record down kept tid flags body) ≡ false
unfolding keeps_tid
high_key_form columns includes down kept tid flags body few some most whole =
    let number = item_word tid kept few in
    (λ i. number.1 i == 0 || nat_lt columns (number.1 i) || (number.2 i && nat_lt (number.1 i) columns))
    ∙ keeps_right kept columns (is_some tid) some most whole

pub first_form : (columns : ℕ) (includes : Bool) (down : ℕ) (flags : BodyFlags) (body : List ℕ)
    → breaks_form FirstInner columns includes (pivot_record down 0 None flags body) ≡ false
unfolding keeps_tid has_bit
first_form columns includes down flags body = refl
