-- The bytes of a posting tuple are read again.
use Rattle.std.proofs.Common.{◌≡◌, ◌≢◌, ◌≤◌, ◌<◌, ◌+◌, ◌-◌, ◌*◌, ℕ, List, [], ◌∷◌, ◌++◌, length, take, drop, Bool, true, false, ◌&&◌, ◌||◌, ◌==◌, nat_lt, cond, Some, None, Ok, refl, ap, sym, ◌∙◌, arith, append_assoc, append-nil, subst, min}
use Rattle.std.proofs.lemmas.Bool.{cond-true, le-ltb, ne_eqb}
use Rattle.std.proofs.lemmas.List.{length-append}
use Rattle.std.proofs.lemmas.List.Elements.{recursion_from_All}
use Rattle.std.specs.List.{AllByRecursion}
use Rattle.page_layout.specs.Page.{has_bit}
use Rattle.key_orders.specs.declared.columns.KeySpec.{KeySpec}
use Rattle.key_orders.specs.declared.columns.Value.{Value}
use Rattle.key_orders.specs.declared.more.MoreSpec.{MoreSpec}
use Rattle.key_orders.specs.declared.Tid.{Tid}
use Rattle.bt_meta.specs.declared.records.HeadKind.{HeadKind}
use Rattle.bt_meta.specs.declared.records.HeadKind.TheVariants.{Posting}
use Rattle.bt_meta.specs.declared.records.TreeHead.{TreeHead}
use Rattle.bt_meta.specs.Heads.{kind_of, tree_head_of}
use Rattle.bt_tuples.specs.declared.items.Spot3.TheVariants.{LeafItem}
use Rattle.bt_tuples.specs.Items.{tuple_outcome}
use Rattle.bt_tuples.specs.Items as item
use Rattle.bt_tuples.specs.Rules.{are_not_rising, breaks_tids_by, includes_some}
use Rattle.bt_tuples.specs.Tuples.{body_begin, has_null_bits, number_of, tid_at, tids_at, tids_in, values_in}
use Rattle.varlena_attrs.specs.Forms.{bytes_between}
use Rattle.key_attrs.specs.Keyed.{key_types, key_values, more_types}
use Rattle.page_write.specs.declared.index_tuples.BodyFlags.{BodyFlags}
use Rattle.page_write.specs.Fields.{IsBody, IsTid}
use Rattle.page_write.specs.Pages.{zeros}
use Rattle.page_write.specs.Tuples.{index_head_bytes, index_size, masks_of, nulls_part, padded_body, tid_bytes, values_part}
use Rattle.page_write.proofs.Zeros.{length_zeros}
use Rattle.page_write.specs.Posting.{HasListRoom, IsTidList, list_bytes, list_end, padded_list, posting_size, posting_tuple}
use Rattle.page_write.proofs.TupleReading.{bit_set, length_padded, length_index_head, length_tid, nulls_between, outcome_from, part_between, pivot_word, reads_index_head, tid_with, values_from}

-- A list of TIDs

pub list_next : (tids : List Tid) (t : Tid) → list_bytes (tids ++ t ∷ []) ≡ list_bytes tids ++ tid_bytes t
list_next [] t = append-nil (tid_bytes t)
list_next (u ∷ us) t = ap (λ (z : List ℕ). tid_bytes u ++ z) (list_next us t) ∙ sym (append_assoc (tid_bytes u) (list_bytes us) (tid_bytes t))

length_list : (tids : List Tid) → length (list_bytes tids) ≡ 6 * length tids
length_list [] = refl
length_list (t ∷ ts) =
    let a = length-append (tid_bytes t) (list_bytes ts) in
    let b = length_tid t in
    let c = length_list ts in
    omega (arith, a, b, c)

tids_back : (tids : List Tid) (front rest : List ℕ) (at : ℕ) → at ≡ length front → AllByRecursion IsTid tids
    → tids_at (front ++ (list_bytes tids ++ rest)) at (length tids) ≡ tids
unfolding tids_at
tids_back [] front rest at e fit = refl
tids_back (t ∷ ts) front rest at e fit =
    let more : List ℕ = list_bytes ts ++ rest in
    let whole : front ++ ((tid_bytes t ++ list_bytes ts) ++ rest) ≡ front ++ (tid_bytes t ++ more) =
    ap (λ (z : List ℕ). front ++ z) (append_assoc (tid_bytes t) (list_bytes ts) rest) in
    let moved : front ++ (tid_bytes t ++ more) ≡ (front ++ tid_bytes t) ++ more = sym (append_assoc front (tid_bytes t) more) in
    let long = length-append front (tid_bytes t) in
    let six = length_tid t in
    let first : tid_at (front ++ ((tid_bytes t ++ list_bytes ts) ++ rest)) at ≡ t =
    ap (λ (z : List ℕ). tid_at z at) whole ∙ tid_with front more t at e fit.0 in
    let others : tids_at (front ++ ((tid_bytes t ++ list_bytes ts) ++ rest)) (at + 6) (length ts) ≡ ts =
    ap (λ (z : List ℕ). tids_at z (at + 6) (length ts)) (whole ∙ moved)
    ∙ tids_back ts (front ++ tid_bytes t) rest (at + 6) (omega (arith, e, long, six)) fit.1 in
    λ i. first i ∷ others i

-- The tuple

abbrev pub posting_record : (tids : ℕ) → BodyFlags → (len : ℕ) → TreeHead
posting_record tids flags len = record {
  block = index_size len;
  item = 0x2000 + tids;
  info = 0x2000 + masks_of flags + posting_size len tids;
  kind = Posting;
}

posting_head : (tids : List Tid) (flags : BodyFlags) (body : List ℕ) → HasListRoom (length body) (length tids)
    → tree_head_of (posting_tuple tids flags body) ≡ posting_record (length tids) flags (length body)
unfolding posting_tuple kind_of
posting_head tids flags body room =
    let n = length tids in
    let place = index_size (length body) in
    let size = posting_size (length body) n in
    let info = 0x2000 + masks_of flags + posting_size (length body) n in
    let word = pivot_word flags.nulls flags.varwidth info size (omega arith) (omega (arith, room)) in
    let number : has_bit (8192 + n) 0x2000 ≡ true = bit_set (8192 + n) 13 (omega (arith, room)) (omega arith) in
    ap tree_head_of (append_assoc (index_head_bytes place (0x2000 + n) info) (padded_body body) (padded_list (length body) tids))
    ∙ reads_index_head place (0x2000 + n) info (padded_body body ++ padded_list (length body) tids) (omega (arith, room)) (omega (arith, room)) word.3
    ∙ ap (λ (k : HeadKind). record { block = place; item = 0x2000 + n; info = info; kind = k }) (cond-true _ _ _ word.0 ∙ cond-true _ _ _ number)

length_padded_list : (len : ℕ) (tids : List Tid) → length (padded_list len tids) ≡ posting_size len (length tids) - index_size len
unfolding padded_list
length_padded_list len tids =
    let a = length-append (list_bytes tids) (zeros (posting_size len (length tids) - list_end len (length tids))) in
    let b = length_list tids in
    let c = length_zeros (posting_size len (length tids) - list_end len (length tids)) in
    omega (arith, a, b, c)

pub length_posting : (tids : List Tid) (flags : BodyFlags) (body : List ℕ)
    → length (posting_tuple tids flags body) ≡ posting_size (length body) (length tids)
unfolding posting_tuple
length_posting tids flags body =
    let info = 0x2000 + masks_of flags + posting_size (length body) (length tids) in
    let head : List ℕ = index_head_bytes (index_size (length body)) (0x2000 + length tids) info in
    let a = length-append (head ++ padded_body body) (padded_list (length body) tids) in
    let b = length-append head (padded_body body) in
    let c = length_index_head (index_size (length body)) (0x2000 + length tids) info in
    let d = length_padded body in
    let e = length_padded_list (length body) tids in
    omega (arith, a, b, c, d, e)

some_tids : (tids : List Tid) → tids ≢ [] → 0 < length tids
some_tids [] some = absurd (some refl)
some_tids (t ∷ ts) some = omega arith

-- what is asked of the TIDs
tids_right : (tuple : List ℕ) (head : TreeHead) → tree_head_of tuple ≡ head → nat_lt head.block (body_begin head) ≡ false
    → nat_lt (length tuple) (head.block + 6 * number_of head) ≡ false → (number_of head == 0) ≡ false
    → are_not_rising None (tids_in tuple) ≡ false → breaks_tids_by Posting tuple ≡ false
tids_right tuple head h a b c d =
    ap (λ (x : TreeHead). nat_lt x.block (body_begin x) || nat_lt (length tuple) (x.block + 6 * number_of x) || number_of x == 0 || are_not_rising None (tids_in tuple)) h
    ∙ (λ i. a i || b i || c i || d i)

min_low : (a b : ℕ) → a ≤ b → min a b ≡ a
min_low a b le = omega (arith, le)

pub posting_means : (specs : List KeySpec) (more : List MoreSpec) (tids : List Tid) (flags : BodyFlags) (body : List ℕ) (killed : Bool) (values : List Value)
    → includes_some more ≡ false → IsTidList tids → IsBody flags body → HasListRoom (length body) (length tids)
    → key_values (key_types specs ++ more_types more) (values_part flags (padded_body body)) (nulls_part flags (padded_body body)) ≡ Ok values
    → tuple_outcome specs more LeafItem (posting_tuple tids flags body) killed ≡ Ok (item.Posting (take (length specs) values) tids killed)
unfolding posting_tuple padded_list has_null_bits
posting_means specs more tids flags body killed values alone is fits room told =
    let n = length tids in
    let place = index_size (length body) in
    let size = posting_size (length body) n in
    let info = 0x2000 + masks_of flags + posting_size (length body) n in
    let tuple : List ℕ = posting_tuple tids flags body in
    let front : List ℕ = index_head_bytes (index_size (length body)) (0x2000 + n) info in
    let back : List ℕ = padded_list (length body) tids in
    let head : TreeHead = posting_record n flags (length body) in
    let h = posting_head tids flags body room in
    let word = pivot_word flags.nulls flags.varwidth info size (omega arith) (omega (arith, room)) in
    let front_long = length_index_head (index_size (length body)) (0x2000 + n) info in
    let whole : tuple ≡ front ++ (padded_body body ++ back) = append_assoc front (padded_body body) back in
    let long = length_posting tids flags body in
    let padded = length_padded body in
    let bits : has_null_bits head ≡ flags.nulls = word.2 in
    let least = fits.bits in
    let low : min place (length tuple) ≡ place = min_low place (length tuple) (omega (arith, long)) in
    let end : min place (length tuple) ≡ 8 + length (padded_body body) = omega (arith, low, padded) in
    let begins_here : cond flags.nulls 16 8 ≤ min place (length tuple) = omega (arith, least, low) in
    let count : number_of head ≡ n = omega (arith, room) in
    let values_are : values_in specs more tuple ≡ Ok values =
    values_from specs more tuple head h
    ∙ ap (λ (b : Bool). key_values (key_types specs ++ more_types more) (bytes_between tuple (cond b 16 8) (min place (length tuple))) (cond b (Some (take 4 (drop 8 tuple))) None)) bits
    ∙ (λ i. key_values (key_types specs ++ more_types more)
    ((ap (λ (z : List ℕ). bytes_between z (cond flags.nulls 16 8) (min place (length tuple))) whole
    ∙ part_between flags.nulls front (padded_body body) back (min place (length tuple)) front_long end begins_here) i)
    ((ap (λ (z : List ℕ). cond flags.nulls (Some (take 4 (drop 8 z))) None) whole
    ∙ nulls_between flags.nulls front (padded_body body) back front_long (omega (arith, begins_here, end))) i))
    ∙ told in
    let before : length (front ++ padded_body body) ≡ place = let a = length-append front (padded_body body) in omega (arith, a, front_long, padded) in
    let tids_are : tids_in tuple ≡ tids =
    ap (λ (x : TreeHead). tids_at tuple x.block (number_of x)) h
    ∙ ap (tids_at tuple place) count
    ∙ tids_back tids (front ++ padded_body body) (zeros (posting_size (length body) n - list_end (length body) n)) place (sym before) (recursion_from_All IsTid tids is.fit) in
    let some = some_tids tids is.some in
    outcome_from specs more LeafItem tuple killed head values (item.Posting (take (length specs) values) tids killed) h
    (word.1 ∙ sym long) (ap (λ (b : Bool). false || (b && true)) alone)
    (subst (λ (b : Bool). cond b 16 8 ≤ min place (length tuple)) (sym bits) begins_here)
    values_are
    (tids_right tuple head h
    (le-ltb place (body_begin head) (subst (λ (b : Bool). cond b 16 8 ≤ place) (sym bits) (omega (arith, least))))
    (le-ltb (length tuple) (place + 6 * number_of head) (omega (arith, count, long)))
    (ne_eqb (number_of head) 0 (λ none. omega (arith, none, count, some)))
    (ap (are_not_rising None) tids_are ∙ is.rise))
    (ap (λ (ts : List Tid). item.Posting (take (length specs) values) ts killed) tids_are)
