-- The lowest TID of the entries that are too large, from the last place to the first.
use Rattle.std.proofs.Common.{◌≡◌, ◌≤◌, ◌<◌, ◌-◌, ◌∙◌, ℕ, suc, Bool, true, false, min, Some, List, [], ◌∷◌, ◌++◌, length, map, drop, get_or, refl, sym, ap, arith, cond, inl, inr, lt-ltb}
use Rattle.std.specs.Prelude.{All, Option, nat_le, nat_lt}
use Rattle.std.proofs.lemmas.Bool.{cases_Bool, leb-false, leb-true}
use Rattle.std.specs.List.{filter}
use Rattle.std.proofs.Math.Seq.{drop-cons}
use Rattle.std.proofs.lemmas.List.Elements.{All-head, All-tail}
use Rattle.key_orders.specs.declared.columns.KeySpec.{KeySpec}
use Rattle.key_orders.specs.declared.more.MoreSpec.{MoreSpec}
use Rattle.key_orders.specs.declared.Tid.{Tid}
use Rattle.bt_image.specs.Image.{LeafEntry}
use Rattle.page_write.specs.Bodies.{body_flags, index_body}
use Rattle.page_write.specs.Tuples.{index_size}
use Rattle.page_write.proofs.TupleReading.{length_plain}
use Rattle.laws_built_index.specs.Items.{entry_types, tids_of}
use Rattle.bt_build.specs.declared.entries.Place.{Place}
use Rattle.bt_build.specs.Kept.{IsKept, entries_at, entry_at}
use Rattle.bt_build.specs.Outcome.{is_too_large, large_among, lower_tid, lowest_tid}
use Rattle.bt_build.specs.Places.{is_large, large_tids, tid_of}

-- the place before these
pub one_before : (ps : List Place) (left : ℕ) (d : Place) → 0 < left → left ≤ length ps → drop (left - 1) ps ≡ get_or ps (left - 1) d ∷ drop left ps
one_before ps left d some le =
    let e : suc (left - 1) ≡ left = omega (arith, some) in
    drop-cons ps (left - 1) d (omega (arith, some, le)) ∙ ap (λ (n : ℕ). get_or ps (left - 1) d ∷ drop n ps) e

tids_by : (p : Place) (qs : List Place) (b : Bool) → is_large p ≡ b
    → large_tids (p ∷ qs) ≡ map tid_of (cond b (p ∷ filter is_large qs) (filter is_large qs))
tids_by p qs b h = ap (λ (c : Bool). map tid_of (cond c (p ∷ filter is_large qs) (filter is_large qs))) h

module _ (ps : List Place) (left : ℕ) (p : Place) (next : drop (left - 1) ps ≡ p ∷ drop left ps) (b : Bool) (test : b ≡ is_large p)
    (lowest : Option Tid) (so_far : lowest ≡ lowest_tid (large_tids (drop left ps))) where
  pub large_here : b ≡ true → Some (lower_tid (tid_of p) lowest) ≡ lowest_tid (large_tids (drop (left - 1) ps))
  large_here yes_it_is =
      ap (λ (l : Option Tid). Some (lower_tid (tid_of p) l)) so_far
      ∙ sym (ap lowest_tid (tids_by p (drop left ps) true (sym test ∙ yes_it_is)))
      ∙ ap (λ (qs : List Place). lowest_tid (large_tids qs)) (sym next)

  pub large_later : b ≡ false → lowest ≡ lowest_tid (large_tids (drop (left - 1) ps))
  large_later it_is_not =
      so_far
      ∙ sym (ap lowest_tid (tids_by p (drop left ps) false (sym test ∙ it_is_not)))
      ∙ ap (λ (qs : List Place). lowest_tid (large_tids qs)) (sym next)

-- what is told of a length is enough to tell whether it is too large
told_enough : (n : ℕ) → nat_lt 2704 (index_size (min 65535 n)) ≡ nat_lt 2704 (index_size n)
told_enough n = elim (cases_Bool (nat_le n 65535)) [
  | inl t ↦
      let few = leb-true n 65535 t in
      let e : min 65535 n ≡ n = omega (arith, few) in
      ap (λ (k : ℕ). nat_lt 2704 (index_size k)) e
  | inr t ↦
      let many = leb-false n 65535 t in
      let e : min 65535 n ≡ 65535 = omega (arith, many) in
      let a : 2704 < index_size (min 65535 n) = omega (arith, e) in
      let b : 2704 < index_size n = omega (arith, many) in
      lt-ltb 2704 (index_size (min 65535 n)) a ∙ sym (lt-ltb 2704 (index_size n) b)
]

module _ (specs : List KeySpec) (ms : List MoreSpec) where
  pub too_large : (e : LeafEntry) (body : List ℕ) → body ≡ index_body (entry_types specs ms) (e.entry.values ++ e.more)
      → nat_lt 2704 (index_size (length body)) ≡ is_too_large specs ms e
  too_large e body is =
      let values = e.entry.values ++ e.more in
      ap (λ (b : List ℕ). nat_lt 2704 (index_size (length b))) is
      ∙ ap (nat_lt 2704) (sym (length_plain e.entry.tid (body_flags (entry_types specs ms) values) (index_body (entry_types specs ms) values)))

  module _ (arena : List ℕ) where
    same_test : (p : Place) → IsKept specs ms arena p → is_large p ≡ is_too_large specs ms (entry_at specs arena p)
    same_test p kept =
        let e = entry_at specs arena p in
        let body : List ℕ = index_body (entry_types specs ms) (e.entry.values ++ e.more) in
        ap (λ (n : ℕ). nat_lt 2704 (index_size n)) kept.length_is ∙ told_enough (length body) ∙ too_large e body refl

    pub large_are : (ps : List Place) → All (IsKept specs ms arena) ps → large_tids ps ≡ tids_of (filter (is_too_large specs ms) (entries_at specs arena ps))
    large_are [] kept = refl
    large_are (p ∷ ps) kept =
        let here = All-head (IsKept specs ms arena) p ps kept in
        let later = large_are ps (All-tail (IsKept specs ms arena) p ps kept) in
        one_more p ps (is_large p) refl (sym (same_test p here)) later
      where
        one_more : (q : Place) (qs : List Place) (b : Bool) → is_large q ≡ b → is_too_large specs ms (entry_at specs arena q) ≡ b
            → large_tids qs ≡ tids_of (filter (is_too_large specs ms) (entries_at specs arena qs))
            → large_tids (q ∷ qs) ≡ tids_of (filter (is_too_large specs ms) (entries_at specs arena (q ∷ qs)))
        one_more q qs true a e rest =
            let d = entry_at specs arena q in
            let es = entries_at specs arena qs in
            tids_by q qs true a ∙ ap (λ (ts : List Tid). (tid_of q) ∷ ts) rest
            ∙ sym (ap (λ (c : Bool). tids_of (cond c (d ∷ filter (is_too_large specs ms) es) (filter (is_too_large specs ms) es))) e)
        one_more q qs false a e rest =
            let d = entry_at specs arena q in
            let es = entries_at specs arena qs in
            tids_by q qs false a ∙ rest
            ∙ sym (ap (λ (c : Bool). tids_of (cond c (d ∷ filter (is_too_large specs ms) es) (filter (is_too_large specs ms) es))) e)

    pub large_is : (ps : List Place) → All (IsKept specs ms arena) ps → lowest_tid (large_tids ps) ≡ large_among specs ms (entries_at specs arena ps)
    large_is ps kept = ap lowest_tid (large_are ps kept)
