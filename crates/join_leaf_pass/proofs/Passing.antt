-- The entries of a leaf, item by item, and what is known of the rows that are kept once some were met.
use Rattle.std.proofs.Common.{◌≡◌, ◌≢◌, ◌∙◌, ◌+◌, ◌-◌, ◌<◌, ◌≤◌, ◌++◌, ℕ, Bool, List, Option, None, Some, inl, inr, ap, append-nil, arith, subst, sym}
use Rattle.std.specs.List.{flat_map}
use Rattle.std.proofs.lemmas.Bool.{cases_lt}
use Rattle.key_attrs.specs.Columns.{TreeColumns}
use Rattle.bt_image.specs.Image.{LeafEntry, entries_in, first_data, item_at, numbers_from}
use Rattle.bt_image.proofs.PageFields.{first_cases}
use Rattle.bt_steps.proofs.Places.{upto-two}
use Rattle.join_slots.specs.Met.{Keys}
use Rattle.join_slots.specs.Slots.{Tables}
use Rattle.join_meet.specs.Meeting.{HaveMet, entries_at}
use Rattle.join_meet.proofs.Meets.{met-then, none, same}
use Rattle.join_leaf_pass.specs.Passes.{AreTargets}

-- the rows are still rooted at what the set has
pub targets-kept : (targets : Option (List (List Bool))) (es : List LeafEntry) (a b : Tables) → HaveMet es a b → AreTargets targets a → AreTargets targets b
targets-kept None es a b h so = so
targets-kept (Some set) es a b h so = λ tid some. so tid (subst (λ (keys : Keys). keys tid ≢ None) h.keys some)

-- the entries of the first so many data items
module _ (columns : TreeColumns) (page : List ℕ) where
  abbrev of-item : ℕ → List LeafEntry
  of-item i = entries_in (item_at columns.specs columns.more page i)

  abbrev of-first : ℕ → List LeafEntry
  of-first n = flat_map of-item (numbers_from (first_data page) n)

  -- before the first item
  pub items-none : (t : Tables) → HaveMet (of-first (0 + 1 - first_data page)) t t
  items-none t =
      let one = first_cases page in
      let zero : 0 ≡ 0 + 1 - first_data page = omega (arith, one) in
      subst (λ (n : ℕ). HaveMet (of-first n) t t) zero (none t)

  -- one item more, which is a data item or the high key
  pub items-next : (i : ℕ) (a b c : Tables) → HaveMet (of-first (i + 1 - first_data page)) a b
      → (i + 1 < first_data page → c ≡ b)
      → (first_data page ≤ i + 1 → HaveMet (entries_at columns page (i + 1)) b c)
      → HaveMet (of-first (i + 1 + 1 - first_data page)) a c
  unfolding entries_at
  items-next i a b c met before here = elim (cases_lt (i + 1) (first_data page)) [
    | inl low ↦
        let still : i + 1 - first_data page ≡ i + 1 + 1 - first_data page = omega (arith, low) in
        subst (λ (t : Tables). HaveMet (of-first (i + 1 + 1 - first_data page)) a t) (sym (before low))
        (subst (λ (n : ℕ). HaveMet (of-first n) a b) still met)
    | inr from ↦
        let k = i + 1 - first_data page in
        let more : i + 1 + 1 - first_data page ≡ k + 1 = omega (arith, from) in
        let at : first_data page + k ≡ i + 1 = omega (arith, from) in
        let next : of-first (i + 1 + 1 - first_data page) ≡ of-first k ++ of-item (i + 1) =
        ap of-first more ∙ upto-two of-item (first_data page) k 1
        ∙ ap (λ (l : List LeafEntry). of-first k ++ l) (append-nil (of-item (first_data page + k)) ∙ ap of-item at) in
        same (of-first k ++ of-item (i + 1)) (of-first (i + 1 + 1 - first_data page)) a c (sym next)
        (met-then (of-first k) (of-item (i + 1)) a b c met (here from))
  ]
