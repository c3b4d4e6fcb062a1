-- What is added of numbers one after another.
use Rattle.std.proofs.Common.{◌≡◌, ◌∙◌, ◌+◌, ◌<◌, ◌≤◌, ℕ, List, [], ◌∷◌, length, drop, get_or, sym, ap, subst, add-one, drop-cons, inl, inr, true}
use Rattle.std.specs.Prelude.{Contains, Some, ◌⊎◌, ◌==◌, ◌||◌}
use Rattle.std.proofs.lemmas.Bool.{eq-eqb, or_left, or_right}
use Rattle.std.proofs.Math.ListN.{drop_of_length-le}
use Rattle.outside.specs.Adds.{Begins, Leaves}
use Rattle.outside.proofs.Adding.{Begins-cut, Leaves-added}
use Rattle.reports.specs.Added.{joined, nothing, report_lists}
use Rattle.reports.specs.Lists.{Lists}
use Rattle.bt_steps.proofs.Members.{either-in}
use Rattle.heap_rows.specs.declared.rows.LiveRow.{LiveRow}
use Rattle.heap_rows.specs.declared.row_cursor.RowPlace.{RowPlace}
use Rattle.heap_rows.specs.RowCursor.{IsPlaceOfFirst}
use Rattle.key_orders.specs.declared.Tid.{Tid}
use Rattle.join_unique.specs.Later.{later_list, later_lists}
use Rattle.join_unique.specs.Roots.{is_root_in, place_of}
use Rattle.join_unique.specs.declared.roots.Roots.{Roots}

module _ (index : ℕ) (numbers : List ℕ) (k : ℕ) (lt : k < length numbers) where
  next-list : later_lists index (drop k numbers) ≡ joined (later_list index (get_or numbers k 0)) (later_lists index (drop (k + 1) numbers))
  unfolding later_lists
  next-list = ap (later_lists index) (drop-cons numbers k 0 lt ∙ ap (λ n. get_or numbers k 0 ∷ drop n numbers) (sym (add-one k)))

  pub later-step : (old new : Lists) → new ≡ joined old (later_list index (get_or numbers k 0)) → Leaves report_lists old new (later_lists index (drop k numbers)) (later_lists index (drop (k + 1) numbers))
  later-step old new now =
      subst (λ (l : Lists). Leaves report_lists old new l (later_lists index (drop (k + 1) numbers))) (sym next-list)
      (Leaves-added report_lists old new (later_list index (get_or numbers k 0)) (later_lists index (drop (k + 1) numbers)) now)

  pub later-cut : (old new : Lists) → Begins report_lists old new (later_list index (get_or numbers k 0)) → Begins report_lists old new (later_lists index (drop k numbers))
  later-cut old new begins =
      subst (λ (l : Lists). Begins report_lists old new l) (sym next-list) (Begins-cut report_lists (later_lists index (drop (k + 1) numbers)) begins)

pub later-end : (index : ℕ) (numbers : List ℕ) (k : ℕ) → length numbers ≤ k → later_lists index (drop k numbers) ≡ nothing
unfolding later_lists
later-end index numbers k past = ap (later_lists index) (drop_of_length-le numbers past)

pub left-is : {old new owed left other : Lists} → left ≡ other → Leaves report_lists old new owed left → Leaves report_lists old new owed other
left-is {old = old} {new = new} {owed = owed} is now = subst (λ (l : Lists). Leaves report_lists old new owed l) is now

-- ROOTS

-- the set after one more, which is the root of the first of the rows that are ahead
pub root-added : (old new : Roots) (place : RowPlace) (rows left : List LiveRow) → ((t : Tid) → is_root_in new t ≡ ((place_of t == place_of place.root) || is_root_in old t)) → IsPlaceOfFirst (Some place) rows → left ≡ drop 1 rows
    → (row : LiveRow) → (is_root_in old row.root ≡ true) ⊎ Contains rows row → (is_root_in new row.root ≡ true) ⊎ Contains left row
root-added old new place [] left set first is row was = absurd first
root-added old new place (r ∷ rows) left set first is row was = elim was [
  | inl had ↦ inl (set row.root ∙ or_right (place_of row.root == place_of place.root) (is_root_in old row.root) had)
  | inr among ↦ elim (either-in r row rows among) [
    | inl same ↦
        let at : place_of row.root ≡ place_of place.root = ap place_of (sym (first.1 ∙ ap (λ (x : LiveRow). x.root) same)) in
        inl (set row.root ∙ or_left (place_of row.root == place_of place.root) (is_root_in old row.root) (eq-eqb (place_of row.root) (place_of place.root) at))
    | inr k ↦ inr (subst (λ (xs : List LiveRow). Contains xs row) (sym is) k)
  ]
]
