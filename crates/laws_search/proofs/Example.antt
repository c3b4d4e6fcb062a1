-- A tree that breaks no rule: a root over four leaves, of which one is a right half and one is half-dead.
use Rattle.std.proofs.Common.{nat_cmp, Less, ◌≡◌, ◌≢◌, ℕ, zero, suc, ◌+◌, ◌-◌, ◌<◌, ◌≤◌, Bool, true, false, List, [], ◌∷◌, length, refl, sym, subst, arith, add-one}
use Rattle.std.specs.Prelude.{◌&&◌, Option, Some, None, nat_lt, nat_le, Contains, slice_get}
use Rattle.std.specs.List.{All, AllAdjacentBelow}
use Rattle.std.proofs.lemmas.List.Elements.{All-from_recursion}
use Rattle.laws_search.proofs.Rising.{Rising, adjacent_from_rising}
use Rattle.laws_search.specs.Keys.{Bound, goes_right, compare_keys}
use Rattle.laws_search.specs.Order.{Order, Scan}
use Rattle.laws_search.specs.Tree.{Page, Index, chain_of, after_links}
use Rattle.laws_search.specs.Levels.{entry_page, row_page, row_role, row_lower, is_live, Dead, Linked, Right_half, Neither, Row, row, level_rows, downlinks}
use Rattle.laws_search.specs.Searchable.{IfFirst, IfLast, EntryAbove, KeyAbove, IsInUse, IsSoundPage, IsSoundLevel, IsSearchable}
use Rattle.laws_search.specs.Search.{Ended, found_on, visit_page, visit, after_visits, search_start}
use Rattle.laws_search.specs.Back.{Over, found_back, read_page, seek_page, after_back, back_start}

abbrev numbers : Order ℕ ℕ
numbers = record { precedes = nat_lt; within = nat_le; under = nat_lt }

abbrev leaf_page : Bool → Bool → ℕ → ℕ → Option ℕ → List ℕ → Page ℕ ℕ
leaf_page half split prev next high es =
    record { idle = false; leaf = true; half_dead = half; incomplete_split = split; prev = prev; next = next; level = 0; high_key = high; children = []; entries = es }

abbrev page_of : ℕ → Page ℕ ℕ
page_of zero = leaf_page false false 0 0 None []
page_of (suc zero) =
    record { idle = false; leaf = false; half_dead = false; incomplete_split = false; prev = 0; next = 0; level = 1; high_key = None; children = (0, 2) ∷ (5, 3) ∷ []; entries = [] }
page_of (suc (suc zero)) = leaf_page false true 0 4 (Some 3) (1 ∷ 2 ∷ 3 ∷ [])
page_of (suc (suc (suc zero))) = leaf_page false false 5 0 None (6 ∷ 7 ∷ [])
page_of (suc (suc (suc (suc zero)))) = leaf_page false false 2 5 (Some 5) (4 ∷ 5 ∷ [])
page_of (suc (suc (suc (suc (suc b))))) = leaf_page true false 4 3 (Some 5) []

abbrev tree : Index ℕ ℕ
tree = record { blocks = 6; page = page_of; root = 1; level = 1; fastroot = 1; fastlevel = 1 }

abbrev from_to : ℕ → ℕ → Scan ℕ ℕ
from_to a b = record { goes_right = λ s. nat_lt s a; matches = λ e. nat_le a e && nat_le e b; past_high = λ e. nat_lt b e }

top : level_rows tree 0 ≡ row 1 Linked None ∷ []
top = refl

leaves : level_rows tree 1 ≡ row 2 Linked None ∷ row 4 Right_half (Some 3) ∷ row 5 Dead (Some 5) ∷ row 3 Linked (Some 5) ∷ []
leaves = refl

forward : after_visits (λ e. false) tree (from_to 4 6) 6 (search_start tree) ≡ Ended (4 ∷ 5 ∷ 6 ∷ [])
unfolding visit visit_page found_on search_start
forward = refl

backward : after_back (λ e. false) tree (from_to 4 6) (record { reaches = λ s. nat_lt s 6; before_low = λ e. nat_lt e 4 }) 12 (back_start tree) ≡ Over (6 ∷ 5 ∷ 4 ∷ [])
unfolding found_back read_page seek_page back_start
backward = refl

in_use : (b : ℕ) → b ≢ 0 → b < 6 → (page_of b).idle ≡ false → IsInUse tree b
in_use b ne lt used = record { not_meta = ne; inside = lt; used = used }

-- the rules of a leaf
leaf_sound : (b : ℕ) (half split : Bool) (prev next : ℕ) (high : Option ℕ) (es : List ℕ) → page_of b ≡ leaf_page half split prev next high es → (half ≡ true → es ≡ []) → (next ≡ 0 → high ≡ None) → (next ≢ 0 → (s : ℕ) × (high ≡ Some s)) → Rising numbers es → ((s : ℕ) → high ≡ Some s → IfLast es (λ e. nat_le e s ≡ true)) → (next ≢ 0 → IsInUse tree next × ((page_of next).level ≡ 0) × ((page_of next).prev ≡ b)) → (prev ≢ 0 → IsInUse tree prev × ((page_of prev).level ≡ 0) × ((page_of prev).next ≡ b)) → IsSoundPage numbers tree b
leaf_sound b half split prev next high es is empty none some up last right left =
    let to : (P : Page ℕ ℕ → Type 0) → P (leaf_page half split prev next high es) → P (page_of b) = λ P h. subst P (sym is) h in
    record {
      leaf_below = to (λ p. p.leaf ≡ true → p.level ≡ 0) (λ h. refl);
      leaf_if_below = to (λ p. p.level ≡ 0 → p.leaf ≡ true) (λ h. refl);
      half_dead_leaf = to (λ p. p.half_dead ≡ true → p.leaf ≡ true) (λ h. refl);
      half_dead_empty = to (λ p. p.half_dead ≡ true → p.entries ≡ []) empty;
      no_high_key = to (λ p. p.next ≡ 0 → p.high_key ≡ None) none;
      a_high_key = to (λ p. p.half_dead ≡ false → p.next ≢ 0 → (s : ℕ) × (p.high_key ≡ Some s)) (λ h. some);
      has_child = to (λ p. p.leaf ≡ false → p.children ≢ []) (λ h. absurd cc);
      rising = to (λ p. p.leaf ≡ true → AllAdjacentBelow (λ d e. nat_lt d e ≡ true) p.entries (length p.entries)) (λ h. adjacent_from_rising numbers es up);
      last_within = to (λ p. p.leaf ≡ true → (s : ℕ) → p.high_key ≡ Some s → IfLast p.entries (λ e. nat_le e s ≡ true)) (λ h. last);
      right_sibling = to (λ p. p.next ≢ 0 → IsInUse tree p.next × ((page_of p.next).level ≡ p.level) × ((page_of p.next).prev ≡ b)) right;
      left_sibling = to (λ p. p.prev ≢ 0 → IsInUse tree p.prev × ((page_of p.prev).level ≡ p.level) × ((page_of p.prev).next ≡ b)) left;
      child = to (λ p. p.leaf ≡ false → All (λ c. IsInUse tree c.1 × ((page_of c.1).level + 1 ≡ p.level)) p.children) (λ h. absurd cc);
    }

last_number : (es : List ℕ) (n k : ℕ) → slice_get es (length es - 1) ≡ Some n → Some k ≡ Some k → (s : ℕ) → Some k ≡ Some s → nat_le n k ≡ true → IfLast es (λ e. nat_le e s ≡ true)
last_number es n k at is s key le = λ e last.
    let a : n ≡ e = cc in
    let b : k ≡ s = cc in
    rw (← a, ← b) le

no_last : (s : ℕ) (es : List ℕ) → None ≡ Some s → IfLast es (λ e. nat_le e s ≡ true)
no_last s es h = λ e last. absurd cc

pages : (b : ℕ) → IsInUse tree b → IsSoundPage numbers tree b
pages zero h = absurd (h.not_meta refl)
pages (suc zero) h = record {
  leaf_below = λ h. absurd cc;
  leaf_if_below = λ h. absurd (omega arith);
  half_dead_leaf = λ h. absurd cc;
  half_dead_empty = λ h. refl;
  no_high_key = λ h. refl;
  a_high_key = λ h ne. absurd (ne refl);
  has_child = λ h e. absurd cc;
  rising = λ h. absurd cc;
  last_within = λ h. absurd cc;
  right_sibling = λ ne. absurd (ne refl);
  left_sibling = λ ne. absurd (ne refl);
  child = λ h. All-from_recursion (λ c. IsInUse tree c.1 × ((page_of c.1).level + 1 ≡ 1)) ((0, 2) ∷ (5, 3) ∷ []) ((in_use 2 (omega arith) (omega arith) refl, refl), ((in_use 3 (omega arith) (omega arith) refl, refl), tt));
}
pages (suc (suc zero)) h = leaf_sound 2 false true 0 4 (Some 3) (1 ∷ 2 ∷ 3 ∷ []) refl (λ h. absurd cc) (λ z. absurd (omega arith)) (λ ne. (3, refl)) ((refl, (refl, tt)), ((refl, tt), (tt, tt))) (λ s k. last_number (1 ∷ 2 ∷ 3 ∷ []) 3 3 refl refl s k refl) (λ ne. (in_use 4 (omega arith) (omega arith) refl, refl, refl)) (λ ne. absurd (ne refl))
pages (suc (suc (suc zero))) h = leaf_sound 3 false false 5 0 None (6 ∷ 7 ∷ []) refl (λ h. absurd cc) (λ z. refl) (λ ne. absurd (ne refl)) ((refl, tt), (tt, tt)) (λ s k. no_last s (6 ∷ 7 ∷ []) k) (λ ne. absurd (ne refl)) (λ ne. (in_use 5 (omega arith) (omega arith) refl, refl, refl))
pages (suc (suc (suc (suc zero)))) h = leaf_sound 4 false false 2 5 (Some 5) (4 ∷ 5 ∷ []) refl (λ h. absurd cc) (λ z. absurd (omega arith)) (λ ne. (5, refl)) ((refl, tt), (tt, tt)) (λ s k. last_number (4 ∷ 5 ∷ []) 5 5 refl refl s k refl) (λ ne. (in_use 5 (omega arith) (omega arith) refl, refl, refl)) (λ ne. (in_use 2 (omega arith) (omega arith) refl, refl, refl))
pages (suc (suc (suc (suc (suc zero))))) h = leaf_sound 5 true false 4 3 (Some 5) [] refl (λ h. refl) (λ z. absurd (omega arith)) (λ ne. (5, refl)) tt (λ s k. λ e last. absurd cc) (λ ne. (in_use 3 (omega arith) (omega arith) refl, refl, refl)) (λ ne. (in_use 4 (omega arith) (omega arith) refl, refl, refl))
pages (suc (suc (suc (suc (suc (suc b)))))) h = let lt = h.inside in absurd (omega arith)

nexts : ℕ → ℕ
nexts b = (page_of b).next

level_0 : IsSoundLevel numbers tree 0
level_0 = record {
  no_circle = λ k h. let e : after_links (λ b. (page_of b).next) (suc k) 1 ≡ 1 = subst (λ m. after_links (λ b. (page_of b).next) m 1 ≡ 1) (add-one k) h in absurd (let z = after_none k in omega arith);
  in_order = refl;
  no_half_dead = All-from_recursion {X = Option ℕ × ℕ} (λ d. (page_of d.1).half_dead ≡ false) ((None, 1) ∷ []) (refl, tt);
  live_or_dead = All-from_recursion (λ r. row_role r ≢ Neither) (row 1 Linked None ∷ []) ((λ h. absurd cc), tt);
  separators = All-from_recursion (λ r. row_role r ≡ Linked → All {X = Option ℕ × ℕ} (λ d. d.1 ≡ row_page r → d.0 ≡ row_lower r) ((None, 1) ∷ [])) (row 1 Linked None ∷ []) ((λ h. All-from_recursion {X = Option ℕ × ℕ} (λ d. d.1 ≡ 1 → d.0 ≡ None) ((None, 1) ∷ []) ((λ e. refl), tt)), tt);
  key_above = All-from_recursion (λ r. is_live (row_role r) ≡ true → (s : ℕ) → (page_of (row_page r)).high_key ≡ Some s → KeyAbove numbers (row_lower r) s) (row 1 Linked None ∷ []) ((λ h s k. tt), tt);
  entry_above = All-from_recursion (λ r. is_live (row_role r) ≡ true → IfFirst (page_of (row_page r)).entries (EntryAbove numbers (row_lower r))) (row 1 Linked None ∷ []) ((λ h e k. tt), tt);
  last_live = λ r h. subst (λ z. row_role z ≢ Dead) (one r h) (λ d. absurd cc);
}
  where
    one : (r : Row ℕ) → slice_get (row 1 Linked None ∷ []) 0 ≡ Some r → row 1 Linked None ≡ r
    one r h = cc

    after_none : (k : ℕ) → after_links (λ b. (page_of b).next) k 0 ≡ 0
    after_none zero = refl
    after_none (suc k) = refl

abbrev leaf_rows : List (Row ℕ)
leaf_rows = row 2 Linked None ∷ row 4 Right_half (Some 3) ∷ row 5 Dead (Some 5) ∷ row 3 Linked (Some 5) ∷ []

abbrev leaf_downs : List (Option ℕ × ℕ)
leaf_downs = (None, 2) ∷ (Some 5, 3) ∷ []

level_1 : IsSoundLevel numbers tree 1
level_1 = record {
  no_circle = λ k h. round k (subst (λ m. after_links (λ b. (page_of b).next) m 2 ≡ 2) (add-one k) h);
  in_order = refl;
  no_half_dead = All-from_recursion {X = Option ℕ × ℕ} (λ d. (page_of d.1).half_dead ≡ false) leaf_downs (refl, (refl, tt));
  live_or_dead = All-from_recursion (λ r. row_role r ≢ Neither) leaf_rows ((λ h. absurd cc), ((λ h. absurd cc), ((λ h. absurd cc), ((λ h. absurd cc), tt))));
  separators = All-from_recursion (λ r. row_role r ≡ Linked → All {X = Option ℕ × ℕ} (λ d. d.1 ≡ row_page r → d.0 ≡ row_lower r) leaf_downs) leaf_rows ((λ h. first), ((λ h. absurd cc), ((λ h. absurd cc), ((λ h. second), tt))));
  key_above = All-from_recursion (λ r. is_live (row_role r) ≡ true → (s : ℕ) → (page_of (row_page r)).high_key ≡ Some s → KeyAbove numbers (row_lower r) s) leaf_rows ((λ h s k. tt), ((λ h s k. above s k), ((λ h s k. absurd cc), ((λ h s k. absurd cc), tt))));
  entry_above = All-from_recursion (λ r. is_live (row_role r) ≡ true → IfFirst (page_of (row_page r)).entries (EntryAbove numbers (row_lower r))) leaf_rows ((λ h e k. tt), ((λ h e k. four e k), ((λ h e k. absurd cc), ((λ h e k. six e k), tt))));
  last_live = λ r h. subst (λ z. row_role z ≢ Dead) (one r h) (λ d. absurd cc);
}
  where
    round : (k : ℕ) → after_links (λ b. (page_of b).next) (suc k) 2 ≢ 2
    round zero h = absurd (omega arith)
    round (suc zero) h = absurd (omega arith)
    round (suc (suc zero)) h = absurd (omega arith)
    round (suc (suc (suc zero))) h = absurd (omega arith)
    round (suc (suc (suc (suc k)))) h = absurd (omega arith)

    one : (r : Row ℕ) → slice_get leaf_rows 3 ≡ Some r → row 3 Linked (Some 5) ≡ r
    one r h = cc

    above : (s : ℕ) → Some 5 ≡ Some s → nat_lt 3 s ≡ true
    above s h = let e : 5 ≡ s = cc in rw (← e) refl

    four : (e : ℕ) → Some 4 ≡ Some e → nat_le e 3 ≡ false
    four e h = let i : 4 ≡ e = cc in rw (← i) refl

    six : (e : ℕ) → Some 6 ≡ Some e → nat_le e 5 ≡ false
    six e h = let i : 6 ≡ e = cc in rw (← i) refl

    first : All {X = Option ℕ × ℕ} (λ d. d.1 ≡ 2 → d.0 ≡ None) leaf_downs
    first = All-from_recursion {X = Option ℕ × ℕ} (λ d. d.1 ≡ 2 → d.0 ≡ None) leaf_downs ((λ e. refl), ((λ e. absurd (omega arith)), tt))

    second : All {X = Option ℕ × ℕ} (λ d. d.1 ≡ 3 → d.0 ≡ Some 5) leaf_downs
    second = All-from_recursion {X = Option ℕ × ℕ} (λ d. d.1 ≡ 3 → d.0 ≡ Some 5) leaf_downs ((λ e. absurd (omega arith)), ((λ e. refl), tt))

levels : (n : ℕ) → n ≤ 1 → IsSoundLevel numbers tree n
levels zero le = level_0
levels (suc zero) le = level_1
levels (suc (suc n)) le = absurd (omega arith)

reached : (b : ℕ) → IsInUse tree b → (tree.root ≢ 0) × (n : ℕ) × (n ≤ 1) × Contains (chain_of tree (entry_page (downlinks tree n))) b
reached zero h = absurd (h.not_meta refl)
reached (suc zero) h = (omega arith, 0, omega arith, (0, omega arith, refl))
reached (suc (suc zero)) h = (omega arith, 1, omega arith, (0, omega arith, refl))
reached (suc (suc (suc zero))) h = (omega arith, 1, omega arith, (3, omega arith, refl))
reached (suc (suc (suc (suc zero)))) h = (omega arith, 1, omega arith, (1, omega arith, refl))
reached (suc (suc (suc (suc (suc zero))))) h = (omega arith, 1, omega arith, (2, omega arith, refl))
reached (suc (suc (suc (suc (suc (suc b)))))) h = let lt = h.inside in absurd (omega arith)

-- the rules can be kept
pub tree_quiet : IsSearchable numbers tree
tree_quiet = record {
  root_or_empty = (λ z. z, λ z. z);
  pages = pages;
  root = λ ne. (in_use 1 (omega arith) (omega arith) refl, refl);
  fast = λ ne. (in_use 1 (omega arith) (omega arith) refl, refl);
  fast_below = λ ne. omega arith;
  levels = λ ne. levels;
  fast_first = λ ne r h. only r h;
  fast_alone = λ ne k r h. absurd (none k r h);
  reached = reached;
}
  where
    only : (r : Row ℕ) → slice_get (row 1 Linked None ∷ []) 0 ≡ Some r → row_page r ≡ 1
    only r h = let e : row 1 Linked None ≡ r = cc in rw (← e) refl

    none : (k : ℕ) (r : Row ℕ) → slice_get (row 1 Linked None ∷ []) (k + 1) ≡ Some r → ⊥
    none k r h = let e : slice_get (row 1 Linked None ∷ []) (suc k) ≡ Some r = subst (λ m. slice_get (row 1 Linked None ∷ []) m ≡ Some r) (add-one k) h in absurd cc

-- A separator with a TID but fewer than all columns breaks the second law of goes_right:
-- the scan goes right of (5, 7) and not of the lower (5) with a TID. Page rules must exclude such separators.
abbrev low_5_7 : Bound ℕ
low_5_7 = record { values = 5 ∷ 7 ∷ []; inclusive = true }

second_law_fails : (goes_right {T = ℕ} (λ i. nat_cmp) low_5_7 (record { kept = 5 ∷ 7 ∷ []; tid = None }) ≡ true)
    × (compare_keys (λ i. nat_cmp) nat_cmp (record { kept = 5 ∷ []; tid = Some 9 }) (record { kept = 5 ∷ 7 ∷ []; tid = None }) ≡ Less)
    × (goes_right {T = ℕ} (λ i. nat_cmp) low_5_7 (record { kept = 5 ∷ []; tid = Some 9 }) ≡ false)
second_law_fails = (refl, refl, refl)
