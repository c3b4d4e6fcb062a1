-- Where there is no finding the index is searchable.
use Rattle.std.proofs.Common.{◌≡◌, ◌≢◌, ℕ, zero, suc, ◌+◌, ◌-◌, ◌≤◌, inl, inr, Bool, true, false, not, cond, ◌&&◌}
use Rattle.std.proofs.Common.{List, [], ◌∷◌, ◌++◌, length, map, refl, sym, ap, ◌∙◌, subst, arith, add-zero, add-one}
use Rattle.std.specs.Prelude.{Option, Some, None, ◌==◌, ◌||◌, slice_get}
use Rattle.std.specs.List.{flat_map, filter, list_any, All}
use Rattle.std.proofs.lemmas.Bool.{cases_Bool, cases_eq, eq-eqb, eqb-true, or_parts, and_cases, both_ways, not-false}
use Rattle.std.proofs.lemmas.Bool.{not_from_false}
use Rattle.std.proofs.lemmas.List.Elements.{All-from_recursion}
use Rattle.laws_search.specs.Order.{Order}
use Rattle.laws_search.specs.Tree.{Index, chain_of}
use Rattle.laws_search.specs.Levels.{Dead, Linked, Right_half, Neither, Row, row_page, row_role, row_lower, is_live}
use Rattle.laws_search.specs.Levels.{Downlink, lead_to, entry_page, downlinks, level_rows}
use Rattle.laws_search.specs.Searchable.{IsInUse, IfFirst, IfLast, EntryAbove, KeyAbove, IsSoundLevel, IsSearchable}
use Rattle.laws_search.specs.Search.{tree_blocks}
use Rattle.laws_search.proofs.Lists.{Each, Each-front, Each-back, Each-map, Each-in}
use Rattle.laws_search.proofs.Chains.{OnLevel}
use Rattle.laws_search.proofs.Gather.{block_in}
use Rattle.laws_levels.specs.Rules.{second_separator, StandsInChain, entry_at}
use Rattle.laws_levels.specs.Questions.{Circle, FastRoot, LastPage, LowerBound, Question, Separator, Unreached}
use Rattle.laws_levels.specs.Questions.{last_questions, level_questions, levels_down, questions, row_questions}
use Rattle.laws_levels.specs.Tests.{first_broken, is_broken, is_dead, is_linked, is_low_entry, is_low_separator}
use Rattle.laws_levels.specs.Tests.{is_neither, is_not_alone, is_right_half, same_bound, same_numbers, stands_within}
use Rattle.laws_levels.specs.Sound.{HasSoundPages, IsSame}
use Rattle.laws_levels.proofs.Decide.{same_numbers_decides, same_bound_decides, linked_decides, dead_decides}
use Rattle.laws_levels.proofs.Decide.{half_decides, neither_decides, StandsInChain_decides}
use Rattle.laws_levels.proofs.Find.{some_eq, none_any, flat_map-Each}
use Rattle.laws_levels.proofs.Entries.{entry_is, rows_here}
use Rattle.laws_levels.proofs.First.{each_two, map_each, RootsStand, questions_some, questions_none, none_broken}
use Rattle.laws_levels.proofs.First.{unbroken_at, roots_from_none}

key_above_from :
    {S E : Type 0} (o : Order S E) (lower key : Option S) → is_low_separator o lower key ≡ false → (s : S)
    → key ≡ Some s → KeyAbove o lower s
key_above_from o None key h s is = tt
key_above_from o (Some l) None h s is = absurd cc
key_above_from o (Some l) (Some t) h s is = subst (λ z. o.under l z ≡ true) (some_eq t s is) (not-false (o.under l t) h)

entry_above_from :
    {S E : Type 0} (o : Order S E) (lower : Option S) (entry : Option E) → is_low_entry o lower entry ≡ false
    → (e : E) → entry ≡ Some e → EntryAbove o lower e
entry_above_from o None entry h e is = tt
entry_above_from o (Some l) None h e is = absurd cc
entry_above_from o (Some l) (Some d) h e is = subst (λ z. o.within z l ≡ false) (some_eq d e is) h

-- of the last page alone
last_one :
    {S : Type 0} (P : Question S → Type 0) (rs : List (Row S)) → ((r : Row S) → P (LastPage r) → row_role r ≢ Dead)
    → Each P (last_questions rs) → IfLast rs (λ r. row_role r ≢ Dead)
last_one P [] f h = λ r at. absurd cc
last_one P (r ∷ []) f h = λ w at. subst (λ z. row_role z ≢ Dead) (some_eq r w at) (f r h.0)
last_one P (r ∷ s ∷ rs) f h =
    let n : length (r ∷ s ∷ rs) - 1 ≡ suc (length (s ∷ rs) - 1) = omega arith in
    λ w at. last_one P (s ∷ rs) f h w (sym (ap (slice_get (r ∷ s ∷ rs)) n) ∙ at)

each_get : {X : Type 0} (P : X → Type 0) (xs : List X) (k : ℕ) (y : X) → Each P xs → slice_get xs k ≡ Some y → P y
each_get P [] k y h at = absurd cc
each_get P (x ∷ xs) zero y h at = subst P (some_eq x y at) h.0
each_get P (x ∷ xs) (suc k) y h at = each_get P xs k y h.1 at

first_from : {S : Type 0} (fast : ℕ) (rs : List (Row S)) → is_not_alone fast rs ≡ false → IfFirst rs (λ r. row_page r ≡ fast)
first_from fast [] h = λ r at. absurd cc
first_from {S} fast (r ∷ rs) h =
    let p = or_parts (not (row_page r == fast)) (list_any (λ r. not (is_right_half (row_role r))) rs) h in
    λ w at. subst (λ (z : Row S). row_page z ≡ fast) (some_eq r w at) (eqb-true (row_page r) fast (not-false (row_page r == fast) p.0))

alone_from :
    {S : Type 0} (fast : ℕ) (rs : List (Row S)) → is_not_alone fast rs ≡ false → (k : ℕ) (r : Row S)
    → slice_get rs (k + 1) ≡ Some r → row_role r ≡ Right_half
alone_from fast [] h k w at = absurd cc
alone_from {S} fast (r ∷ rs) h k w at =
    let p = or_parts (not (row_page r == fast)) (list_any (λ r. not (is_right_half (row_role r))) rs) h in
    let at' : slice_get rs k ≡ Some w = ap (slice_get (r ∷ rs)) (sym (add-one k)) ∙ at in
    (half_decides (row_role w)).0 (not-false (is_right_half (row_role w)) (each_get (λ (z : Row S). not (is_right_half (row_role z)) ≡ false) rs k w (none_any (λ r. not (is_right_half (row_role r))) rs p.1) at'))

-- the questions of one level among all
pub of_level :
    {S E : Type 0} (x : Index S E) (P : Question S → Type 0) (m n : ℕ) → Each P (levels_down x m n) → (i k : ℕ)
    → i + k ≡ m + n → n ≤ k → Each P (level_questions x i k)
of_level x P zero n h i k sum le =
    let e : n ≡ k = omega arith in
    let f : zero ≡ i = omega arith in
    subst (λ z. Each P (level_questions x z k)) f (subst (λ z. Each P (level_questions x zero z)) e h)
of_level x P (suc m) n h i k sum le = elim (cases_eq k n) [
  | inl e ↦
      let f : suc m ≡ i = omega arith in
      subst (λ z. Each P (level_questions x z k)) f (subst (λ z. Each P (level_questions x (suc m) z)) (sym e) (Each-front P (level_questions x (suc m) n) (levels_down x m (suc n)) h))
  | inr ne ↦ of_level x P m (suc n) (Each-back P (level_questions x (suc m) n) (levels_down x m (suc n)) h) i k (omega arith) (omega arith)
]

module _ {S E : Type 0} (same : S → S → Bool) (o : Order S E) (x : Index S E) (law : IsSame same) (local : HasSoundPages o x) where
  abbrev Failed : Question S → Type 0
  Failed q = is_broken same o x q ≡ false

  role_from : (r : Row S) → is_neither (row_role r) ≡ false → row_role r ≢ Neither
  role_from r h e = both_ways (is_neither (row_role r)) h ((neither_decides (row_role r)).1 e)

  separator_from :
      (n : ℕ) (r : Row S) → Failed (Separator n r) → row_role r ≡ Linked
      → All (λ d. d.1 ≡ row_page r → d.0 ≡ row_lower r) (downlinks x n)
  separator_from n r h linked =
      let ds = downlinks x n in
      let test : Downlink S → Bool = λ d. (d.1 == row_page r) && not (same_bound same d.0 (row_lower r)) in
      let t : is_linked (row_role r) ≡ true = (linked_decides (row_role r)).1 linked in
      elim (and_cases (is_linked (row_role r)) (list_any test ds) h) [
        | inl f ↦ absurd (both_ways (is_linked (row_role r)) f t)
        | inr none ↦ All-from_recursion {X = Downlink S} (λ d. d.1 ≡ row_page r → d.0 ≡ row_lower r) ds (Each-map {X = Downlink S} (λ d. test d ≡ false) (λ d. d.1 ≡ row_page r → d.0 ≡ row_lower r) ds one (none_any test ds none))
      ]
    where
      one :
          (d : Downlink S) → ((d.1 == row_page r) && not (same_bound same d.0 (row_lower r))) ≡ false
          → d.1 ≡ row_page r → d.0 ≡ row_lower r
      one d h e = elim (and_cases (d.1 == row_page r) (not (same_bound same d.0 (row_lower r))) h) [
        | inl f ↦ absurd (both_ways (d.1 == row_page r) f (eq-eqb d.1 (row_page r) e))
        | inr f ↦ (same_bound_decides same law d.0 (row_lower r)).0 (not-false (same_bound same d.0 (row_lower r)) f)
      ]

  record LowParts (r : Row S) : Type 0 where
    key : is_low_separator o (row_lower r) (x.page (row_page r)).high_key ≡ false
    entry : ((x.page (row_page r)).leaf && is_low_entry o (row_lower r) (slice_get (x.page (row_page r)).entries 0)) ≡ false

  low_parts : (r : Row S) → Failed (LowerBound r) → is_live (row_role r) ≡ true → LowParts r
  low_parts r h live =
      let p = x.page (row_page r) in
      let lo = row_lower r in
      let key = is_low_separator o lo p.high_key in
      let entry = p.leaf && is_low_entry o lo (slice_get p.entries 0) in
      let item = not p.leaf && is_low_separator o lo (second_separator p.children) in
      elim (and_cases (is_live (row_role r)) (key || (entry || item)) h) [
        | inl f ↦ absurd (both_ways (is_live (row_role r)) f live)
        | inr f ↦ let q = or_parts key (entry || item) f in record { key = q.0; entry = (or_parts entry item q.1).0 }
      ]

  entries_from : (r : Row S) → IsInUse x (row_page r) → LowParts r → IfFirst (x.page (row_page r)).entries (EntryAbove o (row_lower r))
  entries_from r used parts = λ e at. elim (cases_Bool (x.page (row_page r)).leaf) [
    | inl l ↦ elim (and_cases (x.page (row_page r)).leaf (is_low_entry o (row_lower r) (slice_get (x.page (row_page r)).entries 0)) parts.entry) [
      | inl f ↦ absurd (both_ways (x.page (row_page r)).leaf f l)
      | inr f ↦ entry_above_from o (row_lower r) (slice_get (x.page (row_page r)).entries 0) f e at
    ]
    | inr l ↦ absurd (let z = ap (λ es. slice_get es 0) (sym (local.no_entries (row_page r) used l)) ∙ at in cc)
  ]

  level_sound : (m n : ℕ) → OnLevel x m (entry_at x n) → Each Failed (level_questions x m n) → IsSoundLevel o x n
  level_sound m n here h =
      let ds = downlinks x n in
      let rs = level_rows x n in
      let pages : List ℕ = map (λ d. d.1) ds in
      let linked : List ℕ = filter (lead_to ds) (chain_of x (entry_page ds)) in
      let rest = last_questions rs ++ cond (m == x.fastlevel) (FastRoot ∷ []) [] in
      let rows = flat_map-Each Failed (row_questions n) rs (Each-front Failed (flat_map (row_questions n) rs) rest h.1.1) in
      let used : Each (λ r. OnLevel x m (row_page r)) rs = map_each (OnLevel x m) row_page rs (rows_here o x local.pages m ds here) in
      let downs = or_parts (not (same_numbers pages linked)) (list_any (λ d. (x.page d.1).half_dead) ds) h.1.0 in
      let last = Each-front Failed (last_questions rs) (cond (m == x.fastlevel) (FastRoot ∷ []) []) (Each-back Failed (flat_map (row_questions n) rs) rest h.1.1) in
      record {
        no_circle = λ k e. unbroken_at same o x law local.pages (Circle n) (m, here) h.0 (k, e);
        in_order = (same_numbers_decides pages linked).0 (not-false (same_numbers pages linked) downs.0);
        no_half_dead = All-from_recursion {X = Downlink S} (λ d. (x.page d.1).half_dead ≡ false) ds (none_any (λ (d : Downlink S). (x.page d.1).half_dead) ds downs.1);
        live_or_dead = All-from_recursion (λ r. row_role r ≢ Neither) rs (Each-map (λ r. Each Failed (row_questions n r)) (λ r. row_role r ≢ Neither) rs (λ r k. role_from r k.0) rows);
        separators = All-from_recursion (λ r. row_role r ≡ Linked → All (λ d. d.1 ≡ row_page r → d.0 ≡ row_lower r) ds) rs (Each-map (λ r. Each Failed (row_questions n r)) (λ r. row_role r ≡ Linked → All (λ d. d.1 ≡ row_page r → d.0 ≡ row_lower r) ds) rs (λ r k. separator_from n r k.1.0) rows);
        key_above = All-from_recursion (λ r. is_live (row_role r) ≡ true → (s : S) → (x.page (row_page r)).high_key ≡ Some s → KeyAbove o (row_lower r) s) rs
            (Each-map (λ r. Each Failed (row_questions n r)) (λ r. is_live (row_role r) ≡ true → (s : S) → (x.page (row_page r)).high_key ≡ Some s → KeyAbove o (row_lower r) s) rs
            (λ r k live s is. key_above_from o (row_lower r) (x.page (row_page r)).high_key (low_parts r k.1.1.0 live).key s is) rows);
        entry_above = All-from_recursion (λ r. is_live (row_role r) ≡ true → IfFirst (x.page (row_page r)).entries (EntryAbove o (row_lower r))) rs
            (each_two (λ r. Each Failed (row_questions n r)) (λ r. OnLevel x m (row_page r)) (λ r. is_live (row_role r) ≡ true → IfFirst (x.page (row_page r)).entries (EntryAbove o (row_lower r))) rs
            (λ r k used live. entries_from r used.0 (low_parts r k.1.1.0 live)) rows used);
        last_live = last_one Failed rs (λ r k e. both_ways (is_dead (row_role r)) k ((dead_decides (row_role r)).1 e)) last;
      }

  fast_failed : (m n : ℕ) → m ≡ x.fastlevel → Each Failed (level_questions x m n) → Failed FastRoot
  fast_failed m n is h =
      let rs = level_rows x n in
      let last = Each-back Failed (last_questions rs) (cond (m == x.fastlevel) (FastRoot ∷ []) []) (Each-back Failed (flat_map (row_questions n) rs) (last_questions rs ++ cond (m == x.fastlevel) (FastRoot ∷ []) []) h.1.1) in
      (subst (λ b. Each Failed (cond b (FastRoot ∷ []) [])) (eq-eqb m x.fastlevel is) last).0

  -- where there is a root
  all_levels : (ne : x.root ≢ 0) → Each Failed (questions x) → Each Failed (levels_down x x.level 0)
  all_levels ne h = Each-front Failed (levels_down x x.level 0) (map Unreached (tree_blocks x.blocks)) (subst (Each Failed) (questions_some x ne) h).1

  one_level : (ne : x.root ≢ 0) → Each Failed (questions x) → (m n : ℕ) → m + n ≡ x.level → Each Failed (level_questions x m n)
  one_level ne h m n is = of_level x Failed x.level 0 (all_levels ne h) m n (is ∙ sym (add-zero x.level)) (omega arith)

  all_blocks : Each Failed (questions x) → Each Failed (map Unreached (tree_blocks x.blocks))
  all_blocks h = elim (cases_eq x.root 0) [
    | inl z ↦ subst (Each Failed) (questions_none x z) h
    | inr ne ↦ Each-back Failed (levels_down x x.level 0) (map Unreached (tree_blocks x.blocks)) (subst (Each Failed) (questions_some x ne) h).1
  ]

  reached_from : Each Failed (questions x) → (b : ℕ) → IsInUse x b → StandsInChain x b
  reached_from h b used =
      let f : Failed (Unreached b) = Each-in (λ b. Failed (Unreached b)) b (tree_blocks x.blocks) (map_each Failed Unreached (tree_blocks x.blocks) (all_blocks h)) (block_in x.blocks b used.not_meta used.inside) in
      let it = not (x.root == 0) && stands_within x b x.level in
      (StandsInChain_decides x b).0 (not-false it (right f))
    where
      right : Failed (Unreached b) → not (not (x.root == 0) && stands_within x b x.level) ≡ false
      right f = elim (and_cases (not (x.page b).idle) (not (not (x.root == 0) && stands_within x b x.level)) f) [
        | inl i ↦ absurd (both_ways (not (x.page b).idle) i (not_from_false (x.page b).idle used.used))
        | inr k ↦ k
      ]

  pub searchable : first_broken same o x ≡ None → IsSearchable o x
  searchable none =
      let h = none_broken same o x law local.pages none in
      let roots : x.root ≢ 0 → RootsStand x = roots_from_none same o x law local.pages local h in
      let fast : (ne : x.root ≢ 0) → Failed FastRoot = λ ne. fast_failed x.fastlevel (x.level - x.fastlevel) refl (one_level ne h x.fastlevel (x.level - x.fastlevel) (let le = (roots ne).below in omega arith)) in
      record {
        root_or_empty = local.root_or_empty;
        pages = local.pages;
        root = λ ne. (roots ne).root;
        fast = λ ne. (roots ne).fast;
        fast_below = λ ne. (roots ne).below;
        levels = λ ne n le. level_sound (x.level - n) n (entry_is o x local.pages (roots ne).root n (x.level - n) (omega arith)) (one_level ne h (x.level - n) n (omega arith));
        fast_first = λ ne. first_from x.fastroot (level_rows x (x.level - x.fastlevel)) (fast ne);
        fast_alone = λ ne. alone_from x.fastroot (level_rows x (x.level - x.fastlevel)) (fast ne);
        reached = reached_from h;
      }
