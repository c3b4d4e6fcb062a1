-- A searchable index breaks no rule on levels.
use Rattle.std.proofs.Common.{◌≡◌, ◌≢◌, ℕ, zero, suc, ◌+◌, ◌-◌, ◌<◌, inl, inr, Bool, true, false, List, [], ◌∷◌, map}
use Rattle.std.proofs.Common.{refl, sym, ap, ◌∙◌, subst, arith, add-zero, add-one}
use Rattle.std.specs.Prelude.{Some, None, slice_get, option_map}
use Rattle.std.specs.List.{All, Any}
use Rattle.std.proofs.lemmas.Bool.{cases_eq, false_from_ne_true, both_ways}
use Rattle.std.proofs.lemmas.List.Elements.{All-from_recursion, recursion_from_All}
use Rattle.laws_search.specs.Order.{Order}
use Rattle.laws_search.specs.Tree.{Index}
use Rattle.laws_search.specs.Levels.{Dead, Linked, Right_half, Neither, Row, row_page, row_role, row_lower, is_live}
use Rattle.laws_search.specs.Levels.{Downlink, downlinks, level_rows}
use Rattle.laws_search.specs.Searchable.{IfFirst, IfLast, EntryAbove, KeyAbove, IsSoundLevel, IsSearchable}
use Rattle.laws_search.specs.Search.{tree_blocks}
use Rattle.laws_search.proofs.Lists.{In, Each, Each-append, Each-from_in}
use Rattle.laws_search.proofs.Gather.{block_of}
use Rattle.laws_search.proofs.Rows.{Sound, level_is, last_rest}
use Rattle.laws_levels.specs.Rules.{HasLowItem, IsNotAlone}
use Rattle.laws_levels.specs.Questions.{Downlinks, FastRoot, IsBroken, LastPage, LowerBound, Question, Roots}
use Rattle.laws_levels.specs.Questions.{Separator, Unreached, finding_of, last_questions, level_questions, levels_down}
use Rattle.laws_levels.specs.Questions.{questions, row_questions}
use Rattle.laws_levels.specs.Tests.{first_broken, is_broken}
use Rattle.laws_levels.specs.Sound.{IsSame}
use Rattle.laws_levels.proofs.Decide.{Founded, decides}
use Rattle.laws_levels.proofs.Find.{find_none}
use Rattle.laws_levels.proofs.Items.{ItemsAbove}
use Rattle.laws_levels.proofs.First.{each_two, each_map, each_level, each_down, questions_some, questions_none}
use Rattle.laws_levels.proofs.First.{founded_all, Unbroken}

none_of_any : {X : Type 0} (P : X → Type 0) (xs : List X) → All (λ x. ¬ P x) xs → ¬ Any P xs
none_of_any P xs all a = subst (λ z. ¬ P z) a.3 (all a.0 a.1 a.2) a.4

-- the last page is live
last_kept :
    {S : Type 0} (P : Question S → Type 0) (rs : List (Row S)) → ((r : Row S) → row_role r ≢ Dead → P (LastPage r))
    → IfLast rs (λ r. row_role r ≢ Dead) → Each P (last_questions rs)
last_kept P [] f last = tt
last_kept P (r ∷ []) f last = (f r (last r refl), tt)
last_kept P (r ∷ s ∷ rs) f last = last_kept P (s ∷ rs) f (last_rest (λ r. row_role r ≢ Dead) r (s ∷ rs) last)

alone_kept :
    {S : Type 0} (fast : ℕ) (rs : List (Row S)) → rs ≢ [] → IfFirst rs (λ r. row_page r ≡ fast)
    → ((k : ℕ) (r : Row S) → slice_get rs (k + 1) ≡ Some r → row_role r ≡ Right_half) → ¬ IsNotAlone fast rs
alone_kept fast [] some first later h = some refl
alone_kept {S} fast (r ∷ rs) some first later h = elim h [
  | inl ne ↦ ne (first r refl)
  | inr a ↦ none_of_any (λ (r : Row S). row_role r ≢ Right_half) rs (All-from_recursion (λ (r : Row S). ¬ (row_role r ≢ Right_half)) rs (each_of rs (λ k w at. later k w (ap (slice_get (r ∷ rs)) (add-one k) ∙ at)))) a
]
  where
    each_of :
        (ws : List (Row S)) → ((k : ℕ) (w : Row S) → slice_get ws k ≡ Some w → row_role w ≡ Right_half)
        → Each (λ (r : Row S). ¬ (row_role r ≢ Right_half)) ws
    each_of [] f = tt
    each_of (w ∷ ws) f = ((λ ne. ne (f zero w refl)), each_of ws (λ k v at. f (suc k) v at))

module _ {S E : Type 0} (o : Order S E) (x : Index S E) (fit : IsSearchable o x) (items : x.root ≢ 0 → ItemsAbove o x) where
  abbrev Kept : Question S → Type 0
  Kept q = ¬ IsBroken o x q

  -- the last page isn't beyond the end
  some_rows : (root : x.root ≢ 0) (n m : ℕ) → m + n ≡ x.level → level_rows x n ≢ []
  some_rows root n m is =
      let lev = level_is o x fit root n m is in
      λ e. lev.some (subst (Sound o x m false None lev.first) e lev.sound)

  roots_kept : x.root ≢ 0 → Kept Roots
  roots_kept ne h = elim h [
    | inl a ↦ elim a [ inl i ↦ both_ways (x.page x.root).idle (fit.root ne).0.used i | inr l ↦ l (fit.root ne).1 ]
    | inr b ↦ elim b [
      | inl a ↦ elim a [ inl i ↦ both_ways (x.page x.fastroot).idle (fit.fast ne).0.used i | inr l ↦ l (fit.fast ne).1 ]
      | inr lt ↦ let le = fit.fast_below ne in absurd (omega arith)
    ]
  ]

  downlinks_kept : (n : ℕ) → IsSoundLevel o x n → Kept (Downlinks n)
  downlinks_kept n level h = elim h [
    | inl ne ↦ ne level.in_order
    | inr a ↦ none_of_any {X = Downlink S} (λ d. (x.page d.1).half_dead ≡ true) (downlinks x n) (λ k d lt t. both_ways _ (level.no_half_dead k d lt) t) a
  ]

  separator_kept :
      (n : ℕ) (r : Row S) → (row_role r ≡ Linked → All (λ d. d.1 ≡ row_page r → d.0 ≡ row_lower r) (downlinks x n))
      → Kept (Separator n r)
  separator_kept n r all h = none_of_any {X = Downlink S} (λ d. (d.1 ≡ row_page r) × (d.0 ≢ row_lower r)) (downlinks x n) (λ k d lt p. p.1 (all h.0 k d lt p.0)) h.1

  bounds_kept :
      (r : Row S)
      → (is_live (row_role r) ≡ true → (s : S) → (x.page (row_page r)).high_key ≡ Some s → KeyAbove o (row_lower r) s)
      → (is_live (row_role r) ≡ true → IfFirst (x.page (row_page r)).entries (EntryAbove o (row_lower r)))
      → (is_live (row_role r) ≡ true → ¬ HasLowItem o (row_lower r) (x.page (row_page r))) → Kept (LowerBound r)
  bounds_kept r key entry item h = elim h.1 [
    | inl k ↦ k.2 (key h.0 k.0 k.1)
    | inr b ↦ elim b [ inl e ↦ e.3 (entry h.0 e.1 e.2) | inr i ↦ item h.0 i ]
  ]

  fast_kept : x.root ≢ 0 → Kept FastRoot
  fast_kept ne =
      let le = fit.fast_below ne in
      let n = x.level - x.fastlevel in
      alone_kept x.fastroot (level_rows x n) (some_rows ne n x.fastlevel (omega arith)) (fit.fast_first ne) (fit.fast_alone ne)

  level_kept : x.root ≢ 0 → (m n : ℕ) → m + n ≡ x.level → Each Kept (level_questions x m n)
  level_kept ne m n is =
      let level = fit.levels ne n (omega arith) in
      let rs = level_rows x n in
      let roles = recursion_from_All (λ r. row_role r ≢ Neither) rs level.live_or_dead in
      let Sep : Row S → Type 0 = λ r. row_role r ≡ Linked → All (λ d. d.1 ≡ row_page r → d.0 ≡ row_lower r) (downlinks x n) in
      let Key : Row S → Type 0 = λ r. is_live (row_role r) ≡ true → (s : S) → (x.page (row_page r)).high_key ≡ Some s → KeyAbove o (row_lower r) s in
      let Entry : Row S → Type 0 = λ r. is_live (row_role r) ≡ true → IfFirst (x.page (row_page r)).entries (EntryAbove o (row_lower r)) in
      let Item : Row S → Type 0 = λ r. is_live (row_role r) ≡ true → ¬ HasLowItem o (row_lower r) (x.page (row_page r)) in
      let seps = recursion_from_All Sep rs level.separators in
      let keys = recursion_from_All Key rs level.key_above in
      let entries = recursion_from_All Entry rs level.entry_above in
      let each_item = recursion_from_All Item rs (items ne n (omega arith)) in
      let bounds : Each (λ r. Kept (LowerBound r)) rs =
      each_two (λ r. Key r × Entry r) Item (λ r. Kept (LowerBound r)) rs (λ r ke i. bounds_kept r ke.0 ke.1 i) (each_two Key Entry (λ r. Key r × Entry r) rs (λ r k e. (k, e)) keys entries) each_item in
      let rows : Each (λ r. Each Kept (row_questions n r)) rs =
      each_two (λ r. (row_role r ≢ Neither) × Sep r) (λ r. Kept (LowerBound r)) (λ r. Each Kept (row_questions n r)) rs (λ r a b. (a.0, (separator_kept n r a.1, (b, tt))))
      (each_two (λ r. row_role r ≢ Neither) Sep (λ r. (row_role r ≢ Neither) × Sep r) rs (λ r a b. (a, b)) roles seps) bounds in
      each_level x Kept m n (λ c. level.no_circle c.0 c.1) (downlinks_kept n level) rows (last_kept Kept rs (λ r ne e. ne e) level.last_live) (λ e. fast_kept ne)

  blocks_kept : (bs : List ℕ) → ((b : ℕ) → In b bs → (b ≢ 0) × (b < x.blocks)) → Each Kept (map Unreached bs)
  blocks_kept bs all = each_map Kept Unreached bs (Each-from_in (λ b. Kept (Unreached b)) bs (λ b i h. let k = all b i in h.1 (fit.reached b (record { not_meta = k.0; inside = k.1; used = h.0 }))))

  all_kept : Each Kept (questions x)
  all_kept =
      let blocks = blocks_kept (tree_blocks x.blocks) (λ b i. block_of x.blocks b i) in
      elim (cases_eq x.root 0) [
        | inl z ↦ subst (Each Kept) (sym (questions_none x z)) blocks
        | inr ne ↦ subst (Each Kept) (sym (questions_some x ne)) (roots_kept ne, Each-append Kept (levels_down x x.level 0) (map Unreached (tree_blocks x.blocks)) (each_down x Kept (level_kept ne) x.level 0 (add-zero x.level)) blocks)
      ]

  pub all_unbroken : Unbroken o x
  all_unbroken = All-from_recursion Kept (questions x) all_kept

pub no_finding :
    {S E : Type 0} (same : S → S → Bool) (o : Order S E) (x : Index S E) → IsSame same → (fit : IsSearchable o x)
    → (x.root ≢ 0 → ItemsAbove o x) → first_broken same o x ≡ None
unfolding first_broken
no_finding same o x law fit items =
    let founded = founded_all same o x law fit.pages (λ ne. record { root = fit.root ne; fast = fit.fast ne; below = fit.fast_below ne }) in
    ap (option_map (finding_of x)) (find_none (is_broken same o x) (questions x) (each_two (Founded x) (λ q. ¬ IsBroken o x q) (λ q. is_broken same o x q ≡ false) (questions x)
    (λ q f k. false_from_ne_true (is_broken same o x q) (λ t. k ((decides same o x law fit.pages q f).0 t))) founded (all_kept o x fit items)))
