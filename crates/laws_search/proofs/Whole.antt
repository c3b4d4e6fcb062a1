-- The searcher finds what it is to find.
use Rattle.std.proofs.Common.{length-append, ◌≡◌, ◌≢◌, ℕ, zero, suc, ◌-◌, ◌<◌, ◌≤◌, inl, inr, Bool, true, false, not, ◌&&◌, List, [], ◌∷◌, ◌++◌, length, map, refl, sym, ap, ◌∙◌, subst, arith}
use Rattle.std.specs.Prelude.{Option, Some, None, ◌==◌}
use Rattle.std.specs.List.{filter, flat_map}
use Rattle.std.specs.List.Sorted.{IsPermutation}
use Rattle.std.proofs.lemmas.Bool.{cases_Bool, cases_eq, cond-true, cond-false, and_parts, and_from, both_ways, not-true, not_from_false, eq-eqb, ne_eqb}
use Rattle.std.proofs.lemmas.List.Sorted.{IsPermutation-refl}
use Rattle.laws_search.specs.Order.{Order, IsOrder, Scan, IsScan}
use Rattle.laws_search.specs.Tree.{Page, Index, chain_of}
use Rattle.laws_search.specs.Levels.{Linked, Role, Row, row, row_page, entry_page, downlinks, level_rows}
use Rattle.laws_search.specs.Searchable.{IsInUse, IsSearchable}
use Rattle.laws_search.specs.Search.{State, At, Ended, Stuck, last_or, descend, tree_blocks, leaf_entries, entries_of, is_wanted, IsWanted, after_visits, search_start, Answers}
use Rattle.laws_search.proofs.Lists.{In, Each, Each-in, Each-map}
use Rattle.laws_search.proofs.Chains.{OnLevel}
use Rattle.laws_search.proofs.Rows.{Sound, level_is}
use Rattle.laws_search.proofs.Rising.{adjacent_from_rising}
use Rattle.laws_search.proofs.Cut.{filter_none}
use Rattle.laws_search.proofs.Leaves.{row_entries, EntryWithin, before, EndsWithin, ends_step, ends_later, visit_right, visit_down, left_unwanted, wanted_of, wanted-append, walk, all_rising, is_leaf}
use Rattle.laws_search.proofs.Descent.{Reached, Keeps}
use Rattle.laws_search.proofs.Fast.{fast_good_blocks}
use Rattle.laws_search.proofs.Gather.{gather, filter-flat_map, block_in, block_of, blocks_apart, In-from_Contains, Rising-filter}

-- who has ended stays so
pub after_ended : {S E : Type 0} (killed : E → Bool) (x : Index S E) (scan : Scan S E) (n : ℕ) (zs : List E) → after_visits killed x scan n (Ended zs) ≡ Ended zs
after_ended killed x scan zero zs = refl
after_ended killed x scan (suc n) zs = refl

pub more_visits : {S E : Type 0} (killed : E → Bool) (x : Index S E) (scan : Scan S E) (k n : ℕ) (s : State E) (zs : List E) → k ≤ n → after_visits killed x scan k s ≡ Ended zs → after_visits killed x scan n s ≡ Ended zs
more_visits killed x scan zero n s zs le h = ap (after_visits killed x scan n) h ∙ after_ended killed x scan n zs
more_visits killed x scan (suc k) zero s zs le h = absurd (omega arith)
more_visits killed x scan (suc k) (suc n) (At b ys) zs le h = more_visits killed x scan k n _ zs (omega arith) h
more_visits killed x scan (suc k) (suc n) (Ended ys) zs le h = h
more_visits killed x scan (suc k) (suc n) Stuck zs le h = h

-- what stands before a page that the scan goes right to
before_unwanted : {S E : Type 0} (o : Order S E) (laws : IsOrder o) (x : Index S E) (quiet : IsSearchable o x) (killed : E → Bool) (scan : Scan S E) (fits : IsScan o scan) (lo : Option S) (es : List E) → Each (EntryWithin o lo) es → Reached scan.goes_right lo → filter (is_wanted killed scan) es ≡ []
before_unwanted o laws x quiet killed scan fits None es all reached = filter_none (is_wanted killed scan) es (Each-map (EntryWithin o None) (λ e. is_wanted killed scan e ≡ false) es (λ e h. absurd h) all)
before_unwanted o laws x quiet killed scan fits (Some s) es all reached = left_unwanted o laws x quiet.pages killed scan fits s es reached all

module _ {S E : Type 0} (o : Order S E) (laws : IsOrder o) (x : Index S E) (quiet : IsSearchable o x) (root : x.root ≢ 0) (killed : E → Bool) (scan : Scan S E) (fits : IsScan o scan) where
  abbrev W : List (Row S) → List E
  W rs = wanted_of o laws x quiet.pages killed scan fits rs

  abbrev pub goal : List E
  goal = W (level_rows x x.level)

  abbrev Good : ℕ → ℕ → Type 0
  Good b n = EndsWithin killed x scan (At b []) n goal

  to_leaf : (post pre : List (Row S)) (p : ℕ) (r : Role) (lo : Option S) (split : Bool) (lower : Option S) (b : ℕ) → level_rows x x.level ≡ pre ++ row p r lo ∷ post → Sound o x 0 split lower b (row p r lo ∷ post) → Reached scan.goes_right lo → Good p (suc (length post))
  to_leaf post pre p r lo split lower b rows s reached =
      let lev = level_is o x quiet root x.level 0 (omega arith) in
      let whole : Sound o x 0 false None lev.first (pre ++ row p r lo ∷ post) = subst (Sound o x 0 false None lev.first) rows lev.sound in
      let none : W pre ≡ [] = before_unwanted o laws x quiet killed scan fits lo (flat_map (row_entries x) pre) (before o laws x quiet.pages pre p r lo post false None lev.first whole) reached in
      let all : W (row p r lo ∷ post) ≡ goal =
      sym (ap W rows ∙ (wanted-append o laws x quiet.pages killed scan fits pre (row p r lo ∷ post) ∙ ap (λ w. w ++ W (row p r lo ∷ post)) none)) in
      let ne : b ≢ 0 = λ z. s.0.here.0.not_meta (sym s.0.at ∙ z) in
      let ends : EndsWithin killed x scan (At b []) (suc (length post)) (W (row p r lo ∷ post)) = walk o laws x quiet.pages killed scan fits (row p r lo ∷ post) split lower b [] s ne in
      subst (λ z. EndsWithin killed x scan (At z []) (suc (length post)) goal) s.0.at (subst (EndsWithin killed x scan (At b []) (suc (length post))) all ends)

  abbrev keeps : Keeps o x scan.goes_right Good
  keeps = record {
    cost = λ rs. length rs;
    budget = λ rs. length rs;
    cost_right = λ q lo rs. omega arith;
    cost_part = λ pre q lo rs. omega (arith, length-append pre (row q Linked lo ∷ rs));
    later = λ b n m le h. ends_later o laws x quiet.pages killed scan fits (At b []) n m goal le h;
    right = λ b n used t h. ends_step o laws x quiet.pages killed scan fits b n [] (At (x.page b).next []) goal (visit_right o laws x quiet.pages killed scan fits b [] used t) h;
    down = λ b n c cs used t inner is h. ends_step o laws x quiet.pages killed scan fits b n [] (At (last_or c (filter (λ d. scan.goes_right d.0) cs)).1 []) goal (visit_down o laws x quiet.pages killed scan fits b [] used t inner ∙ ap (λ z. descend scan z []) is) h;
    leaf = λ post pre p r lo split lower b rows s live reached stays. to_leaf post pre p r lo split lower b rows s reached;
  }

  fast_ends : Good x.fastroot x.blocks
  fast_ends = fast_good_blocks o x quiet root scan.goes_right Good keeps (λ rs. omega arith)

-- a page that isn't in use, isn't a leaf or is half-dead gives nothing
empty_unless : {S E : Type 0} (p : Page S E) → ((p.leaf && (not p.idle && not p.half_dead)) ≡ true → ⊥) → leaf_entries p ≡ []
empty_unless p no_leaf = elim (cases_Bool (p.leaf && (not p.idle && not p.half_dead))) [
  | inl t ↦ absurd (no_leaf t)
  | inr t ↦ cond-false (p.leaf && (not p.idle && not p.half_dead)) p.entries [] t
]

module _ {S E : Type 0} (o : Order S E) (laws : IsOrder o) (x : Index S E) (quiet : IsSearchable o x) (root : x.root ≢ 0) (killed : E → Bool) (scan : Scan S E) where
  -- a leaf of the chain gives its entries
  leaf_gives : (b : ℕ) → OnLevel x 0 b → leaf_entries (x.page b) ≡ (x.page b).entries
  leaf_gives b here = elim (cases_Bool ((x.page b).leaf && (not (x.page b).idle && not (x.page b).half_dead))) [
    | inl t ↦ cond-true ((x.page b).leaf && (not (x.page b).idle && not (x.page b).half_dead)) (x.page b).entries [] t
    | inr t ↦ cond-false ((x.page b).leaf && (not (x.page b).idle && not (x.page b).half_dead)) (x.page b).entries [] t ∙ sym (half here t)
  ]
    where
      half : OnLevel x 0 b → ((x.page b).leaf && (not (x.page b).idle && not (x.page b).half_dead)) ≡ false → (x.page b).entries ≡ []
      half here t = elim (cases_Bool (x.page b).half_dead) [
        | inl h ↦ (quiet.pages b here.0).half_dead_empty h
        | inr h ↦
            absurd (both_ways ((x.page b).leaf && (not (x.page b).idle && not (x.page b).half_dead)) t (and_from _ _ (is_leaf o laws x quiet.pages b here) (and_from _ _ (not_from_false (x.page b).idle here.0.used) (not_from_false (x.page b).half_dead h))))
      ]

  same_entries : (rs : List (Row S)) → Each (OnLevel x 0) (map row_page rs) → flat_map (row_entries x) rs ≡ flat_map (λ b. leaf_entries (x.page b)) (map row_page rs)
  same_entries [] here = refl
  same_entries (row p r lo ∷ rs) here = ap (λ w. w ++ flat_map (row_entries x) rs) (sym (leaf_gives p here.0)) ∙ ap (λ w. leaf_entries (x.page p) ++ w) (same_entries rs here.1)

  -- a block that isn't in the leaf chain gives nothing
  outside : (b : ℕ) → In b (tree_blocks x.blocks) → (In b (map row_page (level_rows x x.level)) → ⊥) → leaf_entries (x.page b) ≡ []
  outside b in_file out = empty_unless (x.page b) (λ t.
      let parts = and_parts (x.page b).leaf (not (x.page b).idle && not (x.page b).half_dead) t in
      let bounds = block_of x.blocks b in_file in
      let used : IsInUse x b = record { not_meta = bounds.0; inside = bounds.1; used = not-true (x.page b).idle (and_parts (not (x.page b).idle) (not (x.page b).half_dead) parts.1).0 } in
      let r = quiet.reached b used in
      let n = r.1 in
      let le : n ≤ x.level = r.2 in
      let lev = level_is o x quiet root n (x.level - n) (omega arith) in
      let at = subst (In b) (sym lev.pages) (In-from_Contains (chain_of x (entry_page (downlinks x n))) b r.3) in
      let level : (x.page b).level ≡ x.level - n = (Each-in (OnLevel x (x.level - n)) b (map row_page (level_rows x n)) lev.chain.here at).1 in
      let zero : (x.page b).level ≡ 0 = (quiet.pages b used).leaf_below parts.0 in
      let same : n ≡ x.level = omega arith in
      out (subst (λ k. In b (map row_page (level_rows x k))) same at))

  pub found : IsWanted o killed x scan (filter (is_wanted killed scan) (flat_map (row_entries x) (level_rows x x.level)))
  found =
      let lev = level_is o x quiet root x.level 0 (omega arith) in
      let W = is_wanted killed scan in
      let f : ℕ → List E = λ b. leaf_entries (x.page b) in
      let rs = level_rows x x.level in
      let ps = map row_page rs in
      let to_pages : filter W (flat_map (row_entries x) rs) ≡ flat_map (λ b. filter W (f b)) ps = ap (filter W) (same_entries rs lev.chain.here) ∙ filter-flat_map W f ps in
      let moved : IsPermutation (flat_map (λ b. filter W (f b)) ps) (flat_map (λ b. filter W (f b)) (tree_blocks x.blocks)) =
      gather (λ b. filter W (f b)) ps (tree_blocks x.blocks) lev.chain.apart (blocks_apart x.blocks)
      (λ b h. let u = Each-in (OnLevel x 0) b ps lev.chain.here h in block_in x.blocks b u.0.not_meta u.0.inside)
      (λ b h out. ap (filter W) (outside b h out)) in
      record {
        all_of_them = subst (λ z. IsPermutation z (filter W (entries_of x))) (sym to_pages) (subst (IsPermutation (flat_map (λ b. filter W (f b)) ps)) (sym (filter-flat_map W f (tree_blocks x.blocks))) moved);
        rising = adjacent_from_rising o (filter W (flat_map (row_entries x) rs)) (Rising-filter o W (flat_map (row_entries x) rs) (all_rising o laws x quiet.pages rs false None lev.first lev.sound));
      }

-- where there is a root
full : {S E : Type 0} (o : Order S E) (laws : IsOrder o) (x : Index S E) (quiet : IsSearchable o x) (root : x.root ≢ 0) (killed : E → Bool) (scan : Scan S E) (fits : IsScan o scan) → (es : List E) × IsWanted o killed x scan es × Answers killed x scan x.blocks es
unfolding search_start
full o laws x quiet root killed scan fits =
    let e = fast_ends o laws x quiet root killed scan fits in
    let ne : x.fastroot ≢ 0 = λ z. root (quiet.root_or_empty.1 z) in
    let start : search_start x ≡ At x.fastroot [] = cond-false (x.fastroot == 0) (Ended []) (At x.fastroot []) (ne_eqb x.fastroot 0 ne) in
    (goal o laws x quiet root killed scan fits, found o laws x quiet root killed scan, ap (after_visits killed x scan x.blocks) start ∙ more_visits killed x scan e.visits x.blocks (At x.fastroot []) (goal o laws x quiet root killed scan fits) e.few e.ended)

-- an empty tree has no entries
pub nothing_there : {S E : Type 0} (o : Order S E) (x : Index S E) → IsSearchable o x → x.root ≡ 0 → (bs : List ℕ) → ((b : ℕ) → In b bs → (b ≢ 0) × (b < x.blocks)) → flat_map (λ b. leaf_entries (x.page b)) bs ≡ []
nothing_there o x quiet none [] all = refl
nothing_there o x quiet none (b ∷ bs) all =
    ap (λ w. w ++ flat_map (λ b. leaf_entries (x.page b)) bs) (empty_unless (x.page b) (λ t.
    let parts = and_parts (x.page b).leaf (not (x.page b).idle && not (x.page b).half_dead) t in
    let bounds = all b (inl refl) in
    let used : IsInUse x b = record { not_meta = bounds.0; inside = bounds.1; used = not-true (x.page b).idle (and_parts (not (x.page b).idle) (not (x.page b).half_dead) parts.1).0 } in
    (quiet.reached b used).0 none))
    ∙ nothing_there o x quiet none bs (λ c h. all c (inr h))

pub wanted_nothing : {S E : Type 0} (o : Order S E) (x : Index S E) → IsSearchable o x → x.root ≡ 0 → (killed : E → Bool) (scan : Scan S E) → IsWanted o killed x scan []
wanted_nothing {S} {E} o x quiet none killed scan =
    let empty : entries_of x ≡ [] = nothing_there o x quiet none (tree_blocks x.blocks) (λ b h. block_of x.blocks b h) in
    record { all_of_them = subst (λ z. IsPermutation [] (filter (is_wanted killed scan) z)) (sym empty) (IsPermutation-refl []); rising = λ k d l. absurd (omega arith) }

-- the searcher finds what it is to find
pub finds : {S E : Type 0} (o : Order S E) (x : Index S E) → IsOrder o → IsSearchable o x → (killed : E → Bool) (scan : Scan S E) → IsScan o scan → (es : List E) × IsWanted o killed x scan es × Answers killed x scan x.blocks es
unfolding search_start
finds {S} {E} o x laws quiet killed scan fits = elim (cases_eq x.root 0) [
  | inl none ↦
      let start : search_start x ≡ Ended [] = cond-true (x.fastroot == 0) (Ended []) (At x.fastroot []) (eq-eqb x.fastroot 0 (quiet.root_or_empty.0 none)) in
      let empty : entries_of x ≡ [] = nothing_there o x quiet none (tree_blocks x.blocks) (λ b h. block_of x.blocks b h) in (
        [],
        record { all_of_them = subst (λ z. IsPermutation [] (filter (is_wanted killed scan) z)) (sym empty) (IsPermutation-refl []); rising = λ k d l. absurd (omega arith) },
        ap (after_visits killed x scan x.blocks) start ∙ after_ended killed x scan x.blocks [],
      )
  | inr root ↦ full o laws x quiet root killed scan fits
]
