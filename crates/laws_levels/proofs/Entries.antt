-- The entry page of each level is in use, once the roots are, whatever other rules are broken.
use Rattle.std.proofs.Common.{◌≡◌, ◌≢◌, ℕ, zero, suc, ◌+◌, ◌<◌, inl, inr, Bool, true, false, not, cond, ◌&&◌, List}
use Rattle.std.proofs.Common.{[], ◌∷◌, ◌++◌, map, reverse, refl, sym, ap, ◌∙◌, subst, arith, add-zero}
use Rattle.std.specs.Prelude.{Option, Some, None, ◌==◌}
use Rattle.std.specs.List.{flat_map}
use Rattle.std.proofs.lemmas.Bool.{cases_Bool, eq-eqb, or_left}
use Rattle.std.proofs.lemmas.List.Elements.{recursion_from_All}
use Rattle.laws_search.specs.Order.{Order}
use Rattle.laws_search.specs.Tree.{Index, chain_of, linked_from}
use Rattle.laws_search.specs.Levels.{Role, Dead, Linked, Right_half, Neither, is_live, Row, row, row_page, Downlink}
use Rattle.laws_search.specs.Levels.{is_single, role_of, lower_after, rows, lead_to, entry_page, level_below}
use Rattle.laws_search.specs.Levels.{page_downlinks, row_downlinks, downlinks}
use Rattle.laws_search.specs.Searchable.{IsInUse, IsSoundPage}
use Rattle.laws_search.proofs.Lists.{In, In-right, Each, Each-append}
use Rattle.laws_search.proofs.Chains.{OnLevel}
use Rattle.laws_levels.specs.Rules.{entry_at}
use Rattle.laws_levels.proofs.Find.{Each-reverse}

-- what links reach
linked_all :
    (f : ℕ → ℕ) (Ok : ℕ → Type 0) → ((b : ℕ) → Ok b → f b ≢ 0 → Ok (f b)) → (n b : ℕ) → (b ≢ 0 → Ok b)
    → Each Ok (linked_from f n b)
linked_all f Ok goes zero b h = tt
linked_all f Ok goes (suc n) zero h = tt
linked_all f Ok goes (suc n) (suc b) h =
    let here : Ok (suc b) = h (omega arith) in
    (here, linked_all f Ok goes n (f (suc b)) (goes (suc b) here))

linked_first : (f : ℕ → ℕ) (n b : ℕ) → b ≢ 0 → b < n → In b (linked_from f n b)
linked_first f zero b ne lt = absurd (omega arith)
linked_first f (suc n) zero ne lt = absurd (ne refl)
linked_first f (suc n) (suc b) ne lt = inl refl

names_entry : {S : Type 0} (ds : List (Downlink S)) → entry_page ds ≢ 0 → lead_to ds (entry_page ds) ≡ true
names_entry [] ne = absurd (ne refl)
names_entry (d ∷ ds) ne = or_left (d.1 == d.1) (lead_to ds d.1) (eq-eqb d.1 d.1 refl)

pub rows_pages :
    {S E : Type 0} (x : Index S E) (named : ℕ → Bool) (split : Bool) (lower : Option S) (c : List ℕ)
    → map row_page (rows x named split lower c) ≡ c
rows_pages x named split lower [] = refl
rows_pages x named split lower (b ∷ c) =
    let p = x.page b in
    let r : Role = role_of p (named b) split in
    ap (λ w. b ∷ w) (rows_pages x named (is_live r && p.incomplete_split) (lower_after p r lower) c)

module _ {S E : Type 0} (o : Order S E) (x : Index S E) (sound : (b : ℕ) → IsInUse x b → IsSoundPage o x b) where
  -- all pages of a chain are of one level, also where it is a circle
  pub chain_here : (m e : ℕ) → OnLevel x m e → Each (OnLevel x m) (chain_of x e)
  chain_here m e here =
      let right : (b : ℕ) → OnLevel x m b → (x.page b).next ≢ 0 → OnLevel x m (x.page b).next = λ b ok h. let r = (sound b ok.0).right_sibling h in (r.0, r.1 ∙ ok.1) in
      let left : (b : ℕ) → OnLevel x m b → (x.page b).prev ≢ 0 → OnLevel x m (x.page b).prev = λ b ok h. let r = (sound b ok.0).left_sibling h in (r.0, r.1 ∙ ok.1) in
      Each-append (OnLevel x m) (reverse (linked_from (λ k. (x.page k).prev) x.blocks (x.page e).prev)) (linked_from (λ k. (x.page k).next) x.blocks e)
      (Each-reverse (OnLevel x m) (linked_from (λ k. (x.page k).prev) x.blocks (x.page e).prev) (linked_all (λ k. (x.page k).prev) (OnLevel x m) left x.blocks (x.page e).prev (left e here)))
      (linked_all (λ k. (x.page k).next) (OnLevel x m) right x.blocks e (λ ne. here))

  pub entry_in_chain : (m e : ℕ) → OnLevel x m e → In e (chain_of x e)
  entry_in_chain m e here =
      In-right e (reverse (linked_from (λ k. (x.page k).prev) x.blocks (x.page e).prev)) (linked_from (λ k. (x.page k).next) x.blocks e) (linked_first (λ k. (x.page k).next) x.blocks e here.0.not_meta here.0.inside)

  inner : (m b : ℕ) → OnLevel x (suc m) b → (x.page b).leaf ≡ false
  inner m b here = elim (cases_Bool (x.page b).leaf) [
    | inl l ↦ let z : (x.page b).level ≡ 0 = (sound b here.0).leaf_below l in let e : (x.page b).level ≡ suc m = here.1 in absurd (omega arith)
    | inr l ↦ l
  ]

  children_here :
      (m b : ℕ) (lower : Option S) → OnLevel x (suc m) b
      → Each {X = Downlink S} (λ d. OnLevel x m d.1) (page_downlinks lower (x.page b).children)
  children_here m b lower here = go lower (x.page b).children (recursion_from_All (λ c. IsInUse x c.1 × ((x.page c.1).level + 1 ≡ (x.page b).level)) (x.page b).children ((sound b here.0).child (inner m b here)))
    where
      one : (c : ℕ) → IsInUse x c × ((x.page c).level + 1 ≡ (x.page b).level) → OnLevel x m c
      one c h = let e : (x.page c).level + 1 ≡ (x.page b).level = h.1 in let f : (x.page b).level ≡ suc m = here.1 in (h.0, omega arith)

      later :
          (cs : List (S × ℕ))
          → Each {X = S × ℕ} (λ c. IsInUse x c.1 × ((x.page c.1).level + 1 ≡ (x.page b).level)) cs
          → Each {X = Downlink S} (λ d. OnLevel x m d.1) (map (λ c. (Some c.0, c.1)) cs)
      later [] h = tt
      later (c ∷ cs) h = (one c.1 h.0, later cs h.1)

      go :
          (lower : Option S) (cs : List (S × ℕ))
          → Each {X = S × ℕ} (λ c. IsInUse x c.1 × ((x.page c.1).level + 1 ≡ (x.page b).level)) cs
          → Each {X = Downlink S} (λ d. OnLevel x m d.1) (page_downlinks lower cs)
      go lower [] h = tt
      go lower (c ∷ cs) h = (one c.1 h.0, later cs h.1)

  -- the downlinks of a row
  row_downlinks_here : (m : ℕ) (r : Row S) → OnLevel x (suc m) (row_page r) → Each {X = Downlink S} (λ d. OnLevel x m d.1) (row_downlinks x r)
  row_downlinks_here m (row p Dead lo) here = tt
  row_downlinks_here m (row p Linked lo) here = children_here m p lo here
  row_downlinks_here m (row p Right_half lo) here = children_here m p lo here
  row_downlinks_here m (row p Neither lo) here = tt

  downlinks_here :
      (m : ℕ) (rs : List (Row S)) → Each (OnLevel x (suc m)) (map row_page rs)
      → Each {X = Downlink S} (λ d. OnLevel x m d.1) (flat_map (row_downlinks x) rs)
  downlinks_here m [] here = tt
  downlinks_here m (r ∷ rs) here = Each-append {X = Downlink S} (λ d. OnLevel x m d.1) (row_downlinks x r) (flat_map (row_downlinks x) rs) (row_downlinks_here m r here.0) (downlinks_here m rs here.1)

  some_child : (lower : Option S) (cs : List (S × ℕ)) (ds : List (Downlink S)) → cs ≢ [] → page_downlinks lower cs ++ ds ≢ []
  some_child lower [] ds ne = absurd (ne refl)
  some_child lower (c ∷ cs) ds ne = λ e. absurd cc

  append_some : {X : Type 0} (xs ys : List X) → ys ≢ [] → xs ++ ys ≢ []
  append_some [] ys ne = ne
  append_some (a ∷ xs) ys ne = λ e. absurd cc

  -- a named page of a level above the leaves is live
  named_live :
      (m b : ℕ) (named : ℕ → Bool) (split : Bool) → OnLevel x (suc m) b → named b ≡ true
      → role_of (x.page b) (named b) split ≡ Linked
  named_live m b named split here is =
      let p = x.page b in
      ap (λ l. cond (l && p.half_dead) Dead (cond (named b) Linked (cond split Right_half (cond (not p.leaf && (not (p.next == 0) && is_single p.children)) Dead Neither)))) (inner m b here)
      ∙ ap (λ n. cond n Linked (cond split Right_half (cond (not p.leaf && (not (p.next == 0) && is_single p.children)) Dead Neither))) is

  some_down :
      (m e : ℕ) (named : ℕ → Bool) → named e ≡ true → OnLevel x (suc m) e
      → (split : Bool) (lower : Option S) (c : List ℕ) → In e c
      → flat_map (row_downlinks x) (rows x named split lower c) ≢ []
  some_down m e named is here split lower [] h = absurd h
  some_down m e named is here split lower (b ∷ c) h =
      let p = x.page b in
      let r : Role = role_of p (named b) split in
      let rest : List (Row S) = rows x named (is_live r && p.incomplete_split) (lower_after p r lower) c in
      elim h [
        | inl eb ↦
            let hereb : OnLevel x (suc m) b = subst (OnLevel x (suc m)) eb here in
            let live : r ≡ Linked = named_live m b named split hereb (ap named (sym eb) ∙ is) in
            subst (λ z. row_downlinks x (row b z lower) ++ flat_map (row_downlinks x) rest ≢ []) (sym live) (some_child lower p.children (flat_map (row_downlinks x) rest) ((sound b hereb.0).has_child (inner m b hereb)))
        | inr k ↦ append_some (row_downlinks x (row b r lower)) (flat_map (row_downlinks x) rest) (some_down m e named is here (is_live r && p.incomplete_split) (lower_after p r lower) c k)
      ]

  entry_here : (m : ℕ) (ds : List (Downlink S)) → Each {X = Downlink S} (λ d. OnLevel x m d.1) ds → ds ≢ [] → OnLevel x m (entry_page ds)
  entry_here m [] all ne = absurd (ne refl)
  entry_here m (d ∷ ds) all ne = all.0

  pub rows_here : (m : ℕ) (ds : List (Downlink S)) → OnLevel x m (entry_page ds) → Each (OnLevel x m) (map row_page (level_below x ds))
  rows_here m ds here = subst (Each (OnLevel x m)) (sym (rows_pages x (lead_to ds) false None (chain_of x (entry_page ds)))) (chain_here m (entry_page ds) here)

  -- one level down
  step_here :
      (m : ℕ) (ds : List (Downlink S)) → OnLevel x (suc m) (entry_page ds)
      → OnLevel x m (entry_page (flat_map (row_downlinks x) (level_below x ds)))
  step_here m ds here =
      entry_here m (flat_map (row_downlinks x) (level_below x ds)) (downlinks_here m (level_below x ds) (rows_here (suc m) ds here))
      (some_down m (entry_page ds) (lead_to ds) (names_entry ds here.0.not_meta) here false None (chain_of x (entry_page ds)) (entry_in_chain (suc m) (entry_page ds) here))

  -- the entry page of the level n levels below the top, and m above the leaves
  pub entry_is : IsInUse x x.root × ((x.page x.root).level ≡ x.level) → (n m : ℕ) → m + n ≡ x.level → OnLevel x m (entry_at x n)
  entry_is root zero m is = (root.0, root.1 ∙ (sym is ∙ add-zero m))
  entry_is root (suc n) m is = step_here m (downlinks x n) (entry_is root n (suc m) (omega arith))
