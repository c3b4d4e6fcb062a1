-- Each test decides its rule.
use Rattle.std.proofs.Common.{◌≡◌, ◌≢◌, ℕ, zero, suc, ◌-◌, ◌<◌, ◌≤◌, inl, inr, Bool, true, false, not, ◌&&◌, ◌||◌}
use Rattle.std.proofs.Common.{List, [], ◌∷◌, map, refl, sym, ap, ◌∙◌, subst, arith, add-one}
use Rattle.std.specs.Prelude.{⊤, Option, Some, None, ◌==◌, nat_le, slice_get}
use Rattle.std.specs.Bool.{Decides}
use Rattle.std.specs.List.{filter, list_any, Any, Contains}
use Rattle.std.proofs.lemmas.Bool.{cases_Bool, and_parts, and_from, or_cases, not-true, not_from_false, leb-false}
use Rattle.std.proofs.lemmas.Bool.{lt-leb, eq-eqb, eqb-true, both_ways, false≢true, cases_eq, or_left, or_right}
use Rattle.std.proofs.lemmas.Bool.Decides.{Decides-eqb, Decides-not, Decides-and, Decides-or, Decides-below_or}
use Rattle.std.proofs.lemmas.List.Folds.{Any-from_list_any, list_any-from_Any}
use Rattle.laws_search.specs.Order.{Order}
use Rattle.laws_search.specs.Tree.{Index, Page, chain_of, after_links, linked_from}
use Rattle.laws_search.specs.Levels.{Role, Dead, Linked, Right_half, Neither, is_live, Row, row_page, row_role}
use Rattle.laws_search.specs.Levels.{row_lower, Downlink, lead_to, entry_page, downlinks, level_rows}
use Rattle.laws_search.specs.Searchable.{IsInUse, IsSoundPage, EntryAbove}
use Rattle.laws_search.proofs.Chains.{Follows, OnLevel, walk_or_circle}
use Rattle.laws_levels.specs.Rules.{second_separator, HasLowEntry, HasLowKey, IsCircle, IsLowSeparator, IsMisplaced}
use Rattle.laws_levels.specs.Rules.{IsNotAlone}
use Rattle.laws_levels.specs.Rules.{StandsInChain, entry_at}
use Rattle.laws_levels.specs.Questions.{Circle, Downlinks, FastRoot, IsBroken, LastPage, LiveOrDead, LowerBound}
use Rattle.laws_levels.specs.Questions.{Question, Roots, Separator, Unreached}
use Rattle.laws_levels.specs.Tests.{comes_back, has_low_key, is_broken, is_dead, is_linked, is_low_entry}
use Rattle.laws_levels.specs.Tests.{is_low_separator, is_misplaced, is_neither, is_not_alone, is_right_half}
use Rattle.laws_levels.specs.Tests.{same_bound, same_numbers, stands_within}
use Rattle.laws_levels.specs.Sound.{IsSame}
use Rattle.laws_levels.proofs.Find.{some_eq}

itself : (b : Bool) → Decides b (b ≡ true)
itself b = (λ h. h, λ h. h)

pub any_decides :
    {X : Type 0} (p : X → Bool) (P : X → Type 0) → ((x : X) → Decides (p x) (P x)) → (xs : List X)
    → Decides (list_any p xs) (Any P xs)
any_decides p P each xs = (
  λ h. let a = Any-from_list_any p xs h in (a.0, a.1, a.2, a.3, (each a.1).0 a.4),
  λ a. list_any-from_Any p xs (a.0, a.1, a.2, a.3, (each a.1).1 a.4),
)

pub contains_test : (xs : List ℕ) (b : ℕ) → Decides (list_any (λ c. c == b) xs) (Contains xs b)
contains_test xs b = (
  λ h. let a = Any-from_list_any (λ c. c == b) xs h in subst (λ z. Contains xs z) (eqb-true a.1 b a.4) (a.0, a.2, a.3),
  λ a. list_any-from_Any (λ c. c == b) xs (a.0, b, a.1, a.2, eq-eqb b b refl),
)

pub same_numbers_decides : (xs ys : List ℕ) → Decides (same_numbers xs ys) (xs ≡ ys)
same_numbers_decides [] [] = (λ h. refl, λ h. refl)
same_numbers_decides [] (y ∷ ys) = (λ h. absurd (false≢true h), λ h. absurd cc)
same_numbers_decides (x ∷ xs) [] = (λ h. absurd (false≢true h), λ h. absurd cc)
same_numbers_decides (x ∷ xs) (y ∷ ys) =
    let ih = same_numbers_decides xs ys in (
      λ h. let p = and_parts (x == y) (same_numbers xs ys) h in let e = eqb-true x y p.0 in let f = ih.0 p.1 in cc,
      λ h. let e : x ≡ y = cc in let f : xs ≡ ys = cc in and_from (x == y) (same_numbers xs ys) (eq-eqb x y e) (ih.1 f),
    )

pub same_bound_decides : {S : Type 0} (same : S → S → Bool) → IsSame same → (a b : Option S) → Decides (same_bound same a b) (a ≡ b)
same_bound_decides same law None None = (λ h. refl, λ h. refl)
same_bound_decides same law None (Some t) = (λ h. absurd (false≢true h), λ h. absurd cc)
same_bound_decides same law (Some s) None = (λ h. absurd (false≢true h), λ h. absurd cc)
same_bound_decides same law (Some s) (Some t) = (λ h. ap (λ z. Some z) ((law s t).0 h), λ h. (law s t).1 (some_eq s t h))

pub linked_decides : (r : Role) → Decides (is_linked r) (r ≡ Linked)
linked_decides Dead = (λ h. absurd (false≢true h), λ h. absurd cc)
linked_decides Linked = (λ h. refl, λ h. refl)
linked_decides Right_half = (λ h. absurd (false≢true h), λ h. absurd cc)
linked_decides Neither = (λ h. absurd (false≢true h), λ h. absurd cc)

pub dead_decides : (r : Role) → Decides (is_dead r) (r ≡ Dead)
dead_decides Dead = (λ h. refl, λ h. refl)
dead_decides Linked = (λ h. absurd (false≢true h), λ h. absurd cc)
dead_decides Right_half = (λ h. absurd (false≢true h), λ h. absurd cc)
dead_decides Neither = (λ h. absurd (false≢true h), λ h. absurd cc)

pub half_decides : (r : Role) → Decides (is_right_half r) (r ≡ Right_half)
half_decides Dead = (λ h. absurd (false≢true h), λ h. absurd cc)
half_decides Linked = (λ h. absurd (false≢true h), λ h. absurd cc)
half_decides Right_half = (λ h. refl, λ h. refl)
half_decides Neither = (λ h. absurd (false≢true h), λ h. absurd cc)

pub neither_decides : (r : Role) → Decides (is_neither r) (r ≡ Neither)
neither_decides Dead = (λ h. absurd (false≢true h), λ h. absurd cc)
neither_decides Linked = (λ h. absurd (false≢true h), λ h. absurd cc)
neither_decides Right_half = (λ h. absurd (false≢true h), λ h. absurd cc)
neither_decides Neither = (λ h. refl, λ h. refl)

misplaced_decides : {S E : Type 0} (x : Index S E) (b level : ℕ) → Decides (is_misplaced x b level) (IsMisplaced x b level)
misplaced_decides x b level = Decides-or (x.page b).idle (not ((x.page b).level == level)) (itself (x.page b).idle) (Decides-not ((x.page b).level == level) (Decides-eqb (x.page b).level level))

below_decides : (a b : ℕ) → Decides (not (nat_le a b)) (b < a)
below_decides a b = (λ h. leb-false a b (not-true (nat_le a b) h), λ h. not_from_false (nat_le a b) (lt-leb a b h))

key_decides : {S E : Type 0} (o : Order S E) (lower key : Option S) → Decides (is_low_separator o lower key) (IsLowSeparator o lower key)
key_decides o None key = (λ h. absurd (false≢true h), λ h. absurd (h.2 tt))
key_decides o (Some s) None = (λ h. absurd (false≢true h), λ h. absurd (let e = h.1 in cc))
key_decides o (Some s) (Some t) = (
  λ h. (t, refl, λ k. both_ways (o.under s t) (not-true (o.under s t) h) k),
  λ h. elim (cases_Bool (o.under s t)) [
    | inl k ↦ absurd (h.2 (subst (λ z. o.under s z ≡ true) (some_eq t h.0 h.1) k))
    | inr k ↦ not_from_false (o.under s t) k
  ],
)

entry_decides :
    {S E : Type 0} (o : Order S E) (lower : Option S) (entry : Option E)
    → Decides (is_low_entry o lower entry) ((e : E) × (entry ≡ Some e) × ¬ EntryAbove o lower e)
entry_decides o None entry = (λ h. absurd (false≢true h), λ h. absurd (h.2 tt))
entry_decides o (Some s) None = (λ h. absurd (false≢true h), λ h. absurd (let e = h.1 in cc))
entry_decides o (Some s) (Some e) = (
  λ h. (e, refl, λ k. both_ways (o.within e s) k h),
  λ h. elim (cases_Bool (o.within e s)) [
    | inl k ↦ k
    | inr k ↦ absurd (h.2 (subst (λ z. o.within z s ≡ false) (some_eq e h.0 h.1) k))
  ],
)

not_itself : (b : Bool) → Decides (not b) (b ≡ false)
not_itself b = (λ h. not-true b h, λ h. not_from_false b h)

low_decides : {S E : Type 0} (o : Order S E) (x : Index S E) (r : Row S) → Decides (has_low_key o x r) (HasLowKey o x r)
low_decides {S} {E} o x r =
    let p : Page S E = x.page (row_page r) in
    let lo : Option S = row_lower r in
    let item : Option S = second_separator p.children in
    let e = entry_decides o lo (slice_get p.entries 0) in
    let entry : Decides (p.leaf && is_low_entry o lo (slice_get p.entries 0)) (HasLowEntry o lo p) = (
      λ h. let q = and_parts p.leaf (is_low_entry o lo (slice_get p.entries 0)) h in let f = e.0 q.1 in (q.0, f.0, f.1, f.2),
      λ h. and_from p.leaf (is_low_entry o lo (slice_get p.entries 0)) h.0 (e.1 (h.1, h.2, h.3)),
    ) in
    Decides-and (is_live (row_role r)) (is_low_separator o lo p.high_key || (p.leaf && is_low_entry o lo (slice_get p.entries 0) || not p.leaf && is_low_separator o lo item)) (itself (is_live (row_role r)))
    (Decides-or (is_low_separator o lo p.high_key) (p.leaf && is_low_entry o lo (slice_get p.entries 0) || not p.leaf && is_low_separator o lo item) (key_decides o lo p.high_key)
    (Decides-or (p.leaf && is_low_entry o lo (slice_get p.entries 0)) (not p.leaf && is_low_separator o lo item) entry (Decides-and (not p.leaf) (is_low_separator o lo item) (not_itself p.leaf) (key_decides o lo item))))

not_alone_decides : {S : Type 0} (fast : ℕ) (rs : List (Row S)) → Decides (is_not_alone fast rs) (IsNotAlone fast rs)
not_alone_decides fast [] = (λ h. tt, λ h. refl)
not_alone_decides fast (r ∷ rs) =
    Decides-or (not (row_page r == fast)) (list_any (λ r. not (is_right_half (row_role r))) rs) (Decides-not (row_page r == fast) (Decides-eqb (row_page r) fast))
    (any_decides (λ r. not (is_right_half (row_role r))) (λ r. row_role r ≢ Right_half) (λ r. Decides-not (is_right_half (row_role r)) (half_decides (row_role r))) rs)

stands_decides :
    {S E : Type 0} (x : Index S E) (b m : ℕ)
    → Decides (stands_within x b m) ((n : ℕ) × (n ≤ m) × Contains (chain_of x (entry_at x n)) b)
stands_decides x b zero =
    let here = contains_test (chain_of x (entry_at x zero)) b in (
      λ h. (zero, omega arith, here.0 h),
      λ h. let le = h.1 in let z : h.0 ≡ zero = omega arith in here.1 (subst (λ n. Contains (chain_of x (entry_at x n)) b) z h.2),
    )
stands_decides x b (suc m) =
    let here = contains_test (chain_of x (entry_at x (suc m))) b in
    let ih = stands_decides x b m in (
      λ h. elim (or_cases (list_any (λ c. c == b) (chain_of x (entry_at x (suc m)))) (stands_within x b m) h) [
        | inl k ↦ (suc m, omega arith, here.0 k)
        | inr k ↦ let r = ih.0 k in let le = r.1 in (r.0, omega arith, r.2)
      ],
      λ h. go h.0 h.1 h.2 here.1 ih.1,
    )
  where
    go :
        (n : ℕ) → n ≤ suc m → Contains (chain_of x (entry_at x n)) b
        → (Contains (chain_of x (entry_at x (suc m))) b → list_any (λ c. c == b) (chain_of x (entry_at x (suc m))) ≡ true)
        → ((n : ℕ) × (n ≤ m) × Contains (chain_of x (entry_at x n)) b → stands_within x b m ≡ true)
        → (list_any (λ c. c == b) (chain_of x (entry_at x (suc m))) || stands_within x b m) ≡ true
    go n le c here ih = elim (cases_eq n (suc m)) [
      | inl e ↦ or_left _ _ (here (subst (λ n. Contains (chain_of x (entry_at x n)) b) e c))
      | inr ne ↦ or_right _ _ (ih (n, omega arith, c))
    ]

pub after_zero : (f : ℕ → ℕ) (k : ℕ) → after_links f k 0 ≡ 0
after_zero f zero = refl
after_zero f (suc k) = refl

pub after_step : (f : ℕ → ℕ) (j b : ℕ) → b ≢ 0 → after_links f (suc j) b ≡ after_links f j (f b)
after_step f j zero ne = absurd (ne refl)
after_step f j (suc b) ne = refl

-- a walk that comes back to where it began doesn't end
pub never_ends :
    (f : ℕ → ℕ) (e k : ℕ) → e ≢ 0 → after_links f (suc k) e ≡ e → (c : List ℕ) (b j : ℕ) → Follows f b c
    → after_links f j b ≡ e → ⊥
never_ends f e k ne back [] b j follows to = ne (sym to ∙ (ap (after_links f j) follows ∙ after_zero f j))
never_ends f e k ne back (q ∷ c) b zero follows to =
    never_ends f e k ne back c (f q) k follows.2 (ap (after_links f k) (ap f (sym follows.0 ∙ to)) ∙ (sym (after_step f k e ne) ∙ back))
never_ends f e k ne back (q ∷ c) b (suc j) follows to =
    never_ends f e k ne back c (f q) j follows.2 (sym (after_step f j q follows.1) ∙ (ap (after_links f (suc j)) (sym follows.0) ∙ to))

-- a chain is a circle exactly where it comes back to the page within as many links as there are blocks
pub circle_decides :
    {S E : Type 0} (o : Order S E) (x : Index S E) → ((b : ℕ) → IsInUse x b → IsSoundPage o x b) → (level e : ℕ)
    → OnLevel x level e → Decides (comes_back (λ b. (x.page b).next) e x.blocks) (IsCircle x e)
circle_decides {S} {E} o x sound level e here =
    let next : ℕ → ℕ = λ b. (x.page b).next in
    let prev : ℕ → ℕ = λ b. (x.page b).prev in
    let Ok : ℕ → Type 0 = OnLevel x level in
    let bound : (b : ℕ) → Ok b → b < x.blocks = λ b ok. ok.0.inside in
    let some : (b : ℕ) → Ok b → b ≢ 0 = λ b ok. ok.0.not_meta in
    let right : (b : ℕ) → Ok b → next b ≢ 0 → Ok (next b) × (prev (next b) ≡ b) = λ b ok h. let r = (sound b ok.0).right_sibling h in ((r.0, r.1 ∙ ok.1), r.2) in
    let within : Decides (comes_back next e x.blocks) ((k : ℕ) × (k < x.blocks) × (after_links next (suc k) e ≡ e)) =
    Decides-below_or (λ k. after_links next (suc k) e == e) (λ k. after_links next (suc k) e ≡ e) (comes_back next e) (λ k. Decides-eqb (after_links next (suc k) e) e) refl (λ _. refl) x.blocks in
    let inside : e < x.blocks = bound e here in (
      λ h. let r = within.0 h in (r.0, subst (λ m. after_links next m e ≡ e) (sym (add-one r.0)) r.2),
      λ h.
          let k : ℕ = h.0 in
          let back : after_links next (suc k) e ≡ e = subst (λ m. after_links next m e ≡ e) (add-one k) h.1 in
          elim (walk_or_circle next prev x.blocks Ok bound some right e x.blocks e [] (next e) tt (here, tt) ((λ h. h), tt) refl (omega arith) refl) [
            | inl ends ↦ absurd (never_ends next e k (some e here) back (linked_from next x.blocks (next e)) (next e) k ends (sym (after_step next k e (some e here)) ∙ back))
            | inr c ↦ within.1 c
          ],
    )

pub StandsInChain_decides :
    {S E : Type 0} (x : Index S E) (b : ℕ)
    → Decides (not (x.root == 0) && stands_within x b x.level) (StandsInChain x b)
StandsInChain_decides x b =
    let s = stands_decides x b x.level in (
      λ h. let p = and_parts (not (x.root == 0)) (stands_within x b x.level) h in let r = s.0 p.1 in ((Decides-not (x.root == 0) (Decides-eqb x.root 0)).0 p.0, r.0, r.1, r.2),
      λ h. and_from (not (x.root == 0)) (stands_within x b x.level) ((Decides-not (x.root == 0) (Decides-eqb x.root 0)).1 h.0) (s.1 (h.1, h.2, h.3)),
    )

-- what the test of a circle needs
abbrev pub Founded : {S E : Type 0} → Index S E → Question S → Type 0
Founded x Roots = ⊤
Founded x (Circle n) = (m : ℕ) × OnLevel x m (entry_at x n)
Founded x (Downlinks n) = ⊤
Founded x (LiveOrDead r) = ⊤
Founded x (Separator n r) = ⊤
Founded x (LowerBound r) = ⊤
Founded x (LastPage r) = ⊤
Founded x FastRoot = ⊤
Founded x (Unreached b) = ⊤

-- each test decides its rule
pub decides :
    {S E : Type 0} (same : S → S → Bool) (o : Order S E) (x : Index S E) → IsSame same
    → ((b : ℕ) → IsInUse x b → IsSoundPage o x b) → (q : Question S) → Founded x q
    → Decides (is_broken same o x q) (IsBroken o x q)
decides same o x law sound Roots f =
    Decides-or (is_misplaced x x.root x.level) (is_misplaced x x.fastroot x.fastlevel || not (nat_le x.fastlevel x.level)) (misplaced_decides x x.root x.level)
    (Decides-or (is_misplaced x x.fastroot x.fastlevel) (not (nat_le x.fastlevel x.level)) (misplaced_decides x x.fastroot x.fastlevel) (below_decides x.fastlevel x.level))
decides same o x law sound (Circle n) f = circle_decides o x sound f.0 (entry_at x n) f.1
decides same o x law sound (Downlinks n) f =
    let ds = downlinks x n in
    let pages : List ℕ = map (λ d. d.1) ds in
    let linked : List ℕ = filter (lead_to ds) (chain_of x (entry_page ds)) in
    Decides-or (not (same_numbers pages linked)) (list_any (λ d. (x.page d.1).half_dead) ds) (Decides-not (same_numbers pages linked) (same_numbers_decides pages linked))
    (any_decides (λ d. (x.page d.1).half_dead) (λ d. (x.page d.1).half_dead ≡ true) (λ d. itself (x.page d.1).half_dead) ds)
decides same o x law sound (LiveOrDead r) f = neither_decides (row_role r)
decides {S} same o x law sound (Separator n r) f =
    let ds = downlinks x n in
    let one : (d : Downlink S) → Decides ((d.1 == row_page r) && not (same_bound same d.0 (row_lower r))) ((d.1 ≡ row_page r) × (d.0 ≢ row_lower r)) =
    λ d. Decides-and (d.1 == row_page r) (not (same_bound same d.0 (row_lower r))) (Decides-eqb d.1 (row_page r)) (Decides-not (same_bound same d.0 (row_lower r)) (same_bound_decides same law d.0 (row_lower r))) in
    Decides-and (is_linked (row_role r)) (list_any (λ d. (d.1 == row_page r) && not (same_bound same d.0 (row_lower r))) ds) (linked_decides (row_role r))
    (any_decides (λ d. (d.1 == row_page r) && not (same_bound same d.0 (row_lower r))) (λ d. (d.1 ≡ row_page r) × (d.0 ≢ row_lower r)) one ds)
decides same o x law sound (LowerBound r) f = low_decides o x r
decides same o x law sound (LastPage r) f = dead_decides (row_role r)
decides same o x law sound FastRoot f = not_alone_decides x.fastroot (level_rows x (x.level - x.fastlevel))
decides same o x law sound (Unreached b) f =
    Decides-and (not (x.page b).idle) (not (not (x.root == 0) && stands_within x b x.level)) (not_itself (x.page b).idle) (Decides-not (not (x.root == 0) && stands_within x b x.level) (StandsInChain_decides x b))
