-- Loops along links: what a walk has found so far, against the whole walk.
use Rattle.std.proofs.Common.{◌≡◌, ◌≢◌, ℕ, zero, suc, ◌+◌, ◌-◌, ◌<◌, Bool, true, false, List, [], ◌∷◌, ◌++◌, cond}
use Rattle.std.proofs.Common.{refl, sym, ap, ◌∙◌, subst, arith}
use Rattle.std.specs.Prelude.{Option, ◌==◌, ◌&&◌, ◌||◌, fold}
use Rattle.std.proofs.lemmas.Bool.{eq-eqb, ne_eqb}
use Rattle.std.proofs.Math.Bool.{or_assoc}
use Rattle.laws_search.specs.Search.{last_or}
use Rattle.laws_search.specs.Tree.{Index, linked_from}
use Rattle.laws_search.proofs.Lists.{Each}
use Rattle.std.specs.List.{list_any}
use Rattle.laws_search.specs.Levels.{Row, row_page, row_role, Downlink, page_downlinks}
use Rattle.laws_levels.specs.Tests.{is_dead}
use Rattle.laws_levels.specs.Links.{Leads, walks_to}
use Rattle.laws_levels.specs.Walk.{with_blocks}
use Rattle.laws_levels.specs.Cursor.{downlinks_along, with_dead}

-- what the rest of the walk finds is what the whole finds
pub record LeftWalk (f : ℕ → ℕ) (e n i b next : ℕ) : Type 0 where
  pub circle : walks_to f e n (f e) ≡ walks_to f e (n - i) next
  pub first : last_or e (linked_from f n (f e)) ≡ last_or b (linked_from f (n - i) next)

walks_to_zero : (f : ℕ → ℕ) (e k : ℕ) → walks_to f e k 0 ≡ false
walks_to_zero f e zero = refl
walks_to_zero f e (suc k) = refl

pub linked_zero : (f : ℕ → ℕ) (k : ℕ) → linked_from f k 0 ≡ []
linked_zero f zero = refl
linked_zero f (suc k) = refl

walks_to_step : (f : ℕ → ℕ) (e k b : ℕ) → b ≢ 0 → b ≢ e → walks_to f e (suc k) b ≡ walks_to f e k (f b)
walks_to_step f e k zero ne other = absurd (ne refl)
walks_to_step f e k (suc b) ne other = ap (λ (z : Bool). z || walks_to f e k (f (suc b))) (ne_eqb (suc b) e other)

pub linked_step : (f : ℕ → ℕ) (k b : ℕ) → b ≢ 0 → linked_from f (suc k) b ≡ b ∷ linked_from f k (f b)
linked_step f k zero ne = absurd (ne refl)
linked_step f k (suc b) ne = refl

pub left_start : (f : ℕ → ℕ) (e n : ℕ) → LeftWalk f e n 0 e (f e)
left_start f e n =
    let z : n ≡ n - 0 = omega arith in
    record { circle = ap (λ k. walks_to f e k (f e)) z; first = ap (λ k. last_or e (linked_from f k (f e))) z }

pub left_step :
    (f : ℕ → ℕ) (e n i b next : ℕ) → i < n → next ≢ 0 → next ≢ e → LeftWalk f e n i b next
    → LeftWalk f e n (i + 1) next (f next)
left_step f e n i b next lt ne other w =
    let k : n - i ≡ suc (n - (i + 1)) = omega arith in
    record {
      circle = w.circle ∙ (ap (λ m. walks_to f e m next) k ∙ walks_to_step f e (n - (i + 1)) next ne other);
      first = w.first ∙ (ap (λ m. last_or b (linked_from f m next)) k ∙ ap (last_or b) (linked_step f (n - (i + 1)) next ne));
    }

pub left_end :
    (f : ℕ → ℕ) (e n i b next : ℕ) → next ≡ 0 → LeftWalk f e n i b next
    → (walks_to f e n (f e) ≡ false) × (b ≡ last_or e (linked_from f n (f e)))
left_end f e n i b next z w = (
  w.circle ∙ (ap (walks_to f e (n - i)) z ∙ walks_to_zero f e (n - i)),
  sym (w.first ∙ ap (last_or b) (ap (linked_from f (n - i)) z ∙ linked_zero f (n - i))),
)

pub left_circle : (f : ℕ → ℕ) (e n i b next : ℕ) → i < n → next ≢ 0 → next ≡ e → LeftWalk f e n i b next → walks_to f e n (f e) ≡ true
left_circle f e n i b zero lt ne is w = absurd (ne refl)
left_circle f e n i b (suc next) lt ne is w =
    let k : n - i ≡ suc (n - (i + 1)) = omega arith in
    w.circle ∙ (ap (λ m. walks_to f e m (suc next)) k ∙ ap (λ (z : Bool). z || walks_to f e (n - (i + 1)) (f (suc next))) (eq-eqb (suc next) e is))

pub left_all :
    (f : ℕ → ℕ) (e n b next : ℕ) → LeftWalk f e n n b next
    → (walks_to f e n (f e) ≡ false) × (b ≡ last_or e (linked_from f n (f e)))
left_all f e n b next w =
    let z : n - n ≡ 0 = omega arith in
    (w.circle ∙ ap (λ m. walks_to f e m next) z, sym (w.first ∙ ap (λ m. last_or b (linked_from f m next)) z))

-- A fold along the links from `first` on has come to b with w, after i of at most n pages.
pub record FoldWalk {W : Type 0} (f : ℕ → ℕ) (g : W → ℕ → W) (whole : W) (n i b : ℕ) (w : W) : Type 0 where
  pub rest : fold g w (linked_from f (n - i) b) ≡ whole

pub fold_start :
    {W : Type 0} (f : ℕ → ℕ) (g : W → ℕ → W) (n first : ℕ) (w : W)
    → FoldWalk f g (fold g w (linked_from f n first)) n 0 first w
fold_start f g n first w = let z : n - 0 ≡ n = omega arith in record { rest = ap (λ k. fold g w (linked_from f k first)) z }

pub fold_step :
    {W : Type 0} (f : ℕ → ℕ) (g : W → ℕ → W) (whole : W) (n i b : ℕ) (w : W) → i < n → b ≢ 0
    → FoldWalk f g whole n i b w → FoldWalk f g whole n (i + 1) (f b) (g w b)
fold_step f g whole n i b w lt ne h =
    let k : suc (n - (i + 1)) ≡ n - i = omega arith in
    record { rest = sym (ap (fold g w) (linked_step f (n - (i + 1)) b ne)) ∙ (ap (λ m. fold g w (linked_from f m b)) k ∙ h.rest) }

-- it is done where the links end
pub fold_end : {W : Type 0} (f : ℕ → ℕ) (g : W → ℕ → W) (whole : W) (n i b : ℕ) (w : W) → b ≡ 0 → FoldWalk f g whole n i b w → w ≡ whole
fold_end f g whole n i b w z h = sym (ap (fold g w) (ap (linked_from f (n - i)) z ∙ linked_zero f (n - i))) ∙ h.rest

-- or where all pages have been counted
pub fold_all : {W : Type 0} (f : ℕ → ℕ) (g : W → ℕ → W) (whole : W) (n b : ℕ) (w : W) → FoldWalk f g whole n n b w → w ≡ whole
fold_all f g whole n b w h =
    let z : 0 ≡ n - n = omega arith in
    ap (λ k. fold g w (linked_from f k b)) z ∙ h.rest

-- What is known of each page of an open chain, as far as it isn't read yet.
pub record Ahead (f : ℕ → ℕ) (Ok : ℕ → Type 0) (n i b : ℕ) : Type 0 where
  pub leads : Leads f b (linked_from f (n - i) b)
  pub each : Each Ok (linked_from f (n - i) b)

pub ahead_start :
    (f : ℕ → ℕ) (Ok : ℕ → Type 0) (n first : ℕ) → Leads f first (linked_from f n first)
    → Each Ok (linked_from f n first) → Ahead f Ok n 0 first
ahead_start f Ok n first leads each =
    let z : n ≡ n - 0 = omega arith in
    record { leads = subst (λ k. Leads f first (linked_from f k first)) z leads; each = subst (λ k. Each Ok (linked_from f k first)) z each }

-- the page before which one stands is good, and isn't one too many
pub ahead_here : (f : ℕ → ℕ) (Ok : ℕ → Type 0) (n i b : ℕ) → b ≢ 0 → Ahead f Ok n i b → (i < n) × Ok b
ahead_here f Ok n i b ne h = go (n - i) refl h.leads h.each
  where
    go : (k : ℕ) → n - i ≡ k → Leads f b (linked_from f k b) → Each Ok (linked_from f k b) → (i < n) × Ok b
    go zero is leads each = absurd (ne leads)
    go (suc k) is leads each = (omega arith, (subst (Each Ok) (linked_step f k b ne) each).0)

pub ahead_step : (f : ℕ → ℕ) (Ok : ℕ → Type 0) (n i b : ℕ) → i < n → b ≢ 0 → Ahead f Ok n i b → Ahead f Ok n (i + 1) (f b)
ahead_step f Ok n i b lt ne h =
    let k : n - i ≡ suc (n - (i + 1)) = omega arith in
    let is : linked_from f (n - i) b ≡ b ∷ linked_from f (n - (i + 1)) (f b) = ap (λ m. linked_from f m b) k ∙ linked_step f (n - (i + 1)) b ne in
    record { leads = (subst (Leads f b) is h.leads).2; each = (subst (Each Ok) is h.each).1 }

-- a set with the first row's page added, if that is dead
pub with_dead_step :
    {S : Type 0} (dead : ℕ → Bool) (r : Row S) (rs : List (Row S)) (q : ℕ)
    → with_dead dead (r ∷ rs) q ≡ with_dead (λ z. dead z || ((row_page r == z) && is_dead (row_role r))) rs q
with_dead_step dead r rs q = sym (or_assoc (dead q) ((row_page r == q) && is_dead (row_role r)) (list_any (λ r. (row_page r == q) && is_dead (row_role r)) rs))

-- a set with the first block added
pub with_blocks_step :
    (blocks : ℕ → Bool) (b : ℕ) (c : List ℕ) (q : ℕ)
    → with_blocks blocks (b ∷ c) q ≡ with_blocks (λ z. blocks z || (b == z)) c q
with_blocks_step blocks b c q = sym (or_assoc (blocks q) (b == q) (list_any (λ d. d == q) c))

-- sets that say the same of the pages of a chain give the same downlinks
pub along_same :
    {S E : Type 0} (x : Index S E) (dead other : ℕ → Bool) (c : List ℕ) (lower : Option S)
    → Each (λ b. dead b ≡ other b) c → downlinks_along x dead c lower ≡ downlinks_along x other c lower
along_same x dead other [] lower h = refl
along_same {S} x dead other (b ∷ c) lower h =
    let p = x.page b in
    let stay : List (Downlink S) = downlinks_along x dead c lower in
    let go : List (Downlink S) = page_downlinks lower p.children ++ downlinks_along x dead c p.high_key in
    ap (λ (t : Bool). cond t stay go) h.0
    ∙ (ap (λ (z : List (Downlink S)). cond (other b) z go) (along_same x dead other c lower h.1)
    ∙ ap (λ (z : List (Downlink S)). cond (other b) (downlinks_along x other c lower) (page_downlinks lower p.children ++ z)) (along_same x dead other c p.high_key h.1))
