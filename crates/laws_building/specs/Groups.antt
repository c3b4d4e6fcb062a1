-- Entries put into items: a run of entries of one key is cut, from its front, into items of as many entries as they may
-- have.
use Rattle.std.specs.Prelude.{◌≡◌, ◌<◌, ◌≤◌, ⊤, ℕ, zero, suc, Bool, true, cond, nat_le, List, [], ◌∷◌, ◌++◌, length}
use Rattle.std.specs.Prelude.{take, drop, min}
use Rattle.std.specs.List.{All}
use Rattle.laws_building.specs.Cuts.{joined, IsCut}

-- What an item may have.
pub record Grouping (E : Type 0) : Type 0 where
  -- the entries have equal keys
  pub same_key : E → E → Bool
  -- an item's bytes, and how many it may have
  pub bytes : List E → ℕ
  pub most_bytes : ℕ
  -- how many entries it may have beyond its first
  pub most_more : ℕ

-- how many of the entries in front have the key of e
abbrev pub run_length : {E : Type 0} → (E → E → Bool) → E → List E → ℕ
run_length same e [] = zero
run_length same e (d ∷ ds) = cond (same e d) (suc (run_length same e ds)) zero

-- the greatest number up to n that passes, 0 if none from 1 on does
abbrev pub greatest : (ℕ → Bool) → ℕ → ℕ
greatest test zero = zero
greatest test (suc n) = cond (test (suc n)) (suc n) (greatest test n)

-- the item of e and n more
abbrev pub may_have : {E : Type 0} → Grouping E → E → List E → ℕ → Bool
may_have g e es n = nat_le (g.bytes (e ∷ take n es)) g.most_bytes

-- how many entries the item of e takes of those after it
abbrev pub more_of : {E : Type 0} → Grouping E → E → List E → ℕ
more_of g e es = greatest (may_have g e es) (min g.most_more (run_length g.same_key e es))

-- the items of at most n entries
abbrev pub group_up_to : {E : Type 0} → Grouping E → ℕ → List E → List (List E)
group_up_to g zero es = []
group_up_to g (suc n) [] = []
group_up_to g (suc n) (e ∷ es) = (e ∷ take (more_of g e es) es) ∷ group_up_to g n (drop (more_of g e es) es)

abbrev pub grouped : {E : Type 0} → Grouping E → List E → List (List E)
grouped g es = group_up_to g (length es) es

-- an item and the entries after it: it has one key, no more than it may have, and no greater number would do
pub record IsGreatest {E : Type 0} (g : Grouping E) (e : E) (more : List E) (later : List E) : Type 0 where
  pub one_key : All (λ d. g.same_key e d ≡ true) more
  pub not_many : length more ≤ g.most_more
  pub small : 0 < length more → g.bytes (e ∷ more) ≤ g.most_bytes
  pub greatest : (n : ℕ)
      → length more < n → n ≤ g.most_more → n ≤ run_length g.same_key e (more ++ later)
      → g.most_bytes < g.bytes (e ∷ take n (more ++ later))

abbrev pub AllGreatest : {E : Type 0} → Grouping E → (items : List (List E)) → Type 0
AllGreatest g [] = ⊤
AllGreatest g ([] ∷ items) = ⊥
AllGreatest g ((e ∷ more) ∷ items) = IsGreatest g e more (joined items) × AllGreatest g items

-- the entries are cut into the greatest items
pub record IsGrouped {E : Type 0} (g : Grouping E) (es : List E) (items : List (List E)) : Type 0 where
  pub cut : IsCut es items
  pub great : AllGreatest g items
