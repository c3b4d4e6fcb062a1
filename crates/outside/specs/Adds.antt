-- What a call adds at the ends of lists, when it may give up.
use Rattle.std.specs.Prelude.{◌≡◌, ℕ, zero, suc, List, [], ◌++◌, Result, Ok, Err}
use Rattle.std.proofs.Common.{refl, append-nil, append_assoc}

-- records of lists, as a report's: the empty one, and one after another, list by list
pub record Joins (L : Type 0) : Type 0 where
  pub none : L
  pub join : L → L → L
  pub with_none : (a : L) → join a none ≡ a
  pub none_with : (a : L) → join none a ≡ a
  pub in_turn : (a b c : L) → join (join a b) c ≡ join a (join b c)

-- a first part of what is owed was added, and this is what is left of it
pub record Leaves {L : Type 0} (lists : Joins L) (old new owed left : L) : Type 0 where
  pub part : L
  pub added : new ≡ lists.join old part
  pub whole : lists.join part left ≡ owed

-- a first part of what is owed was added, so all that was there is still there
pub record Begins {L : Type 0} (lists : Joins L) (old new owed : L) : Type 0 where
  pub left : L
  pub leaves : Leaves lists old new owed left

-- at Ok all that is owed was added, and after an error a first part of it
abbrev pub AddsIn : {L T E : Type 0} → Joins L → Result T E → L → L → L → Type 0
AddsIn lists (Ok _) old new owed = new ≡ lists.join old owed
AddsIn lists (Err _) old new owed = Begins lists old new owed

-- a lone list
abbrev pub one_list : {X : Type 0} → Joins (List X)
one_list = record {
  none = [];
  join = λ xs ys. xs ++ ys;
  with_none = append-nil;
  none_with = λ xs. refl;
  in_turn = append_assoc;
}

-- what the places 0, .., n - 1 give, in their order
unfoldable pub each_below : {L : Type 0} → Joins L → (ℕ → L) → ℕ → L
each_below lists f zero = lists.none
each_below lists f (suc n) = lists.join (each_below lists f n) (f n)
