-- A list of which only the first members are stored.
use Rattle.std.specs.Prelude.{ℕ, ◌≡◌, ◌≤◌, ◌⊎◌, List, [], length, take}

-- the first thousand members, or all where there are fewer
unfoldable pub first_part : {T : Type 0} → List T → List T
first_part all = take 1000 all

-- what is stored of a list: its first part, the count of all, and, once there is a member, room for a whole first part
pub record IsStored {T : Type 0} (first : List T) (capacity count : ℕ) (all : List T) : Type 0 where
  pub first_is : first ≡ first_part all
  pub count_is : count ≡ length all
  pub room : (all ≡ []) ⊎ (1000 ≤ capacity)
