-- Lists that are put together part by part.
use Rattle.std.proofs.Common.{◌≡◌, ◌+◌, ◌<◌, ℕ, zero, suc, List, [], ◌∷◌, ◌++◌, length, map, take, get_or, refl, ap, sym, ◌∙◌, arith, add-one, ◌/◌, ◌%◌, All}
use Rattle.std.proofs.lemmas.List.Elements.{All-append, All-cons, All-nil}
use Rattle.std.proofs.Math.Seq.{take-suc}
use Rattle.std.proofs.lemmas.List.{length-append, map-append}
use Rattle.outside.specs.Adds.{each_below, one_list}
use Rattle.rel_build.specs.declared.rows.Row.{Row}
use Rattle.rel_build.specs.Rows.{next_number, number_after, row_number, rows_below}

pub parts_none : {X : Type 0} (f : ℕ → List X) → each_below one_list f 0 ≡ []
unfolding each_below
parts_none f = refl

pub parts_next : {X : Type 0} (f : ℕ → List X) (k : ℕ) → each_below one_list f (k + 1) ≡ each_below one_list f k ++ f k
unfolding each_below
parts_next f k = rw add-one refl

-- one more element of a list that is mapped
pub map_next : {X Y : Type 0} (f : X → Y) (xs : List X) (k : ℕ) (d : X) → k < length xs
    → map f (take (k + 1) xs) ≡ map f (take k xs) ++ f (get_or xs k d) ∷ []
map_next f xs k d lt =
    ap (λ n. map f (take n xs)) (add-one k) ∙ ap (map f) (take-suc xs k d lt) ∙ map-append f (take k xs) (get_or xs k d ∷ [])

-- the rows in order
pub rows_none : (seed : ℕ) → rows_below seed 0 ≡ []
unfolding rows_below
rows_none seed = refl

pub number_next : (seed k : ℕ) → number_after seed (k + 1) ≡ next_number (number_after seed k)
unfolding number_after
number_next seed k = rw add-one refl

-- the row of a number
abbrev pub row_is : (k x : ℕ) → Row
row_is k x = record { id = k; group = x / 8589934592 % 100 }

pub row_numbered : (seed k : ℕ) → row_number seed k ≡ row_is k (number_after seed (k + 1))
unfolding row_number
row_numbered seed k = ap (λ (n : ℕ). row_is k (number_after seed n)) (sym (add-one k))

pub rows_next : (seed k : ℕ) → rows_below seed (k + 1) ≡ rows_below seed k ++ row_is k (number_after seed (k + 1)) ∷ []
unfolding rows_below
rows_next seed k = rw add-one (ap (λ (row : Row). rows_below seed k ++ row ∷ []) (row_numbered seed k ∙ ap (λ (n : ℕ). row_is k (number_after seed n)) (add-one k)))

pub groups_small : (seed n : ℕ) → All (λ (row : Row). row.group < 100) (rows_below seed n)
unfolding rows_below row_number
groups_small seed zero = All-nil (λ (row : Row). row.group < 100)
groups_small seed (suc n) =
    All-append (λ (row : Row). row.group < 100) (rows_below seed n) (row_number seed n ∷ []) (groups_small seed n)
    (All-cons (λ (row : Row). row.group < 100) (row_number seed n) [] (omega arith) (All-nil (λ (row : Row). row.group < 100)))

pub length_rows : (seed n : ℕ) → length (rows_below seed n) ≡ n
unfolding rows_below
length_rows seed zero = refl
length_rows seed (suc n) =
    let a = length-append (rows_below seed n) (row_number seed n ∷ []) in
    let b = length_rows seed n in
    omega (arith, a, b)
