-- Pieces of a page.
use Rattle.std.proofs.Common.{◌≡◌, ℕ, zero, suc, ◌+◌, ◌-◌, ◌≤◌, List, [], ◌∷◌, ◌++◌, length, drop, take, refl, ap, sym, ◌∙◌, arith}
use Rattle.std.proofs.lemmas.List.{drop-take, length-drop, length-take, length-take-le}

drop-nil : (n : ℕ) → ◌≡◌ {A = List ℕ} (drop n []) []
drop-nil zero = refl
drop-nil (suc n) = refl

-- dropped twice
pub drop-drop : (n m : ℕ) (xs : List ℕ) → drop n (drop m xs) ≡ drop (m + n) xs
drop-drop n zero xs = let same : n ≡ 0 + n = omega arith in ap (λ (k : ℕ). drop k xs) same
drop-drop n (suc m) [] = drop-nil n ∙ sym (drop-nil (suc m + n))
drop-drop n (suc m) (x ∷ xs) = let same : suc (m + n) ≡ suc m + n = omega arith in drop-drop n m xs ∙ ap (λ (k : ℕ). drop k (x ∷ xs)) same

take-nil : (n : ℕ) → ◌≡◌ {A = List ℕ} (take n []) []
take-nil zero = refl
take-nil (suc n) = refl

-- taken twice
take_twice : (n m : ℕ) (xs : List ℕ) → take n (take (n + m) xs) ≡ take n xs
take_twice zero m xs = refl
take_twice (suc n) m [] = ap (take (suc n)) (take-nil (suc n + m))
take_twice (suc n) m (x ∷ xs) =
    let same : suc n + m ≡ suc (n + m) = omega arith in
    ap (λ (k : ℕ). take (suc n) (take k (x ∷ xs))) same ∙ ap (λ (ys : List ℕ). x ∷ ys) (take_twice n m xs)

-- a piece of a piece
pub piece_in_piece : (start len at n : ℕ) (page : List ℕ) → at + n ≤ len → take n (drop at (take len (drop start page))) ≡ take n (drop (start + at) page)
piece_in_piece start len at n page le =
    ap (λ (k : ℕ). take n (drop at (take k (drop start page)))) whole
    ∙ ap (take n) (drop-take at (n + (len - (at + n))) (drop start page))
    ∙ take_twice n (len - (at + n)) (drop at (drop start page))
    ∙ ap (take n) (drop-drop at start page)
  where
    whole : len ≡ at + (n + (len - (at + n)))
    whole = omega (arith, le)

-- the end of an item is a piece of the page
pub end_of_item : (off len : ℕ) (page tuple body : List ℕ) → tuple ≡ take len (drop off page) → length tuple ≡ len → length body ≤ length tuple → body ≡ drop (length tuple - length body) tuple → take (length body) (drop (off + (length tuple - length body)) page) ≡ body
end_of_item off len page tuple body is long le end =
    let n = length tuple - length body in
    let m = length body in
    let parts : len ≡ (length tuple - length body) + length body = omega (arith, long, le) in
    sym (
    end
    ∙ ap (drop n) is
    ∙ ap (λ (k : ℕ). drop n (take k (drop off page))) parts
    ∙ drop-take n m (drop off page)
    ∙ ap (take m) (drop-drop n off page)
    )

-- an item of some bytes ends on the page
pub item_inside : (off len : ℕ) (page tuple : List ℕ) → length page ≡ 8192 → tuple ≡ take len (drop off page) → length tuple ≡ len → 24 ≤ length tuple → off + length tuple ≤ 8192
item_inside off len page tuple whole is long some =
    let rest : length (drop off page) ≡ length page - off = length-drop off page in
    let taken = ap length is ∙ length-take len (drop off page) in
    omega (arith, taken, rest, whole, long, some)

-- a piece of a body that has a length has it
pub piece_length : (len at n : ℕ) (body : List ℕ) → length body ≡ len → at + n ≤ len → length (take n (drop at body)) ≡ n
piece_length len at n body long le =
    let rest : length (drop at body) ≡ length body - at = length-drop at body in
    length-take-le n (drop at body) (omega (arith, rest, long, le))

-- bytes that were joined stay where they are when more are
pub piece_grown : (start n : ℕ) (xs more : List ℕ) → start + n ≤ length xs → take n (drop start (xs ++ more)) ≡ take n (drop start xs)
piece_grown zero zero xs more le = refl
piece_grown zero (suc n) (x ∷ xs) more le = ap (λ (ys : List ℕ). x ∷ ys) (piece_grown zero n xs more (omega (arith, le)))
piece_grown zero (suc n) [] more le = absurd (omega (arith, le))
piece_grown (suc start) n (x ∷ xs) more le = piece_grown start n xs more (omega (arith, le))
piece_grown (suc start) zero [] more le = refl
piece_grown (suc start) (suc n) [] more le = absurd (omega (arith, le))
