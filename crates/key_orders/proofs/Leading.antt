-- The first bytes of two lists as numbers: these stand as the lists do, as far as they go.
use Rattle.std.proofs.Common.{◌≡◌, ℕ, zero, suc, ◌+◌, ◌*◌, ◌^◌, ◌<◌, ◌≤◌, List, [], ◌∷◌, length, take, drop, refl, sym, ap, ◌∙◌, subst, arith}
use Rattle.std.proofs.Common.{Ordering, Less, Equal, Greater, nat_cmp, get_or}
use Rattle.std.specs.Prelude.{◌≢◌}
use Rattle.std.specs.Ordering.{ordering_then, MatchOrdering}
use Rattle.std.specs.Cmp.{ranks, nat_cmp_is}
use Rattle.std.specs.Cmp.Lexicographic.{slice_cmp}
use Rattle.std.specs.Int.{from_be_bytes, w32, w64}
use Rattle.std.proofs.Common.{length-take-le}
use Rattle.std.proofs.Math.Nat.{mul-le-mul_right, pow-suc}
use Rattle.key_orders.specs.Leading.{eight_number}

-- the number that so many first bytes are, the first one highest, with zeros for those that are missing
abbrev pub leading : ℕ → List ℕ → ℕ
leading zero xs = 0
leading (suc n) [] = 0
leading (suc n) (x ∷ xs) = x * 256 ^ n + leading n xs

-- each is a byte
abbrev pub AreBytes : List ℕ → Type 0
AreBytes xs = (k : ℕ) → get_or xs k 0 < 256

-- it is std's number of eight bytes
pub eight_is_leading : (xs : List ℕ) → eight_number xs ≡ leading 8 xs
unfolding eight_number
eight_is_leading [] = refl
eight_is_leading (a ∷ []) = omega arith
eight_is_leading (a ∷ b ∷ []) = omega arith
eight_is_leading (a ∷ b ∷ c ∷ []) = omega arith
eight_is_leading (a ∷ b ∷ c ∷ d ∷ []) = omega arith
eight_is_leading (a ∷ b ∷ c ∷ d ∷ e ∷ []) = omega arith
eight_is_leading (a ∷ b ∷ c ∷ d ∷ e ∷ f ∷ []) = omega arith
eight_is_leading (a ∷ b ∷ c ∷ d ∷ e ∷ f ∷ g ∷ []) = omega arith
eight_is_leading (a ∷ b ∷ c ∷ d ∷ e ∷ f ∷ g ∷ h ∷ xs) = omega arith

-- ---- numbers of two digits, the second below the base

digit_under : (p x l : ℕ) → x < 256 → l < p → x * p + l < p * 256
digit_under p x l hx hl = let most : (x + 1) * p ≤ 256 * p = mul-le-mul_right p (omega arith) in omega arith

-- the first digits decide
digit_decides : (p x y l m : ℕ) → l < p → x < y → x * p + l < y * p + m
digit_decides p x y l m hl lt = let most : (x + 1) * p ≤ y * p = mul-le-mul_right p (omega arith) in omega arith

below_digits : (p x y l m : ℕ) (o rest : Ordering) → MatchOrdering o (x < y) (x ≡ y) (y < x) → m < p → (l < m → rest ≡ Less) → x * p + l < y * p + m
    → ordering_then o rest ≡ Less
below_digits p x y l m Less rest h small later lt = refl
below_digits p x y l m Equal rest h small later lt = later (let same : x * p ≡ y * p = ap (λ z. z * p) h in omega arith)
below_digits p x y l m Greater rest h small later lt = absurd (let other = digit_decides p y x m l small h in omega arith)

-- so numbers are compared by their first digits, and then by the second
pub two_digits : (p x y l m : ℕ) → l < p → m < p → ordering_then (nat_cmp x y) (nat_cmp l m) ≡ nat_cmp (x * p + l) (y * p + m)
two_digits p x y l m left right = go (nat_cmp x y) (ranks x y)
  where
    shifted : (o : Ordering) → x ≡ y → MatchOrdering o (l < m) (l ≡ m) (m < l)
        → MatchOrdering o (x * p + l < y * p + m) (x * p + l ≡ y * p + m) (y * p + m < x * p + l)
    shifted Less e h = let same : x * p ≡ y * p = ap (λ z. z * p) e in omega arith
    shifted Equal e h = let same : x * p ≡ y * p = ap (λ z. z * p) e in omega arith
    shifted Greater e h = let same : x * p ≡ y * p = ap (λ z. z * p) e in omega arith

    go : (o : Ordering) → MatchOrdering o (x < y) (x ≡ y) (y < x) → ordering_then o (nat_cmp l m) ≡ nat_cmp (x * p + l) (y * p + m)
    go Less h = nat_cmp_is (x * p + l) (y * p + m) Less (digit_decides p x y l m left h)
    go Equal h = nat_cmp_is (x * p + l) (y * p + m) (nat_cmp l m) (shifted (nat_cmp l m) h (ranks l m))
    go Greater h = nat_cmp_is (x * p + l) (y * p + m) Greater (digit_decides p y x m l right h)

pub leading_under : (n : ℕ) (xs : List ℕ) → AreBytes xs → leading n xs < 256 ^ n
leading_under zero xs small = omega arith
leading_under (suc n) [] small =
    let rest : leading n [] < 256 ^ n = leading_under n [] small in
    omega (arith, pow-suc 256 n)
leading_under (suc n) (x ∷ xs) small =
    let rest : leading n xs < 256 ^ n = leading_under n xs (λ k. small (suc k)) in
    let first : x < 256 = small 0 in
    omega (arith, digit_under (256 ^ n) x (leading n xs) first rest, pow-suc 256 n)

-- ---- lists by their first bytes

-- a smaller number is that of a lower list
pub below : (n : ℕ) (xs ys : List ℕ) → AreBytes xs → AreBytes ys → leading n xs < leading n ys → slice_cmp nat_cmp xs ys ≡ Less
below zero xs ys left right lt = absurd (omega arith)
below (suc n) [] [] left right lt = absurd (omega arith)
below (suc n) [] (y ∷ ys) left right lt = refl
below (suc n) (x ∷ xs) [] left right lt = absurd (omega arith)
below (suc n) (x ∷ xs) (y ∷ ys) left right lt =
    below_digits (256 ^ n) x y (leading n xs) (leading n ys) (nat_cmp x y) (slice_cmp nat_cmp xs ys) (ranks x y) (leading_under n ys (λ k. right (suc k))) (λ t. below n xs ys (λ k. left (suc k)) (λ k. right (suc k)) t) lt

-- lists of so many bytes stand as their numbers do
pub chunks_stand : (n : ℕ) (xs ys : List ℕ) → length xs ≡ n → length ys ≡ n → AreBytes xs → AreBytes ys
    → slice_cmp nat_cmp xs ys ≡ nat_cmp (leading n xs) (leading n ys)
chunks_stand zero [] [] long also_long left right = refl
chunks_stand zero (x ∷ xs) ys long also_long left right = absurd (omega arith)
chunks_stand zero [] (y ∷ ys) long also_long left right = absurd (omega arith)
chunks_stand (suc n) [] ys long also_long left right = absurd (omega arith)
chunks_stand (suc n) (x ∷ xs) [] long also_long left right = absurd (omega arith)
chunks_stand (suc n) (x ∷ xs) (y ∷ ys) long also_long left right =
    ap (λ o. ordering_then (nat_cmp x y) o) (chunks_stand n xs ys (omega arith) (omega arith) (λ k. left (suc k)) (λ k. right (suc k)))
    ∙ two_digits (256 ^ n) x y (leading n xs) (leading n ys) (leading_under n xs (λ k. left (suc k))) (leading_under n ys (λ k. right (suc k)))

-- lists are compared by first parts that are as long, and then by what comes after these
pub parts_stand : (n : ℕ) (xs ys : List ℕ) → n ≤ length xs → n ≤ length ys
    → slice_cmp nat_cmp xs ys ≡ ordering_then (slice_cmp nat_cmp (take n xs) (take n ys)) (slice_cmp nat_cmp (drop n xs) (drop n ys))
parts_stand zero xs ys long also_long = refl
parts_stand (suc n) [] ys long also_long = absurd (omega arith)
parts_stand (suc n) (x ∷ xs) [] long also_long = absurd (omega arith)
parts_stand (suc n) (x ∷ xs) (y ∷ ys) long also_long =
    ap (λ o. ordering_then (nat_cmp x y) o) (parts_stand n xs ys (omega arith) (omega arith))
    ∙ regrouped (nat_cmp x y) (slice_cmp nat_cmp (take n xs) (take n ys)) (slice_cmp nat_cmp (drop n xs) (drop n ys))
  where
    regrouped : (o p q : Ordering) → ordering_then o (ordering_then p q) ≡ ordering_then (ordering_then o p) q
    regrouped Less p q = refl
    regrouped Equal p q = refl
    regrouped Greater p q = refl

-- ---- eight bytes

-- the number that the first eight of a list are, and what comes after them
pub record IsCut (xs : List ℕ) (number : ℕ) (others : List ℕ) : Type 0 where
  pub long : 8 ≤ length xs
  pub small : AreBytes (take 8 xs)
  pub is : number ≡ eight_number (take 8 xs)
  pub rest : others ≡ drop 8 xs

pub cut_is : (xs first others : List ℕ) (number : ℕ) → first ≡ take 8 xs → others ≡ drop 8 xs → length others + 8 ≡ length xs → AreBytes first
    → number ≡ from_be_bytes w64 first → IsCut xs number others
unfolding eight_number
cut_is xs first others number e f long small is = record {
  long = omega arith;
  small = subst AreBytes e small;
  is = is ∙ ap (from_be_bytes w64) e;
  rest = f;
}

-- by the numbers of the first eight, and where these are the same by the others
eights_stand : (xs ys : List ℕ) (m n : ℕ) (us vs : List ℕ) → IsCut xs m us → IsCut ys n vs
    → slice_cmp nat_cmp xs ys ≡ ordering_then (nat_cmp m n) (slice_cmp nat_cmp us vs)
eights_stand xs ys m n us vs left right =
    let first : slice_cmp nat_cmp (take 8 xs) (take 8 ys) ≡ nat_cmp (leading 8 (take 8 xs)) (leading 8 (take 8 ys)) =
    chunks_stand 8 (take 8 xs) (take 8 ys) (length-take-le 8 xs left.long) (length-take-le 8 ys right.long) left.small right.small in
    parts_stand 8 xs ys left.long right.long
    ∙ rw (first, left.is, right.is, left.rest, right.rest, eight_is_leading (take 8 xs), eight_is_leading (take 8 ys)) refl

pub eights_differ : (xs ys : List ℕ) (m n : ℕ) (us vs : List ℕ) → IsCut xs m us → IsCut ys n vs → m ≢ n → nat_cmp m n ≡ slice_cmp nat_cmp xs ys
eights_differ xs ys m n us vs left right ne =
    sym (eights_stand xs ys m n us vs left right ∙ decided (nat_cmp m n) (ranks m n))
  where
    decided : (o : Ordering) → MatchOrdering o (m < n) (m ≡ n) (n < m) → ordering_then o (slice_cmp nat_cmp us vs) ≡ o
    decided Less h = refl
    decided Equal h = absurd (ne h)
    decided Greater h = refl

pub eights_same : (xs ys : List ℕ) (m n : ℕ) (us vs : List ℕ) → IsCut xs m us → IsCut ys n vs → m ≡ n
    → slice_cmp nat_cmp us vs ≡ slice_cmp nat_cmp xs ys
eights_same xs ys m n us vs left right e =
    sym (eights_stand xs ys m n us vs left right ∙ ap (λ o. ordering_then o (slice_cmp nat_cmp us vs)) (sym (nat_cmp_is m n Equal e)))

pub eight_below : (xs ys : List ℕ) → AreBytes xs → AreBytes ys → eight_number xs < eight_number ys → slice_cmp nat_cmp xs ys ≡ Less
eight_below xs ys left right lt = below 8 xs ys left right (omega (arith, eight_is_leading xs, eight_is_leading ys))

pub eight_under : (xs : List ℕ) → AreBytes xs → eight_number xs ≤ 18446744073709551615
eight_under xs small = omega (arith, eight_is_leading xs, leading_under 8 xs small)

-- ---- how the number is read

-- of the first eight alone
pub first_chunk_number : (xs : List ℕ) → 8 ≤ length xs → from_be_bytes w64 (take 8 xs) ≡ eight_number xs
unfolding eight_number
first_chunk_number [] long = absurd (omega arith)
first_chunk_number (a ∷ []) long = absurd (omega arith)
first_chunk_number (a ∷ b ∷ []) long = absurd (omega arith)
first_chunk_number (a ∷ b ∷ c ∷ []) long = absurd (omega arith)
first_chunk_number (a ∷ b ∷ c ∷ d ∷ []) long = absurd (omega arith)
first_chunk_number (a ∷ b ∷ c ∷ d ∷ e ∷ []) long = absurd (omega arith)
first_chunk_number (a ∷ b ∷ c ∷ d ∷ e ∷ f ∷ []) long = absurd (omega arith)
first_chunk_number (a ∷ b ∷ c ∷ d ∷ e ∷ f ∷ g ∷ []) long = absurd (omega arith)
first_chunk_number (a ∷ b ∷ c ∷ d ∷ e ∷ f ∷ g ∷ h ∷ xs) long = refl

-- of four and four
pub halves : (xs : List ℕ) → from_be_bytes w32 (take 4 xs) * 4294967296 + from_be_bytes w32 (drop 4 xs) ≡ eight_number xs
unfolding eight_number
halves [] = refl
halves (a ∷ []) = omega arith
halves (a ∷ b ∷ []) = omega arith
halves (a ∷ b ∷ c ∷ []) = omega arith
halves (a ∷ b ∷ c ∷ d ∷ xs) = omega arith

-- and of fewer than four
pub first_half : (xs : List ℕ) → length xs < 4 → from_be_bytes w32 xs * 4294967296 + 0 ≡ eight_number xs
unfolding eight_number
first_half [] short = refl
first_half (a ∷ []) short = omega arith
first_half (a ∷ b ∷ []) short = omega arith
first_half (a ∷ b ∷ c ∷ []) short = omega arith
first_half (a ∷ b ∷ c ∷ d ∷ xs) short = absurd (omega arith)
