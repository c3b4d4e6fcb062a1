-- How many times blocks are taken in hand.
use Rattle.std.proofs.Common.{◌≡◌, ℕ, ◌+◌, ◌-◌, ◌*◌, ◌≤◌, subst, arith}

-- one index more: the blocks of the range once more
pub for-one : (a b d n j : ℕ) → a ≤ b + n → b ≤ d + n * j → a ≤ d + n * (j + 1)
for-one a b d n j here before = omega (arith, here, before)

-- once for all indexes, and once more for each
pub for-all : (a b d n m : ℕ) → b ≤ d + n → a ≤ b + n * m → a ≤ d + n * (1 + m)
for-all a b d n m kept finished = omega (arith, kept, finished)

part : (n d m : ℕ) → n * m ≤ (n + d) * m
part n d m = omega arith

-- of more blocks
pub up-to : (n k m : ℕ) → n ≤ k → n * m ≤ k * m
up-to n k m le =
    let is : n + (k - n) ≡ k = omega (arith, le) in
    subst (λ (x : ℕ). n * m ≤ x * m) is (part n (k - n) m)

-- for more indexes
pub for-some : (n j m : ℕ) → j ≤ m → n * j ≤ n * m
for-some n j m le = omega (arith, up-to j m n le)

joined-part : (a b d n e m : ℕ) → a ≤ b + e * m → b ≤ d + n * m → a ≤ d + (n + e) * m
joined-part a b d n e m here before = omega (arith, here, before)

-- where the count may rise by less, it may rise by more
pub at-most : (a d x y : ℕ) → a ≤ d + x → x ≤ y → a ≤ d + y
at-most a d x y here le = omega (arith, here, le)

-- the blocks of the first range
pub first-range : (a d n k m : ℕ) → n ≡ 0 → a ≤ d + (k - n) * m → a ≤ d + k * m
first-range a d n k m zero-is here =
    let is : k - n ≡ k = omega (arith, zero-is) in
    subst (λ (x : ℕ). a ≤ d + x * m) is here

-- the blocks of one range more
pub next-range : (a b d n k m : ℕ) → n ≤ k → a ≤ b + (k - n) * m → b ≤ d + n * m → a ≤ d + k * m
next-range a b d n k m le here before =
    let is : n + (k - n) ≡ k = omega (arith, le) in
    subst (λ (x : ℕ). a ≤ d + x * m) is (joined-part a b d n (k - n) m here before)
