-- Bodies that are laid value by value.
use Rattle.std.proofs.Common.{◌≡◌, ◌≤◌, ◌<◌, ◌+◌, ◌*◌, ◌^◌, ℕ, suc, List, [], ◌∷◌, ◌++◌, length, map, take, drop, get_or, Bool, true, false, ◌||◌, cond, refl, ap, sym, ◌∙◌, arith, add-one, drop-cons}
use Rattle.std.proofs.Math.Nat.{pow-suc}
use Rattle.std.proofs.Math.Seq.{take-suc}
use Rattle.std.proofs.lemmas.List.{get_or-map, length-map, length-take}
use Rattle.key_orders.specs.declared.columns.ColType.{ColType}
use Rattle.key_orders.specs.declared.columns.Value.{Value}
use Rattle.key_orders.specs.declared.columns.ValueRef.{ValueRef}
use Rattle.key_orders.specs.declared.columns.ValueRef.TheVariants.{Null}
use Rattle.key_orders.specs.Values.{value_shown}
use Rattle.page_write.specs.Bodies.{has_null, has_varwidth, is_null, is_varwidth, presence_bits, with_value, with_values}

-- twice the bit of a value
twice : (b : Bool) (p q : ℕ) → q ≡ 2 * p → 2 * cond b 0 p ≡ cond b 0 q
twice true p q e = refl
twice false p q e = sym e

alone : (b : Bool) → cond b 0 1 + 2 * 0 ≡ 0 + cond b 0 1
alone true = refl
alone false = refl

pub pow_next : (n : ℕ) → 2 ^ suc n ≡ 2 * 2 ^ n
pow_next n = let p = pow-suc 2 n in omega (arith, p)

bits-snoc : (vs : List Value) (v : Value) → presence_bits (vs ++ v ∷ []) ≡ presence_bits vs + cond (is_null v) 0 (2 ^ length vs)
unfolding presence_bits
bits-snoc [] v = alone (is_null v)
bits-snoc (x ∷ vs) v =
    let rest = bits-snoc vs v in
    let double = twice (is_null v) (2 ^ length vs) (2 ^ suc (length vs)) (pow_next (length vs)) in
    omega (arith, rest, double)

pub bits_next : (vs : List Value) (k : ℕ) (d : Value) → k < length vs
    → presence_bits (take (k + 1) vs) ≡ presence_bits (take k vs) + cond (is_null (get_or vs k d)) 0 (2 ^ k)
bits_next vs k d lt =
    let n : length (take k vs) ≡ k = let a = length-take k vs in omega (arith, a, lt) in
    ap (λ (n : ℕ). presence_bits (take n vs)) (add-one k) ∙ ap presence_bits (take-suc vs k d lt) ∙ bits-snoc (take k vs) (get_or vs k d)
    ∙ ap (λ (n : ℕ). presence_bits (take k vs) + cond (is_null (get_or vs k d)) 0 (2 ^ n)) n

pub bit_most : (b : Bool) (p : ℕ) → cond b 0 p ≤ p
bit_most true p = omega arith
bit_most false p = omega arith

-- one more column
values-snoc : (cs : List ColType) (vs : List Value) (c : ColType) (v : Value) (body : List ℕ) → length vs ≡ length cs
    → with_values (cs ++ c ∷ []) (vs ++ v ∷ []) body ≡ with_value c v (with_values cs vs body)
unfolding with_values
values-snoc [] [] c v body e = refl
values-snoc [] (x ∷ vs) c v body e = absurd (omega (arith, e))
values-snoc (x ∷ cs) [] c v body e = absurd (omega (arith, e))
values-snoc (x ∷ cs) (y ∷ vs) c v body e = values-snoc cs vs c v (with_value x y body) (omega (arith, e))

pub values_next : (cs : List ColType) (vs : List Value) (k : ℕ) (c : ColType) (v : Value) (body : List ℕ) → length vs ≡ length cs → k < length vs
    → with_values (take (k + 1) cs) (take (k + 1) vs) body
    ≡ with_value (get_or cs k c) (get_or vs k v) (with_values (take k cs) (take k vs) body)
values_next cs vs k c v body e lt =
    let n : length (take k vs) ≡ length (take k cs) = let a = length-take k vs in let b = length-take k cs in omega (arith, a, b, e) in
    ap (λ (n : ℕ). with_values (take n cs) (take n vs) body) (add-one k)
    ∙ (λ i. with_values (take-suc cs k c (omega (arith, e, lt)) i) (take-suc vs k v lt i) body)
    ∙ values-snoc (take k cs) (take k vs) (get_or cs k c) (get_or vs k v) body n

pub values_none : (body : List ℕ) → with_values [] [] body ≡ body
unfolding with_values
values_none body = refl

-- what is left of a search
pub varwidth_next : (cs : List ColType) (vs : List Value) (k : ℕ) (c : ColType) (v : Value) → k < length cs → k < length vs
    → has_varwidth (drop k cs) (drop k vs) ≡ cond (is_varwidth (get_or cs k c) (get_or vs k v)) true (has_varwidth (drop (k + 1) cs) (drop (k + 1) vs))
varwidth_next cs vs k c v a b =
    (λ i. has_varwidth (drop-cons cs k c a i) (drop-cons vs k v b i))
    ∙ ap (λ (n : ℕ). cond (is_varwidth (get_or cs k c) (get_or vs k v)) true (has_varwidth (drop n cs) (drop n vs))) (sym (add-one k))

either : (a b : Bool) → (a || b) ≡ cond a true b
either true b = refl
either false b = refl

-- a null is there, or is looked for behind
pub null_next : (vs : List Value) (k : ℕ) (v : Value) → k < length vs
    → has_null (drop k vs) ≡ cond (is_null (get_or vs k v)) true (has_null (drop (k + 1) vs))
null_next vs k v lt =
    ap has_null (drop-cons vs k v lt) ∙ either (is_null (get_or vs k v)) (has_null (drop (suc k) vs)) ∙ ap (λ (n : ℕ). cond (is_null (get_or vs k v)) true (has_null (drop n vs))) (sym (add-one k))

-- what is lent shows the values
pub shown_at : (refs : List ValueRef) (k : ℕ) → k < length refs → value_shown (get_or refs k Null) ≡ get_or (map value_shown refs) k (value_shown Null)
shown_at refs k lt = sym (get_or-map value_shown refs k Null (value_shown Null) lt)

pub shown_below : (refs : List ValueRef) (k : ℕ) → k < length refs → k < length (map value_shown refs)
shown_below refs k lt = let n = length-map refs value_shown in omega (arith, n, lt)
