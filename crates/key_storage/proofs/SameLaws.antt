-- The tests of values and keys say what is equal.
use Rattle.std.proofs.Common.{◌≡◌, ◌∙◌, ◌∷◌, ◌++◌, ℕ, Bool, true, false, List, [], length, refl, ap, arith}
use Rattle.std.specs.Prelude.{◌&&◌, Decides, ℤ}
use Rattle.std.proofs.lemmas.Bool.Decides.{Decides-int_eq}
use Rattle.std.proofs.lemmas.Slice.Eq.{bytes_eq-Decides, slice_eq-Decides}
use Rattle.key_orders.specs.declared.columns.Value.{Value}
use Rattle.key_orders.specs.declared.columns.Value.TheVariants.{Null, Bool as BoolValue, Int, Bytes}
use Rattle.key_storage.specs.Same.{same_flag, same_key, same_value}

abbrev as_number : Bool → ℕ
as_number true = 1
as_number false = 0

abbrev kind : Value → ℕ
kind Null = 0
kind (BoolValue b) = 1
kind (Int z) = 2
kind (Bytes bytes) = 3

abbrev flag : Value → Bool
flag Null = false
flag (BoolValue b) = b
flag (Int z) = false
flag (Bytes bytes) = false

abbrev number : ℤ → Value → ℤ
number d Null = d
number d (BoolValue b) = d
number d (Int z) = z
number d (Bytes bytes) = d

abbrev content : Value → List ℕ
content Null = []
content (BoolValue b) = []
content (Int z) = []
content (Bytes bytes) = bytes

differ : (a b : Value) → (kind a ≡ kind b → ⊥) → Decides false (a ≡ b)
differ a b n = ((λ h. absurd (omega (arith, ap as_number h))), λ e. absurd (n (ap kind e)))

flags : (a b : Bool) → Decides (same_flag a b) (BoolValue a ≡ BoolValue b)
flags true true = ((λ h. refl), λ e. refl)
flags true false = ((λ h. absurd (omega (arith, ap as_number h))), λ e. absurd (omega (arith, ap (λ v. as_number (flag v)) e)))
flags false true = ((λ h. absurd (omega (arith, ap as_number h))), λ e. absurd (omega (arith, ap (λ v. as_number (flag v)) e)))
flags false false = ((λ h. refl), λ e. refl)

values : (a b : Value) → Decides (same_value a b) (a ≡ b)
values Null Null = ((λ h. refl), λ e. refl)
values Null (BoolValue b) = differ _ _ (λ e. omega arith)
values Null (Int z) = differ _ _ (λ e. omega arith)
values Null (Bytes ys) = differ _ _ (λ e. omega arith)
values (BoolValue a) Null = differ _ _ (λ e. omega arith)
values (BoolValue a) (BoolValue b) = flags a b
values (BoolValue a) (Int z) = differ _ _ (λ e. omega arith)
values (BoolValue a) (Bytes ys) = differ _ _ (λ e. omega arith)
values (Int y) Null = differ _ _ (λ e. omega arith)
values (Int y) (BoolValue b) = differ _ _ (λ e. omega arith)
values (Int y) (Int z) = let d = Decides-int_eq y z in ((λ h. ap Int (d.0 h)), λ e. d.1 (ap (number y) e))
values (Int y) (Bytes ys) = differ _ _ (λ e. omega arith)
values (Bytes xs) Null = differ _ _ (λ e. omega arith)
values (Bytes xs) (BoolValue b) = differ _ _ (λ e. omega arith)
values (Bytes xs) (Int z) = differ _ _ (λ e. omega arith)
values (Bytes xs) (Bytes ys) = let d = bytes_eq-Decides xs ys in ((λ h. ap Bytes (d.0 h)), λ e. d.1 (ap content e))

pub keys_decide : (a b : List Value) → Decides (same_key a b) (a ≡ b)
keys_decide a b = slice_eq-Decides values a b (same_key a b) refl

assoc : (p q r : Bool) → (p && (q && r)) ≡ ((p && q) && r)
assoc true q r = refl
assoc false q r = refl

-- values in two parts
pub two_parts : (a c b d : List Value) → length a ≡ length c → same_key (a ++ b) (c ++ d) ≡ (same_key a c && same_key b d)
two_parts [] [] b d e = refl
two_parts [] (y ∷ c) b d e = absurd (omega (arith, e))
two_parts (x ∷ a) [] b d e = absurd (omega (arith, e))
two_parts (x ∷ a) (y ∷ c) b d e =
    ap (λ (t : Bool). same_value x y && t) (two_parts a c b d (omega (arith, e)))
    ∙ assoc (same_value x y) (same_key a c) (same_key b d)

-- of another number
pub other_count : (a b : List Value) → (length a ≡ length b → ⊥) → same_key a b ≡ false
other_count a b differ = by (same_key a b) refl
  where
    by : (same : Bool) → same_key a b ≡ same → same_key a b ≡ false
    by true e = absurd (differ (ap length ((keys_decide a b).0 e)))
    by false e = e
