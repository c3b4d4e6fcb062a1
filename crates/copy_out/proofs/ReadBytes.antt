-- What is read of bytes is bytes.
use Rattle.std.proofs.Common.{◌≡◌, ℕ, suc, ◌<◌, ◌==◌, Bool, true, false, cond, List, [], ◌∷◌, Result, Ok, Err, drop, refl, sym, subst, arith}
use Rattle.std.specs.List.{AllByRecursion}
use Rattle.std.specs.Result.{result_unwrap_or}
use Rattle.hex.specs.Hex.{IsBytes, decode_of}
use Rattle.hex.specs.declared.error.FromHexError.{FromHexError}
use Rattle.hex.proofs.HexLemmas.{decode_of-ok}
use Rattle.key_orders.specs.declared.columns.Value.{Value}
use Rattle.key_orders.specs.declared.columns.Value.TheVariants.{Bytes}
use Rattle.copy_out.specs.Fields.{HasBytes}
use Rattle.copy_out.specs.Readings.{ReadsAs, byte_of, bytes_read, unescaped, without_hyphens}
use Rattle.heap_rows.specs.declared.row_cells.Cell.TheVariants.{Held}
use Rattle.copy_out.specs.declared.forms.Form.{Form}
use Rattle.copy_out.specs.declared.forms.Form.TheVariants.{Letter, Decimal, Grouped, Escaped, Digits}
use Rattle.copy_out.proofs.Breaks.{each-at}

byte_of-small : (l : ℕ) → l < 256 → byte_of l < 256
unfolding byte_of
byte_of-small l h = grind arith

step : (b : ℕ) (t : Bool) (xs ys : List ℕ) → AllByRecursion (λ x. x < 256) xs → AllByRecursion (λ x. x < 256) ys → AllByRecursion (λ x. x < 256) (cond t xs ys)
step b true xs ys h k = h
step b false xs ys h k = k

unescaped_small : (text : List ℕ) (behind : Bool) → AllByRecursion (λ x. x < 256) text → AllByRecursion (λ x. x < 256) (unescaped text behind)
unescaped_small [] behind h = tt
unescaped_small (b ∷ rest) true h = (byte_of-small b h.0, unescaped_small rest false h.1)
unescaped_small (b ∷ rest) false h =
    step b (b == 92) (unescaped rest true) (b ∷ unescaped rest false) (unescaped_small rest true h.1) (h.0, unescaped_small rest false h.1)

to_each : (xs : List ℕ) → IsBytes xs → AllByRecursion (λ x. x < 256) xs
to_each [] h = tt
to_each (x ∷ xs) h = (h 0, to_each xs (λ i. h (suc i)))

pub from_each : (xs : List ℕ) → AllByRecursion (λ x. x < 256) xs → IsBytes xs
from_each xs h i = each-at (λ x. x < 256) xs i (omega arith) h

ok_bytes : (digits : List ℕ) (r : Result (List ℕ) FromHexError) → decode_of digits ≡ r → IsBytes (result_unwrap_or r [])
ok_bytes digits (Ok bytes) e = (decode_of-ok digits bytes e).3
ok_bytes digits (Err f) e = λ i. omega arith

bytes_read_bytes : (digits : List ℕ) → IsBytes (bytes_read digits)
unfolding bytes_read
bytes_read_bytes digits = ok_bytes digits (decode_of digits) refl

read_bytes_of : (v : Value) (bytes : List ℕ) → v ≡ Bytes bytes → IsBytes bytes → HasBytes (Held v)
read_bytes_of v bytes e h = subst (λ (w : Value). HasBytes (Held w)) (sym e) h

-- a value that is read of bytes has bytes
pub read_has_bytes : (form : Form) (text : List ℕ) (v : Value) → IsBytes text → ReadsAs form text v → HasBytes (Held v)
read_has_bytes Letter text v h r = subst (λ (w : Value). HasBytes (Held w)) (sym r) tt
read_has_bytes Decimal text v h r = subst (λ (w : Value). HasBytes (Held w)) (sym r.1) tt
read_has_bytes Grouped text v h r = read_bytes_of v (bytes_read (without_hyphens text)) r (bytes_read_bytes (without_hyphens text))
read_has_bytes Escaped text v h r = read_bytes_of v (unescaped text false) r (from_each (unescaped text false) (unescaped_small text false (to_each text h)))
read_has_bytes Digits text v h r = read_bytes_of v (bytes_read (drop 3 text)) r (bytes_read_bytes (drop 3 text))
