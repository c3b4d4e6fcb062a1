use Rattle.std.proofs.Common.{◌≡◌, ℕ, ◌+◌, ◌*◌, ◌%◌, ◌<◌, ◌∙◌, List, sym, ap, take, drop, length, arith}
use Rattle.std.proofs.lemmas.List.{length-take-le}
use Rattle.std.specs.List.{slice_get}
use Rattle.rel_files.specs.Bytes.{slru_byte}
use Rattle.rel_files.proofs.Places.{bytes_absent, bytes_past, bytes_read, first_are}
use Rattle.rel_files.proofs.slru.Slru.bytes.Goals as goal

pub returns-in_ok-read_at-in-Some-clause-bytes : goal.returns-in_ok-read_at-in-Some-clause-bytes
unfolding slru_byte
returns-in_ok-read_at-in-Some-clause-bytes g c names told k below =
    let held = c.min-held.result in
    let out = c.args.out.now in
    let got : List ℕ = c.read_at.new.out in
    let at = c.args.page % 32 * 8192 + c.args.offset in
    let size : length (take held out) ≡ held = length-take-le held out (omega (arith, c.min-held.ensures)) in
    let sized : length got ≡ held = omega (arith, c.read_at.auto.out, size) in
    let within : k < length out = omega (arith, below, sized, c.min-held.ensures) in
    bytes_read _ (c.args.page % 32 * 8192) c.args.offset (length out) c.in-Some.length held k got (sym c.in-Some.is
    ∙ rw c.as_str.ensures.value at (c.in_ok-length.ensures.answer names told)) c.if-at-length.true c.min-held.ensures
    (λ bytes there.
    let reads : got ≡ take (length (take held out)) (drop at bytes) = c.in_ok-read_at-in-Some.ensures.bytes names bytes (c.in_ok-length.ensures.asked.same
    ∙ told) (rw c.as_str.ensures.value there) in
    reads ∙ ap (λ m. take m (drop at bytes)) size) within
    ∙ ap (λ (xs : List ℕ). slice_get xs k) (sym (first_are got (drop held out) held sized))

pub returns-in_default-clause-bytes : goal.returns-in_default-clause-bytes
unfolding slru_byte
returns-in_default-clause-bytes g c names told k below =
    bytes_past _ _ _ c.in-Some.length k (sym c.in-Some.is ∙ rw c.as_str.ensures.value at (c.in_ok-length.ensures.answer names told)) c.if-at-length.false

pub returns-in_default-2-clause-bytes : goal.returns-in_default-2-clause-bytes
unfolding slru_byte
returns-in_default-2-clause-bytes g c names told k below =
    bytes_absent _ _ (sym c.in_default.is ∙ rw c.as_str.ensures.value at (c.in_ok-length.ensures.answer names told))
