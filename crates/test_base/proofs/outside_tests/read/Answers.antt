-- A file whose length was told is held, and has so many bytes.
use Rattle.std.proofs.Common.{◌≡◌, ℕ, ◌+◌, ◌≤◌, List, length, sym, ◌∙◌, arith}
use Rattle.std.specs.Prelude.{Option, Some, None, IsSomeAnd}
use Rattle.std.specs.Option.{option_map}
use Rattle.test_base.proofs.outside_tests.read.Goals as goal

long_enough : (held : Option (List ℕ)) (len : ℕ) → (at more : ℕ) → Some len ≡ option_map length held → at + more ≤ len → IsSomeAnd held (λ bytes. at + more ≤ length bytes)
long_enough None len at more told fits = absurd (cc)
long_enough (Some bytes) len at more told fits =
    let is : len ≡ length bytes = cc in
    omega arith

pub read_at-requires : goal.read_at-requires
read_at-requires g c names told =
    let was = sym c.in_ok-length.ensures.asked.same ∙ told in
    long_enough (names c.args.name.base.now c.args.name.part) c.in-Some.length c.args.at (length c.args.out.now)
    (sym c.in-Some.is ∙ c.in_ok-length.ensures.answer names was) (omega arith)
