use Rattle.std.proofs.Common.{◌≡◌, ℕ, ◌+◌, ◌<◌, ◌≤◌, length, List, [], ◌∷◌, ◌++◌, take, drop, refl, sym, ap, ◌∙◌, arith}
use Rattle.copy_out.specs.Escapes.{escaped}
use Rattle.copy_out.proofs.Runs.{run_is, waits, written}
use Rattle.copy_out.proofs.escapes.push_with_escapes.Goals as goal
use Rattle.copy_out.proofs.escapes.push_with_escapes.Goals.{in-Some+in_ok-push_slice+in_ok-push_slice-2, in_default}

pub loop-i-init : goal.loop-i-init
unfolding escaped
loop-i-init c = record { in_range = omega arith; told = refl }

pub loop-i-preserved : goal.loop-i-preserved
loop-i-preserved c =
    let bytes = c.args.bytes.now in
    let i = c.loop-i.i in
    let done = c.loop-i.done in
    let within : i < length bytes = omega arith in
    let le : done ≤ i = c.loop-i.invariant.in_range in
    elim c.match-letter_of.branch [
      | in-Some+in_ok-push_slice+in_ok-push_slice-2 w ↦
          let escape = 92 ∷ w.in-Some.letter ∷ [] in
          let text : c.match-letter_of.text ≡ (c.loop-i.text ++ drop done (take i bytes)) ++ escape =
          w.text-is ∙ w.in_ok-push_slice-2.ensures
          ∙ ap (λ (r : List ℕ). r ++ escape) (w.in_ok-push_slice.ensures ∙ ap (λ (r : List ℕ). c.loop-i.text ++ r) (run_is bytes done i le)) in
          record {
            in_range = omega (arith, w.done-is);
            told =
                ap (λ (r : List ℕ). r ++ drop c.match-letter_of.done (take (i + 1) bytes)) text
                ∙ ap (λ (d : ℕ). ((c.loop-i.text ++ drop done (take i bytes)) ++ escape) ++ drop d (take (i + 1) bytes)) w.done-is
                ∙ written bytes c.loop-i.text c.args.text.now done i w.in-Some.letter within le (sym c.letter_of.ensures ∙ w.in-Some.is) c.loop-i.invariant.told;
          }
      | in_default w ↦ record {
        in_range = omega (arith, w.done-is);
        told =
            ap (λ (r : List ℕ). r ++ drop c.match-letter_of.done (take (i + 1) bytes)) w.text-is
            ∙ ap (λ (d : ℕ). c.loop-i.text ++ drop d (take (i + 1) bytes)) w.done-is
            ∙ waits bytes c.loop-i.text c.args.text.now done i within le (sym c.letter_of.ensures ∙ w.in_default.is) c.loop-i.invariant.told;
      }
    ]
