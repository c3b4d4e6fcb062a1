use Rattle.std.proofs.Common.{◌≡◌, ℕ, ◌+◌, List, ◌∙◌, sym, ap, arith, drop, take}
use Rattle.std.proofs.Math.Seq.{take-add}
use Rattle.outside.specs.Outside.{appended, appended-append}
use Rattle.std.specs.Prelude.{Option}
use Rattle.cmd_answers.proofs.write.put_all.Goals as goal

-- one more piece of the bytes
one_more : (start before after : Option (List ℕ)) (bytes : List ℕ) (done taken : ℕ) → before ≡ appended start (take done bytes) → after ≡ appended before (take taken (drop done bytes)) → after ≡ appended start (take (done + taken) bytes)
one_more start before after bytes done taken was now =
    now ∙ ap (λ (w : Option (List ℕ)). appended w (take taken (drop done bytes))) was ∙ appended-append start (take done bytes) (take taken (drop done bytes))
    ∙ ap (appended start) (sym (take-add done taken bytes))

pub loop-done-preserved : goal.loop-done-preserved
loop-done-preserved g c = record {
  within = omega (arith, c.in_ok-taken.ensures.count);
  written = one_more _ _ _ c.args.bytes.now _ _ c.loop-done.invariant.written (rw c.split_at.ensures.back at c.in_ok-taken.ensures.taken);
  later = omega (arith, c.in_ok-taken.ensures.cause.later);
}
