-- The page that is lent is the block, and what is kept stays so.
use Rattle.std.proofs.Common.{◌≡◌, ℕ, List, IsSome, true, false, refl, sym, ◌∙◌, ap, nat_eq, arith, is_some, take, ◌-◌, ◌∷◌, inl, inr, Box, Global}
use Rattle.lru.specs.LruCache.{lru_cache}
use Rattle.std.specs.Map.{lookup}
use Rattle.std.proofs.lemmas.Result.{err_from_is_err_and}
use Rattle.bt_levels.specs.Sound.{held_block}
use Rattle.bt_search.proofs.Caching.{IsPutOf, cap-put, first-promoted, first-put_of, in_hand, lookup-promoted, lookup-shown, not_shown, promoted-none, shows-looked, shows-put_of, shown, shown-promoted, shown-put_of}
use Rattle.bt_search.proofs.Asked.{asked-failed, asked-none, asked-ok}
use Rattle.bt_search.proofs.cache.PageCache.page.Goals as goal

-- a page in its box
abbrev page_in : Box (List ℕ) Global → List ℕ
page_in box = box.value

pub returns-then-promote : goal.returns-then-promote
returns-then-promote g c =
    let es = c.self.inside.kept.entries in
    let block = c.args.block in
    let is = c.promote.ensures.entries in
    let some : IsSome (lookup (nat_eq block) es) = sym c.promote.ensures.value ∙ c.if-promote.true in
    rw (← c.self.view_is) (
      (
        refl,
        λ _. tt,
        (
          record {
            capacity = ap (λ l. l.cap) is;
            kept = λ _. ap (λ l. shown page_in l.entries) is ∙ shown-promoted page_in (nat_eq block) es some;
            pages = λ _ other. ap (λ l. lookup (nat_eq other) (shown page_in l.entries)) is ∙ lookup-promoted page_in block other es some;
            read = λ none. absurd (let clash : true ≡ false = sym some ∙ sym (lookup-shown page_in (nat_eq block) es) ∙ none in cc);
            failed = tt;
          },
          λ names told. shows-looked page_in (held_block names c.args.tree.now) (nat_eq block) es c.self.inside.kept.cap c.promote.new.self is (rw (← c.self.view_is) at (c.requires.of names told)),
        ),
      ),
      record {
        looked = tt;
        bytes = λ names told. first-promoted page_in (held_block names c.args.tree.now) block es c.first_page.result.now some (rw is at c.first_page.ensures) (rw (← c.self.view_is) at (c.requires.of names told));
        hit = λ _. (refl, refl);
        asked = asked-none 1;
      },
    )

pub returns-in_err-read : goal.returns-in_err-read
returns-in_err-read g c =
    let es = c.self.inside.kept.entries in
    let block = c.args.block in
    let is = c.promote.ensures.entries in
    let none : is_some (lookup (nat_eq block) es) ≡ false = sym c.promote.ensures.value ∙ c.if-promote.false in
    let p = err_from_is_err_and c.from_residual.result c.from_residual.ensures.1 in
    rw (p.1, ← c.self.view_is) (
      (
        refl,
        λ _. tt,
        (
          rw is (record { capacity = refl; kept = λ kept. absurd (not_shown page_in (nat_eq block) es none kept); pages = λ kept other. absurd (not_shown page_in (nat_eq block) es none kept); read = tt; failed = rw (promoted-none (nat_eq block) es none) refl }),
          λ names told. shows-looked page_in (held_block names c.args.tree.now) (nat_eq block) es c.self.inside.kept.cap c.promote.new.self is (rw (← c.self.view_is) at (c.requires.of names told)),
        ),
      ),
      record {
        looked = tt;
        bytes = tt;
        hit = λ kept. absurd (not_shown page_in (nat_eq block) es none kept);
        asked = asked-failed c.in_err-read.ensures.asked;
      },
    )

pub returns-then-put : goal.returns-then-put
returns-then-put g c =
    let es = c.self.inside.kept.entries in
    let block = c.args.block in
    let is = c.promote.ensures.entries in
    let none : is_some (lookup (nat_eq block) es) ≡ false = sym c.promote.ensures.value ∙ c.if-promote.false in
    let now : c.promote.new.self ≡ lru_cache es c.self.inside.kept.cap = is ∙ ap (λ l. lru_cache l c.self.inside.kept.cap) (promoted-none (nat_eq block) es none) in
    let there = c.in_ok-read.ensures.there in
    let put : IsPutOf page_in c.read.new.hand c.promote.new.self block c.put.new.kept = c.put.ensures.put c.if-put.true in
    rw (← c.self.view_is) (
      (
        refl,
        λ _. tt,
        (
          record {
            capacity = cap-put page_in c.read.new.hand c.promote.new.self block c.put.new.kept there put ∙ ap (λ l. l.cap) is;
            kept = λ kept. absurd (not_shown page_in (nat_eq block) es none kept);
            pages = λ kept other. absurd (not_shown page_in (nat_eq block) es none kept);
            read = λ _. inr (shown-put_of page_in c.read.new.hand c.promote.new.self block c.put.new.kept c.first_page-then-put.result.now there put (ap (λ l. is_some (lookup (nat_eq block) l.entries)) now ∙ none) c.first_page-then-put.ensures ∙ ap (λ l. (block, c.first_page-then-put.result.now) ∷ take (l.cap - 1) (shown page_in l.entries)) now);
            failed = tt;
          },
          λ names told. shows-put_of page_in (held_block names c.args.tree.now) c.read.new.hand c.promote.new.self block c.put.new.kept there put (c.in_ok-read.ensures.bytes names told) (shows-looked page_in (held_block names c.args.tree.now) (nat_eq block) es c.self.inside.kept.cap c.promote.new.self is (rw (← c.self.view_is) at (c.requires.of names told))),
        ),
      ),
      record {
        looked = tt;
        bytes = λ names told. first-put_of page_in (held_block names c.args.tree.now) c.read.new.hand c.promote.new.self block c.put.new.kept c.first_page-then-put.result.now there put (c.in_ok-read.ensures.bytes names told) c.first_page-then-put.ensures;
        hit = λ kept. absurd (not_shown page_in (nat_eq block) es none kept);
        asked = asked-ok (omega arith) c.in_ok-read.ensures.asked;
      },
    )

pub returns : goal.returns
returns g c =
    let es = c.self.inside.kept.entries in
    let block = c.args.block in
    let is = c.promote.ensures.entries in
    let none : is_some (lookup (nat_eq block) es) ≡ false = sym c.promote.ensures.value ∙ c.if-promote.false in
    let there = c.in_ok-read.ensures.there in
    let refused = c.put.ensures.refused c.if-put.false in
    let now = refused.0 ∙ is in
    let same : c.put.new.kept.entries ≡ es = ap (λ l. l.entries) now ∙ promoted-none (nat_eq block) es none in
    rw (← c.self.view_is) (
      (
        refl,
        λ _. tt,
        (
          record { capacity = ap (λ l. l.cap) now; kept = λ kept. absurd (not_shown page_in (nat_eq block) es none kept); pages = λ kept other. absurd (not_shown page_in (nat_eq block) es none kept); read = λ _. inl (ap (shown page_in) same); failed = tt },
          λ names told. shows-looked page_in (held_block names c.args.tree.now) (nat_eq block) es c.self.inside.kept.cap c.put.new.kept now (rw (← c.self.view_is) at (c.requires.of names told)),
        ),
      ),
      record {
        looked = tt;
        bytes = λ names told. in_hand page_in (held_block names c.args.tree.now block) c.read.new.hand c.page_in_hand.result.now there (rw refused.1 at c.page_in_hand.ensures) (c.in_ok-read.ensures.bytes names told);
        hit = λ kept. absurd (not_shown page_in (nat_eq block) es none kept);
        asked = asked-ok (omega arith) c.in_ok-read.ensures.asked;
      },
    )
