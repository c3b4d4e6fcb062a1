-- The page is found under its number, and the others as before.
use Rattle.std.proofs.Common.{◌≡◌, ◌-◌, ◌*◌, ◌<◌, length, min, ◌∙◌, ap, arith}
use Rattle.std.specs.Vec.{with_items}
use Rattle.disk_files.proofs.Kept.{found-set, found-set_other}
use Rattle.disk_files.proofs.opened.KeptPages.load.Goals as goal

pub returns-clause-read : goal.returns-clause-read
returns-clause-read c =
    let pages = c.make_place.new.self.pages in
    let page = with_items c.in_ok-page.page c.read_exact_at.new.buf in
    let within : c.args.number < length pages.items = omega (arith, c.in_ok-make_place.ensures.place, pages.ok.0) in
    let size : length page.items ≡ min 8192 (c.args.file_length - c.args.number * 8192) = omega (arith, page.ok.0, c.in_ok-page.ensures.len, c.min-count.ensures, c.saturating_sub.ensures) in
    ap length (found-set _ pages.items c.args.number page within) ∙ size

pub returns-clause-others : goal.returns-clause-others
returns-clause-others c = λ other differs. found-set_other _ _ c.args.number other _ differs ∙ c.in_ok-make_place.ensures.same other
