use Rattle.std.proofs.Common.{ap, sym, ◌∙◌}
use Rattle.bt_level_check.specs.Downlinks.{in_hand}
use Rattle.bt_level_check.proofs.Seeing.{first_leads, leads_to}
use Rattle.bt_level_check.proofs.downlinks.Downlinks.leads_to.Goals as goal

pub returns-in-Some : goal.returns-in-Some
returns-in-Some c specs more sound =
    ap (λ o. leads_to o c.args.b) (sym c.in-Some.is ∙ c.target.ensures specs more sound) ∙ first_leads (in_hand specs more c.args.self.now) c.args.b

pub returns-in-None : goal.returns-in-None
returns-in-None c specs more sound =
    ap (λ o. leads_to o c.args.b) (sym c.in-None.is ∙ c.target.ensures specs more sound) ∙ first_leads (in_hand specs more c.args.self.now) c.args.b
