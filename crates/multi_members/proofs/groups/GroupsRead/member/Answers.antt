use Rattle.std.proofs.Common.{◌+◌, ◌-◌, ◌*◌, ◌/◌, ◌%◌, ◌≤◌, ◌∙◌, sym, length, take, arith}
use Rattle.multi_members.specs.Groups.{HoldsGroups}
use Rattle.multi_members.proofs.MembersRead.{member_in, member_past, member_read}
use Rattle.multi_members.proofs.groups.GroupsRead.member.Goals as goal

pub returns-then-self-place : goal.returns-then-self-place
unfolding HoldsGroups
returns-then-self-place c names folder holds =
    let self = c.args.self in
    let group = (c.args.number / 4 - self.first) * 20 in
    let r = c.args.number % 4 in
    sym (member_read names folder c.args.number self.first self.count (take self.held c.args.bytes.now) holds c.requires.0 c.requires.1 self.one_page
    ∙ member_past c.args.bytes.now self.held (group + r) (group + 4 + r * 4) (omega arith))

pub returns : goal.returns
unfolding HoldsGroups
returns c names folder holds =
    let self = c.args.self in
    let group = (c.args.number / 4 - self.first) * 20 in
    let r = c.args.number % 4 in
    let fits : self.held ≤ length c.args.bytes.now = omega (arith, self.short, c.fits-bytes) in
    rw c.from_le_bytes.ensures
    (sym (member_read names folder c.args.number self.first self.count (take self.held c.args.bytes.now) holds c.requires.0 c.requires.1 self.one_page
    ∙ member_in c.args.bytes.now self.held (group + r) (group + 4 + r * 4) fits (omega arith) (omega arith)))
