use Rattle.std.proofs.Common.{◌/◌, sym, arith}
use Rattle.itoa.proofs.Decimal.{length_one, length_pair, length_two}
use Rattle.text_writer.proofs.writer.short_count.Goals as goal

pub returns-then-n-lt10 : goal.returns-then-n-lt10
returns-then-n-lt10 c = sym (length_one c.args.n c.if-n-lt10.true)

pub returns-then-n-lt100 : goal.returns-then-n-lt100
returns-then-n-lt100 c = sym (length_two c.args.n (omega arith) (omega arith))

pub returns-then-n-lt1000 : goal.returns-then-n-lt1000
returns-then-n-lt1000 c =
    let two = length_pair c.args.n (omega arith) (omega arith) in
    let one = length_one (c.args.n / 100) (omega arith) in
    omega (arith, two, one)

pub returns-else-n-lt1000 : goal.returns-else-n-lt1000
returns-else-n-lt1000 c =
    let two = length_pair c.args.n (omega arith) (omega arith) in
    let more = length_two (c.args.n / 100) (omega arith) (omega arith) in
    omega (arith, two, more)
