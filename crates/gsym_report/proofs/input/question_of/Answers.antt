-- `gsym_report::input::question_of`: more addresses than there may be, and as many.
-- Assumes nothing.
use Rattle.gsym_report.proofs.Addresses.{too_many, few}
use Rattle.gsym_report.proofs.input.question_of.Goals as goal

pub returns-then-behind : goal.returns-then-behind
returns-then-behind c =
    too_many c.args.most c.args.input.now c.in-Some.rest.now c.split_at.result.1.now c.in-Some.size
    c.in-Some.ensures.exact c.if-size-most.false c.if-size-rest.false c.split_at.ensures.back c.if-behind.true

pub returns-in-Some-2 : goal.returns-in-Some-2
returns-in-Some-2 c =
    few c.args.most c.args.input.now c.in-Some.rest.now c.split_at.result.0.now c.split_at.result.1.now
    c.in-Some.size c.in-Some-2.addresses.items c.in-Some.ensures.exact c.if-size-most.false c.if-size-rest.false
    c.split_at.ensures.front c.split_at.ensures.back c.if-behind.false
    (rw c.in-Some-2.is at c.in_ok-addresses.ensures)
