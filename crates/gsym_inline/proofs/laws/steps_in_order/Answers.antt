-- The steps of a block are those of its reading, in its order.
-- Assumes nothing.
use Rattle.gsym_inline.proofs.StepsOrder.{in_file, in_place}
use Rattle.gsym_inline.proofs.FirstFault.{reads-no-fault}
use Rattle.gsym_inline.proofs.laws.steps_in_order.Goals as goal

pub returns-clause-in_file : goal.returns-clause-in_file
returns-clause-in_file c judging symbol bytes = in_file judging symbol bytes

pub returns-clause-in_place : goal.returns-clause-in_place
returns-clause-in_place c judging symbol bytes last = in_place judging symbol bytes last

pub returns-clause-reads : goal.returns-clause-reads
returns-clause-reads c symbol addr room bytes = reads-no-fault symbol addr room bytes
