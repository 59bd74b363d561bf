-- Which refusals there are, by option and number.
-- Assumes nothing.
use Rattle.gsym_resolver.proofs.Numbers.{bare_number, plain_number, refused_by_block}
use Rattle.gsym_resolver.proofs.Numbers.{refused_by_header, refused_wide}
use Rattle.gsym_resolver.proofs.laws.refusals_by_option.Goals as goal

pub returns-clause-bare : goal.returns-clause-bare
returns-clause-bare c = bare_number

pub returns-clause-plain : goal.returns-clause-plain
returns-clause-plain c = plain_number

pub returns-clause-blocks : goal.returns-clause-blocks
returns-clause-blocks c = refused_by_block

pub returns-clause-header : goal.returns-clause-header
returns-clause-header c = refused_by_header

pub returns-clause-wide : goal.returns-clause-wide
returns-clause-wide c = refused_wide
