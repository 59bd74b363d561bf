-- `gsym_strtab::lengths::sequence_len` meets its contract: the rule is tested at 256 entries, which antt computes.
-- Assumes nothing.
use Rattle.std.proofs.Common.{List, ◌++◌, ◌∙◌, ap, Bool, ℕ, eqb, eqb→eq, get_or, replicate, rules}
use Rattle.gsym_strtab.specs.Utf8.{sequence_len}
use Rattle.gsym_strtab.proofs.Table.{at}
use Rattle.gsym_strtab.proofs.lengths.sequence_len.Goals as goal

-- the table, by its runs
table : List ℕ
table = replicate 128 1 ++ (replicate 66 0 ++ (replicate 30 2 ++ (replicate 16 3 ++ (replicate 5 4 ++ replicate 11 0))))

right : ℕ → ℕ → Bool
right b x = eqb x (sequence_len b)

pub returns : goal.returns
unfolding table right sequence_len
returns c =
    ap (λ i. get_or table i 0) c.from.ensures
    ∙ eqb→eq (get_or table c.args.b 0) (sequence_len c.args.b) (at right table tt c.args.b (search rules))
