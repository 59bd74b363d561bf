-- What is known of a file before it is written (RULES, "Writing a file").
-- Assumes nothing.
use Rattle.std.specs.Prelude.{◌≡◌, true, length}
use Rattle.gsym_layout.specs.Given.{Given}
use Rattle.gsym_layout.specs.Layout.{head_of, layout_of}
use Rattle.gsym_writer.specs.declared.plan.Head.{Head}
use Rattle.gsym_writer.specs.declared.plan.Plan.{Plan}
use Rattle.gsym_writer.specs.Ends.{told_len}
use Rattle.gsym_writer.specs.View.{head_view}
use Rattle.gsym_writer.specs.Writing.{counts_of_32, all_of_32}

-- the header's numbers, where counts, and the string table's place and size, are of 32 bits
pub record IsHead (g : Given) (h : Head) : Type 0 where
  pub of_32 : counts_of_32 g ≡ true
  pub is : head_view h ≡ head_of g

-- those and the length, where all is of 32 bits
pub record IsPlan (g : Given) (p : Plan) : Type 0 where
  pub of_32 : all_of_32 g ≡ true
  pub head : head_view p.head ≡ head_of g
  pub len : p.len ≡ told_len (length (layout_of g))
