-- What a node takes over from those above it: its level, 1 for the root; the address asked for; where its offsets count
-- from; and how many frames there may be in all.
-- Assumes nothing.
use Rattle.std.specs.Prelude.{ℕ}
use Rattle.gsym_inline.specs.declared.context.Context.{Context}

pub record Inherited : Type 0 where
  pub level : ℕ
  pub addr : ℕ
  pub base : ℕ
  pub room : ℕ

-- what the code hands down
abbrev pub inherited_of : Context → Inherited
inherited_of c = record { level = c.level; addr = c.addr; base = c.base; room = c.room }
