-- An opened file without where its bytes lie in memory: what the definitions of this crate speak of.
-- Assumes nothing.
use Rattle.std.specs.Prelude.{ℕ, List}
use Rattle.gsym_parser.specs.declared.Tables.{Tables}
use Rattle.gsym_parser.specs.declared.GsymContext.{GsymContext}

pub record View : Type 0 where
  pub file : List ℕ
  pub tables : Tables

abbrev pub view : GsymContext → View
view c = record { file = c.file.now; tables = c.tables }
