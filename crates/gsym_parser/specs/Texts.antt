-- The strings of an opened file by their offset in its string table (RULES, "Strings").
-- Assumes nothing.
use Rattle.std.specs.Prelude.{Option}
use Rattle.gsym_types.specs.declared.StrOffset.{StrOffset}
use Rattle.gsym_types.specs.declared.Text.{Text}
use Rattle.gsym_strtab.specs.Strings as strings
use Rattle.gsym_parser.specs.View.{View}

-- directories and files
abbrev pub text_at : View → StrOffset → Option Text
text_at v offset = strings.text_at v.file v.tables.strings offset

-- names
abbrev pub name_at : View → StrOffset → Option Text
name_at v offset = strings.name_at v.file v.tables.strings offset
