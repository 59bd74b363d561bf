-- What bits ask for, written out (RULES, "Calls").
-- Assumes nothing.
use Rattle.std.specs.Prelude.{◌≡◌, Bool, true, false}
use Rattle.gsym_types.specs.declared.Options.{Options}
use Rattle.gsym_c.specs.Laid.{options_of}

abbrev asking : Bool → Bool → Options
asking code inlining = record { code_info = code; inlining = inlining }

pub record OptionBits : Type 0 where
  pub none : options_of 0 ≡ asking false false
  pub code : options_of 1 ≡ asking true false
  pub inlining : options_of 2 ≡ asking false true
  pub both : options_of 3 ≡ asking true true
  pub others : options_of 0xfffffffc ≡ asking false false
  pub all : options_of 0xffffffff ≡ asking true true
