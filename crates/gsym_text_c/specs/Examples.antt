-- What bits of a view ask for, written out (RULES, "What the tools print").
-- Assumes nothing.
use Rattle.std.specs.Prelude.{◌≡◌, ◌-◌, ◌^◌, true, false}
use Rattle.gsym_printed.specs.declared.view.Form.TheVariants.{Lines, Pretty, Json}
use Rattle.gsym_printed.specs.declared.view.View.{View}
use Rattle.gsym_text_c.specs.Texts.{view_of}

abbrev pub nothing : View
nothing = record {
  form = Lines;
  addresses = false;
  functions = false;
  inlines = false;
  base_names = false;
  refusals = false;
  return_addresses = false;
  base = record { 0 = 0 };
}

pub record ViewBits : Type 0 where
  pub none : view_of 0 0 ≡ nothing
  pub addresses : view_of 1 0 ≡ record nothing { addresses = true }
  pub functions : view_of 2 0 ≡ record nothing { functions = true }
  pub inlines : view_of 4 0 ≡ record nothing { inlines = true }
  pub pretty : view_of 8 0 ≡ record nothing { form = Pretty }
  pub base_names : view_of 16 0 ≡ record nothing { base_names = true }
  pub refusals : view_of 32 0 ≡ record nothing { refusals = true }
  pub json : view_of 64 0 ≡ record nothing { form = Json }
  pub return_addresses : view_of 128 0 ≡ record nothing { return_addresses = true }
  -- JSON whatever other form is asked for; bits from 8 on say nothing; and the base
  pub json_alone : view_of 72 0 ≡ record nothing { form = Json }
  pub others : view_of 0xffffff00 0 ≡ nothing
  pub base : view_of 0 (2 ^ 64 - 1) ≡ record nothing { base = record { 0 = 2 ^ 64 - 1 } }
  pub all :
      view_of 255 7
      ≡ record {
        form = Json;
        addresses = true;
        functions = true;
        inlines = true;
        base_names = true;
        refusals = true;
        return_addresses = true;
        base = record { 0 = 7 };
      }
