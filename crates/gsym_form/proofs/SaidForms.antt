-- What a form gives to be written is what it says.
-- Assumes nothing.
use Rattle.std.proofs.Common.{◌≡◌, ℕ, List, [], ◌∷◌, map, refl, ap, ◌∙◌}
use Rattle.gsym_parser.specs.Items.{ItemData}
use Rattle.gsym_form.specs.declared.form.Form.{Form}
use Rattle.gsym_form.specs.declared.form.FormEntry.{FormEntry}
use Rattle.gsym_form.specs.declared.form.FormItem.{FormItem}
use Rattle.gsym_form.specs.Form.{part_of, item_given, entry_given, given_by}
use Rattle.gsym_form.specs.Said.{SaidItem}
use Rattle.gsym_form.specs.Parsed.{item_said, entry_said, form_said, item_of, entry_of, given_said}
use Rattle.gsym_form.proofs.Parts.{part_map}

module _ (bytes : List ℕ) where
  items_said : (items : List FormItem) → map item_of (map (item_said bytes) items) ≡ map (item_given bytes) items
  items_said [] = refl
  items_said (item ∷ items) = rw (items_said items) refl

  module _ (items : List FormItem) where
    abbrev said : List SaidItem
    said = map (item_said bytes) items

    abbrev given : List ItemData
    given = map (item_given bytes) items

    part_said : (e : FormEntry) → map item_of (part_of e.first e.end said) ≡ part_of e.first e.end given
    part_said e =
        part_map item_of e.first e.end said
        ∙ ap (λ (xs : List ItemData). part_of e.first e.end xs) (items_said items)

    entries_said : (es : List FormEntry) → map (entry_given given) es ≡ map entry_of (map (entry_said said) es)
    entries_said [] = refl
    entries_said (e ∷ es) = rw (part_said e, entries_said es) refl

pub form_given : (f : Form) → given_by f ≡ given_said (form_said f)
form_given f = rw (entries_said f.bytes.items f.items.items f.entries.items) refl
