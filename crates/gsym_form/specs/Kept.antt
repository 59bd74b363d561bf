-- What the reader of a text keeps is what was said so far (RULES, "A file as text").
-- Assumes nothing.
use Rattle.std.specs.Prelude.{◌≡◌, ℕ, ◌≤◌, List, [], ◌∷◌, length, Option, Result, Ok, Err}
use Rattle.std.specs.BTreeMap.{BTreeMap, get_by}
use Rattle.std.specs.Cmp.Lexicographic.{slice_cmp}
use Rattle.std.specs.Ordering.{nat_cmp}
use Rattle.std.specs.declared.vec.Vec.{Vec}
use Rattle.gsym_form.specs.declared.form.FormEntry.{FormEntry}
use Rattle.gsym_form.specs.declared.form.FormItem.{FormItem}
use Rattle.gsym_form.specs.declared.reading.Reading.{Reading}
use Rattle.gsym_form.specs.declared.reading.Stage.{Stage}
use Rattle.gsym_form.specs.declared.reading.Stage.TheVariants.{Before, Within, Behind}
use Rattle.gsym_form.specs.declared.wrong.Wrong.{Wrong}
use Rattle.gsym_form.specs.declared.wrong.Problem.{Problem}
use Rattle.gsym_form.specs.declared.wrong.Problem.TheVariants as problem
use Rattle.gsym_form.specs.declared.wrong.Unread.{Unread}
use Rattle.gsym_form.specs.declared.wrong.Unread.TheVariants.{Memory, Line}
use Rattle.gsym_form.specs.Parsed.{form_said}
use Rattle.gsym_form.specs.Said as said

abbrev pub stage_said : Stage → said.Stage
stage_said Before = said.before
stage_said Within = said.within
stage_said Behind = said.behind

-- the offset of each text
abbrev pub texts_said : {Z : Type 0} → BTreeMap (Vec ℕ Z) ℕ → List ℕ → Option ℕ
texts_said m t = get_by (λ k. slice_cmp nat_cmp t k.items) m

abbrev pub reading_said : Reading → said.Reading
reading_said r = record {
  said = form_said r.form;
  texts = texts_said r.offsets;
  stage = stage_said r.stage;
  has_strings = r.has_strings;
  has_more = r.has_more;
}

-- the bytes of each item end within those of all
abbrev pub AreWithin : ℕ → List FormItem → Type 0
AreWithin n [] = Unit {0}
AreWithin n (item ∷ items) = (item.end ≤ n) × AreWithin n items

-- the items of each entry end within those of all, and those of the last entry where they all do
abbrev pub EndAt : ℕ → List FormEntry → Type 0
EndAt n [] = Unit {0}
EndAt n (e ∷ []) = (e.first ≤ e.end) × (e.end ≡ n)
EndAt n (e ∷ f ∷ es) = (e.end ≤ n) × EndAt n (f ∷ es)

-- what the lists of a form have by their places is there
pub record ArePlaced (bytes : List ℕ) (items : List FormItem) (entries : List FormEntry) : Type 0 where
  pub within : AreWithin (length bytes) items
  pub ended : EndAt (length items) entries

abbrev pub IsWhole : Reading → Type 0
IsWhole r = ArePlaced r.form.bytes.items r.form.items.items r.form.entries.items

-- what ends the reading of a line, with the line's number
abbrev pub unread_of : ℕ → Problem → Unread
unread_of n problem.Memory = Memory
unread_of n (problem.Wrong w) = Line n w

-- what the lines say was read, or the definition's refusal is told, or there was no memory
abbrev pub TellsLines : Result (Unit {0}) Unread → said.Reading → Result said.Reading (ℕ × Wrong) → Type 0
TellsLines (Ok u) after r = r ≡ Ok after
TellsLines (Err Memory) after r = Unit {0}
TellsLines (Err (Line n w)) after r = r ≡ Err (n, w)
