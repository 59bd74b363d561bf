-- What isn't asked for changes nothing: where no frames are wanted, the items behind a row and the room; without both
-- options, the room.
-- Assumes nothing.
use Rattle.std.proofs.Common.{◌≡◌, ℕ, ◌==◌, ◌&&◌, Bool, true, false, List, [], ◌∷◌, refl, arith, Ok, Some}
use Rattle.gsym_reads.proofs.Steps.{bind_same}
use Rattle.gsym_types.specs.declared.Address.{Address}
use Rattle.gsym_types.specs.declared.InlineFrame.{InlineFrame}
use Rattle.gsym_linetab.specs.declared.LineTableRow.{LineTableRow}
use Rattle.gsym_parser.specs.Header.{opened_of}
use Rattle.gsym_parser.specs.Items.{ItemData, items_of}
use Rattle.gsym_parser.specs.View.{View}
use Rattle.gsym_resolver.specs.Known.{question, Known, knowing, nothing, row_after, frames_after, read_items}
use Rattle.gsym_resolver.specs.Lookup.{Landing, landing_at, with_code, lookup_of, plain_options}

frames_unasked :
    (symbol addr : Address) (room : ℕ) (item : ItemData) (b : Bool) → (item.kind == 2) ≡ b →
    frames_after (question symbol addr room false) item [] ≡ Ok []
frames_unasked symbol addr room item true h = rw h refl
frames_unasked symbol addr room item false h = rw h refl

pub row_stays :
    (symbol addr : Address) (room : ℕ) (items : List ItemData) (row : LineTableRow) →
    read_items (question symbol addr room false) items (knowing (Some row) []) ≡ Ok (knowing (Some row) [])
unfolding read_items
row_stays symbol addr room [] row = refl
row_stays symbol addr room (item ∷ items) row =
    rw (frames_unasked symbol addr room item _ refl) (row_stays symbol addr room items row)

-- ---- the room

frames_room :
    (symbol addr : Address) (room : ℕ) (item : ItemData) (fs : List InlineFrame) →
    frames_after (question symbol addr room false) item fs ≡ frames_after (question symbol addr 0 false) item fs
frames_room symbol addr room item [] = refl
frames_room symbol addr room item (f ∷ fs) = refl

items_room :
    (symbol addr : Address) (room : ℕ) (items : List ItemData) (known : Known) →
    read_items (question symbol addr room false) items known ≡ read_items (question symbol addr 0 false) items known
unfolding read_items
items_room symbol addr room [] known = refl
items_room symbol addr room (item ∷ items) known =
    bind_same (row_after (question symbol addr 0 false) item known.row) _ _ (λ row _.
    rw (frames_room symbol addr room item known.frames)
    (bind_same (frames_after (question symbol addr 0 false) item known.frames) _ _ (λ frames _.
    items_room symbol addr room items (knowing row frames))))

code_room :
    (v : View) (e : Landing) (addr : Address) (room : ℕ) → with_code v e addr false room ≡ with_code v e addr false 0
unfolding with_code
code_room v e addr room = rw (items_room e.symbol addr room (items_of e.bytes) nothing) refl

-- without both options
pub lookup_unasked :
    (file : List ℕ) (addr : Address) (code inlining : Bool) (room : ℕ) → (code && inlining) ≡ false →
    lookup_of file addr (record { code_info = code; inlining = inlining }) room
    ≡ lookup_of file addr (plain_options code) 0
unfolding lookup_of
lookup_unasked file addr false inlining room h = refl
lookup_unasked file addr true false room h =
    bind_same (opened_of file) _ _ (λ v _. bind_same (landing_at v addr) _ _ (λ e _. code_room v e addr room))
lookup_unasked file addr true true room h = let z : ◌≡◌ {A = ℕ} 0 1 = cc in absurd (omega (arith, z))
