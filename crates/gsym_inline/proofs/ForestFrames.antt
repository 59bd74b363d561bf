-- A tree that is there in full gives its frames exactly where it fits and there is room.
-- Assumes nothing.
use Rattle.std.proofs.Common.{Ok, Result, ℕ, ◌+◌, ◌≤◌, List, [], ◌++◌, append_assoc, append-nil, Bool, true, false, not}
use Rattle.std.proofs.Common.{◌≡◌, refl, sym, ap, ◌∙◌, leb, length, length-append, arith, le-leb, if◌then◌else◌}
use Rattle.std.proofs.lemmas.Bool.{leb-true, not-true}
use Rattle.gsym_reads.specs.Steps.{◌>>=◌, ◌>>◌, need}
use Rattle.gsym_reads.proofs.Steps.{bind_ok, need_ok, ok_is}
use Rattle.gsym_inline.proofs.Follows.{then_ok}
use Rattle.gsym_types.specs.declared.InlineFrame.{InlineFrame}
use Rattle.gsym_inline.specs.Tree.{Node, Forest, none, tree}
use Rattle.gsym_inline.specs.Frames.{any_in, child_base, frame_of, named, frames}
use Rattle.gsym_inline.specs.Limits.{most_file}
use Rattle.gsym_inline.proofs.Forests.{any_large, Fits}
use Rattle.gsym_inline.specs.Walk.{counted, with_frame}
use Rattle.gsym_inline.proofs.Forests.{deep_in, node_fits, below_node, forest_frames}
use Rattle.gsym_inline.specs.declared.head.Fault.{Fault}
use Rattle.gsym_inline.specs.declared.head.Fault.TheVariants.{Level, Sum, CallFile, Room}
use Rattle.gsym_inline.specs.Inherited.{Inherited}
use Rattle.gsym_inline.proofs.Numbers.{never}
use Rattle.gsym_inline.proofs.Conditions.{Levels, levels-fit, levels_sound}
use Rattle.gsym_inline.proofs.Trees.{node_frames}

-- ---- what fits gives frames

put-fine :
    (c : Inherited) (f : InlineFrame) (acc : List InlineFrame) → length (acc ++ counted f) ≤ c.room →
    with_frame c.room f acc ≡ Ok (acc ++ counted f)
unfolding with_frame
put-fine c f acc le = rw (le-leb (length (acc ++ counted f)) c.room le) refl

fits-fine :
    (c : Inherited) (self : Node) → c.level ≤ 64 → any_large c.base self.ranges ≡ false → self.file ≤ most_file →
    node_fits c self ≡ Ok tt
unfolding node_fits
fits-fine c self l s f = rw (le-leb c.level 64 l, s, le-leb self.file most_file f) refl

-- one node: its own frame and those below it
node-are :
    (c : Inherited) (self : Node) (children : Forest) (acc : List InlineFrame) (w : Bool) →
    (w ≡ true → (a : List InlineFrame) → length (a ++ frames c.addr (child_base c.base self) children) ≤ c.room →
    forest_frames (below_node c self) children a ≡ Ok (a ++ frames c.addr (child_base c.base self) children)) →
    deep_in (c.level + 1) children ≡ false →
    length (acc ++ (if w then named self ++ frames c.addr (child_base c.base self) children else [])) ≤ c.room →
    (if w
    then (with_frame c.room (frame_of self) acc >>= forest_frames (below_node c self) children)
    else (need (not (deep_in (c.level + 1) children)) Level >> Ok acc))
    ≡ Ok (acc ++ (if w then named self ++ frames c.addr (child_base c.base self) children else []))
node-are c self children acc true ih d le =
    let below = frames c.addr (child_base c.base self) children in
    let l₁ = length-append acc (named self ++ below) in
    let l₂ = length-append (named self) below in
    let l₃ = length-append acc (named self) in
    let l₄ = length-append (acc ++ named self) below in
    ap (λ (x : Result (List InlineFrame) Fault). x >>= forest_frames (below_node c self) children)
    (put-fine c (frame_of self) acc (omega arith))
    ∙ ih refl (acc ++ named self) (omega arith)
    ∙ ap Ok (append_assoc acc (named self) below)
node-are c self children acc false ih d le = rw d (ap Ok (sym (append-nil acc)))

pub frames-fit :
    (t : Forest) (c : Inherited) (acc : List InlineFrame) → Fits c.addr c.base t → Levels c.level t →
    length (acc ++ frames c.addr c.base t) ≤ c.room →
    forest_frames c t acc ≡ Ok (acc ++ frames c.addr c.base t)
unfolding forest_frames frames Fits Levels
frames-fit none c acc F L le = ap Ok (sym (append-nil acc))
frames-fit (tree self children rest) c acc F L le =
    let w = any_in c.addr c.base self.ranges in
    let x = (if w then named self ++ frames c.addr (child_base c.base self) children else []) in
    let l₁ = length-append acc (x ++ frames c.addr c.base rest) in
    let l₂ = length-append x (frames c.addr c.base rest) in
    let l₃ = length-append acc x in
    let l₄ = length-append (acc ++ x) (frames c.addr c.base rest) in
    rw (fits-fine c self L.0 F.0 F.1)
    (ap (λ (y : Result (List InlineFrame) Fault). y >>= forest_frames c rest)
    (node-are c self children acc w (λ h a. frames-fit children (below_node c self) a (F.2 h) L.1)
    (levels-fit (c.level + 1) children L.1) (omega arith))
    ∙ frames-fit rest c (acc ++ x) F.3 L.2 (omega arith)
    ∙ ap Ok (append_assoc acc x (frames c.addr c.base rest)))

-- ---- what gives frames fits

-- frames after those so far, with room for all
pub record Fine (room : ℕ) (acc fs all : List InlineFrame) : Type 0 where
  pub same : all ≡ acc ++ fs
  pub few : length all ≤ room

put-sound :
    (c : Inherited) (f : InlineFrame) (acc b : List InlineFrame) → with_frame c.room f acc ≡ Ok b →
    Fine c.room acc (counted f) b
unfolding with_frame
put-sound c f acc b p =
    let n = need_ok (leb (length (acc ++ counted f)) c.room) Room (Ok (acc ++ counted f)) b p in
    let e = ok_is _ _ n.1 in
    record { same = sym e; few = rw (← e) (leb-true _ _ n.0) }

fine-then :
    {room : ℕ} {acc fs a gs b : List InlineFrame} → Fine room acc fs a → Fine room a gs b → Fine room acc (fs ++ gs) b
fine-then {room} {acc} {fs} {a} {gs} {b} F G = record {
  same = G.same ∙ ap (λ (l : List InlineFrame). l ++ gs) F.same ∙ append_assoc acc fs gs;
  few = G.few;
}

-- a tree that gives frames: it fits, and these are its frames
pub record Sound (c : Inherited) (t : Forest) (acc b : List InlineFrame) : Type 0 where
  pub fits : Fits c.addr c.base t
  pub levels : Levels c.level t
  pub frames-are : Fine c.room acc (frames c.addr c.base t) b

fits-sound :
    (c : Inherited) (self : Node) (u : Unit {0}) → node_fits c self ≡ Ok u →
    (c.level ≤ 64) × (any_large c.base self.ranges ≡ false) × (self.file ≤ most_file)
unfolding node_fits
fits-sound c self u e =
    let l = need_ok (leb c.level 64) Level _ u e in
    let s = need_ok (not (any_large c.base self.ranges)) Sum _ u l.1 in
    (leb-true _ _ l.0, not-true _ s.0, file (leb self.file most_file) refl s.1)
  where
    file : (b : Bool) → leb self.file most_file ≡ b → need b CallFile ≡ Ok u → self.file ≤ most_file
    file true e q = leb-true _ _ e
    file false e q = absurd cc

-- one node, once its own tests are passed
record NodeSound (c : Inherited) (self : Node) (children : Forest) (w : Bool) (acc b : List InlineFrame) : Type 0 where
  fits : w ≡ true → Fits c.addr (child_base c.base self) children
  levels : Levels (c.level + 1) children
  frames-are : Fine c.room acc (if w then named self ++ frames c.addr (child_base c.base self) children else []) b

node-sound :
    (c : Inherited) (self : Node) (children : Forest) (acc b : List InlineFrame) (w : Bool) →
    ((a b : List InlineFrame) → length a ≤ c.room → forest_frames (below_node c self) children a ≡ Ok b →
    Sound (below_node c self) children a b) →
    length acc ≤ c.room →
    (if w
    then (with_frame c.room (frame_of self) acc >>= forest_frames (below_node c self) children)
    else (need (not (deep_in (c.level + 1) children)) Level >> Ok acc))
    ≡ Ok b →
    NodeSound c self children w acc b
node-sound c self children acc b true ih le p =
    let o = bind_ok (with_frame c.room (frame_of self) acc) (forest_frames (below_node c self) children) b p in
    let q = put-sound c (frame_of self) acc o.0 o.1 in
    let r = ih o.0 b q.few o.2 in
    record {
      fits = λ _. r.fits;
      levels = r.levels;
      frames-are = fine-then q r.frames-are;
    }
node-sound c self children acc b false ih le p =
    let o = need_ok (not (deep_in (c.level + 1) children)) Level (Ok acc) b p in
    let e = ok_is _ _ o.1 in
    record {
      fits = λ h. never (let z : ◌≡◌ {A = ℕ} 0 1 = cc in z);
      levels = levels_sound (c.level + 1) children (not-true _ o.0);
      frames-are = record { same = sym e ∙ sym (append-nil acc); few = rw (← e) le };
    }

pub frames-sound :
    (t : Forest) (c : Inherited) (acc b : List InlineFrame) → length acc ≤ c.room → forest_frames c t acc ≡ Ok b →
    Sound c t acc b
unfolding forest_frames frames Fits Levels
frames-sound none c acc b le p =
    let q = ok_is _ _ p in
    record {
      fits = tt;
      levels = tt;
      frames-are = record { same = sym q ∙ sym (append-nil acc); few = rw (← q) le };
    }
frames-sound (tree self children rest) c acc b le p =
    let w = any_in c.addr c.base self.ranges in
    let f = then_ok (node_fits c self) _ b p in
    let j = fits-sound c self f.0 f.1 in
    let o = bind_ok (node_frames c self children acc) (forest_frames c rest) b f.2 in
    let n = node-sound c self children acc o.0 w (frames-sound children (below_node c self)) le o.1 in
    let r = frames-sound rest c o.0 b n.frames-are.few o.2 in
    record {
      fits = (j.1, j.2, n.fits, r.fits);
      levels = (j.0, n.levels, r.levels);
      frames-are = fine-then n.frames-are r.frames-are;
    }
