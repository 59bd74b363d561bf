-- The numbers of what a check finds.
-- Assumes nothing.
use Rattle.std.proofs.Common.{◌≡◌, inl, inr, ⊎_elim, ℕ, ◌≤◌, Err, Ok, Result, IfErr, List, Bool, refl, subst, arith}
use Rattle.gsym_types.specs.declared.Address.{Address}
use Rattle.gsym_types.specs.declared.Refusal.{Refusal}
use Rattle.gsym_types.specs.Refusal.{number_of}
use Rattle.gsym_leb128.specs.declared.Cause.TheVariants.{Short, Wide}
use Rattle.gsym_inline.specs.Steps.{check_steps}
use Rattle.gsym_inline.specs.FirstFault.{FirstFault}
use Rattle.gsym_inline.specs.Checked.{checked_tree, IsOfTreeCheck}
use Rattle.gsym_inline.proofs.CheckedFaults.{check_number}
use Rattle.gsym_inline.proofs.CheckedSteps.{check_fault}
use Rattle.gsym_parser.specs.View.{View}
use Rattle.gsym_parser.specs.Items.{ItemData}
use Rattle.gsym_parser.specs.Unopened.{
  Unopened,
  no_magic,
  other_magic,
  no_version,
  other_version,
  no_header,
  no_offsets,
  no_files,
  no_strings,
}
use Rattle.gsym_resolver.specs.EntryData.{EntryData}
use Rattle.gsym_resolver.specs.SharedTables.{SharedTables}
use Rattle.gsym_verify.specs.Faults.{LineFault, no_header as no_line_header, stopped}
use Rattle.gsym_verify.specs.Faults.{ItemFault, in_line, in_tree}
use Rattle.gsym_verify.specs.Faults.{ListFault, in_item, open_list}
use Rattle.gsym_verify.specs.Faults.{DataFault, sum_too_large, unnamed, in_list}
use Rattle.gsym_verify.specs.Faults.{EntryFault, falls, no_info, in_data}
use Rattle.gsym_verify.specs.Faults.{IsFirstFault, unopened, offset_size, in_entry}
use Rattle.gsym_verify.specs.Finding.{IsOfEntry, IsOfCheck}
use Rattle.gsym_verify.specs.declared.finding.Fault.{Fault}
use Rattle.gsym_verify.specs.declared.finding.Finding.{Finding}

tree-number : (symbol : ℕ) (bytes : List ℕ) (r : Refusal) → FirstFault 0 (check_steps symbol bytes) r
    → IsOfTreeCheck r
tree-number symbol bytes r F = go (checked_tree symbol bytes) refl ((check_fault symbol bytes r).1 F)
  where
    go : (x : Result (Unit {0}) Refusal) → x ≡ checked_tree symbol bytes → checked_tree symbol bytes ≡ Err r
        → IsOfTreeCheck r
    go x e f = subst (λ (y : Result (Unit {0}) Refusal). IfErr y IsOfTreeCheck) f (check_number symbol bytes _ refl)

line-number : (symbol : Address) (bytes : List ℕ) (f : Fault) → LineFault symbol bytes f → IsOfEntry f
line-number symbol bytes f (no_line_header Short u) = inr (inl (omega arith, omega arith))
line-number symbol bytes f (no_line_header Wide u) = inr (inr (inl refl))
line-number symbol bytes f (stopped s) = inr (inr (inr (omega arith, omega arith)))

item-number : (symbol : Address) (item : ItemData) (f : Fault) → ItemFault symbol item f → IsOfEntry f
item-number symbol item f (in_line k l) = line-number symbol item.bytes f l
item-number symbol item f (in_tree {r} k F) =
    ⊎_elim
    (λ (n : (10 ≤ number_of r) × (number_of r ≤ 13)). inr (inl (omega (arith, n.0), n.1)))
    (λ (n : number_of r ≡ 15). inr (inr (inl n)))
    (tree-number symbol.0 item.bytes r F)

list-number : (symbol : Address) (items : List ItemData) (closed : Bool) (f : Fault)
    → ListFault symbol items closed f → IsOfEntry f
list-number symbol items closed f (in_item F) = item-number symbol F.this f F.holds
list-number symbol items closed f (open_list a c) = inr (inr (inr (omega arith, omega arith)))

data-number : (shared : SharedTables) (symbol : ℕ) (said : EntryData) (f : Fault)
    → DataFault shared symbol said f → IsOfEntry f
data-number shared symbol said f (sum_too_large l) = inr (inr (inr (omega arith, omega arith)))
data-number shared symbol said f (unnamed l n) = inl (omega arith, omega arith)
data-number shared symbol said f (in_list l n p) = list-number _ said.items said.closed f p

entry-number : (v : View) (i : ℕ) (f : Fault) → EntryFault v i f → IsOfEntry f
entry-number v i f (falls j e l) = inr (inr (inr (omega arith, omega arith)))
entry-number v i f (no_info r n) = inl (omega arith, omega arith)
entry-number v i f (in_data r said e p) = data-number _ _ said f p

tables-number : (file : List ℕ) (r : Refusal) → Unopened file r → (2 ≤ number_of r) × (number_of r ≤ 4)
tables-number file r (no_magic l) = (omega arith, omega arith)
tables-number file r (other_magic m a b) = (omega arith, omega arith)
tables-number file r (no_version a l) = (omega arith, omega arith)
tables-number file r (other_version n a b d) = (omega arith, omega arith)
tables-number file r (no_header a b l) = (omega arith, omega arith)
tables-number file r (no_offsets h l) = (omega arith, omega arith)
tables-number file r (no_files n h e l) = (omega arith, omega arith)
tables-number file r (no_strings n h e k l) = (omega arith, omega arith)

pub first_number : (file : List ℕ) (x : Finding) → IsFirstFault file x → IsOfCheck x
first_number file x (unopened {r} u) = tables-number file r u
first_number file x (offset_size v e w) = tt
first_number file x (in_entry {i} {f} v e w l g s) = entry-number v i f s

pub check_numbered : (file : List ℕ) (x : Result (Unit {0}) Finding) → IfErr x (λ f. IsFirstFault file f)
    → IfErr x IsOfCheck
check_numbered file (Ok u) h = tt
check_numbered file (Err f) h = first_number file f h
