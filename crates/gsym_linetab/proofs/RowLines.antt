-- The line of a row is below 2^32: the machine keeps it modulo that.
-- Assumes nothing.
use Rattle.std.proofs.Common.{ℕ, zero, suc, ◌+◌, ◌-◌, ◌^◌, ◌<◌, Bool, true, false, eqb, ltb, List, [], ◌∷◌, arith}
use Rattle.std.proofs.Common.{Some, None, Option, Ok, Err, Result, if◌then◌else◌}
use Rattle.std.specs.Prelude.{not, pos}
use Rattle.std.specs.List.{AllByRecursion, slice_get}
use Rattle.std.specs.Ordering.{int_eq}
use Rattle.std.specs.Result.{IfOk}
use Rattle.gsym_reads.specs.Steps.{◌>>=◌, given}
use Rattle.gsym_reads.proofs.Steps.{through, through_need, by_choice}
use Rattle.gsym_types.specs.declared.Address.{Address}
use Rattle.gsym_leb128.specs.Answers.{unsigned_at, signed_at}
use Rattle.gsym_leb128.specs.declared.Cause.{Cause}
use Rattle.gsym_linetab.specs.declared.LineTableHeader.{LineTableHeader}
use Rattle.gsym_linetab.specs.declared.LineTableRow.{LineTableRow}
use Rattle.gsym_linetab.specs.declared.LineState.{LineState}
use Rattle.gsym_linetab.specs.declared.Ending.{Ending}
use Rattle.gsym_linetab.specs.declared.Ending.TheVariants.{Stopped, UsedUp}
use Rattle.gsym_linetab.specs.declared.RunResult.{RunResult}
use Rattle.gsym_linetab.specs.declared.RunResult.TheVariants as run
use Rattle.gsym_linetab.specs.Machine.{header_of, start_row, operand, set_file, advance_pc, advance_line, range_of}
use Rattle.gsym_linetab.specs.Machine.{special_of, no_row, a_row, step_of}
use Rattle.gsym_linetab.specs.Rows.{Run, after, within, run_of, row_among, row_in, table_of, line_row}

-- ---- what is below 2^32

abbrev Small : LineTableRow → Type 0
Small row = row.file_line.0 < 2 ^ 32

abbrev HeaderSmall : Result (LineTableHeader × ℕ) Cause → Type 0
HeaderSmall (Ok (h, n)) = h.first_line.0 < 2 ^ 32
HeaderSmall (Err c) = Unit {0}

abbrev StateSmall : Result LineState Ending → Type 0
StateSmall (Ok t) = Small t.row
StateSmall (Err e) = Unit {0}

abbrev StepSmall : Result RunResult Ending → Type 0
StepSmall (Ok (run.Ok t)) = Small t.row
StepSmall (Ok (run.NewRow t)) = Small t.row
StepSmall (Err e) = Unit {0}

abbrev FoundSmall : Option LineTableRow → Type 0
FoundSmall (Some row) = Small row
FoundSmall None = Unit {0}

-- the lines of a run: of each row that it makes, and of the state at its end
abbrev pub RunSmall : Run → Type 0
RunSmall ran = AllByRecursion Small ran.rows × Small ran.final

abbrev pub ReadSmall : Result (Option LineTableRow) Cause → Type 0
ReadSmall (Ok (Some row)) = Small row
ReadSmall (Ok None) = Unit {0}
ReadSmall (Err c) = Unit {0}

-- ---- the header

header_small : (s : List ℕ) (at : ℕ) → HeaderSmall (header_of s at)
unfolding header_of
header_small s at =
    through HeaderSmall (signed_at s at) _ (λ c _. tt) (λ min _.
    through HeaderSmall (signed_at s min.1) _ (λ c _. tt) (λ max _.
    through HeaderSmall (unsigned_at s max.1) _ (λ c _. tt) (λ line _. omega arith)))

-- ---- one opcode

no_row_small : (x : Result LineState Ending) → StateSmall x → StepSmall (no_row x)
no_row_small (Ok t) l = l
no_row_small (Err e) l = tt

a_row_small : (x : Result LineState Ending) → StateSmall x → StepSmall (a_row x)
a_row_small (Ok t) l = l
a_row_small (Err e) l = tt

module _ (h : LineTableHeader) (ops : List ℕ) where
  module _ (r : LineTableRow) (at : ℕ) where
    file_small : Small r → StateSmall (set_file ops r at)
    unfolding set_file
    file_small l = through StateSmall (operand (unsigned_at ops at)) _ (λ e _. tt) (λ file _. l)

    address_small : Small r → StateSmall (advance_pc ops r at)
    unfolding advance_pc
    address_small l = through StateSmall (operand (unsigned_at ops at)) _ (λ e _. tt) (λ advance _. l)

    line_small : StateSmall (advance_line ops r at)
    unfolding advance_line
    line_small = through StateSmall (operand (signed_at ops at)) _ (λ e _. tt) (λ change _. omega arith)

    special_small : (a : ℕ) → StateSmall (special_of h r a at)
    unfolding special_of
    special_small a =
        through_need StateSmall (not (int_eq (range_of h) (pos 0))) Stopped _ tt (λ _. omega arith)

  step_small : (t : LineState) → Small t.row → StepSmall (step_of h ops t)
  unfolding step_of
  step_small t l =
      through StepSmall (given UsedUp (slice_get ops t.at)) _ (λ e _. tt) (λ op _.
      by_choice StepSmall (eqb op 0) _ _ (λ _. tt) (λ _.
      by_choice StepSmall (eqb op 1) _ _ (λ _. no_row_small _ (file_small t.row (t.at + 1) l)) (λ _.
      by_choice StepSmall (eqb op 2) _ _ (λ _. a_row_small _ (address_small t.row (t.at + 1) l)) (λ _.
      by_choice StepSmall (eqb op 3) _ _ (λ _. no_row_small _ (line_small t.row (t.at + 1))) (λ _.
      a_row_small _ (special_small t.row (t.at + 1) (op - 4)))))))

  -- ---- a whole program

  within_small : (k : ℕ) (t : LineState) → Small t.row → RunSmall (within k h ops t)
  unfolding within
  within_small zero t l = (tt, l)
  within_small (suc k) t l = go (within_small k) (step_of h ops t) (step_small t l)
    where
      go :
          ((q : LineState) → Small q.row → RunSmall (within k h ops q)) → (x : Result RunResult Ending) →
          StepSmall x → RunSmall (after (λ q. within k h ops q) t.row x)
      go rest (Ok (run.Ok q)) s = rest q s
      go rest (Ok (run.NewRow q)) s = let more = rest q s in ((s, more.0), more.1)
      go rest (Err e) s = (tt, l)

  run_small : (t : LineState) → Small t.row → RunSmall (run_of h ops t)
  unfolding run_of
  run_small t l = within_small _ t l

-- each row that a table makes, and the state at its program's end, have a line below 2^32
pub table_small : (s : List ℕ) (symbol : Address) → IfOk (table_of s symbol) RunSmall
unfolding table_of
table_small s symbol = go (header_of s 0) (header_small s 0)
  where
    go :
        (x : Result (LineTableHeader × ℕ) Cause) → HeaderSmall x →
        IfOk (x >>= λ p. Ok (run_of p.0 s (record { row = start_row p.0 symbol; at = p.1 }))) RunSmall
    go (Ok (h, n)) l = run_small h s (record { row = start_row h symbol; at = n }) l
    go (Err c) l = tt

-- ---- the row of an address

module _ (addr : Address) (final : LineTableRow) (l : Small final) where
  among_small :
      (before : Option LineTableRow) (rows : List LineTableRow) → FoundSmall before → AllByRecursion Small rows →
      FoundSmall (row_among addr final before rows)
  unfolding row_among
  among_small None [] b m = tt
  among_small (Some row) [] b m = l
  among_small before (next ∷ rest) b m =
      go (ltb addr.0 next.addr.0) (among_small (Some next) rest m.0 m.1)
    where
      go :
          (t : Bool) → FoundSmall (row_among addr final (Some next) rest) →
          FoundSmall (if t then before else row_among addr final (Some next) rest)
      go true r = b
      go false r = r

read_small : (x : Option LineTableRow) → FoundSmall x → ReadSmall (Ok x)
read_small (Some row) l = l
read_small None l = tt

-- the row of an address in a table has a line below 2^32
pub line_row_small : (s : List ℕ) (symbol addr : Address) → ReadSmall (line_row s symbol addr)
unfolding line_row
line_row_small s symbol addr = go (table_of s symbol) (table_small s symbol)
  where
    go : (x : Result Run Cause) → IfOk x RunSmall → ReadSmall (x >>= λ ran. Ok (row_in ran addr))
    go (Ok ran) l =
        read_small (row_in ran addr) (among_small addr ran.final l.1 None ran.rows tt l.0)
    go (Err c) l = tt
