-- `gsym_parser::GsymContext::find_addr` meets its contract: what the search gives, in the words of RULES.
-- Assumes nothing.
use Rattle.std.proofs.Common.{arith, refl, sym, ap, rules, ◌<◌, ◌^◌, ◌+◌, ◌∙◌}
use Rattle.gsym_parser.specs.View.{view}
use Rattle.gsym_parser.proofs.Finding as law
use Rattle.gsym_parser.proofs.GsymContext.find_addr.Goals as goal

pub returns-in_err-index-clause-only : goal.returns-in_err-index-clause-only
returns-in_err-index-clause-only c =
    rw c.from_residual.ensures
    (law.none_only (view c.args.self.now) c.args.addr (sym c.in_err-index.was ∙ c.search.ensures))

pub returns-in_err-index-clause-lands : goal.returns-in_err-index-clause-lands
returns-in_err-index-clause-lands c =
    rw c.from_residual.ensures
    (law.none_lands (view c.args.self.now) c.args.addr (sym c.in_err-index.was ∙ c.search.ensures))

pub returns-in_err-index-clause-none : goal.returns-in_err-index-clause-none
returns-in_err-index-clause-none c = (
  λ e. law.none_nowhere (view c.args.self.now) c.args.addr (sym c.in_err-index.was ∙ c.search.ensures),
  λ n. rw c.from_residual.ensures refl,
)

pub overflow_add-result : goal.overflow_add-result
overflow_add-result c =
    let fits : c.args.addr.0 < 2 ^ 64 = search rules in
    omega (
      arith,
      fits,
      law.search_below
          (view c.args.self.now) c.args.addr _ _ (sym c.in_ok-index.was ∙ c.search.ensures),
    )

pub returns-clause-allowed : goal.returns-clause-allowed
returns-clause-allowed c =
    law.search_allowed (view c.args.self.now) c.args.addr _ _ (sym c.in_ok-index.was ∙ c.search.ensures)

pub returns-clause-below : goal.returns-clause-below
returns-clause-below c =
    law.search_below (view c.args.self.now) c.args.addr _ _ (sym c.in_ok-index.was ∙ c.search.ensures)

pub returns-clause-first : goal.returns-clause-first
returns-clause-first c =
    law.search_first (view c.args.self.now) c.args.addr _ _ (sym c.in_ok-index.was ∙ c.search.ensures)

pub returns-clause-only : goal.returns-clause-only
returns-clause-only c = law.some_only (view c.args.self.now) c.args.addr _ _ (sym c.in_ok-index.was ∙ c.search.ensures)

pub returns-clause-lands : goal.returns-clause-lands
returns-clause-lands c =
    law.some_lands (view c.args.self.now) c.args.addr _ _ (sym c.in_ok-index.was ∙ c.search.ensures)

pub returns-clause-none : goal.returns-clause-none
returns-clause-none c = (
  λ e. absurd cc,
  λ n. absurd (law.some_nowhere (view c.args.self.now) c.args.addr _ _ (sym c.in_ok-index.was ∙ c.search.ensures) n),
)

pub returns-clause-entry : goal.returns-clause-entry
returns-clause-entry c =
    let e = sym c.in_ok-index.was ∙ c.search.ensures in (
      law.search_symbol (view c.args.self.now) c.args.addr _ _ e (omega arith),
      ap (λ n. c.args.self.now.tables.base.0 + n) (law.search_entry (view c.args.self.now) c.args.addr _ _ e),
    )

pub returns-clause-exact : goal.returns-clause-exact
returns-clause-exact c =
    law.search_some (view c.args.self.now) c.args.addr _ _ (sym c.in_ok-index.was ∙ c.search.ensures)
