-- `gsym::lookups::lookup` meets its contract: what follows from the equation with the definition.
-- Assumes nothing.
use Rattle.gsym.proofs.Promised.{promised}
use Rattle.gsym.proofs.lookups.lookup.Goals as goal

pub returns-clause-refused : goal.returns-clause-refused
returns-clause-refused c =
    let e = c.lookup_by.ensures in (promised _ _ _ _ _ _ e.exact e.stays e.kept e.bare).refused

pub returns-clause-unmet : goal.returns-clause-unmet
returns-clause-unmet c =
    let e = c.lookup_by.ensures in (promised _ _ _ _ _ _ e.exact e.stays e.kept e.bare).unmet

pub returns-clause-blocks : goal.returns-clause-blocks
returns-clause-blocks c =
    let e = c.lookup_by.ensures in (promised _ _ _ _ _ _ e.exact e.stays e.kept e.bare).blocks

pub returns-clause-header : goal.returns-clause-header
returns-clause-header c =
    let e = c.lookup_by.ensures in (promised _ _ _ _ _ _ e.exact e.stays e.kept e.bare).header

pub returns-clause-wide : goal.returns-clause-wide
returns-clause-wide c =
    let e = c.lookup_by.ensures in (promised _ _ _ _ _ _ e.exact e.stays e.kept e.bare).wide

pub returns-clause-no_code_info : goal.returns-clause-no_code_info
returns-clause-no_code_info c =
    let e = c.lookup_by.ensures in (promised _ _ _ _ _ _ e.exact e.stays e.kept e.bare).no_code_info

pub returns-clause-no_inlining : goal.returns-clause-no_inlining
returns-clause-no_inlining c =
    let e = c.lookup_by.ensures in (promised _ _ _ _ _ _ e.exact e.stays e.kept e.bare).no_inlining

pub returns-clause-answered : goal.returns-clause-answered
returns-clause-answered c =
    let e = c.lookup_by.ensures in (promised _ _ _ _ _ _ e.exact e.stays e.kept e.bare).answered

pub returns-clause-listed : goal.returns-clause-listed
returns-clause-listed c =
    let e = c.lookup_by.ensures in (promised _ _ _ _ _ _ e.exact e.stays e.kept e.bare).listed

pub returns-clause-covered : goal.returns-clause-covered
returns-clause-covered c =
    let e = c.lookup_by.ensures in (promised _ _ _ _ _ _ e.exact e.stays e.kept e.bare).covered

pub returns-clause-below : goal.returns-clause-below
returns-clause-below c =
    let e = c.lookup_by.ensures in (promised _ _ _ _ _ _ e.exact e.stays e.kept e.bare).below

pub returns-clause-name : goal.returns-clause-name
returns-clause-name c =
    let e = c.lookup_by.ensures in (promised _ _ _ _ _ _ e.exact e.stays e.kept e.bare).name

pub returns-clause-names : goal.returns-clause-names
returns-clause-names c =
    let e = c.lookup_by.ensures in (promised _ _ _ _ _ _ e.exact e.stays e.kept e.bare).names

pub returns-clause-within : goal.returns-clause-within
returns-clause-within c =
    let e = c.lookup_by.ensures in (promised _ _ _ _ _ _ e.exact e.stays e.kept e.bare).within
