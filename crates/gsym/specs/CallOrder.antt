-- The order in which a user reads an answer: from the innermost call to the symbol.
-- Assumes nothing.
use Rattle.std.specs.Prelude.{Some, List, [], ◌∷◌, ◌++◌, map, reverse}
use Rattle.std.specs.Option.{option_to_list}
use Rattle.gsym_types.specs.declared.Answer.{Answer}
use Rattle.gsym_types.specs.declared.Frame.{Frame}
use Rattle.gsym.specs.declared.chain.Call.{Call}
use Rattle.gsym.specs.declared.chain.CallChain.{CallChain}

-- the symbol, with its position if it has one; and the call of a record
abbrev pub symbol_call : Answer → Call
symbol_call a = record { name = a.name; position = a.position }

abbrev pub record_call : Frame → Call
record_call f = record { name = f.name; position = Some f.position }

-- the last record is the innermost call
abbrev pub calls_in_order : Answer → List Frame → List Call
calls_in_order a records = map record_call (reverse records) ++ symbol_call a ∷ []

-- the calls that are still to come
abbrev pub calls_left : CallChain → List Call
calls_left c = map record_call (reverse c.records.now) ++ option_to_list c.symbol
