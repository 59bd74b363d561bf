-- `gsym_writer::judge::has_no_end`: an item more, one of type 0, and none.
-- Assumes nothing.
use Rattle.std.proofs.Common.{◌∙◌, sym}
use Rattle.std.proofs.lemmas.List.Elements.{All-more}
use Rattle.gsym_parser.specs.declared.items.Item.{Item}
use Rattle.gsym_parser.specs.Items.{item_view}
use Rattle.gsym_layout.specs.Writable.{IsOf32}
use Rattle.gsym_writer.specs.Writing.{no_end}
use Rattle.gsym_writer.proofs.Left.{no_item}
use Rattle.gsym_writer.proofs.Judged.{all_more, all_fails, all_end, all_taken}
use Rattle.gsym_writer.proofs.judge.has_no_end.Goals as goal

pub returns-then-not-is_no_end-clause-exact : goal.returns-then-not-is_no_end-clause-exact
returns-then-not-is_no_end-clause-exact c =
    sym (all_fails no_end item_view c.args.items.now c.loop-item.item-index no_item c.loop-item-test.true
    (sym c.if-not-is_no_end.ensures.exact)) ∙ c.loop-item.invariant.exact

pub loop-item-preserved : goal.loop-item-preserved
loop-item-preserved c = record {
  exact =
      sym (all_more no_end item_view c.args.items.now c.loop-item.item-index no_item c.loop-item-test.true
      (sym c.if-not-is_no_end.ensures.exact)) ∙ c.loop-item.invariant.exact;
  typed =
      All-more (λ (item : Item). IsOf32 item.kind) c.args.items.now c.loop-item.item-index no_item
      c.loop-item-test.true c.loop-item.invariant.typed c.is_no_end.ensures.typed;
}

pub returns-clause-exact : goal.returns-clause-exact
returns-clause-exact c =
    sym (all_end no_end item_view c.args.items.now c.loop-item.item-index c.loop-item-test.false)
    ∙ c.loop-item.invariant.exact

pub returns-clause-typed : goal.returns-clause-typed
returns-clause-typed c =
    all_taken (λ item. IsOf32 item.kind) item_view c.args.items.now c.loop-item.item-index c.loop-item-test.false
    c.loop-item.invariant.typed
