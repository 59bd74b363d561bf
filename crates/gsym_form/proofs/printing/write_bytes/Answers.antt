-- `gsym_form::printing::write_bytes`: up to a byte that doesn't stand as it is, and from behind it on.
-- Assumes nothing.
use Rattle.std.specs.List.{flat_map}
use Rattle.gsym_form.specs.Printed.{text_byte}
use Rattle.gsym_output.proofs.Fronts.{leads_on, leads_cut, leads_end, writes_err}
use Rattle.gsym_form.proofs.TextParts.{plain_at, byte_at, nothing_at}
use Rattle.gsym_form.proofs.printing.write_bytes.Goals as goal

pub returns-in_err-write_text : goal.returns-in_err-write_text
returns-in_err-write_text g c =
    let a = g.W.Write.contents c.args.out.now in
    let b = g.W.Write.contents c.loop-rest.out in
    let d = g.W.Write.contents c.write_text.new.out in
    let all = flat_map text_byte c.args.bytes.now in
    let from = c.split_at.result.1.now in
    writes_err a d c.from_residual.result all c.from_residual.ensures.0
    (leads_cut a b d c.split_at.result.0.now (flat_map text_byte from) (flat_map text_byte c.loop-rest.rest.now) all
    c.loop-rest.invariant
    (plain_at c.loop-rest.rest.now c.split_at.result.0.now from c.plain_len.result c.plain_len.ensures.value
    c.split_at.ensures.front c.split_at.ensures.back)
    c.in_err-write_text.ensures)

pub returns-in_default : goal.returns-in_default
returns-in_default g c =
    let a = g.W.Write.contents c.args.out.now in
    let b = g.W.Write.contents c.loop-rest.out in
    let d = g.W.Write.contents c.write_text.new.out in
    let all = flat_map text_byte c.args.bytes.now in
    let from = c.split_at.result.1.now in
    leads_end a d (flat_map text_byte from) all
    (leads_on a b d c.split_at.result.0.now (flat_map text_byte from) (flat_map text_byte c.loop-rest.rest.now) all
    c.loop-rest.invariant
    (plain_at c.loop-rest.rest.now c.split_at.result.0.now from c.plain_len.result c.plain_len.ensures.value
    c.split_at.ensures.front c.split_at.ensures.back)
    c.in_ok-write_text.ensures)
    (nothing_at from c.in_default.ensures.cases)

pub returns-in_err-write_byte : goal.returns-in_err-write_byte
returns-in_err-write_byte g c =
    let a = g.W.Write.contents c.args.out.now in
    let b = g.W.Write.contents c.loop-rest.out in
    let d = g.W.Write.contents c.write_text.new.out in
    let e = g.W.Write.contents c.write_byte.new.out in
    let all = flat_map text_byte c.args.bytes.now in
    let from = c.split_at.result.1.now in
    writes_err a e c.from_residual-in_err-write_byte.result all c.from_residual-in_err-write_byte.ensures.0
    (leads_cut a d e (text_byte c.in-Some.byte.now) (flat_map text_byte c.in-Some.behind.now) (flat_map text_byte from)
    all
    (leads_on a b d c.split_at.result.0.now (flat_map text_byte from) (flat_map text_byte c.loop-rest.rest.now) all
    c.loop-rest.invariant
    (plain_at c.loop-rest.rest.now c.split_at.result.0.now from c.plain_len.result c.plain_len.ensures.value
    c.split_at.ensures.front c.split_at.ensures.back)
    c.in_ok-write_text.ensures)
    (byte_at from c.in-Some.behind.now c.in-Some.byte.now c.in-Some.ensures.cases.0) c.in_err-write_byte.ensures)

pub loop-rest-preserved : goal.loop-rest-preserved
loop-rest-preserved g c =
    let a = g.W.Write.contents c.args.out.now in
    let b = g.W.Write.contents c.loop-rest.out in
    let d = g.W.Write.contents c.write_text.new.out in
    let e = g.W.Write.contents c.write_byte.new.out in
    let all = flat_map text_byte c.args.bytes.now in
    let from = c.split_at.result.1.now in
    leads_on a d e (text_byte c.in-Some.byte.now) (flat_map text_byte c.in-Some.behind.now) (flat_map text_byte from)
    all
    (leads_on a b d c.split_at.result.0.now (flat_map text_byte from) (flat_map text_byte c.loop-rest.rest.now) all
    c.loop-rest.invariant
    (plain_at c.loop-rest.rest.now c.split_at.result.0.now from c.plain_len.result c.plain_len.ensures.value
    c.split_at.ensures.front c.split_at.ensures.back)
    c.in_ok-write_text.ensures)
    (byte_at from c.in-Some.behind.now c.in-Some.byte.now c.in-Some.ensures.cases.0) c.in_ok-write_byte.ensures
