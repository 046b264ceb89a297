-- `write_reply` meets its contract. Assumes nothing.
use Rattle.lines.specs.Text.{text}
use Rattle.lines.proofs.Putting.{begun_none, key_fits, key_put, text_fits, text_put, reply_filled, decimal_short, whole}
use native.Mathlib.Omega.{arith}
use Rattle.lines.proofs.writing.write_reply.Goals as goal

pub put_keyed-a-requires : goal.put_keyed-a-requires
put_keyed-a-requires c = omega (
  arith,
  c.if-out-lt-LINE_ROOM.false,
  decimal_short c.from.result,
)

pub put_keyed-b-requires : goal.put_keyed-b-requires
put_keyed-b-requires c = key_fits (key_put (begun_none _) (text "answer=") c.args.reply.answer (rw c.from.ensures at c.put_keyed-a.ensures)) (text
    " phase=") c.from-2.result (omega arith) c.if-out-lt-LINE_ROOM.false

pub put_keyed-c-requires : goal.put_keyed-c-requires
put_keyed-c-requires c = key_fits (key_put (key_put (begun_none _) (text "answer=") c.args.reply.answer (rw c.from.ensures at c.put_keyed-a.ensures)) (text " phase=") c.args.reply.event.phase (rw c.from-2.ensures at c.put_keyed-b.ensures)) (text " stage=") c.from-3.result
    (omega arith) c.if-out-lt-LINE_ROOM.false

pub put_keyed-d-requires : goal.put_keyed-d-requires
put_keyed-d-requires c = key_fits (key_put (key_put (key_put (begun_none _) (text "answer=") c.args.reply.answer (rw c.from.ensures at c.put_keyed-a.ensures)) (text " phase=") c.args.reply.event.phase (rw c.from-2.ensures at c.put_keyed-b.ensures)) (text " stage=") c.args.reply.event.stage (rw c.from-3.ensures at c.put_keyed-c.ensures)) (text " number=") c.from-4.result (omega arith) c.if-out-lt-LINE_ROOM.false

pub put_keyed-e-requires : goal.put_keyed-e-requires
put_keyed-e-requires c = key_fits (key_put (key_put (key_put (key_put (begun_none _) (text "answer=") c.args.reply.answer (rw c.from.ensures at c.put_keyed-a.ensures)) (text " phase=")
    c.args.reply.event.phase (rw c.from-2.ensures at c.put_keyed-b.ensures)) (text " stage=") c.args.reply.event.stage (rw c.from-3.ensures at c.put_keyed-c.ensures)) (text " number=") c.get-n.result (rw c.from-4.ensures at c.put_keyed-d.ensures)) (text " status=") c.from-5.result (omega arith) c.if-out-lt-LINE_ROOM.false

pub put_text-requires : goal.put_text-requires
put_text-requires c = text_fits (key_put (key_put (key_put (key_put (key_put (begun_none _) (text "answer=") c.args.reply.answer (rw c.from.ensures at c.put_keyed-a.ensures)) (text " phase=") c.args.reply.event.phase (rw c.from-2.ensures at c.put_keyed-b.ensures))
    (text " stage=") c.args.reply.event.stage (rw c.from-3.ensures at c.put_keyed-c.ensures)) (text " number=") c.get-n.result (rw c.from-4.ensures at c.put_keyed-d.ensures)) (text " status=") c.code-s.result (rw c.from-5.ensures at c.put_keyed-e.ensures)) (text "\n") (omega arith) c.if-out-lt-LINE_ROOM.false

pub returns : goal.returns
returns c = whole (text_put (key_put (key_put (key_put (key_put (key_put (begun_none _) (text "answer=") c.args.reply.answer (rw c.from.ensures at c.put_keyed-a.ensures)) (text " phase=") c.args.reply.event.phase (rw c.from-2.ensures at c.put_keyed-b.ensures)) (text " stage=") c.args.reply.event.stage (rw c.from-3.ensures at c.put_keyed-c.ensures)) (text " number=") c.get-n.result (rw c.from-4.ensures at c.put_keyed-d.ensures)) (text " status=") c.code-s.result (rw c.from-5.ensures at c.put_keyed-e.ensures)) c.put_text.ensures) (reply_filled _ _ _ c.get-n.ensures c.code-s.ensures) (omega arith) c.if-out-lt-LINE_ROOM.false
