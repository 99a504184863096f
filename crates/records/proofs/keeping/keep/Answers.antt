-- No room, or the words.
use mathlib.Core.Path.{sym, ◌∙◌}
use Rattle.records.proofs.Keeps.{no_room, room_is, with_room}
use Rattle.records.proofs.keeping.keep.Goals as goal

pub returns-then-not-has_room : goal.returns-then-not-has_room
returns-then-not-has_room c = no_room c.args.input.now c.args.written.now c.args.limit c.args.store c.args.output c.args.answer c.args.room.now (sym c.has_room.ensures ∙ c.if-not-has_room.true)

pub written_down-requires : goal.written_down-requires
written_down-requires c = room_is _ _ _ _ _ (sym c.has_room.ensures ∙ c.if-not-has_room.false)

pub returns : goal.returns
returns c = λ es e. with_room c.args.input.now c.args.written.now c.args.limit c.args.store c.args.output c.args.answer c.args.room.now (sym c.has_room.ensures ∙ c.if-not-has_room.false) es e (c.written_down.ensures es e)
