-- Records replayed, against what is due, as a count: of how many runs, how many replays, how many of them listed, and the differences.
use Rattle.std.specs.Prelude.{ℕ, min, Bool, true, false, ◌&&◌, List, eqb, ℤ, take}
use Rattle.records.specs.declared.Replayed.{Replayed}
use Rattle.records.specs.Numbers.{kind_of, place_of}
use Rattle.records.specs.Replay.{replay}
use Rattle.vectors.specs.declared.replays.Count.{Count}
use Rattle.vectors.specs.Listed.{more}
use Rattle.vectors.specs.Ended.{fresh_store, fresh_output}

abbrev pub fresh : Count
fresh = record { records = 0; replays = 0; listed = 0; differences = 0 }

abbrev pub one_record : Count → Count
one_record t = record { records = more t.records; replays = t.replays; listed = t.listed; differences = t.differences }

abbrev pub one_replay : Count → Count
one_replay t = record { records = t.records; replays = more t.replays; listed = t.listed; differences = t.differences }

abbrev pub one_listed : Count → Count
one_listed t = record { records = t.records; replays = t.replays; listed = more t.listed; differences = t.differences }

-- something that was found, and whether it is what is due
abbrev pub checked : Bool → Count → Count
checked true t = t
checked false t = record { records = t.records; replays = t.replays; listed = t.listed; differences = more t.differences }

-- whether an answer has this kind and place
abbrev pub said_by : Replayed → ℕ → ℕ → Bool
said_by a kind place = eqb (kind_of a) kind && eqb (place_of a) place

-- one replay more, in so much store and output
unfoldable pub after_replay : List ℕ → List ℤ → ℕ → ℕ → ℕ → ℕ → Count → Count
after_replay code kept store room kind place t =
    checked (said_by (replay code kept (take (min store 16386) fresh_store) (take (min room 1536) fresh_output)).answer kind place) (one_replay t)
