-- What the prover computes of a text for any judge: a source, a prelude, a scheme, and a scheme by a wrong judge. With so much fuel; none where the fuel does not
-- reach. No part of the paper.
use Rattle.std.specs.Prelude.{ℕ, ◌+◌, ◌-◌, Bool, true, false, List, [], ◌∷◌, eqb, leb, length}
use Rattle.std.proofs.Math.Option.{Option, none, some}
use Rattle.answers.specs.Numbers.{long, grammar}
use Rattle.answers.specs.Answers.{refusal}
use Rattle.answers.specs.declared.Refusal.{Refusal}
use Rattle.answers.specs.declared.Verdict.{Verdict}
use Rattle.answers.specs.declared.Verdict.TheVariants.{Accepted, Refused}
use Rattle.symbols.specs.Symbols.{kind}
use Rattle.symbols.specs.Scan.{scan}
use Rattle.symbols.specs.declared.Symbol.TheVariants.{Colon}
use Rattle.grammar.specs.Grammar.{Item}
use Rattle.grammar.specs.Program.{greatest}
use Rattle.grammar.specs.Trees.{Syn}
use Rattle.grammar.specs.model.Text.{kind_at}
use Rattle.grammar.specs.model.Run.{Res, got, bad}
use Rattle.names.specs.Uses.{Fault}
use Rattle.reading.specs.Judging.{kinds_in}
use Rattle.reading.specs.Judges.{Judge, further}
use Rattle.marks.specs.model.Parsing.{parse}

-- a refusal, or the tree of what is accepted
pub data Came (start : List Item) : Type 0 where
  refused : Refusal → Came start
  accepted : Syn start → Came start

module _ (j : Judge) (text : List ℕ) where
  abbrev pub faulty : Fault → Came j.start
  faulty f = refused (refusal f.answer (j.fault_place text f.symbol))

  abbrev pub by_types : Syn j.start → Option Fault → Came j.start
  by_types t none = accepted t
  by_types t (some f) = faulty f

  abbrev pub by_names : Syn j.start → Option Fault → Came j.start
  by_names t none = by_types t (j.type_fault text t)
  by_names t (some f) = faulty f

  -- what is read may end before the text does
  abbrev pub by_end : Syn j.start → ℕ → Bool → Came j.start
  by_end t i true = by_names t (j.name_fault text t)
  by_end t i false = refused (refusal grammar (j.place text i))

  abbrev pub by_tree : Option (Res (Syn j.start)) → Option (Came j.start)
  by_tree none = none
  by_tree (some (got t i)) = some (by_end t i (eqb i (length (kinds_in j.symbols text))))
  by_tree (some (bad n k)) = some (refused (refusal n (j.place text k)))

  abbrev pub by_symbols : ℕ → Option Refusal → Option (Came j.start)
  by_symbols fuel none = by_tree (parse (kind_at (kinds_in j.symbols text)) fuel (greatest - j.own) (kind Colon ∷ []) j.start 0)
  by_symbols fuel (some r) = some (refused (further j.added r))

  abbrev pub by_length : ℕ → Bool → Option (Came j.start)
  by_length fuel true = by_symbols fuel (scan j.symbols text).refused
  by_length fuel false = some (refused (refusal long (16384 + j.added)))

  unfoldable pub judged_of : ℕ → Option (Came j.start)
  judged_of fuel = by_length fuel (leb (length text) 16384)

-- the answer, and the words before their zeros
pub data Left : Type 0 where
  nowhere : Left
  leaves : Verdict → List ℕ → Left

abbrev pub worded : (j : Judge) (text : List ℕ) → Option (Came j.start) → Left
worded j text none = nowhere
worded j text (some (refused r)) = leaves (Refused r) []
worded j text (some (accepted t)) = leaves Accepted (j.words text t)
