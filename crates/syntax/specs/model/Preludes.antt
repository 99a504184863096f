-- Request 7: what reading a prelude's symbols answers, over the grammar and its trees alone, and what the lent words hold afterwards. As grammar's ParseSays of a program.
use Rattle.std.specs.Prelude.{ℕ, ◌-◌, ◌≡◌, List, ◌++◌, length}
use Rattle.answers.specs.Numbers.{grammar, depth}
use Rattle.answers.specs.Answers.{answer}
use Rattle.answers.specs.declared.Answer.{Answer}
use Rattle.grammar.specs.Grammar.{preludes}
use Rattle.grammar.specs.Trees.{Syn}
use Rattle.grammar.specs.Program.{IsIn, KeepsPrelude, PreludeFault, PreludeDeep}
use Rattle.grammar.specs.model.Marked.{prelude_nodes}
use Rattle.grammar.specs.model.Parsing.{zeros, node_words_lem, Parsed, read_to, fault_at}

-- a prelude of j symbols was read, and its nodes are the first b words; the others are zero
pub record WholePrelude (ks new : List ℕ) (j b : ℕ) : Type 0 where
  pub tree : Syn preludes
  pub keeps : KeepsPrelude ks tree
  pub all : j ≡ length ks
  pub words : b ≡ length (prelude_nodes tree)
  pub wrote : new ≡ prelude_nodes tree ++ zeros (node_words_lem - b)

-- ks: the kinds of the symbols; new: the lent words afterwards; r: the answer
pub record PreludeSays (ks new : List ℕ) (r : Parsed) : Type 0 where
  pub accepted : (j b : ℕ) → r ≡ read_to j b → WholePrelude ks new j b
  pub accepts : IsIn preludes 0 ks → (j : ℕ) × (b : ℕ) × (r ≡ read_to j b)
  pub wrong : (k : ℕ) → r ≡ fault_at (answer grammar) k → PreludeFault ks k
  pub wrongs : (k : ℕ) → PreludeFault ks k → r ≡ fault_at (answer grammar) k
  pub deep : (k : ℕ) → r ≡ fault_at (answer depth) k → PreludeDeep ks k
  pub deeps : (k : ℕ) → PreludeDeep ks k → r ≡ fault_at (answer depth) k
  pub numbers : (a : Answer) (k : ℕ) → r ≡ fault_at a k → (a ≡ answer grammar → ⊥) → a ≡ answer depth
  pub cleared : (a : Answer) (k : ℕ) → r ≡ fault_at a k → new ≡ zeros node_words_lem
