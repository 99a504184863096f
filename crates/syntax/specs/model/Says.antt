-- What a reader's answer says of the relation's, and of the nodes. This serves the readers' contracts and is no part of the paper.
use Rattle.std.specs.Prelude.{ℕ, ◌+◌, ◌*◌, ◌-◌, ◌<◌, ◌≤◌, ◌≡◌, Bool, true, false, List, [], ◌∷◌, ◌++◌, length, take, Ok, Err}
use Rattle.answers.specs.Answers.{answer}
use Rattle.answers.specs.Numbers.{grammar, depth}
use Rattle.answers.specs.declared.Answer.{Answer}
use Rattle.symbols.specs.Symbols.{kind}
use Rattle.symbols.specs.declared.Symbol.TheVariants.{End, Semicolon}
use Rattle.grammar.specs.Grammar.{Class, Item, rd, Prod}
use Rattle.grammar.specs.Trees.{Syn, yield}
use Rattle.grammar.specs.model.Marked.{Word, mark, Marks, end, on, put, unmarked, marks, word, nodes}
use Rattle.grammar.specs.declared.Fault.{Fault}
use Rattle.grammar.specs.declared.Read.{Read}
use Rattle.grammar.specs.model.Parsing.{zeros, Parsed, read_to, fault_at}
use Rattle.grammar.specs.model.Text.{kind_at}
use Rattle.grammar.specs.model.Run.{Run, got, bad}

-- the levels left at a depth: "The greatest depth is 64."
abbrev pub left : ℕ → ℕ
left d = 64 - d

-- before the symbol i is read: at most twelve words are used for each symbol read so far
pub record Room (ks old : List ℕ) (i a : ℕ) : Type 0 where
  pub inside : i ≤ length ks
  pub short : length ks ≤ 2048
  pub size : length old ≡ 32768
  pub room : a ≤ 12 * i

-- the same where the symbol i is there, and what stands behind it is to be read
pub record Behind (ks old : List ℕ) (i a : ℕ) : Type 0 where
  pub inside : i < length ks
  pub short : length ks ≤ 2048
  pub size : length old ≡ 32768
  pub room : a ≤ 12 * i

-- the two faults
abbrev pub wrong_at : ℕ → Fault
wrong_at i = record { answer = answer grammar; at = i }

abbrev pub deep_at : ℕ → Fault
deep_at i = record { answer = answer depth; at = i }

-- a symbol of the kind k stands at i, and j is behind it
pub record Stands (ks : List ℕ) (i k j : ℕ) : Type 0 where
  pub found : kind_at ks i ≡ k
  pub inside : i < length ks
  pub next : j ≡ i + 1

-- none of that kind stands at i, which is a fault there
pub record Lacks (ks : List ℕ) (i k : ℕ) (f : Fault) : Type 0 where
  pub other : kind_at ks i ≡ k → ⊥
  pub fault : f ≡ wrong_at i

-- a node was written
pub record Put (old new : List ℕ) (a b k s x y : ℕ) : Type 0 where
  pub next : b ≡ a + 4
  pub wrote : take (a + 4) new ≡ take a old ++ (k ∷ s ∷ x ∷ y ∷ [])

-- the words from `from` on were set to zero
pub record Clear (old new : List ℕ) (from : ℕ) : Type 0 where
  pub words : new ≡ take from old ++ zeros (length old - from)

-- items were read, from i to j, and the nodes among them and in them written, from a to b: at depth d, in a production that began at B
pub record Got (ks old new : List ℕ) (d B : ℕ) (F : List ℕ) {is : List Item} (ms : Marks is) (i a j b : ℕ) : Type 0 where
  pub tree : Syn is
  pub run : Run (kind_at ks) (left d) F is i (got tree j)
  pub within : j ≤ length ks
  pub far : j ≡ i + length (yield tree)
  pub num : b ≡ a + length (nodes tree ms d B i)
  pub wrote : take b new ≡ take a old ++ nodes tree ms d B i

-- the answer to items with nodes among them, read from i on; one of F may follow them
pub record SaysWith (ks old new : List ℕ) (d B : ℕ) (F : List ℕ) {is : List Item} (ms : Marks is) (i a : ℕ) (r : Parsed) : Type 0 where
  pub read : (j b : ℕ) → r ≡ read_to j b → Got ks old new d B F ms i a j b
  pub refused : (n : Answer) (k : ℕ) → r ≡ fault_at n k → Run (kind_at ks) (left d) F is i (bad n.number k)

-- to items with none; and to a production
abbrev pub Says : List ℕ → List ℕ → List ℕ → ℕ → ℕ → List ℕ → List Item → ℕ → ℕ → Parsed → Type 0
Says ks old new d B F is i a r = SaysWith ks old new d B F (unmarked is) i a r

abbrev pub SaysOf : List ℕ → List ℕ → List ℕ → ℕ → ℕ → List ℕ → {X : Class} → Prod X → ℕ → ℕ → Parsed → Type 0
SaysOf ks old new d B F p i a r = SaysWith ks old new d B F (marks p) i a r

-- whatever may follow; and at any depth
abbrev pub Tells : List ℕ → List ℕ → List ℕ → ℕ → List Item → ℕ → ℕ → Parsed → Type 0
Tells ks old new d is i a r = (F : List ℕ) → Says ks old new d i F is i a r

abbrev pub TellsOf : List ℕ → List ℕ → List ℕ → ℕ → {X : Class} → Prod X → ℕ → ℕ → Parsed → Type 0
TellsOf ks old new d p i a r = (F : List ℕ) → SaysOf ks old new d i F p i a r

-- a part, and behind it a node with the symbol s, in whichever way the production says that
abbrev pub TellsMarked : List ℕ → List ℕ → List ℕ → ℕ → Class → ℕ → ℕ → ℕ → ℕ → Parsed → Type 0
TellsMarked ks old new d X k s i a r = (w : Word) → ((j : ℕ) → word w d i j ≡ s) → (F : List ℕ) → SaysWith ks old new d i F (on {x = rd false X} (put (mark k w) end)) i a r

abbrev pub TellsAll : List ℕ → List ℕ → List ℕ → List Item → ℕ → ℕ → Parsed → Type 0
TellsAll ks old new is i a r = (d : ℕ) (F : List ℕ) → Says ks old new d i F is i a r

-- with no level left, there is no other answer than a refusal
pub record Limits (ks : List ℕ) (F : List ℕ) (is : List Item) (i : ℕ) (r : Parsed) : Type 0 where
  pub read : (j b : ℕ) → r ≡ read_to j b → ⊥
  pub refused : (n : Answer) (k : ℕ) → r ≡ fault_at n k → Run (kind_at ks) 0 F is i (bad n.number k)

abbrev pub LimitsAll : List ℕ → List Item → ℕ → Parsed → Type 0
LimitsAll ks is i r = (F : List ℕ) → Limits ks F is i r

-- what may follow a statement: `;`, and 'end' if it does not stand directly as a procedure's body
abbrev pub behind : Bool → List ℕ
behind true = kind Semicolon ∷ kind End ∷ []
behind false = kind Semicolon ∷ []

-- what was read must be all n symbols, and the words behind its nodes are zero
pub record Settles (g : Read) (n : ℕ) (old new : List ℕ) (r : Parsed) : Type 0 where
  pub all : g.next ≡ n → (r ≡ Ok g) × Clear old new g.used
  pub more : (g.next ≡ n → ⊥) → (r ≡ fault_at (answer grammar) g.next) × Clear old new 0

-- a refusal stands, and all words are zero
pub record Refuses (f : Fault) (old new : List ℕ) (r : Parsed) : Type 0 where
  pub same : r ≡ Err f
  pub none : Clear old new 0
