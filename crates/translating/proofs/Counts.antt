-- What the pass that writes code is told of a block's variables: the rows give, by the number of the block's first declaration, how many it has of each
-- type. That takes a block with a declaration, which every block of a source is. These are definitions; BlockRows proves it of a program's rows.
use Prim.Native.Nat.{ℕ, ◌+◌, ◌<◌}
use mathlib.Core.Path.{◌≡◌}
use mathlib.Core.List.{List}
use lib.ListN.{length}
use Rattle.machine.specs.Instructions.{pack_counted}
use Rattle.names.specs.Program.{Statement, dummy, assignment, procedure, when, either, repeat, compound, block, Statements, last, first, Declarations, none as no_more, variables, declare, Procedure, heading}
use Rattle.names.specs.Scopes.{in_block}
use Rattle.rules.specs.Entered.{counted}
use Rattle.emitting.specs.model.Layout.{counts_for}

-- ---- how many declarations and formals a tree has

unfoldable mutual
  pub many_s : Statement → ℕ
  many_s dummy = 0
  many_s (assignment x xs q e) = 0
  many_s (procedure x es) = 0
  many_s (when q c s) = many_s s
  many_s (either q c s t) = many_s s + many_s t
  many_s (repeat x l ls s) = many_s s
  many_s (compound ss) = many_ss ss
  many_s (block q ds ss) = many_ds ds + many_ss ss

  pub many_ss : Statements → ℕ
  many_ss (last s) = many_s s
  many_ss (first s ss) = many_s s + many_ss ss

  pub many_ds : Declarations → ℕ
  many_ds no_more = 0
  many_ds (variables t xs ds) = length xs + many_ds ds
  many_ds (declare p ds) = many_p p + many_ds ds

  pub many_p : Procedure → ℕ
  many_p (heading t f xs vs ss s) = 1 + length xs + many_s s

-- ---- every block declares something

abbrev pub Declares : Declarations → Type 0
Declares no_more = ⊥
Declares (variables t xs ds) = 0 < length xs
Declares (declare p ds) = Unit {0}

abbrev mutual
  pub HeadedS : Statement → Type 0
  HeadedS dummy = Unit {0}
  HeadedS (assignment x xs q e) = Unit {0}
  HeadedS (procedure x es) = Unit {0}
  HeadedS (when q c s) = HeadedS s
  HeadedS (either q c s t) = HeadedS s × HeadedS t
  HeadedS (repeat x l ls s) = HeadedS s
  HeadedS (compound ss) = HeadedSs ss
  HeadedS (block q ds ss) = Declares ds × HeadedDs ds × HeadedSs ss

  pub HeadedSs : Statements → Type 0
  HeadedSs (last s) = HeadedS s
  HeadedSs (first s ss) = HeadedS s × HeadedSs ss

  pub HeadedDs : Declarations → Type 0
  HeadedDs no_more = Unit {0}
  HeadedDs (variables t xs ds) = HeadedDs ds
  HeadedDs (declare p ds) = HeadedP p × HeadedDs ds

  pub HeadedP : Procedure → Type 0
  HeadedP (heading t f xs vs ss s) = HeadedS s

-- ---- the counts of every block of a tree; n: how many declarations and formals stand before it

module _ (rows : List ℕ) where
  abbrev mutual
    pub CountsS : ℕ → Statement → Type 0
    CountsS n dummy = Unit {0}
    CountsS n (assignment x xs q e) = Unit {0}
    CountsS n (procedure x es) = Unit {0}
    CountsS n (when q c s) = CountsS n s
    CountsS n (either q c s t) = CountsS n s × CountsS (n + many_s s) t
    CountsS n (repeat x l ls s) = CountsS n s
    CountsS n (compound ss) = CountsSs n ss
    CountsS n (block q ds ss) = (counts_for rows n ≡ pack_counted (counted (in_block ds))) × CountsDs n ds × CountsSs (n + many_ds ds) ss

    pub CountsSs : ℕ → Statements → Type 0
    CountsSs n (last s) = CountsS n s
    CountsSs n (first s ss) = CountsS n s × CountsSs (n + many_s s) ss

    pub CountsDs : ℕ → Declarations → Type 0
    CountsDs n no_more = Unit {0}
    CountsDs n (variables t xs ds) = CountsDs (n + length xs) ds
    CountsDs n (declare p ds) = CountsP n p × CountsDs (n + many_p p) ds

    pub CountsP : ℕ → Procedure → Type 0
    CountsP n (heading t f xs vs ss s) = CountsS (n + 1 + length xs) s
