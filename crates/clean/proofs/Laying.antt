-- The page as it is laid out, symbol after symbol: what is set down and what is left is the whole, and the numbers stay small.
use Prim.Native.Nat.{ℕ, zero, suc, ◌+◌, ◌-◌, ◌*◌, ◌≤◌, ◌<◌}
use mathlib.Core.Path.{◌≡◌, refl, sym, ap, subst, ◌∙◌}
use mathlib.Core.Bool.{Bool, true, false, cond}
use mathlib.Core.List.{List, [], ◌∷◌, ◌++◌, append_assoc}
use native.Mathlib.Omega.{arith}
use lib.Dec.{eqb}
use lib.ListN.{length, get_or, drop, replicate, length-append, length-replicate, length-drop}
use Rattle.clean.specs.House.{tight}
use Rattle.clean.specs.model.Lines.{peek, below, base, headed}
use Rattle.clean.specs.model.Bytes.{Puts, spelling_at}
use Rattle.clean.specs.model.Pen.{first_of, Small, Low, line_of, begin_of, inward_of, open_of, level_of, wait_of, head_of, opened_of, passed_of, stack_of, top_of, early_of, waits_of, parted_of, late_of, stack_after, Late, gap_of, written_from, written_of}
use Rattle.clean.specs.declared.lines.State.{State}
use Rattle.clean.proofs.Putting.{Putting, none_put, more_put, all_put, puts_on, word_next, word_none}
use Rattle.clean.proofs.Penned.{Told, is_begin, is_end, is_semicolon, is_if, is_then, is_else, is_do, is_procedure, is_other, told}
use Rattle.clean.proofs.Stacks.{low_top, low_below, low_base, low_more}
use Rattle.clean.proofs.Spelled.{spelled_short}

-- ---- the numbers stay small: after i symbols none is above i

pub record Grown (i : ℕ) (s : State) (st : List ℕ) : Type 0 where
  pub level : s.level ≤ i
  pub around : s.around ≤ i
  pub waiting : s.waiting ≤ i
  pub lines : s.lines ≤ 1
  pub line : s.line ≤ i
  pub low : Low i st

pub grown_first : Grown 0 first_of []
grown_first = record { level = omega arith; around = omega arith; waiting = omega arith; lines = omega arith; line = omega arith; low = tt }

-- a line more may begin before a symbol
pub record Ready (i : ℕ) (s : State) (st : List ℕ) : Type 0 where
  pub level : s.level ≤ i
  pub around : s.around ≤ i
  pub waiting : s.waiting ≤ i
  pub lines : s.lines ≤ 2
  pub line : s.line ≤ i
  pub low : Low i st

as_ready : (i : ℕ) (s : State) (st : List ℕ) → Grown i s st → Ready i s st
as_ready i s st g = record { level = g.level; around = g.around; waiting = g.waiting; lines = omega (arith, g.lines); line = g.line; low = g.low }

line_ready : (i v : ℕ) (s : State) (st : List ℕ) → v ≤ i → Grown i s st → Ready i (line_of s v) st
line_ready i v s st h g = record { level = g.level; around = g.around; waiting = g.waiting; lines = omega (arith, g.lines); line = h; low = g.low }

pub ready : (i : ℕ) (s : State) (st : List ℕ) (k : ℕ) → Grown i s st → Ready i (early_of s st k) st
ready i s st k g = go (eqb k 1) (eqb k 4) (eqb s.waiting 0)
  where
    go : (a b c : Bool) → Ready i (cond a (line_of s (top_of st - 1)) (cond b (cond c (line_of s (s.level - 1)) s) s)) st
    go true b c = line_ready i _ s st (omega (arith, low_top i st g.low)) g
    go false true true = line_ready i _ s st (omega (arith, g.level)) g
    go false true false = as_ready i s st g
    go false false c = as_ready i s st g

pub early_around : (s : State) (st : List ℕ) (k : ℕ) → (early_of s st k).around ≡ s.around
early_around s st k = go (eqb k 1) (eqb k 4) (eqb s.waiting 0)
  where
    go : (a b c : Bool) → (cond a (line_of s (top_of st - 1)) (cond b (cond c (line_of s (s.level - 1)) s) s)).around ≡ s.around
    go true b c = refl
    go false true true = refl
    go false true false = refl
    go false false c = refl

pub small_ready : (i : ℕ) (s : State) (st : List ℕ) → i ≤ 2048 → Ready i s st → Small s
small_ready i s st l g = record {
  level = omega (arith, g.level);
  around = omega (arith, g.around);
  waiting = omega (arith, g.waiting);
  lines = omega (arith, g.lines);
  line = omega (arith, g.line);
}

pub small_grown : (i : ℕ) (s : State) (st : List ℕ) → i ≤ 2048 → Grown i s st → Small s
small_grown i s st l g = small_ready i s st l (as_ready i s st g)

-- behind a symbol
abbrev After : ℕ → State → List ℕ → ℕ → ℕ → Type 0
After i s st k n = Grown (i + 1) (late_of s st k n) (stack_after s st k n)

module _ (i : ℕ) (s : State) (st : List ℕ) (n : ℕ) (g : Ready i s st) where
  more : (a b : ℕ) → a ≤ i → b ≤ a + 1 → b ≤ i + 1
  more a b h l = omega arith

  at_begin : After i s st 0 n
  at_begin = record { level = omega (arith, g.level); around = omega (arith, g.around); waiting = omega (arith, g.waiting); lines = omega arith; line = omega (arith, g.level); low = (omega (arith, g.level), low_more i st g.low) }

  at_end : After i s st 1 n
  at_end = record { level = omega (arith, low_top i st g.low); around = omega (arith, g.around); waiting = omega (arith, g.waiting); lines = omega arith; line = omega (arith, g.line); low = low_more i (below st) (low_below i st g.low) }

  at_semicolon : After i s st 35 n
  at_semicolon = go s.heading (headed n) (eqb (top_of st) 0)
    where
      p : State
      p = passed_of s 35

      go : (h q t : Bool) → Grown (i + 1) (cond h (cond q (line_of (passed_of s 35) (s.level + 1)) (opened_of (head_of (passed_of s 35) false))) (inward_of (level_of (cond t (open_of (passed_of s 35) (s.around - 1)) (passed_of s 35)) (top_of (base st) - 1)))) (cond h (cond q st (0 ∷ st)) (base st))
      go true true t = record { level = omega (arith, g.level); around = omega (arith, g.around); waiting = omega (arith, g.waiting); lines = omega arith; line = omega (arith, g.level); low = low_more i st g.low }
      go true false t = record { level = omega (arith, g.level); around = omega (arith, g.around); waiting = omega (arith, g.waiting); lines = omega arith; line = omega (arith, g.level); low = (omega arith, low_more i st g.low) }
      go false q true = let b = low_top i (base st) (low_base i st g.low) in record { level = omega arith; around = omega (arith, g.around); waiting = omega (arith, g.waiting); lines = omega arith; line = omega arith; low = low_more i (base st) (low_base i st g.low) }
      go false q false = let b = low_top i (base st) (low_base i st g.low) in record { level = omega arith; around = omega (arith, g.around); waiting = omega (arith, g.waiting); lines = omega arith; line = omega arith; low = low_more i (base st) (low_base i st g.low) }

  at_if : After i s st 2 n
  at_if = go s.begins
    where
      go : (b : Bool) → Grown (i + 1) (waits_of (passed_of s 2) b) st
      go true = record { level = omega (arith, g.level); around = omega (arith, g.around); waiting = omega (arith, g.waiting); lines = omega arith; line = omega (arith, g.line); low = low_more i st g.low }
      go false = record { level = omega (arith, g.level); around = omega (arith, g.around); waiting = omega (arith, g.waiting); lines = omega arith; line = omega (arith, g.line); low = low_more i st g.low }

  parted : (k : ℕ) → Grown (i + 1) (parted_of (passed_of s k) k) st
  parted k = go (eqb s.waiting 0) (eqb k 3) (eqb k 4)
    where
      go : (a b c : Bool) → Grown (i + 1) (cond a (cond b (inward_of (passed_of s k)) (begin_of (passed_of s k) s.level)) (cond c (wait_of (passed_of s k) (s.waiting - 1)) (passed_of s k))) st
      go true true c = record { level = omega (arith, g.level); around = omega (arith, g.around); waiting = omega (arith, g.waiting); lines = omega arith; line = omega (arith, g.level); low = low_more i st g.low }
      go true false c = record { level = omega (arith, g.level); around = omega (arith, g.around); waiting = omega (arith, g.waiting); lines = omega arith; line = omega (arith, g.level); low = low_more i st g.low }
      go false b true = record { level = omega (arith, g.level); around = omega (arith, g.around); waiting = omega (arith, g.waiting); lines = omega arith; line = omega (arith, g.line); low = low_more i st g.low }
      go false b false = record { level = omega (arith, g.level); around = omega (arith, g.around); waiting = omega (arith, g.waiting); lines = omega arith; line = omega (arith, g.line); low = low_more i st g.low }

  at_do : After i s st 6 n
  at_do = record { level = omega (arith, g.level); around = omega (arith, g.around); waiting = omega (arith, g.waiting); lines = omega arith; line = omega (arith, g.level); low = low_more i st g.low }

  passing : (k : ℕ) (h : Bool) → Grown (i + 1) (head_of (passed_of s k) h) st
  passing k h = record { level = omega (arith, g.level); around = omega (arith, g.around); waiting = omega (arith, g.waiting); lines = omega arith; line = omega (arith, g.line); low = low_more i st g.low }

  pub grown : (k : ℕ) → Told k → After i s st k n
  grown k (is_begin e) = subst (λ k. After i s st k n) (sym e) at_begin
  grown k (is_end e) = subst (λ k. After i s st k n) (sym e) at_end
  grown k (is_semicolon e) = subst (λ k. After i s st k n) (sym e) at_semicolon
  grown k (is_if e) = subst (λ k. After i s st k n) (sym e) at_if
  grown k (is_then e) = subst (λ k. After i s st k n) (sym e) (parted 3)
  grown k (is_else e) = subst (λ k. After i s st k n) (sym e) (parted 4)
  grown k (is_do e) = subst (λ k. After i s st k n) (sym e) at_do
  grown k (is_procedure e) = subst (λ k. After i s st k n) (sym e) (passing 13 true)
  grown k (is_other e0 e1 e35 e2 e3 e4 e6 e13) = simp (e0, e1, e35, e2, e3, e4, e6, e13) (passing k s.heading)

-- ---- a gap is short

pub gap_short : (s : State) (k : ℕ) → s.lines ≤ 2 → s.line ≤ 2048 → length (gap_of s k) ≤ 8192
gap_short s k h l = go (eqb s.lines 0) (tight s.before s.last k)
  where
    go : (a b : Bool) → length {A = ℕ} (cond a (cond b [] (32 ∷ [])) (replicate s.lines 10 ++ replicate (2 * s.line) 32)) ≤ 8192
    go true true = omega arith
    go true false = omega arith
    go false b =
        let x : List ℕ = replicate s.lines 10 in
        let y : List ℕ = replicate (2 * s.line) 32 in
        omega (arith, length-append x y, length-replicate {A = ℕ} s.lines 10, length-replicate {A = ℕ} (2 * s.line) 32)

pub peek_is : (ks : List ℕ) (i : ℕ) → get_or ks i 33 ≡ peek (drop i ks)
peek_is [] zero = refl
peek_is [] (suc i) = refl
peek_is (k ∷ ks) zero = refl
peek_is (k ∷ ks) (suc i) = peek_is ks i

-- ---- so much of the page stands after i symbols

pub record Laying (source kinds places page₀ page held : List ℕ) (s : State) (at i : ℕ) : Type 0 where
  pub within : i ≤ length kinds
  pub holds : length held ≡ 2048
  pub grows : Grown i s (stack_of s.around held)
  pub counted : at ≤ 65536 * i
  pub putting : Putting page₀ page 0 at (written_from source (λ j. get_or places j 0) s (stack_of s.around held) i (drop i kinds)) (written_of source places kinds)

pub laying_first : (source kinds places page held : List ℕ) (s : State) → s ≡ first_of → length held ≡ 2048 → Laying source kinds places page page held s 0 0
laying_first source kinds places page held s e l =
    subst (λ (x : State). Laying source kinds places page page held x 0 0) (sym e)
    (record { within = omega arith; holds = l; grows = grown_first; counted = omega arith; putting = none_put _ _ _ })

module _ {source kinds places page₀ page held : List ℕ} {s : State} {at i : ℕ} (w : Laying source kinds places page₀ page held s at i) (few : length kinds ≤ 2048) (short : length source ≤ 16384) (more : i < length kinds) where
  abbrev kind : ℕ
  kind = get_or kinds i 0

  abbrev stack : List ℕ
  stack = stack_of s.around held

  -- where the writer stands at the symbol
  pub here_ready : (here : State) → here ≡ early_of s stack kind → Ready i here stack
  here_ready here e = subst (λ (x : State). Ready i x stack) (sym e) (ready i s stack kind w.grows)

  pub here_small : (here : State) → here ≡ early_of s stack kind → Small here
  here_small here e = small_ready i here stack (omega arith) (here_ready here e)

  pub here_around : (here : State) → here ≡ early_of s stack kind → here.around ≡ s.around
  here_around here e = ap (λ (x : State). x.around) e ∙ early_around s stack kind

  pub here_low : (here : State) → here ≡ early_of s stack kind → Low 4096 (stack_of here.around held)
  here_low here e = subst (λ n. Low 4096 (stack_of n held)) (sym (here_around here e)) (Rattle.clean.proofs.Stacks.low_up i 4096 stack (omega arith) w.grows.low)

  pub gap_ends : {mid : List ℕ} {from : ℕ} (here : State) → here ≡ early_of s stack kind → Puts page mid at from (gap_of here kind) → from ≤ at + 8192
  gap_ends here e p = let r = here_ready here e in omega (arith, p.behind, gap_short here kind r.lines (omega (arith, r.line)))

  pub laying_next : {mid new held' : List ℕ} {from to : ℕ} (here s' : State) (n : ℕ) → kind < 43 → here ≡ early_of s stack kind → Puts page mid at from (gap_of here kind)
      → Puts mid new from to (spelling_at source kind (get_or places i 0)) → n ≡ get_or kinds (i + 1) 33 → Late held held' here kind n s'
      → Laying source kinds places page₀ new held' s' to (i + 1)
  unfolding written_from
  laying_next {mid} {new} {held'} {from} {to} here s' n small e p q en l =
      let st = stack in
      let ks = drop (i + 1) kinds in
      let place : ℕ → ℕ = λ j. get_or places j 0 in
      let en' : n ≡ peek ks = en ∙ peek_is kinds (i + 1) in
      let a : stack_of here.around held ≡ st = ap (λ m. stack_of m held) (here_around here e) in
      let es : s' ≡ late_of (early_of s st kind) st kind (peek ks) =
      l.state ∙ ap (λ z. late_of here z kind n) a ∙ ap (λ m. late_of here st kind m) en' ∙ ap (λ (x : State). late_of x st kind (peek ks)) e in
      let et : stack_of s'.around held' ≡ stack_after (early_of s st kind) st kind (peek ks) =
      l.stack ∙ ap (λ z. stack_after here z kind n) a ∙ ap (λ m. stack_after here st kind m) en' ∙ ap (λ (x : State). stack_after x st kind (peek ks)) e in
      let gap = gap_of here kind in
      let word = spelling_at source kind (get_or places i 0) in
      let rest = written_from source place s' (stack_of s'.around held') (i + 1) ks in
      let back : written_from source place (late_of (early_of s st kind) st kind (peek ks)) (stack_after (early_of s st kind) st kind (peek ks)) (i + 1) ks ≡ rest =
      ap (λ (x : State). written_from source place x (stack_after (early_of s st kind) st kind (peek ks)) (i + 1) ks) (sym es) ∙ ap (λ z. written_from source place s' z (i + 1) ks) (sym et) in
      let cut : written_from source place s st i (drop i kinds) ≡ (gap ++ word) ++ rest =
      ap (written_from source place s st i) (word_next kinds i more)
      ∙ ap (λ (x : State). gap_of x kind ++ (word ++ written_from source place (late_of (early_of s st kind) st kind (peek ks)) (stack_after (early_of s st kind) st kind (peek ks)) (i + 1) ks)) (sym e)
      ∙ ap (λ z. gap ++ (word ++ z)) back ∙ sym (append_assoc gap word rest) in
      record {
        within = omega arith;
        holds = l.size ∙ w.holds;
        grows = subst (λ (x : State). Grown (i + 1) x (stack_of s'.around held')) (sym es) (subst (Grown (i + 1) (late_of (early_of s st kind) st kind (peek ks))) (sym et) (grown i (early_of s st kind) st (peek ks) (ready i s st kind w.grows) kind (told kind)));
        counted = omega (arith, w.counted, gap_ends here e p, q.behind, spelled_short source kind (get_or places i 0) small, length-drop (get_or places i 0) source);
        putting = more_put w.putting cut (puts_on p q);
      }

-- the last LF
pub laying_done : {source kinds places page₀ page held new : List ℕ} {s : State} {at i r : ℕ} → Laying source kinds places page₀ page held s at i → length kinds ≤ i → Puts page new at r (10 ∷ [])
    → Puts page₀ new 0 r (written_of source places kinds)
unfolding written_from
laying_done {source} {kinds} {places} {held = held} {s = s} {i = i} w l p =
    all_put (more_put w.putting (ap (written_from source (λ j. get_or places j 0) s (stack_of s.around held) i) (word_none kinds i l)) p) refl
