-- The pieces that a reader's answer is put together from: an answer is the production read aloud.
use mathlib.Core.Path.{◌≡◌, refl, sym, ap, ◌∙◌, subst, subst₂}
use mathlib.Core.List.{List, [], ◌∷◌, ◌++◌, append-nil, append_assoc}
use Prim.Native.Nat.{ℕ, suc, ◌+◌, ◌-◌, ◌*◌, ◌<◌, ◌≤◌}
use native.Mathlib.Omega.{arith}
use mathlib.Core.Bool.{Bool, true, false}
use lib.ListN.{length, length-append, take}
use Rattle.answers.specs.Answers.{answer}
use Rattle.answers.specs.declared.Answer.{Answer}
use Rattle.grammar.specs.Grammar.{Class, operand, Item, sy, rd, Prod}
use Rattle.grammar.specs.Trees.{Syn, nil, tok, sub, yield}
use Rattle.grammar.specs.model.Marked.{Node, Marks, end as no_more, on as past, put, unmarked, marks, word, node_words, below, nodes}
use Rattle.grammar.specs.model.Tables.{some, none, choose}
use Rattle.grammar.specs.model.Run.{got, bad, In, now, after, level, deep}
use Rattle.grammar.specs.model.Run.{Run, end, sy_no, sy_got, sy_bad, rd_six, rd_five, rd_none, rd_bad, rd_more, rd_got}
use Rattle.std.specs.Prelude.{Ok, Err}
use Rattle.std.specs.Result.{IsErrAnd}
use Rattle.std.proofs.lemmas.Result.{err_from_is_err_and}
use Rattle.grammar.specs.declared.Fault.{Fault}
use Rattle.grammar.specs.declared.Read.{Read}
use Rattle.grammar.specs.model.Parsing.{Parsed, read_to, fault_at}
use Rattle.grammar.specs.model.Text.{kind_at}
use Rattle.syntax.specs.model.Says.{left, behind, wrong_at, Stands, Lacks, Put, Got, SaysWith, Says, Limits}
use Rattle.grammar.specs.declared.Level.{Level}
use Rattle.grammar.proofs.Outcomes.{read_fault, same_next, same_used, same_answer, same_at}
use Rattle.grammar.proofs.Sets.{subset, subset_in, disjoint, apart}
use Rattle.grammar.proofs.Room.{count, slack, spare}

-- ---- answers
module _ {ks old new : List ℕ} {d B : ℕ} {F : List ℕ} {is : List Item} {ms : Marks is} {i a : ℕ} where
  says_got : {j b : ℕ} → Got ks old new d B F ms i a j b → SaysWith ks old new d B F ms i a (read_to j b)
  says_got g = record { read = λ j₂ b₂ q. subst₂ (λ (x y : ℕ). Got ks old new d B F ms i a x y) (same_next q) (same_used q) g; refused = λ n k q. absurd (read_fault q) }

  says_bad : {n : Answer} {k : ℕ} → Run (kind_at ks) (left d) F is i (bad n.number k) → SaysWith ks old new d B F ms i a (fault_at n k)
  says_bad {n} {k} h = record { read = λ j b q. absurd (read_fault (sym q)); refused = λ n₂ k₂ q. let x : n ≡ n₂ = same_answer q in let y : k ≡ k₂ = same_at q in rw (x, y) at h }

  pub says_limit : {r : Parsed} → 64 ≤ d → Limits ks F is i r → SaysWith ks old new d B F ms i a r
  says_limit l h = record { read = λ j b z. absurd (h.read j b z); refused = λ n k z. subst (λ (x : ℕ). Run (kind_at ks) x F is i (bad n.number k)) (sym none_left) (h.refused n k z) }
    where
      none_left : 64 - d ≡ 0
      none_left = omega arith

pub limits : {ks F : List ℕ} {is : List Item} {i k : ℕ} {n : Answer} {f : Fault} → f ≡ record { answer = n; at = k } → Run (kind_at ks) 0 F is i (bad n.number k) → Limits ks F is i (Err f)
limits {ks} {F} {is} {i} {k = k} {n = n} e h = subst (λ (x : Fault). Limits ks F is i (Err x)) (sym e) (record { read = λ j b q. read_fault (sym q); refused = λ n₂ k₂ q. let x : n ≡ n₂ = same_answer q in let y : k ≡ k₂ = same_at q in rw (x, y) at h })

-- ---- what was read and written, put together
first_node : {is : List Item} (s : Syn is) (n : Node) (ms : Marks is) (d b i : ℕ) → nodes s (put n ms) d b i ≡ node_words n d b i ++ nodes s ms d b i
unfolding nodes
first_node nil n ms d b i = refl
first_node (tok s) n ms d b i = refl
first_node (sub p t s) n ms d b i = refl

module _ {ks : List ℕ} {d B : ℕ} {F : List ℕ} where
  pub g_end : {old : List ℕ} {i a : ℕ} → i ≤ length ks → Got ks old old d B F no_more i a i a
  unfolding nodes yield
  g_end {old} {i} {a} l = record { tree = nil; run = end; within = l; far = omega arith; num = omega arith; wrote = sym (append-nil (take a old)) }

  pub g_sy : {old new : List ℕ} {is : List Item} {ms : Marks is} {k i a j b : ℕ} → kind_at ks i ≡ k → Got ks old new d B F ms (i + 1) a j b → Got ks old new d B F (past {x = sy k} ms) i a j b
  unfolding nodes yield
  g_sy e g = record { tree = tok g.tree; run = sy_got e g.run; within = g.within; far = omega (arith, g.far); num = g.num; wrote = g.wrote }

  pub g_put : {old mid new : List ℕ} {is : List Item} {ms : Marks is} {n : Node} {i a c j b s x y : ℕ} → Put old mid a c n.kind s x y → s ≡ word n.symbol d B i → x ≡ word n.one d B i → y ≡ word n.two d B i
      → Got ks mid new d B F ms i c j b → Got ks old new d B F (put n ms) i a j b
  g_put {old} {mid} {ms = ms} {n = n} {i = i} {a = a} {c = c} {s = s} {x = x} {y = y} p e f h g =
      let q : take c mid ≡ take a old ++ node_words n d B i = rw p.next (rw (sym e, sym f, sym h) p.wrote) in
      let z = first_node g.tree n ms d B i in
      record {
        tree = g.tree;
        run = g.run;
        within = g.within;
        far = g.far;
        num = omega (arith, g.num, p.next, ap length z);
        wrote = g.wrote ∙ ap (λ (z : List ℕ). z ++ nodes g.tree ms d B i) q ∙ append_assoc (take a old) (node_words n d B i) (nodes g.tree ms d B i) ∙ ap (λ (w : List ℕ). take a old ++ w) (sym z);
      }

  pub g_prod : {old new : List ℕ} {X : Class} (p : Prod X) {i a j b : ℕ} → choose X (kind_at ks i) (kind_at ks (i + 1)) ≡ some p → Got ks old new d i F (marks p) i a j b → Got ks old new d B F (unmarked (rd false X ∷ [])) i a j b
  unfolding nodes yield
  g_prod p h g = record { tree = sub p g.tree nil; run = rd_got level h g.run end; within = g.within; far = simp append-nil g.far; num = simp append-nil g.num; wrote = simp append-nil g.wrote }

part_got : {ks old mid new : List ℕ} {d B : ℕ} (A : ℕ) {F : List ℕ} {c : Bool} {X : Class} (is : List Item) {ms : Marks is} {i a j b k e : ℕ} {s : Syn (rd c X ∷ [])} {z : ℕ} → Run (kind_at ks) z (after is F) (rd c X ∷ []) i (got s j) → z ≡ left d
    → j ≡ i + length (yield s) → b ≡ a + length (nodes s (unmarked (rd c X ∷ [])) d A i) → take b mid ≡ take a old ++ nodes s (unmarked (rd c X ∷ [])) d A i → Got ks mid new d B F ms j b k e → Got ks old new d B F (past {x = rd c X} ms) i a k e
unfolding nodes yield
part_got {ks} {old = old} {mid = mid} {d = d} {B = B} A {F = F} {c = c} {X = X} is {ms = ms} {i = i} {a = a} {j = j} {b = b} {k = k} (rd_got {p = p} {t = t} o h v end) y far num wrote g =
    let q : j ≡ i + length (yield t) = simp append-nil at far in
    let n : b ≡ a + length (nodes t (marks p) (below c d) i i) = simp append-nil at num in
    let w : take b mid ≡ take a old ++ nodes t (marks p) (below c d) i i = simp append-nil at wrote in
    let u = subst (λ (x : ℕ). Run (kind_at ks) x F is j (got g.tree k)) (sym y) g.run in
    record {
      tree = sub p t g.tree;
      run = subst (λ (x : ℕ). Run (kind_at ks) x F (rd c X ∷ is) i (got (sub p t g.tree) k)) y (rd_got o h v u);
      within = g.within;
      far = simp length-append (omega (arith, q, g.far));
      num = rw (sym q) (simp length-append (omega (arith, n, g.num)));
      wrote = rw (sym q) (g.wrote ∙ ap (λ (x : List ℕ). x ++ nodes g.tree ms d B j) w ∙ append_assoc (take a old) (nodes t (marks p) (below c d) i i) (nodes g.tree ms d B j));
    }

pub g_part : {ks old mid new : List ℕ} {d A B : ℕ} {F : List ℕ} {c : Bool} {X : Class} (is : List Item) {ms : Marks is} {i a j b k e : ℕ} → Got ks old mid d A (after is F) (unmarked (rd c X ∷ [])) i a j b → Got ks mid new d B F ms j b k e → Got ks old new d B F (past {x = rd c X} ms) i a k e
g_part {A = A} is g h = part_got A is g.run refl g.far g.num g.wrote h

-- what a reader's answer holds where it has read
pub got_of : {ks old new : List ℕ} {d B : ℕ} {F : List ℕ} {is : List Item} {ms : Marks is} {i a : ℕ} {g : Read} → SaysWith ks old new d B F ms i a (Ok g) → Got ks old new d B F ms i a g.next g.used
got_of h = h.read _ _ refl

pub space : {ks old new : List ℕ} {d B : ℕ} {F : List ℕ} {c : Bool} {X : Class} {i a j b : ℕ} → Got ks old new d B F (unmarked (rd c X ∷ [])) i a j b → b + 12 * i + spare X ≤ a + 12 * j + slack X
space {d = d} {B = B} {c = c} {X = X} {i = i} g = omega (arith, count g.tree (unmarked (rd c X ∷ [])) d B i, g.num, g.far)

pub on : {ks old new : List ℕ} {d B : ℕ} {F : List ℕ} {is : List Item} {ms : Marks is} {i a j b : ℕ} → Got ks old new d B F ms i a j b → i ≤ j
on g = omega (arith, g.far)

pub put_as : {old new : List ℕ} {a b k m s x y : ℕ} → k ≡ m → Put old new a b k s x y → Put old new a b m s x y
put_as {old} {new} {a} {b} {s = s} {x = x} {y = y} e p = subst (λ (z : ℕ). Put old new a b z s x y) e p

-- ---- a refusal in a part, and behind one
pub b_part : {f : ℕ → ℕ} {d : ℕ} {F : List ℕ} {b : Bool} {X : Class} (is : List Item) {i n k : ℕ} → Run f d (after is F) (rd b X ∷ []) i (bad n k) → Run f d F (rd b X ∷ is) i (bad n k)
b_part {f = f} {d = d} {F = F} {b = b} {X = X} is {i = i} {n = n} {k = k} (rd_more {e = e} {p = p} {t = t} {j = j} _ _ _ x36) = elim x36 [ ]
b_part is (rd_six h) = rd_six h
b_part is (rd_five h) = rd_five h
b_part is (rd_none o h) = rd_none o h
b_part is (rd_bad o h v) = rd_bad o h v

join_bad : {f : ℕ → ℕ} {d : ℕ} {F : List ℕ} {b : Bool} {X : Class} (is : List Item) {i j : ℕ} {s : Syn (rd b X ∷ [])} {n k : ℕ} → Run f d (after is F) (rd b X ∷ []) i (got s j) → Run f d F is j (bad n k)
    → Run f d F (rd b X ∷ is) i (bad n k)
join_bad is (rd_got o h v end) w = rd_more o h v w

pub b_more : {ks old mid : List ℕ} {d B : ℕ} {F : List ℕ} {c : Bool} {X : Class} (is : List Item) {i a j b n k : ℕ} → Got ks old mid d B (after is F) (unmarked (rd c X ∷ [])) i a j b → Run (kind_at ks) (left d) F is j (bad n k) → Run (kind_at ks) (left d) F (rd c X ∷ is) i (bad n k)
b_more is g v = join_bad is g.run v

-- ---- answers put together: each item of a production in its turn
module _ {ks : List ℕ} {d B : ℕ} {F : List ℕ} where
  pub s_end : {old : List ℕ} {i a : ℕ} → i ≤ length ks → SaysWith ks old old d B F no_more i a (read_to i a)
  s_end l = says_got (g_end l)

  pub s_end_at : {old : List ℕ} {i : ℕ} {g : Read} → g.next ≡ i → i ≤ length ks → SaysWith ks old old d B F no_more i g.used (Ok g)
  s_end_at {old} {i} {g} e l = rw (sym e) (s_end (rw e l))

  pub s_sy : {old new : List ℕ} {is : List Item} {ms : Marks is} {k i a : ℕ} {r : Parsed} → kind_at ks i ≡ k → SaysWith ks old new d B F ms (i + 1) a r → SaysWith ks old new d B F (past {x = sy k} ms) i a r
  s_sy e s = record { read = λ j b q. g_sy e (s.read j b q); refused = λ n k q. sy_bad e (s.refused n k q) }

  pub s_no : {old new : List ℕ} {is : List Item} {k : ℕ} {ms : Marks (sy k ∷ is)} {i a : ℕ} → (kind_at ks i ≡ k → ⊥) → SaysWith ks old new d B F ms i a (fault_at (answer 5) i)
  s_no h = says_bad (sy_no h)

  pub s_stands : {old new : List ℕ} {is : List Item} {ms : Marks is} {k i j a : ℕ} {r : Parsed} → Stands ks i k j → SaysWith ks old new d B F ms j a r → SaysWith ks old new d B F (past {x = sy k} ms) i a r
  s_stands {old} {new} {ms = ms} {a = a} {r = r} h s = s_sy h.found (subst (λ (x : ℕ). SaysWith ks old new d B F ms x a r) h.next s)

  pub s_lacks : {old new : List ℕ} {is : List Item} {k : ℕ} {ms : Marks (sy k ∷ is)} {i a : ℕ} {f : Fault} → Lacks ks i k f → SaysWith ks old new d B F ms i a (Err f)
  s_lacks {old} {new} {ms = ms} {i = i} {a = a} h = subst (λ (x : Fault). SaysWith ks old new d B F ms i a (Err x)) (sym h.fault) (s_no h.other)

  pub s_put : {old mid new : List ℕ} {is : List Item} {ms : Marks is} {n : Node} {i a c s x y : ℕ} {r : Parsed} → Put old mid a c n.kind s x y → s ≡ word n.symbol d B i → x ≡ word n.one d B i → y ≡ word n.two d B i
      → SaysWith ks mid new d B F ms i c r → SaysWith ks old new d B F (put n ms) i a r
  s_put p e f h s = record { read = λ j b q. g_put p e f h (s.read j b q); refused = s.refused }

  pub s_none : {old new : List ℕ} {is : List Item} {X : Class} {ms : Marks (rd false X ∷ is)} {i a : ℕ} {f : Fault} → f ≡ wrong_at i → choose X (kind_at ks i) (kind_at ks (i + 1)) ≡ none → SaysWith ks old new d B F ms i a (Err f)
  s_none {old} {new} {ms = ms} {i = i} {a = a} e h = subst (λ (x : Fault). SaysWith ks old new d B F ms i a (Err x)) (sym e) (says_bad (rd_none level h))

  pub s_prod : {old new : List ℕ} {X : Class} (p : Prod X) {i a : ℕ} {r : Parsed} → choose X (kind_at ks i) (kind_at ks (i + 1)) ≡ some p → SaysWith ks old new d i F (marks p) i a r → Says ks old new d B F (rd false X ∷ []) i a r
  s_prod p h s = record { read = λ j b q. g_prod p h (s.read j b q); refused = λ n k q. rd_bad level h (s.refused n k q) }

pub s_part : {ks old mid new : List ℕ} {d A B : ℕ} {F : List ℕ} {c : Bool} {X : Class} (is : List Item) {ms : Marks is} {i a : ℕ} {g : Read} {r : Parsed} → Says ks old mid d A (after is F) (rd c X ∷ []) i a (Ok g) → SaysWith ks mid new d B F ms g.next g.used r → SaysWith ks old new d B F (past {x = rd c X} ms) i a r
s_part is h s = record { read = λ j b q. g_part is (got_of h) (s.read j b q); refused = λ n k q. b_more is (got_of h) (s.refused n k q) }

pub s_bad : {ks old mid new : List ℕ} {d A B : ℕ} {F : List ℕ} {c : Bool} {X : Class} (is : List Item) {ms : Marks (rd c X ∷ is)} {i a : ℕ} {f : Fault} → Says ks old mid d A (after is F) (rd c X ∷ []) i a (Err f) → SaysWith ks old new d B F ms i a (Err f)
s_bad is h = says_bad (b_part is (h.refused _ _ refl))

-- where a `?` leaves, the answer is the refusal that came
pub s_exit : {ks old new : List ℕ} {d B : ℕ} {F : List ℕ} {is : List Item} {ms : Marks is} {i a : ℕ} {f : Fault} {r : Parsed} → IsErrAnd r (λ e. e ≡ f) → SaysWith ks old new d B F ms i a (Err f) → SaysWith ks old new d B F ms i a r
s_exit {r = r} l s = let p = err_from_is_err_and r l in rw (p.1, p.2) s

-- items with no node among them are read alike wherever their production began
any_start : {is : List Item} (s : Syn is) (d A B i : ℕ) → nodes s (unmarked is) d A i ≡ nodes s (unmarked is) d B i
unfolding nodes
any_start nil d A B i = refl
any_start (tok s) d A B i = any_start s d A B (i + 1)
any_start (sub {b = c} p t s) d A B i = ap (λ (w : List ℕ). nodes t (marks p) (below c d) i i ++ w) (any_start s d A B (i + length (yield t)))

pub s_last : {ks old new : List ℕ} {d A B : ℕ} {F : List ℕ} {is : List Item} {i a : ℕ} {r : Parsed} → Says ks old new d A F is i a r → Says ks old new d B F is i a r
s_last {ks} {old} {new} {d} {A} {B} {F} {is} {i} {a} s = record { read = λ j b q. again (s.read j b q); refused = s.refused }
  where
    again : {j b : ℕ} → Got ks old new d A F (unmarked is) i a j b → Got ks old new d B F (unmarked is) i a j b
    again g =
        let e = any_start g.tree d A B i in
        record { tree = g.tree; run = g.run; within = g.within; far = g.far; num = omega (arith, g.num, ap length e); wrote = g.wrote ∙ ap (λ (w : List ℕ). take a old ++ w) e }

pub s_operand : {ks old new : List ℕ} {d B : ℕ} {F : List ℕ} {l m : Level} {i a : ℕ} {r : Parsed} → l ≡ m → Says ks old new d B F (rd false (operand m) ∷ []) i a r → Says ks old new d B F (rd false (operand l) ∷ []) i a r
s_operand {ks} {old} {new} {d} {B} {F} {i = i} {a = a} {r = r} e s = subst (λ (z : Level). Says ks old new d B F (rd false (operand z) ∷ []) i a r) (sym e) s

-- ---- one level deeper
module _ {d : ℕ} (l : d < 64) where
  one_less : {e : ℕ} → e ≡ 64 - (d + 1) → 64 - d ≡ suc e
  one_less q = omega arith

  down_run : {ks old new : List ℕ} (A : ℕ) {B : ℕ} {F : List ℕ} {X : Class} {i a j b : ℕ} {s : Syn (rd false X ∷ [])} {e : ℕ} → Run (kind_at ks) e F (rd false X ∷ []) i (got s j) → e ≡ left (d + 1)
      → j ≤ length ks → j ≡ i + length (yield s) → b ≡ a + length (nodes s (unmarked (rd false X ∷ [])) (d + 1) A i) → take b new ≡ take a old ++ nodes s (unmarked (rd false X ∷ [])) (d + 1) A i → Got ks old new d B F (unmarked (rd true X ∷ [])) i a j b
  unfolding nodes yield
  down_run {ks} A {F = F} {X = X} {i = i} {j = j} (rd_got {p = p} {t = t} level h v end) y w far num wrote =
      record { tree = sub p t nil; run = subst (λ (x : ℕ). Run (kind_at ks) x F (rd true X ∷ []) i (got (sub p t nil) j)) (sym (one_less y)) (rd_got deep h v end); within = w; far = far; num = num; wrote = wrote }

  pub deep_got : {ks old new : List ℕ} {A B : ℕ} {F : List ℕ} {X : Class} {i a j b : ℕ} → Got ks old new (d + 1) A F (unmarked (rd false X ∷ [])) i a j b → Got ks old new d B F (unmarked (rd true X ∷ [])) i a j b
  deep_got {A = A} g = down_run A g.run refl g.within g.far g.num g.wrote

  down_bad : {f : ℕ → ℕ} {e : ℕ} {F : List ℕ} {X : Class} {i n k : ℕ} → Run f e F (rd false X ∷ []) i (bad n k) → Run f (suc e) F (rd true X ∷ []) i (bad n k)
  down_bad {f = f} {e = e} {F = F} {X = X} {i = i} {n = n} {k = k} (rd_more {p = p} {t = t} {j = j} _ _ _ x36) = elim x36 [ ]
  down_bad (rd_none level h) = rd_none deep h
  down_bad (rd_bad level h v) = rd_bad deep h v

  pub deep_bad : {f : ℕ → ℕ} {F : List ℕ} {X : Class} {i n k : ℕ} → Run f (left (d + 1)) F (rd false X ∷ []) i (bad n k) → Run f (left d) F (rd true X ∷ []) i (bad n k)
  deep_bad {f} {F} {X} {i} {n} {k} v = subst (λ (x : ℕ). Run f x F (rd true X ∷ []) i (bad n k)) (sym (one_less refl)) (down_bad v)

  pub s_deeper : {ks old new : List ℕ} {A B : ℕ} {F : List ℕ} {X : Class} {i a : ℕ} {r : Parsed} → Says ks old new (d + 1) A F (rd false X ∷ []) i a r → Says ks old new d B F (rd true X ∷ []) i a r
  s_deeper s = record { read = λ j b q. deep_got (s.read j b q); refused = λ n k q. deep_bad (s.refused n k q) }

-- ---- what may follow a statement
module _ {x : ℕ} (m : List ℕ) where
  pub may : (e : Bool) (l : List ℕ) → subset l (m ++ behind true) ≡ true → subset l (m ++ behind false) ≡ true → In x l → In x (m ++ behind e)
  may true l p q h = subset_in (m ++ behind true) p h
  may false l p q h = subset_in (m ++ behind false) q h

  pub may_end : {e : Bool} → e ≡ true → subset (1 ∷ []) (m ++ behind true) ≡ true → x ≡ 1 → In x (m ++ behind e)
  may_end {e} q p h = subst (λ (z : Bool). In x (m ++ behind z)) (sym q) (subset_in (m ++ behind true) p (now {l = []} h))

  pub may_not : (e : Bool) (l : List ℕ) → disjoint (m ++ behind true) l ≡ true → disjoint (m ++ behind false) l ≡ true → In x l → In x (m ++ behind e) → ⊥
  may_not true l p q h i = apart (m ++ behind true) l p i h
  may_not false l p q h i = apart (m ++ behind false) l q i h

  pub may_not_end : {e : Bool} → e ≡ false → disjoint (m ++ behind false) (1 ∷ []) ≡ true → x ≡ 1 → In x (m ++ behind e) → ⊥
  may_not_end {e} q p h i = apart (m ++ behind false) (1 ∷ []) p (subst (λ (z : Bool). In x (m ++ behind z)) q i) (now {l = []} h)
