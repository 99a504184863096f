-- Request 7: what the loops of `moving` bring together is what the one program of a prelude and a scheme needs: its nodes, and the places of its symbols.
use Prim.Native.Nat.{ℕ, ◌+◌, ◌-◌, ◌<◌, ◌≤◌}
use native.Mathlib.Omega.{arith}
use native.Mathlib.Decide.{dec_lt}
use mathlib.Core.Path.{◌≡◌, refl, sym, ap, ◌∙◌}
use mathlib.Core.List.{List, [], ◌∷◌, ◌++◌}
use lib.ListN.{length, take, get_or, length-map, get_or-append, get_or-eq_default}
use lib.Seq.{length-take-le, get_or-take, get_or-append-add}
use borrow.Author.Tests.{lt-ltb, le-ltb}
use Rattle.symbols.specs.Names.{letters_at}
use Rattle.symbols.specs.Symbols.{kind}
use Rattle.symbols.specs.Scan.{scan, places_of}
use Rattle.grammar.specs.Grammar.{program, preludes}
use Rattle.grammar.specs.Trees.{Syn}
use Rattle.grammar.specs.model.Marked.{nodes_of, prelude_nodes}
use Rattle.names.specs.Program.{Statement, Procedure, heading}
use Rattle.names.specs.Nodes.{nodes_s, nodes_d, nodes_p}
use Rattle.names.specs.Prelude.{declarations_of, with_prelude}
use Rattle.names.specs.ReadOff.{program_from, prelude_of}
use Rattle.names.proofs.Bridge.{bridge_prelude, bridge_behind}
use Rattle.reading.specs.Judging as any
use Rattle.reading.specs.Two.{beyond, symbols, count_of, left, place_with}
use Rattle.reading.specs.model.Moves.{page, shift, marked, first_raised, PlacedWith}
use Rattle.reading.specs.model.Preluding.{depth_with}
use Rattle.reading.proofs.Moves.{raised_below, length_raised}
use Rattle.reading.proofs.Page.{scheme_letters, prelude_letters}
use Rattle.reading.proofs.Places.{place_inside}
use Rattle.reading.proofs.Shifted.{shifted}

pub marked_is : (q : ℕ) (ps : List Procedure) (s : Statement) → marked q (nodes_d 0 (declarations_of ps)) (nodes_s 1 s) ≡ nodes_s (depth_with ps) (with_prelude q ps s)
unfolding nodes_s nodes_d nodes_p
marked_is q [] s = refl
marked_is q (heading t f xs vs ss b ∷ ps) s = refl

-- `shift` and `around` over what was parsed of each text by itself give the nodes of the one program
pub one_program : (worth worth' : ℕ → ℕ) (letters letters' : ℕ → List ℕ) (q m : ℕ) (t : Syn preludes) (u : Syn program)
    → marked q (prelude_nodes t) (shift m (nodes_of u)) ≡ nodes_s (depth_with (prelude_of worth letters t)) (with_prelude q (prelude_of worth letters t) (program_from worth' letters' m u))
one_program worth worth' letters letters' q m t u =
    ap (λ (w : List ℕ). marked q w (shift m (nodes_of u))) (bridge_prelude worth letters t)
    ∙ ap (λ (w : List ℕ). marked q (nodes_d 0 (declarations_of (prelude_of worth letters t))) w) (sym (shifted m u) ∙ bridge_behind worth' letters' m u)
    ∙ marked_is q (prelude_of worth letters t) (program_from worth' letters' m u)

-- behind the last symbol of both stands the scheme's length
pub behind_both : {prelude scheme places : List ℕ} {n : ℕ} → PlacedWith prelude scheme places n → (k : ℕ) → n ≤ k → place_with prelude scheme k ≡ length scheme
behind_both {prelude} {scheme} p k l =
    let found = (scan (left prelude) scheme).found in
    rw (le-ltb k (count_of prelude) (omega (arith, p.count)))
    (get_or-eq_default (places_of found) (length scheme) {n = k - count_of prelude} (omega (arith, p.count, length-map found (λ f. kind f.symbol), length-map found (λ f. f.place))))

-- `beyond` over the prelude's places, and `symbols` with the scheme's behind them, give the places of both
pub places_both : {new : List ℕ} (prelude scheme P S : List ℕ) (m n : ℕ) → ((k : ℕ) → k < m → get_or P k 0 ≡ any.place_in symbols prelude k) → ((k : ℕ) → k < n → get_or S k 0 ≡ any.place_in (left prelude) scheme k)
    → m ≡ count_of prelude → n ≡ length (any.kinds_in (left prelude) scheme) → m ≤ length P → n ≤ length S → take (m + n) new ≡ take m (first_raised beyond m P) ++ take n S → PlacedWith prelude scheme new (m + n)
places_both {new} prelude scheme P S m n hp hs em en lp ls e = record { count = omega arith; placed = λ k l. sym (get_or-take (m + n) new k 0 l) ∙ ap (λ (w : List ℕ). get_or w k 0) e ∙ go k l (dec_lt k m) }
  where
    l_a : length (take m (first_raised beyond m P)) ≡ m
    l_a = length-take-le m (first_raised beyond m P) (omega (arith, length_raised beyond P m))

    go : (k : ℕ) → k < m + n → Dec (k < m) → get_or (take m (first_raised beyond m P) ++ take n S) k 0 ≡ place_with prelude scheme k
    go k l (yes h) =
        get_or-append (take m (first_raised beyond m P)) (take n S) 0 k (omega (arith, l_a)) ∙ get_or-take m (first_raised beyond m P) k 0 h ∙ raised_below beyond P m k 0 h lp
        ∙ ap (λ (x : ℕ). x + beyond) (hp k h) ∙ rw (lt-ltb k (count_of prelude) (omega arith)) refl
    go k l (no h) =
        let z : k ≡ length (take m (first_raised beyond m P)) + (k - m) = omega (arith, l_a) in
        let z' : k - m ≡ k - count_of prelude = omega arith in
        ap (λ (j : ℕ). get_or (take m (first_raised beyond m P) ++ take n S) j 0) z ∙ get_or-append-add (take m (first_raised beyond m P)) (take n S) (k - m) 0 ∙ get_or-take n S (k - m) 0 (omega arith)
        ∙ hs (k - m) (omega arith) ∙ ap (λ (j : ℕ). any.place_in (left prelude) scheme j) z' ∙ rw (le-ltb k (count_of prelude) (omega arith)) refl

-- on the page the letters at a symbol's place are those of its own text: so identities are told over the page
module _ (prelude scheme : List ℕ) (k : ℕ) (l : length scheme ≤ 16384) where
  pub letters_prelude : length prelude ≤ 16384 → k < count_of prelude → letters_at (page scheme prelude) (place_with prelude scheme k) ≡ letters_at prelude (any.place_in symbols prelude k)
  letters_prelude l' h = rw (lt-ltb k (count_of prelude) h) (prelude_letters scheme prelude (any.place_in symbols prelude k) l l' (place_inside symbols prelude k))

  pub letters_scheme : count_of prelude ≤ k → letters_at (page scheme prelude) (place_with prelude scheme k) ≡ letters_at scheme (any.place_in (left prelude) scheme (k - count_of prelude))
  letters_scheme h = rw (le-ltb k (count_of prelude) h) (scheme_letters scheme prelude (any.place_in (left prelude) scheme (k - count_of prelude)) l (place_inside (left prelude) scheme (k - count_of prelude)))
