-- Procedure statements in the pass that writes code: procedures, and what the environment gives. The second actual of ininteger is kept, not loaded.
-- Assumes nothing.
use Prim.Native.Nat.{ℕ, zero, suc, ◌+◌, ◌-◌}
use native.Mathlib.Omega.{arith}
use mathlib.Core.Path.{◌≡◌, refl, sym, ap, ◌∙◌}
use mathlib.Core.List.{List, [], ◌∷◌, ◌++◌, append_assoc}
use mathlib.Core.Option.{Option, none, some}
use lib.Dec.{eqb}
use lib.ListN.{length, get_or}
use Rattle.reals.specs.declared.Form.TheVariants.{Wholes, Reals}
use Rattle.reals.specs.declared.Unary.TheVariants.{Absolute}
use Rattle.machine.specs.Data.{push, reserve, unary, forget, receive, send, channel, gone}
use Rattle.machine.specs.Instructions.{cell_found, Instruction, DO, high, low, form_number}
use Rattle.grammar.specs.NodeKinds.{n_use, n_call, n_call_end, n_actual}
use Rattle.names.specs.Program.{Name, Sort, integer, real, Expression, number, decimal, logical, name, call, signed, operated, chosen, nested, Expressions, done, then, count, first_symbol, Procedure}
use Rattle.names.specs.Scopes.{Thing, variable, routine, formal, by_name, Mode, by_value, formals_of, modes_of, Declared, Scope, sort_of, Given, Meaning, declared, given, nothing, meaning}
use Rattle.names.specs.Nodes.{node, mark, nodes_e, nodes_es, nodes_call}
use Rattle.names.specs.model.Rows.{is_use}
use Rattle.names.specs.Uses.{Use, used, uses_e, uses_es}
use Rattle.rules.specs.Entered.{one_if, form_for, form_as}
use Rattle.rules.specs.Calls.{Command, greatest_of, input_to, thing_told, into, given_told, command, Way, direct, sought, way}
use Rattle.rules.specs.Rules.{maxint}
use Rattle.translation.specs.model.Translate.{Around, scopes, loc, end_e, end_es, end_call, end_take, end_command, CALLS, SEEKS, AS, code_es, code_call, code_take, code_command}
use Rattle.machine.specs.model.Words.{Parts, CodeFits}
use Rattle.translation.specs.model.Scoped.{OkW, OkEs, OkCommand}
use Rattle.emitting.specs.model.Layout.{packed}
use Rattle.emitting.specs.model.Emission.{opened, form_at, put, with_open, with_variable, nameless, replaced, top, below, bare, found_word, on_cell, largest, cell_of, result_of, called_with, result_for, dropped, named, named_or, taken_in, given_turned, actual_in, call_ended, use_node, code_node}
use Rattle.translating.proofs.SlotLists.{no_slot, ahead_es, ahead_call, ahead_command}
use Rattle.translating.proofs.Written.{Tables, Frame, Flow, use_kind, kind_of, means_of, taken, varied, put_all, wrote_all, puts_real, past, Same, wrote_all_lem, fits_apart, step, state, Passed, Fits, Emits, goes_node, goes_then, ◌and_then◌, passed_all, passed_as, passed_words, use_step}
use Rattle.translating.proofs.WrittenChoices.{fits_open}
use Rattle.translating.proofs.NameWords.{Known, Targets, result_is}
use Rattle.translating.proofs.WrittenNames.{parts, Moded, word_at, seeks, seeks_is, Worded, worded, call_word, kept_word, name_step}
use Rattle.translating.proofs.ActualWords.{word_in}
use Rattle.translating.proofs.WrittenActuals.{passed_acted}
use Rattle.translating.proofs.WrittenExpressions.{IsTold, AreTold, in_given, counted, last_place, Quiet, GivenAt, typed_step, plain_step, ended_step, IsE, GivenEs, Actuals, modes_many, call_end, given_call, emits_e, acts_es, given_es}

module _ (tb : Tables) where
  -- ---- names alone

  call_named : (n p f w : ℕ) (fr : Frame) (fl : Flow) → result_of tb.values tb.layout tb.ahead tb.entries 2 n ≡ 0
      → with_variable fr.awaits w (named tb.values tb.layout tb.ahead tb.entries 2 n 1 p f (state tb fr fl))
      ≡ put_all (parts 6 p (packed (fr.level - high (get_or tb.layout n 0)) 0 (get_or tb.entries n 0)) ∷ []) (state tb fr (varied w fl))
  unfolding named called_with result_for put with_variable
  call_named n p f w fr fl e = rw e

  typed_named : (n p f w : ℕ) (fr : Frame) (fl : Flow) → result_of tb.values tb.layout tb.ahead tb.entries 2 n ≡ 1
      → with_variable fr.awaits w (named tb.values tb.layout tb.ahead tb.entries 2 n 1 p f (state tb fr fl))
      ≡ put_all (parts 16 p f ∷ parts 6 p (packed (fr.level - high (get_or tb.layout n 0)) 1 (get_or tb.entries n 0)) ∷ []) (state tb fr (varied w fl))
  unfolding named called_with result_for put with_variable
  typed_named n p f w fr fl e = rw e

  greatest_named : (n p f w : ℕ) (fr : Frame) (fl : Flow)
      → with_variable fr.awaits w (named tb.values tb.layout tb.ahead tb.entries 0 n 1 p f (state tb fr fl)) ≡ put_all (parts 12 p largest ∷ parts 17 0 0 ∷ []) (state tb fr (varied w fl))
  unfolding named dropped put with_variable
  greatest_named n p f w fr fl = refl

  -- ---- ends of calls

  absolute_step : (s j p : ℕ) (fr : Frame) (fl : Flow) → step tb n_call_end s 0 1 (state tb (in_given 0 j p fr) fl) ≡ put_all (parts 24 (tb.place s) 0 ∷ parts 17 0 0 ∷ []) (state tb fr (varied 0 fl))
  unfolding call_ended dropped nameless with_variable put
  absolute_step s j p fr fl = ended_step tb s 1 0 j p fr fl

  send_step : (s j p : ℕ) (fr : Frame) (fl : Flow) → step tb n_call_end s 0 1 (state tb (in_given 3 j p fr) fl) ≡ put_all (parts 19 (tb.place s) 0 ∷ []) (state tb fr (varied 0 fl))
  unfolding call_ended nameless with_variable put
  send_step s j p fr fl = ended_step tb s 1 3 j p fr fl

  real_step : (s j p : ℕ) (fr : Frame) (fl : Flow) → step tb n_call_end s 0 1 (state tb (in_given 4 j p fr) fl) ≡ put_all (parts 47 (tb.place s) 0 ∷ []) (state tb fr (varied 0 fl))
  unfolding call_ended nameless with_variable put
  real_step s j p fr fl = ended_step tb s 1 4 j p fr fl

  -- ininteger: p its place, q that of its second actual
  abbrev take_parts : Way → ℕ → ℕ → ℕ → List Parts
  take_parts direct p q v = parts 18 p (bare v) ∷ []
  take_parts sought p q v = parts 45 p 0 ∷ parts 41 q (bare v) ∷ parts 18 p found_word ∷ []

  taken_puts : (w : Way) (p q : ℕ) (fr : Frame) (fl : Flow) → eqb (low fl.variable) 2 ≡ seeks w
      → nameless (taken_in tb.values tb.layout tb.ahead tb.entries p q (state tb fr fl)) ≡ put_all (take_parts w p q fl.variable) (state tb fr (varied 0 fl))
  unfolding taken_in on_cell nameless with_variable put
  taken_puts direct p q fr fl e = rw e
  taken_puts sought p q fr fl e = rw e

  receive_step : (w : Way) (s j q : ℕ) (fr : Frame) (fl : Flow) → eqb (low fl.variable) 2 ≡ seeks w
      → step tb n_call_end s 0 1 (state tb (in_given 2 j q fr) fl) ≡ put_all (take_parts w (tb.place s) q fl.variable) (state tb fr (varied 0 fl))
  unfolding call_ended
  receive_step w s j q fr fl e = ended_step tb s 1 2 j q fr fl ∙ taken_puts w (tb.place s) q fr fl e

  abbrev take_instrs : Way → List Around → ℕ → Name → List Instruction
  take_instrs direct g p y = DO (receive p (loc g y)) ∷ []
  take_instrs sought g p y = DO (channel p) ∷ SEEKS tb.place g y ∷ DO (receive p cell_found) ∷ []

  take_code : (w : Way) (g : List Around) (p : ℕ) (y : Name) (r : List Instruction) → take_instrs w g p y ++ r ≡ code_take tb.place w g p y r
  unfolding code_take
  take_code direct g p y r = refl
  take_code sought g p y r = refl

  take_past : (w : Way) (p q v e : ℕ) → past (take_parts w p q v) e ≡ end_take w e
  unfolding end_take
  take_past direct p q v e = refl
  take_past sought p q v e = refl

  take_same : (w : Way) (g : List Around) (p : ℕ) (y : Name) (v : ℕ) → Worded w g y v → CodeFits (take_instrs w g p y) → Same (take_parts w p (tb.place y.symbol) v) (take_instrs w g p y)
  take_same direct g p y v h c = (ap (parts 18 p) (h c.0).bared, tt)
  take_same sought g p y v h c = (refl, (ap (parts 41 (tb.place y.symbol)) (h c.1.0).bared, (refl, tt)))

  -- ---- the second actual of ininteger

  abbrev awaiting : ℕ → Frame → Frame
  awaiting n fr = record { level = fr.level; loops = fr.loops; cells = fr.cells; lefts = fr.lefts; awaits = n; opens = fr.opens }

  first_step : (s : ℕ) (fr : Frame) (fl : Flow)
      → step tb n_actual s 0 0 (state tb (in_given 2 0 0 fr) fl) ≡ put_all (parts 50 (tb.place s) 0 ∷ []) (state tb (awaiting 1 (in_given 2 1 (tb.place s) fr)) fl)
  unfolding step code_node is_use actual_in given_turned with_variable replaced with_open top below put
  first_step s fr fl = refl

  second_step : (s p : ℕ) (fr : Frame) (fl : Flow) → step tb n_actual s 0 0 (state tb (awaiting 0 (in_given 2 1 p fr)) fl) ≡ state tb (awaiting 0 (in_given 2 2 (tb.place s) fr)) fl
  unfolding step code_node is_use actual_in given_turned with_variable replaced with_open top below
  second_step s p fr fl = refl

  awaited_step : (s d : ℕ) (fr : Frame) (fl : Flow) (gs : List Scope) (x : Name) (us : List Use) → fl.uses ≡ used gs x ∷ us
      → step tb n_use s d 0 (state tb (awaiting 1 fr) fl)
      ≡ state tb (awaiting 0 fr) (varied (cell_of tb.values tb.layout tb.ahead tb.entries fr.level (kind_of (meaning gs x)) (means_of tb.key (meaning gs x))) (taken us fl))
  unfolding use_node named_or with_variable is_use
  awaited_step s d fr fl gs x us u = use_step tb n_use s d 0 (awaiting 1 fr) fl gs x us (kind_of (meaning gs x)) (means_of tb.key (meaning gs x)) refl u refl refl

module _ (tb : Tables) (R : Type 0) (g : List Around) (right : R → Targets tb.key tb.entries g) (known : Known tb.key tb.layout g) (m : ℕ) where
  abbrev pub Told : Name → Expressions → ℕ → ℕ → Command → Type 0
  Told x es d b c =
      Emits tb R g 0 m (nodes_call d x es) (used (scopes g) x ∷ uses_es (scopes g) es) b (end_command (scopes g) c es b) (ahead_command tb.place (word_in tb.key tb.layout) g c es b) (λ t. t) (code_command tb.place c g x es b)

  abbrev CalledAs : Name → Expressions → ℕ → ℕ → Option Sort → List Mode → Type 0
  CalledAs x es d b t ms =
      Emits tb R g 0 m (nodes_call d x es) (used (scopes g) x ∷ uses_es (scopes g) es) b (end_call (scopes g) t ms es b) (ahead_call tb.place (word_in tb.key tb.layout) g t ms es b) (λ t. t) (code_call tb.place g t ms x es b)

  -- the type of a result
  result_form : (x : Name) (D : Declared) (hs : List Scope) (p : Procedure) (t : Sort) → Moded tb (scopes g) x → meaning (scopes g) x ≡ declared D hs → D.thing ≡ routine p → sort_of p ≡ some t
      → form_at tb.rows (tb.key D.name.symbol) ≡ form_number (form_for t)
  result_form x D hs p t asked e i s = (asked D hs p e i).0 ∙ ap (λ (s : Option Sort). form_number (form_as s)) s

  -- a procedure without actuals
  alone_part : (x : Name) (d b : ℕ) (D : Declared) (hs : List Scope) (p : Procedure) (t : Option Sort) → Moded tb (scopes g) x → meaning (scopes g) x ≡ declared D hs → D.thing ≡ routine p → sort_of p ≡ t
      → CalledAs x done d b t (modes_of p)
  unfolding nodes_call uses_es end_es ahead_es code_es count
  alone_part x d b D hs p none asked e i s =
      record {
        pass = λ us fr fl f u a.
            let q = tb.place x.symbol in
            let n = tb.key D.name.symbol in
            let no : result_of tb.values tb.layout tb.ahead tb.entries 2 n ≡ 0 = result_is tb.key tb.layout tb.values tb.ahead tb.entries g x D hs p known e i ∙ ap one_if s in
            let w = kept_word tb 2 n d fr (taken us fl) in
            passed_all w (CALLS tb.place g x 0 gone ∷ []) (parts 6 q (packed (fr.level - high (get_or tb.layout n 0)) 0 (get_or tb.entries n 0)) ∷ []) n_use x.symbol d 1
            (name_step tb x.symbol d 1 fr fl (scopes g) x us 2 n f.awaits u (ap kind_of e ∙ ap use_kind i) (ap (means_of tb.key) e) ∙ call_named tb n q (form_at tb.rows n) w fr (taken us fl) no)
            a
            (λ z c. (ap (parts 6 q) (call_word tb g known x D hs p fr.level 0 0 (right z) f.level e i refl c.0), tt));
      }
  alone_part x d b D hs p (some t) asked e i s =
      record {
        pass = λ us fr fl f u a.
            let q = tb.place x.symbol in
            let n = tb.key D.name.symbol in
            let one : result_of tb.values tb.layout tb.ahead tb.entries 2 n ≡ 1 = result_is tb.key tb.layout tb.values tb.ahead tb.entries g x D hs p known e i ∙ ap one_if s in
            let w = kept_word tb 2 n d fr (taken us fl) in
            passed_all w (DO (reserve q (form_for t)) ∷ CALLS tb.place g x 1 gone ∷ [])
            (parts 16 q (form_at tb.rows n) ∷ parts 6 q (packed (fr.level - high (get_or tb.layout n 0)) 1 (get_or tb.entries n 0)) ∷ []) n_use x.symbol d 1
            (name_step tb x.symbol d 1 fr fl (scopes g) x us 2 n f.awaits u (ap kind_of e ∙ ap use_kind i) (ap (means_of tb.key) e) ∙ typed_named tb n q (form_at tb.rows n) w fr (taken us fl) one)
            a
            (λ z c. (ap (parts 16 q) (result_form x D hs p t asked e i s), (ap (parts 6 q) (call_word tb g known x D hs p fr.level 1 1 (right z) f.level e i refl c.1.0), tt)));
      }

  greatest_part : (x : Name) (d b n : ℕ) (y : Given) → meaning (scopes g) x ≡ given n y → Told x done d b greatest_of
  unfolding nodes_call uses_es
  greatest_part x d b n y e =
      record {
        pass = λ us fr fl f u a.
            let w = kept_word tb 0 n d fr (taken us fl) in
            passed_all w (DO (push (tb.place x.symbol) maxint) ∷ DO forget ∷ []) (parts 12 (tb.place x.symbol) largest ∷ parts 17 0 0 ∷ []) n_use x.symbol d 1
            (name_step tb x.symbol d 1 fr fl (scopes g) x us 0 n f.awaits u (ap kind_of e) (ap (means_of tb.key) e) ∙ greatest_named tb n (tb.place x.symbol) (form_at tb.rows n) w fr (taken us fl))
            a
            (λ z c. (refl, (refl, tt)));
      }

  -- with actuals
  module _ (e : Expression) (es : Expressions) (d : ℕ) where
    called_part : (x : Name) (b : ℕ) (D : Declared) (hs : List Scope) (p : Procedure) (t : Option Sort) → Actuals tb R 0 m g right known (then e es) (d + 1) → Moded tb (scopes g) x
        → length (formals_of p) ≡ count (then e es) → meaning (scopes g) x ≡ declared D hs → D.thing ≡ routine p → sort_of p ≡ t → CalledAs x (then e es) d b t (modes_of p)
    unfolding nodes_call nodes_es uses_es count
    called_part x b D hs p none args asked many i j s =
        record {
          pass = λ us fr fl f u a.
              let n = tb.key D.name.symbol in
              let us' : List Use = uses_es (scopes g) (then e es) ++ us in
              let no : result_of tb.values tb.layout tb.ahead tb.entries 2 n ≡ 0 = result_is tb.key tb.layout tb.values tb.ahead tb.entries g x D hs p known i j ∙ ap one_if s in
              let y = args (modes_of p) b (modes_many tb R 0 m g right known p (count (then e es)) many) n 0 (asked D hs p i j).1 us fr (taken us' fl) f refl a in
              let c = passed_acted us' [] [] n_call x.symbol d 1
              (plain_step tb x.symbol d 1 fr fl (scopes g) x us' n u (ap kind_of i ∙ ap use_kind j) (ap (means_of tb.key) i) no) a (λ z c. tt) y in
              c
              and_then (call_end tb R 0 m g right known x (then e es) (d + 1) D hs p 1 (count (then e es)) (end_es (scopes g) (modes_of p) (then e es) b) gone i j (omega (arith, ap one_if s)) (λ l v w. refl) (λ l v w t. t) us fr c.next f c.uses c.at);
        }
    called_part x b D hs p (some t) args asked many i j s =
        record {
          pass = λ us fr fl f u a.
              let q = tb.place x.symbol in
              let n = tb.key D.name.symbol in
              let us' : List Use = uses_es (scopes g) (then e es) ++ us in
              let one : result_of tb.values tb.layout tb.ahead tb.entries 2 n ≡ 1 = result_is tb.key tb.layout tb.values tb.ahead tb.entries g x D hs p known i j ∙ ap one_if s in
              let ps : List Parts = parts 16 q (form_at tb.rows n) ∷ [] in
              let y = args (modes_of p) (suc b) (modes_many tb R 0 m g right known p (count (then e es)) many) n 0 (asked D hs p i j).1 us fr (wrote_all ps (taken us' fl)) f refl (ap suc a) in
              let c = passed_acted us' (DO (reserve q (form_for t)) ∷ []) ps n_call x.symbol d 1
              (typed_step tb x.symbol d 1 fr fl (scopes g) x us' n u (ap kind_of i ∙ ap use_kind j) (ap (means_of tb.key) i) one) a (λ z c. (ap (parts 16 q) (result_form x D hs p t asked i j s), tt)) y in
              c
              and_then (call_end tb R 0 m g right known x (then e es) (d + 1) D hs p 1 (suc (count (then e es))) (end_es (scopes g) (modes_of p) (then e es) (suc b)) gone i j (omega (arith, ap one_if s)) (λ l v w. refl) (λ l v w t. t) us fr c.next f c.uses c.at);
        }

    -- of the environment, with no result to be stored to
    given_part : (x : Name) (n b : ℕ) (y : Given) (ms : List Mode) (is : List Instruction) (ps : List Parts) → GivenEs tb R 0 m g ms (then e es) (d + 1) b → Quiet n → GivenAt n 0 ms → meaning (scopes g) x ≡ given n y
        → ((j p : ℕ) (fr : Frame) (fl : Flow) → step tb n_call_end x.symbol 0 1 (state tb (in_given n j p fr) fl) ≡ put_all ps (state tb fr (varied 0 fl))) → (R → CodeFits is → Same ps is)
        → Emits tb R g 0 m (nodes_call d x (then e es)) (used (scopes g) x ∷ uses_es (scopes g) (then e es)) b (past ps (end_es (scopes g) ms (then e es) b)) (ahead_es tb.place (word_in tb.key tb.layout) g ms (then e es) b) (λ t. t) (λ r. code_es tb.place g ms (then e es) b (is ++ r))
    unfolding nodes_call nodes_es
    given_part x n b y ms is ps args quiet forms i end same =
        record {
          pass = λ us fr fl f u a.
              let c = given_call tb R 0 m g right known x n d 1 b y i (uses_es (scopes g) (then e es) ++ us) fr fl u a in
              let s = args n 0 0 quiet forms us fr c.next f c.uses c.at in
              let j = counted 0 (then e es) in
              let p = last_place tb 0 (then e es) in
              let z : Passed tb R (in_given n j p fr) fr (node n_call_end x.symbol 0 1) us (past ps (end_es (scopes g) ms (then e es) b)) (λ k. k) (λ t. t) (λ r. is ++ r) s.next =
              passed_all 0 is ps n_call_end x.symbol 0 1 (end j p fr s.next ∙ ap (λ (us : List Use). put_all ps (state tb fr (varied 0 (taken us s.next)))) s.uses) s.at same in
              c and_then s and_then z;
        }

  -- ininteger from its second actual on; p: the place of the first
  input_tail : (x y : Name) (d p e : ℕ) → OkW (scopes g) y → (us : List Use) (fr : Frame) (fl : Flow) → Fits tb g 0 m fr → fl.uses ≡ used (scopes g) y ∷ us → fl.at ≡ e
      → Passed tb R (awaiting tb 1 (in_given 2 1 p fr)) fr (node n_use y.symbol d 0 ++ (mark n_actual y.symbol ++ node n_call_end x.symbol 0 1)) us (end_take (way (meaning (scopes g) y)) e) (λ k. k) (λ t. t) (code_take tb.place (way (meaning (scopes g) y)) g (tb.place x.symbol) y) fl
  input_tail x y d p e ok us fr fl f u a =
      let w = way (meaning (scopes g) y) in
      let v = word_at tb g fr.level y in
      let q = tb.place x.symbol in
      let q' = tb.place y.symbol in
      let fl₁ = varied v (taken us fl) in
      let fl₂ = varied 0 fl₁ in
      let ps = take_parts tb w q q' v in
      let is = take_instrs tb w g q y in
      let k = wrote_all_lem ps e fl₂ a in
      let t : Passed tb R (awaiting tb 1 (in_given 2 1 p fr)) fr (node n_use y.symbol d 0 ++ (mark n_actual y.symbol ++ node n_call_end x.symbol 0 1)) us (past ps e) (λ k. k) (λ t. t) (λ r. is ++ r) fl =
      record {
        next = wrote_all ps fl₂;
        goes =
            goes_then (goes_node n_use y.symbol d 0 (awaited_step tb y.symbol d (in_given 2 1 p fr) fl (scopes g) y us u))
            (goes_then (goes_node n_actual y.symbol 0 0 (second_step tb y.symbol p fr fl₁))
            (goes_node n_call_end x.symbol 0 1
            (receive_step tb w x.symbol 2 q' (awaiting tb 0 fr) fl₁ (seeks_is tb g fr.level y)
            ∙ puts_real tb.key ps (awaiting tb 0 fr) fl₂
            ∙ ap (λ (n : ℕ). state tb (awaiting tb n fr) (wrote_all ps fl₂)) (sym f.awaits))));
        uses = k.uses;
        at = k.at;
        fills = rw k.slots no_slot;
        enters = k.entries;
        right = λ z k' r d c.
            let h = fits_apart is r c in
            (k.code is r (take_same tb w g q y v (worded tb g known y fr.level f.level ok) h.0), h.1);
      } in
      passed_as (end_take w e) (code_take tb.place w g q y) (take_past tb w q q' v e) (take_code tb w g q y) t

  input_part : (x y : Name) (e : Expression) (d b : ℕ) (w : Given) → IsE tb R 0 m g e (d + 1) b → OkW (scopes g) y → meaning (scopes g) x ≡ given 2 w
      → Told x (then e (then (name y) done)) d b (input_to e y)
  unfolding nodes_call nodes_es uses_es first_symbol
  input_part x y e d b w arg ok i =
      record {
        pass = λ us fr fl f u a.
            let ne = nodes_e (d + 1) e in
            let ue = uses_e (scopes g) e in
            let tail : List ℕ = mark n_actual (first_symbol e) ++ (node n_use y.symbol (d + 1) 0 ++ mark n_actual y.symbol) in
            let us' : List Use = used (scopes g) y ∷ us in
            let p' = tb.place (first_symbol e) in
            let c = given_call tb R 0 m g right known x 2 d 1 b w i (ue ++ us') fr fl (u ∙ ap (λ (l : List Use). used (scopes g) x ∷ l) (append_assoc ue (used (scopes g) y ∷ []) us)) a in
            let p = arg.pass us' (in_given 2 0 0 fr) c.next (fits_open (opened 0 2 0 0 ∷ fr.opens) f) c.uses c.at in
            let ps : List Parts = parts 50 p' 0 ∷ [] in
            let s : Passed tb R (in_given 2 0 0 fr) (awaiting tb 1 (in_given 2 1 p' fr)) (mark n_actual (first_symbol e)) us' (suc (end_e (scopes g) e b)) (λ k. k) (λ t. t) (λ r. AS tb.place e Wholes ∷ r) p.next =
            passed_all p.next.variable (AS tb.place e Wholes ∷ []) ps n_actual (first_symbol e) 0 0
            (first_step tb (first_symbol e) fr p.next ∙ ap (λ (us : List Use). put_all ps (state tb (awaiting tb 1 (in_given 2 1 p' fr)) (taken us p.next))) p.uses)
            p.at (λ _ c. (refl, tt)) in
            let z = input_tail x y (d + 1) p' (suc (end_e (scopes g) e b)) ok us fr s.next f s.uses s.at in
            c and_then passed_words ((ne ++ tail) ++ node n_call_end x.symbol 0 1) (sym (append_assoc ne tail (node n_call_end x.symbol 0 1))) (p and_then s and_then z);
      }

  -- ---- by what the name means

  pub command_part : (x : Name) (es : Expressions) (d b : ℕ) → OkCommand (scopes g) x es (command (meaning (scopes g) x) es) → Moded tb (scopes g) x → AreTold tb (scopes g) es
      → Told x es d b (command (meaning (scopes g) x) es)
  unfolding command end_es ahead_es code_es count
  command_part x es d b ok asked n = go (meaning (scopes g) x) refl ok
    where
      routine_part : (es : Expressions) → AreTold tb (scopes g) es → (D : Declared) (hs : List Scope) (p : Procedure) → meaning (scopes g) x ≡ declared D hs → D.thing ≡ routine p
          → length (formals_of p) ≡ count es → OkEs (scopes g) es → CalledAs x es d b (sort_of p) (modes_of p)
      routine_part done n D hs p i j many ok = alone_part x d b D hs p (sort_of p) asked i j refl
      routine_part (then e es) n D hs p i j many ok = called_part e es d x b D hs p (sort_of p) (λ ms b l. acts_es tb R 0 m g right known (then e es) (d + 1) ok n ms b l) asked many i j refl

      thing : (D : Declared) (hs : List Scope) → meaning (scopes g) x ≡ declared D hs → (t : Thing) → D.thing ≡ t → OkCommand (scopes g) x es (thing_told t) → Told x es d b (thing_told t)
      thing D hs i (variable t) j ok = absurd ok
      thing D hs i (formal t) j ok = absurd ok
      thing D hs i (by_name t) j ok = absurd ok
      thing D hs i (routine p) j ok = routine_part es n D hs p i j ok.0.2 ok.1

      taking : (y : Given) (e f : Expression) → meaning (scopes g) x ≡ given 2 y → IsTold tb (scopes g) e → OkCommand (scopes g) x (then e (then f done)) (into e f)
          → Told x (then e (then f done)) d b (into e f)
      taking y e (number q v) i n ok = absurd ok
      taking y e (decimal q v k) i n ok = absurd ok
      taking y e (logical q t) i n ok = absurd ok
      taking y e (name z) i n ok = input_part x z e d b y (emits_e tb R 0 m g right known e (d + 1) b ok.0 n) ok.1 i
      taking y e (call z f fs) i n ok = absurd ok
      taking y e (signed q o f) i n ok = absurd ok
      taking y e (operated q o f f') i n ok = absurd ok
      taking y e (chosen q r c f f') i n ok = absurd ok
      taking y e (nested q f) i n ok = absurd ok

      other : (n : ℕ) (y : Given) (es : Expressions) → meaning (scopes g) x ≡ given n y → AreTold tb (scopes g) es → OkCommand (scopes g) x es (given_told n es) → Told x es d b (given_told n es)
      other zero y done i n ok = absurd ok
      other zero y (then e done) i n ok =
          let ms : List Mode = by_value (some integer) ∷ [] in
          given_part e done d x 0 b y ms
          (DO (unary (tb.place x.symbol) Absolute) ∷ DO forget ∷ []) (parts 24 (tb.place x.symbol) 0 ∷ parts 17 0 0 ∷ []) (given_es tb R 0 m g right known (then e done) (d + 1) (ok, tt) n ms b refl) refl (refl, tt) i (absolute_step tb x.symbol) (λ z c. (refl, (refl, tt)))
      other zero y (then e (then f es)) i n ok = absurd ok
      other (suc zero) y done i n ok = greatest_part x d b 1 y i
      other (suc zero) y (then e es) i n ok = absurd ok
      other (suc (suc zero)) y done i n ok = absurd ok
      other (suc (suc zero)) y (then e done) i n ok = absurd ok
      other (suc (suc zero)) y (then e (then f done)) i n ok = taking y e f i n.0 ok
      other (suc (suc zero)) y (then e (then f (then f' es))) i n ok = absurd ok
      other (suc (suc (suc zero))) y done i n ok = absurd ok
      other (suc (suc (suc zero))) y (then e done) i n ok = absurd ok
      other (suc (suc (suc zero))) y (then e (then f done)) i n ok =
          let ms : List Mode = by_value (some integer) ∷ by_value (some integer) ∷ [] in
          given_part e (then f done) d x 3 b y ms
          (DO (send (tb.place x.symbol) Wholes) ∷ []) (parts 19 (tb.place x.symbol) 0 ∷ []) (given_es tb R 0 m g right known (then e (then f done)) (d + 1) (ok.0, (ok.1, tt)) n ms b refl) refl (refl, (refl, tt)) i (send_step tb x.symbol) (λ z c. (refl, tt))
      other (suc (suc (suc zero))) y (then e (then f (then f' es))) i n ok = absurd ok
      other (suc (suc (suc (suc zero)))) y done i n ok = absurd ok
      other (suc (suc (suc (suc zero)))) y (then e done) i n ok = absurd ok
      other (suc (suc (suc (suc zero)))) y (then e (then f done)) i n ok =
          let ms : List Mode = by_value (some integer) ∷ by_value (some real) ∷ [] in
          given_part e (then f done) d x 4 b y ms
          (DO (send (tb.place x.symbol) Reals) ∷ []) (parts 47 (tb.place x.symbol) 0 ∷ []) (given_es tb R 0 m g right known (then e (then f done)) (d + 1) (ok.0, (ok.1, tt)) n ms b refl) refl (refl, (refl, tt)) i (real_step tb x.symbol) (λ z c. (refl, tt))
      other (suc (suc (suc (suc zero)))) y (then e (then f (then f' es))) i n ok = absurd ok
      other (suc (suc (suc (suc (suc k))))) y es i n ok = absurd ok

      go : (M : Meaning) → meaning (scopes g) x ≡ M → OkCommand (scopes g) x es (command M es) → Told x es d b (command M es)
      go (declared D hs) i ok = thing D hs i D.thing refl ok
      go (given k y) i ok = other k y es i n ok
      go nothing i ok = absurd ok
