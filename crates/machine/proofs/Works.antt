-- What each operation on the data comes to, by what it finds: the cells' numbers and values are given, and no store, count or word is known here.
use mathlib.Core.Path.{◌≡◌, refl, sym, ap, ◌∙◌}
use mathlib.Core.Bool.{Bool, true, false, cond, not, true≢false, false≢true}
use mathlib.Core.List.{List, [], ◌∷◌}
use Prim.Native.Nat.{ℕ}
use lib.Dec.{leb, ltb}
use lib.IntN.{ℤ}
use lib.Ieee.{Float}
use Rattle.answers.specs.declared.Answer.{Answer}
use Rattle.answers.specs.Numbers.{input_ended, output_full, channel as noChannel}
use Rattle.reals.specs.declared.Form.{Form}
use Rattle.reals.specs.declared.Form.TheVariants.{Wholes, Reals}
use Rattle.reals.specs.declared.Value.{Value}
use Rattle.reals.specs.declared.Value.TheVariants.{Truth, Whole, Real}
use Rattle.reals.specs.declared.Outcome.{Outcome}
use Rattle.reals.specs.declared.Outcome.TheVariants.{Is, Stray}
use Rattle.reals.specs.declared.Unary.{Unary}
use Rattle.reals.specs.declared.Binary.{Binary}
use Rattle.reals.specs.declared.Binary.TheVariants.{Plus}
use Rattle.reals.specs.declared.Cell.{Cell}
use Rattle.reals.specs.declared.Cell.TheVariants.{Unset, Holds, Named}
use Rattle.reals.specs.declared.Entry.{Entry}
use Rattle.reals.specs.Values.{form_of, finite_b, convert, apply1, apply2, leaves, entry_w, entry_r}
use Rattle.reals.specs.model.Stored.{three_of}
use Rattle.std.specs.Prelude.{Option, Some, None, Result as Returned, Ok, Err}
use Rattle.machine.specs.declared.Trouble.{Trouble}
use Rattle.machine.specs.declared.Trouble.TheVariants.{Fault as Bad, Stray as Astray}
use Rattle.machine.specs.declared.Line.{Line}
use Rattle.machine.specs.declared.Line.TheVariants.{One, Other, Not as NoLine}
use Rattle.machine.specs.Run.{Trace, say, quiet, wrote, took}
use Rattle.machine.specs.Data.{Link, to, Target, Data, cells, joined, Result, wrong, good, guard, check, value, nothing, newest, on_value, two, back, put, look, plain, form_in, new_cells, valued, suits, reaching, read_from, saving, name_cell, on_channel, taking, written, writing, input, space, rest, spend, hold, unhold, held, find, heightened, picking, counting, Act, push, heighten, load, store, assign, reserve, forget, receive, send, keep, unary, binary, lend, channel, sum, turn, work, Two, yea, nay, condition, upto, test}
use Rattle.machine.specs.model.Holding.{fine, ill, lost, told, on_turned, in_t, read_t, reach_t, line_of, raised_of, on_entered}
use Rattle.machine.proofs.Turns.{on_typed, on_line, reach_out, reach_in, read_in, save_in, line_is}

-- ---- values used

module _ (f : Value → Value → Data → Result Data) (d : Data) where
  pub two_none : newest d ≡ nothing → two f d ≡ wrong
  unfolding on_value
  two_none e = rw e

  pub two_short : {y : Value} {m : Data} → newest d ≡ value y m → newest m ≡ nothing → two f d ≡ wrong
  unfolding on_value
  two_short e g = rw (e, g)

  pub two_some : {x y : Value} {m l : Data} → newest d ≡ value y m → newest m ≡ value x l → two f d ≡ f x y l
  unfolding on_value
  two_some e g = rw (e, g)

-- the test, as the code has it
pub yes_true : {r b : Bool} → r ≡ b → not r ≡ false → b ≡ true
yes_true {r = true} e h = sym e
yes_true {r = false} e h = absurd (true≢false h)

pub not_true : {r b : Bool} → r ≡ b → not r ≡ true → b ≡ false
not_true {r = true} e h = absurd (false≢true h)
not_true {r = false} e h = sym e

module _ {A : Type 0} (b : Bool) (r : Result A) where
  guard_no : b ≡ false → guard b r ≡ wrong
  unfolding guard
  guard_no e = rw e

  guard_yes : b ≡ true → guard b r ≡ r
  unfolding guard
  guard_yes e = rw e

-- ---- values on their way, as an operation leaves them

module _ {A : Type 0} (t : Trace) {x : Returned Value Trouble} where
  pub turned_is : (f : Value → Result A) {v : Value} → x ≡ Ok v → told t (f v) ≡ told t (on_turned f x)
  turned_is f e = rw e

  pub turned_fine : (g : Value → A) {v : Value} → x ≡ Ok v → fine (g v) t ≡ told t (on_turned (λ w. good quiet (g w)) x)
  unfolding told
  turned_fine g e = rw e

  pub turned_bad : (f : Value → Result A) {a : Answer} {p : ℕ} → x ≡ Err (Bad a p) → ill a.number p ≡ told t (on_turned f x)
  unfolding told
  turned_bad f e = rw e

  pub turned_stray : (f : Value → Result A) → x ≡ Err Astray → lost ≡ told t (on_turned f x)
  unfolding told
  turned_stray f e = rw e

-- a number taken is told of a store that went well
pub told_took : {A : Type 0} (t : Trace) (g : Value → A) (x : Returned Value Trouble) → told (say t took) (on_turned (λ w. good quiet (g w)) x) ≡ told t (on_turned (λ w. good took (g w)) x)
unfolding told
told_took t g (Ok v) = refl
told_took t g (Err (Bad a q)) = refl
told_took t g (Err Astray) = refl

-- ---- entries

module _ {f : Form} {v : Value} where
  pub entry_whole : {z : ℤ} {e : Entry} → v ≡ Whole z → f ≡ Wholes → three_of e ≡ entry_w z → (g : List ℤ → Result Data) → written f v g ≡ on_entered g (Some e)
  unfolding written
  entry_whole p q h g = rw (p, q) (ap g (sym h))

  pub entry_real : {r : Float} {e : Entry} → v ≡ Real r → f ≡ Reals → three_of e ≡ entry_r r → (g : List ℤ → Result Data) → written f v g ≡ on_entered g (Some e)
  unfolding written
  entry_real p q h g = rw (p, q) (ap g (sym h))

  pub entry_other : {f' : Form} {v' : Value} → v ≡ v' → f ≡ f' → ((g : List ℤ → Result Data) → written f' v' g ≡ wrong) → (g : List ℤ → Result Data) → written f v g ≡ on_entered g None
  entry_other p q h g = rw (p, q) (h g)

-- ---- real constants

raise_guard : {A : Type 0} (q : ℕ) (f : Value → Result A) (b : Bool) (v : Value) → valued q f (cond b (Is v) Stray) ≡ guard b (f v)
unfolding valued guard
raise_guard q f true v = refl
raise_guard q f false v = refl

raise_is : {A : Type 0} (q : ℕ) (f : Value → Result A) (v : Value) (h : ℕ) → valued q f (raised_of v h) ≡ heightened v h f
unfolding raised_of heightened valued
raise_is q f (Truth b) h = refl
raise_is q f (Whole z) h = raise_guard q f (finite_b (joined z h)) (Real (joined z h))
raise_is q f (Real r) h = refl

module _ (t : Trace) (d : Data) where
  -- ---- variables

  module _ (q c : ℕ) (l : List Link) where
    pub load_out : ltb c (cells d) ≡ false → lost ≡ told t (work (load q (to c l)) d)
    unfolding work told
    load_out e = sym (ap (told t) (reach_out c l d (form_in (look c d)) _ e))

    pub load_is : {x : Cell} → ltb c (cells d) ≡ true → look c d ≡ x
        → told t (on_turned (λ v. new_cells q (Holds v ∷ []) d) (read_t (form_in x) q l x)) ≡ told t (work (load q (to c l)) d)
    unfolding work
    load_is {x} e g =
        ap (λ (y : Form). told t (on_turned (λ v. new_cells q (Holds v ∷ []) d) (read_t y q l x))) (sym (ap form_in g))
        ∙ sym (ap (told t) (read_in c l d e g (form_in (look c d)) q (λ v. new_cells q (Holds v ∷ []) d)))

    pub save_none : newest d ≡ nothing → lost ≡ told t (work (store q (to c l)) d)
    unfolding work told on_value
    save_none e = rw e

    pub assign_none : newest d ≡ nothing → lost ≡ told t (work (assign q (to c l)) d)
    unfolding work told on_value
    assign_none e = rw e

    module _ {v : Value} {m : Data} (e : newest d ≡ value v m) where
      pub save_out : ltb c (cells m) ≡ false → lost ≡ told t (work (store q (to c l)) d)
      unfolding work told on_value
      save_out g = rw e (sym (ap (told t) (reach_out c l m (form_of v) (saving q (to c l) v m (good quiet)) g)))

      pub assign_out : ltb c (cells m) ≡ false → lost ≡ told t (work (assign q (to c l)) d)
      unfolding work told on_value
      assign_out g = rw e (sym (ap (told t) (reach_out c l m (form_of v) (saving q (to c l) v m (λ d. good quiet (back v d))) g)))

      module _ (g : ltb c (cells m) ≡ true) {x : Cell} (z : look c m ≡ x) where
        pub save_not : reach_t (form_of v) l x ≡ None → lost ≡ told t (work (store q (to c l)) d)
        unfolding work told on_value
        save_not r = rw e (sym (ap (told t) (reach_in c l m g z (form_of v) (saving q (to c l) v m (good quiet)) ∙ ap (on_typed (saving q (to c l) v m (good quiet))) r)))

        pub assign_not : reach_t (form_of v) l x ≡ None → lost ≡ told t (work (assign q (to c l)) d)
        unfolding work told on_value
        assign_not r =
            rw e (sym (ap (told t) (reach_in c l m g z (form_of v) (saving q (to c l) v m (λ d. good quiet (back v d))) ∙ ap (on_typed (saving q (to c l) v m (λ d. good quiet (back v d)))) r)))

        module _ {u : Form} (r : reach_t (form_of v) l x ≡ Some u) (k : u ≡ form_in x) {t' : Trace} (p : t' ≡ t) where
          pub save_is : told t' (on_turned (λ w. good quiet (put c w m)) (in_t q u l v)) ≡ told t (work (store q (to c l)) d)
          unfolding work on_value
          save_is =
              rw (e, p)
              (sym (ap (told t) (reach_in c l m g z (form_of v) (saving q (to c l) v m (good quiet)) ∙ ap (on_typed (saving q (to c l) v m (good quiet))) r
              ∙ save_in c l m g z q v (good quiet) k)))

          pub assign_is : told t' (on_turned (λ w. good quiet (back v (put c w m))) (in_t q u l v)) ≡ told t (work (assign q (to c l)) d)
          unfolding work on_value
          assign_is =
              rw (e, p)
              (sym (ap (told t) (reach_in c l m g z (form_of v) (saving q (to c l) v m (λ d. good quiet (back v d))) ∙ ap (on_typed (saving q (to c l) v m (λ d. good quiet (back v d)))) r
              ∙ save_in c l m g z q v (λ d. good quiet (back v d)) k)))

  -- ---- values

  pub forget_none : newest d ≡ nothing → lost ≡ told t (work forget d)
  unfolding work told on_value
  forget_none e = rw e

  pub forget_some : {v : Value} {m : Data} {t' : Trace} → newest d ≡ value v m → t' ≡ t → fine m t' ≡ told t (work forget d)
  unfolding work told on_value
  forget_some e r = rw (e, r)

  module _ (q : ℕ) (o : Unary) where
    pub unary_none : newest d ≡ nothing → lost ≡ told t (work (unary q o) d)
    unfolding work told on_value
    unary_none e = rw e

    pub unary_some : {x : Value} {m : Data} {t' : Trace} {w : Outcome} → newest d ≡ value x m → t' ≡ t → w ≡ apply1 o x
        → told t' (valued q (λ v. good quiet (back v m)) w) ≡ told t (work (unary q o) d)
    unfolding work on_value
    unary_some e r k = rw (e, r, k)

  module _ (q : ℕ) (o : Binary) where
    pub binary_none : ((f : Value → Value → Data → Result Data) → two f d ≡ wrong) → lost ≡ told t (work (binary q o) d)
    unfolding work told
    binary_none e = sym (ap (told t) (e _))

    pub binary_some : {x y : Value} {m : Data} {t' : Trace} {w : Outcome} → ((f : Value → Value → Data → Result Data) → two f d ≡ f x y m) → t' ≡ t → w ≡ apply2 o x y
        → told t' (valued q (λ v. good quiet (back v m)) w) ≡ told t (work (binary q o) d)
    unfolding work
    binary_some e r k = rw (r, k) (sym (ap (told t) (e _)))

  module _ (q : ℕ) (f : Form) where
    pub turn_none : newest d ≡ nothing → lost ≡ told t (work (turn q f) d)
    unfolding work told on_value
    turn_none e = rw e

    pub turn_some : {x : Value} {m : Data} {t' : Trace} {w : Outcome} → newest d ≡ value x m → t' ≡ t → w ≡ convert f x
        → told t' (valued q (λ v. good quiet (back v m)) w) ≡ told t (work (turn q f) d)
    unfolding work on_value
    turn_some e r k = rw (e, r, k)

  module _ (h : ℕ) where
    pub heighten_none : newest d ≡ nothing → lost ≡ told t (work (heighten h) d)
    unfolding work told on_value
    heighten_none e = rw e

    pub heighten_some : {x : Value} {m : Data} {t' : Trace} {w : Outcome} → newest d ≡ value x m → t' ≡ t → w ≡ raised_of x h
        → told t' (valued 0 (λ v. good quiet (back v m)) w) ≡ told t (work (heighten h) d)
    unfolding work on_value
    heighten_some {x} {m} e r k = rw (e, r, k) (ap (told t) (raise_is 0 (λ v. good quiet (back v m)) x h))

  -- ---- input and output

  module _ (q c : ℕ) (l : List Link) where
    pub receive_none : newest d ≡ nothing → lost ≡ told t (work (receive q (to c l)) d)
    unfolding work told on_value
    receive_none e = rw e

    pub receive_some : {k : Value} {m : Data} {t' : Trace} → newest d ≡ value k m → t' ≡ t
        → told t' (reaching Wholes (to c l) m (on_channel q k (taking q (to c l) m (input m)))) ≡ told t (work (receive q (to c l)) d)
    unfolding work on_value
    receive_some e r = rw (e, r)

    module _ (k : Value) where
      pub listen_out : ltb c (cells d) ≡ false → lost ≡ told t (reaching Wholes (to c l) d (on_channel q k (taking q (to c l) d (input d))))
      unfolding told
      listen_out e = sym (ap (told t) (reach_out c l d Wholes _ e))

      module _ (e : ltb c (cells d) ≡ true) {x : Cell} (z : look c d ≡ x) where
        pub listen_not : reach_t Wholes l x ≡ None → lost ≡ told t (reaching Wholes (to c l) d (on_channel q k (taking q (to c l) d (input d))))
        unfolding told
        listen_not r = sym (ap (told t) (reach_in c l d e z Wholes _ ∙ ap (on_typed _) r))

        module _ {u : Form} (r : reach_t Wholes l x ≡ Some u) where
          heard : {y : Line} → line_of k ≡ y → on_line q (taking q (to c l) d (input d)) y ≡ reaching Wholes (to c l) d (on_channel q k (taking q (to c l) d (input d)))
          heard g =
              sym (reach_in c l d e z Wholes (on_channel q k (taking q (to c l) d (input d))) ∙ ap (on_typed (on_channel q k (taking q (to c l) d (input d)))) r
              ∙ line_is q k (taking q (to c l) d (input d)) ∙ ap (on_line q (taking q (to c l) d (input d))) g)

          pub listen_one : line_of k ≡ One → told t (taking q (to c l) d (input d)) ≡ told t (reaching Wholes (to c l) d (on_channel q k (taking q (to c l) d (input d))))
          listen_one g = ap (told t) (heard g)

          pub listen_other : line_of k ≡ Other → ill noChannel q ≡ told t (reaching Wholes (to c l) d (on_channel q k (taking q (to c l) d (input d))))
          unfolding told
          listen_other g = ap (told t) (heard g)

          pub listen_stray : line_of k ≡ NoLine → lost ≡ told t (reaching Wholes (to c l) d (on_channel q k (taking q (to c l) d (input d))))
          unfolding told
          listen_stray g = ap (told t) (heard g)

    pub taking_ended : input d ≡ [] → ill input_ended q ≡ told t (taking q (to c l) d (input d))
    unfolding told taking
    taking_ended h = rw h

    -- m: the data with the number taken
    pub taking_some : {z : ℤ} {i : List ℤ} {m : Data} {t' : Trace} {x : Cell} {u : Form} {v : Value} → input d ≡ z ∷ i → m ≡ rest i d → ltb c (cells m) ≡ true → look c m ≡ x → u ≡ form_in x → v ≡ Whole z → t' ≡ say t took
        → told t' (on_turned (λ w. good quiet (put c w m)) (in_t q u l v)) ≡ told t (taking q (to c l) d (input d))
    unfolding taking
    taking_some {z} {i} {m} {t'} {x} {u} {v} h p e g k y r =
        ap (λ (s : Trace). told s (on_turned (λ w. good quiet (put c w m)) (in_t q u l v))) r
        ∙ told_took t (λ w. put c w m) (in_t q u l v)
        ∙ ap (told t) (sym (save_in c l m e g q v (good took) k) ∙ ap (λ (n : Data). saving q (to c l) v n (good took)) p ∙ ap (λ (n : Value). saving q (to c l) n (rest i d) (good took)) y)
        ∙ ap (λ (n : List ℤ). told t (taking q (to c l) d n)) (sym h)

  module _ (q : ℕ) (f : Form) where
    pub send_none : ((g : Value → Value → Data → Result Data) → two g d ≡ wrong) → lost ≡ told t (work (send q f) d)
    unfolding work told
    send_none e = sym (ap (told t) (e _))

    module _ {k v : Value} {m : Data} {t' : Trace} (y : Option Entry) (e : (g : Value → Value → Data → Result Data) → two g d ≡ g k v m) (r : t' ≡ t) (w : (g : List ℤ → Result Data) → written f v g ≡ on_entered g y) where
      sent : told t' (on_entered (λ x. on_channel q k (writing q x m)) y) ≡ told t (work (send q f) d)
      unfolding work
      sent = rw r (sym (ap (told t) (e _ ∙ w _)))

      pub send_some : {x : Entry} → y ≡ Some x → told t' (on_channel q k (writing q (three_of x) m)) ≡ told t (work (send q f) d)
      send_some g = ap (λ (z : Option Entry). told t' (on_entered (λ x. on_channel q k (writing q x m)) z)) (sym g) ∙ sent

      pub send_stray : y ≡ None → lost ≡ told t (work (send q f) d)
      unfolding told
      send_stray g = ap (λ (z : Option Entry). told t' (on_entered (λ x. on_channel q k (writing q x m)) z)) (sym g) ∙ sent

  module _ (q : ℕ) (e : List ℤ) where
    module _ (k : Value) where
      pub speak_one : line_of k ≡ One → told t (writing q e d) ≡ told t (on_channel q k (writing q e d))
      speak_one g = sym (ap (told t) (line_is q k (writing q e d) ∙ ap (on_line q (writing q e d)) g))

      pub speak_other : line_of k ≡ Other → ill noChannel q ≡ told t (on_channel q k (writing q e d))
      unfolding told
      speak_other g = sym (ap (told t) (line_is q k (writing q e d) ∙ ap (on_line q (writing q e d)) g))

      pub speak_stray : line_of k ≡ NoLine → lost ≡ told t (on_channel q k (writing q e d))
      unfolding told
      speak_stray g = sym (ap (told t) (line_is q k (writing q e d) ∙ ap (on_line q (writing q e d)) g))

    pub writing_full : leb 3 (space d) ≡ false → ill output_full q ≡ told t (writing q e d)
    unfolding told check writing
    writing_full g = rw g

    pub writing_some : {m : Data} {t' : Trace} → leb 3 (space d) ≡ true → m ≡ spend d → t' ≡ say t (wrote e) → fine m t' ≡ told t (writing q e d)
    unfolding told check writing
    writing_some g h r = rw (g, h, r)

  -- ---- loops

  pub keep_none : newest d ≡ nothing → lost ≡ told t (work keep d)
  unfolding work told on_value
  keep_none e = rw e

  pub keep_some : {x : Value} {m l : Data} {t' : Trace} → newest d ≡ value x m → t' ≡ t → l ≡ hold x m → fine l t' ≡ told t (work keep d)
  unfolding work told on_value
  keep_some e r p = rw (e, r, p)

  module _ (q c : ℕ) (l : List Link) where
    pub sum_none : newest d ≡ nothing → lost ≡ told t (work (sum q (to c l)) d)
    unfolding work told on_value
    sum_none e = rw e

    pub upto_none : newest d ≡ nothing → lost ≡ told t (test (upto q (to c l)) d)
    unfolding test told on_value
    upto_none e = rw e

    module _ {z : Value} {m : Data} (e : newest d ≡ value z m) where
      pub sum_few : ((f : Value → Result Data) → held f m ≡ wrong) → lost ≡ told t (work (sum q (to c l)) d)
      unfolding work told on_value
      sum_few g = rw e (sym (ap (told t) (g _)))

      pub sum_not : ((r : Result Data) → held (λ y. r) m ≡ r) → suits Wholes (form_of z) ≡ false → lost ≡ told t (work (sum q (to c l)) d)
      unfolding work told on_value
      sum_not g h = rw e (sym (ap (told t) (g _ ∙ guard_no _ _ h)))

      pub sum_some : {t' : Trace} → ((r : Result Data) → held (λ y. r) m ≡ r) → t' ≡ t → suits Wholes (form_of z) ≡ true
          → told t' (reaching Wholes (to c l) m (read_from q (to c l) m (λ v. valued q (λ s. good quiet (back s (hold z (unhold m)))) (apply2 Plus v z)))) ≡ told t (work (sum q (to c l)) d)
      unfolding work on_value
      sum_some g r h = rw (e, r) (sym (ap (told t) (g _ ∙ guard_yes _ _ h)))

      pub upto_few : ((f : Value → Result Two) → held f m ≡ wrong) → lost ≡ told t (test (upto q (to c l)) d)
      unfolding test told on_value
      upto_few g = rw e (sym (ap (told t) (g _)))

      pub upto_some : {x : Value} {t' : Trace} → ((f : Value → Result Two) → held f m ≡ f x) → t' ≡ t
          → told t' (counting z (counting x (reaching Wholes (to c l) m (read_from q (to c l) m (λ v. valued q (λ b. picking b (nay (unhold m)) (yea m)) (leaves v x z)))))) ≡ told t (test (upto q (to c l)) d)
      unfolding test on_value
      upto_some g r = rw (e, r) (sym (ap (told t) (g _)))

  -- what a variable's value is used for, once it is read
  module _ {A : Type 0} (q c : ℕ) (l : List Link) (f : Value → Result A) where
    pub read_out : ltb c (cells d) ≡ false → lost ≡ told t (reaching Wholes (to c l) d (read_from q (to c l) d f))
    unfolding told
    read_out e = sym (ap (told t) (reach_out c l d Wholes _ e))

    pub read_is : {x : Cell} → ltb c (cells d) ≡ true → look c d ≡ x → told t (on_turned f (read_t Wholes q l x)) ≡ told t (reaching Wholes (to c l) d (read_from q (to c l) d f))
    read_is e g = sym (ap (told t) (read_in c l d e g Wholes q f))

  -- numbers are used
  module _ {A : Type 0} (x : Value) (r : Result A) where
    pub counting_no : suits Wholes (form_of x) ≡ false → lost ≡ told t (counting x r)
    unfolding told guard
    counting_no e = rw e

    pub counting_yes : suits Wholes (form_of x) ≡ true → told t r ≡ told t (counting x r)
    unfolding guard
    counting_yes e = rw e

  -- ---- conditions

  pub condition_none : newest d ≡ nothing → lost ≡ told t (test condition d)
  unfolding test told on_value
  condition_none e = rw e

  module _ {v : Value} {m : Data} (e : newest d ≡ value v m) where
    module _ {t' : Trace} (r : t' ≡ t) {b : Bool} (k : v ≡ Truth b) where
      pub condition_no : b ≡ false → fine (nay m) t' ≡ told t (test condition d)
      unfolding test told on_value picking
      condition_no g = rw (e, r, k, g)

      pub condition_yes : b ≡ true → fine (yea m) t' ≡ told t (test condition d)
      unfolding test told on_value picking
      condition_yes g = rw (e, r, k, g)

    pub condition_whole : {z : ℤ} → v ≡ Whole z → lost ≡ told t (test condition d)
    unfolding test told on_value picking
    condition_whole k = rw (e, k)

    pub condition_real : {x : Float} → v ≡ Real x → lost ≡ told t (test condition d)
    unfolding test told on_value picking
    condition_real k = rw (e, k)

  -- ---- a channel that is tested before the store, and the cell found

  module _ (q : ℕ) where
    pub channel_none : newest d ≡ nothing → lost ≡ told t (work (channel q) d)
    unfolding work told on_value
    channel_none e = rw e

    module _ {k : Value} {m : Data} (e : newest d ≡ value k m) where
      channel_is : {y : Line} → line_of k ≡ y → told t (on_line q (good quiet (back k m)) y) ≡ told t (work (channel q) d)
      unfolding work on_value
      channel_is g = rw e (sym (ap (told t) (line_is q k (good quiet (back k m)) ∙ ap (on_line q (good quiet (back k m))) g)))

      pub channel_other : line_of k ≡ Other → ill noChannel q ≡ told t (work (channel q) d)
      unfolding told
      channel_other g = channel_is g

      pub channel_stray : line_of k ≡ NoLine → lost ≡ told t (work (channel q) d)
      unfolding told
      channel_stray g = channel_is g

      pub channel_one : {t' : Trace} → line_of k ≡ One → t' ≡ t → fine (back k m) t' ≡ told t (work (channel q) d)
      unfolding told
      channel_one g r = rw r (channel_is g)

  module _ (x : Target) (c : ℕ) (l : List Link) (p : x ≡ to c l) where
    pub lend_out : ltb c (cells d) ≡ false → lost ≡ told t (work (lend x) d)
    unfolding work told guard
    lend_out e = rw (p, e)

    pub lend_named : ltb c (cells d) ≡ true → plain (look c d) ≡ false → lost ≡ told t (work (lend x) d)
    unfolding work told guard
    lend_named e g = rw (p, e, g)

    pub lend_in : ltb c (cells d) ≡ true → plain (look c d) ≡ true → fine (find c d) t ≡ told t (work (lend x) d)
    unfolding work told guard
    lend_in e g = rw (p, e, g)

  -- ---- values, result cells and name formals' cells

  pub push_is : (q : ℕ) {z z' : Value} → z' ≡ z → told t (new_cells q (Holds z' ∷ []) d) ≡ told t (work (push q z) d)
  unfolding work
  push_is q e = rw e

  pub reserve_is : (q : ℕ) (f : Form) → told t (new_cells q (Unset f ∷ []) d) ≡ told t (work (reserve q f) d)
  unfolding work
  reserve_is q f = refl

  pub name_is : (q n : ℕ) → told t (new_cells q (Named n ∷ []) d) ≡ told t (name_cell q n d)
  unfolding name_cell
  name_is q n = refl

  -- the same operation
  pub same_work : {A B : Act Target} → A ≡ B → told t (work B d) ≡ told t (work A d)
  same_work e = ap (λ (x : Act Target). told t (work x d)) (sym e)
