-- What stands when the scan has come to a cursor with n symbols found: those of the whole source are they and what is found from here
-- on, and the arrays hold them over what they held.
use mathlib.Core.Path.{◌≡◌, refl, sym, ap, subst, ◌∙◌}
use mathlib.Core.List.{List, [], ◌∷◌, ◌++◌, map, append-nil}
use mathlib.Core.Option.{some}
use Prim.Native.Nat.{ℕ, pred, ◌+◌, ◌-◌, ◌≤◌, ◌<◌}
use native.Mathlib.Omega.{arith}
use lib.ListN.{length, set, length-append, length-map}
use Rattle.answers.specs.declared.Refusal.{Refusal}
use Rattle.symbols.proofs.Resume.{from, said, resume, Onward, onward, joined, one_more, over_more, over_length, map_more}
use Rattle.symbols.specs.Symbols.{kind, value_of}
use Rattle.symbols.specs.Scan.{Found, Scan, scan, whole, kinds_of, places_of, values_of}
use Rattle.symbols.specs.model.Steps.{step_at, answer_of, over, Filled}
use Rattle.symbols.specs.declared.Symbol.{Symbol}
use Rattle.symbols.specs.declared.Context.TheVariants.{Plain}
use Rattle.symbols.specs.declared.Cursor.{Cursor}
use Rattle.symbols.specs.declared.Step.{Step}
use Rattle.symbols.specs.declared.Step.TheVariants.{Read, Passed, Refused, End}
use Rattle.std.specs.Prelude.{Result, Ok, Err}

-- an array with what was found written over it
over_step : {A : Type 0} (g : Found → A) (f : List Found) (x : Found) (n : ℕ) (now before : List A) → length f ≡ n → n < length before
    → now ≡ over (map g f) before → set now n (g x) ≡ over (map g (f ++ (x ∷ []))) before
over_step {A} g f x n now before e h w =
    let l : length (map g f) ≡ n = length-map f g ∙ e in
    let k : length (map g f) < length before = subst (λ (m : ℕ). m < length before) (sym l) h in
    rw (w, ← l, map_more g f x) (over_more (map g f) before (g x) k)

module _ (room : ℕ) (s : List ℕ) (kinds₀ places₀ values₀ : List ℕ) where
  pub record SoFar (kinds places values : List ℕ) (c : Cursor) (n : ℕ) : Type 0 where
    pub list : List Found
    pub count : length list ≡ n
    pub roomy : n ≤ room
    pub split : scan room s ≡ joined list (from (room - n) s c)
    pub kinded : kinds ≡ over (kinds_of list) kinds₀
    pub placed : places ≡ over (places_of list) places₀
    pub valued : values ≡ over (values_of list) values₀

  pub begun : SoFar kinds₀ places₀ values₀ (record { at = 0; context = Plain }) 0
  unfolding scan
  begun = let e : room - 0 ≡ room = omega arith in
      record { list = []; count = refl; roomy = omega arith; split = rw e; kinded = refl; placed = refl; valued = refl }

  module _ (kinds places values : List ℕ) (c : Cursor) (n : ℕ) (i : SoFar kinds places values c n) where
    -- the scan so far, and what the step says of the rest
    stepped : (t : Step) → step_at (room - n) s c ≡ t → scan room s ≡ joined i.list (said (room - n) s c.at t)
    stepped t e = i.split ∙ ap (joined i.list) (resume (room - n) s c ∙ ap (said (room - n) s c.at) e)

    -- the arrays keep their lengths
    pub lasting : room ≤ length kinds₀ → room ≤ length places₀ → room ≤ length values₀
        → (length kinds ≡ length kinds₀) × (length places ≡ length places₀) × (length values ≡ length values₀)
    lasting hk hp hv =
        let fits : (m : ℕ) → room ≤ m → length i.list ≤ m = λ m h. omega (arith, i.count, i.roomy) in
        let lk : length (kinds_of i.list) ≤ length kinds₀ = rw (length-map i.list (λ f. kind f.symbol)) (fits (length kinds₀) hk) in
        let lp : length (places_of i.list) ≤ length places₀ = rw (length-map i.list (λ f. f.place)) (fits (length places₀) hp) in
        let lv : length (values_of i.list) ≤ length values₀ = rw (length-map i.list (λ f. value_of f.symbol)) (fits (length values₀) hv) in (
          ap length i.kinded ∙ over_length (kinds_of i.list) kinds₀ lk,
          ap length i.placed ∙ over_length (places_of i.list) places₀ lp,
          ap length i.valued ∙ over_length (values_of i.list) values₀ lv,
        )

    pub read_on : (x : Symbol) (d : Cursor) → step_at (room - n) s c ≡ Read x d
        → room ≤ length kinds₀ → room ≤ length places₀ → room ≤ length values₀
        → SoFar (set kinds n (kind x)) (set places n c.at) (set values n (value_of x)) d (n + 1)
    read_on x d e hk hp hv =
        let o = subst (Onward (room - n) s c.at) e (onward (room - n) s c) in
        let z = o.2 in
        let m : pred (room - n) ≡ room - (n + 1) = omega arith in
        let y : Found = record { symbol = x; place = c.at } in
        record {
          list = i.list ++ (y ∷ []);
          count = length-append i.list (y ∷ []) ∙ rw i.count;
          roomy = omega arith;
          split = rw (← m) (stepped (Read x d) e ∙ one_more i.list y (from (pred (room - n)) s d));
          kinded = over_step (λ f. kind f.symbol) i.list y n kinds kinds₀ i.count (omega arith) i.kinded;
          placed = over_step (λ f. f.place) i.list y n places places₀ i.count (omega arith) i.placed;
          valued = over_step (λ f. value_of f.symbol) i.list y n values values₀ i.count (omega arith) i.valued;
        }

    pub passed_on : (d : Cursor) → step_at (room - n) s c ≡ Passed d → SoFar kinds places values d n
    passed_on d e =
        record { list = i.list; count = i.count; roomy = i.roomy; split = stepped (Passed d) e; kinded = i.kinded; placed = i.placed; valued = i.valued }

    -- a scan that ends here has found what was found so far
    pub ends : (r : Scan) → r.found ≡ [] → scan room s ≡ joined i.list r → (scan room s).found ≡ i.list
    ends r e w = ap (λ (x : Scan). x.found) w ∙ ap (λ (l : List Found). i.list ++ l) e ∙ append-nil i.list

    filled : (r : Scan) → r.found ≡ [] → (w : scan room s ≡ joined i.list r)
        → (a : Result ℕ Refusal) → a ≡ answer_of (scan room s) → Filled room s a kinds₀ kinds places₀ places values₀ values
    filled r e w a q =
        let f = sym (ends r e w) in
        record {
          answers = q;
          kinded = i.kinded ∙ ap (λ (l : List Found). over (kinds_of l) kinds₀) f;
          placed = i.placed ∙ ap (λ (l : List Found). over (places_of l) places₀) f;
          valued = i.valued ∙ ap (λ (l : List Found). over (values_of l) values₀) f;
        }

    pub refused_here : (r : Refusal) → step_at (room - n) s c ≡ Refused r → Filled room s (Err r) kinds₀ kinds places₀ places values₀ values
    unfolding answer_of
    refused_here r e =
        let w = stepped (Refused r) e in
        filled (record { found = []; refused = some r }) refl w (Err r) (sym (ap answer_of w))

    pub ended_here : step_at (room - n) s c ≡ End → Filled room s (Ok n) kinds₀ kinds places₀ places values₀ values
    unfolding answer_of
    ended_here e =
        let w = stepped End e in
        filled whole refl w (Ok n) (sym (ap answer_of w ∙ ap Ok (ap length (append-nil i.list) ∙ i.count)))
