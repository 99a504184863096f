-- The pass that writes a page: where it stands, what each symbol does to that, and the bytes it sets down. No part of the paper: proofs/Penned has the law
-- that these bytes are the page.
use Rattle.std.specs.Prelude.{ℕ, zero, suc, ◌+◌, ◌-◌, ◌<◌, ◌≤◌, ◌*◌, ◌≡◌, Bool, true, false, cond, List, [], ◌∷◌, ◌++◌, length, get_or, replicate, eqb}
use Rattle.symbols.specs.Symbols.{kind}
use Rattle.symbols.specs.declared.Symbol.TheVariants.{Begin, End, If, Then, Else, Do, Procedure, Semicolon, Open}
use Rattle.clean.specs.House.{tight}
use Rattle.clean.specs.model.Lines.{below, base, headed, peek}
use Rattle.clean.specs.model.Bytes.{spelling_at}
use Rattle.clean.specs.declared.lines.State.{State}

-- ---- where the writer stands

abbrev pub first_of : State
first_of = record { level = 0; around = 0; waiting = 0; heading = false; begins = true; lines = 0; line = 0; before = kind Open; last = kind Open }

-- no number is large
pub record Small (s : State) : Type 0 where
  pub level : s.level < 4096
  pub around : s.around < 4096
  pub waiting : s.waiting < 4096
  pub lines : s.lines < 4096
  pub line : s.line < 4096

-- no thing that is open is above n
abbrev pub Low : ℕ → List ℕ → Type 0
Low n [] = Unit {0}
Low n (x ∷ st) = (x ≤ n) × Low n st

abbrev pub line_of : State → ℕ → State
line_of s v = record { level = s.level; around = s.around; waiting = s.waiting; heading = s.heading; begins = s.begins; lines = s.lines + 1; line = v; before = s.before; last = s.last }

-- a statement or declaration begins at a level, on a line of its own
abbrev pub begin_of : State → ℕ → State
begin_of s v = record { level = v; around = s.around; waiting = s.waiting; heading = s.heading; begins = true; lines = s.lines + 1; line = v; before = s.before; last = s.last }

abbrev pub inward_of : State → State
inward_of s = begin_of s (s.level + 1)

abbrev pub open_of : State → ℕ → State
open_of s n = record { level = s.level; around = n; waiting = s.waiting; heading = s.heading; begins = s.begins; lines = s.lines; line = s.line; before = s.before; last = s.last }

abbrev pub level_of : State → ℕ → State
level_of s v = record { level = v; around = s.around; waiting = s.waiting; heading = s.heading; begins = s.begins; lines = s.lines; line = s.line; before = s.before; last = s.last }

abbrev pub wait_of : State → ℕ → State
wait_of s x = record { level = s.level; around = s.around; waiting = x; heading = s.heading; begins = s.begins; lines = s.lines; line = s.line; before = s.before; last = s.last }

abbrev pub head_of : State → Bool → State
head_of s h = record { level = s.level; around = s.around; waiting = s.waiting; heading = h; begins = s.begins; lines = s.lines; line = s.line; before = s.before; last = s.last }

abbrev pub opened_of : State → State
opened_of s = inward_of (open_of s (s.around + 1))

abbrev pub closed_of : State → ℕ → State
closed_of s v = level_of (open_of s (s.around - 1)) v

abbrev pub passed_of : State → ℕ → State
passed_of s k = record { level = s.level; around = s.around; waiting = s.waiting; heading = s.heading; begins = false; lines = 0; line = s.line; before = s.last; last = k }

-- ---- what is open, the newest first: the first n numbers of an array

abbrev pub stack_of : ℕ → List ℕ → List ℕ
stack_of zero held = []
stack_of (suc n) held = get_or held n 0 ∷ stack_of n held

abbrev pub top_of : List ℕ → ℕ
top_of [] = 0
top_of (x ∷ st) = x

pub record Pushed (old new : List ℕ) (n thing : ℕ) : Type 0 where
  pub size : length new ≡ length old
  pub stack : stack_of (n + 1) new ≡ thing ∷ stack_of n old

-- ---- what a symbol does

-- before it
abbrev pub early_of : State → List ℕ → ℕ → State
early_of s st k = cond (eqb k (kind End)) (line_of s (top_of st - 1)) (cond (eqb k (kind Else)) (cond (eqb s.waiting 0) (line_of s (s.level - 1)) s) s)

-- behind a `;`: of a heading; elsewhere
abbrev pub heading_of : State → ℕ → State
heading_of s n = cond (headed n) (line_of s (s.level + 1)) (opened_of (head_of s false))

pub record Headed (old new : List ℕ) (s : State) (n : ℕ) (r : State) : Type 0 where
  pub state : r ≡ heading_of s n
  pub stack : stack_of r.around new ≡ cond (headed n) (stack_of s.around old) (0 ∷ stack_of s.around old)
  pub size : length new ≡ length old

abbrev pub out_of : State → List ℕ → State
out_of s st = cond (eqb (top_of st) 0) (open_of s (s.around - 1)) s

abbrev pub outside_of : State → List ℕ → State
outside_of s st = inward_of (level_of (out_of s st) (top_of (base st) - 1))

abbrev pub separated_of : State → List ℕ → ℕ → State
separated_of s st n = cond s.heading (heading_of s n) (outside_of s st)

abbrev pub separated_stack : State → List ℕ → ℕ → List ℕ
separated_stack s st n = cond s.heading (cond (headed n) st (0 ∷ st)) (base st)

pub record Separated (old new : List ℕ) (s : State) (n : ℕ) (r : State) : Type 0 where
  pub state : r ≡ separated_of s (stack_of s.around old) n
  pub stack : stack_of r.around new ≡ separated_stack s (stack_of s.around old) n
  pub size : length new ≡ length old

-- behind 'if'
abbrev pub waits_of : State → Bool → State
waits_of s b = cond b s (wait_of s (s.waiting + 1))

-- behind 'then' and 'else'
abbrev pub parted_of : State → ℕ → State
parted_of s k =
    cond (eqb s.waiting 0) (cond (eqb k (kind Then)) (inward_of s) (begin_of s s.level))
    (cond (eqb k (kind Else)) (wait_of s (s.waiting - 1)) s)

-- behind any symbol k, of which the next one is n; p is where it stands with the symbol written, b whether the symbol began a statement
abbrev pub late_from : State → Bool → List ℕ → ℕ → ℕ → State
late_from p b st k n =
    cond (eqb k (kind Begin)) (opened_of p)
    (cond (eqb k (kind End)) (closed_of p (top_of st - 1))
    (cond (eqb k (kind Semicolon)) (separated_of p st n)
    (cond (eqb k (kind If)) (waits_of p b)
    (cond (eqb k (kind Then)) (parted_of p k)
    (cond (eqb k (kind Else)) (parted_of p k)
    (cond (eqb k (kind Do)) (inward_of p)
    (cond (eqb k (kind Procedure)) (head_of p true) p)))))))

abbrev pub late_of : State → List ℕ → ℕ → ℕ → State
late_of s st k n = late_from (passed_of s k) s.begins st k n

abbrev pub stack_after : State → List ℕ → ℕ → ℕ → List ℕ
stack_after s st k n = cond (eqb k (kind Begin)) ((s.level + 1) ∷ st) (cond (eqb k (kind End)) (below st) (cond (eqb k (kind Semicolon)) (separated_stack s st n) st))

pub record Late (old new : List ℕ) (s : State) (k n : ℕ) (r : State) : Type 0 where
  pub state : r ≡ late_of s (stack_of s.around old) k n
  pub stack : stack_of r.around new ≡ stack_after s (stack_of s.around old) k n
  pub size : length new ≡ length old

-- ---- the bytes

-- before a symbol
abbrev pub gap_of : State → ℕ → List ℕ
gap_of s k = cond (eqb s.lines 0) (cond (tight s.before s.last k) [] (32 ∷ [])) (replicate s.lines 10 ++ replicate (2 * s.line) 32)

-- of the symbols from the one with the number i on; place: where each stands in the source
unfoldable pub written_from : List ℕ → (ℕ → ℕ) → State → List ℕ → ℕ → List ℕ → List ℕ
written_from source place s st i [] = 10 ∷ []
written_from source place s st i (k ∷ ks) =
    let here = early_of s st k in
    gap_of here k ++ (spelling_at source k (place i) ++ written_from source place (late_of here st k (peek ks)) (stack_after here st k (peek ks)) (i + 1) ks)

abbrev pub written_of : List ℕ → List ℕ → List ℕ → List ℕ
written_of source places kinds = written_from source (λ i. get_or places i 0) first_of [] 0 kinds
