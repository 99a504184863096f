-- How many cells an operation uses up does not depend on what names its variables: by its cases.
-- Assumes nothing.
use mathlib.Core.Path.{◌≡◌, refl}
use Rattle.machine.specs.Data.{Act, push, heighten, load, store, assign, reserve, forget, receive, send, keep, unary, binary, lend, channel, turn, sum, act_on, downs, Test, condition, upto, test_on, downs_t}

pub downs_on : {X Y : Type 0} (f : X → Y) (a : Act X) → downs (act_on f a) ≡ downs a
downs_on f (push q v) = refl
downs_on f (heighten h) = refl
downs_on f (load q x) = refl
downs_on f (store q x) = refl
downs_on f (assign q x) = refl
downs_on f (reserve q t) = refl
downs_on f forget = refl
downs_on f (receive q x) = refl
downs_on f (send q t) = refl
downs_on f keep = refl
downs_on f (unary q i) = refl
downs_on f (binary q i) = refl
downs_on f (lend x) = refl
downs_on f (channel q) = refl
downs_on f (turn q t) = refl
downs_on f (sum q x) = refl

pub downs_t_on : {X Y : Type 0} (f : X → Y) (a : Test X) → downs_t (test_on f a) ≡ downs_t a
downs_t_on f condition = refl
downs_t_on f (upto q x) = refl
