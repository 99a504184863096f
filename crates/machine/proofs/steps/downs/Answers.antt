-- One line for each operation.
use mathlib.Core.Path.{sym, ap}
use native.Mathlib.Omega.{arith}
use Rattle.machine.specs.Data.{Act, downs}
use Rattle.machine.specs.Instructions.{Location}
use Rattle.machine.proofs.Decode.{act_12, act_13, act_14, act_15, act_17, act_18, act_19, act_20, act_21, act_unary, act_binary, next_up}
use Rattle.machine.proofs.steps.downs.Goals as goal

pub returns-then-k-lt-PLUS : goal.returns-then-k-lt-PLUS
returns-then-k-lt-PLUS c = let r = c.in_default.in_default-own.rest in record { by_index = λ q v x. sym (ap (λ (a : Act Location). downs a) (act_unary c.args.k q x v (next_up 21 _ (next_up 20 _ (next_up 19 _ (next_up 18 _ (next_up 17 _ (next_up 16 _ (next_up 15 _ (next_up 14 _ (next_up 13 _ (next_up 12 _ c.requires.0 r.0.0.0.0.0.0.0.0.1) r.0.0.0.0.0.0.0.1) r.0.0.0.0.0.0.1) r.0.0.0.0.0.1) c.requires.2) r.0.0.0.0.1) r.0.0.0.1) r.0.0.1) r.0.1) r.1) c.if-k-lt-PLUS.true)); upper_bound = omega arith }

pub returns-in-12 : goal.returns-in-12
returns-in-12 c = record { by_index = λ q v x. sym (ap (λ (a : Act Location). downs a) (act_12 c.args.k q x v c.in-12.is)); upper_bound = omega arith }

pub returns-in-13 : goal.returns-in-13
returns-in-13 c = record { by_index = λ q v x. sym (ap (λ (a : Act Location). downs a) (act_13 c.args.k q x v c.in-13.is)); upper_bound = omega arith }

pub returns-in-14 : goal.returns-in-14
returns-in-14 c = record { by_index = λ q v x. sym (ap (λ (a : Act Location). downs a) (act_14 c.args.k q x v c.in-14.is)); upper_bound = omega arith }

pub returns-in-15 : goal.returns-in-15
returns-in-15 c = record { by_index = λ q v x. sym (ap (λ (a : Act Location). downs a) (act_15 c.args.k q x v c.in-15.is)); upper_bound = omega arith }

pub returns-in-17 : goal.returns-in-17
returns-in-17 c = record { by_index = λ q v x. sym (ap (λ (a : Act Location). downs a) (act_17 c.args.k q x v c.in-17.is)); upper_bound = omega arith }

pub returns-in-18 : goal.returns-in-18
returns-in-18 c = record { by_index = λ q v x. sym (ap (λ (a : Act Location). downs a) (act_18 c.args.k q x v c.in-18.is)); upper_bound = omega arith }

pub returns-in-19 : goal.returns-in-19
returns-in-19 c = record { by_index = λ q v x. sym (ap (λ (a : Act Location). downs a) (act_19 c.args.k q x v c.in-19.is)); upper_bound = omega arith }

pub returns-in-20 : goal.returns-in-20
returns-in-20 c = record { by_index = λ q v x. sym (ap (λ (a : Act Location). downs a) (act_20 c.args.k q x v c.in-20.is)); upper_bound = omega arith }

pub returns-in-21 : goal.returns-in-21
returns-in-21 c = record { by_index = λ q v x. sym (ap (λ (a : Act Location). downs a) (act_21 c.args.k q x v c.in-21.is)); upper_bound = omega arith }

pub returns-else-k-lt-PLUS : goal.returns-else-k-lt-PLUS
returns-else-k-lt-PLUS c = record { by_index = λ q v x. sym (ap (λ (a : Act Location). downs a) (act_binary c.args.k q x v c.if-k-lt-PLUS.false)); upper_bound = omega arith }
