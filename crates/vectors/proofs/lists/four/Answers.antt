-- `vectors::lists::four` meets its contract. What is lent are the table's words. Assumes nothing.
use Prim.Native.Nat.{ℕ, zero, suc, ◌+◌, ◌*◌, ◌/◌, min}
use mathlib.Core.Path.{◌≡◌, refl, sym, ap, ◌∙◌}
use mathlib.Core.List.{List}
use native.Mathlib.Omega.{arith}
use lib.IntN.{ℤ, pos}
use lib.ListN.{length, get_or, take, set, replicate, length-set, length-replicate}
use lib.Seq.{length-take-le}
use mir.Syntax.{w64}
use mir.Facts.{to_z-of_z}
use Rattle.vectors.specs.declared.tally.Tally.{Tally}
use Rattle.vectors.specs.Sent.{ListTold, words_from, own_length, own_words, FourTold}
use Rattle.vectors.proofs.lists.four.Goals as goal

length-words : (table : List ℕ) (k at : ℕ) → length (words_from table k at) ≡ k
unfolding words_from
length-words table zero at = refl
length-words table (suc k) at = ap suc (length-words table k (at + 1))

own-words : (table : List ℕ) (l : List ℤ) → l ≡ words_from table (length (replicate {A = ℤ} 32768 (pos 0))) 0 → l ≡ own_words table
own-words table l e = e ∙ ap (λ (k : ℕ). words_from table k 0) (length-replicate {A = ℤ} 32768 (pos 0))

all_words : (table : List ℕ) (l : List ℤ) → l ≡ words_from table (length (replicate {A = ℤ} 32768 (pos 0))) 0 → length l ≡ 32768
all_words table l e = ap length (own-words table l e) ∙ length-words table 32768 0

four-told : (source table : List ℕ) (l : List ℤ) (n : ℕ) {t a b d r : Tally} {x : ℤ} → l ≡ own_words table → n ≡ own_length table → x ≡ pos (get_or table (n / 2) 0 + 1)
    → ListTold source (take n l) 0 0 0 t a → ListTold source (take (n / 2) l) 2 0 (n / 2) a b → ListTold source (take (n + 1) l) 2 0 n b d
    → ListTold source (take n (set l (n / 2) x)) 2 0 (n / 2) d r → FourTold source table t r
four-told source table l n {a = a} {b} {d} e f g w s o h =
    record { first = a; second = b; third = d; whole = rw (e, f) at w; short = rw (e, f) at s; long = rw (e, f) at o; changed = rw (e, g, f) at h }

pub slice_bounds-told-end : goal.slice_bounds-told-end
slice_bounds-told-end c =
    let l = c.words_into in
    sym (length-take-le c.clipped-n.result l.new.list (omega (arith, c.clipped-n.ensures, all_words _ l.new.list l.ensures)))

pub slice_bounds-told-end-2 : goal.slice_bounds-told-end-2
slice_bounds-told-end-2 c =
    let l = c.words_into in
    sym (length-take-le (c.clipped-n.result / 2) l.new.list (omega (arith, c.clipped-n.ensures, all_words _ l.new.list l.ensures)))

pub slice_bounds-told-end-3 : goal.slice_bounds-told-end-3
slice_bounds-told-end-3 c =
    let l = c.words_into in
    sym (length-take-le (c.clipped-n.result + 1) l.new.list (omega (arith, c.clipped-n.ensures, all_words _ l.new.list l.ensures)))

pub slice_bounds-list-end-4 : goal.slice_bounds-list-end-4
slice_bounds-list-end-4 c =
    let l = c.words_into in
    simp length-set (omega (arith, c.clipped-n.ensures, all_words _ l.new.list l.ensures))

pub slice_bounds-told-end-4 : goal.slice_bounds-told-end-4
slice_bounds-told-end-4 c =
    let l = c.words_into in
    sym (length-take-le c.clipped-n.result (set l.new.list _ _) (simp length-set (omega (arith, c.clipped-n.ensures, all_words _ l.new.list l.ensures))))

pub returns : goal.returns
returns c =
    let l = c.words_into in
    let n = c.clipped-n in
    let a = c.args in
    four-told a.source.now a.table.now l.new.list n.result (own-words a.table.now l.new.list l.ensures)
    (n.ensures ∙ ap (λ (w : ℕ). min (3 * w + 1) 32767) c.word_at.ensures)
    (to_z-of_z {w = w64} {z = c.raised-x.result} (record { sfits = c.raised-x.type_inv }) ∙ c.raised-x.ensures ∙ ap (λ (w : ℕ). pos (w + 1)) c.word_at-2.ensures)
    c.told-a.ensures c.told-b.ensures c.told-c.ensures c.told.ensures
