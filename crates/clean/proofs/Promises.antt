-- Request 2 in plain words: what was written reads back as the same program, is written again as the same bytes, and runs as the source does; and there is one
-- answer and one room for each source and room.
use Rattle.std.proofs.Common.{Result, Ok, Err}
use Prim.Native.Nat.{ℕ, ◌≤◌}
use mathlib.Core.Path.{◌≡◌, refl, sym, ap, subst, ◌∙◌}
use mathlib.Core.List.{List, ◌++◌}
use mathlib.Core.Option.{none}
use native.Mathlib.Omega.{arith}
use lib.IntN.{ℤ}
use lib.ListN.{length, take, drop}
use lib.Seq.{take-append_seam, drop-append_seam}
use Rattle.answers.specs.Answers.{number_of}
use Rattle.answers.specs.declared.Refusal.{Refusal}
use Rattle.answers.specs.declared.Verdict.{Verdict}
use Rattle.answers.specs.declared.Verdict.TheVariants.{Accepted, Refused}
use Rattle.grammar.proofs.Unique.{unique}
use Rattle.names.specs.Program.{Statement}
use Rattle.names.specs.Outline.{declarations}
use Rattle.names.specs.Uses.{name_faults, least, use_rows}
use Rattle.types.specs.Types.{type_fault}
use Rattle.table.specs.Table.{table_of}
use Rattle.machine.specs.Machine.{Finish, on_code}
use Rattle.translation.specs.Places.{numbered, placing, Alike, finish_p}
use Rattle.translation.proofs.Correct.{translated}
use Rattle.translation.proofs.RunPlaced.{alike_placed}
use Rattle.reading.specs.Judging as J
use Rattle.reading.specs.Judging.{its_program}
use Rattle.reading.specs.Reading.{symbols, kinds_in, place_in, Grammatical, Judged, filled}
use Rattle.reading.proofs.Only.{one_program, one_judgement}
use Rattle.translating.specs.Job.{Translates}
use Rattle.translating.proofs.Promised.{by_numbers}
use Rattle.clean.specs.House.{page}
use Rattle.clean.specs.Job.{page_of, Fits, too_long, too_short, written, Writes, refused, accepted}
use Rattle.clean.proofs.Clean.{page_refused, page_keeps, page_kinds, page_again}
use Rattle.clean.proofs.Same.{page_program}

-- ---- of the page of an accepted source that is at most 16,384 bytes long

module _ {source : List ℕ} (p : Grammatical source) (short : length (page_of p) ≤ 16384) where
  abbrev pub clean : List ℕ
  clean = page_of p

  -- "the same symbols in the same order, so the same tree"
  pub same_symbols : kinds_in clean ≡ kinds_in source
  same_symbols = page_kinds symbols source p.tree

  abbrev pub clean_parsed : Grammatical clean
  clean_parsed = record {
    scanned = record { short = short; whole = page_refused symbols source p.tree };
    tree = p.tree;
    keeps = page_keeps symbols source p.tree p.keeps;
  }

  pub same_tree : (p' : Grammatical clean) → p'.tree ≡ p.tree
  same_tree p' = unique p'.tree p.tree (p'.keeps.spelled ∙ same_symbols ∙ sym p.keeps.spelled)

  -- "Reading that text back must give the same program"
  pub same_program : (p' : Grammatical clean) → its_program p' ≡ its_program p
  same_program p' = one_program p' clean_parsed ∙ page_program symbols source p.tree p.keeps.spelled

  -- it is accepted, and its table is made of the same program: only places move
  pub read_back : least (name_faults (its_program p)) ≡ none → type_fault (its_program p) ≡ none → Judged clean Accepted (filled (table_of (place_in clean) (its_program p)))
  read_back n t =
      let e = same_program clean_parsed in
      subst (λ (s : Statement). Judged clean Accepted (filled (table_of (place_in clean) s))) e
      (J.accepted clean_parsed (ap (λ (s : Statement). least (name_faults s)) e ∙ n) (ap type_fault e ∙ t))

  -- "with uses and declarations paired alike though places move": use k has the same symbol, kind and declaring symbol or environment number, and the
  -- declarations are the same
  pub same_uses_lem : (p' : Grammatical clean) → use_rows (its_program p') ≡ use_rows (its_program p)
  same_uses_lem p' = ap use_rows (same_program p')

  pub same_declarations : (p' : Grammatical clean) → declarations (its_program p') ≡ declarations (its_program p)
  same_declarations p' = ap declarations (same_program p')

  -- "Writing what was written gives the same bytes."
  pub same_bytes : (p' : Grammatical clean) → page_of p' ≡ clean
  same_bytes p' = page_again symbols source p.tree p'.tree p.keeps.spelled p'.keeps.spelled

  -- so every run of it is the same: answer, outputs, numbers taken and instructions; a fault is at the place where the same symbol stands
  module _ {old old' code code' : List ℕ} {v v' : Verdict} (t : Translates source old v code) (t' : Translates clean old' v' code') (z : number_of v ≡ 0) (z' : number_of v' ≡ 0)
      (input : List ℤ) (limit cells space : ℕ) where
    pub one_run_lem : (f : Finish) × (on_code code input limit cells space ≡ finish_p (placing (place_in source)) f)
        × (on_code code' input limit cells space ≡ finish_p (placing (place_in clean)) f)
    one_run_lem = (
      translated numbered (its_program p) input limit cells space,
      by_numbers t z p input limit cells space,
      by_numbers t' z' clean_parsed input limit cells space
          ∙ ap (λ (s : Statement). finish_p (placing (place_in clean)) (translated numbered s input limit cells space)) (same_program clean_parsed),
    )

    pub same_run : Alike (on_code code input limit cells space) (on_code code' input limit cells space)
    same_run =
        let r = one_run_lem in
        subst (λ x. Alike x (on_code code' input limit cells space)) (sym r.1)
        (subst (λ y. Alike (finish_p (placing (place_in source)) r.0) y) (sym r.2) (alike_placed (placing (place_in source)) (placing (place_in clean)) r.0))

-- ---- of the job

-- where it says how many bytes there are, the source is accepted, and these bytes of the room are its page
pub record Wrote (source room room' : List ℕ) (n : ℕ) : Type 0 where
  pub program : Grammatical source
  pub names_right : least (name_faults (its_program program)) ≡ none
  pub types_right : type_fault (its_program program) ≡ none
  pub count : n ≡ length (page_of program)
  pub short : length (page_of program) ≤ 16384
  pub text : take n room' ≡ page_of program
  pub behind : drop n room' ≡ drop n room

no_text : {n : ℕ} {r : Refusal} → ◌≡◌ {A = Result ℕ Refusal} (Err r) (Ok n) → ⊥
no_text e = let z : ◌≡◌ {A = ℕ} 0 1 = cc in omega arith

text_of : {m n : ℕ} → ◌≡◌ {A = Result ℕ Refusal} (Ok m) (Ok n) → m ≡ n
text_of e = cc

pub wrote : {source room room' : List ℕ} {w : Result ℕ Refusal} → Writes source room w room' → (n : ℕ) → w ≡ Ok n → Wrote source room room' n
wrote (refused r j) n e = absurd (no_text e)
wrote {source} {room} (accepted p a b w room' f) n e = go w room' f e
  where
    go : (w : Result ℕ Refusal) (room' : List ℕ) → Fits (page_of p) room w room' → w ≡ Ok n → Wrote source room room' n
    go w room' (too_long h) e = absurd (no_text e)
    go w room' (too_short h l) e = absurd (no_text e)
    go w room' (written h l) e =
        let q : n ≡ length (page_of p) = sym (text_of e) in
        record {
          program = p;
          names_right = a;
          types_right = b;
          count = q;
          short = h;
          text = ap (λ m. take m (page_of p ++ drop (length (page_of p)) room)) q ∙ take-append_seam (page_of p) (drop (length (page_of p)) room);
          behind = ap (λ m. drop m (page_of p ++ drop (length (page_of p)) room)) q ∙ drop-append_seam (page_of p) (drop (length (page_of p)) room) ∙ ap (λ m. drop m room) (sym q);
        }

-- ---- one answer and one room

only_fits : {text room r r₂ : List ℕ} {w w₂ : Result ℕ Refusal} → Fits text room w r → Fits text room w₂ r₂ → (w ≡ w₂) × (r ≡ r₂)
only_fits (too_long h) (too_long k) = (refl, refl)
only_fits (too_long h) (too_short k l) = absurd (omega arith)
only_fits (too_long h) (written k l) = absurd (omega arith)
only_fits (too_short h l) (too_long k) = absurd (omega arith)
only_fits (too_short h l) (too_short k m) = (refl, refl)
only_fits (too_short h l) (written k m) = absurd (omega arith)
only_fits (written h l) (too_long k) = absurd (omega arith)
only_fits (written h l) (too_short k m) = absurd (omega arith)
only_fits (written h l) (written k m) = (refl, refl)

refused_accepted : {r : Refusal} → Refused r ≡ Accepted → ⊥
refused_accepted e = let z : ◌≡◌ {A = ℕ} 0 1 = cc in omega arith

same_refusal : {r r₂ : Refusal} → Refused r ≡ Refused r₂ → r ≡ r₂
same_refusal e = cc

one_page_lem : {source : List ℕ} (p p₂ : Grammatical source) → page_of p ≡ page_of p₂
one_page_lem {source} p p₂ = ap (page symbols source) (unique p.tree p₂.tree (p.keeps.spelled ∙ sym p₂.keeps.spelled))

pub only : {source room r r₂ : List ℕ} {w w₂ : Result ℕ Refusal} → Writes source room w r → Writes source room w₂ r₂ → (w ≡ w₂) × (r ≡ r₂)
only (refused r j) (refused r₂ j₂) = (ap Err (same_refusal (one_judgement j j₂).0), refl)
only (refused r j) (accepted p a b w room' f) = absurd (refused_accepted (one_judgement j (J.accepted p a b)).0)
only (accepted p a b w room' f) (refused r j) = absurd (refused_accepted (one_judgement j (J.accepted p a b)).0)
only {room = room} (accepted p a b w room' f) (accepted p₂ a₂ b₂ w₂ room₂ f₂) = only_fits f (subst (λ t. Fits t room w₂ room₂) (one_page_lem p₂ p) f₂)
