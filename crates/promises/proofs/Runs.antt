-- What write and run answer, exactly. Assumes nothing.
use mathlib.Core.Path.{◌≡◌, refl, sym}
use mathlib.Core.Bool.{true, false}
use mathlib.Core.List.{List, [], ◌∷◌}
use Prim.Native.Nat.{ℕ, zero, suc, ◌+◌, ◌^◌, ◌≤◌, ◌<◌}
use native.Mathlib.Omega.{arith}
use lib.ListN.{length, get_or}
use lib.Dec.{ltb}
use borrow.Author.Tests.{ltb-true, ltb-false, lt-ltb, le-ltb}
use Rattle.meaning.specs.Sheet.{Sheet, Read, refused, value, inputs, reading_of_sheet, bytes_of_sheet}
use Rattle.meaning.specs.Answer.{Answer, silent, refuse, or_refuse, write_answer, bad_vector_place, run_answer}
use Rattle.laws.proofs.Basic.{case_bool}
use Rattle.promises.specs.Calls.{LeastFailing, WriteSays, FitsInputs, RunSays, a_refused, too_small, written, bad_vector, ran}

-- ## Write

pub write_says : (a : List ℕ) (space : ℕ) → WriteSays a space (write_answer a space).answer
unfolding write_answer or_refuse refuse silent
write_says a space = go (reading_of_sheet a) refl
  where
    go : (ra : Read Sheet) → reading_of_sheet a ≡ ra → WriteSays a space (write_answer a space).answer
    go (refused k at) e = a_refused k at e (rw e)
    go (value A) e = case_bool (ltb space (length (bytes_of_sheet A)))
        (λ t. too_small A e (ltb-true _ _ t) (rw (e, t)))
        (λ t. written A e (ltb-false _ _ t) (rw (e, t)))

pub write_only : (a : List ℕ) (space : ℕ) (x : Answer) → WriteSays a space x → (write_answer a space).answer ≡ x
unfolding write_answer or_refuse refuse silent
write_only a space x (a_refused k at r e) = rw r (sym e)
write_only a space x (too_small A r l e) = rw (r, lt-ltb _ _ l) (sym e)
write_only a space x (written A r l e) = rw (r, le-ltb _ _ l) (sym e)

-- ## The least tick whose vector has a bit beyond the inputs

record FirstBad (i t : ℕ) (vs : List ℕ) (b : ℕ) : Type 0 where
  from : t ≤ b
  upto : b ≤ t + length vs
  before : (j : ℕ) → t + j < b → get_or vs j 0 < 2 ^ i
  here : (j : ℕ) → b ≡ t + j → j < length vs → 2 ^ i ≤ get_or vs j 0

bad_miss : (i t v : ℕ) (vs : List ℕ) → ltb v (2 ^ i) ≡ true → bad_vector_place i t (v ∷ vs) ≡ bad_vector_place i (suc t) vs
unfolding bad_vector_place
bad_miss i t v vs e = rw (e, bad_vector_place)

bad_hit : (i t v : ℕ) (vs : List ℕ) → ltb v (2 ^ i) ≡ false → bad_vector_place i t (v ∷ vs) ≡ t
unfolding bad_vector_place
bad_hit i t v vs e = rw (e, bad_vector_place)

first_bad : (i t : ℕ) (vs : List ℕ) → FirstBad i t vs (bad_vector_place i t vs)
first_bad i t [] = unfold bad_vector_place in record {
  from = omega arith;
  upto = omega arith;
  before = λ j l. absurd (omega arith);
  here = λ j e l. absurd (omega arith);
}
first_bad i t (v ∷ vs) = case_bool (ltb v (2 ^ i)) (miss (first_bad i (suc t) vs)) hit
  where
    hit : ltb v (2 ^ i) ≡ false → FirstBad i t (v ∷ vs) (bad_vector_place i t (v ∷ vs))
    hit e = rw (bad_hit i t v vs e) (record {
      from = omega arith;
      upto = omega arith;
      before = λ j l. absurd (omega arith);
      here = λ j q l. at j (omega arith);
    })
      where
        at : (j : ℕ) → j ≡ 0 → 2 ^ i ≤ get_or (v ∷ vs) j 0
        at zero q = ltb-false _ _ e
        at (suc j) q = absurd (omega arith)

    miss : FirstBad i (suc t) vs (bad_vector_place i (suc t) vs) → ltb v (2 ^ i) ≡ true → FirstBad i t (v ∷ vs) (bad_vector_place i t (v ∷ vs))
    miss r e = rw (bad_miss i t v vs e) (record { from = omega (arith, r.from); upto = omega (arith, r.upto); before = before; here = here })
      where
        before : (j : ℕ) → t + j < bad_vector_place i (suc t) vs → get_or (v ∷ vs) j 0 < 2 ^ i
        before zero l = ltb-true _ _ e
        before (suc j) l = r.before j (omega arith)

        here : (j : ℕ) → bad_vector_place i (suc t) vs ≡ t + j → j < suc (length vs) → 2 ^ i ≤ get_or (v ∷ vs) j 0
        here zero q l = absurd (omega (arith, r.from))
        here (suc j) q l = r.here j (omega arith) (omega arith)

-- ## Run

module _ (A : Sheet) (vectors : List ℕ) where
  bad_tick : ℕ
  bad_tick = bad_vector_place (inputs A.signals) 0 vectors

  fit_before : (t : ℕ) → t < bad_tick → FitsInputs A vectors t
  unfolding bad_tick FitsInputs
  fit_before t l = (first_bad (inputs A.signals) 0 vectors).before t (omega arith)

  bad_tick_lem : bad_tick < length vectors → LeastFailing (length vectors) (FitsInputs A vectors) bad_tick
  unfolding bad_tick FitsInputs
  bad_tick_lem l = record {
    below = l;
    fails = λ f. let z = (first_bad (inputs A.signals) 0 vectors).here bad_tick (omega arith) l in omega arith;
    before = fit_before;
  }

  tick_bad : (t : ℕ) → LeastFailing (length vectors) (FitsInputs A vectors) t → bad_tick ≡ t
  unfolding bad_tick FitsInputs
  tick_bad t f = case_bool (ltb bad_tick t)
      (λ u. let l = ltb-true bad_tick t u in
      absurd (omega (arith, (first_bad (inputs A.signals) 0 vectors).here bad_tick (omega arith) (omega (arith, f.below)), f.before bad_tick l)))
      (λ u. case_bool (ltb t bad_tick)
      (λ w. absurd (f.fails (fit_before t (ltb-true t bad_tick w))))
      (λ w. omega (arith, ltb-false bad_tick t u, ltb-false t bad_tick w)))

  none_bad : ((t : ℕ) → t < length vectors → FitsInputs A vectors t) → length vectors ≤ bad_tick
  unfolding bad_tick FitsInputs
  none_bad h = case_bool (ltb bad_tick (length vectors))
      (λ u. let l = ltb-true bad_tick (length vectors) u in
      absurd (omega (arith, (first_bad (inputs A.signals) 0 vectors).here bad_tick (omega arith) l, h bad_tick l)))
      (λ u. ltb-false bad_tick (length vectors) u)

pub run_says : (a vectors : List ℕ) (space : ℕ) → RunSays a vectors space (run_answer a vectors space).answer
unfolding run_answer or_refuse refuse silent bad_tick
run_says a vectors space = go (reading_of_sheet a) refl
  where
    go : (ra : Read Sheet) → reading_of_sheet a ≡ ra → RunSays a vectors space (run_answer a vectors space).answer
    go (refused k at) e = a_refused k at e (rw e)
    go (value A) e = case_bool (ltb space (length vectors)) (λ t. too_small A e (ltb-true _ _ t) (rw (e, t)))
        λ t. case_bool (ltb (bad_tick A vectors) (length vectors))
        (λ u. bad_vector A e (ltb-false _ _ t) (bad_tick A vectors) (bad_tick_lem A vectors (ltb-true _ _ u)) (rw (e, t, u)))
        (λ u. ran A e (ltb-false _ _ t) (λ v l. fit_before A vectors v (past v l (ltb-false (bad_tick A vectors) (length vectors) u))) (rw (e, t, u)))
      where
        past : (v : ℕ) → v < length vectors → length vectors ≤ bad_tick A vectors → v < bad_tick A vectors
        past v l m = omega arith

pub run_only : (a vectors : List ℕ) (space : ℕ) (x : Answer) → RunSays a vectors space x → (run_answer a vectors space).answer ≡ x
unfolding run_answer or_refuse refuse silent bad_tick
run_only a vectors space x (a_refused k at r e) = rw r (sym e)
run_only a vectors space x (too_small A r l e) = rw (r, lt-ltb _ _ l) (sym e)
run_only a vectors space x (bad_vector A r l t f e) =
    let at : bad_vector_place (inputs A.signals) 0 vectors ≡ t = tick_bad A vectors t f in
    rw (r, le-ltb _ _ l, at, lt-ltb _ _ f.below) (sym e)
run_only a vectors space x (ran A r l h e) = rw (r, le-ltb _ _ l, le-ltb _ _ (none_bad A vectors h)) (sym e)
