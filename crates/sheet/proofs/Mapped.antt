-- What is known before `map_err` from what is known after it, and what a `?` returns. Assumes nothing.
use mathlib.Core.Path.{◌≡◌, refl}
use Rattle.std.specs.Prelude.{Result, Ok, Err, MatchResult, IsErrAnd}
use Rattle.std.proofs.lemmas.Result.{err_from_is_err_and}

pub mapped_ok : {T E D : Type 0} (P : E → D → Type 0) (r : Result T E) (s : Result T D) (x : T)
    → MatchResult r (λ y. s ≡ Ok y) (λ e. IsErrAnd s (P e)) → s ≡ Ok x → r ≡ Ok x
mapped_ok P (Ok y) s x m q = let p : y ≡ x = cc in rw p
mapped_ok P (Err e) s x m q = absurd (rw q at m)

pub mapped_err : {T E D : Type 0} (P : E → D → Type 0) (f : E → D) → ((e : E) (d : D) → P e d → d ≡ f e) → (r : Result T E) (s : Result T D) (d : D)
    → MatchResult r (λ y. s ≡ Ok y) (λ e. IsErrAnd s (P e)) → s ≡ Err d → (e : E) × (r ≡ Err e) × (d ≡ f e)
mapped_err P f h (Ok y) s d m q = cc
mapped_err P f h (Err e) s d m q = (e, refl, h e d (rw q at m))

-- at the exit of a `?` whose error stays as it was
pub exit_is : {T E : Type 0} {e : E} (r : Result T E) → IsErrAnd r (λ y. y ≡ e) → r ≡ Err e
exit_is r h = let p = err_from_is_err_and r h in rw (p.1, p.2)
