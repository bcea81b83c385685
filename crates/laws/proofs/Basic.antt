-- Laws of the shared definitions. Assumes nothing.
use mathlib.Core.Path.{◌≡◌, refl, sym, ap, ap₂, ◌∙◌, subst}
use mathlib.Core.Logic.{◌↔◌}
use mathlib.Core.Bool.{Bool, true, false, not, ◌&&◌, ◌||◌, beq}
use mathlib.Core.List.{List, [], ◌∷◌, map}
use Prim.Native.Nat.{ℕ, zero, suc, ◌+◌, ◌≤◌, ◌<◌}
use native.Mathlib.Omega.{arith}
use lib.ListN.{length}
use lib.Dec.{eqb}
use borrow.Author.Tests.{eqb-true, eqb-false, eq-eqb}
use Rattle.meaning.specs.Basic.{bit, up_from, least_from, same_list, keep, pairwise, all_true, every}

pub case_bool {ℓ} : {P : Type ℓ} (b : Bool) → (b ≡ true → P) → (b ≡ false → P) → P
case_bool true t f = t refl
case_bool false t f = f refl

pub true_false {ℓ} : {P : Type ℓ} (b : Bool) → b ≡ true → b ≡ false → P
true_false b t f = let z : ◌≡◌ {A = ℕ} 0 1 = cc in absurd (omega arith)

pub bool_iff : (a b : Bool) → (a ≡ true → b ≡ true) → (b ≡ true → a ≡ true) → a ≡ b
bool_iff true b f g = sym (f refl)
bool_iff false true f g = g refl
bool_iff false false f g = refl

pub and_left : (a b : Bool) → a && b ≡ true → a ≡ true
and_left true b e = refl
and_left false b e = e

pub and_right : (a b : Bool) → a && b ≡ true → b ≡ true
and_right true b e = e
and_right false b e = true_false false e refl

pub and_both : (a b : Bool) → a ≡ true → b ≡ true → a && b ≡ true
and_both a b p q = rw p q

pub or_right : (a b : Bool) → a ≡ true → not a || b ≡ true → b ≡ true
or_right true b p e = e
or_right false b p e = true_false false p refl

pub or_intro : (a b : Bool) → (a ≡ true → b ≡ true) → not a || b ≡ true
or_intro true b h = h refl
or_intro false b h = refl

pub beq-eq : (a b : Bool) → beq a b ≡ true → a ≡ b
beq-eq true true e = refl
beq-eq true false e = sym e
beq-eq false true e = e
beq-eq false false e = refl

pub eq-beq : (a b : Bool) → a ≡ b → beq a b ≡ true
eq-beq true true e = refl
eq-beq true false e = sym e
eq-beq false true e = e
eq-beq false false e = refl

-- ## the least

pub record Least (i k : ℕ) (test : ℕ → Bool) (l : ℕ) : Type 0 where
  pub from : i ≤ l
  pub upto : l ≤ i + k
  pub before : (v : ℕ) → i ≤ v → v < l → test v ≡ false
  pub here : l < i + k → test l ≡ true

pub least_hit : (i k : ℕ) (test : ℕ → Bool) → test i ≡ true → least_from i (suc k) test ≡ i
unfolding least_from
least_hit i k test e = rw (e, least_from)

pub least_miss : (i k : ℕ) (test : ℕ → Bool) → test i ≡ false → least_from i (suc k) test ≡ least_from (suc i) k test
unfolding least_from
least_miss i k test e = rw (e, least_from)

pub least_is : (i k : ℕ) (test : ℕ → Bool) → Least i k test (least_from i k test)
least_is i zero test = unfold least_from in record { from = omega arith; upto = omega arith; before = λ v p q. absurd (omega arith); here = λ p. absurd (omega arith) }
least_is i (suc k) test = case_bool (test i) hit (miss (least_is (suc i) k test))
  where
    hit : test i ≡ true → Least i (suc k) test (least_from i (suc k) test)
    hit e = rw (least_hit i k test e) (record { from = omega arith; upto = omega arith; before = λ v p q. absurd (omega arith); here = λ p. e })

    miss : Least (suc i) k test (least_from (suc i) k test) → test i ≡ false → Least i (suc k) test (least_from i (suc k) test)
    miss r e =
        rw (least_miss i k test e) (record {
          from = omega (arith, r.from);
          upto = omega (arith, r.upto);
          before = λ v p q. case_bool (eqb v i) (λ t. rw (eqb-true v i t) e) (λ t. r.before v (above v p (eqb-false v i t)) q);
          here = λ p. r.here (omega arith);
        })
      where
        above : (v : ℕ) → i ≤ v → (v ≡ i → ⊥) → suc i ≤ v
        above v p q = omega arith

-- none passes, exactly when the least is past them all
pub least_none : (k : ℕ) (test : ℕ → Bool) → least_from 0 k test ≡ k → (v : ℕ) → v < k → test v ≡ false
least_none k test e v l = (least_is 0 k test).before v (omega arith) (omega arith)

pub least_upto : (k : ℕ) (test : ℕ → Bool) → least_from 0 k test ≤ k
least_upto k test = omega (arith, (least_is 0 k test).upto)

-- ## all assignments

every_both : (m : ℕ) (test : List Bool → Bool) → every (suc m) test ≡ true
    → (every m (λ e. test (false ∷ e)) ≡ true) × (every m (λ e. test (true ∷ e)) ≡ true)
unfolding every
every_both m test h = case_bool (every m (λ e. test (false ∷ e)))
    (λ t. (t, sym (rw (t, every)) ∙ h))
    (λ t. true_false (every (suc m) test) h (rw (t, every)))

pub every_all : (m : ℕ) (test : List Bool → Bool) → every m test ≡ true → (e : List Bool) → length e ≡ m → test e ≡ true
every_all zero test h [] p = unfold every in h
every_all zero test h (b ∷ e) p = absurd (omega arith)
every_all (suc m) test h [] p = absurd (omega arith)
every_all (suc m) test h (false ∷ e) p = every_all m (λ e. test (false ∷ e)) (every_both m test h).0 e (omega arith)
every_all (suc m) test h (true ∷ e) p = every_all m (λ e. test (true ∷ e)) (every_both m test h).1 e (omega arith)

pub all_every : (m : ℕ) (test : List Bool → Bool) → ((e : List Bool) → length e ≡ m → test e ≡ true) → every m test ≡ true
unfolding every
all_every zero test h = h [] refl
all_every (suc m) test h =
    rw (all_every m (λ e. test (false ∷ e)) (λ e p. h (false ∷ e) (ap suc p)), every)
    (all_every m (λ e. test (true ∷ e)) (λ e p. h (true ∷ e) (ap suc p)))

-- ## a test over the numbers that another test keeps

pub all_kept : (p q : ℕ → Bool) (i k : ℕ) → ((v : ℕ) → i ≤ v → v < i + k → q v ≡ true → p v ≡ true)
    → all_true (map p (keep q (up_from i k))) ≡ true
unfolding all_true keep up_from
all_kept p q i zero h = refl
all_kept p q i (suc k) h =
    let rest : all_true (map p (keep q (up_from (suc i) k))) ≡ true = all_kept p q (suc i) k (λ v a b c. h v (omega arith) (omega arith) c) in
    case_bool (q i)
    (λ t. rw (t, keep) (and_both (p i) _ (h i (omega arith) (omega arith) t) rest))
    (λ t. rw (t, keep) rest)

pub kept_all : (p q : ℕ → Bool) (i k : ℕ) → all_true (map p (keep q (up_from i k))) ≡ true
    → (v : ℕ) → i ≤ v → v < i + k → q v ≡ true → p v ≡ true
unfolding all_true keep up_from
kept_all p q i zero h v a b t = absurd (omega arith)
kept_all p q i (suc k) h v a b t =
    case_bool (eqb v i)
    (λ s. let here : v ≡ i = eqb-true v i s in
    let t' : q i ≡ true = rw here at t in
    rw here (and_left (p i) _ (rw (t', keep) at h)))
    (λ s. let other = eqb-false v i s in
    kept_all p q (suc i) k
    (case_bool (q i) (λ t. and_right (p i) _ (rw (t, keep) at h)) (λ t. rw (t, keep) at h))
    v (omega arith) (omega arith) t)

-- ## pairwise

pub length-pairwise : (f : Bool → Bool → Bool) (xs ys : List Bool) → length xs ≡ length ys → length (pairwise f xs ys) ≡ length xs
unfolding pairwise
length-pairwise f [] ys h = refl
length-pairwise f (x ∷ xs) [] h = absurd (omega arith)
length-pairwise f (x ∷ xs) (y ∷ ys) h = ap suc (length-pairwise f xs ys (omega arith))

pub bit-pairwise : (f : Bool → Bool → Bool) (xs ys : List Bool) (v : ℕ) → length xs ≡ length ys → v < length xs
    → bit (pairwise f xs ys) v ≡ f (bit xs v) (bit ys v)
unfolding pairwise
bit-pairwise f [] ys v h l = absurd (omega arith)
bit-pairwise f (x ∷ xs) [] v h l = absurd (omega arith)
bit-pairwise f (x ∷ xs) (y ∷ ys) zero h l = refl
bit-pairwise f (x ∷ xs) (y ∷ ys) (suc v) h l = bit-pairwise f xs ys v (omega arith) (omega arith)

-- ## same_list

pub same_list-eq : (xs ys : List ℕ) → same_list xs ys ≡ true → xs ≡ ys
unfolding same_list
same_list-eq [] [] e = refl
same_list-eq [] (y ∷ ys) e = true_false false e refl
same_list-eq (x ∷ xs) [] e = true_false false e refl
same_list-eq (x ∷ xs) (y ∷ ys) e = ap₂ ◌∷◌ (eqb-true x y (and_left (eqb x y) _ e)) (same_list-eq xs ys (and_right (eqb x y) _ e))

pub same_list_refl : (xs : List ℕ) → same_list xs xs ≡ true
unfolding same_list
same_list_refl [] = refl
same_list_refl (x ∷ xs) = rw (eq-eqb x x refl) (same_list_refl xs)

-- ## What a rule allows

-- a rule that allows some answer, and only the answer given, says exactly which answer is given
pub exactly : {A : Type 0} (Says : A → Type 0) (given : A) → ((v : A) → Says v → given ≡ v) → (v : A) × Says v → (v : A) → (given ≡ v) ↔ Says v
exactly Says given only some v = ((λ e. subst Says (sym (only some.0 some.1) ∙ e) some.1), only v)

-- so it allows one answer
pub exactly_one : {A : Type 0} (Says : A → Type 0) (given : A) → ((v : A) → (given ≡ v) ↔ Says v) → (v w : A) → Says v → Says w → v ≡ w
exactly_one Says given iff v w s t = sym ((iff v).1 s) ∙ (iff w).1 t
