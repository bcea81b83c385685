-- Laws of what check and refine say: from what the lists say to the verdicts. Assumes nothing.
use Rattle.std.specs.Prelude.{Result, Ok, Err}
use mathlib.Core.Path.{◌≡◌, refl, sym, ap, ◌∙◌}
use mathlib.Core.Bool.{Bool, true, false, ◌&&◌}
use mathlib.Core.List.{List, [], ◌∷◌}
use mathlib.Core.Logic.{◌↔◌}
use Prim.Native.Nat.{ℕ, ◌≤◌, ◌<◌, max}
use native.Mathlib.Omega.{arith}
use lib.ListN.{length, get_or}
use lib.Dec.{eqb}
use lib.Pointwise.{pointwise}
use Rattle.meaning.specs.Basic.{same_list}
use Rattle.meaning.specs.Joint.{total, start_fault, step_fault}
use Rattle.meaning.specs.Room.{start_count, step_count}
use Rattle.meaning.specs.Answer as paper
use Rattle.answer.specs.declared.Done.{Done}
use Rattle.answer.specs.declared.Done.TheVariants.{Undecided}
use Rattle.answer.specs.declared.Refused.{Refused}
use Rattle.answer.specs.declared.Reason.TheVariants.{Start, Step}
use Rattle.answer.specs.Meant.{refusal_of, file_of, reason_of, done_of, answer_of}
use Rattle.diagram.specs.Words.{room_of}
use Rattle.diagram.specs.Contract.{Forgets}
use Rattle.diagram.specs.declared.Full.{Full}
use Rattle.diagram.specs.declared.Head.{Head}
use Rattle.groups.specs.ByIds.{fault_by, split_by, Tells}
use Rattle.groups.proofs.Telling.{start_fault_lem, step_fault_lem, step-next}
use Rattle.work.specs.declared.Pair.{Pair}
use Rattle.work.specs.Lists.{left, right, joint, Fits, Exceeds, ListSays, StartSays, StepSays, Holds}
use Rattle.work.specs.Stages.{Front, FrontDone, FrontSays}
use Rattle.work.proofs.FrontList.{front_again}
use Rattle.correspond.specs.declared.Round.TheVariants.{Stays, Splits}
use Rattle.correspond.specs.Verdicts.{Grouped, Lent, CheckSays, Counted, out_of_room, next_of, RoundFits, RoundSays}
use Rattle.correspond.proofs.Checking.{out_at-start, start-differs, out_at-step, step-differs, both_hold}

-- ## What the lists leave of a lent table

pub lent_after : {w u v : List ℕ} → Lent w u → Lent u v → Lent w v
lent_after x y = record { room = y.room ∙ x.room; rest = y.rest ∙ x.rest }

pub fits_lent : {count n : ℕ} {Same : ℕ → ℕ → Type 0} {w u ids : List ℕ} {a b : Head} → Fits count n Same w a u b ids → Lent w u
fits_lent f = record { room = f.room; rest = f.rest }

pub exceeds_lent : {count : ℕ} {w u : List ℕ} → Exceeds count w u → Lent w u
exceeds_lent e = record { room = e.room; rest = e.rest }

module _ {p : Pair} {w : List ℕ} {a : Head} {u : List ℕ} {b : Head} {h h' : List ℕ} (f : FrontDone p w a u b h h') where
  pub front_lent : Lent w u
  front_lent = record { room = f.room; rest = f.rest }

  pub front_counted : a.most ≡ start_count (left p) (right p) → (g : List ℕ) → length g ≡ joint p → Counted p b g
  front_counted e g long = f.counted g long ∙ ap (λ (m : ℕ). max m (step_count (left p) (right p) g)) e

-- what is said of a table's words is said of the array that they were lent from
pub check_lent : {p : Pair} {g w u u' : List ℕ} {z : Result Done Refused} → u' ≡ u → CheckSays p g w u z → CheckSays p g w u' z
check_lent d c = rw d c

-- what `==` says of two slices
slices_same : (xs ys : List ℕ) → pointwise eqb xs ys ≡ same_list xs ys
unfolding same_list
slices_same [] [] = refl
slices_same [] (y ∷ ys) = refl
slices_same (x ∷ xs) [] = refl
slices_same (x ∷ xs) (y ∷ ys) = ap (λ (e : Bool). eqb x y && e) (slices_same xs ys)

module _ {p : Pair} {g : List ℕ} (ok : Grouped p g) where
  long : length g ≡ total (left p) (right p)
  unfolding joint
  long = ok.size

  -- ids that tell all signals apart tell them apart within the classes
  pub all_tell : (ids : List ℕ) (Same : ℕ → ℕ → Type 0)
      → ((v v' : ℕ) → v < joint p → v' < joint p → (get_or ids v 0 ≡ get_or ids v' 0) ↔ Same v v') → Tells g ids Same
  unfolding Tells joint
  all_tell ids Same tells v v' l l' c = tells v v' (omega (arith, ok.size)) (omega (arith, ok.size))

  -- ## Check

  module _ (w : List ℕ) where
    pub check_no_start : {x : List ℕ} → x ≡ w → (a : Head) (u : List ℕ) (b : Head) (ids : List ℕ) (full : Full) → StartSays p x a u b ids (Err full)
        → CheckSays p g w u (Err (out_of_room 0))
    unfolding StartSays ListSays answer_of refusal_of file_of
    check_no_start e a u b ids full says =
        let x = rw e at says in
        record { answer = sym (out_at-start (room_of w) (left p) (right p) g x.over); lent = exceeds_lent x }

    -- the start list has room, and is counted
    pub record Started (u : List ℕ) (b : Head) (ids : List ℕ) : Type 0 where
      pub fits : start_count (left p) (right p) ≤ room_of w
      pub most : b.most ≡ start_count (left p) (right p)
      pub fault : fault_by g ids ≡ start_fault (left p) (right p) g
      pub lent : Lent w u

    pub started : {x : List ℕ} → x ≡ w → (a : Head) (u : List ℕ) (b : Head) (ids : List ℕ) (done : Unit {0}) → StartSays p x a u b ids (Ok done)
        → a.most ≡ 0 → Started u b ids
    unfolding StartSays ListSays
    started e a u b ids done says none =
        let f = rw e at says in
        record {
          fits = f.fits;
          most = f.most ∙ (rw none (omega arith));
          fault = start_fault_lem (left p) (right p) g ids long (all_tell ids _ f.tells);
          lent = fits_lent f;
        }

    module _ {u : List ℕ} {b : Head} {ids : List ℕ} (s : Started u b ids) where
      pub check-start : {v : ℕ} → v ≡ fault_by g ids → v < length g → CheckSays p g w u (Ok (Undecided Start v 0 b.most))
      unfolding answer_of done_of reason_of
      check-start is l = record {
        answer = rw (s.most, is, s.fault) (sym (start-differs (room_of w) (left p) (right p) g s.fits (omega (arith, is, s.fault, long, l))));
        lent = s.lent;
      }

    -- Start holds, and its list had room
    pub record Passed (u : List ℕ) : Type 0 where
      pub fits : start_count (left p) (right p) ≤ room_of w
      pub start : total (left p) (right p) ≤ start_fault (left p) (right p) g
      pub lent : Lent w u

    pub passed : {u : List ℕ} {b : Head} {ids : List ℕ} → Started u b ids → length g ≤ fault_by g ids → Passed u
    passed s l = record { fits = s.fits; start = omega (arith, s.fault, long, l); lent = s.lent }

    passed_on : {u u' : List ℕ} → Passed u → Lent u u' → Passed u'
    passed_on s x = record { fits = s.fits; start = s.start; lent = lent_after s.lent x }

    -- the step list has no room, be it for the front or for the rest
    no_step : {u u' : List ℕ} → Passed u → Exceeds (step_count (left p) (right p) g) u u' → CheckSays p g w u' (Err (out_of_room 1))
    unfolding answer_of refusal_of file_of
    no_step s x = record {
      answer = sym (out_at-step (room_of w) (left p) (right p) g s.fits s.start (omega (arith, x.over, s.lent.room)));
      lent = lent_after s.lent (exceeds_lent x);
    }

    pub check_no_front : {u : List ℕ} → Passed u → (a : Head) (u' : List ℕ) (b : Head) (h h' : List ℕ) (full : Full)
        → FrontSays p u a u' b h h' (Err full) → CheckSays p g w u' (Err (out_of_room 1))
    unfolding FrontSays
    check_no_front s a u' b h h' full over = no_step s (over g ok.size)

    pub check_no_step : {u : List ℕ} → Passed u → (a : Head) (u' : List ℕ) (b : Head) (ids : List ℕ) (full : Full)
        → StepSays p g u a u' b ids (Err full) → CheckSays p g w u' (Err (out_of_room 1))
    unfolding StepSays ListSays
    check_no_step s a u' b ids full x = no_step s x

    -- the front of the step list is worked
    pub record Fronted (u : List ℕ) (b : Head) : Type 0 where
      pub passed : Passed u
      pub counted : Counted p b g

    pub fronted : {u : List ℕ} {b : Head} {ids : List ℕ} → Started u b ids → length g ≤ fault_by g ids
        → {u' h h' : List ℕ} {b' : Head} → FrontDone p u b u' b' h h' → Fronted u' b'
    fronted s l f = record { passed = passed_on (passed s l) (front_lent f); counted = front_counted f s.most g ok.size }

    -- the step list is worked
    pub record Stepped (u : List ℕ) (b : Head) (ids : List ℕ) : Type 0 where
      pub passed : Passed u
      pub fits : step_count (left p) (right p) g ≤ room_of w
      pub most : b.most ≡ max (start_count (left p) (right p)) (step_count (left p) (right p) g)
      pub fault : fault_by g ids ≡ step_fault (left p) (right p) g

    pub stepped : {u : List ℕ} {b : Head} → Fronted u b
        → (u' : List ℕ) (b' : Head) (ids : List ℕ) (done : Unit {0}) → StepSays p g u b u' b' ids (Ok done) → Stepped u' b' ids
    unfolding StepSays ListSays
    stepped s u' b' ids done f = record {
      passed = passed_on s.passed (fits_lent f);
      fits = omega (arith, f.fits, s.passed.lent.room);
      most = f.most ∙ s.counted;
      fault = step_fault_lem (left p) (right p) g ids long (all_tell ids _ f.tells);
    }

    module _ {u : List ℕ} {b : Head} {ids : List ℕ} (s : Stepped u b ids) where
      pub check-step : {v : ℕ} → v ≡ fault_by g ids → v < length g → CheckSays p g w u (Ok (Undecided Step v 0 b.most))
      unfolding answer_of done_of reason_of
      check-step is l = record {
        answer = rw (s.most, is, s.fault) (sym (step-differs (room_of w) (left p) (right p) g s.passed.fits s.passed.start s.fits (omega (arith, is, s.fault, long, l))));
        lent = s.passed.lent;
      }

      pub check_outputs : length g ≤ fault_by g ids → {z : Result Done Refused} → answer_of z ≡ paper.outputs_verdict (left p) (right p) g 0 b.most → CheckSays p g w u z
      check_outputs l is = record {
        answer = is ∙ rw s.most (sym (both_hold (room_of w) (left p) (right p) g s.passed.fits s.passed.start s.fits (omega (arith, s.fault, long, l))));
        lent = s.passed.lent;
      }

  -- ## One round

  module _ (h h' w : List ℕ) (a : Head) (u : List ℕ) (b : Head) (ids : List ℕ) where
    pub round_over : (full : Full) → StepSays p g w a u b ids (Err full) → RoundSays p h h' g w a u b g (Err full)
    unfolding StepSays ListSays RoundSays
    round_over full x = (x.over, exceeds_lent x, refl)

    module _ (done : Unit {0}) (s : StepSays p g w a u b ids (Ok done)) where
      list_fits : RoundFits p g w a u b
      unfolding StepSays ListSays
      list_fits = record { fits = s.fits; most = s.most; lent = fits_lent s }

      next_is : split_by g ids ≡ next_of p g
      unfolding StepSays ListSays next_of joint
      next_is = step-next (left p) (right p) g ids long (all_tell ids _ s.tells)

      module _ (next : List ℕ) (split : next ≡ split_by g ids) (same : Bool) (is : same ≡ pointwise eqb g next) where
        pub round_stays : same ≡ true → RoundSays p h h' g w a u b g (Ok Stays)
        unfolding RoundSays
        round_stays t = (list_fits, rw (sym (split ∙ next_is)) (sym (is ∙ slices_same g next) ∙ t), refl)

        -- the nodes of the round are forgotten
        pub round_splits : same ≡ false → (g' : List ℕ) → g' ≡ next → Front p w a h h' → Holds w a u b
            → (u' : List ℕ) (c : Head) → Forgets u b a.used u' c → RoundSays p h h' g w a u' c g' (Ok Splits)
        unfolding RoundSays
        round_splits t g' q front holds u' c forgot =
            let f = list_fits in (
              record {
                fits = f.fits;
                most = forgot.most ∙ f.most;
                lent = lent_after f.lent (record { room = forgot.room; rest = forgot.rest });
              },
              rw (sym (split ∙ next_is)) (sym (is ∙ slices_same g next) ∙ t),
              q ∙ split ∙ next_is,
              front_again p front holds forgot,
              forgot.used,
            )
