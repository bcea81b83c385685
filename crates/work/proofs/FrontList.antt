-- The front of the step list: worked once, and there again after a round is forgotten. Assumes nothing.
use Rattle.std.specs.Prelude.{Result, Ok, Err}
use denote.Ref.{Bor}
use mathlib.Core.Path.{◌≡◌, sym, ◌∙◌}
use mathlib.Core.List.{List}
use Prim.Native.Nat.{ℕ, ◌+◌, ◌*◌, ◌<◌, ◌≤◌}
use native.Mathlib.Omega.{arith}
use lib.ListN.{length, take}
use Rattle.meaning.specs.Numbers.{max_signals}
use Rattle.meaning.specs.Sheet as paper
use Rattle.lists.specs.Lists as lists
use Rattle.diagram.specs.declared.Full.{Full}
use Rattle.diagram.specs.declared.Head.{Head}
use Rattle.diagram.specs.Contract.{Keeps, Forgets}
use Rattle.fill.specs.Work.{Gains, Misses}
use Rattle.fill.proofs.Parts.{part_left}
use Rattle.fill.proofs.Gains.{gains_ready, gains_after, misses_after, misses_wider, stand_kept}
use Rattle.work.specs.declared.Pair.{Pair}
use Rattle.work.specs.declared.pass.Moment.TheVariants.{Now, Next}
use Rattle.work.specs.Lists.{left, right, joint, Alike, Holds}
use Rattle.work.specs.Passes.{moment_of, Earlier}
use Rattle.work.specs.Stages.{both_trees, front_trees, BothAsks, Both, BothSays, Front, FrontDone, FrontSays}
use Rattle.work.proofs.Front.{zeros, zeros_front, after, after_front, after_few, after_sized}
use Rattle.work.proofs.Held.{held_append, held_kept}
use Rattle.work.proofs.Joining.{joint_few}
use Rattle.work.proofs.Both.{both_held}
use Rattle.work.proofs.Closing.{forgot_bare}
use Rattle.work.proofs.StepList.{front_within, front_exceeds}

-- the words x of the emptied table, and two arrays of n and n' places, that h and h one tick on are put in
pub record Emptied (p : Pair) (n n' : ℕ) (w : List ℕ) (a : Head) (x : List ℕ) (e : Head) : Type 0 where
  pub alike : Alike p
  pub size : n ≡ joint p
  pub size' : n' ≡ joint p
  pub empty : Forgets w a 0 x e

module _ {p : Pair} {n n' : ℕ} {w : List ℕ} {a : Head} {x : List ℕ} {e : Head} (s : Emptied p n n' w a x e) where
  abbrev A : paper.Sheet
  A = left p

  abbrev B : paper.Sheet
  B = right p

  front_few : n ≤ 2 * max_signals
  front_few = omega (arith, s.size, joint_few p s.alike)

  -- the array that f is put in
  zeros_sized : length (take n zeros) ≡ joint p
  zeros_sized = zeros_front n front_few ∙ s.size

  pub now_asks : BothAsks p Now x e (length (take n zeros)) n
  unfolding Earlier
  now_asks = record {
    f_asks = record { ready = record { good = rw s.empty.used s.empty.good; tallied = omega (arith, s.empty.used) }; alike = s.alike; sized = zeros_sized; earlier = tt };
    h_sized = s.size;
  }

  front_over : (u : List ℕ) (b : Head) (any any' : List ℕ) (full : Full) → Misses x e (front_trees A B) u b → FrontSays p w a u b any any' (Err full)
  unfolding FrontSays
  front_over u b any any' full k g groups = front_exceeds p g groups (forgot_bare s.empty) u b k

  module _ (u : List ℕ) (b : Head) (fs hs : List ℕ) where
    pub now_over : (full : Full) → BothSays p Now x e u b fs hs (Err full) → (any : List ℕ) → FrontSays p w a u b hs any (Err full)
    unfolding BothSays front_trees moment_of
    now_over full m any = front_over u b hs any full (misses_wider _ (λ s k. part_left (both_trees A B lists.next) k) m)

    module _ (says : BothSays p Now x e u b fs hs (Ok tt)) where
      both : Both p Now x e u b fs hs
      unfolding BothSays
      both = says

      size_f : length fs ≡ n
      size_f = both.f_size ∙ sym s.size

      -- the array that f was put in
      abbrev array : List ℕ
      array = after n fs

      pub array_few : n ≤ length array
      array_few = after_few n fs size_f

      pub array_sized : n ≡ length (take n array)
      array_sized = after_sized n fs size_f

      pub next_asks : (now : Bor (List ℕ)) → now.now ≡ take n array → BothAsks p (Next now) u b (length (take n zeros)) n'
      unfolding Earlier moment_of joint
      next_asks now is = record {
        f_asks = record {
          ready = gains_ready both.gains;
          alike = s.alike;
          sized = zeros_sized;
          earlier = rw (is, after_front n fs size_f) (both.f_size, both.f_stand);
        };
        h_sized = s.size';
      }

      front : {now : Bor (List ℕ)} (u' : List ℕ) (c : Head) (fs' hs' : List ℕ) → Both p (Next now) u b u' c fs' hs' → FrontDone p w a u' c hs hs'
      unfolding front_trees moment_of
      front u' c fs' hs' k =
          let all : Gains x e (front_trees A B) u' c = gains_after both.gains k.gains in
          record {
            front = record {
              alike = s.alike;
              ready = gains_ready all;
              nodes = λ i lo hi. all.new i (omega (arith, s.empty.used)) hi;
              held = held_append (held_kept k.gains.keeps (both_held both)) (both_held k);
              now_stand = stand_kept k.gains.keeps both.h_stand;
              next_stand = k.h_stand;
              now_size = both.h_size;
              next_size = k.h_size;
            };
            counted = λ g groups. omega (arith, all.tally.most, s.empty.most, front_within p g groups (forgot_bare s.empty) u' c all);
            room = all.room ∙ s.empty.room;
            rest = all.rest ∙ s.empty.rest;
          }

      pub front_says : (now : Bor (List ℕ)) (u' : List ℕ) (c : Head) (fs' hs' : List ℕ) (z : Result (Unit {0}) Full) → BothSays p (Next now) u b u' c fs' hs' z → FrontSays p w a u' c hs hs' z
      unfolding BothSays FrontSays front_trees moment_of
      front_says now u' c fs' hs' (Ok done) k = front u' c fs' hs' k
      front_says now u' c fs' hs' (Err full) k = front_over u' c hs hs' full (misses_after both.gains k)

-- ## After a round is forgotten

pub front_again : (p : Pair) {w u x h h' : List ℕ} {a b c : Head} → Front p w a h h' → Holds w a u b → Forgets u b a.used x c → Front p x c h h'
front_again p {w} {u} {x} {a} {b} {c} front holds f =
    let kept : Keeps w a.used x c.used = rw f.used (record { more = omega arith; same = λ i l. f.same i l ∙ holds.keeps.same i l }) in
    record {
      alike = front.alike;
      ready = record { good = rw f.used f.good; tallied = omega (arith, f.used, f.most, holds.keeps.more, holds.ready.tallied) };
      nodes = λ i lo hi. let l : i < a.used + 2 = omega (arith, f.used) in rw (kept.same i l) (front.nodes i lo l);
      held = held_kept kept front.held;
      now_stand = stand_kept kept front.now_stand;
      next_stand = stand_kept kept front.next_stand;
      now_size = front.now_size;
      next_size = front.next_size;
    }
