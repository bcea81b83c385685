-- Laws of the loop over the rounds. Assumes nothing.
use mathlib.Core.Path.{◌≡◌, refl, sym, ap, ◌∙◌}
use mathlib.Core.List.{List}
use Prim.Native.Nat.{ℕ, ◌+◌, ◌≤◌, ◌<◌}
use native.Mathlib.Omega.{arith}
use native.Mathlib.Numerals.{add-one}
use lib.ListN.{length}
use Rattle.std.specs.Prelude.{Ok, Err}
use Rattle.meaning.specs.Joint.{T}
use Rattle.promises.proofs.Groups.{length-grouping}
use Rattle.diagram.specs.Words.{room_of}
use Rattle.diagram.specs.declared.Full.{Full}
use Rattle.diagram.specs.declared.Head.{Head}
use Rattle.work.specs.declared.Pair.{Pair}
use Rattle.work.specs.Lists.{left, right, joint}
use Rattle.work.specs.Stages.{Front}
use Rattle.correspond.specs.declared.Round.TheVariants.{Stays, Splits}
use Rattle.correspond.specs.Rounds.{Running}
use Rattle.correspond.specs.Verdicts.{Lent, out_of_room, next_of, RoundSays, SettledFrom, SettleSays}
use Rattle.correspond.proofs.Verdicts.{lent_after}
use Rattle.correspond.proofs.Rounds.{running_more, running-settled, running_few, running_over}

-- r rounds have been worked on g₀ with the words w and the head a, and the table has the front again
pub record Settling (p : Pair) (h h' g₀ w : List ℕ) (a : Head) (t g : List ℕ) (b : Head) (r : ℕ) : Type 0 where
  pub size : length g ≡ length g₀
  pub lent : Lent w t
  pub front : Front p t b h h'
  pub run : (proposal : List ℕ) → g₀ ≡ T (left p) (right p) proposal 0 → Running (room_of w) a.most (left p) (right p) proposal r g b.most

module _ {p : Pair} {h h' g₀ w : List ℕ} {a : Head} where
  module _ {t g : List ℕ} {hd : Head} {r : ℕ} (s : Settling p h h' g₀ w a t g hd r) {t' : List ℕ} {b : Head} {g' : List ℕ} where
    pub settling_next : 0 < joint p → length g₀ ≡ joint p → RoundSays p h h' g t hd t' b g' (Ok Splits) → Settling p h h' g₀ w a t' g' b (r + 1)
    unfolding RoundSays next_of joint
    settling_next pos long x = record {
      size = ap length x.2 ∙ simp length-grouping (sym long);
      lent = lent_after s.lent x.0.lent;
      front = x.3;
      run = λ proposal q. rw (x.2, x.0.most, add-one r)
          (running_more (room_of w) a.most (left p) (right p) proposal r g hd.most (s.run proposal q)
          (omega (arith, x.0.fits, s.lent.room)) x.1);
    }

    pub settling_stays : RoundSays p h h' g t hd t' b g' (Ok Stays) → SettleSays p g₀ w a t' b g' (Ok r)
    unfolding RoundSays next_of joint SettledFrom
    settling_stays x = record {
      lent = lent_after s.lent x.0.lent;
      size = ap length x.2 ∙ s.size;
      from = λ proposal q start base. (
        rw x.0.most (running-settled (room_of w) a.most (left p) (right p) proposal r g hd.most (s.run proposal q) start (rw q at base)
            (omega (arith, x.0.fits, s.lent.room)) x.1),
        x.2 ∙ (s.run proposal q).grouping,
      );
    }

    pub settling_over : 0 < joint p → (full : Full) → RoundSays p h h' g t hd t' b g' (Err full) → SettleSays p g₀ w a t' b g' (Err (out_of_room (r + 1)))
    unfolding RoundSays joint SettledFrom
    settling_over pos full x = record {
      lent = lent_after s.lent x.1;
      size = ap length x.2 ∙ s.size;
      from = λ proposal q start base. (
        r,
        refl,
        running_over (room_of w) a.most (left p) (right p) proposal r g hd.most (s.run proposal q) pos (omega (arith, x.0, s.lent.room)),
      );
    }

  -- the rounds are fewer than the signals
  pub settling_past : {t g : List ℕ} {hd : Head} {r : ℕ} → Settling p h h' g₀ w a t g hd r → 0 < joint p → length g₀ ≡ joint p → length g₀ ≤ r
      → (n : ℕ) → SettleSays p g₀ w a t hd g (Ok n)
  unfolding joint
  settling_past {g = g} {hd} {r} s pos long l n = record {
    lent = s.lent;
    size = s.size;
    from = λ proposal q start base. absurd (omega (arith, long, running_few (room_of w) a.most (left p) (right p) proposal r g hd.most (s.run proposal q) pos));
  }
