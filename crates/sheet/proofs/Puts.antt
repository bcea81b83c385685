-- Putting the records of a list into a buffer, one after the other. Assumes nothing.
use mathlib.Core.Path.{◌≡◌, refl, ap, ◌∙◌}
use mathlib.Core.List.{List, [], ◌∷◌, ◌++◌, append_assoc}
use Prim.Native.Nat.{ℕ, suc, ◌+◌, ◌-◌, ◌≤◌, ◌<◌}
use native.Mathlib.Omega.{arith}
use borrow.Rule.Slice.PartMut.{put_mid}
use lib.ListN.{length, get_or, take, set, length-append}
use lib.Seq.{sets, sets-eq, length-sets, take_all, drop-drop}
use Rattle.meaning.specs.Basic.{concat_map}
use Rattle.sheet.specs.Writing.{Put}
use Rattle.sheet.proofs.Bytes.{concat_more, concat_part}

-- bytes after bytes
sets-append : (old : List ℕ) (at : ℕ) (u v : List ℕ) → sets (sets old at u) (at + length u) v ≡ sets old at (u ++ v)
sets-append old at [] v = ap (λ (n : ℕ). sets old n v) (omega arith)
sets-append old at (x ∷ u) v =
    ap (λ (n : ℕ). sets (sets (set old at x) (suc at) u) n v) (omega arith) ∙ sets-append (set old at x) (suc at) u v

pub put_append : {old u mid v new : List ℕ} {at next last : ℕ} → Put old at u mid next → Put mid next v new last → Put old at (u ++ v) new last
put_append {old} {u} {mid} {v} {new} {at} p q = record {
  result = q.result ∙ rw (p.result, p.after, sets-append old at u v);
  after = omega (arith, p.after, q.after, length-append u v);
}

pub put_length : {old u new : List ℕ} {at next : ℕ} → Put old at u new next → length new ≡ length old
put_length {old} {u} {new} {at} p = ap length p.result ∙ length-sets old at u

-- bytes that are copied to an offset
pub put_copied : (old : List ℕ) (at : ℕ) (bytes mid : List ℕ) → mid ≡ bytes → at + length bytes ≤ length old
    → Put old at bytes (put_mid at (at + length bytes - at) old mid) (at + length bytes)
put_copied old at bytes mid e h =
    let n : at + length bytes - at ≡ length bytes = omega arith in
    record { result = rw (e, n, drop-drop, sets-eq bytes old at h, append_assoc); after = refl }

-- ## The first i records of a list have been put

pub record Puts {A : Type 0} (f : A → List ℕ) (l : List A) (old : List ℕ) (start i : ℕ) (new : List ℕ) (at : ℕ) : Type 0 where
  pub within : i ≤ length l
  pub put : Put old start (concat_map f (take i l)) new at

module _ {A : Type 0} {f : A → List ℕ} {l : List A} {old : List ℕ} {start : ℕ} where
  pub puts_none : Puts f l old start 0 old start
  unfolding concat_map
  puts_none = record { within = omega arith; put = record { result = refl; after = omega arith } }

  module _ {i : ℕ} {new : List ℕ} {at : ℕ} (p : Puts f l old start i new at) where
    pub puts_end : length l ≤ i → Put old start (concat_map f l) new at
    puts_end h = rw (take_all i l h) at p.put

    module _ {bytes : List ℕ} (d : A) (h : i < length l) (e : bytes ≡ f (get_or l i d)) where
      pub puts_more : {newer : List ℕ} {next : ℕ} → Put new at bytes newer next → Puts f l old start (i + 1) newer next
      puts_more q = record {
        within = omega arith;
        put = rw (concat_more f l i d h, ← e) (put_append p.put q);
      }

      pub puts_room : start + length (concat_map f l) ≤ length old → at + length bytes ≤ length new
      puts_room room =
          omega (
            arith,
            p.put.after,
            put_length p.put,
            ap length (concat_more f l i d h),
            length-append (concat_map f (take i l)) (f (get_or l i d)),
            ap length e,
            concat_part f l (i + 1),
          )
