-- DANGLING: the walk over the records that name a signal, up to the first that names none of the sheet's. Assumes nothing.
use mathlib.Core.Path.{◌≡◌, refl, sym, ap, ◌∙◌, subst}
use mathlib.Core.List.{◌∷◌}
use Prim.Native.Nat.{ℕ, suc, ◌+◌, ◌≤◌, ◌<◌}
use native.Mathlib.Numerals.{add-one}
use native.Mathlib.Omega.{arith}
use lib.ListN.{length, drop, length-map, drop_of_length-le}
use lib.Seq.{drop-cons}
use borrow.Author.Count.{below_more}
use borrow.Author.Tests.{lt-ltb, le-ltb}
use Rattle.std.proofs.lemmas.List.{get_or-map}
use Rattle.arrayvec.specs.ArrayVec.{array_vec_len}
use Rattle.meaning.specs.Numbers.{DANGLING}
use Rattle.meaning.specs.Sheet as paper
use Rattle.sheet.specs.declared.reader.Part.{Part}
use Rattle.sheet.specs.Stored.{Whole}
use Rattle.sheet.specs.Part.{no_name, name_of, names_of, name_at, Among, KeptPart}

-- the first i records name signals of the sheet
pub record Walk (p : Part) (i : ℕ) : Type 0 where
  pub within : i ≤ array_vec_len p.naming
  pub below : (j : ℕ) → j < i → (name_at p j).signal < array_vec_len p.sheet.signals
  pub same : (s : paper.Sheet) → paper.named (array_vec_len p.sheet.signals) (drop i (names_of p)) s ≡ paper.named (array_vec_len p.sheet.signals) (names_of p) s

module _ (p : Part) where
  length_names : length (names_of p) ≡ array_vec_len p.naming
  unfolding names_of
  length_names = length-map p.naming.items name_of

  next_name : (i : ℕ) → i < array_vec_len p.naming → drop i (names_of p) ≡ ((name_at p i).at, (name_at p i).signal) ∷ drop (suc i) (names_of p)
  unfolding names_of name_of
  next_name i h =
      drop-cons (names_of p) i (0, 0) (omega (arith, length_names))
      ∙ ap (λ (x : ℕ × ℕ). x ∷ drop (suc i) (names_of p)) (get_or-map name_of p.naming.items i no_name (0, 0) h)

module _ {p : Part} where
  pub walk_start : Walk p 0
  walk_start = record { within = omega arith; below = λ j h. absurd (omega arith); same = λ s. refl }

  module _ {i : ℕ} (v : Walk p i) where
    module _ (h : i < array_vec_len p.naming) where
      pub walk_more : (name_at p i).signal < array_vec_len p.sheet.signals → Walk p (i + 1)
      unfolding paper.named
      walk_more g = record {
        within = omega arith;
        below = below_more _ _ v.below g;
        same = λ s. rw add-one (sym (rw (next_name p i h, lt-ltb _ _ g)) ∙ v.same s);
      }

      pub walk_found : array_vec_len p.sheet.signals ≤ (name_at p i).signal → (s : paper.Sheet) → paper.refused DANGLING (name_at p i).at ≡ paper.named (array_vec_len p.sheet.signals) (names_of p) s
      unfolding paper.named
      walk_found g s = sym (rw (next_name p i h, le-ltb _ _ g)) ∙ v.same s

    module _ (h : array_vec_len p.naming ≤ i) where
      pub walk_end : (s : paper.Sheet) → paper.value s ≡ paper.named (array_vec_len p.sheet.signals) (names_of p) s
      unfolding paper.named
      walk_end s = sym (rw (drop_of_length-le (names_of p) {i = i} (omega (arith, length_names p)))) ∙ v.same s

      named : (x : ℕ) → Among p x → x < array_vec_len p.sheet.signals
      named x m = subst (λ (y : ℕ). y < array_vec_len p.sheet.signals) m.here (v.below m.place (omega (arith, m.used)))

      pub walk_whole : KeptPart p → Whole p.sheet
      walk_whole w = record {
        kept = w.sheet;
        sources = λ j b r. named _ (w.sources j b r);
        shown = λ j b. named _ (w.shown j b);
      }
