-- END: AFTER, NO OUTPUT, DANGLING, as the paper says. Assumes nothing.
use mathlib.Core.Path.{◌≡◌, ◌∙◌}
use mathlib.Core.List.{List, [], ◌∷◌}
use Prim.Native.Nat.{ℕ, ◌+◌, ◌≤◌, ◌<◌}
use native.Mathlib.Numerals.{add-one}
use native.Mathlib.Omega.{arith}
use lib.ListN.{length}
use borrow.Author.Tests.{eq-eqb, ne_eqb}
use Rattle.std.specs.Prelude.{Ok, Err}
use Rattle.arrayvec.specs.ArrayVec.{array_vec_len}
use Rattle.meaning.specs.Sheet as paper
use Rattle.answer.specs.Meant.{refusal_of, read_by}
use Rattle.answer.specs.declared.Refusal.TheVariants.{After, NoOutput, Dangling}
use Rattle.sheet.specs.declared.reader.Part.{Part}
use Rattle.sheet.specs.Stored.{sheet_of}
use Rattle.sheet.specs.Record.{part_of}
use Rattle.sheet.specs.Part.{name_at, names_of, KeptPart, part_is, Ended}
use Rattle.sheet.proofs.Dangling.{Walk, walk_found, walk_end, walk_whole}
use Rattle.sheet.proofs.Whole.{length_signals, length_outputs}

module _ (p : Part) (at size : ℕ) where
  after_is : at + 1 < size → (rest : List ℕ) → at + 1 + length rest ≡ size
      → read_by sheet_of (Err (record { refusal = After; at = at + 1 })) ≡ paper.ending (part_is p) at rest
  unfolding paper.ending read_by refusal_of
  after_is l [] e = absurd (omega arith)
  after_is l (x ∷ rest) e = rw add-one

  pub ended_after : at + 1 < size → Ended p at size (Err (record { refusal = After; at = at + 1 }))
  ended_after l = record { is = after_is l; whole = λ s e. cc }

  module _ (l : size ≤ at + 1) where
    none_is : array_vec_len p.sheet.outputs ≡ 0 → (rest : List ℕ) → at + 1 + length rest ≡ size
        → read_by sheet_of (Err (record { refusal = NoOutput; at = at })) ≡ paper.ending (part_is p) at rest
    unfolding paper.ending read_by refusal_of part_is part_of
    none_is o (x ∷ rest) e = absurd (omega arith)
    none_is o [] e = rw (length_outputs p.sheet, eq-eqb _ _ o)

    pub ended_none : array_vec_len p.sheet.outputs ≡ 0 → Ended p at size (Err (record { refusal = NoOutput; at = at }))
    ended_none o = record { is = none_is o; whole = λ s e. cc }

    module _ (o : array_vec_len p.sheet.outputs ≡ 0 → ⊥) where
      named_is : (rest : List ℕ) → at + 1 + length rest ≡ size
          → paper.named (array_vec_len p.sheet.signals) (names_of p) (sheet_of p.sheet) ≡ paper.ending (part_is p) at rest
      unfolding paper.ending part_is part_of sheet_of
      named_is (x ∷ rest) e = absurd (omega arith)
      named_is [] e = rw (length_outputs p.sheet, ne_eqb _ _ o, length_signals p.sheet)

      module _ {i : ℕ} (v : Walk p i) where
        pub ended_dangling : i < array_vec_len p.naming → array_vec_len p.sheet.signals ≤ (name_at p i).signal
            → Ended p at size (Err (record { refusal = Dangling; at = (name_at p i).at }))
        unfolding read_by refusal_of
        ended_dangling h g = record { is = λ rest e. walk_found v h g (sheet_of p.sheet) ∙ named_is rest e; whole = λ s q. cc }

        pub ended_good : KeptPart p → array_vec_len p.naming ≤ i → Ended p at size (Ok p.sheet)
        unfolding read_by
        ended_good w h = record {
          is = λ rest e. walk_end v h (sheet_of p.sheet) ∙ named_is rest e;
          whole = λ s q. let same : p.sheet ≡ s = cc in rw (← same) (walk_whole v h w);
        }
