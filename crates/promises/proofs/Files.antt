-- What a call on files answers, exactly, from what it answers when the files are read. Assumes nothing.
use mathlib.Core.Path.{◌≡◌, refl, sym}
use mathlib.Core.Bool.{true}
use mathlib.Core.List.{List}
use Prim.Native.Nat.{ℕ}
use lib.ListN.{length}
use lib.Dec.{eqb}
use borrow.Author.Tests.{eqb-true, eqb-false, eq-eqb, ne_eqb}
use Rattle.meaning.specs.Sheet.{Sheet, Read, refused, value, inputs, reading_of_sheet, reading_of_classes}
use Rattle.meaning.specs.Joint.{total}
use Rattle.meaning.specs.Answer.{Answer, Outcome, silent, refuse, or_refuse, with_files}
use Rattle.laws.proofs.Basic.{case_bool}
use Rattle.promises.specs.Calls.{Files, FilesSay, a_refused, b_refused, unlike_inputs, unlike_outputs, p_refused, onward}

module _ (a b p : List ℕ) (next : Sheet → Sheet → List ℕ → Outcome) (Says : Sheet → Sheet → List ℕ → Answer → Type 0) where
  pub files_say : ((A B : Sheet) (g : List ℕ) → Files a b p A B g → Says A B g (next A B g).answer)
      → FilesSay a b p Says (with_files a b p next).answer
  unfolding with_files or_refuse refuse silent
  files_say h = go (reading_of_sheet a) (reading_of_sheet b) refl refl
    where
      go : (ra rb : Read Sheet) → reading_of_sheet a ≡ ra → reading_of_sheet b ≡ rb → FilesSay a b p Says (with_files a b p next).answer
      go (refused k at) rb pa pb = a_refused k at pa (rw pa)
      go (value A) (refused k at) pa pb = b_refused A k at pa pb (rw (pa, pb))
      go (value A) (value B) pa pb = case_bool (eqb (inputs A.signals) (inputs B.signals))
          (λ t. case_bool (eqb (length A.outputs) (length B.outputs))
          (λ u. last (reading_of_classes (total A B) p) refl t u)
          (λ u. unlike_outputs A B pa pb (eqb-true _ _ t) (eqb-false _ _ u) (rw (pa, pb, t, u))))
          (λ t. unlike_inputs A B pa pb (eqb-false _ _ t) (rw (pa, pb, t)))
        where
          last : (rp : Read (List ℕ)) → reading_of_classes (total A B) p ≡ rp → eqb (inputs A.signals) (inputs B.signals) ≡ true
              → eqb (length A.outputs) (length B.outputs) ≡ true → FilesSay a b p Says (with_files a b p next).answer
          last (refused k at) pp t u = p_refused A B pa pb (eqb-true _ _ t) (eqb-true _ _ u) k at pp (rw (pa, pb, t, u, pp))
          last (value g) pp t u =
              let fs : Files a b p A B g = record { read_a = pa; read_b = pb; like_inputs = eqb-true _ _ t; like_outputs = eqb-true _ _ u; read_p = pp } in
              onward A B g fs (rw (pa, pb, t, u, pp) (h A B g fs))

  pub files_only : ((A B : Sheet) (g : List ℕ) → Files a b p A B g → (x : Answer) → Says A B g x → (next A B g).answer ≡ x)
      → (x : Answer) → FilesSay a b p Says x → (with_files a b p next).answer ≡ x
  unfolding with_files or_refuse refuse silent
  files_only h x (a_refused k at pa e) = rw pa (sym e)
  files_only h x (b_refused A k at pa pb e) = rw (pa, pb) (sym e)
  files_only h x (unlike_inputs A B pa pb n e) = rw (pa, pb, ne_eqb (inputs A.signals) (inputs B.signals) n) (sym e)
  files_only h x (unlike_outputs A B pa pb i n e) =
      rw (pa, pb, eq-eqb (inputs A.signals) (inputs B.signals) i, ne_eqb (length A.outputs) (length B.outputs) n) (sym e)
  files_only h x (p_refused A B pa pb i o k at pp e) =
      rw (pa, pb, eq-eqb (inputs A.signals) (inputs B.signals) i, eq-eqb (length A.outputs) (length B.outputs) o, pp) (sym e)
  files_only h x (onward A B g fs s) =
      rw (
        fs.read_a,
        fs.read_b,
        eq-eqb (inputs A.signals) (inputs B.signals) fs.like_inputs,
        eq-eqb (length A.outputs) (length B.outputs) fs.like_outputs,
        fs.read_p,
      ) (h A B g fs x s)
