-- Laws of the files of a call: the first that is refused ends it, and good ones go on with what they say. Assumes nothing.
use Rattle.std.specs.Prelude.{Result, Ok, Err, MatchResult, IsErrAnd}
use mathlib.Core.Path.{◌≡◌, sym, ap, ap₂, ◌∙◌}
use mathlib.Core.List.{List}
use Prim.Native.Nat.{ℕ, ◌+◌, ◌*◌, ◌≤◌}
use native.Mathlib.Omega.{arith}
use lib.ListN.{length, take}
use borrow.Author.Tests.{eq-eqb, ne_eqb}
use Rattle.arrayvec.specs.ArrayVec.{array_vec_len}
use Rattle.meaning.specs.Numbers.{max_signals}
use Rattle.meaning.specs.Sheet as paper
use Rattle.meaning.specs.Joint.{total}
use Rattle.meaning.specs.Answer.{Outcome, refuse, or_refuse, with_files}
use Rattle.promises.proofs.ReadProper.{read_proper}
use Rattle.promises.proofs.Calls.{some_joint}
use Rattle.answer.specs.declared.Fault.{Fault}
use Rattle.answer.specs.declared.File.TheVariants as file
use Rattle.answer.specs.declared.Refused.{Refused}
use Rattle.answer.specs.Meant.{refusal_of, file_of, answer_of, read_by, refused_in}
use Rattle.sheet.specs.declared.Sheet.{Sheet}
use Rattle.sheet.specs.Stored.{sheet_of, Whole}
use Rattle.sheet.specs.Reading.{Reads}
use Rattle.sheet.proofs.Whole.{length_signals, length_outputs}
use Rattle.sheet.proofs.Files.{reads_refused, reads_good, reads_whole}
use Rattle.sheet.proofs.Mapped.{mapped_err}
use Rattle.classes.specs.Grouping as classes
use Rattle.work.specs.declared.Pair.{Pair}
use Rattle.work.specs.Lists.{left, right, joint, Alike}
use Rattle.work.proofs.Front.{zeros, zeros_front, after, after_front}
use Rattle.correspond.specs.Verdicts.{Grouped}
use Rattle.yellopard.specs.Calls.{PairAsks, FilesAre, FilesEnd, unlike_at}

-- ## A call that ends with its files

module _ {a b p : List ℕ} where
  -- a sheet is refused
  pub ends_at_A : {e : Fault} → Reads a (Err e) → FilesEnd a b p (refused_in e file.A)
  unfolding with_files or_refuse refuse answer_of file_of
  ends_at_A q = record { always = λ next. rw (reads_refused q) }

  pub ends_at_B : {x : Sheet} → Reads a (Ok x) → {e : Fault} → Reads b (Err e) → FilesEnd a b p (refused_in e file.B)
  unfolding with_files or_refuse refuse answer_of file_of
  ends_at_B q t = record { always = λ next. rw (reads_good q, reads_refused t) }

-- ## Two files that say sheets

pub record TwoSheets (a b : List ℕ) (x y : Sheet) : Type 0 where
  pub read_a : paper.reading_of_sheet a ≡ paper.value (sheet_of x)
  pub read_b : paper.reading_of_sheet b ≡ paper.value (sheet_of y)
  pub whole_a : Whole x
  pub whole_b : Whole y

pub two_sheets : {a b : List ℕ} {x y : Sheet} → Reads a (Ok x) → Reads b (Ok y) → TwoSheets a b x y
two_sheets q t = record { read_a = reads_good q; read_b = reads_good t; whole_a = reads_whole q; whole_b = reads_whole t }

module _ {a b : List ℕ} {x y : Sheet} (t : TwoSheets a b x y) where
  -- the stored counts are those of the sheets that the files say
  inputs_a : paper.inputs (sheet_of x).signals ≡ x.inputs
  inputs_a = sym t.whole_a.kept.inputs

  inputs_b : paper.inputs (sheet_of y).signals ≡ y.inputs
  inputs_b = sym t.whole_b.kept.inputs

  outputs_a : length (sheet_of x).outputs ≡ array_vec_len x.outputs
  outputs_a = length_outputs x

  outputs_b : length (sheet_of y).outputs ≡ array_vec_len y.outputs
  outputs_b = length_outputs y

  signals_both : total (sheet_of x) (sheet_of y) ≡ array_vec_len x.signals + array_vec_len y.signals
  unfolding total
  signals_both = ap₂ ◌+◌ (length_signals x) (length_signals y)

  pub joint_few : array_vec_len x.signals + array_vec_len y.signals ≤ 2 * max_signals
  joint_few = omega (arith, t.whole_a.kept.few_signals, t.whole_b.kept.few_signals)

  pub pair_asks : x.inputs ≡ y.inputs → PairAsks x y
  pair_asks i = record {
    whole_a = t.whole_a;
    whole_b = t.whole_b;
    shown_a = omega (arith, outputs_a, (read_proper a (sheet_of x) t.read_a).some);
    shown_b = omega (arith, outputs_b, (read_proper b (sheet_of y) t.read_b).some);
    inputs = i;
  }

  module _ (p : List ℕ) where
    -- UNLIKE: other inputs, other outputs
    pub ends_with_inputs : (x.inputs ≡ y.inputs → ⊥) → FilesEnd a b p (unlike_at 0)
    unfolding with_files or_refuse refuse answer_of refusal_of file_of
    ends_with_inputs n = record { always = λ next. rw (t.read_a, t.read_b, inputs_a, inputs_b, ne_eqb x.inputs y.inputs n) }

    pub ends_with_outputs : x.inputs ≡ y.inputs → (array_vec_len x.outputs ≡ array_vec_len y.outputs → ⊥) → FilesEnd a b p (unlike_at 1)
    unfolding with_files or_refuse refuse answer_of refusal_of file_of
    ends_with_outputs i n = record {
      always = λ next. rw (t.read_a, t.read_b, inputs_a, inputs_b, eq-eqb x.inputs y.inputs i, outputs_a, outputs_b, ne_eqb (array_vec_len x.outputs) (array_vec_len y.outputs) n);
    }

    -- sheets that are alike go on with the grouping
    module _ (i : x.inputs ≡ y.inputs) (o : array_vec_len x.outputs ≡ array_vec_len y.outputs) where
      alike_on : (next : paper.Sheet → paper.Sheet → List ℕ → Outcome)
          → with_files a b p next ≡ or_refuse (file_of file.Grouping) (paper.reading_of_classes (array_vec_len x.signals + array_vec_len y.signals) p) (next (sheet_of x) (sheet_of y))
      unfolding with_files or_refuse file_of
      alike_on next =
          rw (
            t.read_a,
            t.read_b,
            inputs_a,
            inputs_b,
            eq-eqb x.inputs y.inputs i,
            outputs_a,
            outputs_b,
            eq-eqb (array_vec_len x.outputs) (array_vec_len y.outputs) o,
            signals_both,
          )

      -- what was read as a grouping, into the first places of the array of classes
      module _ (new : List ℕ) (r : Result Unit Fault) (q : classes.Grouped p (take (array_vec_len x.signals + array_vec_len y.signals) zeros) r new) where
        reading_is : read_by (λ _. new) r ≡ paper.reading_of_classes (array_vec_len x.signals + array_vec_len y.signals) p
        reading_is = q.reading ∙ ap (λ (n : ℕ). paper.reading_of_classes n p) (zeros_front _ joint_few)

        ends_at-grouping : {e : Fault} → r ≡ Err e → FilesEnd a b p (refused_in e file.Grouping)
        unfolding or_refuse refuse answer_of read_by
        ends_at-grouping e = record { always = λ next. rw (alike_on next, sym reading_is, e) }

        -- a fault was made the refusal of the call
        pub ends_with-grouping : (P : Fault → Refused → Type 0) {s : Result Unit Refused} → MatchResult r (λ done. s ≡ Ok done) (λ e. IsErrAnd s (P e))
            → ((e : Fault) (d : Refused) → P e d → d ≡ refused_in e file.Grouping) → {d : Refused} → s ≡ Err d → FilesEnd a b p d
        ends_with-grouping P {s} m h {d} e = let n = mapped_err P (λ x. refused_in x file.Grouping) h r s d m e in rw n.2 (ends_at-grouping n.1)

        goes_on : {done : Unit} → r ≡ Ok done → (next : paper.Sheet → paper.Sheet → List ℕ → Outcome) → with_files a b p next ≡ next (sheet_of x) (sheet_of y) new
        unfolding or_refuse read_by
        goes_on e next = rw (alike_on next, sym reading_is, e)

        -- the sheets stand ready beside the classes
        pub files_ready : {done : Unit} → r ≡ Ok done → length new ≡ array_vec_len x.signals + array_vec_len y.signals → (pair : Pair) → Alike pair × (pair.a ≡ x) × (pair.b ≡ y)
            → FilesAre a b p (record { pair = pair; signals = array_vec_len x.signals + array_vec_len y.signals; classes = after (array_vec_len x.signals + array_vec_len y.signals) new })
        unfolding left right joint
        files_ready e size pair made =
            let front : take (array_vec_len x.signals + array_vec_len y.signals) (after (array_vec_len x.signals + array_vec_len y.signals) new) ≡ new = after_front (array_vec_len x.signals + array_vec_len y.signals) new size in
            let all : array_vec_len x.signals + array_vec_len y.signals ≡ joint pair = rw (made.1, made.2) (sym signals_both) in
            let grouped : Grouped pair (take (array_vec_len x.signals + array_vec_len y.signals) (after (array_vec_len x.signals + array_vec_len y.signals) new)) = record {
              alike = made.0;
              some = rw (made.1, made.2) (some_joint a (sheet_of x) (sheet_of y) t.read_a);
              outputs = rw (made.1, made.2) o;
              size = ap length front ∙ size ∙ all;
            } in
            record { prepared = record { grouped = grouped; count = all }; onward = λ next. rw (front, made.1, made.2) (goes_on e next) }
