-- One more record: what has been read is then the paper's part with that record added. Assumes nothing.
use mathlib.Core.Path.{◌≡◌, refl, ap, ◌∙◌}
use mathlib.Core.Bool.{false}
use mathlib.Core.List.{[], ◌∷◌, ◌++◌, map-append}
use Prim.Native.Nat.{ℕ, ◌<◌}
use native.Mathlib.Omega.{arith}
use lib.Dec.{eqb}
use lib.ListN.{get_or-append}
use lib.Seq.{get_or-append_seam}
use borrow.Author.Tests.{ne_eqb}
use Rattle.arrayvec.specs.ArrayVec.{array_vec_len}
use Rattle.meaning.specs.Numbers.{REGISTER, OUTPUT, max_outputs}
use Rattle.meaning.specs.Sheet as paper
use Rattle.sheet.specs.declared.kind.Kind.{Kind}
use Rattle.sheet.specs.declared.kind.Kind.TheVariants.{Input, Register, Not, And, Or, Xor}
use Rattle.sheet.specs.declared.Signal.{Signal}
use Rattle.sheet.specs.declared.Output.{Output}
use Rattle.sheet.specs.declared.Sheet.{Sheet}
use Rattle.sheet.specs.declared.record.Record.TheVariants as says
use Rattle.sheet.specs.declared.reader.Part.{Part}
use Rattle.sheet.specs.Stored.{number_of_kind, signal_of, output_of, sheet_of, nth_signal, nth_output}
use Rattle.sheet.specs.Record.{part_of, Fits}
use Rattle.sheet.specs.Part.{sheet_with_signal, sheet_with_output, max_names, empty_part, part_with_sheet, part_with_name, name_of, names_of, Among, KeptPart, part_is, Added}
use Rattle.sheet.proofs.Right.{number_same}
use Rattle.sheet.proofs.Whole.{empty_kept}
use Rattle.sheet.proofs.Grows.{length_more, each_more, signals_snoc, signal_kept, outputs_snoc, output_kept}

-- ## Nothing has been read

pub part_empty : KeptPart empty_part
part_empty = record {
  sheet = empty_kept;
  names = refl;
  sources = λ i h. absurd (omega arith);
  shown = λ i h. absurd (omega arith);
}

pub nothing_yet : paper.part_of_nothing ≡ part_is empty_part
unfolding paper.part_of_nothing part_is part_of sheet_of names_of
nothing_yet = refl

-- ## Names

module _ (p : Part) (s : Sheet) (at signal : ℕ) where
  pub names_snoc : names_of (part_with_name p s at signal) ≡ names_of p ++ ((at, signal) ∷ [])
  unfolding names_of name_of
  names_snoc = map-append name_of p.naming.items (record { at = at; signal = signal } ∷ [])

  among_old : (x : ℕ) → Among p x → Among (part_with_name p s at signal) x
  among_old x m = record {
    place = m.place;
    used = omega (arith, m.used, length_more p.naming.items (record { at = at; signal = signal }));
    here = ap (λ (n : _). n.signal) (get_or-append p.naming.items (record { at = at; signal = signal } ∷ []) _ m.place m.used) ∙ m.here;
  }

  among_new : Among (part_with_name p s at signal) signal
  among_new = record {
    place = array_vec_len p.naming;
    used = omega (arith, length_more p.naming.items (record { at = at; signal = signal }));
    here = ap (λ (n : _). n.signal) (get_or-append_seam p.naming.items (record { at = at; signal = signal }) [] _);
  }

no_output : (k : Kind) → eqb (number_of_kind k) OUTPUT ≡ false
no_output Input = refl
no_output Register = refl
no_output Not = refl
no_output And = refl
no_output Or = refl
no_output Xor = refl

-- ## The ways in which a record is added

module _ {p : Part} (w : KeptPart p) where
  abbrev s : Sheet
  s = p.sheet

  module _ (o : Output) (few : array_vec_len s.outputs < max_outputs) where
    pub output_names : array_vec_len p.naming < max_names
    output_names = omega (arith, w.names, w.sheet.few_registers)

    abbrev with_output : ℕ → Part
    with_output at = part_with_name p (sheet_with_output s o) at o.signal

    output_is : (at : ℕ) → part_is (with_output at) ≡ paper.add (part_is p) at OUTPUT o.pin o.signal
    unfolding part_is part_of paper.add sheet_of output_of
    output_is at = rw (names_snoc p (sheet_with_output s o) at o.signal, outputs_snoc s o w.sheet few)

    pub added_output : (at : ℕ) → Added p at (says.Output o) (with_output at)
    added_output at = record {
      is = output_is at;
      kept = record {
        sheet = output_kept s o w.sheet few;
        names = omega (arith, w.names, length_more p.naming.items (record { at = at; signal = o.signal }), length_more s.outputs.items o);
        sources = λ i h e. among_old p (sheet_with_output s o) at o.signal (nth_signal s i).b (w.sources i h e);
        shown =
            each_more s.outputs.items o (λ (i : ℕ) (y : Output). Among (with_output at) y.signal) _
            (λ i h. among_old p (sheet_with_output s o) at o.signal (nth_output s i).signal (w.shown i h))
            (among_new p (sheet_with_output s o) at o.signal);
      };
    }

  module _ (x : Signal) (f : Fits s x) where
    -- a signal of another kind than Register names none
    module _ (r : x.kind ≡ Register → ⊥) where
      abbrev with_gate : Part
      with_gate = part_with_sheet p (sheet_with_signal s x)

      no_register : eqb (number_of_kind x.kind) REGISTER ≡ false
      no_register = ne_eqb (number_of_kind x.kind) REGISTER (λ e. r (number_same x.kind Register e))

      gate_is : (at : ℕ) → part_is with_gate ≡ paper.add (part_is p) at (number_of_kind x.kind) x.a x.b
      unfolding part_is part_of names_of paper.add sheet_of signal_of
      gate_is at = rw (no_output x.kind, no_register, signals_snoc s x w.sheet f)

      pub added-gate : (at : ℕ) → Added p at (says.Signal x) with_gate
      added-gate at = record {
        is = gate_is at;
        kept = record {
          sheet = signal_kept s x w.sheet f;
          names = rw no_register (omega (arith, w.names));
          sources =
              each_more s.signals.items x (λ (i : ℕ) (y : Signal). y.kind ≡ Register → Among with_gate y.b) _
              (λ i h e. let m = w.sources i h e in record { place = m.place; used = m.used; here = m.here })
              (λ e. absurd (r e));
          shown = λ i h. let m = w.shown i h in record { place = m.place; used = m.used; here = m.here };
        };
      }

    module _ (r : x.kind ≡ Register) where
      pub register_names : array_vec_len p.naming < max_names
      register_names = omega (arith, w.names, w.sheet.few_outputs, f.register r)

      abbrev with_register : ℕ → Part
      with_register at = part_with_name p (sheet_with_signal s x) at x.b

      register_is : (at : ℕ) → part_is (with_register at) ≡ paper.add (part_is p) at (number_of_kind x.kind) x.a x.b
      unfolding part_is part_of paper.add sheet_of signal_of
      register_is at = rw (names_snoc p (sheet_with_signal s x) at x.b, signals_snoc s x w.sheet f, r)

      pub added-register : (at : ℕ) → Added p at (says.Signal x) (with_register at)
      added-register at = record {
        is = register_is at;
        kept = record {
          sheet = signal_kept s x w.sheet f;
          names = rw r (omega (arith, w.names, length_more p.naming.items (record { at = at; signal = x.b })));
          sources =
              each_more s.signals.items x (λ (i : ℕ) (y : Signal). y.kind ≡ Register → Among (with_register at) y.b) _
              (λ i h e. among_old p (sheet_with_signal s x) at x.b (nth_signal s i).b (w.sources i h e))
              (λ e. among_new p (sheet_with_signal s x) at x.b);
          shown = λ i h. among_old p (sheet_with_signal s x) at x.b (nth_output s i).signal (w.shown i h);
        };
      }
